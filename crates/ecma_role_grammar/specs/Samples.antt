-- Some programs by their tokens: the text stands above each; `x` stands for any name but the words that the grammar tells apart
use Rattle.std.specs.Prelude.{true, false, List, [], ◌∷◌}
use Rattle.ecma_word.specs.declared.keyword.Keyword.{Keyword}
use Rattle.ecma_word.specs.declared.keyword.Keyword.TheVariants as keyword
use Rattle.ecma_word.specs.declared.word.WordKind.TheVariants as word
use Rattle.ecma_word.specs.declared.word.IdentKind.TheVariants as ident
use Rattle.ecma_word.specs.declared.operator.BinOpToken.TheVariants as binary
use Rattle.ecma_word.specs.declared.operator.AssignOp.TheVariants as assigning
use Rattle.ecma_token_kind.specs.declared.kind.TokenKind.{TokenKind}
use Rattle.ecma_token_kind.specs.declared.kind.TokenKind.TheVariants as kind
use Rattle.ecma_role_grammar.specs.Tokens.{Token, token}
use Rattle.ecma_role_grammar.specs.Grammar.{as_word, async, from, of, reserved}

-- any name
abbrev pub x : Token
x = token (kind.Word (word.Ident ident.Other)) false

-- a token that no line terminator stands before
abbrev pub is : TokenKind → Token
is kind = token kind false

abbrev pub said : Keyword → Token
said keyword = reserved keyword false

abbrev pub equals : Token
equals = is (kind.AssignOp assigning.Assign)

abbrev pub divided : Token
divided = is (kind.BinOp binary.Div)

-- x = x / x;
abbrev pub quotient : List Token
quotient = x ∷ equals ∷ x ∷ divided ∷ x ∷ is kind.Semi ∷ []

-- x = /re/.x(x) / x;
abbrev pub match_divided : List Token
match_divided = x ∷ equals ∷ is kind.Regex ∷ is kind.Dot ∷ x ∷ is kind.LParen ∷ x ∷ is kind.RParen ∷ divided ∷ x ∷ is kind.Semi ∷ []

-- x++ / x;
abbrev pub postfix_divided : List Token
postfix_divided = x ∷ is kind.PlusPlus ∷ divided ∷ x ∷ is kind.Semi ∷ []

-- if (x) /re/.x(x);
abbrev pub regex_behind_head : List Token
regex_behind_head = said keyword.If ∷ is kind.LParen ∷ x ∷ is kind.RParen ∷ is kind.Regex ∷ is kind.Dot ∷ x ∷ is kind.LParen ∷ x ∷ is kind.RParen ∷ is kind.Semi ∷ []

-- x(x) / x;
abbrev pub call_divided : List Token
call_divided = x ∷ is kind.LParen ∷ x ∷ is kind.RParen ∷ divided ∷ x ∷ is kind.Semi ∷ []

-- { } /re/.x(x);
abbrev pub regex_behind_block : List Token
regex_behind_block = is kind.LBrace ∷ is kind.RBrace ∷ is kind.Regex ∷ is kind.Dot ∷ x ∷ is kind.LParen ∷ x ∷ is kind.RParen ∷ is kind.Semi ∷ []

-- x = { x: /re/ } / x;
abbrev pub object_divided : List Token
object_divided = x ∷ equals ∷ is kind.LBrace ∷ x ∷ is kind.Colon ∷ is kind.Regex ∷ is kind.RBrace ∷ divided ∷ x ∷ is kind.Semi ∷ []

-- x = function () { return /re/; } / x;
abbrev pub function_divided : List Token
function_divided = x ∷ equals ∷ said keyword.Function ∷ is kind.LParen ∷ is kind.RParen ∷ is kind.LBrace ∷ said keyword.Return ∷ is kind.Regex ∷ is kind.Semi ∷ is kind.RBrace ∷ divided ∷ x ∷ is kind.Semi ∷ []

-- async function* x() { yield /re/; await /re/; }
abbrev pub async_generator : List Token
async_generator = async false ∷ said keyword.Function ∷ is (kind.BinOp binary.Mul) ∷ x ∷ is kind.LParen ∷ is kind.RParen ∷ is kind.LBrace ∷ said keyword.Yield ∷ is kind.Regex ∷ is kind.Semi ∷ said keyword.Await ∷ is kind.Regex ∷ is kind.Semi ∷ is kind.RBrace ∷ []

-- x = x ? x => x / x : /re/;
abbrev pub arrow_in_conditional : List Token
arrow_in_conditional = x ∷ equals ∷ x ∷ is kind.QuestionMark ∷ x ∷ is kind.Arrow ∷ x ∷ divided ∷ x ∷ is kind.Colon ∷ is kind.Regex ∷ is kind.Semi ∷ []

-- for (const x of /re/.x(x)) x /= x;
abbrev pub loop_over_matches : List Token
loop_over_matches = said keyword.For ∷ is kind.LParen ∷ said keyword.Const ∷ x ∷ of false ∷ is kind.Regex ∷ is kind.Dot ∷ x ∷ is kind.LParen ∷ x ∷ is kind.RParen ∷ is kind.RParen ∷ x ∷ is (kind.AssignOp assigning.DivAssign) ∷ x ∷ is kind.Semi ∷ []

-- class x { x = x / x; x() { return /re/; } } /re/.x;
abbrev pub class_and_regex : List Token
class_and_regex = said keyword.Class ∷ x ∷ is kind.LBrace ∷ x ∷ equals ∷ x ∷ divided ∷ x ∷ is kind.Semi ∷ x ∷ is kind.LParen ∷ is kind.RParen ∷ is kind.LBrace ∷ said keyword.Return ∷ is kind.Regex ∷ is kind.Semi ∷ is kind.RBrace ∷ is kind.RBrace ∷ is kind.Regex ∷ is kind.Dot ∷ x ∷ is kind.Semi ∷ []

-- x: switch (x) { case /re/: x / x; default: /re/; }
abbrev pub labelled_switch : List Token
labelled_switch = x ∷ is kind.Colon ∷ said keyword.Switch ∷ is kind.LParen ∷ x ∷ is kind.RParen ∷ is kind.LBrace ∷ said keyword.Case ∷ is kind.Regex ∷ is kind.Colon ∷ x ∷ divided ∷ x ∷ is kind.Semi ∷ said keyword.Default_ ∷ is kind.Colon ∷ is kind.Regex ∷ is kind.Semi ∷ is kind.RBrace ∷ []

-- x = `re${x / x}re` / x;
abbrev pub template_divided : List Token
template_divided = x ∷ equals ∷ is kind.BackQuote ∷ is kind.Template ∷ is kind.DollarLBrace ∷ x ∷ divided ∷ x ∷ is kind.RBrace ∷ is kind.Template ∷ is kind.BackQuote ∷ divided ∷ x ∷ is kind.Semi ∷ []

-- do x /= x; while (x); /re/.x(x);
abbrev pub regex_behind_loop : List Token
regex_behind_loop = said keyword.Do ∷ x ∷ is (kind.AssignOp assigning.DivAssign) ∷ x ∷ is kind.Semi ∷ said keyword.While ∷ is kind.LParen ∷ x ∷ is kind.RParen ∷ is kind.Semi ∷ is kind.Regex ∷ is kind.Dot ∷ x ∷ is kind.LParen ∷ x ∷ is kind.RParen ∷ is kind.Semi ∷ []

-- x = () => { if (x) return /re/ }
abbrev pub arrow_without_semicolon : List Token
arrow_without_semicolon = x ∷ equals ∷ is kind.LParen ∷ is kind.RParen ∷ is kind.Arrow ∷ is kind.LBrace ∷ said keyword.If ∷ is kind.LParen ∷ x ∷ is kind.RParen ∷ said keyword.Return ∷ is kind.Regex ∷ is kind.RBrace ∷ is kind.Semi ∷ []

-- x = x / x, and on the next line x = /re/
abbrev pub lines_without_semicolons : List Token
lines_without_semicolons = x ∷ equals ∷ x ∷ divided ∷ x ∷ token (kind.Word (word.Ident ident.Other)) true ∷ equals ∷ is kind.Regex ∷ []

-- import { x as x } from "x"; export default async x => x / x;
abbrev pub import_and_export : List Token
import_and_export = said keyword.Import ∷ is kind.LBrace ∷ x ∷ as_word false ∷ x ∷ is kind.RBrace ∷ from false ∷ is kind.Str ∷ is kind.Semi ∷ said keyword.Export ∷ said keyword.Default_ ∷ async false ∷ x ∷ is kind.Arrow ∷ x ∷ divided ∷ x ∷ is kind.Semi ∷ []

-- x = x /re/ x; with a regular expression in the place of two divisions
abbrev pub regex_for_division : List Token
regex_for_division = x ∷ equals ∷ x ∷ is kind.Regex ∷ x ∷ is kind.Semi ∷ []

-- if (x) / x; with a division in the place of a regular expression
abbrev pub division_for_regex : List Token
division_for_regex = said keyword.If ∷ is kind.LParen ∷ x ∷ is kind.RParen ∷ divided ∷ x ∷ is kind.Semi ∷ []
