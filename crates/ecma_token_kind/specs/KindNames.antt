-- The words that programs write for kinds of tokens
use Rattle.std.specs.Prelude.{ℕ, List, codes}
use Rattle.ecma_word.specs.declared.word.WordKind.{WordKind}
use Rattle.ecma_word.specs.declared.word.WordKind.TheVariants as word
use Rattle.ecma_token_kind.specs.declared.kind.TokenKind.{TokenKind}
use Rattle.ecma_token_kind.specs.declared.kind.TokenKind.TheVariants as kind

abbrev pub word_name : WordKind → List ℕ
word_name (word.Keyword k) = codes "Keyword"
word_name word.Null = codes "Null"
word_name word.True = codes "True"
word_name word.False = codes "False"
word_name (word.Ident i) = codes "Ident"

-- the name of the variant; of a word, that of its kind
abbrev pub kind_name : TokenKind → List ℕ
kind_name (kind.Word w) = word_name w
kind_name kind.Arrow = codes "Arrow"
kind_name kind.Hash = codes "Hash"
kind_name kind.At = codes "At"
kind_name kind.Dot = codes "Dot"
kind_name kind.DotDotDot = codes "DotDotDot"
kind_name kind.Bang = codes "Bang"
kind_name kind.LParen = codes "LParen"
kind_name kind.RParen = codes "RParen"
kind_name kind.LBracket = codes "LBracket"
kind_name kind.RBracket = codes "RBracket"
kind_name kind.LBrace = codes "LBrace"
kind_name kind.RBrace = codes "RBrace"
kind_name kind.Semi = codes "Semi"
kind_name kind.Comma = codes "Comma"
kind_name kind.BackQuote = codes "BackQuote"
kind_name kind.Template = codes "Template"
kind_name kind.Colon = codes "Colon"
kind_name (kind.BinOp op) = codes "BinOp"
kind_name (kind.AssignOp op) = codes "AssignOp"
kind_name kind.DollarLBrace = codes "DollarLBrace"
kind_name kind.QuestionMark = codes "QuestionMark"
kind_name kind.PlusPlus = codes "PlusPlus"
kind_name kind.MinusMinus = codes "MinusMinus"
kind_name kind.Tilde = codes "Tilde"
kind_name kind.Str = codes "Str"
kind_name kind.Regex = codes "Regex"
kind_name kind.Num = codes "Num"
kind_name kind.BigInt = codes "BigInt"
kind_name kind.JSXName = codes "JSXName"
kind_name kind.JSXText = codes "JSXText"
kind_name kind.JSXTagStart = codes "JSXTagStart"
kind_name kind.JSXTagEnd = codes "JSXTagEnd"
kind_name kind.Shebang = codes "Shebang"
kind_name kind.Error = codes "Error"
