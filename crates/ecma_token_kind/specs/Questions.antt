-- What a kind of token allows behind it, and where it may stand.
use Rattle.std.specs.Prelude.{Bool, true, false}
use Rattle.ecma_word.specs.declared.keyword.Keyword.{Keyword}
use Rattle.ecma_word.specs.declared.keyword.Keyword.TheVariants as keyword
use Rattle.ecma_word.specs.declared.word.WordKind.TheVariants as word
use Rattle.ecma_word.specs.declared.operator.BinOpToken.TheVariants.{Add, Sub}
use Rattle.ecma_token_kind.specs.declared.kind.TokenKind.{TokenKind}
use Rattle.ecma_token_kind.specs.declared.kind.TokenKind.TheVariants.{Word, BinOp, AssignOp, Arrow, BackQuote, Bang, BigInt, Colon, Comma, DollarLBrace, Dot, DotDotDot, JSXName, JSXTagEnd, JSXTagStart, JSXText, LBrace, LBracket, LParen, MinusMinus, Num, PlusPlus, QuestionMark, RBrace, RParen, Regex, Semi, Str, Template, Tilde}

-- an expression may follow the keyword
abbrev pub keyword_before_expr : Keyword → Bool
keyword_before_expr keyword.Await = true
keyword_before_expr keyword.Case = true
keyword_before_expr keyword.Default_ = true
keyword_before_expr keyword.Do = true
keyword_before_expr keyword.Else = true
keyword_before_expr keyword.Return = true
keyword_before_expr keyword.Throw = true
keyword_before_expr keyword.New = true
keyword_before_expr keyword.Extends = true
keyword_before_expr keyword.Yield = true
keyword_before_expr keyword.In = true
keyword_before_expr keyword.InstanceOf = true
keyword_before_expr keyword.TypeOf = true
keyword_before_expr keyword.Void = true
keyword_before_expr keyword.Delete = true
keyword_before_expr _ = false

-- an expression may begin with the keyword
abbrev pub keyword_starts_expr : Keyword → Bool
keyword_starts_expr keyword.Await = true
keyword_starts_expr keyword.Function = true
keyword_starts_expr keyword.Throw = true
keyword_starts_expr keyword.New = true
keyword_starts_expr keyword.This = true
keyword_starts_expr keyword.Super = true
keyword_starts_expr keyword.Class = true
keyword_starts_expr keyword.Import = true
keyword_starts_expr keyword.Yield = true
keyword_starts_expr keyword.TypeOf = true
keyword_starts_expr keyword.Void = true
keyword_starts_expr keyword.Delete = true
keyword_starts_expr _ = false

-- the keyword may be a name that `let` declares
abbrev pub keyword_follows_let : Keyword → Bool
keyword_follows_let keyword.Let = true
keyword_follows_let keyword.Yield = true
keyword_follows_let keyword.Await = true
keyword_follows_let _ = false

-- an expression may follow
abbrev pub before_expr : TokenKind → Bool
before_expr (Word (word.Keyword k)) = keyword_before_expr k
before_expr (BinOp op) = true
before_expr (AssignOp op) = true
before_expr Arrow = true
before_expr DotDotDot = true
before_expr Bang = true
before_expr LParen = true
before_expr LBrace = true
before_expr LBracket = true
before_expr Semi = true
before_expr Comma = true
before_expr Colon = true
before_expr DollarLBrace = true
before_expr QuestionMark = true
before_expr PlusPlus = true
before_expr MinusMinus = true
before_expr Tilde = true
before_expr JSXText = true
before_expr _ = false

-- an expression may begin here
abbrev pub starts_expr : TokenKind → Bool
starts_expr (Word (word.Keyword k)) = keyword_starts_expr k
starts_expr (Word w) = true
starts_expr (BinOp Add) = true
starts_expr (BinOp Sub) = true
starts_expr Bang = true
starts_expr LParen = true
starts_expr LBrace = true
starts_expr LBracket = true
starts_expr BackQuote = true
starts_expr DollarLBrace = true
starts_expr PlusPlus = true
starts_expr MinusMinus = true
starts_expr Tilde = true
starts_expr Str = true
starts_expr Regex = true
starts_expr Num = true
starts_expr BigInt = true
starts_expr JSXTagStart = true
starts_expr _ = false

-- a declaration may go on so behind `let`
abbrev pub follows_keyword_let : TokenKind → Bool
follows_keyword_let (Word (word.Keyword k)) = keyword_follows_let k
follows_keyword_let (Word (word.Ident i)) = true
follows_keyword_let LBrace = true
follows_keyword_let LBracket = true
follows_keyword_let _ = false

-- a block comment behind such a token may be that token's; with no token before it, it may not
abbrev pub can_have_trailing_comment : TokenKind → Bool
can_have_trailing_comment (Word (word.Ident i)) = true
can_have_trailing_comment Semi = true
can_have_trailing_comment LBrace = true
can_have_trailing_comment RBrace = true
can_have_trailing_comment DollarLBrace = true
can_have_trailing_comment Num = true
can_have_trailing_comment BigInt = true
can_have_trailing_comment Str = true
can_have_trailing_comment Regex = true
can_have_trailing_comment _ = false

-- a line comment behind such a token may be that token's; with no token before it, it may too
abbrev pub can_have_trailing_line_comment : TokenKind → Bool
can_have_trailing_line_comment (BinOp op) = false
can_have_trailing_line_comment _ = true

-- the kind has no row of its own where the meaning of a brace is asked
abbrev pub is_other : TokenKind → Bool
is_other (Word (word.Keyword k)) = false
is_other (BinOp op) = false
is_other Template = false
is_other Dot = false
is_other Colon = false
is_other LBrace = false
is_other RParen = false
is_other Semi = false
is_other Arrow = false
is_other JSXName = false
is_other JSXText = false
is_other JSXTagStart = false
is_other JSXTagEnd = false
is_other _ = true
