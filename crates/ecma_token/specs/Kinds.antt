-- The kind of a token.
use Rattle.ecma_token_kind.specs.Word.{word_kind}
use Rattle.ecma_token_kind.specs.declared.kind.TokenKind.{TokenKind}
use Rattle.ecma_token_kind.specs.declared.kind.TokenKind.TheVariants as kind
use Rattle.ecma_token.specs.declared.token.Token.{Token, Word, Arrow, Hash, At, Dot, DotDotDot, Bang, LParen, RParen, LBracket, RBracket, LBrace, RBrace, Semi, Comma, BackQuote, Template', Colon, BinOp, AssignOp, DollarLBrace, QuestionMark, PlusPlus, MinusMinus, Tilde, Str, Regex, Num, BigInt, JSXName, JSXText, JSXTagStart, JSXTagEnd, Shebang, Error'}
use Rattle.ecma_token.specs.View.{TokenView, plain_token, refused_template, error_token}

abbrev pub token_kind : Token → TokenKind
token_kind (Word word) = kind.Word (word_kind word)
token_kind Arrow = kind.Arrow
token_kind Hash = kind.Hash
token_kind At = kind.At
token_kind Dot = kind.Dot
token_kind DotDotDot = kind.DotDotDot
token_kind Bang = kind.Bang
token_kind LParen = kind.LParen
token_kind RParen = kind.RParen
token_kind LBracket = kind.LBracket
token_kind RBracket = kind.RBracket
token_kind LBrace = kind.LBrace
token_kind RBrace = kind.RBrace
token_kind Semi = kind.Semi
token_kind Comma = kind.Comma
token_kind BackQuote = kind.BackQuote
token_kind (Template' raw cooked) = kind.Template
token_kind Colon = kind.Colon
token_kind (BinOp op) = kind.BinOp op
token_kind (AssignOp op) = kind.AssignOp op
token_kind DollarLBrace = kind.DollarLBrace
token_kind QuestionMark = kind.QuestionMark
token_kind PlusPlus = kind.PlusPlus
token_kind MinusMinus = kind.MinusMinus
token_kind Tilde = kind.Tilde
token_kind (Str value raw) = kind.Str
token_kind (Regex body flags) = kind.Regex
token_kind (Num raw radix digits whole) = kind.Num
token_kind (BigInt raw radix digits) = kind.BigInt
token_kind (JSXName name) = kind.JSXName
token_kind (JSXText value raw) = kind.JSXText
token_kind JSXTagStart = kind.JSXTagStart
token_kind JSXTagEnd = kind.JSXTagEnd
token_kind (Shebang text) = kind.Shebang
token_kind (Error' p error span) = kind.Error

-- the kind of a token that is seen so
abbrev pub kind_of : TokenView → TokenKind
kind_of (plain_token token) = token_kind token
kind_of (refused_template raw error span) = kind.Template
kind_of (error_token error span) = kind.Error
