-- A token is seen with its kind.
use Rattle.std.proofs.Common.{◌≡◌, refl}
use Rattle.ecma_token.specs.declared.token.Token.{Token, Word, Arrow, Hash, At, Dot, DotDotDot, Bang, LParen, RParen, LBracket, RBracket, LBrace, RBrace, Semi, Comma, BackQuote, Template', Colon, BinOp, AssignOp, DollarLBrace, QuestionMark, PlusPlus, MinusMinus, Tilde, Str, Regex, Num, BigInt, JSXName, JSXText, JSXTagStart, JSXTagEnd, Shebang, Error', Ok', Err'}
use Rattle.ecma_token.specs.Kinds.{token_kind, kind_of}
use Rattle.ecma_token.specs.View.{token_view}

pub kind_of_token_view : (t : Token) → kind_of (token_view t) ≡ token_kind t
kind_of_token_view (Word word) = refl
kind_of_token_view Arrow = refl
kind_of_token_view Hash = refl
kind_of_token_view At = refl
kind_of_token_view Dot = refl
kind_of_token_view DotDotDot = refl
kind_of_token_view Bang = refl
kind_of_token_view LParen = refl
kind_of_token_view RParen = refl
kind_of_token_view LBracket = refl
kind_of_token_view RBracket = refl
kind_of_token_view LBrace = refl
kind_of_token_view RBrace = refl
kind_of_token_view Semi = refl
kind_of_token_view Comma = refl
kind_of_token_view BackQuote = refl
kind_of_token_view (Template' raw (Ok' cooked)) = refl
kind_of_token_view (Template' raw (Err' p kind span)) = refl
kind_of_token_view Colon = refl
kind_of_token_view (BinOp op) = refl
kind_of_token_view (AssignOp op) = refl
kind_of_token_view DollarLBrace = refl
kind_of_token_view QuestionMark = refl
kind_of_token_view PlusPlus = refl
kind_of_token_view MinusMinus = refl
kind_of_token_view Tilde = refl
kind_of_token_view (Str value raw) = refl
kind_of_token_view (Regex body flags) = refl
kind_of_token_view (Num raw radix digits whole) = refl
kind_of_token_view (BigInt raw radix digits) = refl
kind_of_token_view (JSXName name) = refl
kind_of_token_view (JSXText value raw) = refl
kind_of_token_view JSXTagStart = refl
kind_of_token_view JSXTagEnd = refl
kind_of_token_view (Shebang text) = refl
kind_of_token_view (Error' p error span) = refl
