-- A token is seen with whether its value is its spelling.
use Rattle.std.proofs.Common.{◌≡◌, refl}
use Rattle.ecma_span.specs.declared.place.Span.{Span}
use Rattle.ecma_token.specs.declared.token.Token.{Token, Word, Arrow, Hash, At, Dot, DotDotDot, Bang, LParen, RParen, LBracket, RBracket, LBrace, RBrace, Semi, Comma, BackQuote, Template', Colon, BinOp, AssignOp, DollarLBrace, QuestionMark, PlusPlus, MinusMinus, Tilde, Str, Regex, Num, BigInt, JSXName, JSXText, JSXTagStart, JSXTagEnd, Shebang, Error', Ok', Err'}
use Rattle.ecma_token.specs.View.{token_view}
use Rattle.ecma_rows.specs.Rows.{is_respelled, is_view_respelled}

pub respelled_view : (t : Token) (span : Span) → is_view_respelled (token_view t) span ≡ is_respelled t span
respelled_view (Word word) span = refl
respelled_view Arrow span = refl
respelled_view Hash span = refl
respelled_view At span = refl
respelled_view Dot span = refl
respelled_view DotDotDot span = refl
respelled_view Bang span = refl
respelled_view LParen span = refl
respelled_view RParen span = refl
respelled_view LBracket span = refl
respelled_view RBracket span = refl
respelled_view LBrace span = refl
respelled_view RBrace span = refl
respelled_view Semi span = refl
respelled_view Comma span = refl
respelled_view BackQuote span = refl
respelled_view (Template' raw (Ok' cooked)) span = refl
respelled_view (Template' raw (Err' p kind at)) span = refl
respelled_view Colon span = refl
respelled_view (BinOp op) span = refl
respelled_view (AssignOp op) span = refl
respelled_view DollarLBrace span = refl
respelled_view QuestionMark span = refl
respelled_view PlusPlus span = refl
respelled_view MinusMinus span = refl
respelled_view Tilde span = refl
respelled_view (Str value raw) span = refl
respelled_view (Regex body flags) span = refl
respelled_view (Num raw radix digits whole) span = refl
respelled_view (BigInt raw radix digits) span = refl
respelled_view (JSXName name) span = refl
respelled_view (JSXText value raw) span = refl
respelled_view JSXTagStart span = refl
respelled_view JSXTagEnd span = refl
respelled_view (Shebang text) span = refl
respelled_view (Error' p error at) span = refl
