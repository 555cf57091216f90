-- Which token a kind of punctuator is.
use Rattle.ecma_token.specs.declared.token.Token.{Token}
use Rattle.ecma_token.specs.declared.token.Token as token
use Rattle.ecma_punctuator.specs.declared.punctuator_kind.PunctuatorKind.{PunctuatorKind}
use Rattle.ecma_punctuator.specs.declared.punctuator_kind.PunctuatorKind.TheVariants as kind

abbrev pub kind_token : PunctuatorKind → Token
kind_token kind.Arrow = token.Arrow
kind_token kind.Hash = token.Hash
kind_token kind.At = token.At
kind_token kind.Dot = token.Dot
kind_token kind.DotDotDot = token.DotDotDot
kind_token kind.Bang = token.Bang
kind_token kind.LParen = token.LParen
kind_token kind.RParen = token.RParen
kind_token kind.LBracket = token.LBracket
kind_token kind.RBracket = token.RBracket
kind_token kind.LBrace = token.LBrace
kind_token kind.RBrace = token.RBrace
kind_token kind.Semi = token.Semi
kind_token kind.Comma = token.Comma
kind_token kind.BackQuote = token.BackQuote
kind_token kind.Colon = token.Colon
kind_token (kind.BinOp operator) = token.BinOp operator
kind_token (kind.AssignOp operator) = token.AssignOp operator
kind_token kind.QuestionMark = token.QuestionMark
kind_token kind.PlusPlus = token.PlusPlus
kind_token kind.MinusMinus = token.MinusMinus
kind_token kind.Tilde = token.Tilde
