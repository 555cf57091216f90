-- What a token means, as a row tells it.
use Rattle.std.specs.Prelude.{ℕ, Bool, true, false, Option, Some, None, if◌then◌else◌, nat_lt}
use Rattle.ecma_word.specs.Word.{word_text}
use Rattle.ecma_token.specs.View.{SpannedView, TokenView, error_token, plain_token, refused_template}
use Rattle.ecma_token.specs.declared.token.Radix.{Radix}
use Rattle.ecma_token.specs.declared.token.Radix.TheVariants.{Binary, Octal, Decimal, Hex}
use Rattle.ecma_token.specs.declared.token.Token.{Token, Word, Template', Str, Regex, Num, BigInt, Ok', Err'}
use Rattle.ecma_print.specs.Rows.{MoreView, line_break, valued}
use Rattle.ecma_print.specs.Values.{ValueView, expression_value, no_value, null_value, number_value, text_value}

abbrev pub radix_number : Radix → ℕ
radix_number Binary = 2
radix_number Octal = 8
radix_number Decimal = 10
radix_number Hex = 16

-- a whole number below 2 to the 53rd, which a JSON number says exactly
abbrev pub exact : Option ℕ → Option ℕ
exact (Some n) = if nat_lt n 9007199254740992 then Some n else None
exact None = None

-- the name that a word is, what a string or the text of a template stands for, a number, a regular expression
abbrev pub token_value : Token → ValueView
token_value (Word word) = text_value (word_text word)
token_value (Template' raw (Ok' cooked)) = text_value cooked.bytes
token_value (Template' raw (Err' p kind span)) = null_value
token_value (Str value raw) = text_value value.bytes
token_value (Regex body flags) = expression_value body.bytes flags.bytes
token_value (Num raw radix digits whole) = number_value (radix_number radix) digits.bytes (exact whole)
token_value (BigInt raw radix digits) = number_value (radix_number radix) digits.bytes None
token_value _ = no_value

-- the same of a token that is seen so; the text of a template that is refused stands for nothing
abbrev pub value_of : TokenView → ValueView
value_of (plain_token token) = token_value token
value_of (refused_template raw kind span) = null_value
value_of (error_token kind span) = no_value

-- what is told of a token besides: its value where that is asked for
abbrev pub told : Bool → SpannedView → MoreView
told false t = line_break t.had_line_break
told true t = valued t.had_line_break (value_of t.token)
