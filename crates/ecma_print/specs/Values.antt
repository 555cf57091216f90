-- How the value of a token is told: as members of a JSON object, or as a field of a line.
use Rattle.std.specs.Prelude.{ℕ, List, [], ◌++◌, Option, Some, None, codes, decimal}
use Rattle.json.specs.Print.{quoted}
use Rattle.serde_json.specs.Data.{Members, unsigned, null, number, string, member}
use Rattle.ecma_print.specs.declared.row.Value.{Value}
use Rattle.ecma_print.specs.declared.row.Value.TheVariants.{Nothing, Text, Null, Digits, Expression}

-- with texts in the place of references
pub data ValueView : Type 0 where
  no_value : ValueView
  text_value : List ℕ → ValueView
  null_value : ValueView
  -- radix, digits, and the number where it is told
  number_value : ℕ → List ℕ → Option ℕ → ValueView
  -- pattern and flags
  expression_value : List ℕ → List ℕ → ValueView

abbrev pub value_view : Value → ValueView
value_view Nothing = no_value
value_view (Text text) = text_value text.now
value_view Null = null_value
value_view (Digits radix digits exact) = number_value radix digits.now exact
value_view (Expression pattern flags) = expression_value pattern.now flags.now

-- Members of a JSON object, each where its name stands among those that all rows have.

abbrev pub with_digits : ValueView → Members → Members
with_digits (number_value radix digits exact) behind = member (codes "digits") (string digits) behind
with_digits _ behind = behind

abbrev pub with_flags : ValueView → Members → Members
with_flags (expression_value pattern flags) behind = member (codes "flags") (string flags) behind
with_flags _ behind = behind

-- the pattern of a regular expression, or the radix of a number
abbrev pub with_form : ValueView → Members → Members
with_form (number_value radix digits exact) behind = member (codes "radix") (number (unsigned radix)) behind
with_form (expression_value pattern flags) behind = member (codes "pattern") (string pattern) behind
with_form _ behind = behind

abbrev pub with_value : ValueView → Members → Members
with_value (text_value text) behind = member (codes "value") (string text) behind
with_value null_value behind = member (codes "value") null behind
with_value (number_value radix digits (Some n)) behind = member (codes "value") (number (unsigned n)) behind
with_value _ behind = behind

-- the same, as they are written behind others

abbrev pub digits_text : ValueView → List ℕ
digits_text (number_value radix digits exact) = codes ",\"digits\":" ++ quoted digits
digits_text _ = []

abbrev pub flags_text : ValueView → List ℕ
flags_text (expression_value pattern flags) = codes ",\"flags\":" ++ quoted flags
flags_text _ = []

abbrev pub form_text : ValueView → List ℕ
form_text (number_value radix digits exact) = codes ",\"radix\":" ++ decimal radix
form_text (expression_value pattern flags) = codes ",\"pattern\":" ++ quoted pattern
form_text _ = []

abbrev pub value_text : ValueView → List ℕ
value_text (text_value text) = codes ",\"value\":" ++ quoted text
value_text null_value = codes ",\"value\":null"
value_text (number_value radix digits (Some n)) = codes ",\"value\":" ++ decimal n
value_text _ = []

-- A field of a line: JSON, in which a space stands within quotes alone; a hyphen where there is no value. A number that is not
-- told is an array of its radix and its digits, a regular expression one of its pattern and its flags.
abbrev pub value_field : ValueView → List ℕ
value_field no_value = codes "-"
value_field (text_value text) = quoted text
value_field null_value = codes "null"
value_field (number_value radix digits (Some n)) = decimal n
value_field (number_value radix digits None) = (codes "[" ++ decimal radix) ++ ((codes "," ++ quoted digits) ++ codes "]")
value_field (expression_value pattern flags) = (codes "[" ++ quoted pattern) ++ ((codes "," ++ quoted flags) ++ codes "]")
