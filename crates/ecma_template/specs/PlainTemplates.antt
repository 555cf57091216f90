-- What is answered of what stands in a template and means what is written.
use Rattle.std.specs.Prelude.{◌≡◌, ℕ, Bool, true, false, [], length, Result, Ok, Err}
use Rattle.ecma_place.specs.Cursor.{Cursor, place, passed}
use Rattle.ecma_token.specs.View.{ErrorView, TokenView, plain_kind, token_view}
use Rattle.ecma_token.specs.declared.error.SyntaxError.{UnterminatedTpl}
use Rattle.ecma_grammar.specs.Found.{FoundView, Scanned, span_of}
use Rattle.ecma_grammar.specs.Templates.{template_found}
use Rattle.ecma_template.specs.declared.template.plain.PlainTemplate.{PlainTemplate}
use Rattle.ecma_template.specs.declared.template.plain.PlainTemplate.TheVariants.{Read, Unterminated, Other}

-- what is found between two cursors, without faults
abbrev pub found_between : Cursor → Cursor → Result TokenView ErrorView → Bool → FoundView TokenView
found_between old now value flag = record { value = value; faults = []; extent = span_of (place old) (place now); line_break = flag }

-- the error of a template that was opened at this place and meets the end
abbrev pub unterminated : ℕ → Cursor → ErrorView
unterminated opened end = record { kind = plain_kind UnterminatedTpl; span = span_of opened (place end) }

-- what such an answer says of what a reader finds in a template that was opened at this place, and of the cursor
abbrev pub IsPlainTemplate : ℕ → Cursor → Cursor → Scanned TokenView → PlainTemplate → Type 0
IsPlainTemplate opened old now s (Read token flag) =
    (template_found opened (place old) s ≡ found_between old now (Ok (token_view token)) flag) × (now ≡ passed (length s.spelling) old)
IsPlainTemplate opened old now s (Unterminated flag) =
    (template_found opened (place old) s ≡ found_between old now (Err (unterminated opened now)) flag) × (now ≡ passed (length s.spelling) old)
IsPlainTemplate opened old now s Other = now ≡ old

abbrev pub is_read : PlainTemplate → Bool
is_read (Read token flag) = true
is_read (Unterminated flag) = false
is_read Other = false
