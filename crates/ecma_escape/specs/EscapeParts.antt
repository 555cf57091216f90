-- The parts of what is answered of an escape.
use Rattle.std.specs.Prelude.{ℕ, Bool, true, false, List, [], ◌∷◌, encode_utf8_all}
use Rattle.ecma_token.specs.View.{plain_kind}
use Rattle.ecma_token.specs.declared.error.SyntaxError.{LegacyOctal}
use Rattle.ecma_escape.specs.declared.escape.Meaning.{Meaning}
use Rattle.ecma_escape.specs.declared.escape.Meaning.TheVariants as answer
use Rattle.ecma_grammar.specs.declared.found.Blame.TheVariants.{Strict}
use Rattle.ecma_grammar.specs.Found.{Fault, error_over}
use Rattle.ecma_grammar.specs.Escapes.{Use, InString, InTemplate}

-- what an escape in a string or a template stands for that is answered so and written with these bytes
abbrev pub answer_value : List ℕ → Meaning → List ℕ
answer_value spelling answer.Nothing = []
answer_value spelling (answer.Character c) = encode_utf8_all (c ∷ [])
answer_value spelling (answer.Octal c) = encode_utf8_all (c ∷ [])
answer_value spelling answer.Spelling = spelling
answer_value spelling (answer.Refused refusal) = []

-- what is said of it
abbrev pub answer_faults : Meaning → List Fault
answer_faults answer.Nothing = []
answer_faults (answer.Character c) = []
answer_faults (answer.Octal c) = record { blame = Strict; error = error_over (plain_kind LegacyOctal) 2 } ∷ []
answer_faults answer.Spelling = []
answer_faults (answer.Refused refusal) = []

-- where an escape by itself stands
abbrev pub use_in : Bool → Use
use_in true = InTemplate
use_in false = InString
