-- What is written of the errors of a text: a line each. The form of the lines is our own choice.
use Rattle.std.specs.Prelude.{ℕ, false, List, [], ◌∷◌, ◌++◌, Option, Some, None, codes, decimal, flat_map, option_map}
use Rattle.ecma_place.specs.declared.place.Span.{Span}
use Rattle.ecma_token.specs.View.{ErrorView, SpannedView, refusal_of}
use Rattle.ecma_state.specs.Disposition as lists
use Rattle.ecma_state.specs.Ending.{errors_of, tokens_of}
use Rattle.ecma_state.specs.Session.{Session}
use Rattle.ecma_stdio.specs.Escaped.{escaped}
use Rattle.ecma_token.specs.MessageView.{view_message}
use Rattle.ecma_faults.specs.Faults.{origin_name}
use Rattle.ecma_faults.specs.declared.found.Origin.TheVariants.{Token, Recorded, Waiting}
use Rattle.ecma_program.specs.Rereads.{session_behind}
use Rattle.ecma_options.specs.declared.options.Options.{Options}

-- what kind of error it is and where it lies, each with a space behind it
abbrev pub error_head : List ℕ → Span → List ℕ
error_head what span = what ++ (codes " " ++ (decimal span.lo.0 ++ (codes " " ++ (decimal span.hi.0 ++ codes " "))))

-- the line of an error; what is wrong stands behind its head
abbrev pub error_line : List ℕ → ErrorView → List ℕ
error_line what e = error_head what e.span ++ escaped (view_message e.kind) ++ 10 ∷ []

abbrev pub error_lines : List ℕ → List ErrorView → List ℕ
error_lines what errors = flat_map (error_line what) errors

abbrev pub token_lines : SpannedView → List ℕ
token_lines t = error_lines (origin_name Token) (refusal_of t.token)

-- of a read that found a token or the end
abbrev pub found_lines : Option SpannedView → List ℕ
found_lines None = []
found_lines (Some t) = token_lines t

-- the errors of tokens, in order, and then those that were recorded, and those that wait
abbrev pub list_lines : lists.Errors → List ℕ
list_lines errors = error_lines (origin_name Recorded) errors.recorded ++ error_lines (origin_name Waiting) errors.waiting

abbrev pub errors_from : Session → List ℕ
errors_from s = flat_map token_lines (tokens_of s) ++ list_lines (errors_of s)

abbrev pub errors_text : Options → List ℕ → List ℕ → Option (List ℕ)
errors_text options rereads bytes = option_map errors_from (session_behind false options rereads bytes)
