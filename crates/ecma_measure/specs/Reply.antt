-- What is answered to the input where its tokens are counted, and memory is ample.
use Rattle.std.specs.Prelude.{ℕ, Bool, List, [], ◌∷◌, ◌++◌, Result, Ok, Err, length, codes, decimal}
use Rattle.ecma_state.specs.Ending.{tokens_of}
use Rattle.ecma_measure.specs.Begin.{begin}
use Rattle.ecma_stdio.specs.declared.fault.Fault.{Fault}
use Rattle.ecma_stdio.specs.Faults.{text_reply}

-- so many tokens and bytes
abbrev pub count_line : ℕ → ℕ → List ℕ
count_line tokens bytes = decimal tokens ++ (codes " tokens " ++ (decimal bytes ++ (codes " bytes" ++ 10 ∷ [])))

-- the tokens of the whole run
abbrev pub count_text : Bool → List ℕ → List ℕ
count_text ts bytes = count_line (length (tokens_of (begin ts bytes))) (length bytes)

abbrev pub counted : Bool → Result (List ℕ) Fault → Result (List ℕ) Fault
counted ts (Ok text) = Ok (count_text ts text)
counted ts (Err fault) = Err fault

abbrev pub count_reply : Bool → List ℕ → Result (List ℕ) Fault
count_reply ts input = counted ts (text_reply input)
