-- What is known of an input that was not read.
use Rattle.std.proofs.Common.{◌≡◌, ◌⊎◌, ℕ, List, [], Option, Some, None, Result, Ok, Err, MatchResult, refl, sym, subst, inl, inr, ◌∙◌}
use Rattle.std.specs.Option.{unwrap_or}
use Rattle.std.specs.Result.{IsErrAnd}
use Rattle.ecma_stdio.specs.declared.fault.Fault.{Fault}
use Rattle.ecma_stdio.specs.declared.fault.Fault.TheVariants.{OutOfMemory}
use Rattle.ecma_stdio.specs.declared.fault.Halt.{Halt}
use Rattle.ecma_stdio.specs.declared.fault.Halt.TheVariants.{ReadFailed, Fault as FaultHalt}
use Rattle.ecma_stdio.specs.Sending.{IsInput, Halts}

-- there is always a text that the reader may have left
pub some_input : (told : Option (List ℕ)) → IsInput told (unwrap_or told [])
some_input None = tt
some_input (Some bytes) = refl

-- a failed reading halts whatever the reply would have been
pub halts_reading : {A : Type 0} (result : Result A Halt) (halt : Halt) (Made : A → Type 0) (reply : Result (List ℕ) Fault)
    → IsErrAnd result (λ given. given ≡ halt) → (halt ≡ ReadFailed) ⊎ (halt ≡ FaultHalt OutOfMemory) → MatchResult result Made (Halts reply)
halts_reading (Ok made) halt Made reply given why = absurd given
halts_reading (Err other) halt Made reply given (inl failed) = subst (Halts reply) (sym (given ∙ failed)) tt
halts_reading (Err other) halt Made reply given (inr refused) = subst (Halts reply) (sym (given ∙ refused)) (inr refl)

-- so does a refused allocation
pub halts_refused : {A : Type 0} (result : Result A Halt) (Made : A → Type 0) (reply : Result (List ℕ) Fault)
    → IsErrAnd result (λ given. given ≡ FaultHalt OutOfMemory) → MatchResult result Made (Halts reply)
halts_refused (Ok made) Made reply given = absurd given
halts_refused (Err other) Made reply given = subst (Halts reply) (sym given) (inr refl)
