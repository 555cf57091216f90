-- What is neither refused nor has a fault that is recorded is read cleanly.
use Rattle.std.proofs.Common.{◌≡◌, ◌∙◌, Bool, true, false, not, ◌&&◌, ◌||◌, List, [], ◌∷◌, Result, Ok, Err, refl, ap}
use Rattle.ecma_reads.specs.declared.found.Blame.{Blame}
use Rattle.ecma_reads.specs.declared.found.Blame.TheVariants.{Always, Strict, Module}
use Rattle.ecma_reads.specs.Found.{Fault, Scanned}
use Rattle.ecma_reads.specs.Locality.{has_clean_faults, is_accepted, is_always, is_clean}
use Rattle.ecma_state.specs.State.{is_error}
use Rattle.ecma_state.specs.TokenAt.{token_of}
use Rattle.ecma_syntax.specs.declared.context.Context.{Context}
use Rattle.ecma_token.specs.Kinds.{kind_of}
use Rattle.ecma_token.specs.View.{ErrorView, TokenView}
use Rattle.ecma_parts.specs.BareReads.{any_recorded, is_recorded, is_refused}

accepted : (v : Result TokenView ErrorView) → is_error (kind_of (token_of v)) ≡ false → is_accepted v ≡ true
accepted (Ok token) h = refl
accepted (Err error) h = cc

no-always : (context : Context) (blame : Blame) → is_recorded context blame ≡ false → not (is_always blame) ≡ true
no-always context Always h = cc
no-always context Strict h = refl
no-always context Module h = refl

clean-faults : (context : Context) (faults : List Fault) → any_recorded context faults ≡ false → has_clean_faults faults ≡ true
clean-faults context [] h = refl
clean-faults context (f ∷ faults) h = go (is_recorded context f.blame) refl h (clean-faults context faults)
  where
    go : (b : Bool) → is_recorded context f.blame ≡ b → (b || any_recorded context faults) ≡ false → (any_recorded context faults ≡ false → has_clean_faults faults ≡ true) → has_clean_faults (f ∷ faults) ≡ true
    go true e h more = cc
    go false e h more = ap (λ b. b && has_clean_faults faults) (no-always context f.blame e) ∙ more h

pub reads-cleanly : (context : Context) (s : Scanned TokenView) → is_refused s ≡ false → any_recorded context s.faults ≡ false → is_clean s ≡ true
reads-cleanly context s h k = ap (λ b. b && has_clean_faults s.faults) (accepted s.value h) ∙ clean-faults context s.faults k
