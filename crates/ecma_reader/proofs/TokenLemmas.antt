-- One token more, whose slash is counted where it was read again.
use Rattle.std.proofs.Common.{◌≡◌, ◌∙◌, ◌+◌, Bool, true, false, List, ◌++◌, cond, Option, Some, None, refl, ap}
use Rattle.std.specs.Prelude.{is_some, option_map}
use Rattle.std.proofs.lemmas.List.Sums.{sum_by-append}
use Rattle.ecma_state.specs.Session.{Session}
use Rattle.ecma_state.specs.declared.step.Step.{Step}
use Rattle.ecma_slashes.specs.Rereads.{SlashRule, is_reread, meets_expression, read_steps, rereads, steps_by}
use Rattle.ecma_reader.specs.Readers.{one_if}

-- Counts

count-append : (a b : List Step) → rereads (a ++ b) ≡ rereads a + rereads b
count-append a b = sum_by-append (λ step. cond (is_reread step) 1 0) a b

counts-one : (b : Bool) → rereads (read_steps b) ≡ one_if b
counts-one true = refl
counts-one false = refl

-- the steps of one more token
pub rereads-on : (rule : SlashRule) (s : Session) (steps : List Step) → rereads (steps ++ steps_by rule s) ≡ rereads steps + one_if (meets_expression rule s)
rereads-on rule s steps = count-append steps (steps_by rule s) ∙ ap (λ n. rereads steps + n) (counts-one (meets_expression rule s))

pub some-map : {A B : Type 0} → (f : A → B) (o : Option A) → is_some (option_map f o) ≡ is_some o
some-map f None = refl
some-map f (Some x) = refl
