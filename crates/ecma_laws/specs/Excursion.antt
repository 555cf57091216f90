-- What it means that a list of steps goes back, and that nothing is left of what it did before.
use Rattle.std.specs.Prelude.{ℕ, ◌+◌, Bool, true, ◌≡◌, nat_lt, List, [], ◌∷◌, ◌++◌, length}
use Rattle.std.specs.List.{list_all}
use Rattle.ecma_state.specs.Counting.{none_yet, count_all, counting}
use Rattle.ecma_state.specs.Run.{answers_behind}
use Rattle.ecma_state.specs.Session.{Session}
use Rattle.ecma_state.specs.declared.step.Step.{Step}
use Rattle.ecma_state.specs.declared.step.Step.TheVariants.{Save, Back}

-- how many saves a list of steps makes
abbrev pub saves_of : List Step → ℕ
saves_of steps = length (count_all none_yet steps).saves

-- a step that is no way back to a save past the first n
abbrev pub stays_within : ℕ → Step → Bool
stays_within n (Back m) = nat_lt m n
stays_within n _ = true

-- a list saves, goes on by an excursion, and goes back to that save
abbrev pub there_and_back : List Step → List Step → List Step → List Step
there_and_back before excursion after = before ++ Save ∷ (excursion ++ Back (saves_of before) ∷ after)

abbrev pub without : List Step → List Step → List Step
without before after = before ++ Save ∷ after

-- Whatever the excursion does, also where it saves and goes back itself: what comes behind it, unless it goes back
-- into the excursion, comes to where it comes without it, and answers what it answers without it.
pub record LeavesNothing (begin : Session) (before excursion after : List Step) : Type 0 where
  pub counts : counting (there_and_back before excursion after) ≡ counting (without before after)
  pub answers : answers_behind begin (count_all none_yet (before ++ Save ∷ (excursion ++ Back (saves_of before) ∷ []))) after ≡ answers_behind begin (count_all none_yet (before ++ Save ∷ [])) after

-- an excursion that saves, goes on by another, and goes back on it, behind steps that came before
abbrev pub nested : List Step → List Step → List Step → List Step → List Step
nested before first within last = first ++ Save ∷ (within ++ Back (saves_of (before ++ Save ∷ first)) ∷ last)

-- Both leave nothing: the one inside for what follows it in the one around it, and that one for what follows both.
pub record BothLeaveNothing (begin : Session) (before first within last after : List Step) : Type 0 where
  pub inner : LeavesNothing begin (before ++ Save ∷ first) within (last ++ Back (saves_of before) ∷ after)
  pub outer : LeavesNothing begin before (nested before first within last) after

-- Laws

-- Going back undoes all that came since the save: tokens, contexts, errors, comments, and what is read again.
abbrev pub GoingBackUndoes : Type 0
GoingBackUndoes =
    (begin : Session) (before excursion after : List Step) → list_all (stays_within (saves_of before + 1)) after ≡ true → LeavesNothing begin before excursion after

-- So it does what an excursion saved and went back on inside itself.
abbrev pub NestedExcursionsAreUndone : Type 0
NestedExcursionsAreUndone =
    (begin : Session) (before first within last after : List Step)
    → list_all (stays_within (saves_of (before ++ Save ∷ first) + 1)) last ≡ true → list_all (stays_within (saves_of before + 1)) after ≡ true
    → BothLeaveNothing begin before first within last after
