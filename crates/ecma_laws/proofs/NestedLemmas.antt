-- Going back leaves nothing of an excursion inside another.
use Rattle.std.proofs.Common.{◌≡◌, ◌∙◌, ℕ, ◌+◌, ◌<◌, ◌≤◌, Bool, true, ◌&&◌, List, [], ◌∷◌, ◌++◌, length, nat_lt, refl, ap, arith}
use Rattle.std.specs.List.{list_all}
use Rattle.std.proofs.lemmas.List.{length-append}
use Rattle.std.proofs.lemmas.List.Folds.{list_all-append}
use Rattle.ecma_state.specs.declared.step.Step.{Step}
use Rattle.ecma_state.specs.declared.step.Step.TheVariants.{Read, SetCtx, SetExprAllowed, SetContexts, PopContext, Reread, Withdraw, Save, Back, TakeErrors}
use Rattle.ecma_state.specs.Counting.{Counted, count_all, none_yet}
use Rattle.ecma_laws.specs.Excursion.{NestedExcursionsAreUndone, nested, saves_of, stays_within}
use Rattle.ecma_laws.proofs.GoingBack.{all_longer, and_left, and_right, behind_save, going_back_undoes, saved}

both-hold : (a b : Bool) → a ≡ true → b ≡ true → (a && b) ≡ true
both-hold a b left right = ap (λ x. x && b) left ∙ right

-- a step that goes back to none past the first k goes back to none past the first m either, where these are more
stays-wider : (k m : ℕ) → k ≤ m → (step : Step) → stays_within k step ≡ true → stays_within m step ≡ true
stays-wider k m more (Back n) e = grind (arith, e, more)
stays-wider k m more Read e = refl
stays-wider k m more (SetCtx context) e = refl
stays-wider k m more (SetExprAllowed allowed) e = refl
stays-wider k m more (SetContexts contexts) e = refl
stays-wider k m more PopContext e = refl
stays-wider k m more Reread e = refl
stays-wider k m more Withdraw e = refl
stays-wider k m more TakeErrors e = refl
stays-wider k m more Save e = refl

all-wider : (k m : ℕ) → k ≤ m → (steps : List Step) → list_all (stays_within k) steps ≡ true → list_all (stays_within m) steps ≡ true
all-wider k m more [] e = refl
all-wider k m more (x ∷ xs) e =
    both-hold (stays_within m x) (list_all (stays_within m) xs) (stays-wider k m more x (and_left _ _ e)) (all-wider k m more xs (and_right _ _ e))

-- a save more is made, at least
saves-more : (before first : List Step) → saves_of before < saves_of (before ++ Save ∷ first)
saves-more before first =
    let c = count_all none_yet before in
    let l = all_longer (saved c) first in
    let all : saves_of (before ++ Save ∷ first) ≡ length ((c.saves ++ c.steps ∷ []) ++ l.more) = ap (λ (d : Counted). length d.saves) (behind_save before first) ∙ ap length l.saves in
    omega (arith, all, length-append (c.saves ++ c.steps ∷ []) l.more, length-append c.saves (c.steps ∷ []))

pub nested_excursions_are_undone : NestedExcursionsAreUndone
nested_excursions_are_undone begin before first within last after stays follows =
    let k = saves_of before in
    let m = saves_of (before ++ Save ∷ first) in
    let more = saves-more before first in
    let wider : k + 1 ≤ m + 1 = omega (arith, more) in
    let goes_back : nat_lt k (m + 1) ≡ true = grind (arith, more) in
    let behind : list_all (stays_within (m + 1)) (Back k ∷ after) ≡ true = both-hold (nat_lt k (m + 1)) (list_all (stays_within (m + 1)) after) goes_back (all-wider (k + 1) (m + 1) wider after follows) in
    let all : list_all (stays_within (m + 1)) (last ++ Back k ∷ after) ≡ true = list_all-append (stays_within (m + 1)) last (Back k ∷ after) ∙ both-hold _ _ stays behind in
    record {
      inner = going_back_undoes begin (before ++ Save ∷ first) within (last ++ Back k ∷ after) all;
      outer = going_back_undoes begin before (nested before first within last) after follows;
    }
