-- Errors in order of place are the same errors, so there is a fault among them as before.
use Rattle.std.proofs.Common.{◌≡◌, ◌∙◌, ℕ, ◌==◌, Bool, true, false, ◌||◌, if◌then◌else◌, List, [], ◌∷◌, ap, arith, refl, sym}
use Rattle.std.proofs.lemmas.Bool.Decides.{nat_tests}
use Rattle.ecma_faults.specs.Faults.{FoundView, IsByPlace, beginning_at, place_of}
use Rattle.ecma_report.specs.FaultLines.{has_fault, is_fault}

same-place : (n : ℕ) → (n == n) ≡ true
same-place n = grind (arith, nat_tests)

or-second : (a b : Bool) → b ≡ true → (a || b) ≡ true
or-second true b is = refl
or-second false b is = is

or-both : (a b c : Bool) → (b ≡ true → c ≡ true) → (a || b) ≡ true → (a || c) ≡ true
or-both true b c on is = refl
or-both false b c on is = on is

both-ways : (a b : Bool) → (a ≡ true → b ≡ true) → (b ≡ true → a ≡ true) → a ≡ b
both-ways true b there back = sym (there refl)
both-ways false true there back = back refl
both-ways false false there back = refl

-- a fault among those that begin at a place is one among all
fault-among : (place : ℕ) (found : List FoundView) → has_fault (beginning_at place found) ≡ true → has_fault found ≡ true
fault-among place [] has = has
fault-among place (f ∷ found) has = go (place_of f == place) (fault-among place found) has
  where
    go : (here : Bool) → (has_fault (beginning_at place found) ≡ true → has_fault found ≡ true) → has_fault (if here then f ∷ beginning_at place found else beginning_at place found) ≡ true → has_fault (f ∷ found) ≡ true
    go true among has = or-both (is_fault f.origin) (has_fault (beginning_at place found)) (has_fault found) among has
    go false among has = or-second (is_fault f.origin) (has_fault found) (among has)

-- a place at which one begins
record FaultAt (found : List FoundView) : Type 0 where
  pub place : ℕ
  pub has : has_fault (beginning_at place found) ≡ true

begins : (found : List FoundView) → has_fault found ≡ true → FaultAt found
begins [] has = record { place = 0; has = has }
begins (f ∷ found) has = go (is_fault f.origin) (λ is. begins found is) refl has
  where
    here : has_fault (beginning_at (place_of f) (f ∷ found)) ≡ has_fault (f ∷ beginning_at (place_of f) found)
    here = ap (λ b. has_fault (if b then f ∷ beginning_at (place_of f) found else beginning_at (place_of f) found)) (same-place (place_of f))

    kept : (place : ℕ) (b : Bool) → has_fault (beginning_at place found) ≡ true → has_fault (if b then f ∷ beginning_at place found else beginning_at place found) ≡ true
    kept place true is = or-second (is_fault f.origin) (has_fault (beginning_at place found)) is
    kept place false is = is

    go : (q : Bool) → (has_fault found ≡ true → FaultAt found) → is_fault f.origin ≡ q → (q || has_fault found) ≡ true → FaultAt (f ∷ found)
    go true begins_on is has = record { place = place_of f; has = here ∙ ap (λ b. b || has_fault (beginning_at (place_of f) found)) is }
    go false begins_on is has =
        let there = begins_on has in
        record { place = there.place; has = kept there.place (place_of f == there.place) there.has }

fault-as : (found other : List FoundView) → ((place : ℕ) → beginning_at place found ≡ beginning_at place other) → has_fault found ≡ true → has_fault other ≡ true
fault-as found other same has =
    let at = begins found has in
    fault-among at.place other (sym (ap has_fault (same at.place)) ∙ at.has)

pub fault-in-order : (found ordered : List FoundView) → IsByPlace found ordered → has_fault ordered ≡ has_fault found
fault-in-order found ordered by_place =
    both-ways (has_fault ordered) (has_fault found) (fault-as ordered found by_place.same) (fault-as found ordered (λ place. sym (by_place.same place)))
