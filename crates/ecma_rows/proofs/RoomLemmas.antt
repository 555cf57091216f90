-- Rows in their room.
use Rattle.std.proofs.Common.{◌≡◌, ◌∙◌, ◌<◌, ◌≤◌, ℕ, suc, List, [], ◌∷◌, ◌++◌, length, refl, ap, arith}
use Rattle.std.specs.Prelude.{slice_set}
use Rattle.ecma_rows.specs.Told.{written}

-- one more row is written where there is room for it
pub written-in : {R : Type 0} → (rows room : List R) (row : R) → length rows < length (written rows room) → slice_set (written rows room) (length rows) row ≡ written (rows ++ row ∷ []) room
written-in [] [] row h = absurd (omega (arith, h))
written-in [] (old ∷ room) row h = refl
written-in (r ∷ rows) [] row h = absurd (omega (arith, h))
written-in (r ∷ rows) (old ∷ room) row h = ap (λ more. r ∷ more) (written-in rows room row (omega (arith, h)))

-- and where there is none nothing changes
pub written-out : {R : Type 0} → (rows room : List R) (row : R) → length (written rows room) ≤ length rows → written rows room ≡ written (rows ++ row ∷ []) room
written-out [] [] row h = refl
written-out [] (old ∷ room) row h = absurd (omega (arith, h))
written-out (r ∷ rows) [] row h = refl
written-out (r ∷ rows) (old ∷ room) row h = ap (λ more. r ∷ more) (written-out rows room row (omega (arith, h)))

-- the room stays as long as it was
pub written-length : {R : Type 0} → (rows room : List R) → length (written rows room) ≡ length room
written-length [] room = refl
written-length (r ∷ rows) [] = refl
written-length (r ∷ rows) (old ∷ room) = ap suc (written-length rows room)

-- For a call that writes one

pub put-in : {R : Type 0} → (rows before room : List R) (count : ℕ) (row : R) → count ≡ length rows → room ≡ written rows before → count < length room → slice_set room count row ≡ written (rows ++ row ∷ []) before
put-in rows before room count row e at h =
    let long = ap length at in
    ap (λ r. slice_set r count row) at ∙ ap (λ n. slice_set (written rows before) n row) e ∙ written-in rows before row (omega (arith, h, e, long))

pub put-out : {R : Type 0} → (rows before room : List R) (count : ℕ) (row : R) → count ≡ length rows → room ≡ written rows before → length room ≤ count → room ≡ written (rows ++ row ∷ []) before
put-out rows before room count row e at h =
    let long = ap length at in
    at ∙ written-out rows before row (omega (arith, h, e, long))
