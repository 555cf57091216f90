-- What goes and what stays, frame by frame
use Rattle.std.proofs.Common.{◌≡◌, ◌<◌, ◌∙◌, sym, ℕ, zero, suc, true, false, List, [], ◌∷◌, Some, None, length, drop, refl, arith}
use Rattle.std.specs.List.{slice_get}
use Rattle.ecma_role_table.specs.declared.frame.Around.{Around}
use Rattle.ecma_role_table.specs.declared.frame.Frame.{Frame}
use Rattle.ecma_role_table.specs.declared.frame.FrameKind.{FrameKind}
use Rattle.ecma_role_table.specs.declared.frame.Kinds.{Kinds}
use Rattle.ecma_role_table.specs.Frames.{is_of}
use Rattle.ecma_role_moves.specs.Nest.{Nested, nested, dropped, dropped_from, kind_in, outside, over_kinds, popped, popped_from, popped_times, top}

-- one frame of these kinds less is dropped
drop-popped : (kinds : Kinds) (frames : List Frame) (around pending : Around) → over_kinds kinds (kind_in (slice_get frames 0)) ≡ true → dropped kinds (popped_from frames around pending) ≡ dropped_from kinds frames around pending
unfolding dropped_from
drop-popped kinds [] around pending over = cc
drop-popped kinds (f ∷ fs) around pending over = let e : is_of kinds f.kind ≡ true = over in rw e refl

pub dropped_popped : (kinds : Kinds) (nest : Nested) → over_kinds kinds (top nest) ≡ true → dropped kinds (popped nest) ≡ dropped kinds nest
dropped_popped kinds nest over = drop-popped kinds nest.frames nest.around nest.pending over

-- and nothing where no such frame is on top
drop-none : (kinds : Kinds) (frames : List Frame) (around pending : Around) → over_kinds kinds (kind_in (slice_get frames 0)) ≡ false → dropped_from kinds frames around pending ≡ nested frames around pending
unfolding dropped_from
drop-none kinds [] around pending over = refl
drop-none kinds (f ∷ fs) around pending over = let e : is_of kinds f.kind ≡ false = over in rw e refl

pub dropped_none : (kinds : Kinds) (nest : Nested) → over_kinds kinds (top nest) ≡ false → dropped kinds nest ≡ nest
dropped_none kinds nest over = drop-none kinds nest.frames nest.around nest.pending over

-- a frame on top goes
pop-shorter : (kinds : Kinds) (frames : List Frame) (around pending : Around) → over_kinds kinds (kind_in (slice_get frames 0)) ≡ true → length (popped_from frames around pending).frames < length frames
pop-shorter kinds [] around pending over = cc
pop-shorter kinds (f ∷ fs) around pending over = omega arith

pub popped_shorter : (kinds : Kinds) (nest : Nested) → over_kinds kinds (top nest) ≡ true → length (popped nest).frames < length nest.frames
popped_shorter kinds nest over = pop-shorter kinds nest.frames nest.around nest.pending over

pub popped_more : (n : ℕ) (nest : Nested) → popped_times (suc n) nest ≡ popped_times n (popped nest)
unfolding popped_times
popped_more n nest = refl

pub popped_none : (nest : Nested) → popped_times 0 nest ≡ nest
unfolding popped_times
popped_none nest = refl

-- the frames behind one more that is of these kinds
pub outside_further : (kinds : Kinds) (frames : List Frame) (i : ℕ) (kind : FrameKind) → kind_in (slice_get frames i) ≡ Some kind → is_of kinds kind ≡ true → outside kinds (drop i frames) ≡ outside kinds (drop (suc i) frames)
unfolding outside
outside_further kinds [] i kind at over = cc
outside_further kinds (f ∷ fs) zero kind at over = let e : is_of kinds f.kind ≡ true = cc in rw e refl
outside_further kinds (f ∷ fs) (suc i) kind at over = outside_further kinds fs i kind at over

-- and those at the first that is none of these
outside-first : (kinds : Kinds) (frames : List Frame) (i : ℕ) (kind : FrameKind) → kind_in (slice_get frames i) ≡ Some kind → is_of kinds kind ≡ false → (kind_in (slice_get (outside kinds (drop i frames)) 0) ≡ Some kind) × (kind_in (slice_get (outside kinds (drop i frames)) 1) ≡ kind_in (slice_get frames (suc i)))
unfolding outside
outside-first kinds [] i kind at over = cc
outside-first kinds (f ∷ fs) zero kind at over = let e : is_of kinds f.kind ≡ false = cc in rw e (at, refl)
outside-first kinds (f ∷ fs) (suc i) kind at over = outside-first kinds fs i kind at over

pub outside_at : (kinds : Kinds) (frames : List Frame) (i : ℕ) (kind : FrameKind) → outside kinds (drop i frames) ≡ outside kinds frames → kind_in (slice_get frames i) ≡ Some kind → is_of kinds kind ≡ false → (kind_in (slice_get (outside kinds frames) 0) ≡ Some kind) × (kind_in (slice_get (outside kinds frames) 1) ≡ kind_in (slice_get frames (suc i)))
outside_at kinds frames i kind same at over = rw (sym same) (outside-first kinds frames i kind at over)

-- and none at the end
outside-past : (kinds : Kinds) (frames : List Frame) (i : ℕ) → kind_in (slice_get frames i) ≡ None → outside kinds (drop i frames) ≡ []
unfolding outside
outside-past kinds [] zero past = refl
outside-past kinds [] (suc i) past = refl
outside-past kinds (f ∷ fs) zero past = cc
outside-past kinds (f ∷ fs) (suc i) past = outside-past kinds fs i past

pub outside_none : (kinds : Kinds) (frames : List Frame) (i j : ℕ) → outside kinds (drop i frames) ≡ outside kinds frames → kind_in (slice_get frames i) ≡ None → kind_in (slice_get (outside kinds frames) j) ≡ None
outside_none kinds frames i j same past = rw (sym same ∙ outside-past kinds frames i past) refl
