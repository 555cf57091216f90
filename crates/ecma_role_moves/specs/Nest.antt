-- What encloses the place that is read, the innermost first, and how it changes
use Rattle.std.specs.Prelude.{ℕ, zero, suc, ◌≤◌, Bool, true, false, List, [], ◌∷◌, Option, Some, None, length, slice_get, if◌then◌else◌}
use Rattle.ecma_role_table.specs.declared.frame.Around.{Around}
use Rattle.ecma_role_table.specs.declared.frame.Frame.{Frame}
use Rattle.ecma_role_table.specs.declared.frame.FrameKind.{FrameKind}
use Rattle.ecma_role_table.specs.declared.frame.Kinds.{Kinds}
use Rattle.ecma_role_table.specs.Frames.{gives_around, gives_pending, is_of}

-- the frames, what the function around is, and what the method is whose name is read
pub record Nested : Type 0 where
  pub frames : List Frame
  pub around : Around
  pub pending : Around

-- no more frames than stand in the track itself, with room for those of a token
abbrev pub IsShallow : Nested → Type 0
IsShallow nest = length nest.frames ≤ 64

-- with it, for how many frames more there is room
pub record Roomy : Type 0 where
  pub nest : Nested
  pub room : ℕ

abbrev pub nested : List Frame → Around → Around → Nested
nested frames around pending = record { frames = frames; around = around; pending = pending }

abbrev pub no_function : Around
no_function = record { is_async = false; is_generator = false }

abbrev pub async_function : Around
async_function = record { is_async = true; is_generator = false }

abbrev pub function : Bool → Around
function is_async = record { is_async = is_async; is_generator = false }

abbrev pub gains_async : Around → Around
gains_async around = record { is_async = true; is_generator = around.is_generator }

abbrev pub gains_generator : Around → Around
gains_generator around = record { is_async = around.is_async; is_generator = true }

abbrev pub loses_async : Around → Around
loses_async around = record { is_async = false; is_generator = around.is_generator }

-- the kind of the frame that so many are inside of
abbrev pub kind_in : Option Frame → Option FrameKind
kind_in None = None
kind_in (Some f) = Some f.kind

abbrev pub kind_at : ℕ → Nested → Option FrameKind
kind_at i nest = kind_in (slice_get nest.frames i)

abbrev pub top : Nested → Option FrameKind
top nest = kind_at 0 nest

abbrev pub under : Nested → Option FrameKind
under nest = kind_at 1 nest

-- one frame more: what it keeps is of the method whose name is read, where it is a computed key
abbrev pub framed : FrameKind → Around → Around → Frame
framed kind around pending = record { kind = kind; kept = if gives_pending kind then pending else around }

abbrev pub pushed : FrameKind → Nested → Nested
pushed kind nest = nested (framed kind nest.around nest.pending ∷ nest.frames) nest.around nest.pending

-- the innermost frame goes
abbrev pub around_behind : Frame → Around → Around
around_behind f around = if gives_around f.kind then f.kept else around

abbrev pub pending_behind : Frame → Around → Around
pending_behind f pending = if gives_pending f.kind then f.kept else pending

abbrev pub popped_from : List Frame → Around → Around → Nested
popped_from [] around pending = nested [] around pending
popped_from (f ∷ fs) around pending = nested fs (around_behind f around) (pending_behind f pending)

abbrev pub popped : Nested → Nested
popped nest = popped_from nest.frames nest.around nest.pending

-- so many go
unfoldable pub popped_times : ℕ → Nested → Nested
popped_times zero nest = nest
popped_times (suc n) nest = popped_times n (popped nest)

-- the innermost frame becomes one of this kind
abbrev pub turned_frames : FrameKind → List Frame → List Frame
turned_frames kind [] = []
turned_frames kind (f ∷ fs) = record { kind = kind; kept = f.kept } ∷ fs

abbrev pub turned : FrameKind → Nested → Nested
turned kind nest = nested (turned_frames kind nest.frames) nest.around nest.pending

-- those of these kinds on top go
unfoldable pub dropped_from : Kinds → List Frame → Around → Around → Nested
dropped_from kinds [] around pending = nested [] around pending
dropped_from kinds (f ∷ fs) around pending =
    if is_of kinds f.kind then dropped_from kinds fs (around_behind f around) (pending_behind f pending) else nested (f ∷ fs) around pending

abbrev pub dropped : Kinds → Nested → Nested
dropped kinds nest = dropped_from kinds nest.frames nest.around nest.pending

-- the frames around those of these kinds on top
unfoldable pub outside : Kinds → List Frame → List Frame
outside kinds [] = []
outside kinds (f ∷ fs) = if is_of kinds f.kind then outside kinds fs else f ∷ fs

abbrev pub over_kinds : Kinds → Option FrameKind → Bool
over_kinds kinds None = false
over_kinds kinds (Some kind) = is_of kinds kind

abbrev pub within : Around → Nested → Nested
within around nest = nested nest.frames around nest.pending

abbrev pub pending : Around → Nested → Nested
pending method nest = nested nest.frames nest.around method

-- at the top, the text is a module's
abbrev pub module_from : List Frame → Around → Around
module_from [] around = gains_async around
module_from (f ∷ fs) around = around

abbrev pub module_code : Nested → Nested
module_code nest = within (module_from nest.frames nest.around) nest
