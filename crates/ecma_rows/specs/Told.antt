-- What a call tells. The numbers are our own choice.
use Rattle.std.specs.Prelude.{ℕ, ◌≡◌, ◌==◌, Bool, true, false, List, [], ◌∷◌, Result, Ok, Err, length, nat_le}
use Rattle.ecma_state.specs.Session.{Session}
use Rattle.ecma_state.specs.declared.step.Step.{Step}
use Rattle.ecma_reader.specs.Rereads.{SlashRule, at_places, by_flag, by_role, numbered, rereads, steps_to_end_by}
use Rattle.ecma_reader.specs.Readers.{end_by}
use Rattle.ecma_rows.specs.Asked.{AskedView, begin}
use Rattle.ecma_rows.specs.declared.outcome.Answer.{Answer}
use Rattle.ecma_rows.specs.declared.outcome.Status.{Status}
use Rattle.ecma_rows.specs.declared.outcome.Status.TheVariants.{Done, NoSlash, NotUtf8, NotClean, OutOfMemory, NoRoom, Refused, TooLong}

abbrev pub status_number : Status → ℕ
status_number Done = 0
status_number NoSlash = 2
status_number NotUtf8 = 3
status_number NotClean = 4
status_number OutOfMemory = 5
status_number NoRoom = 6
status_number Refused = 7
status_number TooLong = 8

-- the places are met or not, and the rows fit their room or not
abbrev pub status_of : Bool → Bool → Status
status_of false fit = NoSlash
status_of true true = Done
status_of true false = NoRoom

-- what stands in room once rows were written to it, as many as fit: what lies behind them is as before
abbrev pub written : {R : Type 0} → List R → List R → List R
written [] room = room
written (r ∷ rows) [] = []
written (r ∷ rows) (old ∷ room) = r ∷ written rows room

-- each place that was named is that of a slash which is read there
abbrev pub are_met : SlashRule → List Step → Bool
are_met by_flag steps = true
are_met by_role steps = true
are_met (at_places places) steps = rereads steps == length places
are_met (numbered numbers) steps = rereads steps == length numbers

-- There is nothing to tell, for this reason, or these rows are to be told, of a text whose slashes are met or not.
pub data Told (R : Type 0) : Type 0 where
  Nothing : Status → Told R
  Rows : Bool → List R → Told R

abbrev pub told_by : {R : Type 0} → Bool → (Session → List R) → Result AskedView Status → Told R
told_by comments rows (Err status) = Nothing status
told_by comments rows (Ok asked) =
    Rows (are_met asked.rule (steps_to_end_by asked.rule (begin comments asked))) (rows (end_by asked.rule (begin comments asked)))

-- what is answered, where room was given
abbrev pub answer_of : {R : Type 0} → Told R → List R → Answer
answer_of (Nothing status) room = record { status = status; count = 0 }
answer_of (Rows met rows) room = record { status = status_of met (nat_le (length rows) (length room)); count = length rows }

-- and where the number of rows alone is asked for
abbrev pub count_of : {R : Type 0} → Told R → Answer
count_of (Nothing status) = record { status = status; count = 0 }
count_of (Rows met rows) = record { status = status_of met true; count = length rows }

-- and what then stands in the room
abbrev pub room_behind : {R : Type 0} → Told R → List R → List R
room_behind (Nothing status) room = room
room_behind (Rows met rows) room = written rows room

-- the answer is given, and the room is filled
pub record IsTold {R : Type 0} (told : Told R) (old new : List R) (answer : Answer) : Type 0 where
  pub answers : answer ≡ answer_of told old
  pub room : new ≡ room_behind told old
