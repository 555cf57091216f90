-- What is known of the tokens before a slash, where a rule asks for them.
use Rattle.std.specs.Prelude.{ℕ, suc, ◌-◌, ◌==◌, Bool, true, false, List, [], ◌∷◌, Option, Some, None}
use Rattle.ecma_role_table.specs.declared.part.Part.{Part}
use Rattle.ecma_role_moves.specs.Nest.{top}
use Rattle.ecma_roles.specs.Slashes.{expects_operand}
use Rattle.ecma_roles.specs.Track.{TrackView, stepped}
use Rattle.ecma_slashes.specs.declared.decider.Expected.{Expected}
use Rattle.ecma_state.specs.Session.{Again, AtEnd, Next, Past}

-- nothing, as nothing is asked; what they lead to; or how many are to come up to the one with the next number, with this
-- number and those behind it
pub data Known : Type 0 where
  nothing : Known
  leading : TrackView → Known
  awaiting : ℕ → List ℕ → Known

-- an operand is expected where a slash comes next, with or without `=` behind it; or that is the token with the next number
abbrev pub expected_by : Known → Bool → Bool
expected_by nothing is_assign = false
expected_by (leading t) is_assign = expects_operand t is_assign
expected_by (awaiting left numbers) is_assign = left == 1

-- what is expected next, where a track says so
abbrev pub expected_next : Known → Option Expected
expected_next nothing = None
expected_next (leading t) = Some (record { state = t.state; top = top t.nest })
expected_next (awaiting left numbers) = None

-- One token more

abbrev pub track_behind : TrackView → Option Part → TrackView
track_behind t None = t
track_behind t (Some part) = stepped t part

-- how many tokens are to come up to the one with the first of these numbers, where so many are kept; none where there is no
-- such number, or the token stands before
abbrev pub distance : ℕ → List ℕ → ℕ
distance kept [] = 0
distance kept (n ∷ ns) = n - kept

-- behind the token with the next number, which was read again
abbrev pub behind_number : ℕ → List ℕ → Known
behind_number left [] = awaiting (left - 1) []
behind_number left (n ∷ ns) = awaiting (distance n ns) ns

abbrev pub awaiting_behind : ℕ → List ℕ → Bool → Option Part → Known
awaiting_behind left ns again None = awaiting left ns
awaiting_behind left ns false (Some part) = awaiting (left - 1) ns
awaiting_behind left ns true (Some part) = behind_number left ns

-- behind a token, whose slash was read again or not, or behind the end
abbrev pub known_behind : Known → Bool → Option Part → Known
known_behind nothing again found = nothing
known_behind (leading t) again found = leading (track_behind t found)
known_behind (awaiting left ns) again found = awaiting_behind left ns again found

-- Numbers of tokens

-- so many answers were read again
abbrev pub times_again : Past → ℕ
times_again [] = 0
times_again (Next t ∷ past) = times_again past
times_again (Again t ∷ past) = suc (times_again past)
times_again (AtEnd flag ∷ past) = times_again past

-- where so many tokens are kept, and these numbers are left
abbrev pub awaiting_from : ℕ → List ℕ → Known
awaiting_from kept ns = awaiting (distance kept ns) ns
