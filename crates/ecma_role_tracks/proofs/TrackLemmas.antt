-- Tokens read again
use Rattle.std.proofs.Common.{◌≡◌, ◌+◌, ◌-◌, ◌<◌, ◌∙◌, ap, sym, arith, ℕ, zero, suc, Bool, Some, None, refl}
use Rattle.ecma_role_table.specs.declared.part.PartKind.{PartKind}
use Rattle.ecma_role_table.specs.declared.state.State.{State}
use Rattle.ecma_role_table.specs.declared.moves.Turn.TheVariants.{Again, Done}
use Rattle.ecma_role_moves.specs.Moves.{turned_to}
use Rattle.ecma_role_moves.specs.Nest.{Nested}
use Rattle.ecma_role_tracks.specs.Track.{Reading, TrackView, after_turn, read_once, read_times, reading, track}

-- where nothing is left nothing changes
pub nothing_left : (n : ℕ) (had_line_break : Bool) (t : TrackView) → read_times n had_line_break (reading t None) ≡ reading t None
unfolding read_times
nothing_left zero had_line_break t = refl
nothing_left (suc n) had_line_break t = nothing_left n had_line_break t

-- one time more
pub one_more : (n : ℕ) (had_line_break : Bool) (t : TrackView) (kind : PartKind) → read_times (suc n) had_line_break (reading t (Some kind)) ≡ read_times n had_line_break (after_turn (read_once t kind had_line_break) t.typescript)
unfolding read_times
one_more n had_line_break t kind = refl

-- that each reading so far leads where the whole does
abbrev pub LeadsTo : ℕ → Bool → TrackView → PartKind → Reading → Type 0
LeadsTo i had_line_break t kind target = (n : ℕ) → n + i ≡ 8 → read_times n had_line_break (reading t (Some kind)) ≡ target

-- one reading that takes the token into account
pub read_done : (i : ℕ) (had_line_break : Bool) (t : TrackView) (kind : PartKind) (behind : State) (nest : Nested) (target : Reading) → i < 8 → LeadsTo i had_line_break t kind target → turned_to (Done behind) nest ≡ read_once t kind had_line_break → track behind nest t.typescript ≡ target.track
read_done i had_line_break t kind behind nest target within leads is =
    let whole : suc (7 - i) + i ≡ 8 = omega (arith, within) in
    let last : read_times (suc (7 - i)) had_line_break (reading t (Some kind)) ≡ reading (track behind nest t.typescript) None = one_more (7 - i) had_line_break t kind ∙ rw (sym is) (nothing_left (7 - i) had_line_break (track behind nest t.typescript)) in
    ap (λ r. r.track) (sym last ∙ leads (suc (7 - i)) whole)

-- one that leaves something of it
pub read_again : (i : ℕ) (had_line_break : Bool) (t : TrackView) (kind left : PartKind) (state : State) (nest : Nested) (target : Reading) → LeadsTo i had_line_break t kind target → turned_to (Again state left) nest ≡ read_once t kind had_line_break → LeadsTo (i + 1) had_line_break (track state nest t.typescript) left target
read_again i had_line_break t kind left state nest target leads is n whole =
    let more : suc n + i ≡ 8 = omega (arith, whole) in
    let next : read_times (suc n) had_line_break (reading t (Some kind)) ≡ read_times n had_line_break (reading (track state nest t.typescript) (Some left)) = one_more n had_line_break t kind ∙ rw (sym is) refl in
    sym next ∙ leads (suc n) more

-- and all eight
pub read_out : (i : ℕ) (had_line_break : Bool) (t : TrackView) (kind : PartKind) (target : Reading) → i ≡ 8 → LeadsTo i had_line_break t kind target → t ≡ target.track
unfolding read_times
read_out i had_line_break t kind target whole leads = ap (λ r. r.track) (leads 0 (omega (arith, whole)))
