-- What one token does to the nearest bracket, and that a track keeps what its state and its frames need
use Rattle.std.proofs.Common.{◌≡◌, ◌||◌, ⊎_elim, subst, inl, not, ℕ, zero, suc, Bool, true, false, List, Option, Some, None, refl, arith, if◌then◌else◌}
use Rattle.ecma_role_table.specs.declared.part.Part.{Part}
use Rattle.ecma_role_table.specs.declared.part.PartKind.{PartKind}
use Rattle.ecma_role_table.specs.declared.part.PartKind.TheVariants.{Sign}
use Rattle.ecma_role_table.specs.declared.part.Sign.TheVariants as sign
use Rattle.ecma_role_table.specs.declared.frame.Frame.{Frame}
use Rattle.ecma_role_table.specs.declared.frame.FrameKind.{FrameKind}
use Rattle.ecma_role_table.specs.declared.frame.FrameKind.TheVariants as frame
use Rattle.ecma_role_table.specs.declared.frame.Kinds.TheVariants as kinds
use Rattle.ecma_role_table.specs.declared.state.State.{State}
use Rattle.ecma_role_table.specs.declared.state.State.TheVariants as state
use Rattle.ecma_role_table.specs.declared.moves.Turn.{Turn}
use Rattle.ecma_role_table.specs.declared.moves.Turn.TheVariants.{Again, Done}
use Rattle.ecma_role_table.specs.Table.{row}
use Rattle.ecma_role_moves.specs.Moves.{moved}
use Rattle.ecma_role_moves.specs.Nest.{Nested, dropped, top, turned}
use Rattle.ecma_role_tracks.specs.Track.{Reading, TrackView, behind_pattern, ends_over, first, pattern_over, read_left, read_on, read_once, read_times, reading, readied, seen, stepped}
use Rattle.ecma_role_tracks.proofs.RankLemmas.{rank_small, read_out_by_rank}
use Rattle.ecma_role_laws.specs.Brackets.{Enclosed, enclosing}
use Rattle.ecma_role_laws.proofs.Right.{is_code, is_fit, is_right, is_safe, meets, need}
use Rattle.ecma_role_laws.proofs.RowsRight.{row_right}
use Rattle.ecma_role_laws.proofs.Frames.{and_left, and_right, chained, chained_none, turned_chained, turned_kept}
use Rattle.ecma_role_laws.proofs.Changes.{Sound, dropped_chained, dropped_kept, soft_candidates}
use Rattle.ecma_role_laws.proofs.MovesSound.{SoundTurn, move_sound, turn_state}
use Rattle.ecma_role_laws.proofs.MovesRight.{move_right}
use Rattle.ecma_role_laws.proofs.Taken.{EffectOf, SameKind, Taken, plain_kept, plain_taken}

-- what is decided before a row is looked up
abbrev Ready : Nested → Nested → Type 0
Ready after before = (chained after.frames ≡ true) × (enclosing after.frames ≡ enclosing before.frames)

ready-after : (b : Bool) (nest : Nested) → chained nest.frames ≡ true → Ready (if b then dropped kinds.Candidates nest else nest) nest
ready-after true nest ch = (dropped_chained kinds.Candidates nest ch, dropped_kept kinds.Candidates nest soft_candidates)
ready-after false nest ch = (ch, refl)

parameters-ready : (nest : Nested) → top nest ≡ Some frame.OuterPattern → chained nest.frames ≡ true → Ready (turned frame.OuterParameters nest) nest
parameters-ready nest is ch = (turned_chained frame.OuterParameters nest.frames ch (rw is refl), turned_kept frame.OuterParameters nest.frames (rw is refl))

group-ready : (nest : Nested) → top nest ≡ Some frame.OuterPattern → chained nest.frames ≡ true → Ready (turned frame.OuterParen nest) nest
group-ready nest is ch = (turned_chained frame.OuterParen nest.frames ch (rw is refl), turned_kept frame.OuterParen nest.frames (rw is refl))

pattern-ready : (kind : PartKind) (nest : Nested) → top nest ≡ Some frame.OuterPattern → chained nest.frames ≡ true → Ready (behind_pattern kind nest) nest
pattern-ready (Sign sign.LBracket) nest is ch = (ch, refl)
pattern-ready (Sign sign.LBrace) nest is ch = (ch, refl)
pattern-ready (Sign sign.RParen) nest is ch = (ch, refl)
pattern-ready (Sign sign.Colon) nest is ch = parameters-ready nest is ch
pattern-ready (Sign sign.Comma) nest is ch = parameters-ready nest is ch
pattern-ready (Sign sign.QuestionMark) nest is ch = parameters-ready nest is ch
pattern-ready (Sign sign.Assign) nest is ch = parameters-ready nest is ch
pattern-ready kind nest is ch = group-ready nest is ch

over-ready : (over : Option FrameKind) (kind : PartKind) (nest : Nested) → top nest ≡ over → chained nest.frames ≡ true → Ready (pattern_over over kind nest) nest
over-ready (Some frame.OuterPattern) kind nest is ch = pattern-ready kind nest is ch
over-ready over kind nest is ch = (ch, refl)

readied-ready : (s : State) (kind : PartKind) (had_line_break : Bool) (nest : Nested) → chained nest.frames ≡ true → Ready (readied s kind had_line_break nest) nest
readied-ready state.After kind had_line_break nest ch = ready-after (ends_over (top nest) had_line_break kind) nest ch
readied-ready state.TypeBrackets kind had_line_break nest ch = over-ready (top nest) kind nest refl ch
readied-ready s kind had_line_break nest ch = (ch, refl)

readied-meets : (s : State) (kind : PartKind) (had_line_break : Bool) (nest : Nested) → meets (need s) (top nest) ≡ true → meets (need s) (top (readied s kind had_line_break nest)) ≡ true
readied-meets state.After kind had_line_break nest met = refl
readied-meets state.TypeBrackets kind had_line_break nest met = refl
readied-meets s kind had_line_break nest met = met

-- a token is read once
abbrev pub IsSound : TrackView → Type 0
IsSound t = Sound t.nest (need t.state)

fit-of : (t : TrackView) (kind : PartKind) (had_line_break : Bool) → IsSound t → let n = readied t.state kind had_line_break t.nest in is_fit t.state kind (top n) (row t.state kind (seen had_line_break t.typescript n)) ≡ true
fit-of t kind had_line_break sound =
    let n = readied t.state kind had_line_break t.nest in
    row_right t.state kind (seen had_line_break t.typescript n) (readied-meets t.state kind had_line_break t.nest sound.1)

code-or : (b c : Bool) → (not b || c) ≡ true → b ≡ true → c ≡ true
code-or b c h e = grind (arith, h, e)

read_sound : (t : TrackView) (kind : PartKind) (had_line_break : Bool) → IsSound t → SoundTurn (read_once t kind had_line_break)
unfolding read_once
read_sound t kind had_line_break sound =
    let n = readied t.state kind had_line_break t.nest in
    let m = row t.state kind (seen had_line_break t.typescript n) in
    let ready = readied-ready t.state kind had_line_break t.nest sound.0 in
    move_sound m kind n ready.0 (and_left (is_safe (top n) m) (not (is_code t.state) || is_right kind (top n) m) (fit-of t kind had_line_break sound))

read_right : (t : TrackView) (kind : PartKind) (had_line_break : Bool) → IsSound t → is_code t.state ≡ true → let r = read_once t kind had_line_break in EffectOf kind (enclosing t.nest.frames) r.turn r.nest.frames
unfolding read_once
read_right t kind had_line_break sound code =
    let n = readied t.state kind had_line_break t.nest in
    let m = row t.state kind (seen had_line_break t.typescript n) in
    let ready = readied-ready t.state kind had_line_break t.nest sound.0 in
    let fit = fit-of t kind had_line_break sound in
    let safe = and_left (is_safe (top n) m) (not (is_code t.state) || is_right kind (top n) m) fit in
    let right = code-or (is_code t.state) (is_right kind (top n) m) (and_right (is_safe (top n) m) (not (is_code t.state) || is_right kind (top n) m) fit) code in
    subst (λ was. EffectOf kind was (moved m kind n).turn (moved m kind n).nest.frames) ready.1 (move_right m kind n ready.0 safe right)

-- a token is read out
turn-sound : (turn : Turn) (nest : Nested) (typescript : Bool) → Sound nest (need (turn_state turn)) → IsSound (read_on turn nest typescript).track
turn-sound (Done s) nest typescript sound = sound
turn-sound (Again s kind) nest typescript sound = sound

left-sound : (left : Option PartKind) (t : TrackView) (had_line_break : Bool) → IsSound t → IsSound (read_left had_line_break t left).track
left-sound None t had_line_break sound = sound
left-sound (Some kind) t had_line_break sound =
    let r = read_once t kind had_line_break in
    turn-sound r.turn r.nest t.typescript (read_sound t kind had_line_break sound)

times-sound : (n : ℕ) (had_line_break : Bool) (r : Reading) → IsSound r.track → IsSound (read_times n had_line_break r).track
unfolding read_times
times-sound zero had_line_break r sound = sound
times-sound (suc n) had_line_break r sound = times-sound n had_line_break (read_left had_line_break r.track r.left) (left-sound r.left r.track had_line_break sound)

pub step_sound : (t : TrackView) (part : Part) → IsSound t → IsSound (stepped t part)
step_sound t part sound = times-sound 8 part.had_line_break (reading t (Some part.kind)) sound

pub first_sound : (typescript is_module : Bool) → IsSound (first typescript is_module)
first_sound typescript is_module = (chained_none, refl)

-- what was read of a token so far
abbrev DoneSo : PartKind → Option Enclosed → TrackView → Option PartKind → Type 0
DoneSo kind was t None = Taken kind was t.nest.frames t.state
DoneSo kind was t (Some left) = (enclosing t.nest.frames ≡ was) × ((is_code t.state ≡ true) × SameKind kind left)

same-kind : (a b c : PartKind) → SameKind a b → SameKind b c → SameKind a c
same-kind a b c ab bc = grind (arith, ab, bc)

same-taken : (a b : PartKind) (was : Option Enclosed) (after : List Frame) (s : State) → SameKind a b → Taken b was after s → Taken a was after s
same-taken a b was after s same taken = ⊎_elim (λ e. subst (λ k. Taken k was after s) e taken) (λ p. let k = plain_kept b was after s p.1 taken in plain_taken a was after s p.0 k.0 k.1) same

turn-done : (turn : Turn) (nest : Nested) (typescript : Bool) (kind left : PartKind) (was : Option Enclosed) → SameKind kind left → EffectOf left was turn nest.frames → DoneSo kind was (read_on turn nest typescript).track (read_on turn nest typescript).left
turn-done (Done s) nest typescript kind left was same effect = same-taken kind left was nest.frames s same effect
turn-done (Again s next) nest typescript kind left was same effect = (effect.0, (effect.1.0, same-kind kind left next same effect.1.1))

left-done : (left : Option PartKind) (t : TrackView) (had_line_break : Bool) (kind : PartKind) (was : Option Enclosed) → IsSound t → DoneSo kind was t left → DoneSo kind was (read_left had_line_break t left).track (read_left had_line_break t left).left
left-done None t had_line_break kind was sound so = so
left-done (Some left) t had_line_break kind was sound so =
    let r = read_once t left had_line_break in
    turn-done r.turn r.nest t.typescript kind left was so.1.1 (subst (λ w. EffectOf left w r.turn r.nest.frames) so.0 (read_right t left had_line_break sound so.1.0))

times-done : (n : ℕ) (had_line_break : Bool) (r : Reading) (kind : PartKind) (was : Option Enclosed) → IsSound r.track → DoneSo kind was r.track r.left → DoneSo kind was (read_times n had_line_break r).track (read_times n had_line_break r).left
unfolding read_times
times-done zero had_line_break r kind was sound so = so
times-done (suc n) had_line_break r kind was sound so = times-done n had_line_break (read_left had_line_break r.track r.left) kind was (left-sound r.left r.track had_line_break sound) (left-done r.left r.track had_line_break kind was sound so)

pub step_taken : (t : TrackView) (part : Part) → IsSound t → is_code t.state ≡ true → Taken part.kind (enclosing t.nest.frames) (stepped t part).nest.frames (stepped t part).state
step_taken t part sound code =
    let r = read_times 8 part.had_line_break (reading t (Some part.kind)) in
    let out : r.left ≡ None = read_out_by_rank 8 t part.kind part.had_line_break (omega (arith, rank_small t.state part.kind)) in
    subst (λ left. DoneSo part.kind (enclosing t.nest.frames) r.track left) out (times-done 8 part.had_line_break (reading t (Some part.kind)) part.kind (enclosing t.nest.frames) sound (refl, (code, inl refl)))
