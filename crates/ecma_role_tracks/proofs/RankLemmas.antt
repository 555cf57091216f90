-- Each time that a token is read again, that is in a state of lower rank
use Rattle.std.proofs.Common.{◌≡◌, ◌<◌, ◌≤◌, ◌∙◌, ap, ℕ, zero, suc, Bool, true, false, Option, Some, None, arith}
use Rattle.ecma_role_table.specs.declared.part.PartKind.{PartKind}
use Rattle.ecma_role_table.specs.declared.frame.FrameKind.{FrameKind}
use Rattle.ecma_role_table.specs.declared.frame.FrameKind.TheVariants as frame
use Rattle.ecma_role_table.specs.declared.frame.Kinds.TheVariants as kinds
use Rattle.ecma_role_table.specs.declared.state.State.{State}
use Rattle.ecma_role_table.specs.declared.state.State.TheVariants as state
use Rattle.ecma_role_table.specs.declared.moves.Angles.{Angles}
use Rattle.ecma_role_table.specs.declared.moves.Angles.TheVariants as angles
use Rattle.ecma_role_table.specs.declared.moves.Move.{Move}
use Rattle.ecma_role_table.specs.declared.moves.Move.TheVariants as move
use Rattle.ecma_role_table.specs.declared.moves.Turn.{Turn}
use Rattle.ecma_role_table.specs.declared.moves.Turn.TheVariants.{Again, Done}
use Rattle.ecma_role_moves.specs.Moves.{Landed, angle_over, angle, back_of, behind_annotation, behind_ended_type, behind_method, behind_no_body, behind_no_class, by_head, by_mark, decorated_of, equals_behind, fresh_of, landed, moved, operand_for_key, operand_for_member, type_angles, word_turned}
use Rattle.ecma_role_moves.specs.Nest.{Nested, dropped, popped, top}
use Rattle.ecma_role_tracks.specs.Rank.{height, rank, rank_of_begins, rank_of_fresh, turn_height}
use Rattle.ecma_role_tracks.specs.Track.{TrackView, read_on, read_once, read_times, reading, readied, seen, track}
use Rattle.ecma_role_table.specs.Table.{row}
use Rattle.ecma_role_tracks.proofs.RowRanks.{row_low}
use Rattle.ecma_role_tracks.proofs.TrackLemmas.{nothing_left, one_more}

-- where a move leads

low-fresh : (over : Option FrameKind) (kind : PartKind) → rank (fresh_of over) kind ≤ rank_of_fresh kind
low-fresh over kind = grind arith

low-fresh-operand : (over : Option FrameKind) (kind : PartKind) → rank (operand_for_member (fresh_of over)) kind ≤ rank_of_fresh kind
low-fresh-operand over kind = grind arith

low-fresh-key : (over : Option FrameKind) (kind : PartKind) → rank (operand_for_key (fresh_of over)) kind ≤ rank_of_fresh kind
low-fresh-key over kind = grind arith

low-word : (over : Option FrameKind) (kind : PartKind) (nest : Nested) → turn_height (word_turned (fresh_of over) kind nest).turn ≤ suc (rank_of_begins kind)
low-word over kind nest = grind arith

low-method : (over : Option FrameKind) (kind : PartKind) → rank (behind_method over) kind ≤ 2
low-method over kind = grind arith

low-head : (head : Option FrameKind) (method : State) (kind : PartKind) → rank method kind ≤ 2 → rank (by_head head method) kind ≤ 2
low-head head method kind low = grind arith

low-no-body : (head over : Option FrameKind) (kind : PartKind) → rank (behind_no_body head over) kind ≤ 2
low-no-body head over kind = low-head head (behind_method over) kind (low-method over kind)

low-no-class : (over : Option FrameKind) (kind : PartKind) → rank (behind_no_class over) kind ≤ 2
low-no-class over kind = grind arith

low-decorated : (over : Option FrameKind) (kind : PartKind) → rank (decorated_of over) kind ≤ 2
low-decorated over kind = grind arith

low-annotation : (over : Option FrameKind) (kind : PartKind) → rank (behind_annotation over) kind ≤ 3
low-annotation over kind = grind arith

low-mark : (mark : Option FrameKind) (annotated : State) (kind : PartKind) → rank annotated kind ≤ 3 → rank (by_mark mark annotated) kind ≤ 3
low-mark mark annotated kind low = grind arith

low-ended : (mark over : Option FrameKind) (kind : PartKind) → rank (behind_ended_type mark over) kind ≤ 3
low-ended mark over kind = low-mark mark (behind_annotation over) kind (low-annotation over kind)

-- right angle brackets in a type: where `=` is left, the state is none in the brackets of a type
low-back : (over : Option FrameKind) → turn_height (equals_behind (back_of over)) ≤ 6
low-back over = grind arith

low-angle : (over : Option FrameKind) (l : Landed) → turn_height (equals_behind l.state) ≤ 6 → turn_height (equals_behind (angle_over over l).state) ≤ 6
low-angle None l low = low
low-angle (Some frame.InnerAngle) l low = omega arith
low-angle (Some frame.OuterAngle) l low = omega arith
low-angle (Some frame.ParametersAngle) l low = omega arith
low-angle (Some frame.OperandAngle) l low = grind arith
low-angle (Some frame.HeadAngle) l low = low-back (top (popped l.nest))
low-angle (Some frame.ArgumentsAngle) l low = grind arith
low-angle (Some frame.AsyncAngle) l low = grind arith
low-angle (Some frame.Candidate) l low = grind arith
low-angle (Some k) l low = grind (arith, low)

low-angles : (angles : Angles) (nest : Nested) → turn_height (equals_behind (type_angles angles nest).state) ≤ 6
low-angles angles.One nest =
    let l = landed state.TypeBrackets nest in
    low-angle (top l.nest) l (omega arith)
low-angles angles.Two nest =
    let l = landed state.TypeBrackets nest in
    low-angle (top (angle l).nest) (angle l) (low-angle (top l.nest) l (omega arith))
low-angles angles.Three nest =
    let l = landed state.TypeBrackets nest in
    low-angle (top (angle (angle l)).nest) (angle (angle l)) (low-angle (top (angle l).nest) (angle l) (low-angle (top l.nest) l (omega arith)))

pub rank_small : (s : State) (kind : PartKind) → rank s kind ≤ 7
rank_small s kind = grind arith

pub move_low : (m : Move) (kind : PartKind) (nest : Nested) → turn_height (moved m kind nest).turn ≤ height m kind
unfolding moved
move_low (move.To s change) kind nest = omega arith
move_low (move.Again s change) kind nest = omega arith
move_low move.Fresh kind nest = omega (arith, low-fresh (top (dropped kinds.Marks nest)) kind)
move_low move.FreshOperand kind nest = omega (arith, low-fresh-operand (top (dropped kinds.Marks nest)) kind)
move_low move.FreshBrace kind nest = omega (arith, low-fresh-key (top (dropped kinds.Marks nest)) kind)
move_low move.FreshWord kind nest = low-word (top (dropped kinds.Marks nest)) kind (dropped kinds.Marks nest)
move_low move.Brace kind nest = omega arith
move_low move.Paren kind nest = omega arith
move_low move.Bracket kind nest = omega arith
move_low move.Semi kind nest = omega arith
move_low move.Comma kind nest = omega arith
move_low (move.Colon grouping) kind nest = omega arith
move_low (move.Greater angles) kind nest = omega arith
move_low (move.TypeGreater angles true) kind nest = low-angles angles nest
move_low (move.TypeGreater angles false) kind nest = omega arith
move_low move.Body kind nest = omega arith
move_low move.ClassBody kind nest = omega arith
move_low move.NoBody kind nest = omega (arith, low-no-body (top nest) (top (popped nest)) kind)
move_low move.NoClassBody kind nest = omega (arith, low-no-class (top nest) kind)
move_low move.NoDecorator kind nest = omega (arith, low-decorated (top nest) kind)
move_low move.EndType kind nest = omega (arith, low-ended (top (dropped kinds.TypeConditions nest)) (top (popped (dropped kinds.TypeConditions nest))) kind)
move_low move.Substitution kind nest = omega arith
move_low move.EndTemplate kind nest = omega arith

-- a token that is read again is in a state of lower rank
pub read_low : (t : TrackView) (kind : PartKind) (had_line_break : Bool) → turn_height (read_once t kind had_line_break).turn ≤ rank t.state kind
unfolding read_once
read_low t kind had_line_break =
    let nest = readied t.state kind had_line_break t.nest in
    let at = seen had_line_break t.typescript nest in
    omega (arith, move_low (row t.state kind at) kind nest, row_low t.state kind at)

-- so it is read out in as many times as the rank, and one more
on-turn : (n : ℕ) (had_line_break : Bool) (turn : Turn) (nest : Nested) (typescript : Bool) (r : ℕ) → turn_height turn ≤ r → r < suc n → ((t : TrackView) (kind : PartKind) → rank t.state kind < n → (read_times n had_line_break (reading t (Some kind))).left ≡ None) → (read_times n had_line_break (read_on turn nest typescript)).left ≡ None
on-turn n had_line_break (Done s) nest typescript r low within ih = ap (λ r. r.left) (nothing_left n had_line_break (track s nest typescript))
on-turn n had_line_break (Again s kind) nest typescript r low within ih = ih (track s nest typescript) kind (omega (arith, low, within))

pub read_out_by_rank : (n : ℕ) (t : TrackView) (kind : PartKind) (had_line_break : Bool) → rank t.state kind < n → (read_times n had_line_break (reading t (Some kind))).left ≡ None
read_out_by_rank zero t kind had_line_break within = absurd (omega (arith, within))
read_out_by_rank (suc n) t kind had_line_break within =
    let turned = read_once t kind had_line_break in
    ap (λ r. r.left) (one_more n had_line_break t kind)
    ∙ on-turn n had_line_break turned.turn turned.nest t.typescript (rank t.state kind) (read_low t kind had_line_break) within (λ u k low. read_out_by_rank n u k had_line_break low)
