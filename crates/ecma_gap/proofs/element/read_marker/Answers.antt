use Rattle.std.proofs.Common.{◌≡◌, ◌-◌, ℕ, arith, ap, replicate, ◌∙◌}
use Rattle.ecma_place.specs.Cursor.{Cursor, passed, place}
use Rattle.ecma_place.proofs.MoveLemmas.{place-passed-le}
use Rattle.ecma_grammar.specs.Comments.{marker_margin}
use Rattle.ecma_grammar.specs.Found.{span_of}
use Rattle.ecma_gap.specs.GapRecords.{gap_so_far}
use Rattle.ecma_gap.proofs.ElementLemmas.{marker-said, marker-moved, marker-places, two-moves, margin-within, signs-left, space-left}
use Rattle.ecma_grammar.proofs.SignLemmas.{rest-behind}
use Rattle.ecma_gap.proofs.element.read_marker.Goals as goal

-- behind the signs
seventh : (old mid behind : Cursor) (m first : ℕ) → m ≡ marker_margin first → mid ≡ passed m old → behind ≡ passed (7 - m) mid → behind ≡ passed 7 old
seventh old mid behind m first e a b = two-moves old mid behind m (7 - m) 7 a b (omega (arith, e, margin-within first))

pub pass-requires-2 : goal.pass-requires-2
pass-requires-2 c = signs-left (replicate 7 c.args.first) c.args.input.now _ _ c.requires.signs c.pass.ensures

pub new-span-requires : goal.new-span-requires
new-span-requires c = omega (arith, c.cur_pos-start.ensures, c.cur_pos.ensures, place-passed-le _ _ _ c.pass.ensures, place-passed-le _ _ _ c.pass-2.ensures)

pub pass-requires-3 : goal.pass-requires-3
pass-requires-3 c =
    let behind = seventh _ _ _ _ c.args.first c.marker_margin-margin.ensures c.pass.ensures c.pass-2.ensures in
    space-left c.args.first _ _ c.space_before_text.ensures (λ is. rw (rest-behind _ _ 7 behind) (c.requires.space is))

pub read_comment_line-requires : goal.read_comment_line-requires
read_comment_line-requires c = omega (arith, c.cur_pos-comment.ensures, place-passed-le _ _ _ c.pass-2.ensures, place-passed-le _ _ _ c.pass-3.ensures)

pub returns-clause-span : goal.returns-clause-span
returns-clause-span c =
    let behind = seventh _ _ _ _ c.args.first c.marker_margin-margin.ensures c.pass.ensures c.pass-2.ensures in
    let high = c.cur_pos.ensures ∙ marker-places c.args.first c.args.input.now _ 7 c.requires.signs c.requires.ascii (omega arith) behind in
    c.new-span.ensures ∙ ap (λ (low : ℕ). span_of low c.cur_pos.result.0) c.cur_pos-start.ensures ∙ ap (λ (n : ℕ). span_of (place c.args.input.now) n) high

pub returns-clause-so_far : goal.returns-clause-so_far
returns-clause-so_far c =
    let behind = seventh _ _ _ _ c.args.first c.marker_margin-margin.ensures c.pass.ensures c.pass-2.ensures in
    marker-said c.args.mode.now (gap_so_far c.args.so_far.now) _ _ _ c.args.first _ c.args.input.now _ _ _ _ _ _ _ c.requires.signs c.requires.ascii c.requires.plain c.requires.space
    c.cur_pos-start.ensures (rw c.marker_margin-margin.ensures at c.pass.ensures) (margin-within c.args.first) c.cur_pos-comment.ensures behind c.cur_pos.ensures
    c.space_before_text.ensures c.pass-3.ensures c.read_comment_line.ensures.moved c.in_ok-open_at.ensures.so_far (rw c.new-span.ensures at c.in_ok-add_fault.ensures) c.in_ok-read_comment_line.ensures.so_far

pub returns-clause-moved : goal.returns-clause-moved
returns-clause-moved c =
    let behind = seventh _ _ _ _ c.args.first c.marker_margin-margin.ensures c.pass.ensures c.pass-2.ensures in
    marker-moved c.args.first _ c.args.input.now _ _ _ c.requires.space behind c.space_before_text.ensures c.pass-3.ensures c.read_comment_line.ensures.moved
