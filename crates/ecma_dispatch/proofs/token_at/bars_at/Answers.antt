use Rattle.std.proofs.Common.{ap, ◌∙◌, cond, length}
use Rattle.ecma_place.specs.Cursor.{rest, place, passed}
use Rattle.ecma_place.proofs.MoveLemmas.{place-passed-le, span-passed}
use Rattle.ecma_reads.specs.Bars.{bars_spelling}
use Rattle.ecma_reads.specs.GapRecords.{bars_view}
use Rattle.ecma_reads.proofs.FrontLemmas.{bars-front}
use Rattle.ecma_reads.proofs.TokenLemmas.{bars-found}
use Rattle.ecma_dispatch.proofs.token_at.bars_at.Goals as goal

pub new-requires : goal.new-requires
new-requires c =
    let old = c.args.input.now in
    let moved = c.in_ok-gap.ensures.moved ∙ ap (λ b. cond b (passed (length (bars_spelling (rest old))) old) old) c.requires in
    rw (c.cur_pos-start.ensures, c.cur_pos.ensures) (place-passed-le old _ _ moved)

pub returns-clause-found : goal.returns-clause-found
returns-clause-found c =
    let old = c.args.input.now in
    let text = rest old in
    let found = rw c.in-Some.is at c.in_ok-gap.ensures.found in
    let moved = c.in_ok-gap.ensures.moved ∙ ap (λ b. cond b (passed (length (bars_spelling text)) old) old) c.requires in
    let extent = c.new.ensures ∙ span-passed old _ (bars_spelling text) _ _ (bars-front text c.requires) moved c.cur_pos-start.ensures c.cur_pos.ensures in
    bars-found (place old) c.gap_mode.result text (bars_view c.in-Some.field-0) c.new.result c.requires found extent
