use Rattle.std.proofs.Common.{◌∙◌, Bool, List, ap, map, subst, sym, true}
use Rattle.ecma_span.specs.declared.place.BytePos.{BytePos}
use Rattle.ecma_comments.specs.declared.comments_buffer.BufferedComment.{BufferedComment}
use Rattle.ecma_reader.specs.Rereads.{steps_to_end_by}
use Rattle.ecma_reader.specs.Readers.{end_by}
use Rattle.ecma_rows.specs.Asked.{asked_view, begin, judged}
use Rattle.ecma_rows.specs.Rows.{comment_row, comment_rows}
use Rattle.ecma_rows.specs.Told.{IsTold, Rows, Told, told_by}
use Rattle.ecma_rows.specs.declared.comments.CommentRow.{CommentRow}
use Rattle.ecma_rows.proofs.comments.write_comments.Goals as goal

pub returns-clause-told : goal.returns-clause-told
returns-clause-told c =
    let asked = asked_view c.in-Ok.asked in
    let s = begin true asked in
    let read = c.in_ok-count_rest.ensures.read asked.rule s c.in_ok-reader.ensures.shows in
    let left = c.finish-outcome.ensures.left (end_by asked.rule s) read.at in
    let met = c.is_met-is_met.ensures (steps_to_end_by asked.rule s) (c.finish-outcome.ensures.rereads ∙ read.counted) in
    let kept = c.deref-2.ensures.value ∙ left.comments in
    let places = c.deref.ensures.value ∙ c.in_ok-places.ensures in
    let judges = ap (λ (ps : List BytePos). judged c.args.bits ps c.args.text.now) (sym places) ∙ c.in-Ok.ensures.judged in
    let told = ap (told_by true comment_rows) judges ∙ ap (λ (b : Bool). Rows b (comment_rows (end_by asked.rule s))) (sym met) ∙ ap (λ (cs : List BufferedComment). Rows c.is_met-is_met.result (map comment_row cs)) (sym kept) in
    subst (λ (t : Told CommentRow). IsTold t c.args.out.now c.write.new.out c.write.result) (sym told) c.write.ensures
