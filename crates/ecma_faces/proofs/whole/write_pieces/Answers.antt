use Rattle.std.proofs.Common.{◌∙◌, ap, length, subst}
use Rattle.ecma_classes.specs.Classes.{classes_of}
use Rattle.ecma_faces.specs.Pieces.{piece_rows}
use Rattle.ecma_report.specs.Reports.{Adds}
use Rattle.ecma_faces.proofs.whole.write_pieces.Goals as goal

pub new-requires-clause-tokens : goal.new-requires-clause-tokens
new-requires-clause-tokens g c = rw c.as_slice-kept.ensures.value c.requires.covered.tokens_stand

pub new-requires-clause-comments : goal.new-requires-clause-comments
new-requires-clause-comments g c = rw c.as_slice-comments.ensures.value c.requires.covered.comments_stand

pub returns-clause-adds : goal.returns-clause-adds
returns-clause-adds g c = λ ask file bytes of.
    let first = c.args.report.now in
    let last = c.push_pieces.new.report in
    let kept = c.args.gathered.now.kept.items in
    let comments = c.args.gathered.now.comments.items in
    let before = g.W.Write.contents c.args.out.now in
    let after = g.W.Write.contents c.push_pieces.new.out in
    let same =
    c.in_ok-cover.ensures.same
    ∙ ap (λ k. classes_of 0 (length first.text.now) k c.as_slice-comments.result.now) c.as_slice-kept.ensures.value
    ∙ ap (λ b. classes_of 0 (length first.text.now) kept b) c.as_slice-comments.ensures.value
    ∙ ap (λ t. classes_of 0 (length t) kept comments) of.text in
    subst (λ pieces. Adds before after first.out.items last.out.items (piece_rows ask file bytes pieces)) same (c.in_ok-push_pieces.ensures.adds ask file bytes of)
