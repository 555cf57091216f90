use Rattle.std.proofs.Common.{map}
use Rattle.ecma_classes.specs.Classes.{comment_spans, over, spans_of_kept}
use Rattle.ecma_classes.specs.Marks.{IsForward}
use Rattle.ecma_classes.specs.declared.piece.Class.TheVariants.{Comment}
use Rattle.ecma_classes.proofs.MemberLemmas.{all_in}
use Rattle.ecma_classes.proofs.MergeLemmas.{merges}
use Rattle.ecma_classes.proofs.marks.Marks.new.Goals as goal

pub returns : goal.returns
returns c = λ start order forward.
    let kept = c.args.kept.now in
    merges start kept (map (over Comment) (comment_spans c.args.comments.now)) c.in_ok-comments_in_order.field-0.items order (λ s i. all_in IsForward (spans_of_kept kept) forward s i)
    c.in_ok-comments_in_order.ensures
