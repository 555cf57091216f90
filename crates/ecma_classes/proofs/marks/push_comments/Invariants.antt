use Rattle.std.proofs.Common.{◌≡◌, ◌++◌, map, take}
use Rattle.ecma_classes.specs.Classes.{comment_spans, over}
use Rattle.ecma_classes.specs.declared.piece.Class.TheVariants.{Comment}
use Rattle.ecma_classes.proofs.marks.push_comments.Given as goal

abbrev pub invariant-comments : goal.invariant-comments
invariant-comments l = l.pieces.items ≡ l.fn.pieces.items ++ map (over Comment) (comment_spans (take l.buffered-index l.comments))
