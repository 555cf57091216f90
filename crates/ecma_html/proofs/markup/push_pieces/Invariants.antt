-- What was added, and the pieces that are left, are all; they cover what is left of the text.
use Rattle.std.proofs.Common.{◌≡◌, ◌++◌, drop, length, take}
use Rattle.ecma_html.specs.Marked.{AreInOrder, WereAdded, marked}
use Rattle.ecma_html.specs.Markup.{pieces_html}
use Rattle.ecma_styles.specs.Styles.{styled}
use Rattle.ecma_html.specs.Parts.{Covers}
use Rattle.ecma_html.proofs.markup.push_pieces.Given as goal

abbrev pub invariant-loop-piece : goal.invariant-loop-piece
invariant-loop-piece l = record {
  same : AreInOrder l.places → l.out.items ++ pieces_html l.bytes (marked l.places (styled (drop l.taken l.classes) (drop l.piece-index l.pieces))) ≡ l.initial.out.items ++ pieces_html l.bytes (marked l.places (styled l.classes l.pieces));
  added : WereAdded l.bytes (take l.piece-index l.pieces) l.initial.out.items l.out.items;
  covers : Covers (drop l.piece-index l.pieces) (length l.bytes);
}
