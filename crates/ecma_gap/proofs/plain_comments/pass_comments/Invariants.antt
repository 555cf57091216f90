use Rattle.std.proofs.Common.{◌≡◌, ℕ, false, length}
use Rattle.ecma_place.specs.Character.{is_white_space}
use Rattle.ecma_place.specs.Cursor.{passed, rest}
use Rattle.ecma_grammar.specs.Fronts.{next_passes}
use Rattle.ecma_gap.proofs.PlainCommentLemmas.{SameFrom}
use Rattle.ecma_gap.proofs.plain_comments.pass_comments.Given as goal

abbrev pub invariant-comments : goal.invariant-comments
invariant-comments l = record {
  from : SameFrom l.fn.flag l.fn.input l.line_break l.input;
  white : next_passes is_white_space (rest l.input) ≡ false;
  ahead : (n : ℕ) × (l.input ≡ passed n l.fn.input);
}

abbrev pub decreases-comments : goal.decreases-comments
decreases-comments l = length (rest l.input)
