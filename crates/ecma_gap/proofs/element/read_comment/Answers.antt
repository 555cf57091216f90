use Rattle.std.proofs.Common.{◌≡◌, Bool, sym, ap, ◌∙◌, nat_eq, codes}
use Rattle.std.specs.Prelude.{is_some}
use Rattle.std.specs.List.{starts_with}
use Rattle.std.specs.Str.{chars}
use Rattle.ecma_place.specs.Text.{Text}
use Rattle.ecma_place.specs.Cursor.{rest, place}
use Rattle.ecma_grammar.specs.Fronts.{begins_with}
use Rattle.ecma_gap.specs.GapRecords.{gap_so_far}
use Rattle.ecma_gap.proofs.NextElements.{common-line, common-block, common-none, next-said, next-moved, next-free, none-said, none-moved}
use Rattle.ecma_grammar.proofs.SignLemmas.{slashes-seen, opening-seen}
use Rattle.ecma_gap.proofs.element.read_comment.Goals as goal

slashes : (text : Text) (b x : Bool) → b ≡ starts_with nat_eq text (chars (codes "//")) → b ≡ x → begins_with (codes "//") text ≡ x
slashes text b x seen e = sym (slashes-seen text) ∙ sym seen ∙ e

opening : (text : Text) (b x : Bool) → b ≡ starts_with nat_eq text (chars (codes "/*")) → b ≡ x → begins_with (codes "/*") text ≡ x
opening text b x seen e = sym (opening-seen text) ∙ sym seen ∙ e

pub read_line_comment-requires : goal.read_line_comment-requires
read_line_comment-requires c = slashes _ _ _ c.is_str.ensures c.if-is_str.true

pub returns-in_err-read_line_comment-clause-free : goal.returns-in_err-read_line_comment-clause-free
returns-in_err-read_line_comment-clause-free c =
    λ h. let no = rw c.in_err-read_line_comment.was at (c.read_line_comment.ensures.free (next-free c.args.mode.now (place c.args.input.now) (rest c.args.input.now) (gap_so_far c.args.so_far.now) _ _ (common-line (rest c.args.input.now) c.requires (slashes _ _ _ c.is_str.ensures c.if-is_str.true)) h)) in cc

pub returns-in_ok-read_line_comment-clause-more : goal.returns-in_ok-read_line_comment-clause-more
returns-in_ok-read_line_comment-clause-more c =
    sym (ap is_some (common-line (rest c.args.input.now) c.requires (slashes _ _ _ c.is_str.ensures c.if-is_str.true)))

pub returns-in_ok-read_line_comment-clause-so_far : goal.returns-in_ok-read_line_comment-clause-so_far
returns-in_ok-read_line_comment-clause-so_far c =
    next-said c.args.mode.now (place c.args.input.now) (rest c.args.input.now) (gap_so_far c.args.so_far.now) _ _ _ (common-line (rest c.args.input.now) c.requires (slashes _ _ _ c.is_str.ensures c.if-is_str.true)) c.in_ok-read_line_comment.ensures.so_far

pub returns-in_ok-read_line_comment-clause-moved : goal.returns-in_ok-read_line_comment-clause-moved
returns-in_ok-read_line_comment-clause-moved c =
    next-moved c.args.input.now _ _ _ (common-line (rest c.args.input.now) c.requires (slashes _ _ _ c.is_str.ensures c.if-is_str.true)) c.read_line_comment.ensures.moved

pub read_block_comment-requires : goal.read_block_comment-requires
read_block_comment-requires c = opening _ _ _ c.is_str-else-is_str.ensures c.if-is_str-2.true

pub returns-in_err-read_block_comment-clause-free : goal.returns-in_err-read_block_comment-clause-free
returns-in_err-read_block_comment-clause-free c =
    λ h. let no = rw c.in_err-read_block_comment.was at (c.read_block_comment.ensures.free (next-free c.args.mode.now (place c.args.input.now) (rest c.args.input.now) (gap_so_far c.args.so_far.now) _ _ (common-block (rest c.args.input.now) c.requires (slashes _ _ _ c.is_str.ensures c.if-is_str.false) (opening _ _ _ c.is_str-else-is_str.ensures c.if-is_str-2.true)) h)) in cc

pub returns-in_ok-read_block_comment-clause-more : goal.returns-in_ok-read_block_comment-clause-more
returns-in_ok-read_block_comment-clause-more c =
    sym (ap is_some (common-block (rest c.args.input.now) c.requires (slashes _ _ _ c.is_str.ensures c.if-is_str.false) (opening _ _ _ c.is_str-else-is_str.ensures c.if-is_str-2.true)))

pub returns-in_ok-read_block_comment-clause-so_far : goal.returns-in_ok-read_block_comment-clause-so_far
returns-in_ok-read_block_comment-clause-so_far c =
    next-said c.args.mode.now (place c.args.input.now) (rest c.args.input.now) (gap_so_far c.args.so_far.now) _ _ _ (common-block (rest c.args.input.now) c.requires (slashes _ _ _ c.is_str.ensures c.if-is_str.false) (opening _ _ _ c.is_str-else-is_str.ensures c.if-is_str-2.true)) c.in_ok-read_block_comment.ensures.so_far

pub returns-in_ok-read_block_comment-clause-moved : goal.returns-in_ok-read_block_comment-clause-moved
returns-in_ok-read_block_comment-clause-moved c =
    next-moved c.args.input.now _ _ _ (common-block (rest c.args.input.now) c.requires (slashes _ _ _ c.is_str.ensures c.if-is_str.false) (opening _ _ _ c.is_str-else-is_str.ensures c.if-is_str-2.true)) c.in_ok-read_block_comment.ensures.moved

pub returns-else-is_str-2-clause-more : goal.returns-else-is_str-2-clause-more
returns-else-is_str-2-clause-more c =
    sym (ap is_some (common-none (rest c.args.input.now) c.requires (slashes _ _ _ c.is_str.ensures c.if-is_str.false) (opening _ _ _ c.is_str-else-is_str.ensures c.if-is_str-2.false)))

pub returns-else-is_str-2-clause-so_far : goal.returns-else-is_str-2-clause-so_far
returns-else-is_str-2-clause-so_far c =
    none-said c.args.mode.now (place c.args.input.now) (rest c.args.input.now) (gap_so_far c.args.so_far.now) _ (common-none (rest c.args.input.now) c.requires (slashes _ _ _ c.is_str.ensures c.if-is_str.false) (opening _ _ _ c.is_str-else-is_str.ensures c.if-is_str-2.false))

pub returns-else-is_str-2-clause-moved : goal.returns-else-is_str-2-clause-moved
returns-else-is_str-2-clause-moved c =
    none-moved c.args.input.now _ (common-none (rest c.args.input.now) c.requires (slashes _ _ _ c.is_str.ensures c.if-is_str.false) (opening _ _ _ c.is_str-else-is_str.ensures c.if-is_str-2.false))
