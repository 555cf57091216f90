use Rattle.std.proofs.Common.{◌∙◌, arith}
use Rattle.ecma_place.specs.Cursor.{rest}
use Rattle.ecma_template.specs.WrittenTemplates.{piece_of, first_text}
use Rattle.ecma_template.proofs.TemplatePieces.{piece_read, piece_end, piece-slice, cooked_on}
use Rattle.ecma_template.proofs.template.cooked.cook_text.Goals as goal

pub slice-requires-clause-in_order : goal.slice-requires-clause-in_order
slice-requires-clause-in_order c =
    let is = piece_read c.in-Some.piece _ _ c.in-Some.ensures.value c.in-Some.ensures.moved in
    omega (arith, piece_end _ _ _ is, c.pieces.invariant.start, c.cur_pos-end.ensures)

pub pieces-smaller : goal.pieces-smaller
pieces-smaller c =
    let is = piece_read c.in-Some.piece _ _ c.in-Some.ensures.value c.in-Some.ensures.moved in
    omega (arith, is.shorter, c.push_verbatim-in-Some.ensures.shorter)

pub pieces-preserved : goal.pieces-preserved
pieces-preserved c =
    let old = c.pieces.input in
    let mid = c.read_piece.new.input in
    let spelling = first_text (rest old) in
    let piece = piece_of spelling c.in-Some.piece in
    let is = piece_read c.in-Some.piece old mid c.in-Some.ensures.value c.in-Some.ensures.moved in
    let written = c.slice.ensures ∙ piece-slice c.in-Some.piece old mid _ _ c.in-Some.ensures.value c.in-Some.ensures.moved c.pieces.invariant.start c.cur_pos-end.ensures in
    record {
      cooked = c.in_ok-push_verbatim-2.ensures.cooked ∙ cooked_on _ _ _ piece old mid is (c.in_ok-push_piece.ensures spelling written) c.pieces.invariant.cooked;
      start = c.cur_pos-start-in-Some.ensures;
    }
