use Rattle.std.proofs.Common.{◌∙◌, ◌+◌, ◌++◌, append_assoc, drop, length, sym, ap, arith}
use Rattle.std.specs.Prelude.{get_or, slice_range}
use Rattle.ecma_html.specs.Marked.{marked, marked_style}
use Rattle.ecma_html.specs.Markup as markup
use Rattle.ecma_styles.specs.Styles.{styled}
use Rattle.ecma_html.proofs.MarkedLemmas.{item-html, one-added}
use Rattle.ecma_html.proofs.MarkupLemmas.{item-within, no_piece}
use Rattle.ecma_html.proofs.markup.push_pieces.Goals as goal

pub slice_bounds-own-end : goal.slice_bounds-own-end
slice_bounds-own-end c =
    let within = item-within c.args.pieces.now c.loop-piece.piece-index no_piece (length c.args.bytes.now) c.loop-piece-test.true c.loop-piece.invariant.covers in
    let order = within.0 in
    let end = within.1 in
    omega (arith, order, end)

pub loop-piece-preserved : goal.loop-piece-preserved
loop-piece-preserved c =
    let bytes = c.args.bytes.now in
    let pieces = c.args.pieces.now in
    let places = c.args.places.now in
    let at = c.loop-piece.piece-index in
    let span = (get_or pieces at no_piece).span in
    let own = slice_range bytes span.lo.0 span.hi.0 in
    let out = c.loop-piece.out.items in
    let rest = markup.pieces_html bytes (marked places (styled (drop c.taken_behind-taken.result c.args.classes.now) (drop (at + 1) pieces))) in
    record {
      same = λ order.
          ap (λ front. front ++ rest) (c.in_ok-push_styled.ensures ∙ ap (λ k. out ++ markup.styled_html k own) (c.marked_style-style.ensures order ∙ ap (marked_style places span) c.class_of_piece-class.ensures))
          ∙ append_assoc out _ rest
          ∙ ap (λ more. out ++ more) (sym (item-html places bytes (drop c.loop-piece.taken c.args.classes.now) (drop c.taken_behind-taken.result c.args.classes.now) pieces at no_piece c.loop-piece-test.true c.taken_behind-taken.ensures))
          ∙ c.loop-piece.invariant.same order;
      added = one-added bytes pieces at no_piece c.marked_style-style.result c.args.out.now.items out c.push_styled.new.out.items c.loop-piece-test.true c.loop-piece.invariant.added c.in_ok-push_styled.ensures;
      covers = (item-within pieces at no_piece (length bytes) c.loop-piece-test.true c.loop-piece.invariant.covers).2;
    }
