use Rattle.std.proofs.Common.{◌≡◌, ◌∙◌, ◌++◌, ap, arith, drop, length, subst, sym}
use Rattle.std.specs.Prelude.{slice_range}
use Rattle.ecma_styles.specs.Styles.{left_classes, piece_class, styled}
use Rattle.ecma_html.specs.Marked.{AreInOrder, marked, marked_style}
use Rattle.ecma_html.specs.Markup.{pieces_html, styled_html}
use Rattle.ecma_html.specs.Parts.{Covers, left_html}
use Rattle.ecma_html.proofs.MarkupLemmas.{first-within}
use Rattle.ecma_html.proofs.parts.Markup.push_next.Goals as goal

pub slice_bounds-own-end : goal.slice_bounds-own-end
slice_bounds-own-end c =
    let high = length c.self.inside.bytes.now in
    let within = first-within c.in-Some.piece c.next.new.self high (subst (λ pieces. Covers pieces high) c.in-Some.ensures c.self.invariant) in
    let order = within.0 in
    let end = within.1 in
    omega (arith, order, end)

pub returns-clause-added : goal.returns-clause-added
returns-clause-added c = λ order.
    let bytes = c.self.inside.bytes.now in
    let places = c.self.inside.places.now in
    let styles = drop c.self.inside.taken c.self.inside.classes.items in
    let piece = c.in-Some.piece in
    let left = c.next.new.self in
    let out = c.args.out.now.items in
    let own = slice_range bytes piece.span.lo.0 piece.span.hi.0 in
    let shown = styled_html (marked_style places piece.span (piece_class piece.class styles)) own in
    let same = c.self.view_is in
    let style =
    c.marked_style-style.ensures (subst (λ m. AreInOrder m.places) (sym same) order)
    ∙ ap (marked_style places piece.span) (c.class_of_piece-class.ensures ∙ ap (λ classes. piece_class piece.class (drop c.self.inside.taken classes)) c.deref.ensures.value) in
    record {
      own = shown;
      added = c.in_ok-push_styled.ensures ∙ ap (λ k. out ++ styled_html k own) style;
      left = ap left_html (sym same)
          ∙ ap (λ pieces. pieces_html bytes (marked places (styled styles pieces))) c.in-Some.ensures
          ∙ ap (λ classes. shown ++ pieces_html bytes (marked places (styled classes left)))
          (subst (λ classes. left_classes piece.class (drop c.self.inside.taken classes) ≡ drop c.taken_behind-self-inside.result classes) c.deref-2.ensures.value (sym c.taken_behind-self-inside.ensures));
    }
