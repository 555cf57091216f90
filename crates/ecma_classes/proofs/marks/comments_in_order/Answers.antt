use Rattle.std.proofs.Common.{◌≡◌, ◌∙◌, ◌++◌, List, [], ap, map, rules, subst}
use Rattle.std.specs.List.Sorted.{IsStableByKey}
use Rattle.std.specs.Ordering.{nat_cmp}
use Rattle.std.proofs.lemmas.List.Sorted.{IsNonDecreasingBy-from_sort_by_key, answers_always}
use Rattle.ecma_classes.specs.Classes.{comment_spans, over}
use Rattle.ecma_classes.specs.declared.piece.Class.TheVariants.{Comment}
use Rattle.ecma_classes.specs.declared.piece.Piece.{Piece}
use Rattle.ecma_classes.proofs.OrderLemmas.{in_order_of_sort, sorted_by_rank}
use Rattle.ecma_classes.proofs.marks.comments_in_order.Goals as goal

pub returns : goal.returns
returns c =
    let comments : List Piece = map (over Comment) (comment_spans c.args.comments.now) in
    let before : c.push_comments.new.pieces.items ≡ comments = c.in_ok-push_comments.ensures ∙ ap (λ l. l ++ comments) c.new-marks.ensures.items in
    in_order_of_sort
    comments
    _
    (IsNonDecreasingBy-from_sort_by_key (λ p. p.span.lo.0) _ c.in_ok-sort_by_key.ensures.sorted (λ a r q k. search rules))
    (sorted_by_rank [] (comment_spans c.args.comments.now))
    (subst
    (λ l. IsStableByKey (λ (p : Piece). p.span.lo.0) nat_cmp l c.sort_by_key.new.self.items)
    before
    (c.sort_by_key.ensures.stable (λ p. p.span.lo.0) (answers_always _ _ _ (λ f a r g h. search rules))))
