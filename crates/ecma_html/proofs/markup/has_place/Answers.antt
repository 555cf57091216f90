use Rattle.std.proofs.Common.{rules, of_calls, ◌∙◌, length, le-ltb, nat_lt}
use Rattle.std.proofs.lemmas.List.Sorted.{IsPartitionPoint-from_clause, IsPartitionedBy-ltb}
use Rattle.ecma_html.specs.Marked.{number_of}
use Rattle.ecma_html.proofs.MarkedLemmas.{first-tells, none-tells}
use Rattle.ecma_html.proofs.markup.has_place.Goals as goal

pub returns-then-first-places : goal.returns-then-first-places
returns-then-first-places c order =
    let places = c.args.places.now in
    let first = c.partition_point-first.result in
    first-tells places c.args.span first order
    (IsPartitionPoint-from_clause (λ p. nat_lt p.0 c.args.span.lo.0) places first c.partition_point-first.ensures.partitioned (IsPartitionedBy-ltb number_of places c.args.span.lo.0 order) (λ a r f k. search (rules, of_calls)))
    c.if-first-places.true

pub returns-else-first-places : goal.returns-else-first-places
returns-else-first-places c order =
    let places = c.args.places.now in
    let first = c.partition_point-first.result in
    le-ltb first (length places) c.if-first-places.false
    ∙ none-tells places c.args.span first
    (IsPartitionPoint-from_clause (λ p. nat_lt p.0 c.args.span.lo.0) places first c.partition_point-first.ensures.partitioned (IsPartitionedBy-ltb number_of places c.args.span.lo.0 order) (λ a r f k. search (rules, of_calls)))
    c.if-first-places.false
