use Rattle.std.proofs.Common.{rules, of_calls, arith, ◌≡◌, ◌+◌, sym, subst, ◌∙◌, ap, nat_le}
use Rattle.std.proofs.lemmas.Fn.{always_returns_same}
use Rattle.std.proofs.lemmas.List.Sorted.{IsPartitionedBy-leb}
use Rattle.std.proofs.lemmas.List.Sums.{prefix_len_is}
use Rattle.std.specs.List.{prefix_len}
use Rattle.std.specs.List.Sorted.{IsPartitionedBy}
use Rattle.ecma_positions.specs.Positions.{line_starts}
use Rattle.ecma_positions.proofs.LineLemmas.{rising, up-to}
use Rattle.ecma_positions.proofs.position.LineStarts.count_at.Goals as goal

pub returns-clause-counted : goal.returns-clause-counted
returns-clause-counted c bytes shows =
    let same : c.as_slice.result.now ≡ line_starts bytes = c.as_slice.ensures.value ∙ shows in
    let parted = subst (IsPartitionedBy (λ s. nat_le s c.args.place)) (sym same) (IsPartitionedBy-leb (λ x. x) (line_starts bytes) c.args.place (rising 0 bytes)) in
    let point = c.partition_point.ensures.partitioned (λ s. nat_le s c.args.place) (always_returns_same _ _ _ (λ a r f k. search (rules, of_calls))) parted in
    let prefix = prefix_len_is (λ s. nat_le s c.args.place) c.as_slice.result.now c.partition_point.result 0 c.partition_point.ensures.bound (λ k l. point.0 k 0 (omega arith) l) (λ l. point.1 c.partition_point.result 0 (omega arith) l) in
    let place : c.args.place ≡ 0 + c.args.place = omega arith in
    sym prefix
    ∙ ap (λ l. prefix_len (λ s. nat_le s c.args.place) l) same
    ∙ ap (λ n. prefix_len (λ s. nat_le s n) (line_starts bytes)) place
    ∙ up-to 0 c.args.place bytes
