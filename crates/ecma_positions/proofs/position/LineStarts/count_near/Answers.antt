use Rattle.std.proofs.Common.{◌∙◌}
use Rattle.ecma_positions.proofs.LineLemmas.{counted-near}
use Rattle.ecma_positions.proofs.position.LineStarts.count_near.Goals as goal

pub returns-then-place-starts-clause-counted : goal.returns-then-place-starts-clause-counted
returns-then-place-starts-clause-counted c bytes shows =
    counted-near bytes c.as_slice-starts.result.now c.args.place c.args.near (c.as_slice-starts.ensures.value ∙ shows) c.if-near-gt0.true c.if-near-starts.true c.if-starts-near.true c.if-place-starts.true
