use Rattle.std.proofs.Common.{◌≡◌, ◌+◌, length, suc, arith}
use Rattle.ecma_modules.proofs.module.take_calls.Goals as goal

pub calls-preserved : goal.calls-preserved
calls-preserved c = λ n e.
    let more : suc n + c.calls.left ≡ length c.args.scan.now.calls = omega (arith, e) in
    rw c.end_call.ensures.scan (rw c.in_ok-take_told.ensures (rw c.end_call.ensures.told (c.calls.invariant (suc n) more)))

pub returns : goal.returns
returns c = c.calls.invariant 0 (omega (arith, c.calls.auto.left-end, c.calls-test.false, c.open_calls-left-end.ensures))
