use Rattle.std.proofs.Common.{arith}
use Rattle.ecma_stdio.proofs.Escaping.{all-plain, run-behind}
use Rattle.ecma_stdio.proofs.escaped.push_escaped.Goals as goal

pub runs-preserved : goal.runs-preserved
runs-preserved c =
    rw (c.in_ok-push_escaped_byte.ensures, c.in_ok-extend_from_slice.ensures.items) (run-behind c.runs.out.items c.runs.left.now _ c.in-Some.plain c.in-Some.ensures.0 c.runs.invariant)

pub returns : goal.returns
returns c = let all = all-plain c.runs.out.items c.runs.left.now _ c.in_default.ensures c.runs.invariant in grind (arith, all)
