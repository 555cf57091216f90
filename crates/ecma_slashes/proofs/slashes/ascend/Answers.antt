use Rattle.std.proofs.Common.{◌∙◌, ap, arith, sym}
use Rattle.ecma_slashes.specs.Rereads.{ascend}
use Rattle.ecma_slashes.proofs.SlashLemmas.{ascend-falls, ascend-on}
use Rattle.ecma_slashes.proofs.slashes.ascend.Goals as goal

pub places-init : goal.places-init
places-init c = ap ascend c.in-Some.ensures.cases.0

pub returns-then-place-last : goal.returns-then-place-last
returns-then-place-last c =
    sym (c.places.invariant ∙ ascend-falls c.places.last c.in-Some.behind.now c.places.place-index (record { 0 = 0 }) c.places-test.true c.if-place-last.true)

pub places-preserved : goal.places-preserved
places-preserved c =
    let on = c.if-place-last.false in
    c.places.invariant ∙ ascend-on c.places.last c.in-Some.behind.now c.places.place-index (record { 0 = 0 }) c.places-test.true (omega (arith, on))
