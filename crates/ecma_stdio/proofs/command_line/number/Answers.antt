use Rattle.std.proofs.Common.{arith, ap, ◌∙◌}
use Rattle.std.specs.Prelude.{slice_get}
use Rattle.ecma_stdio.proofs.Numbers.{number_parsed}
use Rattle.ecma_stdio.proofs.command_line.number.Goals as goal

pub returns-in-Some : goal.returns-in-Some
returns-in-Some c =
    c.ok.ensures.value
    ∙ number_parsed c.args.word.now c.in-Some.first.now c.parse.result (c.in-Some.ensures.value ∙ ap (λ bytes. slice_get bytes 0) c.as_bytes.ensures.value)
    (grind (arith, c.if-first-ge49.true)) (grind (arith, c.if-first-le57.true)) c.parse.ensures.value.0
