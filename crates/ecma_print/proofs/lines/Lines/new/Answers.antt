use Rattle.std.proofs.Common.{refl, arith}
use Rattle.ecma_print.proofs.lines.Lines.new.Goals as goal

pub returns : goal.returns
returns c = λ bytes. record {
  within = omega arith;
  line = refl;
  in_line = record { order = omega arith; unbroken = λ k from to. absurd (omega arith); begins = λ some. absurd (omega arith) };
  units = c.new.ensures bytes;
}
