use Rattle.std.proofs.Common.{arith, rules}
use Rattle.ecma_stdio.proofs.Digits.{digits-fit, pair-written}
use Rattle.ecma_stdio.proofs.decimal.push_pair.Goals as goal

pub write_digits-behind-requires : goal.write_digits-behind-requires
write_digits-behind-requires c = let fit = digits-fit c.args.second c.ranges.second.fits in (omega (arith, fit), search rules)

pub overflow_sub-behind : goal.overflow_sub-behind
overflow_sub-behind c = let fit = digits-fit c.args.second c.ranges.second.fits in omega arith

pub write_digits-start-requires : goal.write_digits-start-requires
write_digits-start-requires c =
    let one = digits-fit c.args.first c.ranges.first.fits in
    let two = digits-fit c.args.second c.ranges.second.fits in
    (omega arith, omega arith)

pub returns : goal.returns
returns c =
    let one = c.write_digits-behind in
    let two = c.write_digits-start in
    let pair = pair-written c.args.first c.args.second one.result two.result one.new.buf two.new.buf c.ranges.second.fits one.ensures.start one.auto.buf one.ensures.written one.ensures.before two.ensures.written in
    grind (arith, pair)
