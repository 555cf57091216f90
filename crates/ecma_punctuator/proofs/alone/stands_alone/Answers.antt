use Rattle.std.proofs.Common.{sym, ◌∙◌}
use Rattle.ecma_place.specs.Cursor.{rest}
use Rattle.ecma_punctuator.proofs.AloneLemmas.{behind-byte}
use Rattle.ecma_punctuator.proofs.alone.stands_alone.Goals as goal

pub returns-then-not-goes_on : goal.returns-then-not-goes_on
returns-then-not-goes_on c = λ h.
    behind-byte (rest c.args.input.now) c.args.c c.in-Some.next _ _ c.requires.ascii c.requires.first (sym c.in-Some.is ∙ c.byte_ahead.ensures.byte) c.goes_on.ensures c.if-not-goes_on.true c.opens_fraction.ensures h
