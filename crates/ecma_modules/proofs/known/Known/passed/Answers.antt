use Rattle.ecma_modules.proofs.PassLemmas.{quiet-if}
use Rattle.ecma_modules.proofs.known.Known.passed.Goals as goal

pub returns : goal.returns
returns c = quiet-if c.args.self.now c.args.part c.quiet_stage.result (cc c.if-self.false) (cc (c.if-not-is_off.false, c.is_off.ensures)) c.quiet_stage.ensures
