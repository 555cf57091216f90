use Rattle.std.proofs.Common.{subst}
use Rattle.std.specs.Prelude.{IfSome}
use Rattle.ecma_modules.specs.Known.{Passes}
use Rattle.ecma_modules.proofs.scan.Scan.quiet_stage.Goals as goal

pub returns-clause-passes : goal.returns-clause-passes
returns-clause-passes c = subst (λ v. IfSome c.passed.result (λ stage. Passes stage c.args.part v.known)) c.self.view_is c.passed.ensures
