use Rattle.ecma_stream.proofs.ArmLemmas.{shown-back}
use Rattle.ecma_stream.proofs.lexer.Lexer.go_before.Goals as goal

pub invariant_of-self : goal.invariant_of-self
invariant_of-self c = shown-back c.self.inside c.args.self.now c.reset_to.new.self c.args.before c.self.view_is c.self.invariant c.requires.place c.requires.opened c.reset_to.ensures
