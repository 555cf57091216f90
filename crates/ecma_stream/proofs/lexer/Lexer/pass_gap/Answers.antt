use Rattle.ecma_stream.proofs.ArmLemmas.{arm-back, arm-behind, here-inside, moved-lexer}
use Rattle.ecma_stream.proofs.lexer.Lexer.pass_gap.Goals as goal

pub invariant_of-self : goal.invariant_of-self
invariant_of-self c = moved-lexer c.self.inside c.plain_gap.new.input _ c.self.invariant c.in-Some.ensures.blank.moved

pub invariant_of-self-in-None : goal.invariant_of-self-in-None
invariant_of-self-in-None c = rw c.in_ok-stood.ensures.cases c.self.invariant

pub returns-in-Some-clause-behind : goal.returns-in-Some-clause-behind
returns-in-Some-clause-behind c =
    arm-behind c.self.inside c.args.self.now c.mode-mode.result c.args.before c.plain_gap.new.input c.in-Some.gap c.self.view_is c.self.invariant c.requires.none c.mode-mode.ensures
    (here-inside c.self.inside c.args.self.now c.args.before c.self.view_is c.requires.here) c.in-Some.ensures

pub returns-in-Some-clause-back : goal.returns-in-Some-clause-back
returns-in-Some-clause-back c =
    let stands = c.in-Some.ensures in
    arm-back c.self.inside c.args.self.now c.args.before c.plain_gap.new.input _ c.in-Some.gap.next c.self.view_is
    (here-inside c.self.inside c.args.self.now c.args.before c.self.view_is c.requires.here) stands.blank.moved stands.next
