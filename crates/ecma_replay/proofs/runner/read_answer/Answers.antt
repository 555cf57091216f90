use Rattle.std.proofs.Common.{subst}
use Rattle.ecma_replay.specs.Playing.{Responds, answer_of}
use Rattle.ecma_replay.specs.declared.answer.Answer.TheVariants.{Token, End}
use Rattle.ecma_state.specs.declared.step.Step.TheVariants.{Read}
use Rattle.ecma_replay.proofs.ReplayLemmas.{follows_more}
use Rattle.ecma_replay.proofs.runner.read_answer.Goals as goal

pub returns-in_ok-push-in-Some : goal.returns-in_ok-push-in-Some
returns-in_ok-push-in-Some c = λ begin xs follows.
    follows_more begin xs Read c.args.answers.now.items c.push.new.self.items (Token c.in-Some.token) c.args.course.now c.read_into.new.self follows c.in_ok-push-in-Some.ensures.items
    (subst (λ slot. Responds begin xs Read (answer_of slot) c.read_into.new.self) c.in-Some.is (c.in_ok-read_into.ensures begin xs follows.stands))

pub returns-in_ok-push-in-None : goal.returns-in_ok-push-in-None
returns-in_ok-push-in-None c = λ begin xs follows.
    follows_more begin xs Read c.args.answers.now.items c.push-in-None.new.self.items End c.args.course.now c.read_into.new.self follows c.in_ok-push-in-None.ensures.items
    (subst (λ slot. Responds begin xs Read (answer_of slot) c.read_into.new.self) c.in-None.is (c.in_ok-read_into.ensures begin xs follows.stands))
