use Rattle.ecma_replay.proofs.ReplayLemmas.{follows_more}
use Rattle.ecma_replay.proofs.runner.perform.Goals as goal

pub returns-in_ok-push-in_default : goal.returns-in_ok-push-in_default
returns-in_ok-push-in_default c = λ begin xs follows.
    follows_more begin xs c.args.step.now c.args.answers.now.items c.push.new.self.items c.in_ok-answer-in_default.answer c.args.course.now c.respond.new.self follows c.in_ok-push-in_default.ensures.items (c.in_ok-answer-in_default.ensures begin xs follows.stands)
