use Rattle.std.proofs.Common.{◌∙◌}
use Rattle.ecma_replay.specs.Replay.{answer_view}
use Rattle.ecma_canonical.proofs.WatchLemmas.{back-followed, saved-followed, step-followed}
use Rattle.ecma_canonical.proofs.watch.Watcher.follow.Goals as goal

pub returns-in_ok-push-in-Save : goal.returns-in_ok-push-in-Save
returns-in_ok-push-in-Save c =
    saved-followed c.self.inside.watch c.self.inside.saves.items c.args.self.now c.self.view_is c.args.step.now (answer_view c.args.answer.now) c.push.new.self.items c.in-Save.is c.in_ok-push-in-Save.ensures.items

pub returns-in-Back : goal.returns-in-Back
returns-in-Back c =
    c.go_back.ensures ∙ back-followed c.args.self.now c.args.step.now (answer_view c.args.answer.now) c.in-Back.save c.in-Back.is

pub returns-in_default : goal.returns-in_default
returns-in_default c =
    step-followed c.self-in_default.inside.watch c.self-in_default.inside.saves.items c.args.self.now c.self-in_default.view_is c.args.step.now (answer_view c.args.answer.now) c.behind-self-inside.result c.behind-self-inside.ensures
    c.in_default.not-Save c.in_default.not-Back
