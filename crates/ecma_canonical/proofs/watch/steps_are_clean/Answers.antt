use Rattle.std.proofs.Common.{◌∙◌, ap, drop, map}
use Rattle.ecma_replay.specs.Replay.{answer_view}
use Rattle.ecma_canonical.specs.Watching.{followed_all, nothing_watched}
use Rattle.ecma_canonical.proofs.WatchLemmas.{followed-end, followed-more}
use Rattle.ecma_canonical.proofs.watch.steps_are_clean.Goals as goal

pub steps-preserved : goal.steps-preserved
steps-preserved c =
    followed-more c.steps.watcher c.follow.new.self c.args.steps.now c.args.answers.now c.steps.i c.index-steps-i.result c.index-answers-i.result c.steps-test.true c.requires c.index-steps-i.is c.index-answers-i.is c.in_ok-follow.ensures
    ∙ c.steps.invariant

pub returns : goal.returns
returns c =
    ap (λ w. w.watch.is_clean) (c.watcher-2.view_is ∙ followed-end c.steps.watcher (followed_all nothing_watched c.args.steps.now (map answer_view c.args.answers.now)) c.args.steps.now (map answer_view (drop c.steps.i c.args.answers.now)) c.steps.i c.steps-test.false c.steps.invariant)
