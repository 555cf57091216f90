-- The watch behind the steps so far comes with the others to where it comes with all of them.
use Rattle.std.proofs.Common.{◌≡◌, drop, map}
use Rattle.ecma_replay.specs.Replay.{answer_view}
use Rattle.ecma_canonical.specs.Watching.{followed_all, nothing_watched}
use Rattle.ecma_canonical.proofs.watch.steps_are_clean.Given as goal

abbrev pub invariant-steps : goal.invariant-steps
invariant-steps l =
    followed_all l.watcher (drop l.i l.steps) (map answer_view (drop l.i l.answers)) ≡ followed_all nothing_watched l.steps (map answer_view l.answers)
