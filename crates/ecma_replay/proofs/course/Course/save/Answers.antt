use Rattle.std.proofs.Common.{subst, sym}
use Rattle.ecma_replay.specs.Playing.{Stands}
use Rattle.ecma_replay.proofs.ReplayLemmas.{save_responds}
use Rattle.ecma_replay.proofs.course.Course.save.Goals as goal

pub returns : goal.returns
returns c = λ begin xs stands.
    save_responds begin xs _ _ c.in_ok-saved.saved (subst (Stands begin xs) (sym c.self.view_is) stands) c.in_ok-settle.ensures.grows c.in_ok-settle.ensures.at (c.in_ok-saved.ensures c.settle.new.trees) c.in_ok-push.ensures.items
