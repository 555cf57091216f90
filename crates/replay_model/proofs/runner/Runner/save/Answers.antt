use Rattle.std.proofs.Common.{refl, subst, sym}
use Rattle.replay_model.specs.Copies.{Follows}
use Rattle.replay_model.proofs.ReplayLemmas.{save_follows}
use Rattle.replay_model.proofs.runner.Runner.save.Goals as goal

pub returns : goal.returns
returns c = λ begin xs follows.
    save_follows begin xs _ _ c.in_ok-saved.saved (subst (Follows begin xs) (sym c.self.view_is) follows) c.in_ok-saved.ensures refl c.in_ok-push.ensures.items refl
