use Rattle.std.proofs.Common.{◌∙◌, ap, refl, subst, sym}
use Rattle.std.specs.Prelude.{slice_get}
use Rattle.replay_model.specs.Copies.{Follows, IsAt}
use Rattle.replay_model.proofs.ReplayLemmas.{back_follows, get-none, get-some, no_save_follows}
use Rattle.replay_model.proofs.runner.Runner.back.Goals as goal

pub returns-in_ok-saved-in-Some : goal.returns-in_ok-saved-in-Some
returns-in_ok-saved-in-Some c = λ begin xs follows.
    back_follows begin xs c.args.n _ _ c.in-Some.saved.now (subst (Follows begin xs) (sym c.self.view_is) follows) (ap (λ ps. slice_get ps c.args.n) (sym c.deref.ensures.value) ∙ get-some c.deref.result.now c.args.n c.in-Some.saved.now c.in-Some.ensures.lookup.3.0 c.in-Some.ensures.lookup.3.1)
    (λ s at. subst (IsAt s) (sym c.go_back.ensures) (c.in_ok-saved-in-Some.ensures s at)) refl refl

pub returns-in-None : goal.returns-in-None
returns-in-None c = λ begin xs follows.
    no_save_follows begin xs c.args.n _ c.args.self.now (subst (Follows begin xs) (sym c.self.view_is) follows) (ap (λ ps. slice_get ps c.args.n) (sym c.deref.ensures.value) ∙ get-none c.deref.result.now c.args.n c.in-None.ensures.lookup.3) (sym c.self.view_is)
