use Rattle.std.proofs.Common.{◌∙◌, ap, refl, subst, sym}
use Rattle.std.specs.Prelude.{slice_get}
use Rattle.ecma_replay.specs.Playing.{IsAt, Stands}
use Rattle.ecma_replay.proofs.ReplayLemmas.{back_responds, get-none, get-some, no_save_responds}
use Rattle.ecma_replay.proofs.course.Course.back.Goals as goal

pub returns-in_ok-saved-in-Some : goal.returns-in_ok-saved-in-Some
returns-in_ok-saved-in-Some c = λ begin xs stands.
    back_responds begin xs c.args.n _ _ c.in-Some.saved.now (subst (Stands begin xs) (sym c.self.view_is) stands) (ap (λ ps. slice_get ps c.args.n) (sym c.deref.ensures.value) ∙ get-some c.deref.result.now c.args.n c.in-Some.saved.now c.in-Some.ensures.lookup.3.0 c.in-Some.ensures.lookup.3.1)
    (λ s at. subst (IsAt c.self.inside.trees s) (sym c.go_back.ensures) (c.in_ok-saved-in-Some.ensures c.self.inside.trees s at)) refl refl

pub returns-in-None : goal.returns-in-None
returns-in-None c = λ begin xs stands.
    no_save_responds begin xs c.args.n _ c.args.self.now (subst (Stands begin xs) (sym c.self.view_is) stands) (ap (λ ps. slice_get ps c.args.n) (sym c.deref.ensures.value) ∙ get-none c.deref.result.now c.args.n c.in-None.ensures.lookup.3) (sym c.self.view_is)
