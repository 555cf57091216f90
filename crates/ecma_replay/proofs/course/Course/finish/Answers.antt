use Rattle.std.proofs.Common.{refl, subst, sym}
use Rattle.ecma_state.specs.Counting.{counting}
use Rattle.ecma_state.specs.Run.{act_all}
use Rattle.ecma_replay.specs.Playing.{IsAt, Stands}
use Rattle.ecma_replay.proofs.course.Course.finish.Goals as goal

pub returns : goal.returns
returns c = λ begin xs stands.
    let shown = subst (Stands begin xs) (sym c.self.view_is) stands in
    let at = subst (IsAt c.self.inside.trees (act_all begin (counting xs))) (sym c.branch.view_is) shown.branch in
    c.joined.ensures begin (act_all begin (counting xs)) xs refl at
