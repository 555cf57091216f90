use Rattle.std.proofs.Common.{sym, ◌∙◌}
use Rattle.ecma_place.specs.Character.{is_ident_part}
use Rattle.ecma_place.proofs.RunLemmas.{run-step}
use Rattle.ecma_name.proofs.NameRuns.{run-onward}
use Rattle.ecma_name.proofs.name.pass_part_characters.Goals as goal

pub chars-preserved : goal.chars-preserved
chars-preserved c =
    let part = sym c.is_ident_part.ensures ∙ c.if-not-is_ident_part.false in
    run-onward _ _ _ (run-step is_ident_part _ _ _ _ c.chars.invariant (sym c.in-Some.ensures.first) part c.bump.ensures) c.run_onward.ensures
