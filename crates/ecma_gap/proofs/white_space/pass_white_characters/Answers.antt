use Rattle.ecma_place.specs.Character.{is_white_space, is_line_terminator}
use Rattle.ecma_place.proofs.RunLemmas.{run-start, run-step, flag-start, flag-step}
use Rattle.ecma_gap.proofs.WhiteLemmas.{white-ends-flag}
use Rattle.ecma_gap.proofs.white_space.pass_white_characters.Goals as goal

pub chars-init : goal.chars-init
chars-init c = (run-start is_white_space _, flag-start is_white_space is_line_terminator _)

pub chars-preserved : goal.chars-preserved
chars-preserved c =
    let first = c.in-Some.ensures.first in
    let white = c.in-Some.ensures.white in (
      run-step is_white_space _ _ _ _ c.chars.invariant.0 first white c.bump.ensures,
      flag-step is_white_space is_line_terminator _ _ _ _ _ _ c.chars.invariant.1 first white c.is_line_terminator-terminator.ensures c.bump.ensures,
    )

pub returns-clause-terminator : goal.returns-clause-terminator
returns-clause-terminator c = white-ends-flag _ _ _ c.chars.invariant.1 c.in_default.ensures.none
