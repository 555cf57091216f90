use Rattle.std.proofs.Common.{false}
use Rattle.ecma_place.specs.Character.{is_white_space, is_line_terminator}
use Rattle.ecma_place.proofs.RunLemmas.{run-start, run-step, flag-start, flag-step}
use Rattle.ecma_gap.proofs.BlankRuns.{blanks-run, blanks-flags}
use Rattle.ecma_gap.proofs.WhiteLemmas.{white-ends-flag}
use Rattle.ecma_gap.proofs.skip_whitespace.pass_blanks.Goals as goal

pub chars-init : goal.chars-init
chars-init c = (
  blanks-run _ _ _ _ (run-start is_white_space _) c.run_bytes.ensures.run c.bump_bytes.ensures,
  blanks-flags false _ _ _ _ (flag-start is_white_space is_line_terminator _) c.run_bytes.ensures.run c.bump_bytes.ensures,
)

pub chars-preserved : goal.chars-preserved
chars-preserved c =
    let first = c.in-Some.ensures.first in
    let white = c.in-Some.ensures.white in
    let run = run-step is_white_space _ _ _ _ c.chars.invariant.0 first white c.bump.ensures in
    let flags = flag-step is_white_space is_line_terminator _ _ _ _ _ _ c.chars.invariant.1 first white c.is_line_terminator-terminator.ensures c.bump.ensures in (
      blanks-run _ _ _ _ run c.run_bytes-in-Some.ensures.run c.bump_bytes-in-Some.ensures,
      blanks-flags _ _ _ _ _ flags c.run_bytes-in-Some.ensures.run c.bump_bytes-in-Some.ensures,
    )

pub returns-clause-terminator : goal.returns-clause-terminator
returns-clause-terminator c = white-ends-flag _ _ _ c.chars.invariant.1 c.in_default.ensures.none
