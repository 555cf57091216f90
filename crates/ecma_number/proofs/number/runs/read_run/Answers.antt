use Rattle.std.proofs.Common.{sym, ◌∙◌}
use Rattle.ecma_place.proofs.RunLemmas.{run-step}
use Rattle.ecma_grammar.specs.Numbers as numbers
use Rattle.ecma_number.proofs.number.runs.read_run.Goals as goal

pub chars-preserved : goal.chars-preserved
chars-preserved c =
    (run-step (numbers.in_run c.args.radix) _ c.chars.input _ c.in-Some.c c.chars.invariant.0 (sym c.in-Some.ensures.first) (sym c.is_in_run.ensures ∙ c.if-not-is_in_run.false) c.bump.ensures, c.chars.invariant.1)
