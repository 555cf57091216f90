use Rattle.std.proofs.Common.{sym, ◌∙◌}
use Rattle.ecma_grammar.proofs.NumberRefusals.{digit_refused}
use Rattle.ecma_number.proofs.number.refusals.digit_refusal.Goals as goal

pub returns-clause-value : goal.returns-clause-value
returns-clause-value c =
    digit_refused c.args.start.0 c.args.radix c.args.run.now c.in_ok-error.error _ c.requires.run (sym c.has_digit.ensures ∙ c.if-has_digit.false) c.new-span.ensures c.in_ok-error.ensures
