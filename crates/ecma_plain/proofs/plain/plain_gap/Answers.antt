use Rattle.std.proofs.Common.{sym, ◌∙◌}
use Rattle.ecma_plain.proofs.PlainLemmas.{one-some, stands-plain}
use Rattle.ecma_plain.proofs.plain.plain_gap.Goals as goal

pub returns : goal.returns
returns c =
    let mode = c.args.mode.now in
    one-some c.scan_blank_gap.result _ _ c.scan_blank_gap.ensures.gap
    (λ gap told. stands-plain mode c.args.input.now c.scan_blank_gap.new.input gap c.if-mode.false (sym c.passes_space.ensures ∙ c.if-not-passes_space.false) told)
