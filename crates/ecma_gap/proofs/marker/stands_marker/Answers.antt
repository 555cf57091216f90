use Rattle.std.proofs.Common.{sym, ap, ◌∙◌}
use Rattle.ecma_place.specs.Cursor.{rest}
use Rattle.ecma_grammar.specs.Gaps.{is_marker}
use Rattle.ecma_gap.proofs.MarkerLemmas.{equals-marker}
use Rattle.ecma_gap.proofs.marker.stands_marker.Goals as goal

pub returns-in-61 : goal.returns-in-61
returns-in-61 c =
    let text = rest c.args.input.now in
    c.is_str.ensures ∙ equals-marker c.args.type_mode text ∙ ap (λ x. is_marker c.args.type_mode x text) (sym c.in-61.is)
