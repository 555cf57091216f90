use Rattle.std.proofs.Common.{◌∙◌, ap, Some, sym}
use Rattle.ecma_place.specs.Cursor.{rest}
use Rattle.ecma_template.proofs.VerbatimPieces.{stop-none, backslash-none, return-none, stays}
use Rattle.ecma_template.proofs.template.verbatim.eat_verbatim.Goals.{then-stops-via-then-stops, then-stops-via-else-stops+then-c-eq92, then-stops-via-else-stops+else-c-eq92+then-c-eq13}
use Rattle.ecma_template.proofs.template.verbatim.eat_verbatim.Goals as goal

pub returns-then-stops-clause-value : goal.returns-then-stops-clause-value
returns-then-stops-clause-value c =
    let text = rest c.args.input.now in
    let first = sym c.in_ok-c.ensures.first in
    elim c.then-stops.branch [
      | then-stops-via-then-stops w ↦ sym (stop-none text c.in_ok-c.c first (sym c.stops.ensures ∙ w.if-stops.true)).value
      | then-stops-via-else-stops+then-c-eq92 w ↦ sym (backslash-none text (first ∙ ap Some w.if-c-eq92.true)).value
      | then-stops-via-else-stops+else-c-eq92+then-c-eq13 w ↦ sym (return-none text (first ∙ ap Some w.if-c-eq13.true)).value
    ]

pub returns-then-stops-clause-moved : goal.returns-then-stops-clause-moved
returns-then-stops-clause-moved c =
    let text = rest c.args.input.now in
    let first = sym c.in_ok-c.ensures.first in
    elim c.then-stops.branch [
      | then-stops-via-then-stops w ↦ stays text _ (stop-none text c.in_ok-c.c first (sym c.stops.ensures ∙ w.if-stops.true))
      | then-stops-via-else-stops+then-c-eq92 w ↦ stays text _ (backslash-none text (first ∙ ap Some w.if-c-eq92.true))
      | then-stops-via-else-stops+else-c-eq92+then-c-eq13 w ↦ stays text _ (return-none text (first ∙ ap Some w.if-c-eq13.true))
    ]
