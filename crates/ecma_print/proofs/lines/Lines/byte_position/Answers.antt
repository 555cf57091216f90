use Rattle.std.proofs.Common.{◌≡◌, ◌∙◌, ◌+◌, ap, arith, subst, min, length}
use Rattle.ecma_print.specs.Lines.{Counts}
use Rattle.ecma_print.specs.declared.lines.Lines.{Lines}
use Rattle.ecma_print.proofs.LineLemmas.{position-is}
use Rattle.ecma_print.proofs.lines.Lines.byte_position.Goals as goal
use Rattle.ecma_print.proofs.lines.Lines.byte_position.Goals.{then-from-to, else-from-to}

pub returns-clause-position : goal.returns-clause-position
returns-clause-position c = λ counts.
    let bytes = c.args.bytes.now in
    let lines = c.args.self.now in
    let at = c.args.place.0 in
    let to = min (length bytes) at in
    let begun : Lines = record { place = c.min-from.result; line = lines.line; start = lines.start; units = lines.units } in
    let from : lines.place ≡ c.min-from.result = omega (arith, c.min-from.ensures, counts.within) in
    let here : Counts bytes begun = subst (λ n. Counts bytes (record { place = n; line = lines.line; start = lines.start; units = lines.units })) from counts in
    let there : Counts bytes c.if-from-to.self × (c.if-from-to.self.place ≡ to) =
    elim c.if-from-to.branch [
      | then-from-to w ↦ rw w.self-is (w.go_on.ensures.counts here, w.go_on.ensures.place ∙ c.min-to.ensures)
      | else-from-to w ↦ rw w.self-is (w.go_back.ensures.counts here, w.go_back.ensures.place ∙ c.min-to.ensures)
    ] in
    ap (λ n. record { line = c.if-from-to.self.line; column = n + 1 }) c.saturating_sub.ensures ∙ position-is bytes c.if-from-to.self.start c.if-from-to.self.place at c.if-from-to.self.line there.1 there.0.line there.0.in_line
