use Rattle.std.proofs.Common.{arith, ◌-◌, take, get_or, sym, ap, ◌∙◌}
use Rattle.ecma_positions.specs.Positions.{line_starts}
use Rattle.ecma_positions.proofs.LineLemmas.{last-before, last-none, position-is}
use Rattle.ecma_positions.proofs.position.LineStarts.position_behind.Goals as goal
use Rattle.ecma_positions.proofs.position.LineStarts.position_behind.Goals.{then-count-eq0, else-count-eq0}

pub returns : goal.returns
returns c bytes shows counted =
    let before = take c.args.place.0 bytes in
    position-is before c.args.place.0 c.args.count c.if-count-eq0.start c.saturating_sub.result counted
    (elim c.if-count-eq0.branch [
      | then-count-eq0 w ↦ w.start-is ∙ sym (last-none (line_starts before) (sym counted ∙ w.if-count-eq0.true))
      | else-count-eq0 w ↦
          let d = w.index.result.now in
          w.start-is
          ∙ w.index.ensures
          ∙ ap (λ l. get_or l (c.args.count - 1) d) shows
          ∙ ap (λ n. get_or (line_starts bytes) (n - 1) d) counted
          ∙ last-before bytes c.args.place.0 d (omega (arith, counted, w.if-count-eq0.false))
    ])
    c.saturating_sub.ensures
