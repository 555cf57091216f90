use Rattle.std.proofs.Common.{◌∙◌, ◌+◌, None, length, ap, sym, subst, arith}
use Rattle.std.specs.Prelude.{slice_range}
use Rattle.memchr.specs.Find.{IsLastByte, is_byte}
use Rattle.ecma_print.proofs.LineLemmas.{line-behind, lines-on, none-counted, none-in-line}
use Rattle.ecma_print.proofs.lines.Lines.go_on.Goals as goal
use Rattle.ecma_print.proofs.lines.Lines.go_on.Goals.{in-Some, in_default}

pub returns-clause-counts : goal.returns-clause-counts
returns-clause-counts c = λ counts.
    let bytes = c.args.bytes.now in
    let from = c.args.self.now.place in
    let to = c.args.place in
    elim c.match-memrchr.branch [
      | in-Some w ↦
          let on = lines-on bytes from to c.args.self.now.line w.count.result c.requires.order c.requires.within counts.line (w.count.ensures ∙ ap length w.memchr_iter.ensures.value) in
          rw w.self-is (record { units = counts.units; within = c.requires.within; line = omega (arith, w.saturating_add-self.ensures, on.0, on.1, c.requires.short); in_line = line-behind bytes from to c.requires.order c.requires.within w.in-Some.last (subst (IsLastByte (is_byte 10) (slice_range bytes from to)) w.in-Some.is c.memrchr.ensures) })
      | in_default w ↦
          let none : IsLastByte (is_byte 10) (slice_range bytes from to) None = subst (IsLastByte (is_byte 10) (slice_range bytes from to)) w.in_default.is c.memrchr.ensures in
          rw w.self-is (record { units = counts.units; within = c.requires.within; line = counts.line ∙ ap (λ n. n + 1) (sym (none-counted bytes from to c.requires.order c.requires.within none)); in_line = none-in-line bytes from to c.requires.order c.requires.within c.args.self.now.start counts.in_line none })
    ]
