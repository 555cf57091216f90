use Rattle.std.proofs.Common.{◌∙◌, ◌+◌, ◌≤◌, None, Some, length, take, ap, subst, arith}
use Rattle.memchr.specs.Find.{IsLastByte, is_byte}
use Rattle.ecma_print.proofs.LineLemmas.{line-of, lines-back, same-line}
use Rattle.ecma_print.proofs.lines.Lines.go_back.Goals as goal
use Rattle.ecma_print.proofs.lines.Lines.go_back.Goals.{then-place-self, in-Some, in-None, else-place-self}

pub returns-clause-counts : goal.returns-clause-counts
returns-clause-counts c = λ counts.
    let bytes = c.args.bytes.now in
    let from = c.args.self.now.place in
    let to = c.args.place in
    let within = c.requires.within in
    let inside : to ≤ length bytes = omega (arith, within, c.requires.order) in
    elim c.if-place-self.branch [
      | then-place-self w ↦
          let line = w.saturating_sub-self.ensures ∙ lines-back bytes to from c.args.self.now.line w.count-passed.result c.requires.order within counts.line (w.count-passed.ensures ∙ ap length w.memchr_iter.ensures.value) in
          elim w.match-memrchr.branch [
            | in-Some v ↦ rw (w.self-is, v.self-is) (record { units = counts.units; within = inside; line = line; in_line = line-of bytes to (Some v.in-Some.last) inside (subst (IsLastByte (is_byte 10) (take to bytes)) v.in-Some.is w.memrchr.ensures) })
            | in-None v ↦ rw (w.self-is, v.self-is) (record { units = counts.units; within = inside; line = line; in_line = line-of bytes to None inside (subst (IsLastByte (is_byte 10) (take to bytes)) v.in-None.is w.memrchr.ensures) })
          ]
      | else-place-self w ↦
          let same = same-line bytes c.args.self.now.start from to counts.in_line (omega (arith, w.if-place-self.false)) c.requires.order within in
          rw w.self-is (record { units = counts.units; within = inside; line = counts.line ∙ ap (λ n. n + 1) same.1; in_line = same.0 })
    ]
