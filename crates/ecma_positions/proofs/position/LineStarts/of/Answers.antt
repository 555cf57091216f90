use Rattle.std.proofs.Common.{arith, ◌≡◌, ◌+◌, ◌++◌, ◌∷◌, [], true, false, nat_eq, get_or, take, sym, ap, ◌∙◌, refl}
use Rattle.std.proofs.lemmas.Bool.Decides.{nat_tests}
use Rattle.std.proofs.lemmas.List.{append-nil}
use Rattle.ecma_positions.specs.Positions.{line_starts}
use Rattle.ecma_positions.proofs.LineLemmas.{next-start}
use Rattle.ecma_positions.proofs.position.LineStarts.of.Goals as goal
use Rattle.ecma_positions.proofs.position.LineStarts.of.Goals.{then-byte-eq10+in_ok-push, else-byte-eq10}

pub loop-byte-init : goal.loop-byte-init
loop-byte-init c = (refl, c.new-starts.ensures.items)

pub loop-byte-preserved : goal.loop-byte-preserved
loop-byte-preserved c =
    let i = c.loop-byte.byte-index in
    let bytes = c.args.bytes.now in
    let so = c.loop-byte.invariant in (
      ap (λ n. n + 1) so.0,
      elim c.if-byte-eq10.branch [
        | then-byte-eq10+in_ok-push w ↦
            ap (λ v. v.items) w.starts-is
            ∙ w.in_ok-push.ensures.items
            ∙ ap (λ n. c.loop-byte.starts.items ++ (n + 1) ∷ []) so.0
            ∙ ap (λ l. l ++ (i + 1) ∷ []) so.1
            ∙ sym (next-start bytes i 0 true c.loop-byte-test.true (ap (λ n. nat_eq n 10) w.if-byte-eq10.true))
        | else-byte-eq10 w ↦
            let other : nat_eq (get_or bytes i 0) 10 ≡ false = grind (arith, nat_tests, w.if-byte-eq10.false) in
            ap (λ v. v.items) w.starts-is ∙ so.1 ∙ sym (append-nil (line_starts (take i bytes))) ∙ sym (next-start bytes i 0 false c.loop-byte-test.true other)
      ],
    )
