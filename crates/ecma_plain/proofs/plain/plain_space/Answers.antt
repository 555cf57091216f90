use Rattle.std.proofs.Common.{◌<◌, Some, false, refl, subst, sym, ◌∙◌, arith}
use Rattle.ecma_place.specs.Cursor.{rest}
use Rattle.ecma_reads.specs.BlankGaps.{IsTold}
use Rattle.ecma_reads.specs.declared.blank_gap.BlankGap.{BlankGap}
use Rattle.ecma_gap.proofs.BlankGapLemmas.{told-gap}
use Rattle.ecma_gap.proofs.WhiteLemmas.{past-ends, past-flag, spaced}
use Rattle.ecma_plain.proofs.PlainLemmas.{space-told, stands-plain}
use Rattle.ecma_plain.proofs.plain.plain_space.Goals as goal

pub returns-in-Some : goal.returns-in-Some
returns-in-Some c =
    let old = c.args.input.now in
    let mid = c.eat_byte.new.self in
    let mode = c.args.mode.now in
    let b = c.in-Some.next in
    let gap : BlankGap = record { line_break = false; next = b } in
    let far : 32 < b = omega (arith, c.if-next-gt32.true) in
    let white = spaced old mid mid _ false c.eat_byte.ensures.value c.eat_byte.ensures.moved (past-flag false mid mid b c.in-Some.ensures far refl) (past-ends mid mid b c.in-Some.ensures far refl) in
    let told = told-gap false mode.settings.comments old mid false (Some gap) white.1 white.0 (space-told (rest mid) b c.in-Some.ensures c.if-next-ne47.true c.if-next-ne60.true) in
    stands-plain mode old mid gap c.if-mode.false (sym c.passes_space.ensures ∙ c.if-not-passes_space.false) (subst (λ f. IsTold f mode.settings.comments old mid gap) (sym c.if-mode-2.false) told)
