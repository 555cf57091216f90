use Rattle.ecma_place.specs.Cursor.{rest}
use Rattle.ecma_reads.specs.Numbers.{number}
use Rattle.ecma_state.specs.TokenAt.{ts1085}
use Rattle.ecma_state.specs.declared.lookahead.Lookahead.TheVariants as opens
use Rattle.ecma_reads.proofs.TokenLemmas.{free-parts, no-separator, ok-accepted}
use Rattle.ecma_plain.proofs.plain.plain_number.Goals as goal

pub returns-in_err-found-clause-free : goal.returns-in_err-found-clause-free
returns-in_err-found-clause-free c = λ h.
    let text = rest c.args.input.now in
    let legacy = ts1085 c.args.mode.now in
    let rule = c.args.mode.now.settings.numbers in
    let s = number legacy rule text in
    let parts = free-parts opens.Number text s h in
    let free = rw c.ts1085.ensures at c.in_err-found.ensures.free in
    let never = free (no-separator text s parts.none) (ok-accepted s.value parts.ok) parts.faults in
    cc
