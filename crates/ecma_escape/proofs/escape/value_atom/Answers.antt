use Rattle.std.proofs.Common.{ap, sym, ◌∙◌, arith, length, eqb-true}
use Rattle.ecma_escape.proofs.EscapeSpans.{value-none}
use Rattle.ecma_escape.proofs.escape.value_atom.Goals as goal

pub returns-then-is_empty : goal.returns-then-is_empty
returns-then-is_empty c = λ value h.
    let none = eqb-true _ 0 (sym c.is_empty.ensures ∙ c.if-is_empty.true) in
    let size = ap length h in
    value-none value (omega arith)
