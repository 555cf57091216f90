use Rattle.ecma_place.specs.Cursor.{rest}
use Rattle.ecma_reads.specs.Expressions.{regular_expression}
use Rattle.ecma_state.specs.TokenAt.{is_borrowed, is_empty}
use Rattle.ecma_reads.proofs.TokenLemmas.{and-parts, borrowed-token}
use Rattle.ecma_dispatch.proofs.read.read_again.Goals as goal

pub returns-in_err-found-clause-free : goal.returns-in_err-found-clause-free
returns-in_err-found-clause-free c = λ h.
    let s = regular_expression (rest c.args.input.now) in
    let borrowed = (and-parts (is_borrowed s.value) (is_empty s.faults) h).0 in
    let token = borrowed-token (rest c.args.input.now) s borrowed in
    let never = c.in_err-found.ensures.free token.0 token.1 token.2 in
    cc
