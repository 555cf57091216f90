-- Going back to where a tracked lexer was.
use Rattle.std.proofs.Common.{ap}
use Rattle.ecma_rewinding.proofs.RewindingLemmas as lexers
use Rattle.ecma_tracked.specs.Marks.{RewindingUndoes}

pub rewinding_undoes : RewindingUndoes
rewinding_undoes t u within own on =
    let back = lexers.rewinding_undoes t.lexer u.lexer within own on in
    record { goes = back.goes; undone = ap (λ l. record t { lexer = l }) back.undone }
