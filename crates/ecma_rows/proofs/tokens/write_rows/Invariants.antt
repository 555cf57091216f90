-- The rows of the tokens so far were written, and each left fewer that may come.
use Rattle.std.proofs.Common.{◌+◌, ◌<◌, ◌^◌, []}
use Rattle.ecma_state.specs.Session.{Session, lexer_state}
use Rattle.ecma_state.specs.Ending.{most_tokens}
use Rattle.ecma_reader.specs.Rereads.{SlashRule}
use Rattle.ecma_reader.specs.Readers.{IsReady, Shows, Tells}
use Rattle.ecma_rows.proofs.RowLemmas.{IsWritten}
use Rattle.ecma_rows.proofs.tokens.write_rows.Given as goal

abbrev pub invariant-tokens : goal.invariant-tokens
invariant-tokens l =
    IsReady l.reader
    × ((l.count + most_tokens (lexer_state l.reader.lexer) < 2 ^ 60)
    × ((rule : SlashRule) (begin : Session) → Shows rule begin [] l.initial.reader → Tells rule begin (IsWritten l.initial.out l.out l.count) l.reader))

abbrev pub decreases-tokens : goal.decreases-tokens
decreases-tokens l = most_tokens (lexer_state l.reader.lexer)
