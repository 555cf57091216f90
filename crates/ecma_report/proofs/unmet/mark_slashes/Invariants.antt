-- The places at which a token so far begins with a slash were marked.
use Rattle.std.proofs.Common.{◌≡◌, [], length}
use Rattle.ecma_state.specs.Session.{Session, lexer_state}
use Rattle.ecma_state.specs.Ending.{most_tokens}
use Rattle.ecma_reader.specs.Rereads.{SlashRule}
use Rattle.ecma_reader.specs.Readers.{IsReady, Shows, Tells}
use Rattle.ecma_report.specs.Unmet.{AreMarked}
use Rattle.ecma_report.proofs.unmet.mark_slashes.Given as goal

abbrev pub invariant-tokens : goal.invariant-tokens
invariant-tokens l =
    IsReady l.reader
    × (length l.marked ≡ length l.places)
    × ((rule : SlashRule) (begin : Session) → Shows rule begin [] l.initial.reader → Tells rule begin (AreMarked l.text l.places l.marked) l.reader)

abbrev pub decreases-tokens : goal.decreases-tokens
decreases-tokens l = most_tokens (lexer_state l.reader.lexer)
