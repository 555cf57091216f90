-- The tokens so far were written, joined, or are held.
use Rattle.std.proofs.Common.{ℕ, List, []}
use Rattle.ecma_state.specs.Session.{Session, lexer_state}
use Rattle.ecma_state.specs.Ending.{most_tokens}
use Rattle.ecma_reader.specs.Rereads.{SlashRule}
use Rattle.ecma_reader.specs.Readers.{IsReady, Shows, Tells}
use Rattle.ecma_report.specs.Reports.{IsOf, Stays}
use Rattle.ecma_report.specs.Rows.{Look}
use Rattle.ecma_faces.proofs.JoinedLemmas.{Joins}
use Rattle.ecma_faces.proofs.canonical.write_tokens_joined.Given as goal

abbrev pub invariant-tokens : goal.invariant-tokens
invariant-tokens g l =
    IsReady l.reader
    × (Stays l.initial.report l.report
    × ((rule : SlashRule) (begin : Session) (ask : Look) (file bytes : List ℕ) → Shows rule begin [] l.initial.reader → IsOf ask file bytes l.initial.report
    → Tells rule begin (Joins ask bytes (g.W.Write.contents l.initial.out) (g.W.Write.contents l.out) l.initial.report.out.items l.report.out.items l.before) l.reader))

abbrev pub decreases-tokens : goal.decreases-tokens
decreases-tokens g l = most_tokens (lexer_state l.reader.lexer)
