-- The rows of the tokens so far were written or are held, and their errors were kept.
use Rattle.std.proofs.Common.{◌≡◌, ℕ, List, [], map}
use Rattle.ecma_token.specs.View.{error_view, refusal_of}
use Rattle.ecma_state.specs.Session.{Session, lexer_state}
use Rattle.ecma_state.specs.Ending.{most_tokens}
use Rattle.ecma_reader.specs.Rereads.{SlashRule}
use Rattle.ecma_reader.specs.Readers.{FlatMaps, IsReady, Shows, Tells}
use Rattle.ecma_report.specs.Reports.{IsOf, Stays}
use Rattle.ecma_report.specs.Rows.{Look}
use Rattle.ecma_faces.proofs.TokenLemmas.{Told}
use Rattle.ecma_faces.proofs.tokens.read_tokens.Given as goal

abbrev pub invariant-tokens : goal.invariant-tokens
invariant-tokens g l =
    IsReady l.reader
    × (Stays l.initial.report l.report
    × (((rule : SlashRule) (begin : Session) (ask : Look) (file bytes : List ℕ) → Shows rule begin [] l.initial.reader → IsOf ask file bytes l.initial.report
    → Tells rule begin (Told ask file bytes (g.W.Write.contents l.initial.out) (g.W.Write.contents l.out) l.initial.report.out.items l.report.out.items l.previous) l.reader)
    × ((rule : SlashRule) (begin : Session) → Shows rule begin [] l.initial.reader → l.initial.errors.items ≡ []
    → Tells rule begin (FlatMaps (λ t. refusal_of t.token) (map error_view l.errors.items)) l.reader)))

abbrev pub decreases-tokens : goal.decreases-tokens
decreases-tokens g l = most_tokens (lexer_state l.reader.lexer)
