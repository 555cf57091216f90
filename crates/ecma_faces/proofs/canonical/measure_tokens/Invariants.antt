-- The tokens so far were measured, and their errors were kept.
use Rattle.std.proofs.Common.{◌≡◌, [], map}
use Rattle.std.specs.List.{list_all}
use Rattle.ecma_token.specs.View.{error_view, refusal_of}
use Rattle.ecma_state.specs.Session.{Session, lexer_state}
use Rattle.ecma_state.specs.Ending.{most_tokens}
use Rattle.ecma_reader.specs.Rereads.{SlashRule}
use Rattle.ecma_reader.specs.Readers.{FlatMaps, IsReady, Shows, Tells}
use Rattle.ecma_faces.specs.Canonical.{has_no_error}
use Rattle.ecma_faces.proofs.JoinedLemmas.{Measures}
use Rattle.ecma_faces.proofs.canonical.measure_tokens.Given as goal

abbrev pub invariant-tokens : goal.invariant-tokens
invariant-tokens l =
    IsReady l.reader
    × (((rule : SlashRule) (begin : Session) → Shows rule begin [] l.initial.reader
    → Tells rule begin (λ ts. Measures l.report.text.now l.bytes l.before ts × (l.clean ≡ list_all has_no_error ts)) l.reader)
    × ((rule : SlashRule) (begin : Session) → Shows rule begin [] l.initial.reader → l.initial.errors.items ≡ []
    → Tells rule begin (FlatMaps (λ t. refusal_of t.token) (map error_view l.errors.items)) l.reader))

abbrev pub decreases-tokens : goal.decreases-tokens
decreases-tokens l = most_tokens (lexer_state l.reader.lexer)
