-- The steps that were added are those of so many tokens, and it is decided behind them.
use Rattle.std.proofs.Common.{◌≡◌, None}
use Rattle.ecma_state.specs.Session.{Session, lexer_state, state_of}
use Rattle.ecma_state.specs.Ending.{most_tokens}
use Rattle.ecma_slashes.specs.Rereads.{Decides, SlashRule}
use Rattle.ecma_slashes.proofs.DecidingLemmas.{DecidesSoFar}
use Rattle.ecma_slashes.proofs.reads.add_steps_deciding.Given as goal

abbrev pub invariant-tokens : goal.invariant-tokens
invariant-tokens l =
    ((rule : SlashRule) (s : Session) → state_of s ≡ lexer_state l.initial.lexer → Decides rule s l.initial.decider
    → DecidesSoFar rule s l.initial.steps.items l.steps.items (lexer_state l.lexer) l.decider)
    × ((l.lexer.reread ≡ None) × (l.decider.slashes ≡ l.initial.decider.slashes))

abbrev pub decreases-tokens : goal.decreases-tokens
decreases-tokens l = most_tokens (lexer_state l.lexer)
