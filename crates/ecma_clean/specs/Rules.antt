-- What the rule for numbers changes of a run: nothing, where the text is read cleanly by the standard's.
use Rattle.std.specs.Prelude.{◌≡◌, ℕ, List}
use Rattle.ecma_place.specs.Text.{Text}
use Rattle.ecma_state.specs.Run.{session}
use Rattle.ecma_state.specs.Session.{Session, kept_tokens}
use Rattle.ecma_state.specs.declared.settings.Settings.{Settings}
use Rattle.ecma_state.specs.declared.step.Step.{Step}
use Rattle.ecma_syntax.specs.declared.settings.NumberRule.{NumberRule}
use Rattle.ecma_syntax.specs.declared.settings.NumberRule.TheVariants.{Crate, Standard}
use Rattle.ecma_clean.specs.Sharing.{IsReadCleanly, begin}

-- settings with another rule
abbrev pub by_rule : NumberRule → Settings → Settings
by_rule rule settings = record settings { numbers = rule }

-- a session as it would be by another rule
abbrev pub session_by : NumberRule → Session → Session
session_by rule s = record s { settings = by_rule rule s.settings }

-- By another rule a run keeps the same tokens, errors that are recorded and that wait, and comments; and it differs in
-- nothing else.
pub record IsSameByRule (rule : NumberRule) (s t : Session) : Type 0 where
  pub kept : kept_tokens t ≡ kept_tokens s
  pub errors : t.errors ≡ s.errors
  pub comments : t.comments ≡ s.comments
  pub all : t ≡ session_by rule s

-- Laws

-- A text that is read cleanly by the standard's rule and by plain steps is read to the same by the crate's.
abbrev pub CleanRunsByBothRules : Type 0
CleanRunsByBothRules =
    (settings : Settings) (start : ℕ) (text : Text) (steps : List Step) → IsReadCleanly (by_rule Standard settings) start text steps
    → IsSameByRule Crate (session (by_rule Standard settings) (begin start text) steps) (session (by_rule Crate settings) (begin start text) steps)
