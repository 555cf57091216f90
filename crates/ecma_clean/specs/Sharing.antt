-- What holds of canonical texts: they are read to the same tokens, and shared exactly where these agree.
use Rattle.std.specs.Prelude.{◌≡◌, ◌↔◌, ℕ, true, List, map}
use Rattle.std.specs.List.{list_all}
use Rattle.ecma_place.specs.Cursor.{Cursor}
use Rattle.ecma_place.specs.Text.{Text}
use Rattle.ecma_state.specs.Counting.{counting}
use Rattle.ecma_state.specs.Run.{session, start_of}
use Rattle.ecma_state.specs.Session.{kept_tokens}
use Rattle.ecma_state.specs.TokenAt.{is_empty}
use Rattle.ecma_state.specs.declared.settings.Settings.{Settings}
use Rattle.ecma_state.specs.declared.step.Step.{Step}
use Rattle.ecma_clean_reads.specs.Canonical.{Agree, Own, canonical_of, own_in}
use Rattle.ecma_state.specs.Clean.{is_clean}
use Rattle.ecma_clean_reads.specs.Stages.{Stage, stages}

-- a text from its beginning on
abbrev pub begin : ℕ → Text → Cursor
begin start text = record { start = start; text = text; at = 0 }

-- the tokens that a list of steps keeps of a text, without their places
abbrev pub owned : Settings → ℕ → Text → List Step → List Own
owned settings start text steps = map (own_in (begin start text)) (kept_tokens (session settings (begin start text) steps))

-- a text is read cleanly
abbrev pub IsReadCleanly : Settings → ℕ → Text → List Step → Type 0
IsReadCleanly settings start text steps = is_clean settings (begin start text) steps ≡ true

-- the canonical text of what a list of steps keeps of a text
abbrev pub canonical_text_of : Settings → ℕ → Text → List Step → Text
canonical_text_of settings start text steps = canonical_of (owned settings start text steps)

-- A text is read cleanly, to tokens that agree with these, and is its own canonical text.
pub record IsCanonical (settings : Settings) (start : ℕ) (steps : List Step) (text : Text) (ks : List Own) : Type 0 where
  pub clean : IsReadCleanly settings start text steps
  pub agrees : Agree (owned settings start text steps) ks
  pub itself : canonical_text_of settings start text steps ≡ text

abbrev pub stages_of : Settings → ℕ → Text → List Step → List Stage
stages_of settings start text steps = stages (start_of settings (begin start text)) (counting steps)

-- Laws

-- The canonical text of a text that is read cleanly is read cleanly by the same steps, to the same tokens.
abbrev pub CanonicalIsRead : Type 0
CanonicalIsRead =
    (settings : Settings) (start : ℕ) (text : Text) (steps : List Step) → IsReadCleanly settings start text steps
    → IsCanonical settings start steps (canonical_text_of settings start text steps) (owned settings start text steps)

-- Two texts that are read cleanly by the same steps share their canonical text exactly where their tokens agree.
abbrev pub CanonicalIsShared : Type 0
CanonicalIsShared =
    (settings : Settings) (start : ℕ) (a b : Text) (steps : List Step) → IsReadCleanly settings start a steps → IsReadCleanly settings start b steps
    → (canonical_text_of settings start a steps ≡ canonical_text_of settings start b steps) ↔ Agree (owned settings start a steps) (owned settings start b steps)

-- The run over a canonical text goes step by step through what the run over the text went through, apart from places:
-- settings, context, contexts, expression flag, the token before and its flag, a slash that is read again, the token that is
-- read; and no error is recorded on the way.
abbrev pub CanonicalRunsAlike : Type 0
CanonicalRunsAlike =
    (settings : Settings) (start : ℕ) (text : Text) (steps : List Step) → IsReadCleanly settings start text steps
    → (stages_of settings start (canonical_text_of settings start text steps) steps ≡ stages_of settings start text steps)
    × (list_all (λ stage. is_empty stage.recorded) (stages_of settings start text steps) ≡ true)
