-- The tokens of a run lie in order, and none lies over another.
use Rattle.std.specs.Prelude.{◌≡◌, ℕ, ◌≤◌, Bool, true, false, List, [], ◌∷◌, reverse}
use Rattle.std.specs.List.{list_all}
use Rattle.ecma_place.specs.Cursor.{Cursor, place}
use Rattle.ecma_token.specs.View.{SpannedView}
use Rattle.ecma_state.specs.Run.{Answer, Token', run, session}
use Rattle.ecma_state.specs.Session.{Session, kept_back}
use Rattle.ecma_state.specs.declared.settings.Settings.{Settings}
use Rattle.ecma_state.specs.declared.step.Step.{Step}
use Rattle.ecma_state.specs.declared.step.Step.TheVariants.{Reread, Back}

-- Tokens, the newest first, lie in order behind a place and before another: each ends before the next one begins, or where
-- it begins.
abbrev pub InOrder : ℕ → List SpannedView → ℕ → Type 0
InOrder begin [] end = begin ≤ end
InOrder begin (t ∷ ts) end = (t.span.lo.0 ≤ t.span.hi.0) × (t.span.hi.0 ≤ end) × InOrder begin ts t.span.lo.0

-- the tokens among answers, in their order
abbrev pub with_answered : Answer → List SpannedView → List SpannedView
with_answered (Token' t) ts = t ∷ ts
with_answered _ ts = ts

abbrev pub tokens_in : List Answer → List SpannedView
tokens_in [] = []
tokens_in (answer ∷ answers) = with_answered answer (tokens_in answers)

-- a step that neither goes back nor has a slash read again
abbrev pub goes_on : Step → Bool
goes_on Reread = false
goes_on (Back n) = false
goes_on _ = true

-- the tokens that were answered are those that are kept, and lie in order
pub record AnswersLie (input : Cursor) (answers : List Answer) (s : Session) : Type 0 where
  pub kept : reverse (tokens_in answers) ≡ kept_back s.past
  pub order : InOrder (place input) (reverse (tokens_in answers)) (place s.input)

-- Laws

-- The tokens that are kept lie in order, from where the run began to where it stands, whatever its steps were.
abbrev pub TokensAreInOrder : Type 0
TokensAreInOrder =
    (settings : Settings) (input : Cursor) (steps : List Step)
    → InOrder (place input) (kept_back (session settings input steps).past) (place (session settings input steps).input)

-- Where no step goes back or has a slash read again, those that are answered lie so too.
abbrev pub AnswersAreInOrder : Type 0
AnswersAreInOrder =
    (settings : Settings) (input : Cursor) (steps : List Step) → list_all goes_on steps ≡ true
    → AnswersLie input (run settings input steps) (session settings input steps)
