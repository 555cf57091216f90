-- No two tokens without characters stand one after the other.
use Rattle.std.specs.Prelude.{◌≡◌, ◌==◌, Bool, false, ◌&&◌, List, [], ◌∷◌, ⊤}
use Rattle.ecma_place.specs.Cursor.{Cursor}
use Rattle.ecma_token.specs.View.{SpannedView}
use Rattle.ecma_state.specs.Run.{session}
use Rattle.ecma_state.specs.Session.{kept_back}
use Rattle.ecma_state.specs.declared.settings.Settings.{Settings}
use Rattle.ecma_state.specs.declared.step.Step.{Step}

abbrev pub is_empty_token : SpannedView → Bool
is_empty_token t = t.span.lo.0 == t.span.hi.0

-- of two neighbours one holds characters at least
abbrev pub NeverTwoEmpty : List SpannedView → Type 0
NeverTwoEmpty [] = ⊤
NeverTwoEmpty (t ∷ []) = ⊤
NeverTwoEmpty (t ∷ (u ∷ ts)) = ((is_empty_token t && is_empty_token u) ≡ false) × NeverTwoEmpty (u ∷ ts)

-- Laws

-- the tokens of every run are so
abbrev pub EmptyTokensStandAlone : Type 0
EmptyTokensStandAlone =
    (settings : Settings) (input : Cursor) (steps : List Step) → NeverTwoEmpty (kept_back (session settings input steps).past)
