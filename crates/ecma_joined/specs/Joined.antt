-- Kept tokens joined one by one.
use Rattle.std.specs.Prelude.{◌≤◌, ◌||◌, List, [], ◌∷◌, Option, Some, None}
use Rattle.clean_runs.specs.Parts.{joint}
use Rattle.ecma_clean.specs.Canonical.{Own, is_template_text}
use Rattle.ecma_place.specs.Cursor.{Cursor, HasPlace}
use Rattle.ecma_place.specs.Text.{Text}
use Rattle.ecma_state.specs.declared.kept.Kept.{Kept}
use Rattle.ecma_token.specs.declared.kind.TokenKind.{TokenKind}

-- a token lies in the text of a cursor, between two of its places
pub record StandsIn (c : Cursor) (k : Kept) : Type 0 where
  pub from : HasPlace c k.span.lo.0
  pub to : HasPlace c k.span.hi.0
  pub in_order : k.span.lo.0 ≤ k.span.hi.0

-- what stands before a token, behind one of a kind where there is one
abbrev pub between_behind : Option TokenKind → Kept → Text
between_behind None k = []
between_behind (Some kind) k = joint (is_template_text kind || is_template_text k.kind) k.flag

-- the kind of the last token
abbrev pub last_kind : List Own → Option TokenKind
last_kind [] = None
last_kind (u ∷ []) = Some u.kind
last_kind (u ∷ (v ∷ us)) = last_kind (v ∷ us)
