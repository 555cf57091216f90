-- The canonical text of kept tokens: their own characters, and between two of them as little as keeps them apart.
use Rattle.std.specs.Prelude.{◌≡◌, Bool, true, false, ◌||◌, List, [], ◌∷◌, ◌++◌}
use Rattle.clean_runs.specs.Parts.{joint}
use Rattle.ecma_place.specs.Cursor.{Cursor}
use Rattle.ecma_place.specs.Text.{Text, slice_between}
use Rattle.ecma_state.specs.declared.kept.Kept.{Kept}
use Rattle.ecma_token.specs.declared.kind.TokenKind.{TokenKind}
use Rattle.ecma_token.specs.declared.kind.TokenKind.TheVariants.{Template}

-- a kept token without its place
pub record Own : Type 0 where
  pub kind : TokenKind
  pub text : Text
  pub flag : Bool

abbrev pub own_in : Cursor → Kept → Own
own_in input k = record { kind = k.kind; text = slice_between input.start input.text k.span.lo.0 k.span.hi.0; flag = k.flag }

-- two lists of kept tokens are as long, and have the same kinds, characters and flags
abbrev pub Agree : List Own → List Own → Type 0
Agree ks ls = ks ≡ ls

abbrev pub is_template_text : TokenKind → Bool
is_template_text Template = true
is_template_text _ = false

-- what stands between two neighbours: nothing beside template text, else a line feed where the second's flag stands, else a
-- space
abbrev pub between : Own → Own → Text
between p u = joint (is_template_text p.kind || is_template_text u.kind) u.flag

abbrev pub canonical_behind : Own → List Own → Text
canonical_behind p [] = []
canonical_behind p (u ∷ us) = between p u ++ (u.text ++ canonical_behind u us)

abbrev pub canonical_of : List Own → Text
canonical_of [] = []
canonical_of (u ∷ us) = u.text ++ canonical_behind u us
