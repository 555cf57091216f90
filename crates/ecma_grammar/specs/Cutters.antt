-- What a cutter has to keep: a piece is a front of the text, and not empty.
use Rattle.std.specs.Prelude.{◌≡◌, ◌<◌, List, [], ◌∷◌, ◌++◌, length, Some, None}
use Rattle.ecma_place.specs.Text.{Text}
use Rattle.ecma_grammar.specs.Pieces.{Cutter, spelled}

pub record IsCutter {S A : Type 0} (cutter : Cutter S A) : Type 0 where
  pub front : (s : S) (text : Text) (piece : A) → cutter.read s text ≡ Some piece → (rest : Text) × (cutter.spelling piece ++ rest ≡ text)
  pub some : (s : S) (text : Text) (piece : A) → cutter.read s text ≡ Some piece → 0 < length (cutter.spelling piece)

-- each piece is read where the ones before it end, and none is read behind the last
abbrev pub ReadsInOrder : {S A : Type 0} → Cutter S A → S → List A → Text → Type 0
ReadsInOrder cutter s [] rest = cutter.read s rest ≡ None
ReadsInOrder cutter s (piece ∷ more) rest =
    (cutter.read s (cutter.spelling piece ++ (spelled cutter more ++ rest)) ≡ Some piece) × ReadsInOrder cutter (cutter.next s piece) more rest
