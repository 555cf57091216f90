-- What is left of HTML once its markup is taken away: what stands in the element `pre` of class `ecma`, without its tags and
-- with references as what they stand for. As in a browser (HTML, 13.2.6.4.7), a line feed right behind the tag that opens it is
-- no part of it.
use Rattle.std.specs.Prelude.{◌≡◌, ℕ, ◌==◌, ◌&&◌, Bool, true, false, List, [], ◌∷◌, ◌++◌, codes, flat_map, fold, if◌then◌else◌}

-- where a reader of HTML is
pub data Place : Type 0 where
  -- before or behind the element
  Outside : Place
  -- right behind the tag that opens it
  First : Place
  Inside : Place
  -- in a tag, which stands inside or not, behind these bytes of it
  Tag : Bool → List ℕ → Place
  -- in a reference, behind these bytes of it
  Reference : List ℕ → Place

pub record Unmarked : Type 0 where
  pub place : Place
  pub text : List ℕ

abbrev pub at : Place → List ℕ → Unmarked
at place text = record { place = place; text = text }

abbrev pub same_bytes : List ℕ → List ℕ → Bool
same_bytes [] [] = true
same_bytes [] (y ∷ ys) = false
same_bytes (x ∷ xs) [] = false
same_bytes (x ∷ xs) (y ∷ ys) = (x == y) && same_bytes xs ys

-- what a reference stands for
abbrev pub meant : List ℕ → List ℕ
meant name =
    if same_bytes name (codes "amp") then 38 ∷ []
    else (if same_bytes name (codes "lt") then 60 ∷ []
    else (if same_bytes name (codes "gt") then 62 ∷ []
    else (if same_bytes name (codes "#13") then 13 ∷ []
    else [])))

-- behind a tag with these bytes
abbrev pub behind_tag : Bool → List ℕ → Place
behind_tag inside name =
    if same_bytes name (codes "pre class=\"ecma\"") then First
    else (if same_bytes name (codes "/pre") then Outside
    else (if inside then Inside else Outside))

abbrev pub in_text : List ℕ → ℕ → Unmarked
in_text text c =
    if c == 60 then at (Tag true []) text
    else (if c == 38 then at (Reference []) text
    else at Inside (text ++ c ∷ []))

-- one more byte
abbrev pub read_at : Place → List ℕ → ℕ → Unmarked
read_at Outside text c = if c == 60 then at (Tag false []) text else at Outside text
read_at First text c = if c == 10 then at Inside text else in_text text c
read_at Inside text c = in_text text c
read_at (Tag inside name) text c = if c == 62 then at (behind_tag inside name) text else at (Tag inside (name ++ c ∷ [])) text
read_at (Reference name) text c = if c == 59 then at Inside (text ++ meant name) else at (Reference (name ++ c ∷ [])) text

abbrev pub read_byte : Unmarked → ℕ → Unmarked
read_byte u c = read_at u.place u.text c

abbrev pub read : List ℕ → Unmarked
read html = fold read_byte (at Outside []) html

abbrev pub unmark : List ℕ → List ℕ
unmark html = (read html).text

-- no element is open behind it, nor a tag
abbrev pub IsClosed : List ℕ → Type 0
IsClosed html = (read html).place ≡ Outside

-- What is shown of a text: U+FFFD in the place of each NUL, which HTML can't hold.

abbrev pub shown_byte : ℕ → List ℕ
shown_byte b = if b == 0 then 239 ∷ (191 ∷ (189 ∷ [])) else b ∷ []

abbrev pub shown : List ℕ → List ℕ
shown text = flat_map shown_byte text
