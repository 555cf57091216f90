-- What is left of what is shown once the numbers of lines, the lines of marks and the sequences that set colours are taken away.
use Rattle.std.specs.Prelude.{ℕ, ◌==◌, List, [], ◌∷◌, ◌++◌, fold, if◌then◌else◌}

-- where a reader is
pub data Place : Type 0 where
  -- where a line begins
  Begin : Place
  -- in the margin of a line with a number
  Number : Place
  -- behind the bar of that
  Bar : Place
  -- in the text of that
  Inside : Place
  -- in a sequence there
  Sequence : Place
  -- in a line of marks
  Marks : Place

pub record Unshown : Type 0 where
  pub place : Place
  pub text : List ℕ

abbrev pub at : Place → List ℕ → Unshown
at place text = record { place = place; text = text }

-- one more byte
abbrev pub read_at : Place → List ℕ → ℕ → Unshown
read_at Begin text b = if b == 32 then at Marks text else at Number text
read_at Number text b = if b == 124 then at Bar text else at Number text
read_at Bar text b = at Inside text
read_at Inside text b = if b == 10 then at Begin (text ++ 10 ∷ []) else (if b == 27 then at Sequence text else at Inside (text ++ b ∷ []))
read_at Sequence text b = if b == 10 then at Begin (text ++ 10 ∷ []) else (if b == 109 then at Inside text else at Sequence text)
read_at Marks text b = if b == 10 then at Begin text else at Marks text

abbrev pub read_byte : Unshown → ℕ → Unshown
read_byte u b = read_at u.place u.text b

abbrev pub unshown : List ℕ → List ℕ
unshown lines = (fold read_byte (at Begin []) lines).text
