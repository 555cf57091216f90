-- Parts of a text in which the place of an error lies: each is shown as an error. That they are is our own choice.
use Rattle.std.specs.Prelude.{◌≡◌, ℕ, ◌++◌, ◌&&◌, Bool, List, Option, Some, map, nat_le, nat_lt, if◌then◌else◌}
use Rattle.std.specs.List.{list_any}
use Rattle.std.specs.List.Sorted.{IsNonDecreasingBy}
use Rattle.ecma_span.specs.declared.place.BytePos.{BytePos}
use Rattle.ecma_span.specs.declared.place.Span.{Span}
use Rattle.ecma_classes.specs.declared.piece.Piece.{Piece}
use Rattle.ecma_styles.specs.declared.«class».Class.{Class}
use Rattle.ecma_styles.specs.declared.«class».Class.TheVariants.{Wrong}
use Rattle.ecma_styles.specs.Styles.{Styled}
use Rattle.ecma_html.specs.Markup.{pieces_html}

abbrev pub number_of : BytePos → ℕ
number_of place = place.0

abbrev pub AreInOrder : List BytePos → Type 0
AreInOrder places = IsNonDecreasingBy number_of places

abbrev pub lies_in : Span → BytePos → Bool
lies_in span place = nat_le span.lo.0 place.0 && nat_lt place.0 span.hi.0

-- whether one of these places lies in it
abbrev pub has_place : List BytePos → Span → Bool
has_place places span = list_any (lies_in span) places

abbrev pub marked_style : List BytePos → Span → Option Class → Option Class
marked_style places span style = if has_place places span then Some Wrong else style

abbrev pub marked_part : List BytePos → Styled → Styled
marked_part places part = record { span = part.span; style = marked_style places part.span part.style }

abbrev pub marked : List BytePos → List Styled → List Styled
marked places parts = map (marked_part places) parts

abbrev pub part_span : Styled → Span
part_span part = part.span

abbrev pub piece_span : Piece → Span
piece_span piece = piece.span

-- the pieces were added, each in a class or none, whatever that is
pub record WereAdded (text : List ℕ) (pieces : List Piece) (before after : List ℕ) : Type 0 where
  pub parts : List Styled
  pub spans : map part_span parts ≡ map piece_span pieces
  pub added : after ≡ before ++ pieces_html text parts
