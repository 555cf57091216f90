-- How the pieces of tokens and comments are gone through.
use Rattle.std.specs.Prelude.{ℕ, ◌≡◌, ◌≤◌, ◌+◌, ◌*◌, List, [], ◌∷◌, ◌++◌, Option, Some, None, Bool, true, false, if◌then◌else◌, drop, map, nat_le, nat_lt}
use Rattle.std.specs.List.Sorted.{IsNonDecreasingBy}
use Rattle.ecma_classes.specs.Classes.{beginning_at, over, pieces_over, span_between, token_spans}
use Rattle.ecma_classes.specs.declared.piece.Class.{Class}
use Rattle.ecma_classes.specs.declared.piece.Class.TheVariants.{Token, Comment, Trivia}
use Rattle.ecma_place.specs.declared.place.Span.{Span}
use Rattle.ecma_state.specs.declared.kept.Kept.{Kept}
use Rattle.ecma_classes.specs.declared.marks.Marks.{Marks}
use Rattle.ecma_classes.specs.declared.piece.Piece.{Piece}

-- tokens come before what else begins where they do
abbrev pub rank : Class → ℕ
rank Token = 0
rank Comment = 1
rank Trivia = 1

abbrev pub place_and_rank : Piece → ℕ
place_and_rank p = 2 * p.span.lo.0 + rank p.class

-- the same pieces in order of place, and where they begin at one place, in the order that they had
pub record IsInOrder (pieces ordered : List Piece) : Type 0 where
  pub order : IsNonDecreasingBy place_and_rank ordered
  pub same : (p : ℕ) → beginning_at p ordered ≡ beginning_at p pieces

-- those that begin where the one before ends, or behind that, with trivia between them
abbrev pub walked : ℕ → List Piece → ℕ → List Piece
walked low [] high = pieces_over Trivia (span_between low high)
walked low (p ∷ ps) high =
    if nat_le low p.span.lo.0 then pieces_over Trivia (span_between low p.span.lo.0) ++ (p ∷ walked p.span.hi.0 ps high) else walked low ps high

-- of these marks those that begin before a place are passed over, up to the one that is answered, or to their end
abbrev pub Reaches : ℕ → List Piece → Option Piece → List Piece → Type 0
Reaches low marks None left = (left ≡ []) × ((high : ℕ) → walked low marks high ≡ walked low [] high)
Reaches low marks (Some mark) left = (low ≤ mark.span.lo.0) × ((high : ℕ) → walked low marks high ≡ walked low (mark ∷ left) high)

-- two lists in one, the one that begins first before the other, and of two that begin at one place that of the first list
abbrev pub merged : List Piece → List Piece → List Piece
merged [] qs = qs
merged (p ∷ ps) [] = p ∷ ps
merged (p ∷ ps) (q ∷ qs) = if nat_lt q.span.lo.0 p.span.lo.0 then q ∷ merged (p ∷ ps) qs else p ∷ merged ps (q ∷ qs)

-- it does not end before it begins
abbrev pub IsForward : Span → Type 0
IsForward s = s.lo.0 ≤ s.hi.0

-- tokens as pieces
abbrev pub token_marks : List Kept → List Piece
token_marks kept = map (over Token) (token_spans kept)

-- whether there is a comment, and begins before the token
abbrev pub is_before : Option Piece → Span → Bool
is_before None token = false
is_before (Some comment) token = nat_lt comment.span.lo.0 token.lo.0

-- what is first is a comment, or there is none: no token is left, or that comment begins before the first
abbrev pub NoTokenFirst : List Span → Option Piece → Type 0
NoTokenFirst [] comment = Unit {0}
NoTokenFirst (t ∷ ts) comment = is_before comment t ≡ true

-- what is left of tokens and comments
abbrev pub left : Marks → List Piece
left m = merged (token_marks m.tokens.now) (drop m.passed m.comments.items)

-- what covers a text from a place on: the piece that is known, where there is one, and then the marks with what is between them
abbrev pub covered : Option Piece → ℕ → List Piece → ℕ → List Piece
covered None low marks high = walked low marks high
covered (Some known) low marks high = known ∷ walked known.span.hi.0 marks high
