-- What pieces cover a text: each token, each comment outside of all tokens, and whatever is between two of these.
use Rattle.std.specs.Prelude.{ℕ, zero, suc, ◌+◌, ◌-◌, ◌<◌, ◌≤◌, ◌≡◌, ◌==◌, ◌&&◌, ◌||◌, Bool, true, false, List, [], ◌∷◌, ◌++◌, map, nat_le, nat_lt, slice_range, if◌then◌else◌}
use Rattle.std.specs.List.{filter, list_all, list_any}
use Rattle.ecma_place.specs.Cursor.{Cursor, HasPlace}
use Rattle.ecma_place.specs.Text.{Text}
use Rattle.ecma_place.specs.declared.place.Span.{Span}
use Rattle.ecma_comments.specs.declared.comments_buffer.BufferedComment.{BufferedComment}
use Rattle.ecma_state.specs.declared.kept.Kept.{Kept}
use Rattle.ecma_classes.specs.declared.piece.Class.{Class}
use Rattle.ecma_classes.specs.declared.piece.Class.TheVariants.{Token, Comment, Trivia}
use Rattle.ecma_classes.specs.declared.piece.Piece.{Piece}

-- Spans

-- a text from its beginning on
abbrev pub begin : ℕ → Text → Cursor
begin start text = record { start = start; text = text; at = 0 }

abbrev pub span_between : ℕ → ℕ → Span
span_between low high = record { lo = record { 0 = low }; hi = record { 0 = high } }

abbrev pub holds_byte : Span → Bool
holds_byte s = nat_lt s.lo.0 s.hi.0

-- no byte lies in both
abbrev pub is_apart : Span → Span → Bool
is_apart a b = nat_le a.hi.0 b.lo.0 || nat_le b.hi.0 a.lo.0

-- the first lies in the second
abbrev pub is_inside : Span → Span → Bool
is_inside a b = nat_le b.lo.0 a.lo.0 && nat_le a.hi.0 b.hi.0

-- a span lies in the text of a cursor, between two of its places
pub record StandsIn (c : Cursor) (s : Span) : Type 0 where
  pub from : HasPlace c s.lo.0
  pub to : HasPlace c s.hi.0
  pub in_order : s.lo.0 ≤ s.hi.0

-- each begins where the one before it ends, or behind that, and none before the place
abbrev pub LieInOrder : ℕ → List Span → Type 0
LieInOrder low [] = Unit {0}
LieInOrder low (s ∷ ss) = (low ≤ s.lo.0) × LieInOrder s.hi.0 ss

-- no byte lies in two of them
abbrev pub AreApart : List Span → Type 0
AreApart [] = Unit {0}
AreApart (s ∷ ss) = (list_all (is_apart s) ss ≡ true) × AreApart ss

-- a comment lies in one of the tokens, or outside all of them
abbrev pub LiesWell : List Span → Span → Type 0
LiesWell tokens comment = (list_any (is_inside comment) tokens || list_all (is_apart comment) tokens) ≡ true

-- Tokens and comments

abbrev pub spans_of_kept : List Kept → List Span
spans_of_kept kept = map (λ k. k.span) kept

abbrev pub spans_of_comments : List BufferedComment → List Span
spans_of_comments comments = map (λ b. b.comment.span) comments

-- those that hold a byte
abbrev pub token_spans : List Kept → List Span
token_spans kept = filter holds_byte (spans_of_kept kept)

abbrev pub comment_spans : List BufferedComment → List Span
comment_spans comments = filter holds_byte (spans_of_comments comments)

-- the comments that lie outside all tokens
abbrev pub outside : List Span → List Span → List Span
outside tokens comments = filter (λ c. list_all (is_apart c) tokens) comments

-- Pieces

abbrev pub over : Class → Span → Piece
over class span = record { span = span; class = class }

-- one over the span, if that holds a byte
abbrev pub pieces_over : Class → Span → List Piece
pieces_over class span = if holds_byte span then over class span ∷ [] else []

-- those that begin at a place
abbrev pub beginning_at : ℕ → List Piece → List Piece
beginning_at p pieces = filter (λ q. q.span.lo.0 == p) pieces

-- those that begin at one of n places, from a place on, in order of place
abbrev pub in_order_of_place : ℕ → ℕ → List Piece → List Piece
in_order_of_place p zero pieces = []
in_order_of_place p (suc n) pieces = beginning_at p pieces ++ in_order_of_place (p + 1) n pieces

-- what is left before, between and behind them, from one place up to another, is trivia
abbrev pub with_trivia : ℕ → List Piece → ℕ → List Piece
with_trivia low [] high = pieces_over Trivia (span_between low high)
with_trivia low (p ∷ ps) high = pieces_over Trivia (span_between low p.span.lo.0) ++ (p ∷ with_trivia p.span.hi.0 ps high)

-- the tokens and the comments that pieces stand for
abbrev pub pieces_told : List Span → List Span → List Piece
pieces_told tokens comments = map (over Token) tokens ++ map (over Comment) (outside tokens comments)

-- the pieces of a text that starts at a place and has so many bytes
abbrev pub classes_of : ℕ → ℕ → List Kept → List BufferedComment → List Piece
classes_of start bytes kept comments =
    with_trivia start (in_order_of_place start bytes (pieces_told (token_spans kept) (comment_spans comments))) (start + bytes)

-- What they are of the text

-- Pieces lie from one place up to another: each begins where the one before it ends, and each holds a byte.
abbrev pub Tile : ℕ → List Piece → ℕ → Type 0
Tile low [] high = low ≡ high
Tile low (p ∷ ps) high = (p.span.lo.0 ≡ low) × (low < p.span.hi.0) × Tile p.span.hi.0 ps high

-- the bytes of each, joined
abbrev pub joined : ℕ → List ℕ → List Piece → List ℕ
joined start text [] = []
joined start text (p ∷ ps) = slice_range text (p.span.lo.0 - start) (p.span.hi.0 - start) ++ joined start text ps

abbrev pub is_trivia : Class → Bool
is_trivia Token = false
is_trivia Comment = false
is_trivia Trivia = true

-- no piece of trivia is behind another
abbrev pub TriviaStandsAlone : List Piece → Type 0
TriviaStandsAlone [] = Unit {0}
TriviaStandsAlone (p ∷ []) = Unit {0}
TriviaStandsAlone (p ∷ (q ∷ qs)) = ((is_trivia p.class && is_trivia q.class) ≡ false) × TriviaStandsAlone (q ∷ qs)
