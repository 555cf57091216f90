-- What the pieces of a text are, from what its caller knows of tokens and comments.
use Rattle.std.proofs.Common.{◌≡◌, ◌∙◌, ℕ, ◌+◌, ◌<◌, ◌≤◌, false, List, [], inl, inr, ⊎_elim, refl, sym, subst, ap, arith, drop, encode_utf8_all, length, length-append, ltb-true, map, take}
use Rattle.std.specs.Prelude.{◌⊎◌}
use Rattle.std.specs.List.{All, list_all}
use Rattle.std.specs.Str.{IsUtf8, chars}
use Rattle.std.proofs.lemmas.List.{drop_all}
use Rattle.ecma_place.specs.Cursor.{HasPlace}
use Rattle.ecma_place.specs.Text.{byte_len}
use Rattle.ecma_place.specs.declared.place.Span.{Span}
use Rattle.ecma_place.proofs.CursorLemmas.{split-at}
use Rattle.ecma_comments.specs.declared.comments_buffer.BufferedComment.{BufferedComment}
use Rattle.ecma_state.specs.declared.kept.Kept.{Kept}
use Rattle.ecma_classes.specs.Marks.{IsInOrder, walked}
use Rattle.ecma_classes.specs.Classes.{AreApart, LieInOrder, LiesWell, StandsIn, Tile, TriviaStandsAlone, begin, classes_of, comment_spans, holds_byte, in_order_of_place, is_apart, is_trivia, joined, outside, over, pieces_told, spans_of_comments, spans_of_kept, token_spans}
use Rattle.ecma_classes.specs.declared.piece.Class.TheVariants.{Token, Comment}
use Rattle.ecma_classes.specs.declared.piece.Piece.{Piece}
use Rattle.ecma_classes.proofs.ApartLemmas.{apart_filter, in_over, order-apart}
use Rattle.ecma_classes.proofs.MemberLemmas.{IsIn, all_in, in_either, of_filter, of_order}
use Rattle.ecma_classes.proofs.TileLemmas.{joined_whole, pieces_stand, tile-none, tiles, trivia_alone}
use Rattle.ecma_classes.proofs.WalkLemmas.{Comes, Told, all_pieces, comes_of}

-- the places of a text

parts-long : (source : List ℕ) (n : ℕ) → IsUtf8 source → byte_len (take n (chars source)) + length (encode_utf8_all (drop n (chars source))) ≡ length source
parts-long source n utf8 =
    sym (ap length (split-at source n utf8) ∙ length-append (encode_utf8_all (take n (chars source))) (encode_utf8_all (drop n (chars source))))

place-within : (start : ℕ) (source : List ℕ) (p : ℕ) → IsUtf8 source → HasPlace (begin start (chars source)) p → (start ≤ p) × (p ≤ start + length source)
place-within start source p utf8 has =
    let at = has.1 in
    let long = parts-long source has.0 utf8 in
    (omega arith, omega arith)

first-place : (start : ℕ) (source : List ℕ) → HasPlace (begin start (chars source)) start
first-place start source = (0, omega arith)

last-place : (start : ℕ) (source : List ℕ) → IsUtf8 source → HasPlace (begin start (chars source)) (start + length source)
last-place start source utf8 =
    let n : ℕ = length (chars source) in
    let long = parts-long source n utf8 in
    let none : length (encode_utf8_all (drop n (chars source))) ≡ 0 = ap (λ t. length (encode_utf8_all t)) (drop_all n (chars source) (omega arith)) in
    (n, omega arith)

-- what the caller knows of a text that starts at a place
pub record Knows (start : ℕ) (source : List ℕ) (kept : List Kept) (comments : List BufferedComment) : Type 0 where
  pub utf8 : IsUtf8 source
  pub tokens : All (StandsIn (begin start (chars source))) (spans_of_kept kept)
  pub in_order : LieInOrder start (spans_of_kept kept)
  pub comments-stand : All (StandsIn (begin start (chars source))) (spans_of_comments comments)
  pub apart : AreApart (comment_spans comments)
  pub well : All (LiesWell (token_spans kept)) (comment_spans comments)

-- what is promised of the pieces
pub record Covers (start : ℕ) (source : List ℕ) (kept : List Kept) (comments : List BufferedComment) (pieces : List Piece) : Type 0 where
  pub same : pieces ≡ classes_of start (length source) kept comments
  pub tiled : Tile start pieces (start + length source)
  pub whole : joined start source pieces ≡ source
  pub places : All (λ (p : Piece). StandsIn (begin start (chars source)) p.span) pieces
  pub longest : TriviaStandsAlone pieces
  pub none : source ≡ [] → pieces ≡ []

module _ (start : ℕ) (source : List ℕ) (kept : List Kept) (comments : List BufferedComment) (k : Knows start source kept comments) where
  stands : (s : Span) → IsIn s (token_spans kept) ⊎ IsIn s (comment_spans comments) → StandsIn (begin start (chars source)) s
  stands s (inl i) = all_in (StandsIn (begin start (chars source))) (spans_of_kept kept) k.tokens s (of_filter holds_byte s (spans_of_kept kept) i).0
  stands s (inr i) = all_in (StandsIn (begin start (chars source))) (spans_of_comments comments) k.comments-stand s (of_filter holds_byte s (spans_of_comments comments) i).0

  holds : (s : Span) → IsIn s (token_spans kept) ⊎ IsIn s (comment_spans comments) → s.lo.0 < s.hi.0
  holds s (inl i) = ltb-true s.lo.0 s.hi.0 (of_filter holds_byte s (spans_of_kept kept) i).1
  holds s (inr i) = ltb-true s.lo.0 s.hi.0 (of_filter holds_byte s (spans_of_comments comments) i).1

  tokens-apart : AreApart (token_spans kept)
  tokens-apart = apart_filter holds_byte (spans_of_kept kept) (order-apart start (spans_of_kept kept) k.in_order (λ s i. (all_in (StandsIn (begin start (chars source))) (spans_of_kept kept) k.tokens s i).in_order))

  told : Told start (length source) (token_spans kept) (comment_spans comments)
  told = record {
    first = tokens-apart;
    second = k.apart;
    holds = holds;
    from = λ s i. (place-within start source s.lo.0 k.utf8 (stands s i).from).0;
    to = λ s i. (place-within start source s.hi.0 k.utf8 (stands s i).to).1;
    well = λ c i. all_in (LiesWell (token_spans kept)) (comment_spans comments) k.well c i;
  }

  told-spans : (z : Piece) → IsIn z (pieces_told (token_spans kept) (comment_spans comments)) → (is_trivia z.class ≡ false) × (IsIn z.span (token_spans kept) ⊎ IsIn z.span (comment_spans comments))
  told-spans z h = ⊎_elim
      (λ i. let found = in_over Token (token_spans kept) z i in
      subst (λ (w : Piece). (is_trivia w.class ≡ false) × (IsIn w.span (token_spans kept) ⊎ IsIn w.span (comment_spans comments))) (sym found.2) (refl, inl found.1))
      (λ i. let found = in_over Comment (outside (token_spans kept) (comment_spans comments)) z i in
      let of = (of_filter (λ c. list_all (is_apart c) (token_spans kept)) found.0 (comment_spans comments) found.1).0 in
      subst (λ (w : Piece). (is_trivia w.class ≡ false) × (IsIn w.span (token_spans kept) ⊎ IsIn w.span (comment_spans comments))) (sym found.2) (refl, inr of))
      (in_either z (map (over Token) (token_spans kept)) (map (over Comment) (outside (token_spans kept) (comment_spans comments))) h)

  marks : List Piece
  marks = in_order_of_place start (length source) (pieces_told (token_spans kept) (comment_spans comments))

  of-marks : (z : Piece) → IsIn z marks → (is_trivia z.class ≡ false) × (IsIn z.span (token_spans kept) ⊎ IsIn z.span (comment_spans comments))
  unfolding marks
  of-marks z h = told-spans z (of_order start (length source) z (pieces_told (token_spans kept) (comment_spans comments)) h).0

  covers-these : (ys pieces : List Piece) → Comes start (length source) (token_spans kept) (comment_spans comments) ys → pieces ≡ walked start ys (start + length source) → Covers start source kept comments pieces
  unfolding marks
  covers-these ys pieces comes e = record {
    same = same;
    tiled = tiled;
    whole = joined_whole start source pieces tiled;
    places = subst (All (λ (p : Piece). StandsIn (begin start (chars source)) p.span)) (sym same)
        (pieces_stand (begin start (chars source)) start marks (start + length source) (first-place start source) (last-place start source k.utf8) comes.between (λ z i. stands z.span (of-marks z i).1));
    longest = subst TriviaStandsAlone (sym same) (trivia_alone start marks (start + length source) (λ z i. (of-marks z i).0));
    none = λ empty. tile-none start pieces (subst (Tile start pieces) (ap (λ t. start + length t) empty ∙ (omega arith)) tiled);
  }
    where
      same : pieces ≡ classes_of start (length source) kept comments
      same = e ∙ comes.same

      tiled : Tile start pieces (start + length source)
      tiled = subst (λ l. Tile start l (start + length source)) (sym same) (tiles start marks (start + length source) comes.between)

  pub covers_of : (ys pieces : List Piece) → IsInOrder (all_pieces (token_spans kept) (comment_spans comments)) ys → pieces ≡ walked start ys (start + length source)
      → Covers start source kept comments pieces
  covers_of ys pieces order e = covers-these ys pieces (comes_of start (length source) (token_spans kept) (comment_spans comments) ys told order) e
