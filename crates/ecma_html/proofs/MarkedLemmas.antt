-- Pieces in which places lie; and whatever is marked, the text is what is left without the markup.
use Rattle.std.proofs.Common.{◌≡◌, ◌∙◌, ℕ, ◌+◌, ◌-◌, ◌<◌, ◌≤◌, Bool, true, false, List, [], ◌∷◌, ◌++◌, append_assoc, append-nil, Option, length, drop, take, map, nat_lt, ⊎_elim, refl, sym, subst, ap, arith}
use Rattle.std.specs.Prelude.{get_or, slice_range}
use Rattle.std.specs.List.Sorted.{IsPartitionPoint}
use Rattle.std.proofs.lemmas.Bool.{cases_lt}
use Rattle.std.proofs.lemmas.Bool.Decides.{nat_tests}
use Rattle.std.proofs.lemmas.Grind.{flat_map-append}
use Rattle.std.proofs.lemmas.List.{get_or_default, map-append, take_all, take_more}
use Rattle.std.proofs.lemmas.List.Folds.{list_any-from_Any, list_any_none}
use Rattle.ecma_span.specs.declared.place.BytePos.{BytePos}
use Rattle.ecma_span.specs.declared.place.Span.{Span}
use Rattle.ecma_classes.specs.Classes.{joined}
use Rattle.ecma_classes.specs.declared.piece.Piece.{Piece}
use Rattle.ecma_styles.specs.declared.«class».Class.{Class}
use Rattle.ecma_styles.specs.Styles.{Styled, left_classes, piece_class, styled}
use Rattle.ecma_html.specs.Marked.{AreInOrder, WereAdded, has_place, lies_in, marked, marked_style, part_span, piece_span}
use Rattle.ecma_html.specs.Markup.{close_tag, html_of, open_tag, piece_html, pieces_html, styled_html}
use Rattle.ecma_html.specs.Unmark.{Outside, at, read, shown}
use Rattle.ecma_html.proofs.MarkupLemmas.{bytes_of, html-read, left-of}

-- Places

pub none-in-order : AreInOrder []
none-in-order i j d le inside = omega arith

-- what a search for the first place from there on ends at
abbrev pub Splits : List BytePos → ℕ → ℕ → Type 0
Splits places low first = IsPartitionPoint (λ p. nat_lt p.0 low ≡ true) (λ p. nat_lt p.0 low ≡ false) places first

-- what a read of a place out of range gives
abbrev pub no_place : BytePos
no_place = record { 0 = 0 }

is-in : (span : Span) (place : BytePos) → nat_lt place.0 span.lo.0 ≡ false → nat_lt place.0 span.hi.0 ≡ true → lies_in span place ≡ true
is-in span place from to = grind (arith, nat_tests)

is-before : (span : Span) (place : BytePos) → nat_lt place.0 span.lo.0 ≡ true → lies_in span place ≡ false
is-before span place before = grind (arith, nat_tests)

is-behind : (span : Span) (first place : BytePos) → first.0 ≤ place.0 → nat_lt first.0 span.hi.0 ≡ false → lies_in span place ≡ false
is-behind span first place le behind = grind (arith, nat_tests)

-- the first place that is not before the span is in it, or none is
pub first-tells : (places : List BytePos) (span : Span) (first : ℕ) → AreInOrder places → Splits places span.lo.0 first → first < length places
    → nat_lt (get_or places first no_place).0 span.hi.0 ≡ has_place places span
first-tells places span first order splits inside = go (nat_lt (get_or places first no_place).0 span.hi.0) refl
  where
    go : (x : Bool) → nat_lt (get_or places first no_place).0 span.hi.0 ≡ x → nat_lt (get_or places first no_place).0 span.hi.0 ≡ has_place places span
    go true e =
        let found : BytePos = get_or places first no_place in
        e ∙ sym (list_any-from_Any (lies_in span) places (first, found, inside, get_or_default places first found no_place inside, is-in span found (splits.1 first no_place (omega arith) inside) e))
    go false e =
        e ∙ sym (list_any_none (lies_in span) places (λ k d within. ⊎_elim
        (λ before. is-before span (get_or places k d) (splits.0 k d (omega arith) before))
        (λ from. ap (lies_in span) (get_or_default places k d no_place within) ∙ is-behind span (get_or places first no_place) (get_or places k no_place) (order first k no_place from within) e)
        (cases_lt k first)))

-- where all are before the span, none is in it
pub none-tells : (places : List BytePos) (span : Span) (first : ℕ) → Splits places span.lo.0 first → length places ≤ first → false ≡ has_place places span
none-tells places span first splits all = sym (list_any_none (lies_in span) places (λ k d inside. is-before span (get_or places k d) (splits.0 k d (omega arith) (omega arith))))

-- Marked pieces

-- with no place nothing is marked
pub marked-none : (parts : List Styled) → marked [] parts ≡ parts
marked-none [] = refl
marked-none (s ∷ ss) = ap (λ more. s ∷ more) (marked-none ss)

-- a piece of those that are left
pub item-html : (places : List BytePos) (bytes : List ℕ) (classes left : List (Option Class)) (ps : List Piece) (i : ℕ) (d : Piece) → i < length ps → left ≡ left_classes (get_or ps i d).class classes
    → pieces_html bytes (marked places (styled classes (drop i ps)))
    ≡ styled_html (marked_style places (get_or ps i d).span (piece_class (get_or ps i d).class classes)) (slice_range bytes (get_or ps i d).span.lo.0 (get_or ps i d).span.hi.0)
    ++ pieces_html bytes (marked places (styled left (drop (i + 1) ps)))
item-html places bytes classes left ps i d h is =
    let p : Piece = get_or ps i d in
    ap (λ qs. pieces_html bytes (marked places (styled classes qs))) (left-of ps i d h)
    ∙ ap (λ cs. styled_html (marked_style places p.span (piece_class p.class classes)) (slice_range bytes p.span.lo.0 p.span.hi.0) ++ pieces_html bytes (marked places (styled cs (drop (i + 1) ps)))) (sym is)

-- Pieces in any classes

pub none-added : (bytes : List ℕ) (ps : List Piece) (out : List ℕ) → WereAdded bytes (take 0 ps) out out
none-added bytes ps out = record { parts = []; spans = refl; added = sym (append-nil out) }

pub one-added : (bytes : List ℕ) (ps : List Piece) (i : ℕ) (d : Piece) (style : Option Class) (before out after : List ℕ) → i < length ps → WereAdded bytes (take i ps) before out
    → after ≡ out ++ styled_html style (slice_range bytes (get_or ps i d).span.lo.0 (get_or ps i d).span.hi.0) → WereAdded bytes (take (i + 1) ps) before after
one-added bytes ps i d style before out after inside w is =
    let p : Piece = get_or ps i d in
    let own : Styled = record { span = p.span; style = style } in
    record {
      parts = w.parts ++ own ∷ [];
      spans = map-append part_span w.parts (own ∷ []) ∙ ap (λ l. l ++ p.span ∷ []) w.spans ∙ sym (map-append piece_span (take i ps) (p ∷ [])) ∙ ap (map piece_span) (sym (take_more ps i d inside));
      added = is ∙ ap (λ l. l ++ piece_html bytes own) w.added
          ∙ append_assoc before (pieces_html bytes w.parts) (piece_html bytes own)
          ∙ ap (λ l. before ++ (pieces_html bytes w.parts ++ l)) (sym (append-nil (piece_html bytes own)))
          ∙ ap (λ l. before ++ l) (sym (flat_map-append (piece_html bytes) w.parts (own ∷ [])));
    }

pub all-added : (bytes : List ℕ) (ps : List Piece) (i : ℕ) (before after : List ℕ) → length ps ≤ i → WereAdded bytes (take i ps) before after → WereAdded bytes ps before after
all-added bytes ps i before after past w = subst (λ qs. WereAdded bytes qs before after) (take_all i ps past) w

-- the bytes of each span, joined
abbrev bytes_at : List ℕ → List Span → List ℕ
bytes_at text [] = []
bytes_at text (s ∷ ss) = slice_range text s.lo.0 s.hi.0 ++ bytes_at text ss

parts-bytes : (text : List ℕ) (parts : List Styled) → bytes_of text parts ≡ bytes_at text (map part_span parts)
parts-bytes text [] = refl
parts-bytes text (s ∷ ss) = ap (λ more. slice_range text s.span.lo.0 s.span.hi.0 ++ more) (parts-bytes text ss)

pieces-bytes : (text : List ℕ) (ps : List Piece) → bytes_at text (map piece_span ps) ≡ joined 0 text ps
pieces-bytes text [] = refl
pieces-bytes text (p ∷ ps) =
    let low : p.span.lo.0 ≡ p.span.lo.0 - 0 = omega arith in
    let high : p.span.hi.0 ≡ p.span.hi.0 - 0 = omega arith in
    ap (λ l. slice_range text l p.span.hi.0 ++ bytes_at text (map piece_span ps)) low
    ∙ ap (λ h. slice_range text (p.span.lo.0 - 0) h ++ bytes_at text (map piece_span ps)) high
    ∙ ap (λ more. slice_range text (p.span.lo.0 - 0) (p.span.hi.0 - 0) ++ more) (pieces-bytes text ps)

-- where the pieces cover the text, the text is what is left of its HTML, and nothing is open behind that
pub text-read : (source : List ℕ) (ps : List Piece) (before after html : List ℕ) → joined 0 source ps ≡ source → before ≡ open_tag → WereAdded source ps before after → html ≡ after ++ close_tag
    → read html ≡ at Outside (shown source)
text-read source ps before after html whole first w last =
    let written : html ≡ html_of source w.parts = last ∙ ap (λ l. l ++ close_tag) (w.added ∙ ap (λ l. l ++ pieces_html source w.parts) first) ∙ append_assoc open_tag (pieces_html source w.parts) close_tag in
    ap read written
    ∙ html-read source w.parts
    ∙ ap (λ bytes. at Outside (shown bytes)) (parts-bytes source w.parts ∙ ap (bytes_at source) w.spans ∙ pieces-bytes source ps ∙ whole)

-- what is written of each piece is at its span, whatever class it is shown with
styled-spans : (places : List BytePos) (classes : List (Option Class)) (ps : List Piece) → map part_span (marked places (styled classes ps)) ≡ map piece_span ps
styled-spans places classes [] = refl
styled-spans places classes (p ∷ ps) = ap (λ spans. p.span ∷ spans) (styled-spans places (left_classes p.class classes) ps)

-- so it is where the pieces are shown with these classes, and as errors at these places
pub marked-read : (text : List ℕ) (ps : List Piece) (classes : List (Option Class)) (places : List BytePos) → joined 0 text ps ≡ text
    → read (html_of text (marked places (styled classes ps))) ≡ at Outside (shown text)
marked-read text ps classes places whole =
    let parts : List Styled = marked places (styled classes ps) in
    html-read text parts
    ∙ ap (λ bytes. at Outside (shown bytes)) (parts-bytes text parts ∙ ap (bytes_at text) (styled-spans places classes ps) ∙ pieces-bytes text ps ∙ whole)
