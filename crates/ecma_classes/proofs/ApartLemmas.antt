-- Pieces that share no byte, in any order of place.
use Rattle.std.proofs.Common.{◌≡◌, ◌∙◌, ℕ, zero, suc, ◌+◌, ◌<◌, ◌≤◌, Bool, true, ◌==◌, List, [], ◌∷◌, ◌++◌, inl, inr, ⊎_elim, refl, sym, subst, ap, arith, leb, leb-true, le-leb, eqb-true, map}
use Rattle.std.specs.Prelude.{◌⊎◌}
use Rattle.std.specs.List.{filter, list_all}
use Rattle.std.proofs.lemmas.Bool.{and_parts, cases_Bool, or_cases, or_left, or_right}
use Rattle.ecma_place.specs.declared.place.Span.{Span}
use Rattle.ecma_classes.specs.Classes.{AreApart, LieInOrder, beginning_at, in_order_of_place, is_apart, is_inside, over, outside, pieces_told}
use Rattle.ecma_classes.specs.declared.piece.Class.{Class}
use Rattle.ecma_classes.specs.declared.piece.Class.TheVariants.{Token, Comment}
use Rattle.ecma_classes.specs.declared.piece.Piece.{Piece}
use Rattle.ecma_classes.proofs.MemberLemmas.{IsIn, all_of, at_all, filter-dropped, filter-kept, in_either, of_filter, of_order}

-- Spans that share no byte

abbrev pub Are2 : Span → Span → Type 0
Are2 a b = (a.hi.0 ≤ b.lo.0) ⊎ (b.hi.0 ≤ a.lo.0)

pub apart-cases : (a b : Span) → is_apart a b ≡ true → Are2 a b
apart-cases a b h = ⊎_elim (λ e. inl (leb-true a.hi.0 b.lo.0 e)) (λ e. inr (leb-true b.hi.0 a.lo.0 e)) (or_cases (leb a.hi.0 b.lo.0) (leb b.hi.0 a.lo.0) h)

pub before-apart : (a b : Span) → a.hi.0 ≤ b.lo.0 → is_apart a b ≡ true
before-apart a b h = or_left (leb a.hi.0 b.lo.0) (leb b.hi.0 a.lo.0) (le-leb a.hi.0 b.lo.0 h)

pub behind-apart : (a b : Span) → b.hi.0 ≤ a.lo.0 → is_apart a b ≡ true
behind-apart a b h = or_right (leb a.hi.0 b.lo.0) (leb b.hi.0 a.lo.0) (le-leb b.hi.0 a.lo.0 h)

pub apart-both : (a b : Span) → is_apart a b ≡ true → is_apart b a ≡ true
apart-both a b h = ⊎_elim (λ le. behind-apart b a le) (λ le. before-apart b a le) (apart-cases a b h)

pub inside-cases : (a b : Span) → is_inside a b ≡ true → (b.lo.0 ≤ a.lo.0) × (a.hi.0 ≤ b.hi.0)
inside-cases a b h =
    let both = and_parts (leb b.lo.0 a.lo.0) (leb a.hi.0 b.hi.0) h in
    (leb-true b.lo.0 a.lo.0 both.0, leb-true a.hi.0 b.hi.0 both.1)

pub apart_filter : (p : Span → Bool) (ss : List Span) → AreApart ss → AreApart (filter p ss)
apart_filter p [] h = tt
apart_filter p (s ∷ ss) h = ⊎_elim
    (λ kept. subst AreApart (sym (filter-kept p s ss kept)) (all_of (is_apart s) (filter p ss) (λ t i. at_all (is_apart s) t ss h.0 (of_filter p t ss i).0), apart_filter p ss h.1))
    (λ dropped. subst AreApart (sym (filter-dropped p s ss dropped)) (apart_filter p ss h.1))
    (cases_Bool (p s))

pub behind_place : (low : ℕ) (ss : List Span) → LieInOrder low ss → ((s : Span) → IsIn s ss → s.lo.0 ≤ s.hi.0) → (t : Span) → IsIn t ss → low ≤ t.lo.0
behind_place low [] h within t i = absurd i
behind_place low (s ∷ ss) h within t (inl e) = subst (λ (u : Span). low ≤ u.lo.0) (sym e) h.0
behind_place low (s ∷ ss) h within t (inr i) =
    let own = within s (inl refl) in
    let first = h.0 in
    let rest = behind_place s.hi.0 ss h.1 (λ u j. within u (inr j)) t i in
    omega arith

-- those in order are apart
pub order-apart : (low : ℕ) (ss : List Span) → LieInOrder low ss → ((s : Span) → IsIn s ss → s.lo.0 ≤ s.hi.0) → AreApart ss
order-apart low [] h within = tt
order-apart low (s ∷ ss) h within =
    let tail : (u : Span) → IsIn u ss → u.lo.0 ≤ u.hi.0 = λ u j. within u (inr j) in
    (all_of (is_apart s) ss (λ t i. before-apart s t (behind_place s.hi.0 ss h.1 tail t i)), order-apart s.hi.0 ss h.1 tail)

-- Pieces that share no byte

abbrev pub Apart : List Piece → Type 0
Apart [] = Unit {0}
Apart (y ∷ ys) = ((z : Piece) → IsIn z ys → is_apart y.span z.span ≡ true) × Apart ys

pub in_over : (class : Class) (ss : List Span) (y : Piece) → IsIn y (map (over class) ss) → (s : Span) × (IsIn s ss) × (y ≡ over class s)
in_over class [] y h = absurd h
in_over class (s ∷ ss) y (inl e) = (s, inl refl, e)
in_over class (s ∷ ss) y (inr h) = let found = in_over class ss y h in (found.0, inr found.1, found.2)

pub over_in : (class : Class) (ss : List Span) (s : Span) → IsIn s ss → IsIn (over class s) (map (over class) ss)
over_in class [] s h = h
over_in class (t ∷ ss) s (inl e) = inl (ap (over class) e)
over_in class (t ∷ ss) s (inr h) = inr (over_in class ss s h)

apart-over : (class : Class) (ss : List Span) → AreApart ss → Apart (map (over class) ss)
apart-over class [] h = tt
apart-over class (s ∷ ss) h = (
  λ z i. let found = in_over class ss z i in subst (λ (w : Piece). is_apart s w.span ≡ true) (sym found.2) (at_all (is_apart s) found.0 ss h.0 found.1),
  apart-over class ss h.1,
)

apart-filter : (p : Piece → Bool) (ys : List Piece) → Apart ys → Apart (filter p ys)
apart-filter p [] h = tt
apart-filter p (y ∷ ys) h = ⊎_elim
    (λ kept. subst Apart (sym (filter-kept p y ys kept)) (λ z i. h.0 z (of_filter p z ys i).0, apart-filter p ys h.1))
    (λ dropped. subst Apart (sym (filter-dropped p y ys dropped)) (apart-filter p ys h.1))
    (cases_Bool (p y))

apart-append : (xs ys : List Piece) → Apart xs → Apart ys → ((x y : Piece) → IsIn x xs → IsIn y ys → is_apart x.span y.span ≡ true) → Apart (xs ++ ys)
apart-append [] ys first second across = second
apart-append (x ∷ xs) ys first second across = (
  λ z h. ⊎_elim (λ i. first.0 z i) (λ i. across x z (inl refl) i) (in_either z xs ys h),
  apart-append xs ys first.1 second (λ a b i j. across a b (inr i) j),
)

-- two that begin apart
apart-at : (ys : List Piece) → Apart ys → (a b : Piece) → IsIn a ys → IsIn b ys → a.span.lo.0 < b.span.lo.0 → is_apart a.span b.span ≡ true
apart-at [] h a b i j less = absurd i
apart-at (y ∷ ys) h a b (inl e) (inl f) less =
    let same : a.span.lo.0 ≡ b.span.lo.0 = ap (λ (p : Piece). p.span.lo.0) (e ∙ sym f) in absurd (omega arith)
apart-at (y ∷ ys) h a b (inl e) (inr j) less = subst (λ (w : Piece). is_apart w.span b.span ≡ true) (sym e) (h.0 b j)
apart-at (y ∷ ys) h a b (inr i) (inl f) less = subst (λ (w : Piece). is_apart a.span w.span ≡ true) (sym f) (apart-both y.span a.span (h.0 a i))
apart-at (y ∷ ys) h a b (inr i) (inr j) less = apart-at ys h.1 a b i j less

pub apart_in_order : (p n : ℕ) (ys : List Piece) → Apart ys → Apart (in_order_of_place p n ys)
apart_in_order p zero ys h = tt
apart_in_order p (suc n) ys h =
    let test : Piece → Bool = λ q. q.span.lo.0 == p in
    apart-append (beginning_at p ys) (in_order_of_place (p + 1) n ys) (apart-filter test ys h) (apart_in_order (p + 1) n ys h) (λ a b i j.
    let first = of_filter test a ys i in
    let second = of_order (p + 1) n b ys j in
    let here : a.span.lo.0 ≡ p = eqb-true a.span.lo.0 p first.1 in
    apart-at ys h a b first.0 second.0 (omega (arith, second.1)))

-- tokens, and the comments outside them
pub told_apart : (tokens comments : List Span) → AreApart tokens → AreApart comments → Apart (pieces_told tokens comments)
told_apart tokens comments first second =
    let test : Span → Bool = λ c. list_all (is_apart c) tokens in
    apart-append (map (over Token) tokens) (map (over Comment) (outside tokens comments)) (apart-over Token tokens first) (apart-over Comment (outside tokens comments) (apart_filter test comments second)) (λ a b i j.
    let token = in_over Token tokens a i in
    let comment = in_over Comment (outside tokens comments) b j in
    let is-outside : list_all (is_apart comment.0) tokens ≡ true = (of_filter test comment.0 comments comment.1).1 in
    let apart : is_apart comment.0 token.0 ≡ true = at_all (is_apart comment.0) token.0 tokens is-outside token.1 in
    let from : is_apart a.span comment.0 ≡ true = subst (λ (w : Piece). is_apart w.span comment.0 ≡ true) (sym token.2) (apart-both comment.0 token.0 apart) in
    subst (λ (w : Piece). is_apart a.span w.span ≡ true) (sym comment.2) from)
