-- Going through pieces in order passes those that lie in a token, and no others.
use Rattle.std.proofs.Common.{◌≡◌, ◌∙◌, ℕ, zero, suc, ◌+◌, ◌<◌, ◌≤◌, Bool, true, false, ◌==◌, ◌||◌, cond, List, [], ◌∷◌, ◌++◌, inl, inr, ⊎_elim, refl, sym, subst, ap, arith, leb, le-leb, map}
use Rattle.std.specs.Prelude.{◌⊎◌}
use Rattle.std.specs.List.{filter, list_all, list_any}
use Rattle.std.proofs.lemmas.Bool.{cases_Bool, cond-false, cond-true, lt-leb, or_cases}
use Rattle.std.proofs.lemmas.List.Elements.{filter-append}
use Rattle.ecma_place.specs.declared.place.Span.{Span}
use Rattle.ecma_classes.specs.Marks.{IsInOrder, place_and_rank, rank, walked}
use Rattle.ecma_classes.specs.Classes.{AreApart, LiesWell, beginning_at, in_order_of_place, is_apart, is_inside, over, outside, pieces_over, pieces_told, span_between, with_trivia}
use Rattle.ecma_classes.specs.declared.piece.Class.{Class}
use Rattle.ecma_classes.specs.declared.piece.Class.TheVariants.{Token, Comment, Trivia}
use Rattle.ecma_classes.specs.declared.piece.Piece.{Piece}
use Rattle.ecma_classes.proofs.ApartLemmas.{Apart, apart-cases, apart_in_order, in_over, inside-cases, over_in, told_apart}
use Rattle.ecma_classes.proofs.MemberLemmas.{IsIn, filter-dropped, filter-kept, filter_swap, in_either, in_filter, in_left, in_same, of_filter}
use Rattle.ecma_classes.proofs.OrderLemmas.{Rising, first_rises, placed_is, rising-filter, rising_of}

-- pieces lie between two places, each behind the one before it, and each holds a byte
abbrev pub LieBetween : ℕ → List Piece → ℕ → Type 0
LieBetween low [] high = low ≤ high
LieBetween low (z ∷ zs) high = (low ≤ z.span.lo.0) × (z.span.lo.0 < z.span.hi.0) × LieBetween z.span.hi.0 zs high

-- one of them is a token in which the piece lies
record Covered (keep : Piece → Bool) (y : Piece) (ys : List Piece) : Type 0 where
  token : Piece
  is-in : IsIn token ys
  kept : keep token ≡ true
  first : rank token.class ≡ 0
  from : token.span.lo.0 ≤ y.span.lo.0
  to : y.span.hi.0 ≤ token.span.hi.0

-- pieces behind a place, of which those that a test does not keep lie in a token
record GoesOn (keep : Piece → Bool) (low : ℕ) (ys : List Piece) (high : ℕ) : Type 0 where
  rising : Rising ys
  apart : Apart (filter keep ys)
  bytes : (y : Piece) → IsIn y ys → y.span.lo.0 < y.span.hi.0
  below : (y : Piece) → IsIn y ys → y.span.hi.0 ≤ high
  behind : (y : Piece) → IsIn y ys → keep y ≡ true → low ≤ y.span.lo.0
  later : (y : Piece) → IsIn y ys → keep y ≡ false → rank y.class ≡ 1
  covered : (y : Piece) → IsIn y ys → keep y ≡ false → (y.span.lo.0 < low) ⊎ Covered keep y ys
  whole : low ≤ high

same-in : (ys : List Piece) (y : Piece) (keep : Piece → Bool) (z : Piece) → keep y ≡ false → Covered keep z (y ∷ ys) → Covered keep z ys
same-in ys y keep z dropped c = record {
  token = c.token;
  is-in = ⊎_elim (λ e. absurd (let fails : true ≡ false = sym c.kept ∙ ap keep e ∙ dropped in cc)) (λ i. i) c.is-in;
  kept = c.kept;
  first = c.first;
  from = c.from;
  to = c.to;
}

kept-goes : (keep : Piece → Bool) (low : ℕ) (y : Piece) (ys : List Piece) (high : ℕ) → GoesOn keep low (y ∷ ys) high → keep y ≡ true → GoesOn keep y.span.hi.0 ys high
kept-goes keep low y ys high g kept = record {
  rising = g.rising.1;
  apart = here.1;
  bytes = λ z i. g.bytes z (inr i);
  below = λ z i. g.below z (inr i);
  behind = λ z i keeps.
      let from = first_rises y ys g.rising z i in
      let own = g.bytes z (inr i) in
      ⊎_elim (λ le. le) (λ le. absurd (omega arith)) (apart-cases y.span z.span (here.0 z (in_filter keep z ys i keeps)));
  later = λ z i. g.later z (inr i);
  covered = λ z i drops.
      let from = first_rises y ys g.rising z i in
      let own = g.bytes z (inr i) in
      let place = g.behind y (inl refl) kept in
      ⊎_elim
      (λ less. absurd (omega arith))
      (λ (c : Covered keep z (y ∷ ys)). ⊎_elim
      (λ e. let ends : z.span.hi.0 ≤ y.span.hi.0 = subst (λ (w : Piece). z.span.hi.0 ≤ w.span.hi.0) e c.to in inl (omega arith))
      (λ j. inr (record { token = c.token; is-in = j; kept = c.kept; first = c.first; from = c.from; to = c.to }))
      c.is-in)
      (g.covered z (inr i) drops);
  whole = g.below y (inl refl);
}
  where
    here : Apart (y ∷ filter keep ys)
    here = subst Apart (filter-kept keep y ys kept) g.apart

dropped-goes : (keep : Piece → Bool) (low : ℕ) (y : Piece) (ys : List Piece) (high : ℕ) → GoesOn keep low (y ∷ ys) high → keep y ≡ false → GoesOn keep low ys high
dropped-goes keep low y ys high g dropped = record {
  rising = g.rising.1;
  apart = subst Apart (filter-dropped keep y ys dropped) g.apart;
  bytes = λ z i. g.bytes z (inr i);
  below = λ z i. g.below z (inr i);
  behind = λ z i. g.behind z (inr i);
  later = λ z i. g.later z (inr i);
  covered = λ z i drops. ⊎_elim (λ less. inl less) (λ (c : Covered keep z (y ∷ ys)). inr (same-in ys y keep z dropped c)) (g.covered z (inr i) drops);
  whole = g.whole;
}

dropped-before : (keep : Piece → Bool) (low : ℕ) (y : Piece) (ys : List Piece) (high : ℕ) → GoesOn keep low (y ∷ ys) high → keep y ≡ false → y.span.lo.0 < low
dropped-before keep low y ys high g dropped = ⊎_elim
    (λ less. less)
    (λ (c : Covered keep y (y ∷ ys)).
    let inside : Covered keep y ys = same-in ys y keep y dropped c in
    let up : place_and_rank y ≤ place_and_rank inside.token = g.rising.0 inside.token inside.is-in in
    let own : rank y.class ≡ 1 = g.later y (inl refl) dropped in
    let first = inside.first in
    let from = inside.from in
    absurd (omega arith))
    (g.covered y (inl refl) dropped)

-- what is walked is what is kept, with trivia
record Walks (keep : Piece → Bool) (low : ℕ) (ys : List Piece) (high : ℕ) : Type 0 where
  same : walked low ys high ≡ with_trivia low (filter keep ys) high
  between : LieBetween low (filter keep ys) high

one-kept : (keep : Piece → Bool) (low : ℕ) (y : Piece) (ys : List Piece) (high : ℕ) → GoesOn keep low (y ∷ ys) high → keep y ≡ true
    → Walks keep y.span.hi.0 ys high → Walks keep low (y ∷ ys) high
one-kept keep low y ys high g kept rest =
    let place : low ≤ y.span.lo.0 = g.behind y (inl refl) kept in
    let before : List Piece = pieces_over Trivia (span_between low y.span.lo.0) in
    let keeps : filter keep (y ∷ ys) ≡ y ∷ filter keep ys = filter-kept keep y ys kept in
    record {
      same =
          cond-true (leb low y.span.lo.0) (before ++ (y ∷ walked y.span.hi.0 ys high)) (walked low ys high) (le-leb low y.span.lo.0 place)
          ∙ ap (λ l. before ++ (y ∷ l)) rest.same ∙ sym (ap (λ l. with_trivia low l high) keeps);
      between = subst (λ l. LieBetween low l high) (sym keeps) (place, g.bytes y (inl refl), rest.between);
    }

one-dropped : (keep : Piece → Bool) (low : ℕ) (y : Piece) (ys : List Piece) (high : ℕ) → GoesOn keep low (y ∷ ys) high → keep y ≡ false
    → Walks keep low ys high → Walks keep low (y ∷ ys) high
one-dropped keep low y ys high g dropped rest =
    let before : List Piece = pieces_over Trivia (span_between low y.span.lo.0) in
    let drops : filter keep (y ∷ ys) ≡ filter keep ys = filter-dropped keep y ys dropped in
    record {
      same =
          cond-false (leb low y.span.lo.0) (before ++ (y ∷ walked y.span.hi.0 ys high)) (walked low ys high) (lt-leb low y.span.lo.0 (dropped-before keep low y ys high g dropped))
          ∙ rest.same ∙ sym (ap (λ l. with_trivia low l high) drops);
      between = subst (λ l. LieBetween low l high) (sym drops) rest.between;
    }

walks : (keep : Piece → Bool) (low : ℕ) (ys : List Piece) (high : ℕ) → GoesOn keep low ys high → Walks keep low ys high
walks keep low [] high g = record { same = refl; between = g.whole }
walks keep low (y ∷ ys) high g = ⊎_elim
    (λ kept. one-kept keep low y ys high g kept (walks keep y.span.hi.0 ys high (kept-goes keep low y ys high g kept)))
    (λ dropped. one-dropped keep low y ys high g dropped (walks keep low ys high (dropped-goes keep low y ys high g dropped)))
    (cases_Bool (keep y))

-- Tokens, and the comments outside them

abbrev is-token : Class → Bool
is-token Token = true
is-token Comment = false
is-token Trivia = false

abbrev keeps_in : List Span → Piece → Bool
keeps_in tokens p = is-token p.class || list_all (is_apart p.span) tokens

keeps-tokens : (tokens ts : List Span) → filter (keeps_in tokens) (map (over Token) ts) ≡ map (over Token) ts
keeps-tokens tokens [] = refl
keeps-tokens tokens (t ∷ ts) = ap (λ l. over Token t ∷ l) (keeps-tokens tokens ts)

one-comment : (tokens : List Span) (c : Span) (cs : List Span) (b : Bool) → list_all (is_apart c) tokens ≡ b
    → filter (keeps_in tokens) (map (over Comment) cs) ≡ map (over Comment) (outside tokens cs)
    → cond b (over Comment c ∷ filter (keeps_in tokens) (map (over Comment) cs)) (filter (keeps_in tokens) (map (over Comment) cs)) ≡ map (over Comment) (cond b (c ∷ outside tokens cs) (outside tokens cs))
one-comment tokens c cs true e rest = ap (λ l. over Comment c ∷ l) rest
one-comment tokens c cs false e rest = rest

keeps-comments : (tokens cs : List Span) → filter (keeps_in tokens) (map (over Comment) cs) ≡ map (over Comment) (outside tokens cs)
keeps-comments tokens [] = refl
keeps-comments tokens (c ∷ cs) = one-comment tokens c cs (list_all (is_apart c) tokens) refl (keeps-comments tokens cs)

-- all of them as pieces
abbrev pub all_pieces : List Span → List Span → List Piece
all_pieces tokens comments = map (over Token) tokens ++ map (over Comment) comments

keeps-told : (tokens comments : List Span) → filter (keeps_in tokens) (all_pieces tokens comments) ≡ pieces_told tokens comments
keeps-told tokens comments =
    filter-append (keeps_in tokens) (map (over Token) tokens) (map (over Comment) comments)
    ∙ ap (λ l. l ++ filter (keeps_in tokens) (map (over Comment) comments)) (keeps-tokens tokens tokens)
    ∙ ap (λ l. map (over Token) tokens ++ l) (keeps-comments tokens comments)

-- what is told of a text: spans in it that hold bytes, and share none, or lie in one another
pub record Told (start : ℕ) (bytes : ℕ) (tokens comments : List Span) : Type 0 where
  pub first : AreApart tokens
  pub second : AreApart comments
  pub holds : (s : Span) → IsIn s tokens ⊎ IsIn s comments → s.lo.0 < s.hi.0
  pub from : (s : Span) → IsIn s tokens ⊎ IsIn s comments → start ≤ s.lo.0
  pub to : (s : Span) → IsIn s tokens ⊎ IsIn s comments → s.hi.0 ≤ start + bytes
  pub well : (c : Span) → IsIn c comments → LiesWell tokens c

span-in : (tokens comments : List Span) (y : Piece) → IsIn y (all_pieces tokens comments) → IsIn y.span tokens ⊎ IsIn y.span comments
span-in tokens comments y h = ⊎_elim
    (λ i. let found = in_over Token tokens y i in inl (subst (λ (w : Piece). IsIn w.span tokens) (sym found.2) found.1))
    (λ i. let found = in_over Comment comments y i in inr (subst (λ (w : Piece). IsIn w.span comments) (sym found.2) found.1))
    (in_either y (map (over Token) tokens) (map (over Comment) comments) h)

-- one that is not kept is a comment in a token
record Hides (tokens comments : List Span) (y : Piece) : Type 0 where
  comment : rank y.class ≡ 1
  token : Span
  is-in : IsIn token tokens
  inside : is_inside y.span token ≡ true

any-in : (p : Span → Bool) (ss : List Span) → list_any p ss ≡ true → (s : Span) × (IsIn s ss) × (p s ≡ true)
any-in p [] h = absurd (cc)
any-in p (s ∷ ss) h = ⊎_elim (λ e. (s, inl refl, e)) (λ e. let found = any-in p ss e in (found.0, inr found.1, found.2)) (or_cases (p s) (list_any p ss) h)

hidden-comment : (tokens comments : List Span) (c : Span) → LiesWell tokens c → list_all (is_apart c) tokens ≡ false → Hides tokens comments (over Comment c)
hidden-comment tokens comments c well fails =
    let within = any-in (is_inside c) tokens (⊎_elim (λ e. e) (λ e. absurd (let both : true ≡ false = sym e ∙ fails in cc)) (or_cases (list_any (is_inside c) tokens) (list_all (is_apart c) tokens) well)) in
    record { comment = refl; token = within.0; is-in = within.1; inside = within.2 }

hidden : (tokens comments : List Span) (y : Piece) → ((c : Span) → IsIn c comments → LiesWell tokens c) → IsIn y (all_pieces tokens comments) → keeps_in tokens y ≡ false → Hides tokens comments y
hidden tokens comments y well h fails = ⊎_elim
    (λ i. let found = in_over Token tokens y i in absurd (let both : true ≡ false = ap (keeps_in tokens) (sym found.2) ∙ fails in cc))
    (λ i. let found = in_over Comment comments y i in
    subst (Hides tokens comments) (sym found.2) (hidden-comment tokens comments found.0 (well found.0 found.1) (ap (keeps_in tokens) (sym found.2) ∙ fails)))
    (in_either y (map (over Token) tokens) (map (over Comment) comments) h)

same-orders : (p n : ℕ) (xs ys : List Piece) → ((q : ℕ) → beginning_at q ys ≡ beginning_at q xs) → in_order_of_place p n ys ≡ in_order_of_place p n xs
same-orders p zero xs ys same = refl
same-orders p (suc n) xs ys same = ap (λ l. l ++ in_order_of_place (p + 1) n ys) (same p) ∙ ap (λ l. beginning_at p xs ++ l) (same-orders (p + 1) n xs ys same)

-- what comes of going through the pieces of tokens and comments, in order
pub record Comes (start : ℕ) (bytes : ℕ) (tokens comments : List Span) (ys : List Piece) : Type 0 where
  pub same : walked start ys (start + bytes) ≡ with_trivia start (in_order_of_place start bytes (pieces_told tokens comments)) (start + bytes)
  pub between : LieBetween start (in_order_of_place start bytes (pieces_told tokens comments)) (start + bytes)

pub comes_of : (start bytes : ℕ) (tokens comments : List Span) (ys : List Piece) → Told start bytes tokens comments → IsInOrder (all_pieces tokens comments) ys → Comes start bytes tokens comments ys
comes_of start bytes tokens comments ys told order = record {
  same = walk.same ∙ ap (λ l. with_trivia start l (start + bytes)) kept-order;
  between = subst (λ l. LieBetween start l (start + bytes)) kept-order walk.between;
}
  where
    keep : Piece → Bool
    keep = keeps_in tokens

    xs : List Piece
    xs = all_pieces tokens comments

    in-all : (y : Piece) → IsIn y ys → IsIn y xs
    in-all = in_same xs ys order.same

    in-sorted : (y : Piece) → IsIn y xs → IsIn y ys
    in-sorted = in_same ys xs (λ p. sym (order.same p))

    spans : (y : Piece) → IsIn y ys → IsIn y.span tokens ⊎ IsIn y.span comments
    spans y i = span-in tokens comments y (in-all y i)

    holds : (y : Piece) → IsIn y ys → y.span.lo.0 < y.span.hi.0
    holds y i = told.holds y.span (spans y i)

    low : (y : Piece) → IsIn y ys → start ≤ y.span.lo.0
    low y i = told.from y.span (spans y i)

    high : (y : Piece) → IsIn y ys → y.span.hi.0 ≤ start + bytes
    high y i = told.to y.span (spans y i)

    rising : Rising ys
    rising = rising_of ys order.order

    within : (z : Piece) → IsIn z (filter keep ys) → (start ≤ z.span.lo.0) × (z.span.lo.0 < start + bytes)
    within z i =
        let here : IsIn z ys = (of_filter keep z ys i).0 in
        let own = holds z here in
        let up = high z here in
        (low z here, omega arith)

    same-kept : (q : ℕ) → beginning_at q (filter keep ys) ≡ beginning_at q (filter keep xs)
    same-kept q =
        let test : Piece → Bool = λ r. r.span.lo.0 == q in
        filter_swap test keep ys ∙ ap (filter keep) (order.same q) ∙ sym (filter_swap test keep xs)

    kept-order : filter keep ys ≡ in_order_of_place start bytes (pieces_told tokens comments)
    kept-order =
        sym (placed_is start bytes (filter keep ys) (rising-filter keep ys rising) within)
        ∙ same-orders start bytes (filter keep xs) (filter keep ys) same-kept
        ∙ ap (in_order_of_place start bytes) (keeps-told tokens comments)

    cover : (y : Piece) → IsIn y ys → keep y ≡ false → Covered keep y ys
    cover y i fails =
        let hides : Hides tokens comments y = hidden tokens comments y told.well (in-all y i) fails in
        let sides = inside-cases y.span hides.token hides.inside in
        record {
          token = over Token hides.token;
          is-in = in-sorted (over Token hides.token) (in_left (over Token hides.token) (map (over Token) tokens) (map (over Comment) comments) (over_in Token tokens hides.token hides.is-in));
          kept = refl;
          first = refl;
          from = sides.0;
          to = sides.1;
        }

    goes : GoesOn keep start ys (start + bytes)
    goes = record {
      rising = rising;
      apart = subst Apart (sym kept-order) (apart_in_order start bytes (pieces_told tokens comments) (told_apart tokens comments told.first told.second));
      bytes = holds;
      below = high;
      behind = λ y i kept. low y i;
      later = λ y i fails. (hidden tokens comments y told.well (in-all y i) fails).comment;
      covered = λ y i fails. inr (cover y i fails);
      whole = omega arith;
    }

    walk : Walks keep start ys (start + bytes)
    walk = walks keep start ys (start + bytes) goes
