-- Tokens and comments in one list.
use Rattle.std.proofs.Common.{◌≡◌, ◌∙◌, ℕ, zero, suc, ◌<◌, ◌≤◌, Bool, true, false, ◌==◌, List, [], ◌∷◌, ◌++◌, Option, Some, None, inl, inr, ⊎_elim, refl, sym, subst, ap, arith, append-nil, drop, get_or, if◌then◌else◌, length, ltb-true, map}
use Rattle.std.specs.Prelude.{◌⊎◌, nat_lt}
use Rattle.std.specs.List.{All, filter, slice_get}
use Rattle.std.specs.List.Sorted.{IsNonDecreasingBy}
use Rattle.std.proofs.Math.Seq.{drop-cons}
use Rattle.std.proofs.lemmas.Bool.{cases_Bool, cases_lt, cond-false, cond-true, eqb-true}
use Rattle.std.proofs.lemmas.Bool.Decides.{nat_tests}
use Rattle.std.proofs.lemmas.List.{drop_all}
use Rattle.std.proofs.lemmas.List.Elements.{All-cons, All-head, All-nil, All-tail, filter-append}
use Rattle.std.proofs.lemmas.Option.{get_or_from_slice_get, slice_get-get_or, slice_get_within}
use Rattle.ecma_place.specs.Cursor.{Cursor}
use Rattle.ecma_place.specs.declared.place.Span.{Span}
use Rattle.ecma_state.specs.declared.kept.Kept.{Kept}
use Rattle.ecma_classes.specs.Classes.{LieInOrder, StandsIn, beginning_at, holds_byte, over, span_between, spans_of_kept, token_spans}
use Rattle.ecma_classes.specs.Marks.{IsForward, IsInOrder, NoTokenFirst, is_before, merged, place_and_rank, rank, token_marks}
use Rattle.ecma_classes.specs.declared.piece.Class.TheVariants.{Token}
use Rattle.ecma_classes.specs.declared.piece.Piece.{Piece}
use Rattle.ecma_classes.proofs.ApartLemmas.{behind_place, in_over}
use Rattle.ecma_classes.proofs.MemberLemmas.{IsIn, filter-dropped, filter-kept, of_filter}
use Rattle.ecma_classes.proofs.OrderLemmas.{Rising, first_rises, none_begin, rank-le, rising_of}

-- Which is first

pub merged-none : (ps : List Piece) → merged ps [] ≡ ps
merged-none [] = refl
merged-none (p ∷ ps) = refl

merged-second : (p q : Piece) (ps qs : List Piece) → nat_lt q.span.lo.0 p.span.lo.0 ≡ true → merged (p ∷ ps) (q ∷ qs) ≡ q ∷ merged (p ∷ ps) qs
merged-second p q ps qs before = cond-true (nat_lt q.span.lo.0 p.span.lo.0) (q ∷ merged (p ∷ ps) qs) (p ∷ merged ps (q ∷ qs)) before

merged-first : (p q : Piece) (ps qs : List Piece) → nat_lt q.span.lo.0 p.span.lo.0 ≡ false → merged (p ∷ ps) (q ∷ qs) ≡ p ∷ merged ps (q ∷ qs)
merged-first p q ps qs before = cond-false (nat_lt q.span.lo.0 p.span.lo.0) (q ∷ merged (p ∷ ps) qs) (p ∷ merged ps (q ∷ qs)) before

-- What lies in both

in-merged : (z : Piece) (ps qs : List Piece) → IsIn z (merged ps qs) → IsIn z ps ⊎ IsIn z qs
in-merged z [] qs h = inr h
in-merged z (p ∷ ps) [] h = inl h
in-merged z (p ∷ ps) (q ∷ qs) h = ⊎_elim
    (λ before. ⊎_elim
    (λ e. inr (inl e))
    (λ i. ⊎_elim (λ a. inl a) (λ b. inr (inr b)) (in-merged z (p ∷ ps) qs i))
    (subst (IsIn z) (merged-second p q ps qs before) h))
    (λ before. ⊎_elim
    (λ e. inl (inl e))
    (λ i. ⊎_elim (λ a. inl (inr a)) (λ b. inr b) (in-merged z ps (q ∷ qs) i))
    (subst (IsIn z) (merged-first p q ps qs before) h))
    (cases_Bool (nat_lt q.span.lo.0 p.span.lo.0))

-- Both rise, so they do together

second-first : (p q : Piece) (ps qs : List Piece) → Rising (p ∷ ps) → Rising (q ∷ qs) → nat_lt q.span.lo.0 p.span.lo.0 ≡ true → (z : Piece) → IsIn z (merged (p ∷ ps) qs) → place_and_rank q ≤ place_and_rank z
second-first p q ps qs up vp before z i =
    let lower : q.span.lo.0 < p.span.lo.0 = ltb-true q.span.lo.0 p.span.lo.0 before in
    let own = rank-le q.class in
    ⊎_elim
    (λ a. ⊎_elim
    (λ e. subst (λ (w : Piece). place_and_rank q ≤ place_and_rank w) (sym e) (omega (arith, lower, own)))
    (λ j. let more = up.0 z j in omega (arith, lower, own, more))
    a)
    (λ b. vp.0 z b)
    (in-merged z (p ∷ ps) qs i)

first-first : (p q : Piece) (ps qs : List Piece) → rank p.class ≡ 0 → Rising (p ∷ ps) → Rising (q ∷ qs) → nat_lt q.span.lo.0 p.span.lo.0 ≡ false → (z : Piece) → IsIn z (merged ps (q ∷ qs)) → place_and_rank p ≤ place_and_rank z
first-first p q ps qs zero_rank up vp before z i =
    let not_lower : p.span.lo.0 ≤ q.span.lo.0 = grind (arith, nat_tests, before) in
    let first : place_and_rank p ≤ place_and_rank q = omega (arith, not_lower, zero_rank) in
    ⊎_elim
    (λ a. up.0 z a)
    (λ b. ⊎_elim
    (λ e. subst (λ (w : Piece). place_and_rank p ≤ place_and_rank w) (sym e) first)
    (λ j. let more = vp.0 z j in omega (arith, first, more))
    b)
    (in-merged z ps (q ∷ qs) i)

rises : (ts : List Span) (qs : List Piece) → Rising (map (over Token) ts) → Rising qs → Rising (merged (map (over Token) ts) qs)
rises [] qs up vp = vp
rises (t ∷ ts) [] up vp = up
rises (t ∷ ts) (q ∷ qs) up vp =
    let p = over Token t in
    let ps = map (over Token) ts in
    ⊎_elim
    (λ before. subst Rising (sym (merged-second p q ps qs before)) (second-first p q ps qs up vp before, rises (t ∷ ts) qs up vp.1))
    (λ before. subst Rising (sym (merged-first p q ps qs before)) (first-first p q ps qs refl up vp before, rises ts (q ∷ qs) up.1 vp))
    (cases_Bool (nat_lt q.span.lo.0 p.span.lo.0))

nondecreasing : (ys : List Piece) → Rising ys → IsNonDecreasingBy place_and_rank ys
nondecreasing [] up i j d low high = omega (arith, high)
nondecreasing (y ∷ ys) up zero zero d low high = omega arith
nondecreasing (y ∷ ys) up (suc i) zero d low high = absurd (omega (arith, low))
nondecreasing (y ∷ ys) up zero (suc j) d low high = up.0 (get_or ys j d) (in-get ys j d (omega (arith, high)))
  where
    in-get : (zs : List Piece) (k : ℕ) (e : Piece) → k < length zs → IsIn (get_or zs k e) zs
    in-get [] k e h = absurd (omega (arith, h))
    in-get (z ∷ zs) zero e h = inl refl
    in-get (z ∷ zs) (suc k) e h = inr (in-get zs k e (omega (arith, h)))
nondecreasing (y ∷ ys) up (suc i) (suc j) d low high = nondecreasing ys up.1 i j d (omega (arith, low)) (omega (arith, high))

-- What begins at a place

behind-first : (at : ℕ) (p : Piece) (ps : List Piece) → Rising (p ∷ ps) → at < p.span.lo.0 → (z : Piece) → IsIn z (p ∷ ps) → at < z.span.lo.0
behind-first at p ps up lower z (inl e) = subst (λ (w : Piece). at < w.span.lo.0) (sym e) lower
behind-first at p ps up lower z (inr i) = let more = first_rises p ps up z i in omega (arith, lower, more)

either-none : (xs ys zs : List Piece) → (xs ≡ []) ⊎ (ys ≡ []) → xs ++ (ys ++ zs) ≡ ys ++ (xs ++ zs)
either-none xs ys zs (inl none) = ap (λ l. l ++ (ys ++ zs)) none ∙ ap (λ l. ys ++ (l ++ zs)) (sym none)
either-none xs ys zs (inr none) = ap (λ l. xs ++ (l ++ zs)) none ∙ ap (λ l. l ++ (xs ++ zs)) (sym none)

one-before : (at : ℕ) (p q : Piece) (ps qs : List Piece) → Rising (p ∷ ps) → q.span.lo.0 < p.span.lo.0 → beginning_at at (q ∷ ((p ∷ ps) ++ qs)) ≡ beginning_at at ((p ∷ ps) ++ (q ∷ qs))
one-before at p q ps qs up lower =
    let here : Piece → Bool = λ r. r.span.lo.0 == at in
    let own : List Piece = filter here (q ∷ []) in
    let first : List Piece = filter here (p ∷ ps) in
    let none : (own ≡ []) ⊎ (first ≡ []) = ⊎_elim
    (λ is. inr (none_begin at (p ∷ ps) (behind-first at p ps up (let place : q.span.lo.0 ≡ at = eqb-true q.span.lo.0 at is in omega (arith, lower, place)))))
    (λ other. inl (filter-dropped here q [] other))
    (cases_Bool (q.span.lo.0 == at)) in
    filter-append here (q ∷ []) ((p ∷ ps) ++ qs)
    ∙ ap (λ l. own ++ l) (filter-append here (p ∷ ps) qs)
    ∙ either-none own first (filter here qs) none
    ∙ ap (λ l. first ++ l) (sym (filter-append here (q ∷ []) qs))
    ∙ sym (filter-append here (p ∷ ps) (q ∷ qs))

same-at : (at : ℕ) (ts : List Span) (qs : List Piece) → Rising (map (over Token) ts) → beginning_at at (merged (map (over Token) ts) qs) ≡ beginning_at at (map (over Token) ts ++ qs)
same-at at [] qs up = refl
same-at at (t ∷ ts) [] up = ap (beginning_at at) (sym (append-nil (map (over Token) (t ∷ ts))))
same-at at (t ∷ ts) (q ∷ qs) up =
    let p = over Token t in
    let ps = map (over Token) ts in
    ⊎_elim
    (λ before. ap (beginning_at at) (merged-second p q ps qs before)
    ∙ ap (λ l. if q.span.lo.0 == at then q ∷ l else l) (same-at at (t ∷ ts) qs up)
    ∙ one-before at p q ps qs up (ltb-true q.span.lo.0 p.span.lo.0 before))
    (λ before. ap (beginning_at at) (merged-first p q ps qs before) ∙ ap (λ l. if p.span.lo.0 == at then p ∷ l else l) (same-at at ts (q ∷ qs) up.1))
    (cases_Bool (nat_lt q.span.lo.0 p.span.lo.0))

-- Tokens that lie in order rise

tokens-rise : (low : ℕ) (ss : List Span) → LieInOrder low ss → ((s : Span) → IsIn s ss → s.lo.0 ≤ s.hi.0) → Rising (map (over Token) (filter holds_byte ss))
tokens-rise low [] order within = tt
tokens-rise low (s ∷ ss) order within =
    let tail : (u : Span) → IsIn u ss → u.lo.0 ≤ u.hi.0 = λ u j. within u (inr j) in
    let own = within s (inl refl) in
    let rest = tokens-rise s.hi.0 ss order.1 tail in
    ⊎_elim
    (λ kept. subst (λ l. Rising (map (over Token) l)) (sym (filter-kept holds_byte s ss kept)) (
      λ z i. let found = in_over Token (filter holds_byte ss) z i in
          let place = behind_place s.hi.0 ss order.1 tail found.0 (of_filter holds_byte found.0 ss found.1).0 in
          subst (λ (w : Piece). place_and_rank (over Token s) ≤ place_and_rank w) (sym found.2) (omega (arith, own, place)),
      rest,
    ))
    (λ dropped. subst (λ l. Rising (map (over Token) l)) (sym (filter-dropped holds_byte s ss dropped)) rest)
    (cases_Bool (holds_byte s))

pub forward : (c : Cursor) (ss : List Span) → All (StandsIn c) ss → All IsForward ss
forward c [] stand = All-nil IsForward
forward c (s ∷ ss) stand = All-cons IsForward s ss (All-head (StandsIn c) s ss stand).in_order (forward c ss (All-tail (StandsIn c) s ss stand))

-- tokens in order, and comments that were put in order, are in order together
pub merges : (start : ℕ) (kept : List Kept) (comments ordered : List Piece) → LieInOrder start (spans_of_kept kept) → ((s : Span) → IsIn s (spans_of_kept kept) → s.lo.0 ≤ s.hi.0)
    → IsInOrder comments ordered → IsInOrder (token_marks kept ++ comments) (merged (token_marks kept) ordered)
merges start kept comments ordered order within is =
    let ts = token_spans kept in
    let tokens = map (over Token) ts in
    let up = tokens-rise start (spans_of_kept kept) order within in
    record {
      order = nondecreasing (merged tokens ordered) (rises ts ordered up (rising_of ordered is.order));
      same = λ at. same-at at ts ordered up
          ∙ filter-append (λ r. r.span.lo.0 == at) tokens ordered
          ∙ ap (λ l. beginning_at at tokens ++ l) (is.same at)
          ∙ sym (filter-append (λ r. r.span.lo.0 == at) tokens comments);
    }

-- What is taken off

drop-one : (xs : List Piece) (n : ℕ) (x : Piece) → slice_get xs n ≡ Some x → drop n xs ≡ x ∷ drop (suc n) xs
drop-one xs n x got = drop-cons xs n x (slice_get_within xs n x got) ∙ ap (λ y. y ∷ drop (suc n) xs) (get_or_from_slice_get xs n x x got)

past : (xs : List Piece) (n : ℕ) → slice_get xs n ≡ None → length xs ≤ n
past xs n got = ⊎_elim
    (λ within. absurd (let both : Some (get_or xs n nothing) ≡ None = sym (slice_get-get_or xs n nothing within) ∙ got in cc))
    (λ beyond. beyond)
    (cases_lt n (length xs))
  where
    nothing : Piece
    nothing = over Token (span_between 0 0)

-- a token that is first
pub takes_token : (t : Span) (ps : List Piece) (n : ℕ) (cs : List Piece) → (head : Option Piece) → slice_get cs n ≡ head → is_before head t ≡ false
    → merged (over Token t ∷ ps) (drop n cs) ≡ over Token t ∷ merged ps (drop n cs)
takes_token t ps n cs None got before =
    let none : drop n cs ≡ [] = drop_all n cs (past cs n got) in
    ap (merged (over Token t ∷ ps)) none ∙ ap (λ l. over Token t ∷ l) (sym (merged-none ps)) ∙ ap (λ l. over Token t ∷ merged ps l) (sym none)
takes_token t ps n cs (Some c) got before =
    let one = drop-one cs n c got in
    ap (merged (over Token t ∷ ps)) one ∙ merged-first (over Token t) c ps (drop (suc n) cs) before ∙ ap (λ l. over Token t ∷ merged ps l) (sym one)

pub takes_none : (ts : List Span) (n : ℕ) (cs : List Piece) → NoTokenFirst ts None → slice_get cs n ≡ None → merged (map (over Token) ts) (drop n cs) ≡ []
takes_none [] n cs other got = drop_all n cs (past cs n got)
takes_none (t ∷ ts) n cs other got = absurd (let impossible : false ≡ true = other in cc)

pub takes_comment : (ts : List Span) (n : ℕ) (cs : List Piece) (c : Piece) → NoTokenFirst ts (Some c) → slice_get cs n ≡ Some c
    → merged (map (over Token) ts) (drop n cs) ≡ c ∷ merged (map (over Token) ts) (drop (suc n) cs)
takes_comment [] n cs c other got = drop-one cs n c got
takes_comment (t ∷ ts) n cs c before got =
    let ps = map (over Token) ts in
    ap (merged (over Token t ∷ ps)) (drop-one cs n c got) ∙ merged-second (over Token t) c ps (drop (suc n) cs) before
