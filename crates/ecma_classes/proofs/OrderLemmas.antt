-- Pieces that were sorted are those in order of place.
use Rattle.std.proofs.Common.{◌≡◌, ◌∙◌, add-one, ℕ, zero, suc, ◌+◌, ◌<◌, ◌≤◌, Bool, false, ◌==◌, ◌&&◌, List, [], ◌∷◌, ◌++◌, inl, inr, ⊎_elim, refl, sym, subst, ap, arith, get_or, length, map}
use Rattle.std.specs.Prelude.{not}
use Rattle.std.specs.List.{AllAdjacentBelow, filter}
use Rattle.std.specs.List.Sorted.{IsNonDecreasingBy, IsSortedByKey, IsStableByKey, ties}
use Rattle.std.specs.Ordering.{is_lt, nat_cmp}
use Rattle.std.proofs.lemmas.Bool.{cases_lt, cases_eq, cases_Bool, eq-eqb, ne_eqb}
use Rattle.std.proofs.lemmas.Bool.Decides.{nat_tests}
use Rattle.std.proofs.lemmas.List.Elements.{filter_agree}
use Rattle.std.proofs.lemmas.List.Sorted.{IsNonDecreasingBy-drop, IsNonDecreasingBy-from_all_adjacent, ties_still_rise}
use Rattle.ecma_place.specs.declared.place.Span.{Span}
use Rattle.ecma_classes.specs.Marks.{IsInOrder, place_and_rank, rank}
use Rattle.ecma_classes.specs.Classes.{beginning_at, in_order_of_place, over, span_between}
use Rattle.ecma_classes.specs.declared.piece.Class.{Class}
use Rattle.ecma_classes.specs.declared.piece.Class.TheVariants.{Token, Comment, Trivia}
use Rattle.ecma_classes.specs.declared.piece.Piece.{Piece}
use Rattle.ecma_classes.proofs.MemberLemmas.{IsIn, filter-dropped, filter-kept, in_at, of_filter}

pub rank-le : (c : Class) → rank c ≤ 1
rank-le Token = omega arith
rank-le Comment = omega arith
rank-le Trivia = omega arith

-- What a sort by place gives

one-place : (a p : ℕ) → (a == p) ≡ (not (is_lt (nat_cmp p a)) && not (is_lt (nat_cmp a p)))
one-place a p = grind (arith, nat_tests)

same_places : (xs ys : List Piece) → IsStableByKey (λ (q : Piece). q.span.lo.0) nat_cmp xs ys → (p : ℕ) → beginning_at p ys ≡ beginning_at p xs
same_places xs ys stable p =
    let lt : Piece → Piece → Bool = λ q r. is_lt (nat_cmp q.span.lo.0 r.span.lo.0) in
    let here : Piece = over Trivia (span_between p p) in
    let agree : (q : Piece) → (q.span.lo.0 == p) ≡ ties lt here q = λ q. one-place q.span.lo.0 p in
    filter_agree (λ q. q.span.lo.0 == p) (ties lt here) agree ys ∙ stable here ∙ sym (filter_agree (λ q. q.span.lo.0 == p) (ties lt here) agree xs)

comments-rank : (cs : List Span) (k : ℕ) (d : Piece) → k < length (map (over Comment) cs) → rank (get_or (map (over Comment) cs) k d).class ≡ 1
comments-rank [] k d h = absurd (omega arith)
comments-rank (c ∷ cs) zero d h = refl
comments-rank (c ∷ cs) (suc k) d h = comments-rank cs k d (omega arith)

ranks-rise : (ts cs : List Span) (k : ℕ) (d : Piece) → suc k < length (map (over Token) ts ++ map (over Comment) cs)
    → rank (get_or (map (over Token) ts ++ map (over Comment) cs) k d).class ≤ rank (get_or (map (over Token) ts ++ map (over Comment) cs) (suc k) d).class
ranks-rise [] cs k d h = omega (arith, comments-rank cs k d (omega arith), comments-rank cs (suc k) d h)
ranks-rise (t ∷ ts) cs zero d h = omega arith
ranks-rise (t ∷ ts) cs (suc k) d h = ranks-rise ts cs k d (omega arith)

not-below : (a b : ℕ) → a ≤ b → is_lt (nat_cmp b a) ≡ false
not-below a b h = grind (arith, nat_tests)

-- tokens come first
pub sorted_by_rank : (ts cs : List Span) → IsSortedByKey (λ (p : Piece). rank p.class) nat_cmp (map (over Token) ts ++ map (over Comment) cs)
sorted_by_rank ts cs k d from to = rw add-one (not-below _ _ (ranks-rise ts cs k d (omega arith)))

pub in_order_of_sort : (xs ys : List Piece) → IsNonDecreasingBy (λ (p : Piece). p.span.lo.0) ys → IsSortedByKey (λ (p : Piece). rank p.class) nat_cmp xs
    → IsStableByKey (λ (p : Piece). p.span.lo.0) nat_cmp xs ys → IsInOrder xs ys
in_order_of_sort xs ys rises ranked stable = record {
  order = IsNonDecreasingBy-from_all_adjacent place_and_rank ys next;
  same = same_places xs ys stable;
}
  where
    next : AllAdjacentBelow (λ x y. place_and_rank x ≤ place_and_rank y) ys (length ys)
    next k d h =
        let low = rank-le (get_or ys k d).class in
        let places : (get_or ys k d).span.lo.0 ≤ (get_or ys (k + 1) d).span.lo.0 = rises k (k + 1) d (omega arith) h in
        ⊎_elim
        (λ same. let up = ties_still_rise (λ (p : Piece). rank p.class) (λ (p : Piece). p.span.lo.0) xs ys ranked stable k d h same in omega arith)
        (λ other. let apart : (get_or ys k d).span.lo.0 < (get_or ys (k + 1) d).span.lo.0 = ⊎_elim (λ l. l) (λ l. absurd (other (omega arith))) (cases_lt (get_or ys k d).span.lo.0 (get_or ys (k + 1) d).span.lo.0) in omega arith)
        (cases_eq (get_or ys k d).span.lo.0 (get_or ys (k + 1) d).span.lo.0)

-- Lists that rise by place and rank

abbrev pub Rising : List Piece → Type 0
Rising [] = Unit {0}
Rising (y ∷ ys) = ((z : Piece) → IsIn z ys → place_and_rank y ≤ place_and_rank z) × Rising ys

pub rising_of : (ys : List Piece) → IsNonDecreasingBy place_and_rank ys → Rising ys
rising_of [] up = tt
rising_of (y ∷ ys) up = (
  λ z h. let at = in_at z ys h in
      let rises : place_and_rank y ≤ place_and_rank (get_or ys at.0 z) = up 0 (suc at.0) z (omega arith) (omega (arith, at.1)) in
      subst (λ (w : Piece). place_and_rank y ≤ place_and_rank w) at.2 rises,
  rising_of ys (IsNonDecreasingBy-drop place_and_rank 1 (y ∷ ys) up),
)

pub rising-filter : (p : Piece → Bool) (ys : List Piece) → Rising ys → Rising (filter p ys)
rising-filter p [] up = tt
rising-filter p (y ∷ ys) up = ⊎_elim
    (λ kept. subst Rising (sym (filter-kept p y ys kept)) (λ z h. up.0 z (of_filter p z ys h).0, rising-filter p ys up.1))
    (λ dropped. subst Rising (sym (filter-dropped p y ys dropped)) (rising-filter p ys up.1))
    (cases_Bool (p y))

-- the place of one in a list that rises is not behind those of the ones behind it
pub first_rises : (y : Piece) (ys : List Piece) → Rising (y ∷ ys) → (z : Piece) → IsIn z ys → y.span.lo.0 ≤ z.span.lo.0
first_rises y ys up z h = let both = up.0 z h in omega (arith, rank-le z.class)

none-at : (p n : ℕ) → in_order_of_place p n [] ≡ []
none-at p zero = refl
none-at p (suc n) = none-at (p + 1) n

-- one that begins before the places is none of theirs
skipped : (p n : ℕ) (y : Piece) (ys : List Piece) → y.span.lo.0 < p → in_order_of_place p n (y ∷ ys) ≡ in_order_of_place p n ys
skipped p zero y ys h = refl
skipped p (suc n) y ys h =
    ap (λ l. l ++ in_order_of_place (p + 1) n (y ∷ ys)) (filter-dropped (λ q. q.span.lo.0 == p) y ys (ne_eqb y.span.lo.0 p (λ e. omega arith)))
    ∙ ap (λ l. beginning_at p ys ++ l) (skipped (p + 1) n y ys (omega arith))

pub none_begin : (p : ℕ) (ys : List Piece) → ((z : Piece) → IsIn z ys → p < z.span.lo.0) → beginning_at p ys ≡ []
none_begin p [] behind = refl
none_begin p (y ∷ ys) behind =
    let above : p < y.span.lo.0 = behind y (inl refl) in
    filter-dropped (λ q. q.span.lo.0 == p) y ys (ne_eqb y.span.lo.0 p (λ e. omega arith)) ∙ none_begin p ys (λ z h. behind z (inr h))

one-placed : (p n : ℕ)
    → ((ys : List Piece) → Rising ys → ((z : Piece) → IsIn z ys → (p + 1 ≤ z.span.lo.0) × (z.span.lo.0 < p + 1 + n)) → in_order_of_place (p + 1) n ys ≡ ys)
    → (y : Piece) (ys : List Piece) → Rising (y ∷ ys) → ((z : Piece) → IsIn z (y ∷ ys) → (p ≤ z.span.lo.0) × (z.span.lo.0 < p + suc n))
    → in_order_of_place p (suc n) ys ≡ ys → in_order_of_place p (suc n) (y ∷ ys) ≡ y ∷ ys
one-placed p n others y ys up within rest = ⊎_elim here behind (cases_eq y.span.lo.0 p)
  where
    first : (p ≤ y.span.lo.0) × (y.span.lo.0 < p + suc n)
    first = within y (inl refl)

    here : y.span.lo.0 ≡ p → in_order_of_place p (suc n) (y ∷ ys) ≡ y ∷ ys
    here e =
        ap (λ l. l ++ in_order_of_place (p + 1) n (y ∷ ys)) (filter-kept (λ q. q.span.lo.0 == p) y ys (eq-eqb y.span.lo.0 p e))
        ∙ ap (λ l. (y ∷ beginning_at p ys) ++ l) (skipped (p + 1) n y ys (omega arith))
        ∙ ap (λ l. y ∷ l) rest

    above : (y.span.lo.0 ≡ p → ⊥) → p < y.span.lo.0
    above other = ⊎_elim (λ l. l) (λ l. absurd (other (omega (arith, first.0)))) (cases_lt p y.span.lo.0)

    all-above : p < y.span.lo.0 → (z : Piece) → IsIn z (y ∷ ys) → p < z.span.lo.0
    all-above low z (inl e) = subst (λ (w : Piece). p < w.span.lo.0) (sym e) low
    all-above low z (inr i) = let le = first_rises y ys up z i in omega arith

    behind : (y.span.lo.0 ≡ p → ⊥) → in_order_of_place p (suc n) (y ∷ ys) ≡ y ∷ ys
    behind other =
        let low : (z : Piece) → IsIn z (y ∷ ys) → p < z.span.lo.0 = all-above (above other) in
        ap (λ l. l ++ in_order_of_place (p + 1) n (y ∷ ys)) (none_begin p (y ∷ ys) low)
        ∙ others (y ∷ ys) up (λ z h. (omega (arith, low z h), omega (arith, (within z h).1)))

placed-more : (p n : ℕ)
    → ((ys : List Piece) → Rising ys → ((z : Piece) → IsIn z ys → (p + 1 ≤ z.span.lo.0) × (z.span.lo.0 < p + 1 + n)) → in_order_of_place (p + 1) n ys ≡ ys)
    → (ys : List Piece) → Rising ys → ((z : Piece) → IsIn z ys → (p ≤ z.span.lo.0) × (z.span.lo.0 < p + suc n)) → in_order_of_place p (suc n) ys ≡ ys
placed-more p n others [] up within = none-at p (suc n)
placed-more p n others (y ∷ ys) up within =
    one-placed p n others y ys up within (placed-more p n others ys up.1 (λ z h. within z (inr h)))

pub placed_is : (p n : ℕ) (ys : List Piece) → Rising ys → ((z : Piece) → IsIn z ys → (p ≤ z.span.lo.0) × (z.span.lo.0 < p + n)) → in_order_of_place p n ys ≡ ys
placed_is p zero [] up within = refl
placed_is p zero (y ∷ ys) up within = let both = within y (inl refl) in absurd (omega (arith, both.0, both.1))
placed_is p (suc n) ys up within = placed-more p n (λ zs rise lie. placed_is (p + 1) n zs rise lie) ys up within
