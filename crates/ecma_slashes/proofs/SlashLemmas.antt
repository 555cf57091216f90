-- Places that ascend.
use Rattle.std.proofs.Common.{◌≡◌, ◌∙◌, ℕ, zero, suc, ◌+◌, ◌<◌, ◌≤◌, true, false, ◌&&◌, List, [], ◌∷◌, Result, Ok, Err, length, drop, ⊎_elim, Less, Equal, Greater, refl, sym, ap, arith}
use Rattle.std.specs.Prelude.{◌==◌, is_ok, nat_lt, get_or}
use Rattle.std.specs.Cmp.{unsigned_ties, nat_cmp_is}
use Rattle.std.specs.List.Sorted.{IsBinarySearchResult, IsSearchInRange}
use Rattle.std.specs.Ordering.{is_eq, nat_cmp, ordering_index}
use Rattle.std.proofs.lemmas.Bool.{and_parts, cases_lt, cases_order, le-ltb, lt-ltb, ltb-true}
use Rattle.std.proofs.lemmas.List.{drop_more}
use Rattle.std.proofs.lemmas.List.Elements.{All-from_get_or}
use Rattle.std.proofs.lemmas.List.Folds.{list_any_at, list_any_none}
use Rattle.ecma_place.specs.declared.place.BytePos.{BytePos}
use Rattle.ecma_slashes.specs.Rereads.{ascend, ascend_behind, is_among}

-- The next place

pub ascend-falls : (p : ℕ) (qs : List BytePos) (i : ℕ) (d : BytePos) → i < length qs → (get_or qs i d).0 ≤ p → ascend_behind (record { 0 = p }) (drop i qs) ≡ false
ascend-falls p qs i d some falls =
    ap (ascend_behind (record { 0 = p })) (drop_more qs i d some) ∙ ap (λ b. b && ascend_behind (get_or qs i d) (drop (i + 1) qs)) (le-ltb p (get_or qs i d).0 falls)

pub ascend-on : (p : ℕ) (qs : List BytePos) (i : ℕ) (d : BytePos) → i < length qs → p < (get_or qs i d).0 → ascend_behind (record { 0 = p }) (drop i qs) ≡ ascend_behind (get_or qs i d) (drop (i + 1) qs)
ascend-on p qs i d some on =
    ap (ascend_behind (record { 0 = p })) (drop_more qs i d some) ∙ ap (λ b. b && ascend_behind (get_or qs i d) (drop (i + 1) qs)) (lt-ltb p (get_or qs i d).0 on)

-- Any two places

behind-least : (p : BytePos) (qs : List BytePos) (i : ℕ) (d : BytePos) → ascend_behind p qs ≡ true → i < length qs → p.0 < (get_or qs i d).0
behind-least p [] i d up some = absurd (omega (arith, some))
behind-least p (q ∷ qs) zero d up some = ltb-true p.0 q.0 (and_parts (nat_lt p.0 q.0) (ascend_behind q qs) up).0
behind-least p (q ∷ qs) (suc i) d up some =
    let parts = and_parts (nat_lt p.0 q.0) (ascend_behind q qs) up in
    let one = ltb-true p.0 q.0 parts.0 in
    let more = behind-least q qs i d parts.1 (omega (arith, some)) in
    omega (arith, one, more)

ascend-tail : (q : BytePos) (qs : List BytePos) → ascend_behind q qs ≡ true → ascend qs ≡ true
ascend-tail q [] up = refl
ascend-tail q (r ∷ rs) up = (and_parts (nat_lt q.0 r.0) (ascend_behind r rs) up).1

pub ascend-two : (ps : List BytePos) (i j : ℕ) (d : BytePos) → ascend ps ≡ true → i ≤ j → j < length ps → (get_or ps i d).0 ≤ (get_or ps j d).0
ascend-two [] i j d up le some = absurd (omega (arith, some))
ascend-two (p ∷ ps) zero zero d up le some = omega arith
ascend-two (p ∷ ps) zero (suc j) d up le some = let more = behind-least p ps j d up (omega (arith, some)) in omega (arith, more)
ascend-two (p ∷ ps) (suc i) zero d up le some = absurd (omega (arith, le))
ascend-two (p ∷ ps) (suc i) (suc j) d up le some = ascend-two ps i j d (ascend-tail p ps up) (omega (arith, le)) (omega (arith, some))

-- A place that is looked for

higher : (a b x : ℕ) → a ≤ b → ordering_index (nat_cmp a x) ≤ ordering_index (nat_cmp b x)
higher a b x le =
    ⊎_elim
    (λ same. at-equal same)
    (λ h. ⊎_elim (λ less. least less) (λ more. let top = ap ordering_index (above b (omega (arith, more, le))) in let here = ap ordering_index (above a more) in omega (arith, top, here)) h)
    (cases_order a x)
  where
    below : (y : ℕ) → y < x → nat_cmp y x ≡ Less
    below y less = sym (nat_cmp_is y x Less less)

    above : (y : ℕ) → x < y → nat_cmp y x ≡ Greater
    above y more = sym (nat_cmp_is y x Greater more)

    equal : (y : ℕ) → y ≡ x → nat_cmp y x ≡ Equal
    equal y same = sym (nat_cmp_is y x Equal same)

    least : a < x → ordering_index (nat_cmp a x) ≤ ordering_index (nat_cmp b x)
    least less = let zero = ap ordering_index (below a less) in omega (arith, zero)

    at-equal : a ≡ x → ordering_index (nat_cmp a x) ≤ ordering_index (nat_cmp b x)
    at-equal same =
        let one = ap ordering_index (equal a same) in
        ⊎_elim
        (λ there. let other = ap ordering_index (equal b there) in omega (arith, one, other))
        (λ h. ⊎_elim (λ less. absurd (omega (arith, less, same, le))) (λ more. let top = ap ordering_index (above b more) in omega (arith, one, top)) h)
        (cases_order b x)

pub found-among : (ps : List BytePos) (p : BytePos) (r : Result ℕ ℕ) → IsSearchInRange r (length ps) → IsBinarySearchResult (λ (q : BytePos). nat_cmp q.0 p.0) ps r → ascend ps ≡ true → is_ok r ≡ is_among ps p
found-among ps p (Ok i) within found up =
    sym (list_any_at (λ (q : BytePos). q.0 == p.0) ps i p within (unsigned_ties (get_or ps i p).0 p.0 ∙ ap is_eq (found p)))
found-among ps p (Err i) within found up =
    let parted = found (λ a b d le some. higher (get_or ps a d).0 (get_or ps b d).0 p.0 (ascend-two ps a b d up le some)) in
    let none : (k : ℕ) → k < length ps → ((get_or ps k p).0 == p.0) ≡ false = λ k some.
    unsigned_ties (get_or ps k p).0 p.0
    ∙ ⊎_elim (λ before. ap is_eq (parted.0 k p (omega arith) before)) (λ behind. ap is_eq (parted.1 k p behind some)) (cases_lt k i) in
    sym (list_any_none (λ (q : BytePos). q.0 == p.0) ps (All-from_get_or (λ (q : BytePos). (q.0 == p.0) ≡ false) ps p none))
