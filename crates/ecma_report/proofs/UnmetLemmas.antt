-- Places that were named, marked where a token begins with a slash.
use Rattle.std.proofs.Common.{◌≡◌, ◌∙◌, ℕ, zero, suc, ◌<◌, ◌≤◌, Bool, true, false, ◌&&◌, ◌||◌, List, [], ◌∷◌, ◌++◌, get_or, length, set, ap, arith, refl, sym}
use Rattle.std.specs.Prelude.{◌==◌, nat_lt}
use Rattle.std.proofs.Math.Bool.{or-false, or-true}
use Rattle.std.proofs.lemmas.Bool.{and_parts, eq-eqb, ltb-true, ne_eqb, or_parts}
use Rattle.std.proofs.lemmas.List.Folds.{list_any-append}
use Rattle.ecma_span.specs.declared.place.BytePos.{BytePos}
use Rattle.ecma_token.specs.View.{SpannedView}
use Rattle.ecma_reader.specs.Rereads.{ascend, ascend_behind, is_among}
use Rattle.ecma_report.specs.Unmet.{AreMarked, begins_with_slash, has_slash, begins_at, named_place, named_places}
use Rattle.ecma_report.specs.declared.unmet.NamedPlace.{NamedPlace}

-- One place

abbrev with_place : (BytePos → Bool) → BytePos → BytePos → Bool
with_place has_slash q p = has_slash p || (p.0 == q.0)

-- it is none of those that lie behind another
none-behind : (p q : BytePos) (ps : List BytePos) → ascend_behind p ps ≡ true → q.0 ≤ p.0 → is_among ps q ≡ false
none-behind p q [] up le = refl
none-behind p q (r ∷ rs) up le =
    let parts = and_parts (nat_lt p.0 r.0) (ascend_behind r rs) up in
    let low = ltb-true p.0 r.0 parts.0 in
    ap (λ b. b || is_among rs q) (ne_eqb r.0 q.0 (λ same. omega (arith, le, low, same))) ∙ none-behind r q rs parts.1 (omega (arith, le, low))

pub marked-none : (has_slash : BytePos → Bool) (q : BytePos) (ps : List BytePos) → is_among ps q ≡ false → named_places has_slash ps ≡ named_places (with_place has_slash q) ps
marked-none has_slash q [] none = refl
marked-none has_slash q (p ∷ ps) none =
    let parts = or_parts (p.0 == q.0) (is_among ps q) none in
    ap (λ b. record { place = p; has_slash = b } ∷ named_places has_slash ps) (sym (or-false (has_slash p)) ∙ ap (λ b. has_slash p || b) (sym parts.0))
    ∙ ap (λ named. named_place (with_place has_slash q) p ∷ named) (marked-none has_slash q ps parts.1)

behind-least : (p : BytePos) (qs : List BytePos) (i : ℕ) (d : BytePos) → ascend_behind p qs ≡ true → i < length qs → p.0 < (get_or qs i d).0
behind-least p [] i d up some = absurd (omega (arith, some))
behind-least p (q ∷ qs) zero d up some = ltb-true p.0 q.0 (and_parts (nat_lt p.0 q.0) (ascend_behind q qs) up).0
behind-least p (q ∷ qs) (suc i) d up some =
    let parts = and_parts (nat_lt p.0 q.0) (ascend_behind q qs) up in
    let one = ltb-true p.0 q.0 parts.0 in
    let more = behind-least q qs i d parts.1 (omega (arith, some)) in
    omega (arith, one, more)

ascend-tail : (p : BytePos) (ps : List BytePos) → ascend_behind p ps ≡ true → ascend ps ≡ true
ascend-tail p [] up = refl
ascend-tail p (q ∷ qs) up = (and_parts (nat_lt p.0 q.0) (ascend_behind q qs) up).1

pub marked-at : (has_slash : BytePos → Bool) (q : BytePos) (ps : List BytePos) (i : ℕ) → ascend ps ≡ true → i < length ps → (get_or ps i q).0 ≡ q.0
    → set (named_places has_slash ps) i (record { place = q; has_slash = true }) ≡ named_places (with_place has_slash q) ps
marked-at has_slash q [] i up some same = absurd (omega (arith, some))
marked-at has_slash q (p ∷ ps) zero up some same =
    ap (λ n. record { place = record { 0 = n }; has_slash = true } ∷ named_places has_slash ps) (sym same)
    ∙ ap (λ b. record { place = p; has_slash = b } ∷ named_places has_slash ps) (sym (or-true (has_slash p)) ∙ ap (λ b. has_slash p || b) (sym (eq-eqb p.0 q.0 same)))
    ∙ ap (λ named. named_place (with_place has_slash q) p ∷ named) (marked-none has_slash q ps (none-behind p q ps up (omega (arith, same))))
marked-at has_slash q (p ∷ ps) (suc i) up some same =
    let low = behind-least p ps i q up (omega (arith, some)) in
    ap (λ b. record { place = p; has_slash = b } ∷ set (named_places has_slash ps) i (record { place = q; has_slash = true }))
    (sym (or-false (has_slash p)) ∙ ap (λ b. has_slash p || b) (sym (ne_eqb p.0 q.0 (λ e. omega (arith, low, same, e)))))
    ∙ ap (λ named. named_place (with_place has_slash q) p ∷ named) (marked-at has_slash q ps i (ascend-tail p ps up) (omega (arith, some)) same)

-- One token more

named-same : (f g : BytePos → Bool) (ps : List BytePos) → ((p : BytePos) → f p ≡ g p) → named_places f ps ≡ named_places g ps
named-same f g [] same = refl
named-same f g (p ∷ ps) same = ap (λ b. record { place = p; has_slash = b } ∷ named_places f ps) (same p) ∙ ap (λ named. named_place g p ∷ named) (named-same f g ps same)

met-more : (text : List ℕ) (tokens : List SpannedView) (t : SpannedView) (p : BytePos) → (has_slash text tokens p || begins_at text p t) ≡ has_slash text (tokens ++ t ∷ []) p
met-more text tokens t p = ap (λ b. has_slash text tokens p || b) (sym (or-false (begins_at text p t))) ∙ sym (list_any-append (begins_at text p) tokens (t ∷ []))

pub marked-more : (text : List ℕ) (places : List BytePos) (tokens : List SpannedView) (t : SpannedView) (named : List NamedPlace) (m : BytePos → Bool)
    → named ≡ named_places (λ p. has_slash text tokens p || m p) places → ((p : BytePos) → m p ≡ begins_at text p t) → AreMarked text places named (tokens ++ t ∷ [])
marked-more text places tokens t named m is same =
    is ∙ named-same (λ p. has_slash text tokens p || m p) (has_slash text (tokens ++ t ∷ [])) places (λ p. ap (λ b. has_slash text tokens p || b) (same p) ∙ met-more text tokens t p)

-- a token that begins with no slash marks none
pub marked-no-more : (text : List ℕ) (places : List BytePos) (tokens : List SpannedView) (t : SpannedView) (named : List NamedPlace) → AreMarked text places named tokens
    → begins_with_slash text t ≡ false → AreMarked text places named (tokens ++ t ∷ [])
marked-no-more text places tokens t named is none =
    marked-more text places tokens t named (λ p. false) (is ∙ named-same (has_slash text tokens) (λ p. has_slash text tokens p || false) places (λ p. sym (or-false (has_slash text tokens p))))
    (λ p. ap (λ b. b && (p.0 == t.span.lo.0)) (sym none))
