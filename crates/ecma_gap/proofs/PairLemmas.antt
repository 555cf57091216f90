-- Two characters by their bytes.
use Rattle.std.proofs.Common.{◌≡◌, ℕ, ◌<◌, Bool, true, false, ◌||◌, ◌&&◌, ◌==◌, ◌∷◌, [], drop, refl, sym, ap, ◌∙◌, Some, None, arith, eqb-true, encode_utf8_all}
use Rattle.std.specs.Prelude.{IfSome, slice_get}
use Rattle.std.proofs.Math.Bool.{and-true}
use Rattle.std.proofs.lemmas.Bool.Decides.{nat_tests}
use Rattle.std.proofs.lemmas.Str.{encode_ascii}
use Rattle.ecma_place.specs.Text.{Text}
use Rattle.ecma_place.proofs.CursorLemmas.{first_byte}
use Rattle.ecma_grammar.specs.Fronts.{begins_with, next_is}

-- behind an ASCII character, the second byte is the first of what follows
second-byte : (text : Text) → IfSome (slice_get text 0) (λ c. c < 128) → slice_get (encode_utf8_all text) 1 ≡ slice_get (encode_utf8_all (drop 1 text)) 0
second-byte [] l = refl
second-byte (c ∷ cs) l = rw (encode_ascii c l) refl

same-number : (x : ℕ) → (x == x) ≡ true
same-number x = grind (arith, nat_tests)

next-first : (x : ℕ) (text : Text) → next_is x text ≡ true → slice_get text 0 ≡ Some x
next-first x [] e = cc
next-first x (c ∷ cs) e = ap Some (eqb-true c x e)

first-next : (x : ℕ) (text : Text) → slice_get text 0 ≡ Some x → next_is x text ≡ true
first-next x [] e = cc
first-next x (c ∷ cs) e = let same : c ≡ x = cc in rw same (same-number x)

byte-next : (text : Text) (b x : ℕ) → x < 128 → Some b ≡ slice_get (encode_utf8_all text) 0 → (b == x) ≡ next_is x text
byte-next text b x l e = go (b == x) (next_is x text) refl refl
  where
    go : (s t : Bool) → (b == x) ≡ s → next_is x text ≡ t → s ≡ t
    go true true f g = refl
    go false false f g = refl
    go true false f g = sym (first-next x text ((first_byte text x l).0 (sym e ∙ ap Some (eqb-true b x f)))) ∙ g
    go false true f g =
        let at : Some b ≡ Some x = e ∙ (first_byte text x l).1 (next-first x text g) in
        let same : b ≡ x = cc in
        sym f ∙ (rw same (same-number x))

second-is : (text : Text) (b x : ℕ) → IfSome (slice_get text 0) (λ c. c < 128) → x < 128 → Some b ≡ slice_get (encode_utf8_all text) 1 → (b == x) ≡ next_is x (drop 1 text)
second-is text b x low l e = byte-next (drop 1 text) b x l (e ∙ second-byte text low)

no-second : (text : Text) (x : ℕ) → IfSome (slice_get text 0) (λ c. c < 128) → x < 128 → None ≡ slice_get (encode_utf8_all text) 1 → next_is x (drop 1 text) ≡ false
no-second text x low l e = go (next_is x (drop 1 text)) refl
  where
    go : (t : Bool) → next_is x (drop 1 text) ≡ t → next_is x (drop 1 text) ≡ false
    go false g = g
    go true g =
        let at : None ≡ Some x = e ∙ second-byte text low ∙ (first_byte (drop 1 text) x l).1 (next-first x (drop 1 text) g) in
        cc

pub second-either : (text : Text) (b x y : ℕ) → IfSome (slice_get text 0) (λ c. c < 128) → (x < 128) × (y < 128) → Some b ≡ slice_get (encode_utf8_all text) 1
    → ((b == x) || (b == y)) ≡ (next_is x (drop 1 text) || next_is y (drop 1 text))
second-either text b x y low l e = rw (second-is text b x low l.0 e, second-is text b y low l.1 e) refl

pub either-first : (b x y : ℕ) (r : Bool) → b ≡ x → ((b == x) || (b == y)) ≡ r → (b == x) ≡ r
either-first b x y r e h =
    let same : (b == x) ≡ true = grind (arith, nat_tests) in
    same ∙ sym (ap (λ t. t || (b == y)) same) ∙ h

pub either-other : (b x y : ℕ) (r : Bool) → (b ≡ x → ⊥) → ((b == x) || (b == y)) ≡ r → (b == y) ≡ r
either-other b x y r e h =
    let other : (b == x) ≡ false = grind (arith, nat_tests) in
    sym (ap (λ t. t || (b == y)) other) ∙ h

pub second-neither : (text : Text) (x y : ℕ) → IfSome (slice_get text 0) (λ c. c < 128) → (x < 128) × (y < 128) → None ≡ slice_get (encode_utf8_all text) 1
    → false ≡ (next_is x (drop 1 text) || next_is y (drop 1 text))
second-neither text x y low l e = rw (no-second text x low l.0 e, no-second text y low l.1 e) refl

-- a pair stands where its first character does, and its second behind

first-low : (text : Text) (x : ℕ) → x < 128 → slice_get text 0 ≡ Some x → IfSome (slice_get text 0) (λ c. c < 128)
first-low text x l e = rw e l

pair-behind : (text : Text) (x y : ℕ) → slice_get text 0 ≡ Some x → begins_with (x ∷ y ∷ []) text ≡ next_is y (drop 1 text)
pair-behind [] x y e = cc
pair-behind (c ∷ cs) x y e =
    let same : c ≡ x = cc in
    let equal : (c == x) ≡ true = rw same (same-number x) in
    ap (λ b. b && begins_with (y ∷ []) cs) equal ∙ second cs
  where
    second : (cs : Text) → begins_with (y ∷ []) cs ≡ next_is y cs
    second [] = refl
    second (d ∷ ds) = and-true (d == y)

pub pair-stands : (text : Text) (b x y : ℕ) → (x < 128) × (y < 128) → slice_get text 0 ≡ Some x → Some b ≡ slice_get (encode_utf8_all text) 1
    → (b == y) ≡ begins_with (x ∷ y ∷ []) text
pair-stands text b x y l first e = second-is text b y (first-low text x l.0 first) l.1 e ∙ sym (pair-behind text x y first)
