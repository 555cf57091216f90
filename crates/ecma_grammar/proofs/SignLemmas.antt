-- Signs in ASCII, as texts that readers look for and pass.
use Rattle.std.proofs.Common.{◌≡◌, ℕ, ◌+◌, ◌≤◌, ◌<◌, Bool, true, ◌&&◌, ◌==◌, [], ◌∷◌, ◌++◌, take, drop, length, nat_lt, refl, sym, ap, ◌∙◌, nat_eq, codes, arith, zero, suc, drop-drop, length-append, eqb-true, encode_utf8_all}
use Rattle.std.specs.List.{starts_with, list_all}
use Rattle.std.specs.Str.{chars}
use Rattle.std.proofs.lemmas.Bool.{and_parts}
use Rattle.std.proofs.lemmas.Bool.Decides.{nat_tests}
use Rattle.std.proofs.lemmas.Str.{encode_ascii}
use Rattle.ecma_place.specs.Text.{Text, byte_len}
use Rattle.ecma_place.specs.Cursor.{Cursor, rest, place, passed}
use Rattle.ecma_place.proofs.MoveLemmas.{place-passed}
use Rattle.ecma_grammar.specs.Fronts.{begins_with}
use Rattle.ecma_grammar.proofs.Fronts.{begins_with-front}

eq-sym : (x c : ℕ) → (x == c) ≡ (c == x)
eq-sym x c = grind (arith, nat_tests)

pub starts-begins : (needle text : Text) → starts_with nat_eq text needle ≡ begins_with needle text
starts-begins [] [] = refl
starts-begins [] (c ∷ cs) = refl
starts-begins (x ∷ xs) [] = refl
starts-begins (x ∷ xs) (c ∷ cs) = ap (λ b. (x == c) && b) (starts-begins xs cs) ∙ ap (λ b. b && begins_with xs cs) (eq-sym x c)

-- The literals that the code names

pub slashes-seen : (text : Text) → starts_with nat_eq text (chars (codes "//")) ≡ begins_with (codes "//") text
unfolding chars
slashes-seen text = starts-begins (codes "//") text

pub opening-seen : (text : Text) → starts_with nat_eq text (chars (codes "/*")) ≡ begins_with (codes "/*") text
unfolding chars
opening-seen text = starts-begins (codes "/*") text

pub ending-seen : (text : Text) → starts_with nat_eq text (chars (codes "*/")) ≡ begins_with (codes "*/") text
unfolding chars
ending-seen text = starts-begins (codes "*/") text

pub html-opening-seen : (text : Text) → starts_with nat_eq text (chars (codes "<!--")) ≡ begins_with (codes "<!--") text
unfolding chars
html-opening-seen text = starts-begins (codes "<!--") text

pub html-closing-seen : (text : Text) → starts_with nat_eq text (chars (codes "-->")) ≡ begins_with (codes "-->") text
unfolding chars
html-closing-seen text = starts-begins (codes "-->") text

pub bars-seen : (text : Text) → starts_with nat_eq text (chars (codes "||||||| ")) ≡ begins_with (codes "||||||| ") text
unfolding chars
bars-seen text = starts-begins (codes "||||||| ") text

-- Where a cursor stands behind a front of its rest

pub rest-behind : (old now : Cursor) (n : ℕ) → now ≡ passed n old → rest now ≡ drop n (rest old)
rest-behind old now n moved = ap rest moved ∙ sym (drop-drop n old.at old.text)

take-front : (front more : Text) → take (length front) (front ++ more) ≡ front
take-front [] [] = refl
take-front [] (c ∷ cs) = refl
take-front (x ∷ xs) more = ap (λ l. x ∷ l) (take-front xs more)

pub place-behind : (front more : Text) (old now : Cursor) → front ++ more ≡ rest old → now ≡ passed (length front) old → place now ≡ place old + byte_len front
place-behind front more old now is moved =
    place-passed old now (length front) moved ∙ ap (λ l. place old + byte_len l) (ap (take (length front)) (sym is) ∙ take-front front more)

-- signs are no longer than the text that begins with them
pub signs-within : (signs text : Text) → begins_with signs text ≡ true → length signs ≤ length text
signs-within signs text h = omega (arith, ap length (begins_with-front signs text h), length-append signs (drop (length signs) text))

abbrev pub ascii : ℕ → Bool
ascii c = nat_lt c 128

-- characters of ASCII take a byte each
pub ascii-front : (signs text : Text) (n : ℕ) → begins_with signs text ≡ true → list_all ascii signs ≡ true → n ≤ length signs → byte_len (take n text) ≡ n
ascii-front signs [] zero h all l = refl
ascii-front signs (c ∷ cs) zero h all l = refl
ascii-front [] text (suc n) h all l = absurd (omega (arith, l))
ascii-front (x ∷ xs) [] (suc n) h all l = cc
ascii-front (x ∷ xs) (c ∷ cs) (suc n) h all l =
    let (here, more) = and_parts (c == x) (begins_with xs cs) h in
    let (low, rest_low) = and_parts (ascii x) (list_all ascii xs) all in
    let same : c ≡ x = eqb-true c x here in
    let less : x < 128 = grind (arith, nat_tests) in
    let byte = ap (λ bytes. length (bytes ++ encode_utf8_all (take n cs))) (encode_ascii x less) in
    ap (λ y. byte_len (y ∷ take n cs)) same ∙ byte ∙ ap suc (ascii-front xs cs n more rest_low (omega (arith, l)))

pub place-within : (signs : Text) (old now : Cursor) (n : ℕ) → begins_with signs (rest old) ≡ true → list_all ascii signs ≡ true → n ≤ length signs → now ≡ passed n old
    → place now ≡ place old + n
place-within signs old now n h all l moved = place-passed old now n moved ∙ ap (λ k. place old + k) (ascii-front signs (rest old) n h all l)
