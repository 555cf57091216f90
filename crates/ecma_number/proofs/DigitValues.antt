-- Digits without separators, and their value.
use Rattle.std.proofs.Common.{◌≡◌, ℕ, ◌+◌, ◌<◌, ◌≤◌, ◌^◌, Bool, true, false, cond, List, [], ◌∷◌, ◌++◌, take, get_or, length, Some, None, Result, Ok, Err, refl, sym, ap, ◌∙◌, arith, encode_utf8_all, nat_lt, eqb-true}
use Rattle.std.specs.Prelude.{◌==◌}
use Rattle.std.specs.Result.{result_ok}
use Rattle.std.specs.Str.Parse.{AllDigits, ParsesUnsigned, without_leading_plus, digits_value}
use Rattle.std.proofs.lemmas.Bool.Decides.{nat_tests}
use Rattle.std.proofs.lemmas.List.{take_more}
use Rattle.std.proofs.lemmas.List.Elements.{filter-append}
use Rattle.std.proofs.lemmas.Str.{encodes-append}
use Rattle.ecma_place.specs.Text.{Text}
use Rattle.ecma_token.specs.declared.token.Radix.{Radix}
use Rattle.ecma_token.specs.declared.token.Radix.TheVariants.{Binary, Octal, Decimal, Hex}
use Rattle.ecma_grammar.specs.Numbers.{base, without_separators, fitting_value}

-- one character more
pub digits-more : (text : Text) (i : ℕ) (b : ℕ) (was now : List ℕ) → i < length text → b ≡ get_or text i 0
    → was ≡ encode_utf8_all (without_separators (take i text)) → now ≡ was ++ encode_utf8_all (without_separators (b ∷ []))
    → now ≡ encode_utf8_all (without_separators (take (i + 1) text))
digits-more text i b was now inside here before step =
    let grown : take (i + 1) text ≡ take i text ++ (b ∷ []) = take_more text i 0 inside ∙ ap (λ (x : ℕ). take i text ++ (x ∷ [])) (sym here) in
    let filtered : without_separators (take i text ++ (b ∷ [])) ≡ without_separators (take i text) ++ without_separators (b ∷ []) = filter-append _ (take i text) (b ∷ []) in
    rw (grown, filtered, encodes-append (without_separators (take i text)) (without_separators (b ∷ [])), step, before) refl

low_base : (radix : Radix) → base radix ≤ 16
low_base Binary = omega arith
low_base Octal = omega arith
low_base Decimal = omega arith
low_base Hex = omega arith

-- digits have no leading plus
no_plus : (radix : Radix) (bs : List ℕ) → AllDigits (base radix) bs → without_leading_plus bs ≡ bs
no_plus radix [] h = refl
no_plus radix (b ∷ bs) h = go (b == 43) refl
  where
    go : (x : Bool) → (b == 43) ≡ x → without_leading_plus (b ∷ bs) ≡ b ∷ bs
    go true e =
        let low = low_base radix in
        let plus = rw (eqb-true b 43 e) at h.0 in
        absurd (omega arith)
    go false e = rw e refl

-- what is parsed of digits is their value, where it fits
pub fitting-parsed : {E : Type 0} (radix : Radix) (bs : List ℕ) (r : Result ℕ E) → ParsesUnsigned 128 (base radix) bs r → AllDigits (base radix) bs → 0 < length bs → result_ok r ≡ fitting_value radix bs
fitting-parsed radix bs (Ok x) parsed all some =
    let same = no_plus radix bs all in
    let value : x ≡ digits_value (base radix) bs = parsed.1 ∙ ap (digits_value (base radix)) same in
    let below : digits_value (base radix) bs < 2 ^ 128 = rw same at parsed.0.1 in
    let test : nat_lt (digits_value (base radix) bs) (2 ^ 128) ≡ true = grind (arith, nat_tests) in
    rw (test, value) refl
fitting-parsed radix bs (Err e) parsed all some = go (nat_lt (digits_value (base radix) bs) (2 ^ 128)) refl
  where
    go : (b : Bool) → nat_lt (digits_value (base radix) bs) (2 ^ 128) ≡ b → None ≡ cond b (Some (digits_value (base radix) bs)) None
    go true t =
        let same = no_plus radix bs all in
        let below : digits_value (base radix) bs < 2 ^ 128 = grind (arith, nat_tests) in
        absurd (parsed (rw same ((some, all), below)))
    go false t = refl
