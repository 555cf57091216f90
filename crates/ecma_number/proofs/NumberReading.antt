-- The parts of a number, as a cursor reads them one after another.
use Rattle.std.proofs.Common.{◌≡◌, ℕ, ◌+◌, ◌<◌, true, false, [], ◌∷◌, ◌++◌, drop, length, Some, None, refl, sym, ap, ◌∙◌, arith, length-append}
use Rattle.std.specs.Prelude.{slice_get}
use Rattle.ecma_place.specs.Text.{Text}
use Rattle.ecma_place.specs.Cursor.{Cursor, rest, passed}
use Rattle.ecma_token.specs.declared.token.Radix.{Radix}
use Rattle.ecma_token.specs.declared.token.Radix.TheVariants.{Decimal}
use Rattle.ecma_grammar.specs.Numbers.{BigRun, OctalRun, DecimalRun, Fraction, Point, Exponent, Scaled, fraction, fraction_text, exponent, exponent_text, after_fraction, sign, is_exponent_mark, run_of, behind_run, in_run, is_big, is_octal_run, number_behind, number_text, prefix}
use Rattle.ecma_grammar.proofs.Fronts.{after_drop}
use Rattle.ecma_grammar.proofs.SignLemmas.{rest-behind}

-- two moves in a row
pub moved-on : (old mid now : Cursor) (m n k : ℕ) → mid ≡ passed m old → now ≡ passed n mid → k ≡ m + n → now ≡ passed k old
moved-on old mid now m n k first second sum =
    second ∙ ap (passed n) first ∙ ap (λ (i : ℕ). let moved : Cursor = record { start = old.start; text = old.text; at = i } in moved) (let same : old.at + m + n ≡ old.at + k = omega arith in same)

pub rest-run : (radix : Radix) (old now : Cursor) → now ≡ passed (length (run_of radix (rest old))) old → rest now ≡ behind_run radix (rest old)
rest-run radix old now moved = rest-behind old now _ moved ∙ sym (after_drop (in_run radix) (rest old))

pub fraction-point : (text : Text) → slice_get text 0 ≡ Some 46 → fraction text ≡ Point (run_of Decimal (drop 1 text))
fraction-point [] e = cc
fraction-point (c ∷ cs) e =
    let same : c ≡ 46 = cc in
    rw same refl

pub exponent-marked : (text : Text) (c : ℕ) → slice_get text 0 ≡ Some c → is_exponent_mark c ≡ true
    → exponent text ≡ Scaled c (sign (drop 1 text)) (run_of Decimal (drop (length (sign (drop 1 text))) (drop 1 text)))
exponent-marked [] c e mark = cc
exponent-marked (d ∷ ds) c e mark =
    let same : d ≡ c = cc in
    rw (same, mark) refl

pub decimal-big : (text : Text) → is_big Decimal (run_of Decimal text) (behind_run Decimal text) ≡ true → number_behind None text ≡ BigRun (run_of Decimal text)
decimal-big text e = rw e refl

pub decimal-octal : (text : Text) → is_big Decimal (run_of Decimal text) (behind_run Decimal text) ≡ false → is_octal_run (run_of Decimal text) ≡ true → number_behind None text ≡ OctalRun (run_of Decimal text)
decimal-octal text e f = rw (e, f) refl

pub decimal-plain : (text : Text) → is_big Decimal (run_of Decimal text) (behind_run Decimal text) ≡ false → is_octal_run (run_of Decimal text) ≡ false
    → number_behind None text ≡ DecimalRun (run_of Decimal text) (fraction (behind_run Decimal text)) (exponent (after_fraction (behind_run Decimal text)))
decimal-plain text e f = rw (e, f) refl

pub decimal-length : (run : Text) (fraction : Fraction) (exponent : Exponent)
    → length (number_text (DecimalRun run fraction exponent)) ≡ length run + (length (fraction_text fraction) + length (exponent_text exponent))
decimal-length run fraction exponent = length-append run (fraction_text fraction ++ exponent_text exponent) ∙ ap (λ (n : ℕ). length run + n) (length-append (fraction_text fraction) (exponent_text exponent))

pub prefix-long : (text : Text) (p : Radix × ℕ) → prefix text ≡ Some p → 1 < length text
prefix-long [] p e = cc
prefix-long (c ∷ []) p e = cc
prefix-long (c ∷ (d ∷ ds)) p e = omega arith
