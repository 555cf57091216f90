-- Why a number is refused, as its readers say it.
use Rattle.std.proofs.Common.{◌≡◌, ◌<◌, ℕ, ◌+◌, ◌^◌, true, [], ◌∷◌, ◌++◌, inl, length, Option, Some, None, option_map, refl, ap, ◌∙◌, arith, length-append}
use Rattle.ecma_place.specs.Text.{Text, byte_len}
use Rattle.ecma_place.specs.declared.place.Span.{Span}
use Rattle.ecma_syntax.specs.declared.settings.NumberRule.{NumberRule}
use Rattle.ecma_token.specs.declared.error.Error.{Error}
use Rattle.ecma_token.specs.declared.error.SyntaxError.{NumLitTerminatedWithExp, IdentAfterNum}
use Rattle.ecma_token.specs.declared.token.Radix.TheVariants.{Decimal}
use Rattle.ecma_token.specs.View.{ErrorView, IsErrorAt, error_view}
use Rattle.ecma_grammar.specs.Found.{error_behind, span_of}
use Rattle.ecma_grammar.specs.Fronts.{next_passes}
use Rattle.ecma_grammar.specs.Numbers.{Number, DecimalRun, Fraction, Exponent, Scaled, digit_refusal, exponent_refusal, may_not_follow, next_refusal, or_else, is_big_number, is_exponent_mark, number_text, fraction_text, exponent_text, IsNumber, IsSign}
use Rattle.ecma_grammar.proofs.NumberRefusals.{seen_error}
use Rattle.ecma_number.proofs.NumberForms.{before_exponent-length}
use Rattle.ecma_number.proofs.NumberReading.{decimal-length}
use Rattle.ecma_number.proofs.RunFaults.{mark-length}

-- the text ends right behind the mark of an exponent
pub mark_refused : (start mark : ℕ) (sign run rest : Text) (e : Error) (span : Span) → is_exponent_mark mark ≡ true → length sign + (length run + length rest) ≡ 0
    → IsErrorAt e NumLitTerminatedWithExp span → span ≡ span_of (start + 1) (start + 1) → Some (error_view e) ≡ exponent_refusal start (Scaled mark sign run) rest
mark_refused start mark [] [] [] e span is ends said there =
    let place : start + byte_len (mark ∷ []) ≡ start + 1 = ap (λ (n : ℕ). start + n) (mark-length mark [] is (inl refl)) in
    rw place (ap Some (seen_error e NumLitTerminatedWithExp span _ said there))
mark_refused start mark [] [] (c ∷ cs) e span is ends said there = absurd (omega arith)
mark_refused start mark [] (d ∷ ds) rest e span is ends said there = absurd (omega arith)
mark_refused start mark (s ∷ ss) run rest e span is ends said there = absurd (omega arith)

-- it doesn't: then the run is asked for a digit
pub mark_followed : (start mark : ℕ) (sign run rest : Text) → is_exponent_mark mark ≡ true → IsSign sign → (length sign + (length run + length rest) ≡ 0 → ⊥)
    → exponent_refusal start (Scaled mark sign run) rest ≡ digit_refusal (start + 1 + length sign) Decimal run
mark_followed start mark sign run rest is signed more = asked sign run rest more ∙ ap (λ (n : ℕ). digit_refusal n Decimal run) place
  where
    asked : (sign run rest : Text) → (length sign + (length run + length rest) ≡ 0 → ⊥) → exponent_refusal start (Scaled mark sign run) rest ≡ digit_refusal (start + byte_len (mark ∷ sign)) Decimal run
    asked [] [] [] more = absurd (more refl)
    asked [] [] (c ∷ cs) more = refl
    asked [] (d ∷ ds) rest more = refl
    asked (s ∷ ss) run rest more = refl

    place : start + byte_len (mark ∷ sign) ≡ start + 1 + length sign
    place = omega (arith, mark-length mark sign is signed)

-- a character that may not stand right behind the number stands there
pub next_refused : (rule : NumberRule) (number : Number) (rest : Text) (start here : ℕ) (e : Error) (span : Span) → next_passes (may_not_follow rule (is_big_number number)) rest ≡ true
    → IsErrorAt e IdentAfterNum span → span ≡ span_of here here → start + byte_len (number_text number) ≡ here
    → Some (error_view e) ≡ option_map (error_behind start) (next_refusal rule number rest)
next_refused rule number rest start here e span follows said there place = rw (follows, place) (ap Some (seen_error e IdentAfterNum span _ said there))

-- what the parts refuse is refused
pub first_some : (f : ErrorView → ErrorView) (a b : Option ErrorView) (e : ErrorView) → Some e ≡ option_map f a → Some e ≡ option_map f (or_else a b)
first_some f None b e h = cc
first_some f (Some x) b e h = h

-- where the parts of a decimal number end, in bytes

pub parts_fit : (start : ℕ) (run : Text) (f : Fraction) (e : Exponent) → start + length (number_text (DecimalRun run f e)) < 2 ^ 32
    → start + (length run + (length (fraction_text f) + length (exponent_text e))) < 2 ^ 32
parts_fit start run f e fits = rw (decimal-length run f e) at fits

pub before_exponent : (start : ℕ) (run : Text) (f : Fraction) (e : Exponent) (n : ℕ) → IsNumber (DecimalRun run f e) → n ≡ length (fraction_text f)
    → start + byte_len (run ++ fraction_text f) ≡ start + (length run + n)
before_exponent start run f e n form is = omega (arith, before_exponent-length run f e form, length-append run (fraction_text f))
