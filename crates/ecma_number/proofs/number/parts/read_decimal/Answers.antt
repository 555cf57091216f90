use Rattle.std.proofs.Common.{◌≡◌, ◌∷◌, [], length, drop, refl, sym, ap, ◌∙◌, arith, length-append}
use Rattle.ecma_place.specs.Cursor.{rest}
use Rattle.ecma_token.specs.declared.token.Radix.TheVariants.{Decimal}
use Rattle.ecma_grammar.specs.Numbers.{BigRun, OctalRun, run_of, behind_run, number_text, fraction, exponent, after_fraction}
use Rattle.ecma_number.proofs.NumberReading.{moved-on, rest-run, decimal-big, decimal-octal, decimal-plain, decimal-length}
use Rattle.ecma_number.proofs.number.parts.read_decimal.Goals as goal
use Rattle.ecma_grammar.proofs.SignLemmas.{rest-behind}

pub returns-then-read_suffix : goal.returns-then-read_suffix
returns-then-read_suffix c =
    let text = rest c.args.input.now in
    let run : c.read_run-run.result.now ≡ run_of Decimal text = c.read_run-run.ensures.text in
    let behind = rest-run Decimal _ _ c.read_run-run.ensures.moved in
    let big = rw (run, behind) at c.read_suffix.ensures.value in
    let found = decimal-big text (sym big ∙ c.if-read_suffix.true) in
    let one = rw (← c.read_suffix.ensures.value, c.if-read_suffix.true) at c.read_suffix.ensures.moved in
    let sum = length-append (run_of Decimal text) (110 ∷ []) in
    record {
      value = ap BigRun run ∙ sym found;
      moved = moved-on _ _ _ _ _ _ c.read_run-run.ensures.moved one (omega (arith, ap (λ n. length (number_text n)) found, sum));
    }

pub returns-then-is_octal_run : goal.returns-then-is_octal_run
returns-then-is_octal_run c =
    let text = rest c.args.input.now in
    let run : c.read_run-run.result.now ≡ run_of Decimal text = c.read_run-run.ensures.text in
    let behind = rest-run Decimal _ _ c.read_run-run.ensures.moved in
    let big = rw (run, behind) at c.read_suffix.ensures.value in
    let octal = rw run at c.is_octal_run.ensures in
    let found = decimal-octal text (sym big ∙ c.if-read_suffix.false) (sym octal ∙ c.if-is_octal_run.true) in
    let none = rw (← c.read_suffix.ensures.value, c.if-read_suffix.false) at c.read_suffix.ensures.moved in
    record {
      value = ap OctalRun run ∙ sym found;
      moved = moved-on _ _ _ _ _ _ c.read_run-run.ensures.moved none (omega (arith, ap (λ n. length (number_text n)) found));
    }

pub returns : goal.returns
returns c =
    let text = rest c.args.input.now in
    let run : c.read_run-run.result.now ≡ run_of Decimal text = c.read_run-run.ensures.text in
    let behind = rest-run Decimal _ _ c.read_run-run.ensures.moved in
    let big = rw (run, behind) at c.read_suffix.ensures.value in
    let octal = rw run at c.is_octal_run.ensures in
    let found = decimal-plain text (sym big ∙ c.if-read_suffix.false) (sym octal ∙ c.if-is_octal_run.false) in
    let none = rw (← c.read_suffix.ensures.value, c.if-read_suffix.false) at c.read_suffix.ensures.moved in
    let first = moved-on _ _ _ _ _ (length (run_of Decimal text)) c.read_run-run.ensures.moved none (omega arith) in
    let there = rest-behind _ _ 0 none ∙ behind in
    let part = c.read_fraction-fraction.ensures.value ∙ ap fraction there in
    let second = rw there at c.read_fraction-fraction.ensures.moved in
    let more = rest-behind _ _ _ second ∙ ap (drop _) there in
    let scale = c.read_exponent-exponent.ensures.value ∙ ap exponent more in
    let third = rw more at c.read_exponent-exponent.ensures.moved in
    let sum = decimal-length (run_of Decimal text) (fraction (behind_run Decimal text)) (exponent (after_fraction (behind_run Decimal text))) in
    record {
      value = rw (run, part, scale) (sym found);
      moved = moved-on _ _ _ _ _ _ first (moved-on _ _ _ _ _ _ second third refl) (ap (λ n. length (number_text n)) found ∙ sum);
    }
