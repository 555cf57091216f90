-- The faults of a number's parts, from another place on.
use Rattle.std.proofs.Common.{◌≡◌, ℕ, ◌+◌, true, List, [], ◌∷◌, ◌++◌, length, map, refl, sym, ap, ◌∙◌, arith, append_assoc, encode_utf8_all}
use Rattle.std.proofs.lemmas.List.{map-append}
use Rattle.std.proofs.lemmas.Str.{encode_ascii}
use Rattle.ecma_place.specs.Text.{Text, byte_len}
use Rattle.ecma_place.proofs.MoveLemmas.{byte_len-append}
use Rattle.ecma_syntax.specs.declared.settings.NumberRule.{NumberRule}
use Rattle.ecma_token.specs.declared.token.Radix.TheVariants.{Decimal}
use Rattle.ecma_grammar.specs.Found.{Fault, fault_behind}
use Rattle.ecma_grammar.specs.Numbers.{Fraction, NoFraction, Point, Exponent, NoExponent, Scaled, DecimalRun, run_faults, first_run_faults, legacy_faults, fraction_faults, exponent_faults, fraction_text, part_faults, IsRun, IsFraction}
use Rattle.ecma_grammar.proofs.RunReading.{run-bytes}

shifted : (m n k : ℕ) (f : Fault) → m + n ≡ k → fault_behind m (fault_behind n f) ≡ fault_behind k f
shifted m n k f sum =
    let low : m + (n + f.error.span.lo.0) ≡ k + f.error.span.lo.0 = omega arith in
    let high : m + (n + f.error.span.hi.0) ≡ k + f.error.span.hi.0 = omega arith in
    let fault : ℕ → ℕ → Fault = λ (a b : ℕ). record { blame = f.blame; error = record { kind = f.error.kind; span = record { lo = record { 0 = a }; hi = record { 0 = b } } } } in
    ap (λ (a : ℕ). fault a (m + (n + f.error.span.hi.0))) low ∙ ap (λ (b : ℕ). fault (k + f.error.span.lo.0) b) high

pub all_shifted : (m n k : ℕ) (faults : List Fault) → m + n ≡ k → map (fault_behind m) (map (fault_behind n) faults) ≡ map (fault_behind k) faults
all_shifted m n k [] sum = refl
all_shifted m n k (f ∷ fs) sum = ap (λ x. x ∷ map (fault_behind m) (map (fault_behind n) fs)) (shifted m n k f sum) ∙ ap (λ l. fault_behind k f ∷ l) (all_shifted m n k fs sum)

pub fraction_shifted : (m n k : ℕ) (fraction : Fraction) → m + n ≡ k → map (fault_behind m) (fraction_faults n fraction) ≡ fraction_faults k fraction
fraction_shifted m n k NoFraction sum = refl
fraction_shifted m n k (Point run) sum = all_shifted m (n + 1) (k + 1) (run_faults true Decimal run) (omega arith)

pub exponent_shifted : (m n k : ℕ) (exponent : Exponent) → m + n ≡ k → map (fault_behind m) (exponent_faults n exponent) ≡ exponent_faults k exponent
exponent_shifted m n k NoExponent sum = refl
exponent_shifted m n k (Scaled mark sign run) sum = all_shifted m (n + byte_len (mark ∷ sign)) (k + byte_len (mark ∷ sign)) (run_faults true Decimal run) (omega arith)

fraction_length : (fraction : Fraction) → IsFraction fraction → byte_len (fraction_text fraction) ≡ length (fraction_text fraction)
fraction_length NoFraction form = refl
fraction_length (Point run) form =
    ap (λ (bytes : List ℕ). length (bytes ++ encode_utf8_all run)) (encode_ascii 46 (omega arith)) ∙ ap (λ (bytes : List ℕ). length (46 ∷ bytes)) (run-bytes Decimal run form)

-- what is said of a decimal number, part after part
pub plain_said : (start : ℕ) (rule : NumberRule) (run : Text) (fraction : Fraction) (exponent : Exponent) (was a b c d : List Fault) (behind last : ℕ)
    → IsRun Decimal run → IsFraction fraction → behind ≡ start + length run → last ≡ behind + length (fraction_text fraction)
    → a ≡ was ++ map (fault_behind start) (first_run_faults rule run) → b ≡ a ++ map (fault_behind start) (legacy_faults run)
    → c ≡ b ++ fraction_faults behind fraction → d ≡ c ++ exponent_faults last exponent
    → d ≡ was ++ map (fault_behind start) (part_faults rule (DecimalRun run fraction exponent))
plain_said start rule run fraction exponent was a b c d behind last all form first second ea eb ec ed =
    let short : byte_len run ≡ length run = ap length (run-bytes Decimal run all) in
    let long : byte_len (run ++ fraction_text fraction) ≡ length run + length (fraction_text fraction) =
    byte_len-append run (fraction_text fraction) ∙ ap (λ (n : ℕ). n + byte_len (fraction_text fraction)) short ∙ ap (λ (n : ℕ). length run + n) (fraction_length fraction form) in
    let runs = first_run_faults rule run in
    let legacy = legacy_faults run in
    let points = fraction_faults (byte_len run) fraction in
    let scales = exponent_faults (byte_len (run ++ fraction_text fraction)) exponent in
    let split : map (fault_behind start) (runs ++ (legacy ++ (points ++ scales)))
    ≡ map (fault_behind start) runs ++ (map (fault_behind start) legacy ++ (fraction_faults behind fraction ++ exponent_faults last exponent)) =
    map-append (fault_behind start) runs (legacy ++ (points ++ scales))
    ∙ ap (λ l. map (fault_behind start) runs ++ l) (map-append (fault_behind start) legacy (points ++ scales)
    ∙ ap (λ l. map (fault_behind start) legacy ++ l) (map-append (fault_behind start) points scales
    ∙ ap (λ l. l ++ map (fault_behind start) scales) (fraction_shifted start (byte_len run) behind fraction (omega (arith, short)))
    ∙ ap (λ l. fraction_faults behind fraction ++ l) (exponent_shifted start _ last exponent (omega (arith, long))))) in
    ed ∙ ap (λ l. l ++ exponent_faults last exponent) (ec ∙ ap (λ l. l ++ fraction_faults behind fraction) (eb ∙ ap (λ l. l ++ map (fault_behind start) legacy) ea))
    ∙ simp append_assoc refl ∙ ap (λ l. was ++ l) (sym split)
