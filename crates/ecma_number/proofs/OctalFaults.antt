-- What is said of a legacy octal, and of parts that nothing is said of.
use Rattle.std.proofs.Common.{◌≡◌, ℕ, ◌+◌, Bool, true, false, List, [], ◌∷◌, ◌++◌, length, map, refl, ap, ◌∙◌, arith, append_assoc}
use Rattle.ecma_place.specs.Text.{Text, byte_len}
use Rattle.ecma_place.specs.declared.place.Span.{Span}
use Rattle.ecma_token.specs.declared.token.Radix.TheVariants.{Decimal}
use Rattle.ecma_token.specs.declared.error.SyntaxError.{SyntaxError, LegacyOctal, TS1085}
use Rattle.ecma_token.specs.View.{plain_kind}
use Rattle.ecma_grammar.specs.declared.found.Blame.{Blame}
use Rattle.ecma_grammar.specs.declared.found.Blame.TheVariants.{Always, Strict}
use Rattle.ecma_grammar.specs.Found.{Fault, fault_behind, span_of}
use Rattle.ecma_grammar.specs.Numbers.{OctalRun, octal_faults, legacy_faults, is_legacy, IsRun}
use Rattle.ecma_grammar.proofs.RunReading.{run-bytes}

abbrev fault : Blame → SyntaxError → Span → Fault
fault blame kind span = record { blame = blame; error = record { kind = plain_kind kind; span = span } }

-- the bytes of a run from a place on
over_run : (start : ℕ) (run : Text) (span : Span) → IsRun Decimal run → span ≡ span_of start (start + length run) → span ≡ span_of (start + 0) (start + byte_len run)
over_run start run span all place =
    let bytes : byte_len run ≡ length run = ap length (run-bytes Decimal run all) in
    let low : start ≡ start + 0 = omega arith in
    let high : start + length run ≡ start + byte_len run = omega arith in
    place ∙ ap (λ (a : ℕ). span_of a (start + length run)) low ∙ ap (λ (b : ℕ). span_of (start + 0) b) high

pub octal_said : (start : ℕ) (run : Text) (span : Span) (was now : List Fault) → IsRun Decimal run → span ≡ span_of start (start + length run)
    → now ≡ was ++ (fault Strict LegacyOctal span ∷ []) → now ≡ was ++ map (fault_behind start) (octal_faults false (OctalRun run))
octal_said start run span was now all place e = e ∙ ap (λ (s : Span). was ++ (fault Strict LegacyOctal s ∷ [])) (over_run start run span all place)

pub octal_said_typed : (start : ℕ) (run : Text) (span : Span) (was mid now : List Fault) → IsRun Decimal run → span ≡ span_of start (start + length run)
    → mid ≡ was ++ (fault Always TS1085 span ∷ []) → now ≡ mid ++ (fault Strict LegacyOctal span ∷ [])
    → now ≡ was ++ map (fault_behind start) (octal_faults true (OctalRun run))
octal_said_typed start run span was mid now all place first second =
    second ∙ ap (λ l. l ++ (fault Strict LegacyOctal span ∷ [])) first ∙ append_assoc was (fault Always TS1085 span ∷ []) (fault Strict LegacyOctal span ∷ [])
    ∙ ap (λ (s : Span). was ++ (fault Always TS1085 s ∷ (fault Strict LegacyOctal s ∷ []))) (over_run start run span all place)

pub not_legacy : (run : Text) → legacy_faults run ≡ [] → is_legacy run ≡ false
not_legacy run none = go (is_legacy run) refl
  where
    go : (x : Bool) → is_legacy run ≡ x → x ≡ false
    go true e = let h = rw e at none in cc
    go false e = refl
