-- Why a number is refused, by its parts.
use Rattle.std.proofs.Common.{◌≡◌, ℕ, ◌+◌, Bool, true, false, [], ◌∷◌, length, Option, Some, None, option_map, refl, ap, ◌∙◌, arith}
use Rattle.std.specs.List.{list_any}
use Rattle.ecma_place.specs.Text.{Text, byte_len}
use Rattle.ecma_place.specs.declared.place.Span.{Span}
use Rattle.ecma_token.specs.declared.token.Radix.{Radix}
use Rattle.ecma_token.specs.declared.token.Radix.TheVariants.{Decimal}
use Rattle.ecma_token.specs.declared.error.Error.{Error}
use Rattle.ecma_token.specs.declared.error.SyntaxError.{SyntaxError, ExpectedDigit, NumLitTerminatedWithExp}
use Rattle.ecma_token.specs.View.{KindView, ErrorView, IsErrorAt, plain_kind, error_view, kind_view}
use Rattle.ecma_grammar.specs.Found.{error_at, error_behind, span_of}
use Rattle.ecma_grammar.specs.Numbers.{digit, digit_refusal, Exponent, NoExponent, Scaled, exponent_refusal, IsRun}
use Rattle.ecma_grammar.proofs.RunReading.{run-bytes}

-- an error as it is seen
pub seen_error : (e : Error) (kind : SyntaxError) (span place : Span) → IsErrorAt e kind span → span ≡ place → error_view e ≡ record { kind = kind_view kind; span = place }
seen_error e kind span place is there =
    ap (λ (k : SyntaxError). let view : ErrorView = record { kind = kind_view k; span = e.span } in view) is.kind_is
    ∙ ap (λ (s : Span). let view : ErrorView = record { kind = kind_view kind; span = s } in view) (is.span_is ∙ there)

pub digit_refused : (start : ℕ) (radix : Radix) (run : Text) (e : Error) (span : Span) → IsRun radix run → list_any (digit radix) run ≡ false
    → span ≡ record { lo = record { 0 = start }; hi = record { 0 = start + length run } } → IsErrorAt e (ExpectedDigit radix) span
    → Some (error_view e) ≡ digit_refusal start radix run
digit_refused start radix run e span all none there is =
    let bytes : byte_len run ≡ length run = ap length (run-bytes radix run all) in
    rw (none, bytes) (ap Some (seen_error e (ExpectedDigit radix) span _ is there))

-- the same refusals from another place on

spanned_shifted : (m n k w : ℕ) (kind : KindView) → m + n ≡ k
    → (let e : ErrorView = record { kind = kind; span = span_of n (n + w) } in error_behind m e) ≡ record { kind = kind; span = span_of k (k + w) }
spanned_shifted m n k w kind sum =
    let high : m + (n + w) ≡ k + w = omega arith in
    let error : ℕ → ℕ → ErrorView = λ (a b : ℕ). record { kind = kind; span = span_of a b } in
    ap (λ (a : ℕ). error a (m + (n + w))) sum ∙ ap (λ (b : ℕ). error k b) high

pub digit_refusal-behind : (m n k : ℕ) (radix : Radix) (run : Text) → m + n ≡ k → option_map (error_behind m) (digit_refusal n radix run) ≡ digit_refusal k radix run
digit_refusal-behind m n k radix run sum = go (list_any (digit radix) run) refl
  where
    go : (x : Bool) → list_any (digit radix) run ≡ x → option_map (error_behind m) (digit_refusal n radix run) ≡ digit_refusal k radix run
    go true e = rw e refl
    go false e = rw e (ap Some (spanned_shifted m n k (byte_len run) (plain_kind (ExpectedDigit radix)) sum))

pub exponent_refusal-behind : (m n k : ℕ) (exponent : Exponent) (rest : Text) → m + n ≡ k
    → option_map (error_behind m) (exponent_refusal n exponent rest) ≡ exponent_refusal k exponent rest
exponent_refusal-behind m n k NoExponent rest sum = refl
exponent_refusal-behind m n k (Scaled mark [] []) [] sum =
    let there : m + (n + byte_len (mark ∷ [])) ≡ k + byte_len (mark ∷ []) = omega arith in
    ap (λ (p : ℕ). Some (error_at (plain_kind NumLitTerminatedWithExp) p)) there
exponent_refusal-behind m n k (Scaled mark [] []) (c ∷ cs) sum = digit_refusal-behind m _ _ Decimal [] (let there : m + (n + byte_len (mark ∷ [])) ≡ k + byte_len (mark ∷ []) = omega arith in there)
exponent_refusal-behind m n k (Scaled mark [] (d ∷ ds)) rest sum = digit_refusal-behind m _ _ Decimal (d ∷ ds) (let there : m + (n + byte_len (mark ∷ [])) ≡ k + byte_len (mark ∷ []) = omega arith in there)
exponent_refusal-behind m n k (Scaled mark (s ∷ ss) run) rest sum = digit_refusal-behind m _ _ Decimal run (let there : m + (n + byte_len (mark ∷ (s ∷ ss))) ≡ k + byte_len (mark ∷ (s ∷ ss)) = omega arith in there)

pub none-behind : (n : ℕ) (refusal : Option ErrorView) → None ≡ option_map (error_behind n) refusal → refusal ≡ None
none-behind n None e = refl
none-behind n (Some error) e = cc
