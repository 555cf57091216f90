-- Bytes that stand for themselves, in a run before one that doesn't.
use Rattle.std.proofs.Common.{◌≡◌, ◌∙◌, ℕ, zero, suc, ◌+◌, ◌-◌, ◌≤◌, Bool, true, false, ◌||◌, List, [], ◌∷◌, ◌++◌, length, take, drop, refl, sym, ap, arith, append_assoc}
use Rattle.std.specs.Prelude.{◌==◌, if◌then◌else◌, slice_index}
use Rattle.std.proofs.lemmas.List.{append-nil, drop_more, take_rest}
use Rattle.std.proofs.Math.Seq.{take-length, drop-length}
use Rattle.memchr.specs.Find.{NoneBefore, Nowhere, Passes, is_byte3}
use Rattle.ecma_stdio.specs.Escaped.{escaped, escaped_byte}

-- the bytes that don't stand for themselves
abbrev Escapes : List ℕ → ℕ → Type 0
Escapes = Passes (is_byte3 92 10 13)

plain-byte : (b : ℕ) → ¬ (is_byte3 92 10 13 b ≡ true) → escaped_byte b ≡ b ∷ []
plain-byte b plain = go (b == 92) (b == 10) (b == 13) plain
  where
    go : (p q r : Bool) → ¬ ((p || q || r) ≡ true)
        → (if p then 92 ∷ (92 ∷ []) else (if q then 92 ∷ (110 ∷ []) else (if r then 92 ∷ (114 ∷ []) else b ∷ []))) ≡ b ∷ []
    go true q r plain = absurd (plain refl)
    go false true r plain = absurd (plain refl)
    go false false true plain = absurd (plain refl)
    go false false false plain = refl

-- a run of bytes that stand for themselves
plain-run : (bytes : List ℕ) (n : ℕ) → Nowhere (Escapes bytes) 0 n → n ≤ length bytes → escaped bytes ≡ take n bytes ++ escaped (drop n bytes)
plain-run bytes zero none within = refl
plain-run [] (suc n) none within = refl
plain-run (b ∷ bytes) (suc n) none within =
    let first = plain-byte b (none 0 (omega arith) (omega arith)) in
    let more = plain-run bytes n (λ k low high. none (suc k) (omega arith) (omega (arith, high))) (omega (arith, within)) in
    rw first (ap (λ bs. b ∷ bs) more)

-- where there is no other byte
pub all-plain : (out bytes all : List ℕ) → Nowhere (Escapes bytes) 0 (length bytes) → out ++ escaped bytes ≡ all → out ++ bytes ≡ all
all-plain out bytes all none before =
    let whole : escaped bytes ≡ bytes ++ [] = plain-run bytes (length bytes) none (omega arith) ∙ rw (take-length bytes, drop-length bytes) refl in
    ap (λ bs. out ++ bs) (sym (whole ∙ append-nil bytes)) ∙ before

-- where there is one, what was added before it and of it
pub run-behind : (out bytes all : List ℕ) (plain : ℕ) → NoneBefore (Escapes bytes) 0 (length bytes) plain → out ++ escaped bytes ≡ all
    → ((out ++ take plain bytes) ++ escaped_byte (slice_index bytes plain)) ++ escaped (take (length bytes - (plain + 1)) (drop (plain + 1) bytes)) ≡ all
run-behind out bytes all plain run before =
    let high = run.high in
    let whole = plain-run bytes plain run.before (omega arith) in
    let first : escaped (drop plain bytes) ≡ escaped_byte (slice_index bytes plain) ++ escaped (drop (plain + 1) bytes) = rw (drop_more bytes plain 0 high) refl in
    rw (append_assoc, append_assoc, take_rest bytes (plain + 1)) (ap (λ bs. out ++ bs) (sym (whole ∙ ap (λ bs. take plain bytes ++ bs) first)) ∙ before)
