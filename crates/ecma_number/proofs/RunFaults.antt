-- The faults of a run, one byte on and at its end.
use Rattle.std.proofs.Common.{◌≡◌, ℕ, ◌+◌, ◌<◌, Bool, true, false, cond, ◌&&◌, ◌||◌, List, [], ◌∷◌, ◌++◌, length, map, refl, sym, ap, ◌∙◌, arith, append_assoc, append-nil, inl, inr}
use Rattle.std.specs.List.{list_any, list_all}
use Rattle.std.proofs.lemmas.Bool.{and_parts}
use Rattle.std.proofs.lemmas.Bool.Decides.{nat_tests}
use Rattle.ecma_place.proofs.MoveLemmas.{byte_len-append}
use Rattle.std.proofs.lemmas.Str.{encode_ascii}
use Rattle.std.proofs.lemmas.List.{map-append}
use Rattle.ecma_place.specs.Text.{Text, byte_len}
use Rattle.ecma_token.specs.declared.token.Radix.{Radix}
use Rattle.ecma_token.specs.declared.token.Radix.TheVariants.{Decimal}
use Rattle.ecma_token.specs.declared.error.SyntaxError.{LegacyDecimal}
use Rattle.ecma_token.specs.View.{plain_kind}
use Rattle.ecma_place.specs.declared.place.Span.{Span}
use Rattle.ecma_grammar.specs.declared.found.Blame.TheVariants.{Strict}
use Rattle.ecma_grammar.specs.Found.{Fault, fault_behind}
use Rattle.ecma_grammar.specs.Numbers.{in_run, is_separator, is_faulty, is_exponent_mark, seen_behind, faulty_separators, separator_fault, run_faults, legacy_faults, is_legacy, IsRun, IsSign}
use Rattle.ecma_grammar.proofs.RunReading.{run-ascii, run-bytes}

one_byte : (radix : Radix) (c : ℕ) → in_run radix c ≡ true → byte_len (c ∷ []) ≡ 1
one_byte radix c h = ap (λ bytes. length (bytes ++ [])) (encode_ascii c (run-ascii radix c h))

pub separators-more : (allowed : Bool) (radix : Radix) (seen : Bool) (n : ℕ) (c : ℕ) (cs : Text) → IsRun radix (c ∷ cs)
    → faulty_separators allowed radix seen n (c ∷ cs) ≡ cond (is_faulty radix (allowed && seen) c cs) (n ∷ []) [] ++ faulty_separators allowed radix (seen_behind seen c) (n + 1) cs
separators-more allowed radix seen n c cs run =
    ap (λ k. cond (is_faulty radix (allowed && seen) c cs) (n ∷ []) [] ++ faulty_separators allowed radix (seen_behind seen c) (n + k) cs) (one_byte radix c (and_parts (in_run radix c) (list_all (in_run radix) cs) run).0)

pub run-behind : (radix : Radix) (c : ℕ) (cs : Text) → IsRun radix (c ∷ cs) → IsRun radix cs
run-behind radix c cs run = (and_parts (in_run radix c) (list_all (in_run radix) cs) run).1

-- what is said of separators behind these numbers of bytes, of a run that starts behind n
abbrev pub said : ℕ → List ℕ → List Fault
said n places = map (fault_behind n) (map separator_fault places)

-- one turn of a loop over the bytes
pub turn : (start : ℕ) (allowed : Bool) (radix : Radix) (seen : Bool) (n : ℕ) (c : ℕ) (cs : Text) (was now all : List Fault) → IsRun radix (c ∷ cs)
    → now ≡ was ++ said start (cond (is_faulty radix (allowed && seen) c cs) (n ∷ []) [])
    → was ++ said start (faulty_separators allowed radix seen n (c ∷ cs)) ≡ all
    → now ++ said start (faulty_separators allowed radix (seen_behind seen c) (n + 1) cs) ≡ all
turn start allowed radix seen n c cs was now all run e h =
    let one : List ℕ = cond (is_faulty radix (allowed && seen) c cs) (n ∷ []) [] in
    let more : List ℕ = faulty_separators allowed radix (seen_behind seen c) (n + 1) cs in
    let split : said start (one ++ more) ≡ said start one ++ said start more =
    ap (map (fault_behind start)) (map-append separator_fault one more) ∙ map-append (fault_behind start) (map separator_fault one) (map separator_fault more) in
    rw (e, append_assoc, ← split, ← separators-more allowed radix seen n c cs run) h

pub none_faulty : (seen : Bool) (radix : Radix) (c : ℕ) (cs : Text) → is_separator c ≡ false → is_faulty radix seen c cs ≡ false
none_faulty seen radix c cs e = rw e refl

pub or_none : (a b : Bool) → (a || b) ≡ false → (a ≡ false) × (b ≡ false)
or_none true b e = cc
or_none false b e = (refl, e)

pub no_separators : (allowed : Bool) (radix : Radix) (seen : Bool) (n : ℕ) (run : Text) → list_any is_separator run ≡ false → faulty_separators allowed radix seen n run ≡ []
no_separators allowed radix seen n [] e = refl
no_separators allowed radix seen n (c ∷ cs) e =
    let parts = or_none (is_separator c) (list_any is_separator cs) e in
    rw (none_faulty (allowed && seen) radix c cs parts.0) (no_separators allowed radix (seen_behind seen c) (n + byte_len (c ∷ [])) cs parts.1)

pub none_said : (start : ℕ) (allowed : Bool) (radix : Radix) (run : Text) (was : List Fault) → list_any is_separator run ≡ false → was ≡ was ++ map (fault_behind start) (run_faults allowed radix run)
none_said start allowed radix run was e = rw (no_separators allowed radix false 0 run e) (sym (append-nil was))

-- the bytes of parts are their characters, and no separator stands in a part of a text without one

pub any-parts : (p : ℕ → Bool) (xs ys : Text) → list_any p (xs ++ ys) ≡ false → (list_any p xs ≡ false) × (list_any p ys ≡ false)
any-parts p [] ys e = (refl, e)
any-parts p (x ∷ xs) ys e =
    let parts = or_none (p x) (list_any p (xs ++ ys)) e in
    let more = any-parts p xs ys parts.1 in
    (rw parts.0 more.0, more.1)

pub sign-length : (text : Text) → IsSign text → byte_len text ≡ length text
sign-length text (inl e) = rw e refl
sign-length text (inr e) = rw e.1 (ap (λ bytes. length (bytes ++ [])) (encode_ascii e.0 (grind (arith, nat_tests))))

pub mark-length : (mark : ℕ) (sign : Text) → is_exponent_mark mark ≡ true → IsSign sign → byte_len (mark ∷ sign) ≡ length sign + 1
mark-length mark sign e s =
    let low : mark < 128 = grind (arith, nat_tests) in
    byte_len-append (mark ∷ []) sign ∙ ap (λ n. n + byte_len sign) (ap (λ bytes. length (bytes ++ [])) (encode_ascii mark low)) ∙ ap (λ (n : ℕ). 1 + n) (sign-length sign s) ∙ omega arith

pub legacy_said : (start : ℕ) (run : Text) (span : Span) (was now : List Fault) → IsRun Decimal run → is_legacy run ≡ true
    → span ≡ record { lo = record { 0 = start }; hi = record { 0 = start + length run } }
    → now ≡ was ++ (record { blame = Strict; error = record { kind = plain_kind LegacyDecimal; span = span } } ∷ [])
    → now ≡ was ++ map (fault_behind start) (legacy_faults run)
legacy_said start run span was now all legacy place e =
    let bytes : byte_len run ≡ length run = ap length (run-bytes Decimal run all) in
    let zero : start ≡ start + 0 = omega arith in
    let there = place ∙ ap (λ (low : ℕ). let span : Span = record { lo = record { 0 = low }; hi = record { 0 = start + length run } } in span) zero in
    rw (legacy, bytes) (e ∙ ap (λ s. was ++ (record { blame = Strict; error = record { kind = plain_kind LegacyDecimal; span = s } } ∷ [])) there)
