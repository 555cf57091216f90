-- A number that is read cleanly by the standard's rule is read the same by the crate's.
use Rattle.std.proofs.Common.{◌≡◌, ℕ, ◌+◌, Bool, true, false, not, ◌||◌, ◌==◌, List, [], ◌∷◌, ◌++◌, map, None, refl, sym, ap, ◌∙◌}
use Rattle.std.specs.List.{list_all}
use Rattle.std.proofs.lemmas.Bool.{and_parts, and_right}
use Rattle.std.proofs.lemmas.List.Folds.{list_all-append}
use Rattle.ecma_place.specs.Text.{Text, byte_len}
use Rattle.ecma_place.specs.Character.{is_ident_start}
use Rattle.ecma_syntax.specs.declared.settings.NumberRule.TheVariants.{Crate, Standard}
use Rattle.ecma_token.specs.declared.token.Radix.{Radix}
use Rattle.ecma_token.specs.declared.token.Radix.TheVariants.{Decimal}
use Rattle.ecma_grammar.specs.Found.{Fault}
use Rattle.ecma_grammar.specs.Fronts.{next_passes}
use Rattle.ecma_grammar.specs.Locality.{is_always, is_clean, has_clean_faults}
use Rattle.ecma_grammar.specs.Numbers.{Number, Prefixed, BigRun, OctalRun, DecimalRun, digit, is_separator, seen_behind, faulty_separators, separator_fault, first_run_faults, legacy_faults, fraction_faults, exponent_faults, fraction_text, part_faults, octal_faults, is_big_number, may_not_follow, may_hold_separators, next_refusal, part_refusal, refusal, found_number, number_parts, behind_number, CleanByBothRules}
use Rattle.ecma_number.proofs.NumberLocal.{clean_none, first_none}
use Rattle.ecma_number.proofs.RunFaults.{none_faulty, or_none}

-- faults of separators count whatever the code is
none_clean : (places : List ℕ) → has_clean_faults (map separator_fault places) ≡ true → places ≡ []
none_clean [] clean = refl
none_clean (n ∷ ns) clean = cc

-- where a run that may hold no separator has no faulty one, it has none that may hold some
fewer : (radix : Radix) (seen : Bool) (n : ℕ) (run : Text) → faulty_separators false radix seen n run ≡ [] → faulty_separators true radix seen n run ≡ []
fewer radix seen n [] none = refl
fewer radix seen n (c ∷ cs) none = go (is_separator c) refl (fewer radix (seen_behind seen c) (n + byte_len (c ∷ [])) cs)
  where
    go : (x : Bool) → is_separator c ≡ x
        → (faulty_separators false radix (seen_behind seen c) (n + byte_len (c ∷ [])) cs ≡ [] → faulty_separators true radix (seen_behind seen c) (n + byte_len (c ∷ [])) cs ≡ [])
        → faulty_separators true radix seen n (c ∷ cs) ≡ []
    go true e more = let h = rw e at none in cc
    go false e more = rw (none_faulty seen radix c cs e) (more (rw (none_faulty false radix c cs e) at none))

first_run_same : (run : Text) → has_clean_faults (first_run_faults Standard run) ≡ true → first_run_faults Crate run ≡ first_run_faults Standard run
first_run_same run clean = go (may_hold_separators Standard run) refl
  where
    go : (allowed : Bool) → may_hold_separators Standard run ≡ allowed → first_run_faults Crate run ≡ first_run_faults Standard run
    go true e = rw e refl
    go false e =
        let none = none_clean (faulty_separators false Decimal false 0 run) (rw e at clean) in
        rw (e, none, fewer Decimal false 0 run none) refl

front_clean : (xs ys : List Fault) → has_clean_faults (xs ++ ys) ≡ true → has_clean_faults xs ≡ true
front_clean xs ys clean =
    let counts : Fault → Bool = λ f. not (is_always f.blame) in
    (and_parts (list_all counts xs) (list_all counts ys) (sym (list_all-append counts xs ys) ∙ clean)).0

parts_same : (n : Number) → has_clean_faults (part_faults Standard n) ≡ true → part_faults Crate n ≡ part_faults Standard n
parts_same (Prefixed radix letter run suffix) clean = refl
parts_same (BigRun run) clean = first_run_same run clean
parts_same (OctalRun run) clean = first_run_same run clean
parts_same (DecimalRun run f e) clean =
    let more : List Fault = legacy_faults run ++ (fraction_faults (byte_len run) f ++ exponent_faults (byte_len (run ++ fraction_text f)) e) in
    ap (λ faults. faults ++ more) (first_run_same run (front_clean (first_run_faults Standard run) more clean))

-- what may follow by the standard's rule may follow by the crate's

follows : (big : Bool) (rest : Text) → next_passes (may_not_follow Standard big) rest ≡ false → next_passes (may_not_follow Crate big) rest ≡ false
follows big [] stop = refl
follows big (c ∷ cs) stop = and_right (not big) (is_ident_start c) (or_none (is_ident_start c) (digit Decimal c || c == 92) stop).0

unfollowed : (n : Number) (rest : Text) → next_refusal Standard n rest ≡ None → next_refusal Crate n rest ≡ None
unfollowed n rest none = go (next_passes (may_not_follow Standard (is_big_number n)) rest) refl
  where
    go : (x : Bool) → next_passes (may_not_follow Standard (is_big_number n)) rest ≡ x → next_refusal Crate n rest ≡ None
    go true e = let h = rw e at none in cc
    go false e = rw (follows (is_big_number n) rest e) refl

both_none : (n : Number) (rest : Text) → refusal Standard n rest ≡ None → refusal Crate n rest ≡ None
both_none n rest none =
    let parts = first_none (part_refusal n rest) (next_refusal Standard n rest) none in
    rw (parts, unfollowed n rest (rw parts at none)) refl

found_same : (ts1085 : Bool) (n : Number) → is_clean (found_number ts1085 Standard n None) ≡ true → found_number ts1085 Crate n None ≡ found_number ts1085 Standard n None
found_same ts1085 n clean =
    let same : part_faults Crate n ≡ part_faults Standard n = parts_same n (front_clean (part_faults Standard n) (octal_faults ts1085 n) clean) in
    rw same refl

pub clean_by_both_rules : CleanByBothRules
clean_by_both_rules ts1085 text clean =
    let n = number_parts text in
    let rest = behind_number n text in
    let none : refusal Standard n rest ≡ None = clean_none ts1085 Standard n (refusal Standard n rest) clean in
    ap (found_number ts1085 Crate n) (both_none n rest none)
    ∙ found_same ts1085 n (rw none at clean)
    ∙ ap (found_number ts1085 Standard n) (sym none)
