-- What follows a number that is read cleanly may be replaced by any separator, and a number is not empty.
use Rattle.std.proofs.Common.{◌≡◌, ℕ, ◌<◌, Bool, true, false, ◌&&◌, ◌||◌, ◌==◌, [], ◌∷◌, ◌++◌, length, Option, Some, None, refl, ap, ◌∙◌, sym, arith, eqb-true}
use Rattle.std.proofs.lemmas.List.{drop_at}
use Rattle.std.proofs.lemmas.Bool.Decides.{nat_tests}
use Rattle.ecma_place.specs.Text.{Text, byte_len}
use Rattle.ecma_place.specs.Character.{is_ident_start, is_white_space, is_line_terminator}
use Rattle.ecma_syntax.specs.declared.settings.NumberRule.{NumberRule}
use Rattle.ecma_syntax.specs.declared.settings.NumberRule.TheVariants.{Crate, Standard}
use Rattle.ecma_token.specs.View.{ErrorView}
use Rattle.ecma_token.specs.declared.token.Radix.{Radix}
use Rattle.ecma_token.specs.declared.token.Radix.TheVariants.{Decimal}
use Rattle.ecma_grammar.specs.Fronts.{next_passes}
use Rattle.ecma_grammar.specs.Gaps.{is_inert}
use Rattle.ecma_grammar.specs.Locality.{is_clean, separates}
use Rattle.ecma_grammar.specs.Numbers.{digit, in_run, opens_number, Number, Prefixed, BigRun, OctalRun, DecimalRun, Exponent, NoExponent, Scaled, fraction_text, number_text, decimal_of, decimal_number, number_behind, prefix, run_of, behind_run, or_else, exponent_refusal, may_not_follow, next_refusal, part_refusal, refusal, is_big_number, found_number, number_parts, behind_number, NumberIsLocal, NumberIsSome, NumberBeginsNoGap}
use Rattle.ecma_grammar.proofs.Fronts.{separated}
use Rattle.ecma_grammar.proofs.GapLaws.{no_element}
use Rattle.ecma_number.proofs.NumberLaws.{number_sound, number_back}

-- a separator may stand behind a number

space_follows : (rule : NumberRule) (big : Bool) → may_not_follow rule big 32 ≡ false
unfolding is_ident_start
space_follows Crate true = refl
space_follows Crate false = refl
space_follows Standard big = refl

line_feed_follows : (rule : NumberRule) (big : Bool) → may_not_follow rule big 10 ≡ false
unfolding is_ident_start
line_feed_follows Crate true = refl
line_feed_follows Crate false = refl
line_feed_follows Standard big = refl

-- parts that are not refused in front of one text are not in front of another

exponent_refusal_none : (n : ℕ) (e : Exponent) (rest r : Text) → exponent_refusal n e rest ≡ None → exponent_refusal n e r ≡ None
exponent_refusal_none n NoExponent rest r h = refl
exponent_refusal_none n (Scaled mark [] []) [] r h = cc
exponent_refusal_none n (Scaled mark [] []) (c ∷ cs) r h = cc
exponent_refusal_none n (Scaled mark [] (d ∷ ds)) [] [] h = h
exponent_refusal_none n (Scaled mark [] (d ∷ ds)) [] (x ∷ xs) h = h
exponent_refusal_none n (Scaled mark [] (d ∷ ds)) (c ∷ cs) [] h = h
exponent_refusal_none n (Scaled mark [] (d ∷ ds)) (c ∷ cs) (x ∷ xs) h = h
exponent_refusal_none n (Scaled mark (s ∷ ss) run) rest r h = h

part_refusal_none : (n : Number) (rest r : Text) → part_refusal n rest ≡ None → part_refusal n r ≡ None
part_refusal_none (Prefixed radix letter run suffix) rest r h = h
part_refusal_none (BigRun run) rest r h = refl
part_refusal_none (OctalRun run) rest r h = refl
part_refusal_none (DecimalRun run f e) rest r h = exponent_refusal_none (byte_len (run ++ fraction_text f)) e rest r h

pub next_refusal_none : (rule : NumberRule) (n : Number) (r : Text) → next_passes (may_not_follow rule (is_big_number n)) r ≡ false → next_refusal rule n r ≡ None
next_refusal_none rule n r stop = rw stop refl

pub first_none : (a b : Option ErrorView) → or_else a b ≡ None → a ≡ None
first_none None b h = refl
first_none (Some e) b h = cc

refusal_none : (rule : NumberRule) (n : Number) (rest r : Text) → refusal rule n rest ≡ None → separates r ≡ true → refusal rule n r ≡ None
refusal_none rule n rest r h free =
    let big = is_big_number n in
    rw (
      part_refusal_none n rest r (first_none (part_refusal n rest) (next_refusal rule n rest) h),
      separated (may_not_follow rule big) r (space_follows rule big) (line_feed_follows rule big) free,
    ) refl

-- what is found, by whether it is refused

pub clean_none : (ts1085 : Bool) (rule : NumberRule) (n : Number) (o : Option ErrorView) → is_clean (found_number ts1085 rule n o) ≡ true → o ≡ None
clean_none ts1085 rule n None h = refl
clean_none ts1085 rule n (Some e) h = cc

pub spelling_is : (ts1085 : Bool) (rule : NumberRule) (n : Number) (o : Option ErrorView) → (found_number ts1085 rule n o).spelling ≡ number_text n
spelling_is ts1085 rule n None = refl
spelling_is ts1085 rule n (Some e) = refl

pub number_local : NumberIsLocal
number_local ts1085 rule b behind r opens clean spells free =
    let text = b ++ behind in
    let n = number_parts text in
    let none : refusal rule n (behind_number n text) ≡ None = clean_none ts1085 rule n (refusal rule n (behind_number n text)) clean in
    let written : number_text n ≡ b = sym (spelling_is ts1085 rule n (refusal rule n (behind_number n text))) ∙ spells in
    let again : number_parts (b ++ r) ≡ n = ap (λ l. number_parts (l ++ r)) (sym written) ∙ number_back n r (number_sound text) free in
    let follows : behind_number n (b ++ r) ≡ r = drop_at b r _ (ap length (sym written)) in
    ap (λ m. found_number ts1085 rule m (refusal rule m (behind_number m (b ++ r)))) again
    ∙ ap (λ l. found_number ts1085 rule n (refusal rule n l)) follows
    ∙ ap (found_number ts1085 rule n) (refusal_none rule n (behind_number n text) r none free ∙ sym none)

-- a number is not empty

some_run : (x y : Bool) (c : ℕ) (run rest : Text) → 0 < length (number_text (decimal_of x y (c ∷ run) rest))
some_run true y c run rest = omega arith
some_run false true c run rest = omega arith
some_run false false c run rest = omega arith

some_point : (c : ℕ) (cs : Text) → (c == 46) ≡ true → 0 < length (number_text (decimal_number [] (c ∷ cs)))
some_point c cs e = rw e (omega arith)

is_point : (d s p n : Bool) → (d || s) ≡ false → (d || (p && n)) ≡ true → p ≡ true
is_point true s p n h k = cc
is_point false s true n h k = refl
is_point false s false n h k = cc

decimal_some : (c : ℕ) (cs : Text) → opens_number (c ∷ cs) ≡ true → 0 < length (number_text (decimal_number (run_of Decimal (c ∷ cs)) (behind_run Decimal (c ∷ cs))))
decimal_some c cs opens = go (in_run Decimal c) refl
  where
    go : (x : Bool) → in_run Decimal c ≡ x → 0 < length (number_text (decimal_number (run_of Decimal (c ∷ cs)) (behind_run Decimal (c ∷ cs))))
    go true e = rw e (some_run _ _ c (run_of Decimal cs) (behind_run Decimal cs))
    go false e = rw e (some_point c cs (is_point (digit Decimal c) (c == 95) (c == 46) (next_passes (digit Decimal) cs) e opens))

pub parts_some : (text : Text) → opens_number text ≡ true → 0 < length (number_text (number_parts text))
parts_some [] opens = cc
parts_some (c ∷ cs) opens = go (prefix (c ∷ cs))
  where
    go : (o : Option (Radix × ℕ)) → 0 < length (number_text (number_behind o (c ∷ cs)))
    go (Some p) = omega arith
    go None = decimal_some c cs opens

pub number_some : NumberIsSome
number_some ts1085 rule text opens =
    let n = number_parts text in
    rw (spelling_is ts1085 rule n (refusal rule n (behind_number n text))) (parts_some text opens)

-- no number begins an element of a gap

digit_inert : (c : ℕ) → digit Decimal c ≡ true → is_inert c ≡ true
unfolding is_white_space is_line_terminator
digit_inert c h = grind (arith, nat_tests)

point_inert : is_inert 46 ≡ true
unfolding is_white_space is_line_terminator
point_inert = refl

pub number_begins_no_gap : NumberBeginsNoGap
number_begins_no_gap mode flag [] opens = cc
number_begins_no_gap mode flag (c ∷ cs) opens = no_element mode flag c cs (go (digit Decimal c) (c == 46) refl refl opens)
  where
    go : (x y : Bool) → digit Decimal c ≡ x → (c == 46) ≡ y → (x || (y && next_passes (digit Decimal) cs)) ≡ true → is_inert c ≡ true
    go true y e f h = digit_inert c e
    go false true e f h = ap is_inert (eqb-true c 46 f) ∙ point_inert
    go false false e f h = cc
