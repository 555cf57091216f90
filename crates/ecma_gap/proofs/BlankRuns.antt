-- Runs of blanks as white space that holds no line terminator.
use Rattle.std.proofs.Common.{◌≡◌, ℕ, ◌+◌, ◌≤◌, ◌<◌, cond, Bool, true, false, [], ◌∷◌, drop, refl, sym, ap, ◌∙◌, arith, zero, suc, encode_utf8_all, drop-drop, ◌||◌}
use Rattle.std.specs.List.{prefix_len, take_while, list_any}
use Rattle.std.proofs.lemmas.List.Sums.{take_while-cons}
use Rattle.std.proofs.lemmas.Bool.Decides.{nat_tests}
use Rattle.ecma_place.specs.Text.{Text, count_within}
use Rattle.ecma_place.specs.Cursor.{Cursor, rest, passed}
use Rattle.ecma_place.specs.Character.{is_white_space, is_line_terminator}
use Rattle.ecma_place.specs.Run.{is_in_class}
use Rattle.ecma_place.specs.declared.run.ByteClass.TheVariants.{Blank}
use Rattle.ecma_place.proofs.RunLemmas.{IsOnRun, FlagsRun, passed-later-by}
use Rattle.ecma_grammar.proofs.LineLemmas.{within-run}
use Rattle.ecma_gap.proofs.WhiteLemmas.{ascii-stops}

blank-ascii : (b : ℕ) → is_in_class Blank b ≡ true → b < 128
blank-ascii b h = grind (arith, nat_tests)

blank-white : (c : ℕ) → is_in_class Blank c ≡ true → is_white_space c ≡ true
unfolding is_white_space is_line_terminator
blank-white c h = grind (arith, nat_tests)

blank-in_line : (c : ℕ) → is_in_class Blank c ≡ true → is_line_terminator c ≡ false
unfolding is_line_terminator
blank-in_line c h = grind (arith, nat_tests)

-- what the white space goes on with behind blanks
record Blanks (k : ℕ) (text : Text) : Type 0 where
  longer : prefix_len is_white_space text ≡ k + prefix_len is_white_space (drop k text)
  flags : list_any is_line_terminator (take_while is_white_space text) ≡ list_any is_line_terminator (take_while is_white_space (drop k text))

blanks-more : (k c : ℕ) (cs : Text) → is_in_class Blank c ≡ true → Blanks k cs → Blanks (suc k) (c ∷ cs)
blanks-more k c cs e behind =
    let white = blank-white c e in
    let plain = blank-in_line c e in record {
      longer = rw white (let it = behind.longer in omega (arith, it));
      flags = rw (take_while-cons is_white_space c cs, white, plain) behind.flags;
    }

blanks : (k : ℕ) (text : Text) → k ≤ prefix_len (is_in_class Blank) text → Blanks k text
blanks zero text l = record { longer = omega arith; flags = refl }
blanks (suc k) [] l = absurd (omega (arith, l))
blanks (suc k) (c ∷ cs) l = go (is_in_class Blank c) refl l (blanks k cs)
  where
    go : (x : Bool) → is_in_class Blank c ≡ x → suc k ≤ cond x (1 + prefix_len (is_in_class Blank) cs) 0 → (k ≤ prefix_len (is_in_class Blank) cs → Blanks k cs) → Blanks (suc k) (c ∷ cs)
    go true e less more = blanks-more k c cs e (more (omega (arith, less)))
    go false e less more = absurd (omega (arith, less))

passed-blanks : (now : Cursor) (n : ℕ) → n ≡ prefix_len (is_in_class Blank) (encode_utf8_all (rest now)) → Blanks (count_within n (rest now)) (rest now)
passed-blanks now n e =
    blanks (count_within n (rest now)) (rest now) (within-run (is_in_class Blank) (is_in_class Blank) (ascii-stops (is_in_class Blank) blank-ascii) (rest now) n (omega (arith, e)))

behind : (c : Cursor) (k : ℕ) → rest (passed k c) ≡ drop k (rest c)
behind c k = sym (drop-drop k c.at c.text)

pub blanks-run : (old now next : Cursor) (n : ℕ) → IsOnRun is_white_space old now → n ≡ prefix_len (is_in_class Blank) (encode_utf8_all (rest now)) → next ≡ passed (count_within n (rest now)) now
    → IsOnRun is_white_space old next
blanks-run old now next n on e moved =
    let k : ℕ = count_within n (rest now) in
    let sum : prefix_len is_white_space (rest now) ≡ k + prefix_len is_white_space (rest (passed k now)) = rw (behind now k) (passed-blanks now n e).longer in
    rw moved record { same_end = sym (passed-later-by now _ _ k sum) ∙ on.same_end; further = omega (arith, on.further) }

pub blanks-flags : (flag : Bool) (old now next : Cursor) (n : ℕ) → FlagsRun is_white_space is_line_terminator flag old now → n ≡ prefix_len (is_in_class Blank) (encode_utf8_all (rest now))
    → next ≡ passed (count_within n (rest now)) now → FlagsRun is_white_space is_line_terminator flag old next
unfolding FlagsRun
blanks-flags flag old now next n on e moved =
    let k : ℕ = count_within n (rest now) in
    let left : rest next ≡ drop k (rest now) = ap (λ (c : Cursor). rest c) moved ∙ behind now k in
    ap (λ (t : Text). flag || list_any is_line_terminator (take_while is_white_space t)) left ∙ ap (λ (b : Bool). flag || b) (sym (passed-blanks now n e).flags) ∙ on
