-- Runs of part bytes within a run of part characters. Where an ASCII character stands behind a run of part bytes, the run
-- of part characters ends there.
use Rattle.std.proofs.Common.{◌≡◌, arith, ℕ, Bool, true, false, [], ◌∷◌, drop, drop-drop, refl, sym, ap, ◌∙◌, one-add, ⊎_elim, Some, is_some, slice_get, nat_lt, not, if◌then◌else◌, encode_utf8_all}
use Rattle.std.specs.List.{prefix_len}
use Rattle.std.proofs.lemmas.Bool.{cases_Bool}
use Rattle.std.proofs.lemmas.Bool.Decides.{nat_tests}
use Rattle.ecma_place.specs.Text.{Text, count_within}
use Rattle.ecma_place.specs.Character.{is_ident_part}
use Rattle.ecma_place.specs.Cursor.{Cursor, ascii_of, rest, passed}
use Rattle.ecma_place.specs.Run.{is_in_class}
use Rattle.ecma_place.specs.declared.run.ByteClass.TheVariants.{Part}
use Rattle.ecma_place.proofs.ClassLemmas.{ascii-run, part_ascii, run-jump, word-jump}
use Rattle.ecma_place.proofs.RunLemmas.{IsOnRun}
use Rattle.ecma_grammar.proofs.PunctuatorLemmas.{passed-zero}

ascii-part : (c : ℕ) → nat_lt c 128 ≡ true → is_ident_part c ≡ is_in_class Part c
unfolding is_ident_part
ascii-part c e = rw e refl

is-ascii : (c : ℕ) → is_some (ascii_of (Some c)) ≡ true → nat_lt c 128 ≡ true
is-ascii c h = go (nat_lt c 128) refl
  where
    go : (b : Bool) → nat_lt c 128 ≡ b → nat_lt c 128 ≡ true
    go true e = e
    go false e = let none = rw e at h in cc

stop : (cs : Text) → is_some (ascii_of (slice_get (drop (prefix_len (is_in_class Part) cs) cs) 0)) ≡ true
    → prefix_len is_ident_part (drop (prefix_len (is_in_class Part) cs) cs) ≡ 0
stop [] h = cc
stop (c ∷ cs) h =
    ⊎_elim
    (λ (t : is_in_class Part c ≡ true). rw (t, one-add (prefix_len (is_in_class Part) cs)) (stop cs (rw (t, one-add (prefix_len (is_in_class Part) cs)) at h)))
    (λ (f : is_in_class Part c ≡ false). let first = is-ascii c (rw f at h) in rw (f, ascii-part c first, f) refl)
    (cases_Bool (is_in_class Part c))

pub part-end : (old now : Cursor) (n : ℕ) → n ≡ prefix_len (is_in_class Part) (encode_utf8_all (rest old)) → now ≡ passed (count_within n (rest old)) old
    → is_some (ascii_of (slice_get (rest now) 0)) ≡ true → now ≡ passed (prefix_len is_ident_part (rest old)) old
part-end old now n e moved ascii =
    let run : IsOnRun is_ident_part old now = word-jump old now n e moved in
    let count : count_within n (rest old) ≡ prefix_len (is_in_class Part) (rest old) = rw e (ascii-run (is_in_class Part) (rest old) part_ascii).1 in
    let behind : rest now ≡ drop (prefix_len (is_in_class Part) (rest old)) (rest old) = rw (moved, count) (sym (drop-drop _ old.at old.text)) in
    let none : prefix_len is_ident_part (rest now) ≡ 0 = rw behind (stop (rest old) (rw behind at ascii)) in
    sym (passed-zero now) ∙ ap (λ k. passed k now) (sym none) ∙ run.same_end

-- the rest of the run is passed
part-passed : (old now new : Cursor) (n : ℕ) → n ≡ prefix_len (is_in_class Part) (encode_utf8_all (rest old)) → now ≡ passed (count_within n (rest old)) old
    → new ≡ passed (prefix_len is_ident_part (rest now)) now → new ≡ passed (prefix_len is_ident_part (rest old)) old
part-passed old now new n e moved more = more ∙ (word-jump old now n e moved).same_end

-- behind the run of part bytes: where an ASCII character stands there, or where the part characters there are passed
pub parts-passed : (old now new : Cursor) (n : ℕ) (b : Bool) → n ≡ prefix_len (is_in_class Part) (encode_utf8_all (rest old)) → now ≡ passed (count_within n (rest old)) old
    → is_some (ascii_of (slice_get (rest now) 0)) ≡ not b → new ≡ (if b then passed (prefix_len is_ident_part (rest now)) now else now)
    → new ≡ passed (prefix_len is_ident_part (rest old)) old
parts-passed old now new n true e moved ascii is = part-passed old now new n e moved is
parts-passed old now new n false e moved ascii is = is ∙ part-end old now n e moved ascii

-- behind the run of part bytes: as many characters are passed
pub bytes-passed : (old new : Cursor) (n : ℕ) → n ≡ prefix_len (is_in_class Part) (encode_utf8_all (rest old)) → new ≡ passed (count_within n (rest old)) old
    → new ≡ passed (prefix_len (is_in_class Part) (rest old)) old
bytes-passed old new n e moved = moved ∙ ap (λ k. passed (count_within k (rest old)) old) e ∙ ap (λ k. passed k old) (ascii-run (is_in_class Part) (rest old) part_ascii).1

part_low : (b : ℕ) → is_in_class Part b ≡ true → nat_lt b 128 ≡ true
part_low b h = grind (arith, nat_tests)

none-there : (cs : Text) → is_some (ascii_of (slice_get cs 0)) ≡ false → prefix_len (is_in_class Part) cs ≡ 0
none-there [] none = refl
none-there (c ∷ cs) none =
    ⊎_elim
    (λ (t : is_in_class Part c ≡ true). let no = rw (part_low c t) at none in cc)
    (λ (f : is_in_class Part c ≡ false). rw f refl)
    (cases_Bool (is_in_class Part c))

-- where no ASCII character stands there, there is no such run
pub none-passed : (c : Cursor) → is_some (ascii_of (slice_get (rest c) 0)) ≡ false → c ≡ passed (prefix_len (is_in_class Part) (rest c)) c
none-passed c none = sym (passed-zero c) ∙ ap (λ k. passed k c) (sym (none-there (rest c) none))

part-named : (b : ℕ) → is_in_class Part b ≡ true → is_ident_part b ≡ true
part-named b h = ascii-part b (part_low b h) ∙ h

-- along a run of part characters, a run of part bytes is passed
pub run-onward : (old now next : Cursor) → IsOnRun is_ident_part old now → next ≡ passed (prefix_len (is_in_class Part) (rest now)) now → IsOnRun is_ident_part old next
run-onward old now next on moved =
    let more = run-jump is_ident_part (is_in_class Part) now part-named in
    rw moved record { same_end = more.same_end ∙ on.same_end; further = omega (arith, on.further, more.further) }
