-- A word of fewer than 16 part bytes, seen in the 16 bytes at a cursor.
use Rattle.std.proofs.Common.{◌≡◌, ℕ, ◌<◌, ◌≤◌, true, false, List, [], ◌∷◌, take, drop, take-take, drop-drop, length, slice_index_or, slice_get, refl, sym, ap, ◌∙◌, one-add, ⊎_elim, Some, is_some, nat_lt, arith, encode_utf8_all}
use Rattle.std.specs.List.{prefix_len, take_while}
use Rattle.std.proofs.lemmas.Bool.{cases_Bool, ne_eqb}
use Rattle.std.proofs.lemmas.Bool.Decides.{nat_tests}
use Rattle.std.proofs.lemmas.List.{get_or-take}
use Rattle.std.proofs.lemmas.Str.{char_from_byte, encode_ascii}
use Rattle.ecma_place.specs.Text.{Text, count_within}
use Rattle.ecma_place.specs.Character.{is_ident_part}
use Rattle.ecma_place.specs.Cursor.{Cursor, ascii_of, rest, passed}
use Rattle.ecma_place.specs.Run.{is_in_class}
use Rattle.ecma_place.specs.declared.run.ByteClass.TheVariants.{Part}
use Rattle.ecma_place.proofs.ChunkLemmas.{chunk-run}
use Rattle.ecma_place.proofs.ClassLemmas.{ascii-run, part_ascii}
use Rattle.ecma_escape.specs.EscapeMeanings.{opens_escape}
use Rattle.ecma_grammar.proofs.Fronts.{length-take_while, take_while-front}
use Rattle.ecma_name.proofs.NameRuns.{part-end}

-- how many part characters of ASCII there are
abbrev run : Text → ℕ
run cs = prefix_len (is_in_class Part) cs

-- the ASCII byte behind a run of part bytes is the character there
stop-char : (cs : Text) → run cs < length (encode_utf8_all cs) → slice_index_or (encode_utf8_all cs) (run cs) 0 < 128
    → slice_get (drop (run cs) cs) 0 ≡ Some (slice_index_or (encode_utf8_all cs) (run cs) 0)
stop-char [] within low = absurd (omega (arith, within))
stop-char (c ∷ cs) within low =
    ⊎_elim
    (λ (t : is_in_class Part c ≡ true).
    let one = encode_ascii c (part_ascii c t) in
    rw (t, one-add (run cs), one) (stop-char cs (omega (arith, rw (t, one-add (run cs), one) at within)) (rw (t, one-add (run cs), one) at low)))
    (λ (f : is_in_class Part c ≡ false). rw f (ap Some (char_from_byte (encode_utf8_all (c ∷ cs)) (encode_utf8_all cs) c refl (rw f at low) (rw f at within))))
    (cases_Bool (is_in_class Part c))

-- the bytes of the run are its characters
run-bytes : (cs : Text) → take (run cs) (encode_utf8_all cs) ≡ encode_utf8_all (take (run cs) cs)
run-bytes [] = refl
run-bytes (c ∷ cs) =
    ⊎_elim
    (λ (t : is_in_class Part c ≡ true). rw (t, one-add (run cs), encode_ascii c (part_ascii c t)) (ap (λ l. c ∷ l) (run-bytes cs)))
    (λ (f : is_in_class Part c ≡ false). rw f refl)
    (cases_Bool (is_in_class Part c))

is-low : (b : ℕ) → nat_lt b 128 ≡ true → is_some (ascii_of (Some b)) ≡ true
is-low b e = rw e refl

not-opened : (cs : Text) (b : ℕ) → slice_get cs 0 ≡ Some b → ¬ (b ≡ 92) → opens_escape cs ≡ false
not-opened [] b e other = refl
not-opened (c ∷ cs) b e other = ne_eqb c 92 (λ at. other (let same : b ≡ c = cc in same ∙ at))

-- a word that ends within the chunk, before an ASCII character that is no backslash
pub record IsShort (old new : Cursor) (chunk : List ℕ) (n : ℕ) : Type 0 where
  pub moved : new ≡ passed (prefix_len is_ident_part (rest old)) old
  pub plain : opens_escape (rest new) ≡ false
  pub text : take n chunk ≡ encode_utf8_all (take_while is_ident_part (rest old))

same-length : (old : Cursor) (k m : ℕ) → passed k old ≡ passed m old → k ≡ m
same-length old k m e = let at = ap (λ (c : Cursor). c.at) e in omega (arith, at)

pub short-word : (old new : Cursor) (chunk : List ℕ) (n : ℕ) → chunk ≡ take 16 (encode_utf8_all (rest old)) → 16 ≤ length (encode_utf8_all (rest old))
    → n ≡ prefix_len (is_in_class Part) chunk → n < 16 → nat_lt (slice_index_or chunk n 0) 128 ≡ true → ¬ (slice_index_or chunk n 0 ≡ 92)
    → new ≡ passed (count_within n (rest old)) old → IsShort old new chunk n
short-word old new chunk n is long e short ascii other moved =
    let cs : Text = rest old in
    let bs : List ℕ = encode_utf8_all cs in
    let bytes : n ≡ prefix_len (is_in_class Part) bs = chunk-run (is_in_class Part) 16 n bs (rw is at e) short in
    let same = ascii-run (is_in_class Part) cs part_ascii in
    let chars : n ≡ run cs = bytes ∙ same.0 in
    let count : count_within n cs ≡ run cs = rw bytes same.1 in
    let there : rest new ≡ drop (run cs) cs = rw (moved, count) (sym (drop-drop _ old.at old.text)) in
    let byte : slice_index_or chunk n 0 ≡ slice_index_or bs (run cs) 0 = ap (λ l. slice_index_or l n 0) is ∙ get_or-take 16 bs n 0 short ∙ ap (λ k. slice_index_or bs k 0) chars in
    let low : nat_lt (slice_index_or bs (run cs) 0) 128 ≡ true = rw byte at ascii in
    let stop : slice_get (rest new) 0 ≡ Some (slice_index_or bs (run cs) 0) = rw there (stop-char cs (omega (arith, chars, short, long)) (grind (arith, nat_tests))) in
    let ended : new ≡ passed (prefix_len is_ident_part cs) old = part-end old new n bytes moved (rw stop (is-low _ low)) in
    let all : run cs ≡ prefix_len is_ident_part cs = same-length old _ _ (ap (λ k. passed k old) (sym count) ∙ sym moved ∙ ended) in
    record {
      moved = ended;
      plain = not-opened (rest new) _ stop (rw byte at other);
      text = ap (take n) is ∙ take-take n 16 bs (omega arith) ∙ ap (λ k. take k bs) chars ∙ run-bytes cs
          ∙ ap (λ k. encode_utf8_all (take k cs)) (all ∙ sym (length-take_while is_ident_part cs)) ∙ ap encode_utf8_all (take_while-front is_ident_part cs);
    }
