-- What a row at the place of a text says of it, and equal fronts by lanes.
use Rattle.std.proofs.Common.{◌≡◌, ℕ, ◌+◌, ◌-◌, ◌*◌, ◌%◌, ◌^◌, ◌<◌, ◌≤◌, Bool, true, false, ◌&&◌, not, List, [], ◌∷◌, map, find, cond, length, take, slice_index_or, zero, suc, refl, sym, ◌∙◌, ap, nat_eq, nat_le, arith, one-add, Option, None, Some, unwrap_or, true≢false, bit_or, leb, eqb}
use Rattle.std.specs.List.{list_all, prefix_len}
use Rattle.std.specs.Cmp.Lexicographic.{pointwise}
use Rattle.std.proofs.Math.Dec.{leb-zero, leb-suc-zero, leb-suc-suc}
use Rattle.std.proofs.lemmas.Bool.{ne_eqb}
use Rattle.std.proofs.lemmas.Bool.Decides.{nat_tests}
use Rattle.std.proofs.lemmas.Grind.{common_steps}
use Rattle.std.proofs.lemmas.List.{get_or-map, get_or-take, length-take-le}
use Rattle.std.proofs.lemmas.Slice.Eq.{bytes_eq-Decides}
use Rattle.std.proofs.lemmas.Simd.{length-zip2, mask_l-mod}
use Rattle.std.proofs.lemmas.List.{length-map}
use Rattle.ecma_span.specs.Atom.{borrowed_atom}
use Rattle.ecma_lanes.proofs.LaneLemmas.{first_of_16}
use Rattle.ecma_word.specs.ShortWords.{hash, no_row, row_kind, row_word, row_for, holds, is_placed}
use Rattle.ecma_word.specs.Table.{table_of_words, has_text}
use Rattle.ecma_word.specs.Word.{word_of, word_text, word_kind}
use Rattle.ecma_word.proofs.Words.{words_are_looked_up, find-holds}
use Rattle.ecma_word.specs.declared.short_words.Row.{Row}
use Rattle.ecma_word.specs.declared.word.IdentLike.TheVariants.{Other}
use Rattle.ecma_word.specs.declared.word.IdentKind.TheVariants as ident_kind
use Rattle.ecma_word.specs.declared.word.WordKind.TheVariants as kind
use Rattle.ecma_word.specs.declared.word.Word.{Word}
use Rattle.ecma_word.specs.declared.word.Word.TheVariants as w
use lib.Lanes.{zip2, mask_l, top}
use lib.Count.{count_trailing_zeros}

-- The place of a text

pub hash-front : (n : ℕ) (bytes : List ℕ) → 2 ≤ n → n ≤ length bytes
    → (slice_index_or bytes 0 0 * 207 + slice_index_or bytes 1 0 * 192 + slice_index_or bytes (n - 1) 0 * 34 + n * 227) % 256 ≡ hash (take n bytes)
unfolding hash
hash-front n bytes some long =
    rw (length-take-le n bytes long, get_or-take n bytes 0 0 (omega arith), get_or-take n bytes 1 0 (omega arith), get_or-take n bytes (n - 1) 0 (omega arith)) refl

-- Equal fronts

abbrev differing : List ℕ → List ℕ → List ℕ
differing = zip2 (λ a b. cond (not (eqb a b)) 255 0)

same-run : (n : ℕ) (xs ys : List ℕ) → n ≤ length xs → n ≤ length ys → leb n (prefix_len (λ x. not (top 7 x)) (differing xs ys)) ≡ pointwise nat_eq (take n xs) (take n ys)
same-run zero xs ys h k = leb-zero _
same-run (suc n) [] ys h k = absurd (omega (arith, h))
same-run (suc n) (x ∷ xs) [] h k = absurd (omega (arith, k))
same-run (suc n) (x ∷ xs) (y ∷ ys) h k = go (eqb x y) (same-run n xs ys (omega (arith, h)) (omega (arith, k)))
  where
    go : (b : Bool) → leb n (prefix_len (λ z. not (top 7 z)) (differing xs ys)) ≡ pointwise nat_eq (take n xs) (take n ys)
        → leb (suc n) (cond (not (top 7 (cond (not b) 255 0))) (1 + prefix_len (λ z. not (top 7 z)) (differing xs ys)) 0) ≡ (b && pointwise nat_eq (take n xs) (take n ys))
    go true more = rw (one-add (prefix_len (λ z. not (top 7 z)) (differing xs ys))) (leb-suc-suc _ _ ∙ more)
    go false more = leb-suc-zero n

pub same-fronts : (n : ℕ) (xs ys : List ℕ) → n ≤ 16 → length xs ≡ 16 → length ys ≡ 16
    → leb n (count_trailing_zeros 64 (bit_or (mask_l (map (top 7) (differing xs ys)) % 2 ^ 64) 65536)) ≡ pointwise nat_eq (take n xs) (take n ys)
same-fronts n xs ys h long long' =
    let both : length (differing xs ys) ≡ 16 = length-zip2 _ xs ys (long ∙ sym long') ∙ long in
    rw (mask_l-mod (map (top 7) (differing xs ys)) 64 (omega (arith, both, length-map (differing xs ys) (top 7))), first_of_16 (top 7) (differing xs ys) both)
    (same-run n xs ys (omega arith) (omega arith))

-- The row of a text

pub row-right : (rows : List Row) (i : ℕ) → map row_kind rows ≡ map row_word rows → i < length rows → (slice_index_or rows i no_row).kind ≡ row_word (slice_index_or rows i no_row)
row-right rows i right within =
    sym (get_or-map row_kind rows i no_row (row_kind no_row) within) ∙ ap (λ all. slice_index_or all i (row_kind no_row)) right ∙ get_or-map row_word rows i no_row (row_kind no_row) within

found-all : {X : Type 0} (p q : X → Bool) (xs : List X) (x : X) → list_all q xs ≡ true → find p xs ≡ Some x → q x ≡ true
found-all p q [] x all found = cc
found-all p q (y ∷ ys) x all found = grind (arith, common_steps, found-all p q ys x)

-- a text that the row at its place lacks is no word of the table
pub no-word : (rows : List Row) (text : List ℕ) → list_all (is_placed rows) table_of_words ≡ true → holds text (row_for rows text) ≡ false → kind.Ident ident_kind.Other ≡ word_kind (word_of text)
no-word rows text all lacks = go (find (has_text text) table_of_words) refl ∙ ap word_kind (sym (words_are_looked_up text))
  where
    go : (o : Option Word) → find (has_text text) table_of_words ≡ o → kind.Ident ident_kind.Other ≡ word_kind (unwrap_or o (w.Ident (Other (borrowed_atom text))))
    go None e = refl
    go (Some word) e =
        let same : word_text word ≡ text = (bytes_eq-Decides (word_text word) text).0 (find-holds (has_text text) table_of_words word e) in
        let placed : holds text (row_for rows text) ≡ true = rw same at (found-all (has_text text) (is_placed rows) table_of_words word all e) in
        absurd (true≢false (sym placed ∙ lacks))

-- every word of the table has 2 to 10 bytes
is_within : Word → Bool
is_within word = nat_le 2 (length (word_text word)) && nat_le (length (word_text word)) 10

all-within : list_all is_within table_of_words ≡ true
unfolding is_within table_of_words
all-within = refl

-- a text that is shorter or longer than all words of the table
pub no-length : (text : List ℕ) (n : ℕ) → length text ≡ n → ((k : ℕ) → 2 ≤ k → k ≤ 10 → nat_eq k n ≡ false) → kind.Ident ident_kind.Other ≡ word_kind (word_of text)
unfolding is_within
no-length text n long none = go (find (has_text text) table_of_words) refl ∙ ap word_kind (sym (words_are_looked_up text))
  where
    go : (o : Option Word) → find (has_text text) table_of_words ≡ o → kind.Ident ident_kind.Other ≡ word_kind (unwrap_or o (w.Ident (Other (borrowed_atom text))))
    go None e = refl
    go (Some word) e =
        let same : word_text word ≡ text = (bytes_eq-Decides (word_text word) text).0 (find-holds (has_text text) table_of_words word e) in
        let within : is_within word ≡ true = found-all (has_text text) is_within table_of_words word all-within e in
        let count : length (word_text word) ≡ n = ap length same ∙ long in
        let other = none (length (word_text word)) (grind (arith, nat_tests)) (grind (arith, nat_tests)) in
        absurd (grind (arith, nat_tests))

-- where the row at its place has its length and its text, it is that row's word
pub its-word : (rows : List Row) (bytes : List ℕ) (i n : ℕ) → map row_kind rows ≡ map row_word rows → i < length rows → (slice_index_or rows i no_row).length ≡ n
    → pointwise nat_eq (take n (slice_index_or rows i no_row).text) (take n bytes) ≡ true → (slice_index_or rows i no_row).kind ≡ word_kind (word_of (take n bytes))
its-word rows bytes i n right within long same =
    row-right rows i right within ∙ ap (λ k. word_kind (word_of (take k (slice_index_or rows i no_row).text))) long ∙ ap (λ text. word_kind (word_of text)) ((bytes_eq-Decides _ (take n bytes)).0 same)

pub unequal : (a n : ℕ) (b : Bool) → ¬ (a ≡ n) → (nat_eq a n && b) ≡ false
unequal a n b h = let no : nat_eq a n ≡ false = ne_eqb a n h in rw no refl

pub unlike : (a n : ℕ) (b : Bool) → b ≡ false → (nat_eq a n && b) ≡ false
unlike a n false h = grind (arith, nat_tests)
unlike a n true h = cc

-- where it has not, it is no word of the table
lacking : (row : Row) (text : List ℕ) (n : ℕ) → length text ≡ n → (nat_eq row.length n && pointwise nat_eq (take n row.text) text) ≡ false → holds text row ≡ false
lacking row text n long other = go (nat_eq row.length n) refl other
  where
    go : (b : Bool) → nat_eq row.length n ≡ b → (b && pointwise nat_eq (take n row.text) text) ≡ false → holds text row ≡ false
    go false e h = rw (long, e) refl
    go true e h = let same : row.length ≡ n = grind (arith, nat_tests) in rw (long, e, same) h

pub not-its-word : (rows : List Row) (bytes : List ℕ) (i n : ℕ) → list_all (is_placed rows) table_of_words ≡ true → i ≡ hash (take n bytes) → n ≤ length bytes
    → (nat_eq (slice_index_or rows i no_row).length n && pointwise nat_eq (take n (slice_index_or rows i no_row).text) (take n bytes)) ≡ false → kind.Ident ident_kind.Other ≡ word_kind (word_of (take n bytes))
not-its-word rows bytes i n placed at long other = no-word rows (take n bytes) placed (lacking (row_for rows (take n bytes)) (take n bytes) n (length-take-le n bytes long) (rw at at other))
