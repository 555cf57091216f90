-- A string that is closed and holds no escape, seen by its quotes and the run of characters between them.
use Rattle.std.proofs.Common.{◌≡◌, ℕ, ◌+◌, ◌-◌, ◌<◌, ◌≤◌, Bool, true, false, cond, List, [], ◌∷◌, length, length-drop, take, refl, sym, ap, ◌∙◌, arith, encode_utf8_all, ⊎_elim, Some, Ok, slice_get, slice_range}
use Rattle.std.specs.List.{prefix_len}
use Rattle.std.proofs.lemmas.Bool.{cases_Bool, eqb-true}
use Rattle.std.proofs.lemmas.Bool.Decides.{nat_tests}
use Rattle.std.proofs.lemmas.Str.{len_utf8_ascii}
use Rattle.ecma_place.specs.Text.{Text, byte_len, count_within}
use Rattle.ecma_place.specs.Atom.{AtomView, borrowed_atom}
use Rattle.ecma_place.specs.Cursor.{Cursor, HasPlace, index_of, moved_to, passed, place, rest}
use Rattle.ecma_place.specs.Run.{is_in_class, quote_byte}
use Rattle.ecma_place.specs.declared.run.Quote.{Quote}
use Rattle.ecma_place.specs.declared.run.Quote.TheVariants.{Single, Double}
use Rattle.ecma_place.specs.declared.run.ByteClass.{ByteClass}
use Rattle.ecma_place.specs.declared.run.ByteClass.TheVariants.{Plain}
use Rattle.ecma_place.proofs.ChunkLemmas.{chunk-run}
use Rattle.ecma_place.proofs.CursorLemmas.{count_within-byte_len, byte_len-cons}
use Rattle.ecma_place.proofs.MoveLemmas.{place-passed}
use Rattle.ecma_place.proofs.RunLemmas.{IsFurther, first-cons, text-passed}
use Rattle.ecma_token.specs.View.{TokenView, owns_nothing, plain_token}
use Rattle.ecma_token.specs.declared.token.Token.{Str}
use Rattle.ecma_grammar.specs.Found.{FoundView, found_at, span_of, token_behind}
use Rattle.ecma_grammar.specs.Fronts.{next_is}
use Rattle.ecma_grammar.specs.Strings.{opens_string, string_literal}
use Rattle.ecma_string.proofs.PlainRuns.{plain-run}
use Rattle.ecma_escape.specs.EscapeMeanings.{opens_escape}
use Rattle.ecma_escape.proofs.StringReading.{not-borrowed, plain-value}
use Rattle.ecma_escape.proofs.StringFound.{IsScanned, free-close, free-value, literal-accepted, literal-found}

-- The opening quote

one-byte : (old : Cursor) (c : ℕ) → slice_get (rest old) 0 ≡ Some c → c < 128 → byte_len (take 1 (rest old)) ≡ 1
one-byte old c first low =
    let front : take 1 (rest old) ≡ c ∷ [] = ap (take 1) (first-cons (rest old) c first) in
    ap byte_len front ∙ byte_len-cons c [] ∙ omega (arith, len_utf8_ascii c low)

-- behind an ASCII character is a place, one byte further
pub behind-ascii : (old : Cursor) (c : ℕ) → slice_get (rest old) 0 ≡ Some c → c < 128 → HasPlace old (place old + 1)
behind-ascii old c first low =
    let there : place (passed 1 old) ≡ place old + 1 = place-passed old (passed 1 old) 1 refl ∙ ap (λ (n : ℕ). place old + n) (one-byte old c first low) in
    (old.at + 1, sym there)

pub past-ascii : (old new : Cursor) (c : ℕ) → slice_get (rest old) 0 ≡ Some c → c < 128 → new ≡ passed (count_within 1 (rest old)) old → new ≡ passed 1 old
past-ascii old new c first low moved =
    let cs : Text = rest old in
    let some : 1 ≤ length cs = omega (arith, ap length (first-cons cs c first)) in
    let one : count_within 1 cs ≡ 1 = ap (λ (n : ℕ). count_within n cs) (sym (one-byte old c first low)) ∙ count_within-byte_len cs 1 some in
    moved ∙ ap (λ n. passed n old) one

pub opens-low : (cs : Text) → opens_string cs ≡ true → (c : ℕ) × (slice_get cs 0 ≡ Some c) × (c < 128)
opens-low [] opens = cc
opens-low (c ∷ cs) opens = (c, refl, low)
  where
    low : c < 128
    low = grind (arith, nat_tests)

-- The run behind it

lanes-run : (quote : Quote) (c : Cursor) (chunk : List ℕ) (n : ℕ) → chunk ≡ take 16 (encode_utf8_all (rest c)) → n ≡ prefix_len (is_in_class (Plain quote)) chunk → n < 16
    → n ≡ prefix_len (is_in_class (Plain quote)) (encode_utf8_all (rest c))
lanes-run quote c chunk n is e short = chunk-run (is_in_class (Plain quote)) 16 n (encode_utf8_all (rest c)) (e ∙ ap (prefix_len (is_in_class (Plain quote))) is) short

-- as far as the lanes of the 16 bytes at the cursor show
pub lanes-HasPlace : (quote : Quote) (c : Cursor) (chunk : List ℕ) (n : ℕ) → chunk ≡ take 16 (encode_utf8_all (rest c)) → n ≡ prefix_len (is_in_class (Plain quote)) chunk → n < 16
    → ((class : ByteClass) → HasPlace c (place c + prefix_len (is_in_class class) (encode_utf8_all (rest c)))) → HasPlace c (place c + n)
lanes-HasPlace quote c chunk n is e short places =
    let all = lanes-run quote c chunk n is e short in
    rw all (places (Plain quote))

pub lanes-passed : (quote : Quote) (c new : Cursor) (chunk : List ℕ) (n : ℕ) → chunk ≡ take 16 (encode_utf8_all (rest c)) → n ≡ prefix_len (is_in_class (Plain quote)) chunk → n < 16
    → new ≡ passed (count_within n (rest c)) c → new ≡ passed (prefix_len (is_in_class (Plain quote)) (rest c)) c
lanes-passed quote c new chunk n is e short moved = plain-run quote c new n (lanes-run quote c chunk n is e short) moved

-- The string

next-quote : (quote : Quote) (cs : Text) → slice_get cs 0 ≡ Some (quote_byte quote) → next_is (quote_byte quote) cs ≡ true
next-quote quote [] e = cc
next-quote Single (c ∷ cs) e = let same : c ≡ 39 = cc in rw same refl
next-quote Double (c ∷ cs) e = let same : c ≡ 34 = cc in rw same refl

quote-next : (quote : Quote) (cs : Text) → next_is (quote_byte quote) cs ≡ true → slice_get cs 0 ≡ Some (quote_byte quote)
quote-next quote [] e = cc
quote-next quote (c ∷ cs) e = ap Some (eqb-true c (quote_byte quote) e)

not-escape : (quote : Quote) (cs : Text) → slice_get cs 0 ≡ Some (quote_byte quote) → opens_escape cs ≡ false
not-escape quote [] e = cc
not-escape Single (c ∷ cs) e = let same : c ≡ 39 = cc in rw same refl
not-escape Double (c ∷ cs) e = let same : c ≡ 34 = cc in rw same refl

abbrev run : Quote → Cursor → ℕ
run quote c = prefix_len (is_in_class (Plain quote)) (rest c)

abbrev token : List ℕ → List ℕ → TokenView
token value raw = plain_token (Str (borrowed_atom value) (borrowed_atom raw))

-- a quote, the run of what stands for itself, and the same quote are all of the string
pub plain-scanned : (quote : Quote) (old one two far : Cursor) (value : List ℕ) → slice_get (rest old) 0 ≡ Some (quote_byte quote) → one ≡ passed 1 old
    → two ≡ passed (run quote one) one → value ≡ encode_utf8_all (take (run quote one) (rest one)) → slice_get (rest two) 0 ≡ Some (quote_byte quote) → far ≡ passed 1 two
    → IsScanned (string_literal (rest old)) old far (Ok (token value (encode_utf8_all (string_literal (rest old)).spelling))) [] []
plain-scanned quote old one two far value first moved ran text last onward =
    let next = next-quote quote (rest two) last in
    let all = plain-value quote one two value [] ran text (not-escape quote (rest two) last) in
    literal-accepted quote old one two far (borrowed_atom value) [] [] [] (place old) first moved all.value all.faults all.moved refl
    (rw next refl) (rw next onward)

-- what is found of it at its place
pub plain-found : (old far : Cursor) (value raw : List ℕ) (v r : AtomView) → IsScanned (string_literal (rest old)) old far (Ok (token value (encode_utf8_all (string_literal (rest old)).spelling))) [] []
    → raw ≡ encode_utf8_all (string_literal (rest old)).spelling → v ≡ borrowed_atom value → r ≡ borrowed_atom raw
    → found_at token_behind (place old) (string_literal (rest old)) ≡ record { value = Ok (plain_token (Str v r)); faults = []; extent = span_of (place old) (place far); line_break = false }
plain-found old far value raw v r is e vs rs =
    let x = string_literal (rest old) in
    let found : AtomView → AtomView → FoundView TokenView = λ a b. record { value = Ok (plain_token (Str a b)); faults = []; extent = span_of (place old) (place far); line_break = false } in
    sym (literal-found old far (Ok (token value (encode_utf8_all x.spelling))) [] [] (span_of (place old) (place far)) (place old) (place far) is refl refl refl refl)
    ∙ ap (found (borrowed_atom value)) (sym (rs ∙ ap borrowed_atom e)) ∙ ap (λ (a : AtomView). found a r) (sym vs)

-- and where it is such a string, its quote stands behind the run
pub plain-closed : (quote : Quote) (old one two : Cursor) (t : TokenView) → slice_get (rest old) 0 ≡ Some (quote_byte quote) → one ≡ passed 1 old → two ≡ passed (run quote one) one
    → (string_literal (rest old)).value ≡ Ok t → owns_nothing t ≡ true → (string_literal (rest old)).faults ≡ [] → slice_get (rest two) 0 ≡ Some (quote_byte quote)
plain-closed quote old one two t first moved ran value free none =
    let (atom, is, borrowed) = free-value quote old one t first moved value free in
    ⊎_elim
    (λ (opens : opens_escape (rest two) ≡ true). absurd (not-borrowed quote one two atom ran opens is borrowed))
    (λ (not : opens_escape (rest two) ≡ false).
    let all = plain-value quote one two _ [] ran refl not in
    quote-next quote (rest two) (free-close quote old one two _ first moved all.value all.moved none))
    (cases_Bool (opens_escape (rest two)))

-- the text of the run, seen from behind the closing quote
pub run-text : (one two far : Cursor) (n from to : ℕ) → two ≡ passed n one → far ≡ passed 1 two → from ≡ place one → to ≡ place two
    → encode_utf8_all (slice_range far.text (index_of far from) (index_of far to)) ≡ encode_utf8_all (take n (rest one))
run-text one two far n from to ran onward f t =
    ap (λ (x : Cursor). encode_utf8_all (slice_range x.text (index_of x from) (index_of x to))) onward ∙ text-passed one two n from to ran f t

pub eaten : (b : Bool) (two far : Cursor) → b ≡ true → far ≡ cond b (passed 1 two) two → far ≡ passed 1 two
eaten b two far e moved = rw e at moved

pub uneaten : (b : Bool) (two far : Cursor) → b ≡ false → far ≡ cond b (passed 1 two) two → far ≡ two
uneaten b two far e moved = rw e at moved
