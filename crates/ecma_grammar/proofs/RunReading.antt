-- A run of digits and separators, as a cursor reads it: its bytes are its characters.
use Rattle.std.proofs.Common.{◌≡◌, ℕ, ◌<◌, Bool, true, [], ◌∷◌, ◌++◌, take, length, refl, sym, ap, ◌∙◌, arith, encode_utf8_all}
use Rattle.std.specs.List.{list_all, prefix_len}
use Rattle.std.proofs.lemmas.Bool.{and_parts}
use Rattle.std.proofs.lemmas.Bool.Decides.{nat_tests}
use Rattle.std.proofs.lemmas.Str.{encode_ascii}
use Rattle.ecma_place.specs.Text.{Text}
use Rattle.ecma_place.specs.Cursor.{Cursor, rest, passed}
use Rattle.ecma_token.specs.declared.token.Radix.{Radix}
use Rattle.ecma_token.specs.declared.token.Radix.TheVariants.{Binary, Octal, Decimal, Hex}
use Rattle.ecma_grammar.specs.Numbers.{in_run, run_of, IsRun}
use Rattle.ecma_grammar.proofs.Fronts.{front-is, front_all, length-take_while, take_while-front}

pub run-ascii : (radix : Radix) (c : ℕ) → in_run radix c ≡ true → c < 128
run-ascii Binary c h = grind (arith, nat_tests)
run-ascii Octal c h = grind (arith, nat_tests)
run-ascii Decimal c h = grind (arith, nat_tests)
run-ascii Hex c h = grind (arith, nat_tests)

pub ascii-bytes : (p : ℕ → Bool) (text : Text) → ((c : ℕ) → p c ≡ true → c < 128) → list_all p text ≡ true → encode_utf8_all text ≡ text
ascii-bytes p [] low all = refl
ascii-bytes p (c ∷ cs) low all =
    let (here, more) = and_parts (p c) (list_all p cs) all in
    ap (λ bytes. bytes ++ encode_utf8_all cs) (encode_ascii c (low c here)) ∙ ap (λ bytes. c ∷ bytes) (ascii-bytes p cs low more)

-- the bytes of a run are its characters
pub run-bytes : (radix : Radix) (run : Text) → IsRun radix run → encode_utf8_all run ≡ run
run-bytes radix run all = ascii-bytes (in_run radix) run (run-ascii radix) all

pub run_of-bytes : (radix : Radix) (text : Text) → encode_utf8_all (run_of radix text) ≡ run_of radix text
run_of-bytes radix text = run-bytes radix (run_of radix text) (front_all (in_run radix) text)

-- how far a run reaches, in std's words
pub run_of-length : (radix : Radix) (text : Text) → length (run_of radix text) ≡ prefix_len (in_run radix) text
run_of-length radix text = ap length (front-is (in_run radix) text) ∙ length-take_while (in_run radix) text

pub run_of-take : (radix : Radix) (text : Text) → take (prefix_len (in_run radix) text) text ≡ run_of radix text
run_of-take radix text = sym (ap (λ n. take n text) (length-take_while (in_run radix) text)) ∙ take_while-front (in_run radix) text ∙ sym (front-is (in_run radix) text)

pub run-moved : (radix : Radix) (old now : Cursor) → now ≡ passed (prefix_len (in_run radix) (rest old)) old → now ≡ passed (length (run_of radix (rest old))) old
run-moved radix old now moved = rw (run_of-length radix (rest old)) moved

pub run-text : (radix : Radix) (text bytes : Text) → bytes ≡ encode_utf8_all (take (prefix_len (in_run radix) text) text) → bytes ≡ run_of radix text
run-text radix text bytes e = e ∙ ap encode_utf8_all (run_of-take radix text) ∙ run_of-bytes radix text

pub ruleset run_reading = (run-moved, run-text)
