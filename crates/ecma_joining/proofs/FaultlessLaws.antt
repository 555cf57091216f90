-- All faults of a name count whatever the code is.
use Rattle.std.proofs.Common.{◌≡◌, ℕ, ◌+◌, Bool, true, false, cond, not, ◌&&◌, ◌==◌, List, [], ◌∷◌, ◌++◌, drop, take, length, Option, Some, None, map, refl, ap, ◌∙◌, sym}
use Rattle.std.specs.Prelude.{codes, nat_lt}
use Rattle.std.specs.List.{list_all}
use Rattle.std.proofs.lemmas.Bool.{and_parts}
use Rattle.ecma_place.specs.Text.{Text, byte_len}
use Rattle.ecma_place.specs.Character.{is_ident_start}
use Rattle.ecma_scan.specs.Cutters.{ReadsInOrder}
use Rattle.ecma_scan.specs.Escapes.{Accepted, Escape, HexLetter, InWord, LineEnd, OctalDigit, Lead, Refused, Single, UnicodeLetter, braced_escape, code_escape, escape_behind, escape_of, four_escape, hex_front, is_hex_digit, is_surrogate, lead, surrogate_faults, no_brace, out_of_range, unicode_escape}
use Rattle.std.specs.Str.Parse.{digits_value}
use Rattle.ecma_scan.specs.Expressions.{body_cutter, body_pieces, expression_behind, flags, regular_expression, slashed}
use Rattle.ecma_scan.specs.Found.{Fault, fault_behind}
use Rattle.ecma_scan.specs.Fronts.{after, next_is, next_passes}
use Rattle.ecma_joining.specs.Faultless.{ExpressionIsFaultless}
use Rattle.ecma_scan.specs.Locality.{has_clean_faults, is_accepted, is_always}
use Rattle.ecma_scan.specs.Pieces.{remainder, spelled}
use Rattle.ecma_scan.specs.Strings.{Piece, faults_of, piece_faults, piece_text}
use Rattle.ecma_scan.specs.Words.{BadEscape, Backslash, Ended, Part, Stop, WordEnding, WordRole, found_name, identifier_name, may_stand, named_piece, word_cutter, word_ending, word_pieces, word_piece, word_piece_of, word_role}
use Rattle.ecma_scan.proofs.PieceLemmas.{cut}
use Rattle.ecma_scan.proofs.WordLaws.{word_is_cutter}

abbrev all_always : List Fault → Bool
all_always faults = list_all (λ f. is_always f.blame) faults

abbrev escape_faults : Escape → List Fault
escape_faults (Accepted spelling value faults) = faults
escape_faults (Refused spelling error) = []

-- escapes in words

code_always : (spelling : Text) (c : ℕ) → all_always (escape_faults (code_escape InWord spelling c)) ≡ true
code_always spelling c = go (is_surrogate c)
  where
    go : (b : Bool) → all_always (escape_faults (cond b (Accepted spelling spelling (surrogate_faults InWord (length spelling))) (Accepted spelling (c ∷ []) []))) ≡ true
    go true = refl
    go false = refl

choice : (b : Bool) (x y : Escape) → all_always (escape_faults x) ≡ true → all_always (escape_faults y) ≡ true → all_always (escape_faults (cond b x y)) ≡ true
choice true x y h k = h
choice false x y h k = k

four_always : (digits : Text) → all_always (escape_faults (four_escape InWord digits)) ≡ true
four_always digits = choice (length digits == 4) _ _ (code_always (codes "\\u" ++ digits) (digits_value 16 digits)) refl

braced_always : (digits rest : Text) → all_always (escape_faults (braced_escape InWord digits rest)) ≡ true
braced_always [] rest = refl
braced_always (d ∷ ds) rest =
    let spelling : Text = codes "\\u{" ++ ((d ∷ ds) ++ codes "}") in
    let value : ℕ = digits_value 16 (d ∷ ds) in
    choice (nat_lt 0x10_FFFF value) (out_of_range InWord (d ∷ ds)) (cond (next_is 125 rest) (code_escape InWord spelling value) (no_brace InWord (d ∷ ds))) refl
    (choice (next_is 125 rest) (code_escape InWord spelling value) (no_brace InWord (d ∷ ds)) (code_always spelling value) refl)

unicode_always : (text : Text) → all_always (escape_faults (unicode_escape InWord text)) ≡ true
unicode_always text = choice (next_is 123 text) _ _ (braced_always (hex_front (drop 1 text)) (after is_hex_digit (drop 1 text))) (four_always (take 4 (hex_front text)))

of_always : (o : Lead) (c : ℕ) (cs : Text) → all_always (escape_faults (escape_of InWord o c cs)) ≡ true
of_always UnicodeLetter c cs = unicode_always cs
of_always HexLetter c cs = refl
of_always OctalDigit c cs = refl
of_always LineEnd c cs = refl
of_always Single c cs = refl

behind_always : (text : Text) → all_always (escape_faults (escape_behind InWord text)) ≡ true
behind_always [] = refl
behind_always (c ∷ cs) = of_always (lead c) c cs

-- pieces of words

abbrev in_some : Option Piece → Bool
in_some (Some piece) = all_always (piece_faults piece)
in_some None = true

either : (b : Bool) (x y : List Fault) → all_always x ≡ true → all_always y ≡ true → all_always (cond b x y) ≡ true
either true x y h k = h
either false x y h k = k

named_always : (is_first : Bool) (e : Escape) → all_always (escape_faults e) ≡ true → in_some (named_piece is_first e) ≡ true
named_always is_first (Refused spelling error) h = refl
named_always is_first (Accepted spelling [] faults) h = h
named_always is_first (Accepted spelling (c ∷ []) faults) h = either (may_stand is_first c) faults _ h refl
named_always is_first (Accepted spelling (c ∷ (d ∷ cs)) faults) h = h

piece_always : (is_first : Bool) (text : Text) → in_some (word_piece is_first text) ≡ true
piece_always is_first [] = refl
piece_always is_first (c ∷ cs) = go (word_role c)
  where
    go : (role : WordRole) → in_some (word_piece_of is_first role (c ∷ cs)) ≡ true
    go Part = refl
    go Backslash = named_always is_first (escape_behind InWord cs) (behind_always cs)
    go Stop = refl

always_moved : (n : ℕ) (faults : List Fault) → all_always (map (fault_behind n) faults) ≡ all_always faults
always_moved n [] = refl
always_moved n (f ∷ fs) = ap (λ b. is_always f.blame && b) (always_moved n fs)

always_both : (a b : List Fault) → all_always a ≡ true → all_always b ≡ true → all_always (a ++ b) ≡ true
always_both [] b h k = k
always_both (f ∷ fs) b h k =
    let parts = and_parts (is_always f.blame) (all_always fs) h in
    rw parts.0 (always_both fs b parts.1 k)

in_order_always : (n : ℕ) (s : Bool) (ps : List Piece) (rest : Text) → ReadsInOrder word_cutter s ps rest → all_always (faults_of n ps) ≡ true
in_order_always n s [] rest h = refl
in_order_always n s (piece ∷ more) rest h =
    always_both (map (fault_behind n) (piece_faults piece)) (faults_of (n + byte_len (piece_text piece)) more)
    (always_moved n (piece_faults piece) ∙ ap in_some (sym h.0) ∙ piece_always s (piece_text piece ++ (spelled word_cutter more ++ rest)))
    (in_order_always (n + byte_len (piece_text piece)) false more rest h.1)

name_always : (text : Text) → all_always (identifier_name text).faults ≡ true
name_always text = go (word_ending (remainder word_cutter true text))
  where
    all : all_always (faults_of 0 (word_pieces text)) ≡ true
    all = let c = cut word_cutter word_is_cutter true text in in_order_always 0 true (word_pieces text) c.0 c.2

    go : (ending : WordEnding) → all_always (found_name (word_pieces text) ending).faults ≡ true
    go Ended = all
    go (BadEscape spelling error) = all

flags_always : (text : Text) → all_always (flags text).faults ≡ true
flags_always text = go (next_passes is_ident_start text) refl
  where
    go : (b : Bool) → next_passes is_ident_start text ≡ b → all_always (flags text).faults ≡ true
    go true e = rw e (name_always text)
    go false e = rw e refl

expression_always : (text : Text) → all_always (expression_behind text).faults ≡ true
expression_always text = go (next_is 47 (remainder body_cutter tt text)) refl
  where
    body : Text
    body = spelled body_cutter (body_pieces text)

    go : (b : Bool) → next_is 47 (remainder body_cutter tt text) ≡ b → all_always (expression_behind text).faults ≡ true
    go true e = rw e (always_moved (byte_len (slashed body)) (flags (drop 1 (remainder body_cutter tt text))).faults ∙ flags_always (drop 1 (remainder body_cutter tt text)))
    go false e = rw e refl

none_left : (faults : List Fault) → all_always faults ≡ true → has_clean_faults faults ≡ true → faults ≡ []
none_left [] h k = refl
none_left (f ∷ fs) h k =
    let always = (and_parts (is_always f.blame) (all_always fs) h).0 in
    let never = (and_parts (not (is_always f.blame)) (has_clean_faults fs) k).0 in
    let no : not true ≡ true = ap not (sym always) ∙ never in
    cc

pub expression_is_faultless : ExpressionIsFaultless
expression_is_faultless text clean =
    none_left (regular_expression text).faults (expression_always (drop 1 text))
    (and_parts (is_accepted (regular_expression text).value) (has_clean_faults (regular_expression text).faults) clean).1
