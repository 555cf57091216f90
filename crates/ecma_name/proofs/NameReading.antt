-- A name, as its reader finds it piece by piece.
use Rattle.std.proofs.Common.{◌≡◌, ℕ, ◌+◌, ◌<◌, Bool, true, false, ◌==◌, List, [], ◌∷◌, ◌++◌, length, length-append, map, take, take_at, drop, refl, sym, ap, subst, ◌∙◌, arith, zero, suc, append-nil, inl, inr, ◌⊎◌, ◌≢◌, encode_utf8_all, Some, None, Result, Ok, Err}
use Rattle.std.specs.Prelude.{option_map}
use Rattle.std.specs.List.{prefix_len, list_any}
use Rattle.std.proofs.lemmas.List.Folds.{length-prefix_len}
use Rattle.std.proofs.lemmas.Str.{length-le-encodes}
use Rattle.ecma_place.specs.Text.{Text, byte_len}
use Rattle.ecma_place.specs.Atom.{AtomView, owned_atom, borrowed_atom}
use Rattle.ecma_place.specs.Character.{is_ident_part}
use Rattle.ecma_place.specs.Cursor.{Cursor, rest, place, passed}
use Rattle.ecma_token.specs.View.{ErrorView, plain_kind}
use Rattle.ecma_token.specs.declared.error.SyntaxError.{InvalidIdentChar}
use Rattle.ecma_escape.specs.declared.escape.Refusal.{Refusal}
use Rattle.ecma_escape.specs.declared.escape.Meaning.{Meaning}
use Rattle.ecma_escape.specs.declared.escape.Meaning.TheVariants as answer
use Rattle.ecma_grammar.specs.declared.found.Blame.TheVariants.{Always}
use Rattle.ecma_grammar.specs.Found.{Fault, FoundView, error_behind, fault_behind, value_behind, placeless, found_at, span_of}
use Rattle.ecma_grammar.specs.Pieces.{pieces, spelled}
use Rattle.ecma_grammar.specs.Escapes.{Escape, Accepted, Refused, InWord, escape, escape_spelling, escape_value, escape_refusal}
use Rattle.ecma_escape.specs.EscapeMeanings.{opens_escape, answered}
use Rattle.ecma_grammar.specs.Strings.{Piece, Plain, Escaped, is_escaped, atom_of, faults_of}
use Rattle.ecma_grammar.specs.Words.{Part, Backslash, Stop, word_role, may_stand, named_piece, word_piece_of, word_piece, word_cutter, WordEnding, Ended, BadEscape, bad_escape_ending, word_ending_of, word_ending, found_name, identifier_name}
use Rattle.ecma_escape.specs.PieceParts.{values_from, faults_from, end_from, unless_refused, behind_refused}
use Rattle.ecma_name.specs.NameParts.{faults_in, is_named, named_faults, as_ending, ending_from, text_from, name_from, behind_pieces}
use Rattle.ecma_escape.proofs.EscapeBytes.{IsNamed, word_named}
use Rattle.ecma_grammar.proofs.SignLemmas.{rest-behind}
use Rattle.ecma_grammar.proofs.EscapeLaws.{begins_is, escape_some}
use Rattle.ecma_escape.proofs.EscapeSpans.{IsRead, escape-place}
use Rattle.ecma_grammar.proofs.PieceLemmas.{pieces_none, pieces_more, tiling}
use Rattle.ecma_escape.proofs.PieceReading.{IsOnPieces, IsPlain, on-start, on-stop, on-step, on-plain, plain-from, plain-escaped, later, rest-less, no-run, run-stops}
use Rattle.ecma_escape.proofs.StringReading.{borrowed-atom, is_bad, never-borrowed, owned-value, refused-value}
use Rattle.ecma_name.proofs.WordLaws.{word_is_cutter, name_front}
use Rattle.ecma_escape.proofs.StringFound.{error-shifted, faults-shifted}
use Rattle.ecma_place.proofs.MoveLemmas.{place-passed}
use Rattle.ecma_place.proofs.RunLemmas.{passed-later-by}
use Rattle.ecma_place.specs.declared.place.Span.{Span}
use Rattle.std.proofs.lemmas.Bool.{ne_eqb}

-- The fault of an escape

named-said : (is_first : Bool) (a : Meaning) (s : Text) (e : Escape) (p q : ℕ) → answered InWord s a ≡ e → IsNamed e → q ≡ p + byte_len s → ((refusal : Refusal) → a ≡ answer.Refused refusal → ⊥)
    → named_faults (is_named is_first a) p q ≡ map (fault_behind p) (faults_in (named_piece is_first e))
named-said is_first answer.Nothing s e p q h n at not = absurd (subst IsNamed (sym h) n)
named-said is_first (answer.Octal c) s e p q h n at not = let n' = subst IsNamed (sym h) n in cc
named-said is_first (answer.Refused refusal) s e p q h n at not = absurd (not refusal refl)
named-said is_first (answer.Character c) s e p q h n at not = go (may_stand is_first c) refl ∙ ap (λ x. map (fault_behind p) (faults_in (named_piece is_first x))) h
  where
    fault : ℕ → ℕ → Fault
    fault a b = record { blame = Always; error = record { kind = plain_kind InvalidIdentChar; span = span_of a b } }

    go : (b : Bool) → may_stand is_first c ≡ b → named_faults b p q ≡ map (fault_behind p) (faults_in (named_piece is_first (Accepted s (c ∷ []) [])))
    go true t = rw t refl
    go false t = rw t (ap (λ a. fault a q ∷ []) (let same : p ≡ p + 0 = omega arith in same) ∙ ap (λ b. fault (p + 0) b ∷ []) at)
named-said is_first answer.Spelling [] e p q h n at not = absurd (subst IsNamed (sym h) n)
named-said is_first answer.Spelling (c ∷ []) e p q h n at not = let n' = subst IsNamed (sym h) n in cc
named-said is_first answer.Spelling (c ∷ (d ∷ cs)) e p q h n at not =
    let s : Text = c ∷ (d ∷ cs) in
    let parts = subst IsNamed (sym h) n in
    let there : q ≡ p + length s = at ∙ ap (λ k. p + k) parts.1 in
    let fault : ℕ → ℕ → Fault = λ (a b : ℕ). record { blame = Always; error = record { kind = plain_kind InvalidIdentChar; span = span_of a b } } in
    ap (λ a. fault a q ∷ []) (let same : p ≡ p + 0 = omega arith in same) ∙ ap (λ b. fault (p + 0) b ∷ []) there
    ∙ ap (λ x. map (fault_behind p) (faults_in (named_piece is_first x))) h

pub name-faults : (is_first : Bool) (a : Meaning) (old now : Cursor) (was new : List Fault) (start end : ℕ) → IsRead InWord a old now → ((refusal : Refusal) → a ≡ answer.Refused refusal → ⊥) → start ≡ place old → end ≡ place now
    → new ≡ was ++ named_faults (is_named is_first a) start end
    → new ≡ was ++ map (fault_behind (place old)) (faults_in (named_piece is_first (escape InWord (rest old))))
name-faults is_first a old now was new start end r not s e n =
    n ∙ ap (λ k. was ++ named_faults (is_named is_first a) k end) s
    ∙ ap (λ l. was ++ l) (named-said is_first a (escape_spelling (escape InWord (rest old))) (escape InWord (rest old)) (place old) end r.answer (word_named (drop 1 (rest old))) (e ∙ escape-place InWord old now r.opens r.moved) not)

-- Where pieces begin

no-backslash : is_ident_part 92 ≡ false
unfolding is_ident_part
no-backslash = refl

escape-role : word_role 92 ≡ Backslash
escape-role = rw no-backslash refl

at-escape : (is_first : Bool) (text : Text) → opens_escape text ≡ true
    → (word_piece is_first text ≡ named_piece is_first (escape InWord text)) × (word_ending text ≡ bad_escape_ending (escape InWord text))
at-escape is_first text opens = subst (λ t. (word_piece is_first t ≡ named_piece is_first (escape InWord t)) × (word_ending t ≡ bad_escape_ending (escape InWord t)))
    (sym (begins_is 92 text opens)) (
      ap (λ r. word_piece_of is_first r (92 ∷ drop 1 text)) escape-role,
      ap (λ r. word_ending_of r (92 ∷ drop 1 text)) escape-role,
    )

is-plain : IsPlain word_piece (λ _ _. false) is_ident_part false
is-plain = record {
  reads = λ s c cs h. ap (λ r. word_piece_of s r (c ∷ cs)) (let part : word_role c ≡ Part = rw h refl in part);
  leads = λ s c. refl;
}

stopped : (is_first : Bool) (text : Text) → prefix_len is_ident_part text ≡ 0 → opens_escape text ≡ false → (word_piece is_first text ≡ None) × (word_ending text ≡ Ended)
stopped is_first [] h e = (refl, refl)
stopped is_first (c ∷ cs) h e =
    let stop : word_role c ≡ Stop = rw (no-run is_ident_part c cs h, e) refl in
    (ap (λ r. word_piece_of is_first r (c ∷ cs)) stop, ap (λ r. word_ending_of r (c ∷ cs)) stop)

named-some : (is_first : Bool) (s v : Text) (f : List Fault) → named_piece is_first (Accepted s v f) ≡ Some (Escaped s v (faults_in (named_piece is_first (Accepted s v f))))
named-some is_first s [] f = refl
named-some is_first s (c ∷ []) f = refl
named-some is_first s (c ∷ (d ∷ cs)) f = refl

abbrev pub IsOnName : Bool → Bool → Cursor → Cursor → List ℕ → List ℕ → List Fault → List Fault → Type 0
IsOnName s t old now before text was said = IsOnPieces word_cutter s t old now before text was said

same-later : (n : ℕ) → later false false n ≡ false
same-later zero = refl
same-later (suc n) = refl

-- behind an escape and the run that follows it
pub name-turn : (s t : Bool) (old now one far : Cursor) (before text more run : List ℕ) (was said new : List Fault)
    → IsOnName s t old now before text was said → opens_escape (rest now) ≡ true → None ≡ option_map (error_behind (place now)) (escape_refusal (escape InWord (rest now)))
    → one ≡ passed (length (escape_spelling (escape InWord (rest now)))) now → more ≡ text ++ encode_utf8_all (escape_value (escape InWord (rest now)))
    → new ≡ said ++ map (fault_behind (place now)) (faults_in (named_piece t (escape InWord (rest now))))
    → far ≡ passed (prefix_len is_ident_part (rest one)) one → run ≡ more ++ encode_utf8_all (take (prefix_len is_ident_part (rest one)) (rest one))
    → IsOnName s false old far before run was new
name-turn s t old now one far before text more run was said new on opens accepted moved m n onward r =
    go (escape InWord (rest now)) (at-escape t (rest now) opens).0 accepted moved m n
  where
    go : (e : Escape) → word_piece t (rest now) ≡ named_piece t e → None ≡ option_map (error_behind (place now)) (escape_refusal e) → one ≡ passed (length (escape_spelling e)) now
        → more ≡ text ++ encode_utf8_all (escape_value e) → new ≡ said ++ map (fault_behind (place now)) (faults_in (named_piece t e)) → IsOnName s false old far before run was new
    go (Refused spelling error) piece a moved m n = cc
    go (Accepted spelling value faults) piece a moved m n =
        let here = piece ∙ named-some t spelling value faults in
        let behind = on-step word_piece (λ _ _. false) word_is_cutter s t old now one before text more was said new (Escaped spelling value (faults_in (named_piece t (Accepted spelling value faults)))) on here moved m n in
        subst (λ u. IsOnName s u old far before run was new) (same-later (prefix_len is_ident_part (rest one)))
        (on-plain word_piece (λ _ _. false) is_ident_part false word_is_cutter is-plain s false old one far before more run was new behind onward r)

pub turn-less : (now one far : Cursor) → opens_escape (rest now) ≡ true → one ≡ passed (length (escape_spelling (escape InWord (rest now)))) now → far ≡ passed (prefix_len is_ident_part (rest one)) one
    → length (rest far) < length (rest now)
turn-less now one far opens moved onward =
    let left : 0 < length (rest now) = omega (arith, ap length (begins_is 92 (rest now) opens)) in
    rest-less now one far _ _ moved onward (escape_some InWord (drop 1 (rest now))) left

-- The end of the pieces

-- what is answered of the pieces, what is said, and where reading goes on
pub record IsText (s : Bool) (before : List ℕ) (old now : Cursor) (v : Result (List ℕ) ErrorView) (was said : List Fault) : Type 0 where
  pub value : v ≡ text_from s before old
  pub faults : said ≡ was ++ faults_from word_cutter s old
  pub moved : now ≡ behind_pieces s old

pub text-ended : (s t : Bool) (old now : Cursor) (before text : List ℕ) (was said : List Fault) → IsOnName s t old now before text was said
    → prefix_len is_ident_part (rest now) ≡ 0 → opens_escape (rest now) ≡ false → IsText s before old now (Ok text) was said
text-ended s t old now before text was said on run not =
    let stop = stopped t (rest now) run not in
    let all = on-stop word_cutter s t old now before text was said on stop.0 in
    let whole : List ℕ = before ++ values_from word_cutter s old in
    record {
      value = ap (λ l. Ok l) all.0 ∙ ap (λ e. unless_refused (as_ending e) now whole) (sym stop.1) ∙ ap (λ end. unless_refused (as_ending (word_ending (rest end))) end whole) all.2;
      faults = all.1;
      moved = ap (λ e. behind_refused (as_ending e) now) (sym stop.1) ∙ ap (λ end. behind_refused (as_ending (word_ending (rest end))) end) all.2;
    }

pub text-refused : (s t : Bool) (old now far : Cursor) (before text : List ℕ) (was said new : List Fault) (v : ErrorView) → IsOnName s t old now before text was said
    → opens_escape (rest now) ≡ true → Some v ≡ option_map (error_behind (place now)) (escape_refusal (escape InWord (rest now)))
    → far ≡ passed (length (escape_spelling (escape InWord (rest now)))) now → new ≡ said ++ map (fault_behind (place now)) (faults_in (named_piece t (escape InWord (rest now))))
    → IsText s before old far (Err v) was new
text-refused s t old now far before text was said new v on opens refusal moved n =
    go (escape InWord (rest now)) (at-escape t (rest now) opens) refusal moved n
  where
    go : (e : Escape) → (word_piece t (rest now) ≡ named_piece t e) × (word_ending (rest now) ≡ bad_escape_ending e) → Some v ≡ option_map (error_behind (place now)) (escape_refusal e)
        → far ≡ passed (length (escape_spelling e)) now → new ≡ said ++ map (fault_behind (place now)) (faults_in (named_piece t e)) → IsText s before old far (Err v) was new
    go (Accepted spelling value faults) at refusal moved n = cc
    go (Refused spelling error) at refusal moved n =
        let all = on-stop word_cutter s t old now before text was said on at.0 in
        let whole : List ℕ = before ++ values_from word_cutter s old in
        let same : v ≡ error_behind (place now) error = cc in
        record {
          value = ap (λ x. Err x) same ∙ ap (λ e. unless_refused (as_ending e) now whole) (sym at.1) ∙ ap (λ end. unless_refused (as_ending (word_ending (rest end))) end whole) all.2;
          faults = n ∙ append-nil said ∙ all.1;
          moved = moved ∙ ap (λ e. behind_refused (as_ending e) now) (sym at.1) ∙ ap (λ end. behind_refused (as_ending (word_ending (rest end))) end) all.2;
        }

-- The text of the name, by the run with which it begins

-- what is answered, as above
pub record IsName (old now : Cursor) (v : Result AtomView ErrorView) (was said : List Fault) : Type 0 where
  pub value : v ≡ name_from old
  pub faults : said ≡ was ++ faults_from word_cutter true old
  pub moved : now ≡ behind_pieces true old

-- whether nothing stands before the rest of a name
abbrev pub is_first_behind : Cursor → Bool
is_first_behind old = later true false (prefix_len is_ident_part (rest old))

pub first-behind : (old : Cursor) (run : List ℕ) → run ≡ encode_utf8_all (take (prefix_len is_ident_part (rest old)) (rest old)) → (length run == 0) ≡ is_first_behind old
first-behind old run r = go (prefix_len is_ident_part (rest old)) (length-prefix_len is_ident_part (rest old)) r
  where
    go : (n : ℕ) → length (take n (rest old)) ≡ n → run ≡ encode_utf8_all (take n (rest old)) → (length run == 0) ≡ later true false n
    go zero size r = rw r refl
    go (suc n) size r =
        let some : length run ≢ 0 = omega (arith, ap length r, length-le-encodes (take (suc n) (rest old)), size) in
        ne_eqb (length run) 0 some

run-pieces : (old one : Cursor) → one ≡ passed (prefix_len is_ident_part (rest old)) old
    → pieces word_cutter true (rest old) ≡ map Plain (take (prefix_len is_ident_part (rest old)) (rest old)) ++ pieces word_cutter (is_first_behind old) (rest one)
run-pieces old one moved = plain-from word_piece (λ _ _. false) is_ident_part false word_is_cutter is-plain true old one moved

on-run : (old one : Cursor) (run : List ℕ) (was : List Fault) → one ≡ passed (prefix_len is_ident_part (rest old)) old
    → run ≡ encode_utf8_all (take (prefix_len is_ident_part (rest old)) (rest old)) → IsOnName true (is_first_behind old) old one [] run was was
on-run old one run was moved r =
    on-plain word_piece (λ _ _. false) is_ident_part false word_is_cutter is-plain true true old old one [] [] run was was (on-start word_cutter true old [] was) moved r

-- a name without an escape
pub plain-name : (old one : Cursor) (run : List ℕ) (was : List Fault) → one ≡ passed (prefix_len is_ident_part (rest old)) old
    → run ≡ encode_utf8_all (take (prefix_len is_ident_part (rest old)) (rest old)) → opens_escape (rest one) ≡ false
    → IsName old one (Ok (borrowed_atom run)) was was
plain-name old one run was moved r not =
    let s = is_first_behind old in
    let xs = take (prefix_len is_ident_part (rest old)) (rest old) in
    let on = on-run old one run was moved r in
    let ended = text-ended true s old one [] run was was on (run-stops is_ident_part old one moved) not in
    let stop = stopped s (rest one) (run-stops is_ident_part old one moved) not in
    let all = on-stop word_cutter true s old one [] run was was on stop.0 in
    let none : pieces word_cutter true (rest old) ≡ map Plain xs ++ [] = run-pieces old one moved ∙ ap (λ l. map Plain xs ++ l) (pieces_none word_cutter s (rest one) stop.0) in
    let unescaped : list_any is_escaped (pieces word_cutter true (rest old)) ≡ false = ap (list_any is_escaped) none ∙ plain-escaped xs [] in
    let atom : borrowed_atom run ≡ atom_of (pieces word_cutter true (rest old)) = ap borrowed_atom all.0 ∙ sym (borrowed-atom (pieces word_cutter true (rest old)) false unescaped) in
    record {
      value =
          ap (λ a. Ok a) atom ∙ ap (λ e. unless_refused (as_ending e) one (atom_of (pieces word_cutter true (rest old)))) (sym stop.1)
          ∙ ap (λ end. unless_refused (as_ending (word_ending (rest end))) end (atom_of (pieces word_cutter true (rest old)))) all.2;
      faults = ended.faults;
      moved = ended.moved;
    }

-- an escape that is accepted behind the run owns the text, and one that is refused refuses it
escaped-some : (old one : Cursor) → one ≡ passed (prefix_len is_ident_part (rest old)) old → opens_escape (rest one) ≡ true
    → (list_any is_escaped (pieces word_cutter true (rest old)) ≡ true) ⊎ (is_bad (as_ending (ending_from true old)) ≡ true)
escaped-some old one moved opens = go (escape InWord (rest one)) (at-escape (is_first_behind old) (rest one) opens)
  where
    s : Bool
    s = is_first_behind old

    xs : Text
    xs = take (prefix_len is_ident_part (rest old)) (rest old)

    go : (e : Escape) → (word_piece s (rest one) ≡ named_piece s e) × (word_ending (rest one) ≡ bad_escape_ending e)
        → (list_any is_escaped (pieces word_cutter true (rest old)) ≡ true) ⊎ (is_bad (as_ending (ending_from true old)) ≡ true)
    go (Accepted spelling value faults) at =
        inl (ap (list_any is_escaped) (run-pieces old one moved) ∙ plain-escaped xs (pieces word_cutter s (rest one))
        ∙ ap (list_any is_escaped) (pieces_more word_cutter word_is_cutter s (rest one) (Escaped spelling value (faults_in (named_piece s (Accepted spelling value faults)))) (at.0 ∙ named-some s spelling value faults)))
    go (Refused spelling error) at =
        let all = on-stop word_cutter true s old one [] _ [] [] (on-run old one _ [] moved refl) at.0 in
        inr (sym (ap (λ end. is_bad (as_ending (word_ending (rest end)))) all.2) ∙ ap (λ e. is_bad (as_ending e)) at.1)

-- what is answered of the rest is what is answered of all
whole-text : (old one : Cursor) (run : List ℕ) (was : List Fault) → one ≡ passed (prefix_len is_ident_part (rest old)) old
    → run ≡ encode_utf8_all (take (prefix_len is_ident_part (rest old)) (rest old))
    → (text_from (is_first_behind old) run one ≡ text_from true [] old) × (was ++ faults_from word_cutter (is_first_behind old) one ≡ was ++ faults_from word_cutter true old)
    × (behind_pieces (is_first_behind old) one ≡ behind_pieces true old)
whole-text old one run was moved r =
    let on = on-run old one run was moved r in (
      ap (λ end. unless_refused (as_ending (word_ending (rest end))) end (run ++ values_from word_cutter (is_first_behind old) one)) on.end
          ∙ ap (λ l. unless_refused (as_ending (ending_from true old)) (end_from word_cutter true old) l) on.values,
      on.faults,
      ap (λ end. behind_refused (as_ending (word_ending (rest end))) end) on.end,
    )

pub escaped-text : (old one now : Cursor) (is_first : Bool) (run text : List ℕ) (was said : List Fault) → one ≡ passed (prefix_len is_ident_part (rest old)) old
    → run ≡ encode_utf8_all (take (prefix_len is_ident_part (rest old)) (rest old)) → opens_escape (rest one) ≡ true → is_first ≡ is_first_behind old
    → Ok text ≡ text_from is_first run one → said ≡ was ++ faults_from word_cutter is_first one → now ≡ behind_pieces is_first one
    → IsName old now (Ok (owned_atom text)) was said
escaped-text old one now is_first run text was said moved r opens f v s m =
    let whole = whole-text old one run was moved r in
    record {
      value = owned-value (as_ending (ending_from true old)) (end_from word_cutter true old) (pieces word_cutter true (rest old)) text (escaped-some old one moved opens) (v ∙ ap (λ b. text_from b run one) f ∙ whole.0);
      faults = s ∙ ap (λ b. was ++ faults_from word_cutter b one) f ∙ whole.1;
      moved = m ∙ ap (λ b. behind_pieces b one) f ∙ whole.2;
    }

pub bad-text : (old one now : Cursor) (is_first : Bool) (run : List ℕ) (was said : List Fault) (error : ErrorView) → one ≡ passed (prefix_len is_ident_part (rest old)) old
    → run ≡ encode_utf8_all (take (prefix_len is_ident_part (rest old)) (rest old)) → is_first ≡ is_first_behind old
    → Err error ≡ text_from is_first run one → said ≡ was ++ faults_from word_cutter is_first one → now ≡ behind_pieces is_first one
    → IsName old now (Err error) was said
bad-text old one now is_first run was said error moved r f v s m =
    let whole = whole-text old one run was moved r in
    record {
      value = refused-value (as_ending (ending_from true old)) (end_from word_cutter true old) _ _ error (v ∙ ap (λ b. text_from b run one) f ∙ whole.0);
      faults = s ∙ ap (λ b. was ++ faults_from word_cutter b one) f ∙ whole.1;
      moved = m ∙ ap (λ b. behind_pieces b one) f ∙ whole.2;
    }

-- a borrowed text comes only where no escape stands behind the run
pub not-borrowed : (old one : Cursor) (atom : AtomView) → one ≡ passed (prefix_len is_ident_part (rest old)) old → opens_escape (rest one) ≡ true
    → name_from old ≡ Ok atom → atom.is_borrowed ≡ true → ⊥
not-borrowed old one atom moved opens h b = never-borrowed (as_ending (ending_from true old)) (end_from word_cutter true old) (pieces word_cutter true (rest old)) atom (escaped-some old one moved opens) h b

-- What is found of the name

pub record IsScanned (old now : Cursor) (v : Result AtomView ErrorView) (was said : List Fault) : Type 0 where
  pub value : v ≡ value_behind placeless (place old) (identifier_name (rest old)).value
  pub faults : said ≡ was ++ map (fault_behind (place old)) (identifier_name (rest old)).faults
  pub moved : now ≡ passed (length (identifier_name (rest old)).spelling) old

name-is : (old : Cursor) → identifier_name (rest old) ≡ found_name (pieces word_cutter true (rest old)) (ending_from true old)
name-is old =
    let n = length (spelled word_cutter (pieces word_cutter true (rest old))) in
    ap (λ l. found_name (pieces word_cutter true (rest old)) (word_ending l)) (sym (rest-behind old (passed n old) n refl))

end-place : (old : Cursor) → place (end_from word_cutter true old) ≡ place old + byte_len (spelled word_cutter (pieces word_cutter true (rest old)))
end-place old =
    let xs = spelled word_cutter (pieces word_cutter true (rest old)) in
    let front : take (length xs) (rest old) ≡ xs = ap (take (length xs)) (sym (tiling word_cutter word_is_cutter true (rest old))) ∙ take_at xs _ (length xs) refl in
    place-passed old (end_from word_cutter true old) (length xs) refl ∙ ap (λ s. place old + byte_len s) front

pub name-scanned : (old now : Cursor) (v : Result AtomView ErrorView) (was said : List Fault) → IsName old now v was said → IsScanned old now v was said
name-scanned old now v was said is = record {
  value = is.value ∙ value (ending_from true old) ∙ sym (ap (λ x. value_behind placeless (place old) x.value) (name-is old));
  faults = is.faults ∙ ap (λ l. was ++ l) (shifted ∙ faults (ending_from true old) ∙ sym (ap (λ x. map (fault_behind (place old)) x.faults) (name-is old)));
  moved = is.moved ∙ moved (ending_from true old) ∙ sym (ap (λ x. passed (length x.spelling) old) (name-is old));
}
  where
    ps : List Piece
    ps = pieces word_cutter true (rest old)

    end : Cursor
    end = end_from word_cutter true old

    shifted : faults_of (place old) ps ≡ map (fault_behind (place old)) (faults_of 0 ps)
    shifted = ap (λ n. faults_of n ps) (let same : place old ≡ place old + 0 = omega arith in same) ∙ sym (faults-shifted (place old) 0 ps)

    value : (e : WordEnding) → unless_refused (as_ending e) end (atom_of ps) ≡ value_behind placeless (place old) (found_name ps e).value
    value Ended = refl
    value (BadEscape spelling error) = ap (λ x. Err x) (sym (error-shifted (place old) (byte_len (spelled word_cutter ps)) (place end) error (sym (end-place old))))

    faults : (e : WordEnding) → map (fault_behind (place old)) (faults_of 0 ps) ≡ map (fault_behind (place old)) (found_name ps e).faults
    faults Ended = refl
    faults (BadEscape spelling error) = refl

    moved : (e : WordEnding) → behind_refused (as_ending e) end ≡ passed (length (found_name ps e).spelling) old
    moved Ended = refl
    moved (BadEscape spelling error) = sym (passed-later-by old _ (length spelling) (length (spelled word_cutter ps)) (length-append (spelled word_cutter ps) spelling))

pub name-free : (old : Cursor) (text : AtomView) → (identifier_name (rest old)).value ≡ Ok text → name_from old ≡ Ok text
name-free old text h = go (ending_from true old) (sym (ap (λ x. x.value) (name-is old)) ∙ h)
  where
    go : (e : WordEnding) → (found_name (pieces word_cutter true (rest old)) e).value ≡ Ok text → unless_refused (as_ending e) (end_from word_cutter true old) (atom_of (pieces word_cutter true (rest old))) ≡ Ok text
    go Ended h = h
    go (BadEscape spelling error) h = cc

name-take : (text : Text) → take (length (identifier_name text).spelling) text ≡ (identifier_name text).spelling
name-take text =
    let s = (identifier_name text).spelling in
    let front = name_front text in
    ap (take (length s)) (sym front.1) ∙ take_at s front.0 (length s) refl

pub no-break : (old : Cursor) → (identifier_name (rest old)).line_break ≡ false
no-break old = ap (λ x. x.line_break) (name-is old) ∙ go (ending_from true old)
  where
    go : (e : WordEnding) → (found_name (pieces word_cutter true (rest old)) e).line_break ≡ false
    go Ended = refl
    go (BadEscape spelling error) = refl

pub name-found : (old now : Cursor) (v : Result AtomView ErrorView) (said new : List Fault) (span : Span) (lo hi : ℕ) → IsScanned old now v said new → said ≡ []
    → span ≡ span_of lo hi → lo ≡ place old → hi ≡ place now
    → let found : FoundView AtomView = record { value = v; faults = new; extent = span; line_break = false } in found ≡ found_at placeless (place old) (identifier_name (rest old))
name-found old now v said new span lo hi is none s l h =
    let p = place old in
    let x = identifier_name (rest old) in
    let there : place now ≡ p + byte_len x.spelling = place-passed old now _ is.moved ∙ ap (λ t. p + byte_len t) (name-take (rest old)) in
    let faults : new ≡ map (fault_behind p) x.faults = is.faults ∙ ap (λ l. l ++ map (fault_behind p) x.faults) none in
    let found : Result AtomView ErrorView → List Fault → Span → Bool → FoundView AtomView = λ a b d e. record { value = a; faults = b; extent = d; line_break = e } in
    ap (λ a. found a new span false) is.value ∙ ap (λ b. found (value_behind placeless p x.value) b span false) faults
    ∙ ap (λ d. found (value_behind placeless p x.value) (map (fault_behind p) x.faults) d false) (s ∙ ap (λ a. span_of a hi) l ∙ ap (λ b. span_of p b) (h ∙ there))
    ∙ ap (λ e. found (value_behind placeless p x.value) (map (fault_behind p) x.faults) (span_of p (p + byte_len x.spelling)) e) (sym (no-break old))
