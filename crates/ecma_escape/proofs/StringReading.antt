-- A string, as its reader finds it piece by piece.
use Rattle.std.proofs.Common.{◌≡◌, ℕ, ◌<◌, Bool, true, false, cond, not, ◌||◌, ◌==◌, List, [], ◌∷◌, ◌++◌, length, map, take, drop, refl, sym, ap, subst, ◌∙◌, arith, append-nil, inl, inr, ◌⊎◌, encode_utf8_all, Some, None, Result, Ok, Err}
use Rattle.std.specs.Prelude.{option_map}
use Rattle.std.specs.List.{prefix_len, list_any}
use Rattle.ecma_place.specs.Text.{Text}
use Rattle.ecma_place.specs.Atom.{AtomView, owned_atom, borrowed_atom}
use Rattle.ecma_place.specs.Character.{is_line_break}
use Rattle.ecma_place.specs.Cursor.{Cursor, rest, place, passed}
use Rattle.ecma_place.specs.Run.{is_in_class, quote_byte}
use Rattle.ecma_place.specs.declared.run.Quote.{Quote as Mark}
use Rattle.ecma_place.specs.declared.run.Quote.TheVariants.{Single, Double}
use Rattle.ecma_place.specs.declared.run.ByteClass.TheVariants as class
use Rattle.ecma_token.specs.View.{ErrorView}
use Rattle.ecma_grammar.specs.Found.{Fault, error_behind, fault_behind}
use Rattle.ecma_grammar.specs.Pieces.{pieces}
use Rattle.ecma_grammar.specs.Escapes.{Escape, Accepted, Refused, InString, escape, escape_spelling, escape_value, escape_faults, escape_refusal}
use Rattle.ecma_escape.specs.EscapeMeanings.{opens_escape}
use Rattle.ecma_grammar.specs.Strings.{Piece, Plain, Escaped, is_escaped, value_of, atom_of, escaped_piece, Role, Quote, Backslash, Break, Itself, role, piece_of, string_piece, Ending, Closed, Unclosed, BadEscape, bad_escape_ending, ending_of, ending}
use Rattle.ecma_escape.specs.PieceParts.{values_from, faults_from, end_from, quoted, unless_refused, behind_refused, ending_from, text_from, atom_from, behind_pieces}
use Rattle.ecma_grammar.proofs.EscapeLaws.{begins_is, escape_some}
use Rattle.ecma_escape.proofs.StringLaws.{string_is_cutter}
use Rattle.ecma_grammar.proofs.PieceLemmas.{pieces_none, pieces_more}
use Rattle.ecma_escape.proofs.PieceReading.{IsOnPieces, IsPlain, on-start, on-stop, on-step, on-plain, plain-from, plain-escaped, rest-less, no-run, run-stops}

-- what a character of the class does, and one that is not

plain-role : (quote : Mark) (c : ℕ) → is_in_class (class.Plain quote) c ≡ true → role (quote_byte quote) c ≡ Itself
unfolding is_line_break
plain-role quote c h = go (c == quote_byte quote) (c == 92) (c == 13) (c == 10) h
  where
    go : (x y z w : Bool) → not (((x || y) || z) || w) ≡ true → cond x Quote (cond y Backslash (cond (z || w) Break Itself)) ≡ Itself
    go true y z w h = cc
    go false true z w h = cc
    go false false true w h = cc
    go false false false true h = cc
    go false false false false h = refl

-- no piece begins, and no escape is refused
abbrev pub is_bad : Ending → Bool
is_bad Closed = false
is_bad Unclosed = false
is_bad (BadEscape spelling error) = true

abbrev Stops : Role → Type 0
Stops r = (c : ℕ) (cs : Text) → (piece_of r (c ∷ cs) ≡ None) × (is_bad (ending_of r (c ∷ cs)) ≡ false)

stop-role : (quote : Mark) (c : ℕ) → is_in_class (class.Plain quote) c ≡ false → (c == 92) ≡ false → Stops (role (quote_byte quote) c)
unfolding is_line_break
stop-role quote c h e = go (c == quote_byte quote) (c == 92) (c == 13) (c == 10) h e
  where
    go : (x y z w : Bool) → not (((x || y) || z) || w) ≡ false → y ≡ false → Stops (cond x Quote (cond y Backslash (cond (z || w) Break Itself)))
    go true y z w h e = λ c cs. (refl, refl)
    go false true z w h e = cc
    go false false true w h e = λ c cs. (refl, refl)
    go false false false true h e = λ c cs. (refl, refl)
    go false false false false h e = cc

-- neither a character that stands for itself nor a backslash begins a piece
pub stopped : (quote : Mark) (text : Text) → prefix_len (is_in_class (class.Plain quote)) text ≡ 0 → opens_escape text ≡ false
    → (string_piece (quote_byte quote) text ≡ None) × (is_bad (ending (quote_byte quote) text) ≡ false)
stopped quote [] h e = (refl, refl)
stopped quote (c ∷ cs) h e = stop-role quote c (no-run (is_in_class (class.Plain quote)) c cs h) e c cs

pub accepts : {A : Type 0} (e : Ending) (end : Cursor) (value : A) → is_bad e ≡ false → unless_refused e end value ≡ Ok value
accepts Closed end value h = refl
accepts Unclosed end value h = refl
accepts (BadEscape spelling error) end value h = cc

pub stays : (e : Ending) (end : Cursor) → is_bad e ≡ false → behind_refused e end ≡ end
stays Closed end h = refl
stays Unclosed end h = refl
stays (BadEscape spelling error) end h = cc

-- at a backslash

escape-role : (quote : Mark) → role (quote_byte quote) 92 ≡ Backslash
escape-role Single = refl
escape-role Double = refl

pub at-escape : (quote : Mark) (text : Text) → opens_escape text ≡ true
    → (string_piece (quote_byte quote) text ≡ escaped_piece (escape InString text)) × (ending (quote_byte quote) text ≡ bad_escape_ending (escape InString text))
at-escape quote text opens = subst (λ t. (string_piece (quote_byte quote) t ≡ escaped_piece (escape InString t)) × (ending (quote_byte quote) t ≡ bad_escape_ending (escape InString t)))
    (sym (begins_is 92 text opens)) (
      ap (λ r. piece_of r (92 ∷ drop 1 text)) (escape-role quote),
      ap (λ r. ending_of r (92 ∷ drop 1 text)) (escape-role quote),
    )

pub is-plain : (quote : Mark) → IsPlain {S = Unit {0}} (λ _ text. string_piece (quote_byte quote) text) (λ s _. s) (is_in_class (class.Plain quote)) (tt {0})
is-plain quote = record {
  reads = λ s c cs h. ap (λ r. piece_of r (c ∷ cs)) (plain-role quote c h);
  leads = λ s c. refl;
}

abbrev pub IsOnString : Mark → Cursor → Cursor → List ℕ → List ℕ → List Fault → List Fault → Type 0
IsOnString quote old now before text was said = IsOnPieces (quoted quote) tt tt old now before text was said

-- behind an escape and the run that follows it
pub string-turn : (quote : Mark) (old now one far : Cursor) (before text more run : List ℕ) (was said new : List Fault)
    → IsOnString quote old now before text was said → opens_escape (rest now) ≡ true → None ≡ option_map (error_behind (place now)) (escape_refusal (escape InString (rest now)))
    → one ≡ passed (length (escape_spelling (escape InString (rest now)))) now → more ≡ text ++ encode_utf8_all (escape_value (escape InString (rest now)))
    → new ≡ said ++ map (fault_behind (place now)) (escape_faults (escape InString (rest now)))
    → far ≡ passed (prefix_len (is_in_class (class.Plain quote)) (rest one)) one
    → run ≡ more ++ encode_utf8_all (take (prefix_len (is_in_class (class.Plain quote)) (rest one)) (rest one))
    → IsOnString quote old far before run was new
string-turn quote old now one far before text more run was said new on opens accepted moved m n onward r =
    go (escape InString (rest now)) (at-escape quote (rest now) opens).0 accepted moved m n
  where
    go : (e : Escape) → string_piece (quote_byte quote) (rest now) ≡ escaped_piece e → None ≡ option_map (error_behind (place now)) (escape_refusal e) → one ≡ passed (length (escape_spelling e)) now
        → more ≡ text ++ encode_utf8_all (escape_value e) → new ≡ said ++ map (fault_behind (place now)) (escape_faults e) → IsOnString quote old far before run was new
    go (Refused spelling error) piece a moved m n = cc
    go (Accepted spelling value faults) piece a moved m n =
        let behind = on-step (λ _ text. string_piece (quote_byte quote) text) (λ s _. s) (string_is_cutter (quote_byte quote)) tt tt old now one before text more was said new (Escaped spelling value faults) on piece moved m n in
        on-plain (λ _ text. string_piece (quote_byte quote) text) (λ s _. s) (is_in_class (class.Plain quote)) tt (string_is_cutter (quote_byte quote)) (is-plain quote) tt tt old one far before more run was new behind onward r

pub turn-less : (p : ℕ → Bool) (now one far : Cursor) → opens_escape (rest now) ≡ true → one ≡ passed (length (escape_spelling (escape InString (rest now)))) now → far ≡ passed (prefix_len p (rest one)) one
    → length (rest far) < length (rest now)
turn-less p now one far opens moved onward =
    let left : 0 < length (rest now) = omega (arith, ap length (begins_is 92 (rest now) opens)) in
    rest-less now one far _ _ moved onward (escape_some InString (drop 1 (rest now))) left

-- The end of the pieces

-- what is answered of the pieces, where reading goes on, and what is said
pub record IsText (quote : Mark) (before : List ℕ) (old now : Cursor) (v : Result (List ℕ) ErrorView) (was said : List Fault) : Type 0 where
  pub value : v ≡ text_from quote before old
  pub faults : said ≡ was ++ faults_from (quoted quote) tt old
  pub moved : now ≡ behind_pieces quote old

pub text-ended : (quote : Mark) (old now : Cursor) (before text : List ℕ) (was said : List Fault) → IsOnString quote old now before text was said
    → prefix_len (is_in_class (class.Plain quote)) (rest now) ≡ 0 → opens_escape (rest now) ≡ false → IsText quote before old now (Ok text) was said
text-ended quote old now before text was said on run not =
    let stop = stopped quote (rest now) run not in
    let all = on-stop (quoted quote) tt tt old now before text was said on stop.0 in
    let whole : List ℕ = before ++ values_from (quoted quote) tt old in
    record {
      value = ap (λ l. Ok l) all.0 ∙ sym (accepts (ending (quote_byte quote) (rest now)) now whole stop.1) ∙ ap (λ end. unless_refused (ending (quote_byte quote) (rest end)) end whole) all.2;
      faults = all.1;
      moved = sym (stays (ending (quote_byte quote) (rest now)) now stop.1) ∙ ap (λ end. behind_refused (ending (quote_byte quote) (rest end)) end) all.2;
    }

pub text-refused : (quote : Mark) (old now far : Cursor) (before text : List ℕ) (was said new : List Fault) (v : ErrorView) → IsOnString quote old now before text was said
    → opens_escape (rest now) ≡ true → Some v ≡ option_map (error_behind (place now)) (escape_refusal (escape InString (rest now)))
    → far ≡ passed (length (escape_spelling (escape InString (rest now)))) now → new ≡ said ++ map (fault_behind (place now)) (escape_faults (escape InString (rest now)))
    → IsText quote before old far (Err v) was new
text-refused quote old now far before text was said new v on opens refusal moved n =
    go (escape InString (rest now)) (at-escape quote (rest now) opens) refusal moved n
  where
    go : (e : Escape) → (string_piece (quote_byte quote) (rest now) ≡ escaped_piece e) × (ending (quote_byte quote) (rest now) ≡ bad_escape_ending e) → Some v ≡ option_map (error_behind (place now)) (escape_refusal e)
        → far ≡ passed (length (escape_spelling e)) now → new ≡ said ++ map (fault_behind (place now)) (escape_faults e) → IsText quote before old far (Err v) was new
    go (Accepted spelling value faults) at refusal moved n = cc
    go (Refused spelling error) at refusal moved n =
        let all = on-stop (quoted quote) tt tt old now before text was said on at.0 in
        let whole : List ℕ = before ++ values_from (quoted quote) tt old in
        let same : v ≡ error_behind (place now) error = cc in
        record {
          value = ap (λ x. Err x) same ∙ ap (λ e. unless_refused e now whole) (sym at.1) ∙ ap (λ end. unless_refused (ending (quote_byte quote) (rest end)) end whole) all.2;
          faults = n ∙ append-nil said ∙ all.1;
          moved = moved ∙ ap (λ e. behind_refused e now) (sym at.1) ∙ ap (λ end. behind_refused (ending (quote_byte quote) (rest end)) end) all.2;
        }

-- The value of the pieces, by the run with which they begin

-- what is answered, as above
pub record IsValue (quote : Mark) (old now : Cursor) (v : Result AtomView ErrorView) (was said : List Fault) : Type 0 where
  pub value : v ≡ atom_from quote old
  pub faults : said ≡ was ++ faults_from (quoted quote) tt old
  pub moved : now ≡ behind_pieces quote old

-- the pieces behind a run
run-pieces : (quote : Mark) (old one : Cursor) → one ≡ passed (prefix_len (is_in_class (class.Plain quote)) (rest old)) old
    → pieces (quoted quote) tt (rest old) ≡ map Plain (take (prefix_len (is_in_class (class.Plain quote)) (rest old)) (rest old)) ++ pieces (quoted quote) tt (rest one)
run-pieces quote old one moved = plain-from {S = Unit {0}} (λ _ text. string_piece (quote_byte quote) text) (λ s _. s) (is_in_class (class.Plain quote)) (tt {0}) (string_is_cutter (quote_byte quote)) (is-plain quote) (tt {0}) old one moved

on-run : (quote : Mark) (old one : Cursor) (run : List ℕ) (was : List Fault) → one ≡ passed (prefix_len (is_in_class (class.Plain quote)) (rest old)) old
    → run ≡ encode_utf8_all (take (prefix_len (is_in_class (class.Plain quote)) (rest old)) (rest old)) → IsOnString quote old one [] run was was
on-run quote old one run was moved r =
    on-plain {S = Unit {0}} (λ _ text. string_piece (quote_byte quote) text) (λ s _. s) (is_in_class (class.Plain quote)) (tt {0}) (string_is_cutter (quote_byte quote)) (is-plain quote) (tt {0}) (tt {0}) old old one [] [] run was was
    (on-start (quoted quote) tt old [] was) moved r

pub borrowed-atom : (ps : List Piece) (b : Bool) → list_any is_escaped ps ≡ b → atom_of ps ≡ cond b (owned_atom (encode_utf8_all (value_of ps))) (borrowed_atom (encode_utf8_all (value_of ps)))
borrowed-atom ps b e = rw e refl

-- a string without an escape
pub plain-value : (quote : Mark) (old one : Cursor) (run : List ℕ) (was : List Fault) → one ≡ passed (prefix_len (is_in_class (class.Plain quote)) (rest old)) old
    → run ≡ encode_utf8_all (take (prefix_len (is_in_class (class.Plain quote)) (rest old)) (rest old)) → opens_escape (rest one) ≡ false
    → IsValue quote old one (Ok (borrowed_atom run)) was was
plain-value quote old one run was moved r not =
    let p = is_in_class (class.Plain quote) in
    let xs = take (prefix_len p (rest old)) (rest old) in
    let ended = text-ended quote old one [] run was was (on-run quote old one run was moved r) (run-stops p old one moved) not in
    let stop = stopped quote (rest one) (run-stops p old one moved) not in
    let all = on-stop (quoted quote) tt tt old one [] run was was (on-run quote old one run was moved r) stop.0 in
    let none : pieces (quoted quote) tt (rest old) ≡ map Plain xs ++ [] =
    run-pieces quote old one moved ∙ ap (λ l. map Plain xs ++ l) (pieces_none (quoted quote) tt (rest one) stop.0) in
    let unescaped : list_any is_escaped (pieces (quoted quote) tt (rest old)) ≡ false = ap (list_any is_escaped) none ∙ plain-escaped xs [] in
    let atom : borrowed_atom run ≡ atom_of (pieces (quoted quote) tt (rest old)) = ap borrowed_atom all.0 ∙ sym (borrowed-atom (pieces (quoted quote) tt (rest old)) false unescaped) in
    record {
      value = ap (λ a. Ok a) atom ∙ sym (accepts (ending (quote_byte quote) (rest one)) one _ stop.1) ∙ ap (λ end. unless_refused (ending (quote_byte quote) (rest end)) end (atom_of (pieces (quoted quote) tt (rest old)))) all.2;
      faults = ended.faults;
      moved = ended.moved;
    }

-- an escape that is accepted behind the run owns the value, and one that is refused refuses it
escaped-some : (quote : Mark) (old one : Cursor) → one ≡ passed (prefix_len (is_in_class (class.Plain quote)) (rest old)) old → opens_escape (rest one) ≡ true
    → (list_any is_escaped (pieces (quoted quote) tt (rest old)) ≡ true) ⊎ (is_bad (ending_from quote old) ≡ true)
escaped-some quote old one moved opens = go (escape InString (rest one)) (at-escape quote (rest one) opens)
  where
    p : ℕ → Bool
    p = is_in_class (class.Plain quote)

    xs : Text
    xs = take (prefix_len p (rest old)) (rest old)

    go : (e : Escape) → (string_piece (quote_byte quote) (rest one) ≡ escaped_piece e) × (ending (quote_byte quote) (rest one) ≡ bad_escape_ending e)
        → (list_any is_escaped (pieces (quoted quote) tt (rest old)) ≡ true) ⊎ (is_bad (ending_from quote old) ≡ true)
    go (Accepted spelling value faults) at =
        inl (ap (list_any is_escaped) (run-pieces quote old one moved) ∙ plain-escaped xs (pieces (quoted quote) tt (rest one))
        ∙ ap (list_any is_escaped) (pieces_more (quoted quote) (string_is_cutter (quote_byte quote)) tt (rest one) (Escaped spelling value faults) at.0))
    go (Refused spelling error) at =
        let all = on-stop (quoted quote) tt tt old one [] _ [] [] (on-run quote old one _ [] moved refl) at.0 in
        inr (sym (ap (λ end. is_bad (ending (quote_byte quote) (rest end))) all.2) ∙ ap is_bad at.1)

-- what is answered of the rest is what is answered of all
whole-text : (quote : Mark) (old one : Cursor) (run : List ℕ) (was : List Fault) → one ≡ passed (prefix_len (is_in_class (class.Plain quote)) (rest old)) old
    → run ≡ encode_utf8_all (take (prefix_len (is_in_class (class.Plain quote)) (rest old)) (rest old))
    → (text_from quote run one ≡ text_from quote [] old) × (was ++ faults_from (quoted quote) tt one ≡ was ++ faults_from (quoted quote) tt old) × (behind_pieces quote one ≡ behind_pieces quote old)
whole-text quote old one run was moved r =
    let on = on-run quote old one run was moved r in (
      ap (λ end. unless_refused (ending (quote_byte quote) (rest end)) end (run ++ values_from (quoted quote) tt one)) on.end
          ∙ ap (λ l. unless_refused (ending_from quote old) (end_from (quoted quote) tt old) l) on.values,
      on.faults,
      ap (λ end. behind_refused (ending (quote_byte quote) (rest end)) end) on.end,
    )

pub owned-value : (e : Ending) (end : Cursor) (ps : List Piece) (text : List ℕ) → (list_any is_escaped ps ≡ true) ⊎ (is_bad e ≡ true)
    → Ok text ≡ unless_refused e end (encode_utf8_all (value_of ps)) → Ok (owned_atom text) ≡ unless_refused e end (atom_of ps)
owned-value Closed end ps text (inl some) h = let same : text ≡ encode_utf8_all (value_of ps) = cc in ap (λ a. Ok a) (ap owned_atom same ∙ sym (borrowed-atom ps true some))
owned-value Unclosed end ps text (inl some) h = let same : text ≡ encode_utf8_all (value_of ps) = cc in ap (λ a. Ok a) (ap owned_atom same ∙ sym (borrowed-atom ps true some))
owned-value Closed end ps text (inr bad) h = cc
owned-value Unclosed end ps text (inr bad) h = cc
owned-value (BadEscape spelling error) end ps text some h = cc

pub refused-value : {A B : Type 0} (e : Ending) (end : Cursor) (a : A) (b : B) (v : ErrorView) → Err v ≡ unless_refused e end a → Err v ≡ unless_refused e end b
refused-value Closed end a b v h = cc
refused-value Unclosed end a b v h = cc
refused-value (BadEscape spelling error) end a b v h = let same : v ≡ error_behind (place end) error = cc in ap (λ x. Err x) same

pub escaped-value : (quote : Mark) (old one now : Cursor) (run text : List ℕ) (was said : List Fault) → one ≡ passed (prefix_len (is_in_class (class.Plain quote)) (rest old)) old
    → run ≡ encode_utf8_all (take (prefix_len (is_in_class (class.Plain quote)) (rest old)) (rest old)) → opens_escape (rest one) ≡ true
    → Ok text ≡ text_from quote run one → said ≡ was ++ faults_from (quoted quote) tt one → now ≡ behind_pieces quote one
    → IsValue quote old now (Ok (owned_atom text)) was said
escaped-value quote old one now run text was said moved r opens v s m =
    let whole = whole-text quote old one run was moved r in
    record {
      value = owned-value (ending_from quote old) (end_from (quoted quote) tt old) (pieces (quoted quote) tt (rest old)) text (escaped-some quote old one moved opens) (v ∙ whole.0);
      faults = s ∙ whole.1;
      moved = m ∙ whole.2;
    }

pub bad-value : (quote : Mark) (old one now : Cursor) (run : List ℕ) (was said : List Fault) (error : ErrorView) → one ≡ passed (prefix_len (is_in_class (class.Plain quote)) (rest old)) old
    → run ≡ encode_utf8_all (take (prefix_len (is_in_class (class.Plain quote)) (rest old)) (rest old))
    → Err error ≡ text_from quote run one → said ≡ was ++ faults_from (quoted quote) tt one → now ≡ behind_pieces quote one
    → IsValue quote old now (Err error) was said
bad-value quote old one now run was said error moved r v s m =
    let whole = whole-text quote old one run was moved r in
    record {
      value = refused-value (ending_from quote old) (end_from (quoted quote) tt old) _ _ error (v ∙ whole.0);
      faults = s ∙ whole.1;
      moved = m ∙ whole.2;
    }

-- a borrowed value comes only where no escape stands among the pieces or at their end
pub never-borrowed : (e : Ending) (end : Cursor) (ps : List Piece) (atom : AtomView) → (list_any is_escaped ps ≡ true) ⊎ (is_bad e ≡ true)
    → unless_refused e end (atom_of ps) ≡ Ok atom → atom.is_borrowed ≡ true → ⊥
never-borrowed e end ps atom some h b = go e some h
  where
    owned : list_any is_escaped ps ≡ true → atom_of ps ≡ atom → ⊥
    owned some h =
        let same : false ≡ true = ap (λ a. a.is_borrowed) (sym (borrowed-atom ps true some) ∙ h) ∙ b in
        cc

    go : (e : Ending) → (list_any is_escaped ps ≡ true) ⊎ (is_bad e ≡ true) → unless_refused e end (atom_of ps) ≡ Ok atom → ⊥
    go Closed (inl some) h = owned some (let same : atom_of ps ≡ atom = cc in same)
    go Unclosed (inl some) h = owned some (let same : atom_of ps ≡ atom = cc in same)
    go Closed (inr bad) h = cc
    go Unclosed (inr bad) h = cc
    go (BadEscape spelling error) some h = cc

-- so none where one stands behind the run
pub not-borrowed : (quote : Mark) (old one : Cursor) (atom : AtomView) → one ≡ passed (prefix_len (is_in_class (class.Plain quote)) (rest old)) old → opens_escape (rest one) ≡ true
    → atom_from quote old ≡ Ok atom → atom.is_borrowed ≡ true → ⊥
not-borrowed quote old one atom moved opens h b = never-borrowed (ending_from quote old) (end_from (quoted quote) tt old) (pieces (quoted quote) tt (rest old)) atom (escaped-some quote old one moved opens) h b
