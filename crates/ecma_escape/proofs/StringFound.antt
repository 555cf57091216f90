-- A string, by its pieces and its end, as its reader finds it at a place.
use Rattle.std.proofs.Common.{◌≡◌, ℕ, ◌+◌, ◌≤◌, Bool, true, false, cond, ◌==◌, List, [], ◌∷◌, ◌++◌, length, map, take, take_at, refl, sym, ap, subst, ◌∙◌, arith, append_assoc, append-nil, length-append, encode_utf8_all, Some, Result, Ok, Err, slice_get, slice_range}
use Rattle.std.proofs.lemmas.Bool.{and_parts}
use Rattle.std.proofs.lemmas.List.{map-append}
use Rattle.std.proofs.lemmas.Str.{encode_ascii}
use Rattle.ecma_place.specs.Text.{Text, byte_len}
use Rattle.ecma_place.specs.Atom.{AtomView, borrowed_atom}
use Rattle.ecma_place.specs.Character.{is_line_break}
use Rattle.ecma_place.specs.Cursor.{Cursor, rest, place, passed, index_of}
use Rattle.ecma_place.specs.Run.{quote_byte}
use Rattle.ecma_place.specs.declared.place.Span.{Span}
use Rattle.ecma_place.specs.declared.run.Quote.{Quote as Mark}
use Rattle.ecma_place.specs.declared.run.Quote.TheVariants.{Single, Double}
use Rattle.ecma_place.proofs.MoveLemmas.{place-passed}
use Rattle.ecma_place.proofs.RunLemmas.{first-cons, passed-later-by, text-passed}
use Rattle.ecma_token.specs.View.{ErrorView, TokenView, plain_token, plain_kind, owns_nothing}
use Rattle.ecma_token.specs.declared.token.Token.{Str}
use Rattle.ecma_token.specs.declared.error.SyntaxError.{UnterminatedStrLit}
use Rattle.ecma_grammar.specs.declared.found.Blame.TheVariants.{Always}
use Rattle.ecma_grammar.specs.Found.{Fault, FoundView, Scanned, error_behind, fault_behind, token_behind, value_behind, found_at, span_of, error_over}
use Rattle.ecma_grammar.specs.Fronts.{next_is}
use Rattle.ecma_grammar.specs.Pieces.{pieces, spelled, remainder}
use Rattle.ecma_grammar.specs.Escapes.{Escape, Accepted, Refused, InString, escape}
use Rattle.ecma_grammar.specs.Strings.{Piece, piece_text, piece_faults, faults_of, atom_of, Quote, Backslash, Break, Itself, Ending, Closed, Unclosed, BadEscape, bad_escape_ending, ending_of, ending, found_string, string_cutter, string_pieces, string_literal, string_token}
use Rattle.ecma_escape.specs.PieceParts.{faults_from, end_from, quoted, unless_refused, behind_refused, ending_from, atom_from, behind_pieces, closing_faults}
use Rattle.ecma_grammar.proofs.PartFaults.{all_shifted}
use Rattle.ecma_grammar.proofs.PieceLemmas.{tiling}
use Rattle.ecma_grammar.proofs.SignLemmas.{rest-behind}
use Rattle.ecma_escape.proofs.StringLaws.{string_is_cutter, string_front}
use Rattle.ecma_escape.proofs.StringReading.{is_bad, stays}

-- Errors and faults from another place on

pub error-shifted : (m n k : ℕ) (e : ErrorView) → m + n ≡ k → error_behind m (error_behind n e) ≡ error_behind k e
error-shifted m n k e sum =
    let low : m + (n + e.span.lo.0) ≡ k + e.span.lo.0 = omega arith in
    let high : m + (n + e.span.hi.0) ≡ k + e.span.hi.0 = omega arith in
    let error : ℕ → ℕ → ErrorView = λ (a b : ℕ). record { kind = e.kind; span = span_of a b } in
    ap (λ (a : ℕ). error a (m + (n + e.span.hi.0))) low ∙ ap (λ (b : ℕ). error (k + e.span.lo.0) b) high

pub faults-shifted : (m n : ℕ) (ps : List Piece) → map (fault_behind m) (faults_of n ps) ≡ faults_of (m + n) ps
faults-shifted m n [] = refl
faults-shifted m n (piece ∷ more) =
    let k : ℕ = byte_len (piece_text piece) in
    map-append (fault_behind m) (map (fault_behind n) (piece_faults piece)) (faults_of (n + k) more)
    ∙ ap (λ l. l ++ map (fault_behind m) (faults_of (n + k) more)) (all_shifted m n (m + n) (piece_faults piece) refl)
    ∙ ap (λ l. map (fault_behind (m + n)) (piece_faults piece) ++ l) (faults-shifted m (n + k) more ∙ ap (λ j. faults_of j more) (let same : m + (n + k) ≡ m + n + k = omega arith in same))

-- The opening quote and the pieces

abbrev pieces_of : Mark → Cursor → List Piece
pieces_of quote c = pieces (quoted quote) tt (rest c)

abbrev opened : Mark → Cursor → Text
opened quote c = quote_byte quote ∷ spelled (quoted quote) (pieces_of quote c)

one-byte : (quote : Mark) (cs : Text) → byte_len (quote_byte quote ∷ cs) ≡ 1 + byte_len cs
one-byte Single cs = ap (λ bytes. length (bytes ++ encode_utf8_all cs)) (encode_ascii 39 (omega arith)) ∙ omega arith
one-byte Double cs = ap (λ bytes. length (bytes ++ encode_utf8_all cs)) (encode_ascii 34 (omega arith)) ∙ omega arith

behind-quote : (quote : Mark) (old one : Cursor) → slice_get (rest old) 0 ≡ Some (quote_byte quote) → one ≡ passed 1 old → place one ≡ place old + 1
behind-quote quote old one first moved =
    let front : take 1 (rest old) ≡ quote_byte quote ∷ [] = ap (take 1) (first-cons (rest old) (quote_byte quote) first) in
    place-passed old one 1 moved ∙ ap (λ s. place old + byte_len s) front ∙ ap (λ n. place old + n) (one-byte quote [])

end-place : (quote : Mark) (old one : Cursor) → slice_get (rest old) 0 ≡ Some (quote_byte quote) → one ≡ passed 1 old
    → place (end_from (quoted quote) tt one) ≡ place old + byte_len (opened quote one)
end-place quote old one first moved =
    let xs = spelled (quoted quote) (pieces_of quote one) in
    let front : take (length xs) (rest one) ≡ xs =
    ap (take (length xs)) (sym (tiling (quoted quote) (string_is_cutter (quote_byte quote)) tt (rest one))) ∙ take_at xs _ (length xs) refl in
    let there = place-passed one (end_from (quoted quote) tt one) (length xs) refl ∙ ap (λ s. place one + byte_len s) front in
    omega (arith, there, behind-quote quote old one first moved, one-byte quote xs)

end-moved : (quote : Mark) (old one : Cursor) → one ≡ passed 1 old → end_from (quoted quote) tt one ≡ passed (length (opened quote one)) old
end-moved quote old one moved =
    let xs = spelled (quoted quote) (pieces_of quote one) in
    ap (passed (length xs)) moved ∙ sym (passed-later-by old (length (opened quote one)) (length xs) 1 (let same : length (opened quote one) ≡ 1 + length xs = omega arith in same))

literal-is : (quote : Mark) (old one : Cursor) → slice_get (rest old) 0 ≡ Some (quote_byte quote) → one ≡ passed 1 old
    → string_literal (rest old) ≡ found_string (quote_byte quote) (opened quote one) (pieces_of quote one) (ending_from quote one)
literal-is quote old one first moved =
    let text : rest old ≡ quote_byte quote ∷ rest one = first-cons (rest old) (quote_byte quote) first ∙ ap (λ l. quote_byte quote ∷ l) (sym (rest-behind old one 1 moved)) in
    let n = length (spelled (quoted quote) (pieces_of quote one)) in
    ap string_literal text
    ∙ ap (λ l. found_string (quote_byte quote) (opened quote one) (pieces_of quote one) (ending (quote_byte quote) l)) (sym (rest-behind one (passed n one) n refl))

-- What is found

pub record IsScanned (s : Scanned TokenView) (old now : Cursor) (v : Result TokenView ErrorView) (was said : List Fault) : Type 0 where
  pub value : v ≡ value_behind token_behind (place old) s.value
  pub faults : said ≡ was ++ map (fault_behind (place old)) s.faults
  pub moved : now ≡ passed (length s.spelling) old

said-before : (quote : Mark) (old one : Cursor) → slice_get (rest old) 0 ≡ Some (quote_byte quote) → one ≡ passed 1 old
    → faults_from (quoted quote) tt one ≡ map (fault_behind (place old)) (faults_of 1 (pieces_of quote one))
said-before quote old one first moved = ap (λ n. faults_of n (pieces_of quote one)) (behind-quote quote old one first moved) ∙ sym (faults-shifted (place old) 1 (pieces_of quote one))

pub literal-refused : (quote : Mark) (old one now : Cursor) (error : ErrorView) (was said : List Fault) → slice_get (rest old) 0 ≡ Some (quote_byte quote) → one ≡ passed 1 old
    → Err error ≡ atom_from quote one → said ≡ was ++ faults_from (quoted quote) tt one → now ≡ behind_pieces quote one
    → IsScanned (string_literal (rest old)) old now (Err error) was said
literal-refused quote old one now error was said first moved v s m = subst (λ x. IsScanned x old now (Err error) was said) (sym (literal-is quote old one first moved)) (go (ending_from quote one) v m)
  where
    end : Cursor
    end = end_from (quoted quote) tt one

    go : (e : Ending) → Err error ≡ unless_refused e end (atom_of (pieces_of quote one)) → now ≡ behind_refused e end
        → IsScanned (found_string (quote_byte quote) (opened quote one) (pieces_of quote one) e) old now (Err error) was said
    go Closed v m = cc
    go Unclosed v m = cc
    go (BadEscape spelling bad) v m =
        let same : error ≡ error_behind (place end) bad = cc in
        record {
          value = ap (λ x. Err x) (same ∙ sym (error-shifted (place old) (byte_len (opened quote one)) (place end) bad (sym (end-place quote old one first moved))));
          faults = s ∙ ap (λ l. was ++ l) (said-before quote old one first moved);
          moved = m ∙ ap (passed (length spelling)) (end-moved quote old one moved) ∙ sym (passed-later-by old _ (length spelling) (length (opened quote one)) (length-append (opened quote one) spelling));
        }

-- a string whose escapes are accepted is closed where its quote stands behind its pieces
closed-or-not : (quote : Mark) (text : Text) → is_bad (ending (quote_byte quote) text) ≡ false → ending (quote_byte quote) text ≡ cond (next_is (quote_byte quote) text) Closed Unclosed
closed-or-not quote [] h = refl
closed-or-not quote (c ∷ cs) h = go (c == quote_byte quote) (c == 92) (is_line_break c) h
  where
    bad : (e : Escape) → is_bad (bad_escape_ending e) ≡ false → bad_escape_ending e ≡ Unclosed
    bad (Accepted spelling value faults) h = refl
    bad (Refused spelling error) h = cc

    go : (x y z : Bool) → is_bad (ending_of (cond x Quote (cond y Backslash (cond z Break Itself))) (c ∷ cs)) ≡ false
        → ending_of (cond x Quote (cond y Backslash (cond z Break Itself))) (c ∷ cs) ≡ cond x Closed Unclosed
    go true y z h = refl
    go false true z h = bad (escape InString (c ∷ cs)) h
    go false false true h = refl
    go false false false h = refl

accepted-good : {A : Type 0} (e : Ending) (end : Cursor) (a b : A) → Ok a ≡ unless_refused e end b → (is_bad e ≡ false) × (a ≡ b)
accepted-good Closed end a b h = (refl, let same : a ≡ b = cc in same)
accepted-good Unclosed end a b h = (refl, let same : a ≡ b = cc in same)
accepted-good (BadEscape spelling error) end a b h = cc

pub accepted-order : (quote : Mark) (old one now : Cursor) (atom : AtomView) → slice_get (rest old) 0 ≡ Some (quote_byte quote) → one ≡ passed 1 old
    → Ok atom ≡ atom_from quote one → now ≡ behind_pieces quote one → place old ≤ place now
accepted-order quote old one now atom first moved v m =
    let good = accepted-good (ending_from quote one) (end_from (quoted quote) tt one) atom (atom_of (pieces_of quote one)) v in
    let there : place now ≡ place (end_from (quoted quote) tt one) = ap place (m ∙ stays (ending_from quote one) (end_from (quoted quote) tt one) good.0) in
    omega (arith, there, end-place quote old one first moved)

pub literal-accepted : (quote : Mark) (old one now far : Cursor) (atom : AtomView) (was said new : List Fault) (start : ℕ) → slice_get (rest old) 0 ≡ Some (quote_byte quote) → one ≡ passed 1 old
    → Ok atom ≡ atom_from quote one → said ≡ was ++ faults_from (quoted quote) tt one → now ≡ behind_pieces quote one → start ≡ place old
    → new ≡ said ++ closing_faults (next_is (quote_byte quote) (rest now)) start (place now) → far ≡ cond (next_is (quote_byte quote) (rest now)) (passed 1 now) now
    → IsScanned (string_literal (rest old)) old far (Ok (plain_token (Str atom (borrowed_atom (encode_utf8_all (string_literal (rest old)).spelling))))) was new
literal-accepted quote old one now far atom was said new start first moved v s m at n onward =
    let good = accepted-good (ending_from quote one) end atom (atom_of (pieces_of quote one)) v in
    let here : now ≡ end = m ∙ stays (ending_from quote one) end good.0 in
    let which : ending_from quote one ≡ cond (next_is (quote_byte quote) (rest now)) Closed Unclosed =
    closed-or-not quote (rest end) good.0 ∙ ap (λ x. cond (next_is (quote_byte quote) (rest x)) Closed Unclosed) (sym here) in
    let literal = literal-is quote old one first moved ∙ ap (found_string (quote_byte quote) (opened quote one) (pieces_of quote one)) which in
    subst (λ x. IsScanned x old far (Ok (plain_token (Str atom (borrowed_atom (encode_utf8_all x.spelling))))) was new) (sym literal)
    (go (next_is (quote_byte quote) (rest now)) good.1 here n onward)
  where
    end : Cursor
    end = end_from (quoted quote) tt one

    go : (b : Bool) → atom ≡ atom_of (pieces_of quote one) → now ≡ end → new ≡ said ++ closing_faults b start (place now) → far ≡ cond b (passed 1 now) now
        → let x = found_string (quote_byte quote) (opened quote one) (pieces_of quote one) (cond b Closed Unclosed) in IsScanned x old far (Ok (plain_token (Str atom (borrowed_atom (encode_utf8_all x.spelling))))) was new
    go true same here n onward = record {
      value = ap (λ a. Ok (plain_token (Str a (borrowed_atom (encode_utf8_all (opened quote one ++ (quote_byte quote ∷ []))))))) same;
      faults = n ∙ append-nil said ∙ s ∙ ap (λ l. was ++ l) (said-before quote old one first moved);
      moved =
          onward ∙ ap (passed 1) (here ∙ end-moved quote old one moved)
          ∙ sym (passed-later-by old _ 1 (length (opened quote one)) (length-append (opened quote one) (quote_byte quote ∷ [])));
    }
    go false same here n onward =
        let there : place now ≡ place old + byte_len (opened quote one) = ap place here ∙ end-place quote old one first moved in
        let low : start ≡ place old + 0 = at ∙ omega arith in
        let fault : ℕ → ℕ → Fault = λ (a b : ℕ). record { blame = Always; error = record { kind = plain_kind UnterminatedStrLit; span = span_of a b } } in
        let closing : closing_faults false start (place now) ≡ map (fault_behind (place old)) (record { blame = Always; error = error_over (plain_kind UnterminatedStrLit) (byte_len (opened quote one)) } ∷ []) =
        ap (λ a. fault a (place now) ∷ []) low ∙ ap (λ b. fault (place old + 0) b ∷ []) there in
        record {
          value = ap (λ a. Ok (plain_token (Str a (borrowed_atom (encode_utf8_all (opened quote one)))))) same;
          faults =
              n ∙ ap (λ l. l ++ closing_faults false start (place now)) (s ∙ ap (λ l. was ++ l) (said-before quote old one first moved))
              ∙ ap (λ l. (was ++ map (fault_behind (place old)) (faults_of 1 (pieces_of quote one))) ++ l) closing
              ∙ append_assoc was _ _
              ∙ ap (λ l. was ++ l) (sym (map-append (fault_behind (place old)) (faults_of 1 (pieces_of quote one)) _));
          moved = onward ∙ here ∙ end-moved quote old one moved;
        }

-- The text that was read

literal-take : (text : Text) → take (length (string_literal text).spelling) text ≡ (string_literal text).spelling
literal-take text =
    let s = (string_literal text).spelling in
    let front = string_front text in
    ap (take (length s)) (sym front.1) ∙ take_at s front.0 (length s) refl

pub literal-raw : (old far : Cursor) (from to : ℕ) → far ≡ passed (length (string_literal (rest old)).spelling) old → from ≡ place old → to ≡ place far
    → encode_utf8_all (slice_range far.text (index_of far from) (index_of far to)) ≡ encode_utf8_all (string_literal (rest old)).spelling
literal-raw old far from to moved f t = text-passed old far _ from to moved f t ∙ ap encode_utf8_all (literal-take (rest old))

-- What does not allocate

last-some : {A : Type 0} (xs : List A) (x : A) → xs ++ (x ∷ []) ≡ [] → ⊥
last-some [] x h = cc
last-some (y ∷ ys) x h = cc

pub free-value : (quote : Mark) (old one : Cursor) (token : TokenView) → slice_get (rest old) 0 ≡ Some (quote_byte quote) → one ≡ passed 1 old
    → (string_literal (rest old)).value ≡ Ok token → owns_nothing token ≡ true → (atom : AtomView) × (atom_from quote one ≡ Ok atom) × (atom.is_borrowed ≡ true)
free-value quote old one token first moved h o = go (ending_from quote one) (ap (λ x. x.value) (sym (literal-is quote old one first moved)) ∙ h)
  where
    end : Cursor
    end = end_from (quoted quote) tt one

    ps : List Piece
    ps = pieces_of quote one

    borrowed : (spelling : Text) → string_token ps spelling ≡ token → (atom_of ps).is_borrowed ≡ true
    borrowed spelling same = (and_parts (atom_of ps).is_borrowed true (ap owns_nothing same ∙ o)).0

    go : (e : Ending) → (found_string (quote_byte quote) (opened quote one) ps e).value ≡ Ok token → (atom : AtomView) × (unless_refused e end (atom_of ps) ≡ Ok atom) × (atom.is_borrowed ≡ true)
    go Closed h = (atom_of ps, refl, borrowed (opened quote one ++ (quote_byte quote ∷ [])) (let same : string_token ps (opened quote one ++ (quote_byte quote ∷ [])) ≡ token = cc in same))
    go Unclosed h = (atom_of ps, refl, borrowed (opened quote one) (let same : string_token ps (opened quote one) ≡ token = cc in same))
    go (BadEscape spelling error) h = cc

pub free-close : (quote : Mark) (old one now : Cursor) (atom : AtomView) → slice_get (rest old) 0 ≡ Some (quote_byte quote) → one ≡ passed 1 old
    → Ok atom ≡ atom_from quote one → now ≡ behind_pieces quote one → (string_literal (rest old)).faults ≡ [] → next_is (quote_byte quote) (rest now) ≡ true
free-close quote old one now atom first moved v m none =
    let good = accepted-good (ending_from quote one) end atom (atom_of (pieces_of quote one)) v in
    let here : now ≡ end = m ∙ stays (ending_from quote one) end good.0 in
    let which : ending_from quote one ≡ cond (next_is (quote_byte quote) (rest now)) Closed Unclosed =
    closed-or-not quote (rest end) good.0 ∙ ap (λ x. cond (next_is (quote_byte quote) (rest x)) Closed Unclosed) (sym here) in
    go (next_is (quote_byte quote) (rest now)) (ap (λ x. x.faults) (sym (literal-is quote old one first moved ∙ ap (found_string (quote_byte quote) (opened quote one) (pieces_of quote one)) which)) ∙ none)
  where
    end : Cursor
    end = end_from (quoted quote) tt one

    go : (b : Bool) → (found_string (quote_byte quote) (opened quote one) (pieces_of quote one) (cond b Closed Unclosed)).faults ≡ [] → b ≡ true
    go true h = refl
    go false h = absurd (last-some (faults_of 1 (pieces_of quote one)) _ h)

-- The whole

same-break : (quote : ℕ) (opened : Text) (ps : List Piece) (e : Ending) → (found_string quote opened ps e).line_break ≡ false
same-break quote opened ps Closed = refl
same-break quote opened ps Unclosed = refl
same-break quote opened ps (BadEscape spelling error) = refl

no-break : (text : Text) → (string_literal text).line_break ≡ false
no-break [] = refl
no-break (quote ∷ text) = same-break quote (quote ∷ spelled (string_cutter quote) (string_pieces quote text)) (string_pieces quote text) (ending quote (remainder (string_cutter quote) tt text))

pub literal-found : (old now : Cursor) (v : Result TokenView ErrorView) (said new : List Fault) (span : Span) (lo hi : ℕ) → IsScanned (string_literal (rest old)) old now v said new → said ≡ []
    → span ≡ span_of lo hi → lo ≡ place old → hi ≡ place now
    → let found : FoundView TokenView = record { value = v; faults = new; extent = span; line_break = false } in found ≡ found_at token_behind (place old) (string_literal (rest old))
literal-found old now v said new span lo hi is none s l h =
    let p = place old in
    let x = string_literal (rest old) in
    let there : place now ≡ p + byte_len x.spelling = place-passed old now _ is.moved ∙ ap (λ t. p + byte_len t) (literal-take (rest old)) in
    let faults : new ≡ map (fault_behind p) x.faults = is.faults ∙ ap (λ l. l ++ map (fault_behind p) x.faults) none in
    let found : Result TokenView ErrorView → List Fault → Span → Bool → FoundView TokenView = λ a b d e. record { value = a; faults = b; extent = d; line_break = e } in
    ap (λ a. found a new span false) is.value ∙ ap (λ b. found (value_behind token_behind p x.value) b span false) faults
    ∙ ap (λ d. found (value_behind token_behind p x.value) (map (fault_behind p) x.faults) d false) (s ∙ ap (λ a. span_of a hi) l ∙ ap (λ b. span_of p b) (h ∙ there))
    ∙ ap (λ e. found (value_behind token_behind p x.value) (map (fault_behind p) x.faults) (span_of p (p + byte_len x.spelling)) e) (sym (no-break (rest old)))
