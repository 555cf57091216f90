-- The pieces of a string or a word, as a loop goes over them: what was found, with what is found from the cursor on, is
-- what is found from the start.
use Rattle.std.proofs.Common.{◌≡◌, ℕ, ◌+◌, ◌≤◌, ◌<◌, Bool, true, false, List, [], ◌∷◌, ◌++◌, length, map, take, drop, length-drop, take_at, refl, sym, ap, ◌∙◌, arith, zero, suc, one-add, append_assoc, append-nil, length-append, encode_utf8_all, Option, Some, None}
use Rattle.std.specs.List.{prefix_len, list_any}
use Rattle.std.proofs.lemmas.Str.{encodes-append}
use Rattle.std.proofs.lemmas.List.Folds.{length-prefix_len}
use Rattle.ecma_place.specs.Text.{Text, byte_len}
use Rattle.ecma_place.specs.Cursor.{Cursor, rest, place, passed, moved_to}
use Rattle.ecma_place.proofs.RunLemmas.{passed-later-by}
use Rattle.ecma_place.proofs.MoveLemmas.{place-passed, byte_len-append}
use Rattle.ecma_grammar.specs.Found.{Fault, fault_behind}
use Rattle.ecma_grammar.specs.Pieces.{Cutter, pieces, spelled}
use Rattle.ecma_grammar.specs.Cutters.{IsCutter}
use Rattle.ecma_grammar.specs.Strings.{Piece, Plain, piece_text, piece_value, piece_faults, value_of, faults_of, is_escaped}
use Rattle.ecma_escape.specs.PieceParts.{values_from, faults_from, end_from}
use Rattle.ecma_grammar.proofs.PieceLemmas.{pieces_none, pieces_more}
use Rattle.ecma_grammar.proofs.SignLemmas.{rest-behind}

-- a cutter of pieces that have values
abbrev pub cut_by : {S : Type 0} → (S → Text → Option Piece) → (S → Piece → S) → Cutter S Piece
cut_by read next = record { read = read; spelling = piece_text; next = next }

pub record IsOnPieces {S : Type 0} (cutter : Cutter S Piece) (s t : S) (old now : Cursor) (before text : List ℕ) (was said : List Fault) : Type 0 where
  pub values : text ++ values_from cutter t now ≡ before ++ values_from cutter s old
  pub faults : said ++ faults_from cutter t now ≡ was ++ faults_from cutter s old
  pub end : end_from cutter t now ≡ end_from cutter s old

pub on-start : {S : Type 0} (cutter : Cutter S Piece) (s : S) (c : Cursor) (text : List ℕ) (said : List Fault) → IsOnPieces cutter s s c c text text said said
on-start cutter s c text said = record { values = refl; faults = refl; end = refl }

passed-none : (c : Cursor) (n : ℕ) → n ≡ 0 → passed n c ≡ c
passed-none c n z = ap (λ k. moved_to k c) (let same : c.at + n ≡ c.at = omega arith in same)

-- where no piece begins, all was found
pub on-stop : {S : Type 0} (cutter : Cutter S Piece) (s t : S) (old now : Cursor) (before text : List ℕ) (was said : List Fault) → IsOnPieces cutter s t old now before text was said
    → cutter.read t (rest now) ≡ None
    → (text ≡ before ++ values_from cutter s old) × (said ≡ was ++ faults_from cutter s old) × (now ≡ end_from cutter s old)
on-stop cutter s t old now before text was said on none =
    let nil = pieces_none cutter t (rest now) none in (
      sym (append-nil text) ∙ ap (λ l. text ++ encode_utf8_all (value_of l)) (sym nil) ∙ on.values,
      sym (append-nil said) ∙ ap (λ l. said ++ faults_of (place now) l) (sym nil) ∙ on.faults,
      sym (passed-none now _ (ap (λ l. length (spelled cutter l)) nil)) ∙ on.end,
    )

-- one piece further
pub on-step : {S : Type 0} (read : S → Text → Option Piece) (next : S → Piece → S) → IsCutter (cut_by read next) → (s t : S) (old now far : Cursor) (before text more : List ℕ) (was said new : List Fault) (piece : Piece)
    → IsOnPieces (cut_by read next) s t old now before text was said → read t (rest now) ≡ Some piece → far ≡ passed (length (piece_text piece)) now
    → more ≡ text ++ encode_utf8_all (piece_value piece) → new ≡ said ++ map (fault_behind (place now)) (piece_faults piece)
    → IsOnPieces (cut_by read next) s (next t piece) old far before more was new
on-step {S} read next is s t old now far before text more was said new piece on e moved m n =
    let cutter = cut_by read next in
    let u = next t piece in
    let found = is.front t (rest now) piece e in
    let front : take (length (piece_text piece)) (rest now) ≡ piece_text piece =
    ap (take (length (piece_text piece))) (sym found.1) ∙ take_at (piece_text piece) found.0 _ refl in
    let here : rest far ≡ drop (length (piece_text piece)) (rest now) = rest-behind now far _ moved in
    let all : pieces cutter t (rest now) ≡ piece ∷ pieces cutter u (rest far) =
    pieces_more cutter is t (rest now) piece e ∙ ap (λ l. piece ∷ pieces cutter u l) (sym here) in
    let there : place far ≡ place now + byte_len (piece_text piece) = place-passed now far _ moved ∙ ap (λ l. place now + byte_len l) front in
    let left = pieces cutter u (rest far) in
    record {
      values =
          ap (λ l. l ++ values_from cutter u far) m ∙ append_assoc text (encode_utf8_all (piece_value piece)) (values_from cutter u far)
          ∙ ap (λ l. text ++ l) (sym (encodes-append (piece_value piece) (value_of left)) ∙ ap (λ l. encode_utf8_all (value_of l)) (sym all))
          ∙ on.values;
      faults =
          ap (λ l. l ++ faults_from cutter u far) n ∙ append_assoc said (map (fault_behind (place now)) (piece_faults piece)) (faults_from cutter u far)
          ∙ ap (λ l. said ++ l) (ap (λ p. map (fault_behind (place now)) (piece_faults piece) ++ faults_of p left) there ∙ ap (faults_of (place now)) (sym all))
          ∙ on.faults;
      end =
          ap (λ c. passed (length (spelled cutter left)) c) moved
          ∙ sym (passed-later-by now _ (length (spelled cutter left)) (length (piece_text piece)) (length-append (piece_text piece) (spelled cutter left)))
          ∙ ap (λ l. passed (length (spelled cutter l)) now) (sym all)
          ∙ on.end;
    }

-- Characters that stand for themselves

-- the state behind n pieces, where every one leads to u
abbrev pub later : {S : Type 0} → S → S → ℕ → S
later s u zero = s
later s u (suc n) = u

pub record IsPlain {S : Type 0} (read : S → Text → Option Piece) (next : S → Piece → S) (p : ℕ → Bool) (u : S) : Type 0 where
  pub reads : (s : S) (c : ℕ) (cs : Text) → p c ≡ true → read s (c ∷ cs) ≡ Some (Plain c)
  pub leads : (s : S) (c : ℕ) → next s (Plain c) ≡ u

plain-pieces : {S : Type 0} (read : S → Text → Option Piece) (next : S → Piece → S) (p : ℕ → Bool) (u : S) → IsCutter (cut_by read next) → IsPlain read next p u
    → (s : S) (n : ℕ) (text : Text) → n ≤ prefix_len p text → pieces (cut_by read next) s text ≡ map Plain (take n text) ++ pieces (cut_by read next) (later s u n) (drop n text)
plain-pieces read next p u is plain s zero text l = refl
plain-pieces read next p u is plain s (suc n) [] l = absurd (omega (arith, l))
plain-pieces {S} read next p u is plain s (suc n) (c ∷ cs) l = go (p c) refl l (plain-pieces read next p u is plain u n cs)
  where
    cutter : Cutter S Piece
    cutter = cut_by read next

    same : (n : ℕ) → later u u n ≡ u
    same zero = refl
    same (suc n) = refl

    go : (b : Bool) → p c ≡ b → suc n ≤ prefix_len p (c ∷ cs)
        → (n ≤ prefix_len p cs → pieces cutter u cs ≡ map Plain (take n cs) ++ pieces cutter (later u u n) (drop n cs))
        → pieces cutter s (c ∷ cs) ≡ map Plain (take (suc n) (c ∷ cs)) ++ pieces cutter u (drop n cs)
    go true e h more =
        let room : n ≤ prefix_len p cs = let h' = rw e at h in omega (arith, h') in
        pieces_more cutter is s (c ∷ cs) (Plain c) (plain.reads s c cs e)
        ∙ ap (λ v. Plain c ∷ pieces cutter v cs) (plain.leads s c)
        ∙ ap (λ l. Plain c ∷ l) (more room)
        ∙ ap (λ v. Plain c ∷ (map Plain (take n cs) ++ pieces cutter v (drop n cs))) (same n)
    go false e h more = absurd (let h' = rw e at h in omega (arith, h'))

plain-values : (xs : Text) (ps : List Piece) → value_of (map Plain xs ++ ps) ≡ xs ++ value_of ps
plain-values [] ps = refl
plain-values (x ∷ xs) ps = ap (λ l. x ∷ l) (plain-values xs ps)

plain-spelled : {S : Type 0} (read : S → Text → Option Piece) (next : S → Piece → S) (xs : Text) (ps : List Piece) → spelled (cut_by read next) (map Plain xs ++ ps) ≡ xs ++ spelled (cut_by read next) ps
plain-spelled read next [] ps = refl
plain-spelled read next (x ∷ xs) ps = ap (λ l. x ∷ l) (plain-spelled read next xs ps)

plain-faults : (n : ℕ) (xs : Text) (ps : List Piece) → faults_of n (map Plain xs ++ ps) ≡ faults_of (n + byte_len xs) ps
plain-faults n [] ps = ap (λ m. faults_of m ps) (let same : n ≡ n + 0 = omega arith in same)
plain-faults n (x ∷ xs) ps =
    plain-faults (n + byte_len (x ∷ [])) xs ps
    ∙ ap (λ m. faults_of m ps) (let same : n + byte_len (x ∷ []) + byte_len xs ≡ n + byte_len (x ∷ xs) = omega (arith, byte_len-append (x ∷ []) xs) in same)

pub plain-escaped : (xs : Text) (ps : List Piece) → list_any is_escaped (map Plain xs ++ ps) ≡ list_any is_escaped ps
plain-escaped [] ps = refl
plain-escaped (x ∷ xs) ps = plain-escaped xs ps

pub plain-from : {S : Type 0} (read : S → Text → Option Piece) (next : S → Piece → S) (p : ℕ → Bool) (u : S) → IsCutter (cut_by read next) → IsPlain read next p u
    → (s : S) (now far : Cursor) → far ≡ passed (prefix_len p (rest now)) now
    → pieces (cut_by read next) s (rest now) ≡ map Plain (take (prefix_len p (rest now)) (rest now)) ++ pieces (cut_by read next) (later s u (prefix_len p (rest now))) (rest far)
plain-from read next p u is plain s now far moved =
    let n = prefix_len p (rest now) in
    plain-pieces read next p u is plain s n (rest now) (omega arith)
    ∙ ap (λ l. map Plain (take n (rest now)) ++ pieces (cut_by read next) (later s u n) l) (sym (rest-behind now far n moved))

-- a run of them further
pub on-plain : {S : Type 0} (read : S → Text → Option Piece) (next : S → Piece → S) (p : ℕ → Bool) (u : S) → IsCutter (cut_by read next) → IsPlain read next p u
    → (s t : S) (old now far : Cursor) (before text more : List ℕ) (was said : List Fault)
    → IsOnPieces (cut_by read next) s t old now before text was said → far ≡ passed (prefix_len p (rest now)) now
    → more ≡ text ++ encode_utf8_all (take (prefix_len p (rest now)) (rest now))
    → IsOnPieces (cut_by read next) s (later t u (prefix_len p (rest now))) old far before more was said
on-plain {S} read next p u is plain s t old now far before text more was said on moved m =
    let cutter = cut_by read next in
    let n = prefix_len p (rest now) in
    let xs = take n (rest now) in
    let left = pieces cutter (later t u n) (rest far) in
    let all : pieces cutter t (rest now) ≡ map Plain xs ++ left = plain-from read next p u is plain t now far moved in
    let there : place far ≡ place now + byte_len xs = place-passed now far n moved in
    let end : spelled cutter (pieces cutter t (rest now)) ≡ xs ++ spelled cutter left = ap (spelled cutter) all ∙ plain-spelled read next xs left in
    record {
      values =
          ap (λ l. l ++ encode_utf8_all (value_of left)) m ∙ append_assoc text (encode_utf8_all xs) (encode_utf8_all (value_of left))
          ∙ ap (λ l. text ++ l) (sym (encodes-append xs (value_of left)) ∙ ap encode_utf8_all (sym (plain-values xs left)) ∙ ap (λ l. encode_utf8_all (value_of l)) (sym all))
          ∙ on.values;
      faults =
          ap (λ l. said ++ l) (ap (λ q. faults_of q left) there ∙ sym (plain-faults (place now) xs left) ∙ ap (faults_of (place now)) (sym all))
          ∙ on.faults;
      end =
          ap (λ c. passed (length (spelled cutter left)) c) moved
          ∙ sym (passed-later-by now _ (length (spelled cutter left)) n (ap length end ∙ length-append xs (spelled cutter left) ∙ ap (λ k. k + length (spelled cutter left)) (length-prefix_len p (rest now))))
          ∙ on.end;
    }

-- a run of no characters, and what stands behind a run

pub no-run : (p : ℕ → Bool) (c : ℕ) (cs : Text) → prefix_len p (c ∷ cs) ≡ 0 → p c ≡ false
no-run p c cs h = go (p c) refl h
  where
    go : (b : Bool) → p c ≡ b → prefix_len p (c ∷ cs) ≡ 0 → p c ≡ false
    go true e h = absurd (let h' = rw e at h in omega (arith, h'))
    go false e h = e

pub run-stops : (p : ℕ → Bool) (now far : Cursor) → far ≡ passed (prefix_len p (rest now)) now → prefix_len p (rest far) ≡ 0
run-stops p now far moved = ap (prefix_len p) (rest-behind now far _ moved) ∙ none (rest now)
  where
    none : (text : Text) → prefix_len p (drop (prefix_len p text) text) ≡ 0
    none [] = refl
    none (c ∷ cs) = go (p c) refl (none cs)
      where
        go : (b : Bool) → p c ≡ b → prefix_len p (drop (prefix_len p cs) cs) ≡ 0 → prefix_len p (drop (prefix_len p (c ∷ cs)) (c ∷ cs)) ≡ 0
        go true e more = rw (e, one-add (prefix_len p cs)) more
        go false e more = rw (e, e) refl

-- a cursor that went on leaves less
pub rest-less : (now one far : Cursor) (m n : ℕ) → one ≡ passed m now → far ≡ passed n one → 0 < m → 0 < length (rest now) → length (rest far) < length (rest now)
rest-less now one far m n first second some left =
    let a = ap length (rest-behind now one m first) in
    let b = ap length (rest-behind one far n second) in
    omega (arith, length-drop m (rest now), length-drop n (rest one))
