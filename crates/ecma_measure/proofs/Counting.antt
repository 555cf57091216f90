-- A loop that counts the tokens of a text.
use Rattle.std.proofs.Common.{◌≡◌, ℕ, suc, ◌+◌, ◌*◌, ◌<◌, ◌≤◌, Bool, true, false, List, [], ◌∷◌, Option, Some, None, IsUtf8, length, refl, sym, ap, ◌∙◌, arith}
use Rattle.std.specs.Prelude.{is_some}
use Rattle.std.specs.Str.{chars}
use Rattle.std.proofs.lemmas.Str.{encodes-chars, length-le-encodes}
use Rattle.std.proofs.lemmas.List.{length-append}
use Rattle.ecma_place.specs.Text.{byte_len}
use Rattle.ecma_token.specs.View.{SpannedView}
use Rattle.ecma_state.specs.Session.{LexerState, state_of}
use Rattle.ecma_state.specs.Ending.{most_tokens, tokens_of}
use Rattle.ecma_state.specs.Run.{reading_of, state_behind}
use Rattle.ecma_reads.proofs.EndingLemmas.{ReadSoFar, read_tokens, so_far-end, so_far-plain, so_far-start, so_far-token, tokens_run_out}
use Rattle.ecma_measure.specs.Begin.{begin}

-- so many reads gave a token each
pub record CountedSoFar (ts : Bool) (bytes : List ℕ) (count : ℕ) (l : LexerState) : Type 0 where
  pub state : ReadSoFar (begin ts bytes) count l
  pub counted : length (read_tokens (begin ts bytes) count) ≡ count

pub counted-start : (ts : Bool) (bytes : List ℕ) (l : LexerState) → l ≡ state_of (begin ts bytes) → CountedSoFar ts bytes 0 l
counted-start ts bytes l e = record { state = rw e (so_far-start (begin ts bytes) refl); counted = refl }

pub counted-next : (ts : Bool) (bytes : List ℕ) (count : ℕ) (l next : LexerState) → CountedSoFar ts bytes count l → is_some (reading_of l).found ≡ true
    → next ≡ state_behind l (reading_of l) → CountedSoFar ts bytes (count + 1) next
counted-next ts bytes count l next so some moved = go (reading_of l).found refl
  where
    go : (found : Option SpannedView) → (reading_of l).found ≡ found → CountedSoFar ts bytes (count + 1) next
    go None e = let none : is_some (reading_of l).found ≡ false = ap is_some e in cc
    go (Some t) e =
        let more = so_far-token (begin ts bytes) count l next t so.state e moved in
        let one : suc count ≡ count + 1 = omega arith in
        let longer = ap length more.1 ∙ length-append (read_tokens (begin ts bytes) count) (t ∷ []) in
        let counted : length (read_tokens (begin ts bytes) (suc count)) ≡ suc count = omega (arith, longer, so.counted) in
        rw (sym one) record { state = more.0; counted = counted }

-- each token leaves less
pub counted-less : (ts : Bool) (bytes : List ℕ) (count : ℕ) (l next : LexerState) → CountedSoFar ts bytes count l → is_some (reading_of l).found ≡ true
    → next ≡ state_behind l (reading_of l) → most_tokens next < most_tokens l
counted-less ts bytes count l next so some moved = go (reading_of l).found refl
  where
    go : (found : Option SpannedView) → (reading_of l).found ≡ found → most_tokens next < most_tokens l
    go None e = let none : is_some (reading_of l).found ≡ false = ap is_some e in cc
    go (Some t) e = rw moved (tokens_run_out l t (so_far-plain (begin ts bytes) count l so.state) e)

pub counted-end : (ts : Bool) (bytes : List ℕ) (count : ℕ) (l next : LexerState) → CountedSoFar ts bytes count l → is_some (reading_of l).found ≡ false
    → next ≡ state_behind l (reading_of l) → count ≡ length (tokens_of (begin ts bytes))
counted-end ts bytes count l next so none moved = go (reading_of l).found refl
  where
    go : (found : Option SpannedView) → (reading_of l).found ≡ found → count ≡ length (tokens_of (begin ts bytes))
    go (Some t) e = let some : is_some (reading_of l).found ≡ true = ap is_some e in cc
    go None e = sym so.counted ∙ ap length (so_far-end (begin ts bytes) count l next so.state e moved).0

-- How many there may be

-- the count fits where the text is not too long
pub counted-fits : (ts : Bool) (bytes : List ℕ) (count : ℕ) (l : LexerState) → IsUtf8 bytes → CountedSoFar ts bytes count l → count ≤ 2 * length bytes + 1
counted-fits ts bytes count l utf8 so =
    let bound : length (chars bytes) ≤ byte_len (chars bytes) = length-le-encodes (chars bytes) in
    let all : byte_len (chars bytes) ≡ length bytes = ap length (encodes-chars bytes utf8) in
    let most : most_tokens (state_of (begin ts bytes)) ≡ 2 * length (chars bytes) + 1 = refl in
    omega (arith, so.state.left, bound, all, most)
