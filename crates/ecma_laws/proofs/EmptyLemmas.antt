-- No two tokens without characters stand one after the other.
use Rattle.std.proofs.Common.{eqb-true, ◌≡◌, ◌∙◌, ℕ, ◌+◌, ◌<◌, ◌==◌, Bool, true, false, cond, ◌&&◌, List, [], ◌∷◌, drop, length, Option, Some, None, refl, sym, subst, ap, arith}
use Rattle.std.specs.Prelude.{is_some}
use Rattle.std.proofs.lemmas.Option.{none-some}
use Rattle.ecma_place.proofs.CursorLemmas.{byte_len-cons}
use Rattle.std.proofs.lemmas.Str.{len_utf8_bounds}
use Rattle.ecma_place.specs.Text.{Text, byte_len}
use Rattle.ecma_place.specs.Cursor.{Cursor, rest, place}
use Rattle.ecma_place.specs.declared.place.BytePos.{BytePos}
use Rattle.ecma_token.specs.Kinds.{kind_of}
use Rattle.ecma_token.specs.View.{SpannedView}
use Rattle.ecma_token.specs.declared.kind.TokenKind.{TokenKind}
use Rattle.ecma_token.specs.declared.kind.TokenKind.TheVariants.{Template}
use Rattle.ecma_scan.specs.Expressions.{body_cutter, body_pieces, closed_expression, flags, open_expression, regular_expression}
use Rattle.ecma_scan.specs.Fronts.{next_is}
use Rattle.ecma_scan.specs.Pieces.{remainder, spelled}
use Rattle.ecma_scan.specs.GapViews.{GapView}
use Rattle.ecma_state.specs.Counting.{counting}
use Rattle.ecma_laws.specs.EmptyTokens.{EmptyTokensStandAlone, NeverTwoEmpty, is_empty_token}
use Rattle.ecma_state.specs.Mode.{is_tpl_element}
use Rattle.ecma_state.specs.Reading.{Reading, behind_gap, gap_in, reading, reading_again, reading_behind, reading_code, reading_if, shebang_token, stands_shebang}
use Rattle.ecma_state.specs.Run.{act_on, acted_on, at_place, given_in, mode_of, reading_from, start_of}
use Rattle.ecma_state.specs.Session.{Again, Past, Next, Session, kept_back, last_flag, seen_of, state_of}
use Rattle.ecma_state.specs.State.{previous}
use Rattle.ecma_state.specs.TokenAt.{token_at}
use Rattle.ecma_state.specs.declared.mode.Mode.{Mode}
use Rattle.ecma_state.specs.declared.step.Step.TheVariants.{Read}
use Rattle.ecma_reads.proofs.EndLemmas.{hi_in, kind_in, lo_in, token-extent}
use Rattle.ecma_reads.proofs.ProgressLemmas.{Nothing, Reads, Something, token-reads}
use Rattle.ecma_laws.proofs.StepLemmas.{fold-holds}

-- what holds characters is not empty

pub bytes-some : (text : Text) → 0 < length text → 0 < byte_len text
bytes-some [] some = absurd (omega (arith, some))
bytes-some (c ∷ cs) some = omega (arith, byte_len-cons c cs, (len_utf8_bounds c).0)

far-apart : (lo hi n : ℕ) → 0 < n → hi ≡ lo + n → (lo == hi) ≡ true → ⊥
far-apart lo hi n some reach same = omega (arith, some, reach, eqb-true lo hi same)

-- a token without characters is template text, and none stands before it
abbrev IsEmptyText : Option TokenKind → SpannedView → Type 0
IsEmptyText previous t = (is_tpl_element previous ≡ false) × (kind_of t.token ≡ Template)

behind-empty : (mode : Mode) (before : GapView) (here : Cursor) (text : Text) (t : SpannedView) → (reading_behind mode before here text).found ≡ Some t → is_empty_token t ≡ true → IsEmptyText mode.previous t
behind-empty mode before here [] t found empty = absurd (none-some t found)
behind-empty mode before here (c ∷ cs) t found empty = go (token-reads mode before.line_break c cs)
  where
    n : ℕ
    n = byte_len (token_at mode before.line_break (c ∷ cs)).spelling

    ends : t.span.hi.0 ≡ t.span.lo.0 + n
    ends =
        let extent = token-extent mode before.line_break (place here) (c ∷ cs) in
        let lo = ap (λ e. e.lo.0) (sym extent) ∙ ap lo_in found in
        let hi = ap (λ e. e.hi.0) (sym extent) ∙ ap hi_in found in
        sym hi ∙ ap (λ m. m + n) lo

    go : Reads mode before.line_break (c ∷ cs) → IsEmptyText mode.previous t
    go (Something some) = absurd (far-apart t.span.lo.0 t.span.hi.0 n (bytes-some _ some) ends empty)
    go (Nothing none is) = (none, (let same : kind_of t.token ≡ Template = some_kind (sym (ap kind_in found) ∙ ap (λ k. Some k) (is (place here))) in same))
      where
        some_kind : {k : TokenKind} → Some k ≡ Some Template → k ≡ Template
        some_kind e = cc

code-empty : (mode : Mode) (input : Cursor) (t : SpannedView) → (reading_code mode input).found ≡ Some t → is_empty_token t ≡ true → IsEmptyText mode.previous t
unfolding reading_code
code-empty mode input t found empty =
    behind-empty mode (gap_in mode (place input) (rest input)) (behind_gap mode input) (rest (behind_gap mode input)) t found empty

reading-empty : (mode : Mode) (input : Cursor) (t : SpannedView) → (reading mode input).found ≡ Some t → is_empty_token t ≡ true → IsEmptyText mode.previous t
reading-empty mode input t found empty = go (stands_shebang mode (rest input)) found
  where
    go : (b : Bool) → (reading_if b mode input).found ≡ Some t → IsEmptyText mode.previous t
    go true found =
        let text = (shebang_token (rest input)).spelling in
        let lo = ap lo_in found in
        let hi = ap hi_in found in
        absurd (far-apart t.span.lo.0 t.span.hi.0 (byte_len text) (bytes-some text (omega arith)) (sym hi ∙ ap (λ m. m + byte_len text) lo) empty)
    go false found = code-empty mode input t found empty

-- what holds of the tokens of a run: of neighbours one holds characters, and where the last holds none it is template text
record Alone (past : Past) : Type 0 where
  neighbours : NeverTwoEmpty (kept_back past)
  last : (t : SpannedView) (ts : List SpannedView) → kept_back past ≡ t ∷ ts → is_empty_token t ≡ true → is_tpl_element (previous (seen_of past)) ≡ true

one-holds : (a b : Bool) → (a ≡ true → b ≡ true → ⊥) → (a && b) ≡ false
one-holds true true h = absurd (h refl refl)
one-holds true false h = refl
one-holds false b h = refl

more-alone : (past : Past) (t : SpannedView) → Alone past → (is_empty_token t ≡ true → IsEmptyText (previous (seen_of past)) t) → Alone (Next t ∷ past)
more-alone past t alone empty =
    record {
      neighbours = go (kept_back past) refl;
      last = λ u us same e. at (head-same u us same) e;
    }
  where
    head-same : (u : SpannedView) (us : List SpannedView) → t ∷ kept_back past ≡ u ∷ us → t ≡ u
    head-same u us same = cc

    at : {u : SpannedView} → t ≡ u → is_empty_token u ≡ true → is_tpl_element (Some (kind_of t.token)) ≡ true
    at same e = let is : is_empty_token t ≡ true = ap is_empty_token same ∙ e in ap (λ k. is_tpl_element (Some k)) (empty is).1

    go : (ts : List SpannedView) → kept_back past ≡ ts → NeverTwoEmpty (t ∷ ts)
    go [] e = tt
    go (u ∷ us) e =
        let before = alone.last u us e in (
          one-holds (is_empty_token t) (is_empty_token u)
              (λ a b. let none : false ≡ true = sym (empty a).0 ∙ before b in cc),
          subst NeverTwoEmpty e alone.neighbours,
        )

-- a token that is read again holds its slash

expression-some : (text : Text) → 0 < length (regular_expression text).spelling
expression-some text = go (next_is 47 (remainder body_cutter tt (drop 1 text)))
  where
    body : Text
    body = spelled body_cutter (body_pieces (drop 1 text))

    go : (b : Bool)
        → 0 < length (cond b (closed_expression body (flags (drop 1 (remainder body_cutter tt (drop 1 text))))) (open_expression (drop 1 text))).spelling
    go true = omega arith
    go false = omega arith

pub again-holds : (flag : Bool) (here : Cursor) (t : SpannedView) → (reading_again flag here).found ≡ Some t → is_empty_token t ≡ false
again-holds flag here t found = go (is_empty_token t) refl
  where
    text : Text
    text = (regular_expression (rest here)).spelling

    go : (b : Bool) → is_empty_token t ≡ b → b ≡ false
    go false e = refl
    go true e =
        let lo = ap lo_in found in
        let hi = ap hi_in found in
        absurd (far-apart t.span.lo.0 t.span.hi.0 (byte_len text) (bytes-some text (expression-some (rest here))) (sym hi ∙ ap (λ m. m + byte_len text) lo) e)

again-alone : (past : Past) (t : SpannedView) → Alone past → is_empty_token t ≡ false → Alone (Again t ∷ past)
again-alone past t alone holds =
    record {
      neighbours = go (kept_back past) alone.neighbours;
      last = λ u us same e. absurd (never u us same e);
    }
  where
    never : (u : SpannedView) (us : List SpannedView) → t ∷ drop 1 (kept_back past) ≡ u ∷ us → is_empty_token u ≡ true → ⊥
    never u us same e = let is : t ≡ u = cc in let not_so : false ≡ true = sym holds ∙ ap is_empty_token is ∙ e in cc

    go : (ts : List SpannedView) → NeverTwoEmpty ts → NeverTwoEmpty (t ∷ drop 1 ts)
    go [] before = tt
    go (u ∷ []) before = tt
    go (u ∷ (v ∷ vs)) before = (ap (λ b. b && is_empty_token v) holds, before.1)

plain-alone : (s : Session) (again : Bool) → again ≡ false → Alone s.past
    → Alone (given_in again (reading (mode_of (state_of s)) s.input).end_flag (reading (mode_of (state_of s)) s.input).found ∷ s.past)
plain-alone s again plain alone = go (reading (mode_of (state_of s)) s.input).found refl again plain
  where
    flag : Bool
    flag = (reading (mode_of (state_of s)) s.input).end_flag

    go : (found : Option SpannedView) → (reading (mode_of (state_of s)) s.input).found ≡ found → (again : Bool) → again ≡ false → Alone (given_in again flag found ∷ s.past)
    go None e again plain = record { neighbours = alone.neighbours; last = alone.last }
    go (Some t) e false plain = more-alone s.past t alone (reading-empty (mode_of (state_of s)) s.input t e)
    go (Some t) e true plain = cc

read-alone : (s : Session) → Alone s.past → Alone (act_on s Read).past
read-alone s alone = go s.reread refl
  where
    go : (r : Option BytePos) → s.reread ≡ r → Alone (acted_on s (reading_from r (state_of s))).after.past
    go None e = plain-alone s (is_some s.reread) (ap is_some e) alone
    go (Some p) e = read_again (is_some s.reread) (ap is_some e)
      where
        r : Reading
        r = reading_again (last_flag s.past) (at_place p s.input)

        read_again : (again : Bool) → again ≡ true → Alone (given_in again r.end_flag r.found ∷ s.past)
        read_again true same = again-alone s.past _ alone (again-holds (last_flag s.past) (at_place p s.input) _ refl)
        read_again false same = cc

pub empty_tokens_stand_alone : EmptyTokensStandAlone
empty_tokens_stand_alone settings input steps =
    (fold-holds (λ _ past. Alone past) read-alone (start_of settings input) (counting steps) record { neighbours = tt; last = λ t ts same e. cc }).neighbours
