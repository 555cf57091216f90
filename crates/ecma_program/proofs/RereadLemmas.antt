-- A run up to the last token that is read again.
use Rattle.std.proofs.Common.{◌≡◌, ◌∙◌, ℕ, zero, suc, ◌-◌, ◌<◌, ◌≤◌, Bool, true, false, List, [], ◌∷◌, ◌++◌, Option, Some, None, length, drop, take, map, refl, sym, ap, subst, arith, reverse}
use Rattle.std.specs.Prelude.{if◌then◌else◌, is_some, MatchOption, get_or}
use Rattle.std.proofs.lemmas.Option.{none-some}
use Rattle.std.proofs.lemmas.Grind.{reverse_onto}
use Rattle.std.proofs.lemmas.List.{append-nil, length-append, length-map, length-reverse, map-append}
use Rattle.std.proofs.Math.Seq.{take-append_seam}
use Rattle.std.specs.Option.{option_to_list}
use Rattle.ecma_place.specs.Cursor.{Cursor, rest}
use Rattle.ecma_place.specs.declared.place.BytePos.{BytePos}
use Rattle.ecma_token.specs.View.{SpannedView, spanned_view}
use Rattle.ecma_token.specs.declared.token.TokenAndSpan.{TokenAndSpan}
use Rattle.ecma_state.specs.declared.step.Step.TheVariants.{Read}
use Rattle.ecma_state.specs.Ending.{behind_reads, reads}
use Rattle.ecma_state.specs.Run.{act_all, act_on, given_in, mode_of, reading_of, state_behind, state_rereading}
use Rattle.ecma_state.specs.Session.{LexerState, Past, Session, has_ended, kept_back, seen_of, state_of}
use Rattle.ecma_state.specs.Slashes.{slash_answered}
use Rattle.ecma_state.specs.State.{last_slash}
use Rattle.ecma_reads.proofs.EndLemmas.{reading-on}
use Rattle.ecma_reads.proofs.EndingLemmas.{ReadSoFar, plain-reading, so_far-start, so_far-token, stays}
use Rattle.ecma_slashes.proofs.RereadLemmas.{reread-steps}
use Rattle.ecma_laws.specs.Order.{InOrder}
use Rattle.ecma_laws.proofs.TilingLemmas.{Standing, fold_standing}
use Rattle.ecma_program.specs.Rereads.{AllWithin, behind_rereads, rereading}

-- Reads up to a token

-- a read that gives a token
pub token-behind : (s : Session) (l next : LexerState) (t : SpannedView) → s.reread ≡ None → l ≡ state_of s → (reading_of l).found ≡ Some t → next ≡ state_behind l (reading_of l)
    → (next ≡ state_of (act_on s Read)) × (reverse (kept_back (act_on s Read).past) ≡ reverse (kept_back s.past) ++ t ∷ [])
token-behind s l next t plain at found moved =
    let more = so_far-token s 0 l next t (subst (ReadSoFar s 0) (sym at) (so_far-start s plain)) found moved in
    (more.0.state, more.1)

-- once the end was answered, no slash was answered last
no-slash-ended : (past : Past) → has_ended past ≡ true → last_slash (seen_of past) ≡ None
no-slash-ended past ended = rw ended refl

-- nor behind more reads
pub no-slash-behind : (s : Session) (l : LexerState) (n : ℕ) → s.reread ≡ None → l ≡ state_of s → (reading_of l).found ≡ None → 0 < n → slash_answered (state_of (behind_reads n s)) ≡ None
no-slash-behind s l zero plain at none some = absurd (omega (arith, some))
no-slash-behind s l (suc n) plain at none some =
    let here : (reading_of (state_of s)).found ≡ None = ap (λ x. (reading_of x).found) (sym at) ∙ none in
    let same = plain-reading (state_of s) plain in
    let left : rest (act_on s Read).input ≡ [] = ap (λ r. rest r.input) same ∙ (reading-on (mode_of (state_of s)) s.input).ending (ap (λ r. r.found) (sym same) ∙ here) in
    let ended : has_ended (act_on s Read).past ≡ true = ap (λ found. has_ended (given_in (is_some s.reread) (reading_of (state_of s)).end_flag found ∷ s.past)) here in
    let more = stays n (act_on s Read) plain left in
    no-slash-ended (behind_reads n (act_on s Read)).past (more.ended ended)

-- A token that is read again

-- the states behind the three steps
pub record ReadAgain (s : Session) (l : LexerState) (t : SpannedView) : Type 0 where
  pub state : l ≡ state_of (act_all s rereading)
  pub plain : (act_all s rereading).reread ≡ None
  pub kept : kept_back (act_all s rereading).past ≡ t ∷ drop 1 (kept_back s.past)

pub read-again : (s : Session) (old mid now done : LexerState) (p : BytePos) (t : SpannedView) → old ≡ state_of s → slash_answered old ≡ Some p
    → mid ≡ state_rereading (Some p) old → (reading_of mid).found ≡ Some t → now ≡ state_behind mid (reading_of mid) → done ≡ state_rereading None now → ReadAgain s done t
read-again s old mid now done p t at slash asked found moved withdrawn =
    let again = reread-steps s old mid now done p at slash asked moved withdrawn in
    record {
      state = again.ends;
      plain = refl;
      kept = ap kept_back again.past ∙ ap (λ o. kept_back (given_in true (reading_of mid).end_flag o ∷ s.past)) found;
    }

-- What stands there

pub rereads-standing : (input : Cursor) (kept : ℕ) (s : Session) (ns : List ℕ) (t : Session) → Standing input s → behind_rereads kept s ns ≡ Some t → Standing input t
rereads-standing input kept s [] t k e = subst (Standing input) (some-same e) k
  where
    some-same : {a b : Session} → Some a ≡ Some b → a ≡ b
    some-same h = cc
rereads-standing input kept s (n ∷ ns) t k e =
    go (is_some (slash_answered (state_of there))) e
    (rereads-standing input n (act_all there rereading) ns t (fold_standing input there rereading (fold_standing input s (reads (n - kept)) k)))
  where
    there : Session
    there = behind_reads (n - kept) s

    go : (b : Bool) → (if b then behind_rereads n (act_all there rereading) ns else None) ≡ Some t
        → (behind_rereads n (act_all there rereading) ns ≡ Some t → Standing input t) → Standing input t
    go false e more = absurd (none-some t e)
    go true e more = more e

-- tokens in order, none behind a place, all stand before it

within-append : (n : ℕ) (ts us : List SpannedView) → AllWithin n ts → AllWithin n us → AllWithin n (ts ++ us)
within-append n [] us all more = more
within-append n (t ∷ ts) us all more = (all.0, all.1, within-append n ts us all.2 more)

pub in-order-within : (begin end n : ℕ) (ts : List SpannedView) → InOrder begin ts end → end ≤ n → AllWithin n (reverse ts)
in-order-within begin end n [] order h = tt
in-order-within begin end n (t ∷ ts) order h =
    let own = order.0 in
    let within = order.1 in
    let before = in-order-within begin t.span.lo.0 n ts order.2 (omega (arith, own, within, h)) in
    subst (AllWithin n) (sym (reverse_onto ts t [])) (within-append n (reverse ts) (t ∷ []) before (own, omega (arith, within, h), tt))

-- the tokens without the last one
pub without-last : (items left : List TokenAndSpan) (popped : Option TokenAndSpan) (ks : List SpannedView) → items ≡ left ++ option_to_list popped → (popped ≡ None → length items ≡ 0)
    → map spanned_view items ≡ reverse ks → map spanned_view left ≡ reverse (drop 1 ks)
without-last items left None ks parts empty same =
    let none : length ks ≡ 0 = sym (sym (length-map items spanned_view) ∙ ap length same ∙ length-reverse ks) ∙ empty refl in
    let nothing : ks ≡ [] = no-length ks none in
    ap (map spanned_view) (sym (append-nil left)) ∙ ap (map spanned_view) (sym parts) ∙ same ∙ ap reverse nothing ∙ ap (λ x. reverse (drop 1 x)) (sym nothing)
  where
    no-length : (ks : List SpannedView) → length ks ≡ 0 → ks ≡ []
    no-length [] h = refl
    no-length (k ∷ ks) h = absurd (omega (arith, h))
without-last items left (Some t) ks parts empty same = go ks (sym (map-append spanned_view left (t ∷ [])) ∙ ap (map spanned_view) (sym parts) ∙ same)
  where
    front : List SpannedView
    front = map spanned_view left

    go : (ks : List SpannedView) → front ++ spanned_view t ∷ [] ≡ reverse ks → front ≡ reverse (drop 1 ks)
    go [] h = let long = ap length h in absurd (omega (arith, long, length-append front (spanned_view t ∷ [])))
    go (k ∷ ks) h =
        let all : front ++ spanned_view t ∷ [] ≡ reverse ks ++ k ∷ [] = h ∙ reverse_onto ks k [] in
        let count : length front ≡ length (reverse ks) =
        let long = ap length all in omega (arith, long, length-append front (spanned_view t ∷ []), length-append (reverse ks) (k ∷ [])) in
        sym (take-append_seam front (spanned_view t ∷ [])) ∙ ap (take (length front)) all ∙ ap (λ n. take n (reverse ks ++ k ∷ [])) count ∙ take-append_seam (reverse ks) (k ∷ [])

-- a popped list that gave nothing was empty
pub emptied : (n m : ℕ) (P : TokenAndSpan → Type 0) (popped : Option TokenAndSpan) → MatchOption popped ((n ≡ 0) × (m ≡ 0)) P → popped ≡ None → n ≡ 0
emptied n m P None cases e = cases.0
emptied n m P (Some t) cases e = cc

-- a token of the list stands within
pub within-item : (n : ℕ) (items : List TokenAndSpan) (i : ℕ) (t : TokenAndSpan) → AllWithin n (map spanned_view items) → i < length items → t ≡ get_or items i t
    → (t.span.lo.0 ≤ t.span.hi.0) × (t.span.hi.0 ≤ n)
within-item n [] i t all h is = absurd (omega (arith, h))
within-item n (u ∷ us) zero t all h is = subst (λ x. (x.span.lo.0 ≤ x.span.hi.0) × (x.span.hi.0 ≤ n)) (sym is) (all.0, all.1)
within-item n (u ∷ us) (suc i) t all h is = within-item n us i t all.2 (omega (arith, h)) is
