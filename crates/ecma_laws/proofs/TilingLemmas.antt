-- Where a run stands: the tokens that are kept lie in order in its text.
use Rattle.std.proofs.Common.{◌≡◌, ◌∙◌, ℕ, ◌+◌, ◌≤◌, Bool, true, false, List, [], ◌∷◌, Option, Some, None, take, drop, length, refl, sym, subst, ap, arith}
use Rattle.std.specs.Prelude.{fold, is_some}
use Rattle.ecma_place.specs.Text.{byte_len}
use Rattle.ecma_place.specs.Cursor.{Cursor, HasPlace, rest, place}
use Rattle.ecma_place.specs.declared.place.BytePos.{BytePos}
use Rattle.ecma_place.proofs.MoveLemmas.{place-passed}
use Rattle.ecma_token.specs.Kinds.{kind_of}
use Rattle.ecma_token.specs.View.{SpannedView}
use Rattle.ecma_scan.specs.Expressions.{opens_expression, regular_expression}
use Rattle.ecma_scan.specs.Found.{found_at, token_behind}
use Rattle.ecma_state.specs.Contexts.{Contexts}
use Rattle.ecma_state.specs.Counting.{counting}
use Rattle.ecma_state.specs.declared.settings.Settings.{Settings}
use Rattle.ecma_state.specs.declared.step.Step.{Step}
use Rattle.ecma_state.specs.declared.step.Step.TheVariants.{Read, SetCtx, SetExprAllowed, SetContexts, PopContext, Reread, Withdraw, Save, Back, TakeErrors}
use Rattle.ecma_state.specs.Reading.{Reading, reading, reading_again, spanned}
use Rattle.ecma_state.specs.Session.{Again, AtEnd, Past, Next, Session, has_ended, kept_back, kept_of, last_flag, seen_of, state_of}
use Rattle.ecma_state.specs.State.{is_slash, last_slash, slash_in}
use Rattle.ecma_state.specs.Run.{act_on, acted_on, at_place, given_in, mode_of, popped_from, reading_from, reread_from, session, start_of}
use Rattle.ecma_laws.specs.Order.{InOrder, TokensAreInOrder}
use Rattle.ecma_reads.proofs.EndLemmas.{ReadsOn, reading-on}
use Rattle.ecma_reads.proofs.FrontLemmas.{expression-front}
use Rattle.ecma_reads.proofs.SlashLemmas.{again-kind, begins-reading, expression-no-slash, moved-begins, place-there, slash-is}

later : (begin p q : ℕ) (ts : List SpannedView) → p ≤ q → InOrder begin ts p → InOrder begin ts q
later begin p q [] h order = omega arith
later begin p q (t ∷ ts) h order = let within = order.1 in (order.0, omega (arith, within), order.2)

behind_begin : (begin end : ℕ) (ts : List SpannedView) → InOrder begin ts end → begin ≤ end
behind_begin begin end [] order = order
behind_begin begin end (t ∷ ts) order =
    let before = behind_begin begin t.span.lo.0 ts order.2 in
    let own = order.0 in
    let within = order.1 in omega (arith, before, own, within)

-- the token that was kept last begins at a place, where a slash stands
pub record LastBegins (input : Cursor) (past : Past) (p : BytePos) : Type 0 where
  pub last : SpannedView
  pub before : List SpannedView
  pub kept : kept_back past ≡ last ∷ before
  pub begins : last.span.lo ≡ p
  pub has_place : HasPlace input p.0
  pub opens : opens_expression (rest (at_place p input)) ≡ true

-- what stands at a session that began at a cursor
pub record Standing (input : Cursor) (s : Session) : Type 0 where
  pub start : s.input.start ≡ input.start
  pub text : s.input.text ≡ input.text
  pub order : InOrder (place input) (kept_back s.past) (place s.input)
  pub ended : has_ended s.past ≡ true → rest s.input ≡ []
  pub answered : (p : BytePos) → last_slash (seen_of s.past) ≡ Some p → LastBegins s.input s.past p
  pub reread : (p : BytePos) → s.reread ≡ Some p → LastBegins s.input s.past p

-- a step that neither reads nor changes what is read again
still_standing : (input : Cursor) (s t : Session) → Standing input s → t.input ≡ s.input → t.past ≡ s.past → t.reread ≡ s.reread → Standing input t
still_standing input s t k there past reread =
    record {
      start = ap (λ c. c.start) there ∙ k.start;
      text = ap (λ c. c.text) there ∙ k.text;
      order = rw (there, past) k.order;
      ended = rw (there, past) k.ended;
      answered = rw (there, past) k.answered;
      reread = rw (there, past, reread) k.reread;
    }

-- a read behind what was read last
read_standing : (input : Cursor) (s : Session) → s.reread ≡ None → Standing input s → Standing input (acted_on s (reading (mode_of (state_of s)) s.input)).after
read_standing input s plain k = go r.found refl (is_some s.reread) (ap is_some plain)
  where
    r : Reading
    r = reading (mode_of (state_of s)) s.input

    on : ReadsOn s.input r
    on = reading-on (mode_of (state_of s)) s.input

    slash : (t : SpannedView) → r.found ≡ Some t → (p : BytePos) → slash_in (Some (kept_of t)) ≡ Some p → LastBegins r.input (Next t ∷ s.past) p
    slash t e p h =
        let (is, lo) = slash-is t p h in
        let begins = begins-reading (mode_of (state_of s)) s.input t e in
        let here = moved-begins s.input r.input t on.start on.text begins in
        record {
          last = t;
          before = kept_back s.past;
          kept = refl;
          begins = lo;
          has_place = subst (λ q. HasPlace r.input q.0) lo here.has_place;
          opens = ap (λ q. opens_expression (rest (at_place q r.input))) (sym lo) ∙ here.opens is;
        }

    never : (past : Past) (p : BytePos) → s.reread ≡ Some p → LastBegins r.input past p
    never past p h = let none : None ≡ Some p = sym plain ∙ h in cc

    go : (found : Option SpannedView) → r.found ≡ found → (again : Bool) → again ≡ false
        → Standing input (record (acted_on s r).after { past = given_in again r.end_flag found ∷ s.past })
    go (Some t) e false same =
        let at = on.token t e in
        let hi = at.2 in
        record {
          start = on.start ∙ k.start;
          text = on.text ∙ k.text;
          order = (at.1, omega (arith, hi), later (place input) (place s.input) t.span.lo.0 (kept_back s.past) at.0 k.order);
          ended = λ h. cc;
          answered = slash t e;
          reread = never (Next t ∷ s.past);
        }
    go (Some t) e true same = cc
    go None e again same = record {
      start = on.start ∙ k.start;
      text = on.text ∙ k.text;
      order = later (place input) (place s.input) (place r.input) (kept_back s.past) on.further k.order;
      ended = λ h. on.ending e;
      answered = λ p h. cc;
      reread = never (AtEnd r.end_flag ∷ s.past);
    }

-- what is read again ends where the read ends
pub again-ends : (flag : Bool) (here : Cursor) → opens_expression (rest here) ≡ true → place here + byte_len (regular_expression (rest here)).spelling ≡ place (reading_again flag here).input
again-ends flag here opens =
    let spelling = (regular_expression (rest here)).spelling in
    let front : take (length spelling) (rest here) ≡ spelling = expression-front (rest here) opens in
    sym (place-passed here _ (length spelling) refl ∙ ap (λ l. place here + byte_len l) front)

-- a read from the slash that was read last
again_standing : (input : Cursor) (s : Session) (p : BytePos) → s.reread ≡ Some p → Standing input s → Standing input (acted_on s (reading_again (last_flag s.past) (at_place p s.input))).after
again_standing input s p plain k = go (is_some s.reread) (ap is_some plain)
  where
    here : Cursor
    here = at_place p s.input

    r : Reading
    r = reading_again (last_flag s.past) here

    t : SpannedView
    t = spanned (last_flag s.past) (found_at token_behind (place here) (regular_expression (rest here)))

    slash : LastBegins s.input s.past p
    slash = k.reread p plain

    there : place here ≡ p.0
    there = place-there s.input p slash.has_place

    ends : t.span.hi.0 ≡ place r.input
    ends = again-ends (last_flag s.past) here slash.opens

    below : InOrder (place input) slash.before p.0
    below = let order = subst (λ ts. InOrder (place input) ts (place s.input)) slash.kept k.order in subst (λ q. InOrder (place input) slash.before q.0) slash.begins order.2

    kept : kept_back (Again t ∷ s.past) ≡ t ∷ slash.before
    kept = ap (λ ts. t ∷ drop 1 ts) slash.kept

    begins : LastBegins r.input (Again t ∷ s.past) p
    begins =
        record {
          last = t;
          before = slash.before;
          kept = kept;
          begins = ap (λ n. record { 0 = n }) there;
          has_place = slash.has_place;
          opens = slash.opens;
        }

    go : (again : Bool) → again ≡ true → Standing input (record (acted_on s r).after { past = given_in again r.end_flag r.found ∷ s.past })
    go true same = record {
      start = k.start;
      text = k.text;
      order = subst (λ ts. InOrder (place input) ts (place r.input)) (sym kept) (omega arith, omega (arith, ends), subst (λ n. InOrder (place input) slash.before n) (sym there) below);
      ended = λ h. cc;
      answered = λ q h. let never = expression-no-slash t.token (again-kind (place here) (rest here)) in no-slash-in t never q h;
      reread = λ q h. let same : p ≡ q = some-same (sym plain ∙ h) in subst (λ q. LastBegins r.input (Again t ∷ s.past) q) same begins;
    }
      where
        some-same : {a b : BytePos} → Some a ≡ Some b → a ≡ b
        some-same e = cc

        no-slash-in : (t : SpannedView) → is_slash (kind_of t.token) ≡ false → (q : BytePos) → slash_in (Some (kept_of t)) ≡ Some q → LastBegins r.input (Again t ∷ s.past) q
        no-slash-in t never q h = let is = (slash-is t q h).0 in cc
    go false same = cc

read_either : (input : Cursor) (s : Session) → Standing input s → Standing input (act_on s Read)
read_either input s k = go s.reread refl
  where
    go : (r : Option BytePos) → s.reread ≡ r → Standing input (acted_on s (reading_from r (state_of s))).after
    go None e = read_standing input s e k
    go (Some p) e = again_standing input s p e k

reread_standing : (input : Cursor) (s : Session) → Standing input s → Standing input (act_on s Reread)
reread_standing input s k = go (last_slash (seen_of s.past)) refl
  where
    go : (slash : Option BytePos) → last_slash (seen_of s.past) ≡ slash → Standing input (reread_from s slash).after
    go None e = k
    go (Some p) e = record { start = k.start; text = k.text; order = k.order; ended = k.ended; answered = k.answered; reread = λ q h. again q h }
      where
        again : (q : BytePos) → Some p ≡ Some q → LastBegins s.input s.past q
        again q h = k.answered q (e ∙ h)

popped_standing : (input : Cursor) (s : Session) (contexts : Contexts) → Standing input s → Standing input (popped_from s contexts).after
popped_standing input s [] k = k
popped_standing input s (top ∷ below) k = still_standing input s _ k refl refl refl

pub act_standing : (input : Cursor) (s : Session) (step : Step) → Standing input s → Standing input (act_on s step)
act_standing input s Read k = read_either input s k
act_standing input s (SetCtx context) k = still_standing input s _ k refl refl refl
act_standing input s (SetExprAllowed allowed) k = still_standing input s _ k refl refl refl
act_standing input s (SetContexts contexts) k = still_standing input s _ k refl refl refl
act_standing input s PopContext k = popped_standing input s s.contexts k
act_standing input s Reread k = reread_standing input s k
act_standing input s Withdraw k = record { start = k.start; text = k.text; order = k.order; ended = k.ended; answered = k.answered; reread = λ p h. cc }
act_standing input s TakeErrors k = still_standing input s _ k refl refl refl
act_standing input s Save k = k
act_standing input s (Back n) k = k

pub fold_standing : (input : Cursor) (s : Session) (steps : List Step) → Standing input s → Standing input (fold act_on s steps)
fold_standing input s [] k = k
fold_standing input s (step ∷ steps) k = fold_standing input (act_on s step) steps (act_standing input s step k)

pub begins_standing : (settings : Settings) (input : Cursor) → Standing input (start_of settings input)
begins_standing settings input =
    record { start = refl; text = refl; order = omega arith; ended = λ h. cc; answered = λ p h. cc; reread = λ p h. cc }

pub session_standing : (settings : Settings) (input : Cursor) (steps : List Step) → Standing input (session settings input steps)
session_standing settings input steps =
    fold_standing input (start_of settings input) (counting steps) (begins_standing settings input)

pub tokens_are_in_order : TokensAreInOrder
tokens_are_in_order settings input steps = (session_standing settings input steps).order
