-- The tokens that a run keeps begin and end at places of its text, and lie in it.
use Rattle.std.proofs.Common.{◌≡◌, ◌∙◌, ℕ, ◌+◌, ◌≤◌, Bool, true, false, List, [], ◌∷◌, drop, Option, Some, None, refl, sym, subst, ap, arith}
use Rattle.std.specs.Prelude.{fold, is_some}
use Rattle.ecma_place.specs.Cursor.{Cursor, HasPlace, place, rest}
use Rattle.ecma_place.specs.Text.{byte_len}
use Rattle.ecma_place.specs.declared.place.BytePos.{BytePos}
use Rattle.ecma_place.specs.declared.place.Span.{Span}
use Rattle.ecma_scan.specs.Expressions.{regular_expression}
use Rattle.ecma_scan.specs.Found.{found_at, token_behind}
use Rattle.ecma_token.specs.View.{SpannedView}
use Rattle.ecma_state.specs.Contexts.{Contexts}
use Rattle.ecma_state.specs.Reading.{reading, reading_again, spanned}
use Rattle.ecma_state.specs.Run.{act_all, act_on, at_place, given_in, mode_of, popped_from, reading_from, reread_from, start_of}
use Rattle.ecma_state.specs.Session.{Past, Session, kept_back, last_flag, seen_of, state_of}
use Rattle.ecma_state.specs.State.{last_slash}
use Rattle.ecma_state.specs.declared.settings.Settings.{Settings}
use Rattle.ecma_state.specs.declared.step.Step.{Step}
use Rattle.ecma_state.specs.declared.step.Step.TheVariants.{Read, SetCtx, SetExprAllowed, SetContexts, PopContext, Reread, Withdraw, Save, Back, TakeErrors}
use Rattle.ecma_reads.proofs.EndLemmas.{ReadsOn, reading-on}
use Rattle.ecma_reads.proofs.SlashLemmas.{begins-reading}
use Rattle.ecma_laws.proofs.TilingLemmas.{Standing, act_standing, again-ends, begins_standing}

-- a span lies in the text of a cursor, between two of its places
pub record LiesIn (c : Cursor) (s : Span) : Type 0 where
  pub from : HasPlace c s.lo.0
  pub to : HasPlace c s.hi.0
  pub in_order : s.lo.0 ≤ s.hi.0

-- each token lies in the text
abbrev pub AllLie : Cursor → List SpannedView → Type 0
AllLie input [] = Unit {0}
AllLie input (t ∷ ts) = LiesIn input t.span × AllLie input ts

all-drop : (input : Cursor) (ts : List SpannedView) → AllLie input ts → AllLie input (drop 1 ts)
all-drop input [] all = all
all-drop input (t ∷ ts) all = all.1

-- a place of a cursor in the same text is one of the text
pub moved_place : (input c : Cursor) (p : ℕ) → c.start ≡ input.start → c.text ≡ input.text → HasPlace c p → HasPlace input p
moved_place input c p start text has =
    let whole : Cursor = record { start = input.start; text = input.text; at = c.at } in
    let same : c ≡ whole = ap (λ s. record { start = s; text = c.text; at = c.at }) start ∙ ap (λ t. record { start = input.start; text = t; at = c.at }) text in
    subst (λ (d : Cursor). HasPlace d p) same has

own-place : (c : Cursor) → HasPlace c (place c)
own-place c = (c.at, refl)

given-lies : (input : Cursor) (again flag : Bool) (found : Option SpannedView) (past : Past) → AllLie input (kept_back past)
    → ((t : SpannedView) → found ≡ Some t → LiesIn input t.span) → AllLie input (kept_back (given_in again flag found ∷ past))
given-lies input true flag (Some t) past all lies = (lies t refl, all-drop input (kept_back past) all)
given-lies input false flag (Some t) past all lies = (lies t refl, all)
given-lies input again flag None past all lies = all

-- what a read answers lies in the text
read-lies : (input : Cursor) (s : Session) → Standing input s → (r : Option BytePos) → s.reread ≡ r
    → (t : SpannedView) → (reading_from r (state_of s)).found ≡ Some t → LiesIn input t.span
read-lies input s k None plain t e =
    let mode = mode_of (state_of s) in
    let on : ReadsOn s.input (reading mode s.input) = reading-on mode s.input in
    let at = on.token t e in
    let behind = (reading mode s.input).input in
    let ends : HasPlace input (place behind) = moved_place input behind (place behind) (on.start ∙ k.start) (on.text ∙ k.text) (own-place behind) in
    record {
      from = moved_place input s.input t.span.lo.0 k.start k.text (begins-reading mode s.input t e).has_place;
      to = subst (HasPlace input) (sym at.2) ends;
      in_order = at.1;
    }
read-lies input s k (Some slash) again t e = subst (λ u. LiesIn input u.span) (some-same e) lies
  where
    here : Cursor
    here = at_place slash s.input

    found : SpannedView
    found = spanned (last_flag s.past) (found_at token_behind (place here) (regular_expression (rest here)))

    some-same : Some found ≡ Some t → found ≡ t
    some-same e = cc

    behind : Cursor
    behind = (reading_again (last_flag s.past) here).input

    ends : place here + byte_len (regular_expression (rest here)).spelling ≡ place behind
    ends = again-ends (last_flag s.past) here (k.reread slash again).opens

    lies : LiesIn input found.span
    lies = record {
      from = moved_place input here (place here) k.start k.text (own-place here);
      to = subst (HasPlace input) (sym ends) (moved_place input behind (place behind) k.start k.text (own-place behind));
      in_order = omega arith;
    }

popped-lies : (input : Cursor) (s : Session) (contexts : Contexts) → AllLie input (kept_back s.past) → AllLie input (kept_back (popped_from s contexts).after.past)
popped-lies input s [] all = all
popped-lies input s (top ∷ below) all = all

reread-lies : (input : Cursor) (s : Session) (slash : Option BytePos) → AllLie input (kept_back s.past) → AllLie input (kept_back (reread_from s slash).after.past)
reread-lies input s None all = all
reread-lies input s (Some p) all = all

step-lies : (input : Cursor) (s : Session) (x : Step) → Standing input s → AllLie input (kept_back s.past) → AllLie input (kept_back (act_on s x).past)
step-lies input s Read k all =
    let r = reading_from s.reread (state_of s) in
    given-lies input (is_some s.reread) r.end_flag r.found s.past all (read-lies input s k s.reread refl)
step-lies input s (SetCtx context) k all = all
step-lies input s (SetExprAllowed allowed) k all = all
step-lies input s (SetContexts contexts) k all = all
step-lies input s PopContext k all = popped-lies input s s.contexts all
step-lies input s Reread k all = reread-lies input s (last_slash (seen_of s.past)) all
step-lies input s Withdraw k all = all
step-lies input s TakeErrors k all = all
step-lies input s Save k all = all
step-lies input s (Back n) k all = all

all-lie : (input : Cursor) (s : Session) (steps : List Step) → Standing input s → AllLie input (kept_back s.past) → AllLie input (kept_back (fold act_on s steps).past)
all-lie input s [] k all = all
all-lie input s (x ∷ xs) k all = all-lie input (act_on s x) xs (act_standing input s x k) (step-lies input s x k all)

-- each token that is kept where steps lead, all of which count
pub kept_lie : (settings : Settings) (input : Cursor) (steps : List Step) → AllLie input (kept_back (act_all (start_of settings input) steps).past)
kept_lie settings input steps = all-lie input (start_of settings input) steps (begins_standing settings input) tt
