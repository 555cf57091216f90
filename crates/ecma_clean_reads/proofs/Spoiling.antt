-- A run that went wrong stays so: an error that is recorded is never taken by clean steps, and a token that is an error is kept.
use Rattle.std.proofs.Common.{◌≡◌, ◌∙◌, Bool, true, false, not, ◌&&◌, cond, List, [], ◌∷◌, ◌++◌, drop, Option, Some, None, refl, sym, ap, subst}
use Rattle.std.proofs.Math.Bool.{and-false}
use Rattle.std.specs.Prelude.{is_some}
use Rattle.std.specs.List.{list_all}
use Rattle.ecma_place.specs.declared.place.BytePos.{BytePos}
use Rattle.ecma_parts.specs.Found.{Fault}
use Rattle.ecma_state.specs.Disposition.{Disposition, Dropped, Errors, Recorded, Waiting, disposed, disposition, with_context, with_fault, with_faults}
use Rattle.ecma_state.specs.Reading.{Reading}
use Rattle.ecma_state.specs.Run.{act_all, act_on, acted_on, at_place, given_in, mode_of, reading_from, reread_from}
use Rattle.ecma_state.specs.Reading.{reading, reading_again}
use Rattle.ecma_state.specs.Session.{Again, AtEnd, Past, Next, Session, has_ended, kept_back, kept_of, last_flag, seen_of, state_of}
use Rattle.ecma_state.specs.State.{is_error, is_slash, last_slash, slash_in}
use Rattle.ecma_state.specs.TokenAt.{is_empty}
use Rattle.ecma_state.specs.declared.step.Step.{Step}
use Rattle.ecma_state.specs.declared.step.Step.TheVariants.{Read, SetCtx, SetExprAllowed, SetContexts, PopContext, Reread, Withdraw, Save, Back, TakeErrors}
use Rattle.ecma_syntax.specs.declared.context.Context.{Context}
use Rattle.ecma_token.specs.Kinds.{kind_of}
use Rattle.ecma_token.specs.View.{ErrorView, SpannedView}
use Rattle.ecma_token.specs.declared.kind.TokenKind.{TokenKind}
use Rattle.ecma_token.specs.declared.kind.TokenKind.TheVariants.{Error}
use Rattle.ecma_state.specs.Clean.{each_step, ends_clean, is_plain_step, takes_none, was_again}

-- From a session, steps are plain, take no error, and end cleanly
abbrev pub is_good : Session → List Step → Bool
is_good s steps = each_step is_plain_step s steps && (each_step takes_none s steps && ends_clean (act_all s steps))

-- a step that is plain and allocates nothing counts for nothing by itself
pub good-step : (s : Session) (step : Step) (steps : List Step) → is_plain_step s step ≡ true → takes_none s step ≡ true → is_good s (step ∷ steps) ≡ is_good (act_on s step) steps
good-step s step steps plain takes =
    let after = act_on s step in
    ap (λ b. (b && each_step is_plain_step after steps) && ((takes_none s step && each_step takes_none after steps) && ends_clean (act_all after steps))) plain
    ∙ ap (λ b. each_step is_plain_step after steps && ((b && each_step takes_none after steps) && ends_clean (act_all after steps))) takes

pub unplain-step : (s : Session) (step : Step) (steps : List Step) → is_plain_step s step ≡ false → is_good s (step ∷ steps) ≡ false
unplain-step s step steps plain =
    let after = act_on s step in
    ap (λ b. (b && each_step is_plain_step after steps) && ((takes_none s step && each_step takes_none after steps) && ends_clean (act_all after steps))) plain

taking-step : (s : Session) (step : Step) (steps : List Step) → takes_none s step ≡ false → is_good s (step ∷ steps) ≡ false
taking-step s step steps takes =
    let after = act_on s step in
    ap (λ b. (is_plain_step s step && each_step is_plain_step after steps) && ((b && each_step takes_none after steps) && ends_clean (act_all after steps))) takes
    ∙ and-false (is_plain_step s step && each_step is_plain_step after steps)

-- What went wrong

abbrev pub is_unrefused : SpannedView → Bool
is_unrefused t = not (is_error (kind_of t.token))

abbrev pub is_unspoilt : Session → Bool
is_unspoilt s = list_all is_unrefused (kept_back s.past) && is_empty s.errors.recorded

-- a slash that is to be read again was answered last
pub record AnsweredSlash (past : Past) : Type 0 where
  pub slash : SpannedView
  pub before : Past
  pub newest : past ≡ Next slash ∷ before
  pub is : is_slash (kind_of slash.token) ≡ true

abbrev pub IsPoised : Session → Type 0
IsPoised s = (p : BytePos) → s.reread ≡ Some p → was_again s.past ≡ false → AnsweredSlash s.past

-- Errors stay

append-some : (xs ys : List ErrorView) → is_empty xs ≡ false → is_empty (xs ++ ys) ≡ false
append-some [] ys h = cc
append-some (x ∷ xs) ys h = refl

disposed-some : (all : Errors) (e : ErrorView) (d : Disposition) → is_empty all.recorded ≡ false → is_empty (disposed all e d).recorded ≡ false
disposed-some all e Recorded h = append-some all.recorded (e ∷ []) h
disposed-some all e Waiting h = h
disposed-some all e Dropped h = h

pub faults-some : (context : Context) (all : Errors) (faults : List Fault) → is_empty all.recorded ≡ false → is_empty (with_faults context all faults).recorded ≡ false
faults-some context all [] h = h
faults-some context all (f ∷ faults) h =
    faults-some context (with_fault context all f) faults (disposed-some all f.error (disposition context f.blame) h)

context-some : (context : Context) (all : Errors) → is_empty all.recorded ≡ false → is_empty (with_context context all).recorded ≡ false
context-some context all h = go context.«module»
  where
    go : (b : Bool) → is_empty (cond b (record { recorded = all.recorded ++ all.waiting; waiting = [] }) all).recorded ≡ false
    go true = append-some all.recorded all.waiting h
    go false = h

-- What is wrong stays wrong

and-either : (a b : Bool) (P : Type 0) → (a && b) ≡ false → (a ≡ false → P) → (b ≡ false → P) → P
and-either true b P h left right = right h
and-either false b P h left right = left refl

pub unspoilt-left : (a b : Bool) → a ≡ false → (a && b) ≡ false
unspoilt-left a b h = ap (λ x. x && b) h

pub unspoilt-right : (a b : Bool) → b ≡ false → (a && b) ≡ false
unspoilt-right a b h = ap (λ x. a && x) h ∙ and-false a

-- all that is kept stays kept, and all that is recorded recorded
pub stays-spoilt : (s t : Session) → is_unspoilt s ≡ false → (list_all is_unrefused (kept_back s.past) ≡ false → list_all is_unrefused (kept_back t.past) ≡ false)
    → (is_empty s.errors.recorded ≡ false → is_empty t.errors.recorded ≡ false) → is_unspoilt t ≡ false
stays-spoilt s t h kept recorded =
    and-either
    (list_all is_unrefused (kept_back s.past))
    (is_empty s.errors.recorded)
    (is_unspoilt t ≡ false)
    h
    (λ e. unspoilt-left _ _ (kept e))
    (λ e. unspoilt-right _ _ (recorded e))

-- a slash is no error
slash-unrefused : (kind : TokenKind) → is_slash kind ≡ true → not (is_error kind) ≡ true
slash-unrefused Error h = cc
slash-unrefused kind h = refl

read-spoilt : (s : Session) → IsPoised s → is_unspoilt s ≡ false → is_plain_step s Read ≡ true → is_unspoilt (act_on s Read) ≡ false
read-spoilt s poised h plain = go s.reread refl
  where
    errors : (r : Reading) → is_empty s.errors.recorded ≡ false → is_empty (with_faults s.context s.errors r.faults).recorded ≡ false
    errors r e = faults-some s.context s.errors r.faults e

    once : (r : Reading) (found : Option SpannedView) (again : Bool) → again ≡ false → list_all is_unrefused (kept_back s.past) ≡ false
        → list_all is_unrefused (kept_back (given_in again r.end_flag found ∷ s.past)) ≡ false
    once r None again e k = k
    once r (Some t) true e k = cc
    once r (Some t) false e k = unspoilt-right (is_unrefused t) _ k

    twice : (p : BytePos) (t : SpannedView) (again : Bool) → again ≡ true → s.reread ≡ Some p → list_all is_unrefused (kept_back s.past) ≡ false
        → list_all is_unrefused (kept_back (given_in again (last_flag s.past) (Some t) ∷ s.past)) ≡ false
    twice p t false e f k = cc
    twice p t true e f k =
        let fresh : was_again s.past ≡ false = not-true (was_again s.past) (ap (λ r. not (is_some r && was_again s.past)) (sym f) ∙ plain) in
        let slash = poised p f fresh in
        let kept : kept_back s.past ≡ slash.slash ∷ kept_back slash.before = ap kept_back slash.newest in
        let whole : list_all is_unrefused (slash.slash ∷ kept_back slash.before) ≡ false = subst (λ ts. list_all is_unrefused ts ≡ false) kept k in
        let below : list_all is_unrefused (kept_back slash.before) ≡ false = sym (ap (λ b. b && list_all is_unrefused (kept_back slash.before)) (slash-unrefused (kind_of slash.slash.token) slash.is)) ∙ whole in
        subst (λ ts. list_all is_unrefused (t ∷ drop 1 ts) ≡ false) (sym kept) (unspoilt-right (is_unrefused t) _ below)
      where
        not-true : (b : Bool) → not b ≡ true → b ≡ false
        not-true true h = cc
        not-true false h = refl

    go : (reread : Option BytePos) → s.reread ≡ reread → is_unspoilt (acted_on s (reading_from reread (state_of s))).after ≡ false
    go None e =
        let r = reading (mode_of (state_of s)) s.input in
        stays-spoilt s (acted_on s r).after h (once r r.found (is_some s.reread) (ap is_some e)) (errors r)
    go (Some p) e =
        let r = reading_again (last_flag s.past) (at_place p s.input) in
        stays-spoilt s (acted_on s r).after h (λ k. twice p _ (is_some s.reread) (ap is_some e) e k) (errors r)

pub read-poised : (s : Session) → IsPoised (act_on s Read)
read-poised s = go s.reread refl
  where
    none-some : {A : Type 0} (r : Option BytePos) (p : BytePos) → r ≡ None → r ≡ Some p → A
    none-some r p e f = let never : None ≡ Some p = sym e ∙ f in cc

    again : (flag : Bool) (t : SpannedView) (b : Bool) → b ≡ true → was_again (given_in b flag (Some t) ∷ s.past) ≡ false → AnsweredSlash (given_in b flag (Some t) ∷ s.past)
    again flag t true e h = cc
    again flag t false e h = cc

    go : (reread : Option BytePos) → s.reread ≡ reread → IsPoised (acted_on s (reading_from reread (state_of s))).after
    go None e = λ p f h. none-some s.reread p e f
    go (Some q) e = λ p f h. again (last_flag s.past) _ (is_some s.reread) (ap is_some e) h

reread-poised : (s : Session) → IsPoised s → IsPoised (act_on s Reread)
reread-poised s poised = go s.past refl
  where
    found : (past : Past) (t : SpannedView) (b : Bool) → is_slash (kind_of t.token) ≡ b → s.past ≡ Next t ∷ past → IsPoised (reread_from s (cond b (Some t.span.lo) None)).after
    found past t true e newest = λ p f h. record { slash = t; before = past; newest = newest; is = e }
    found past t false e newest = poised

    other : (past : Past) (slash : Option BytePos) → s.past ≡ past → was_again past ≡ true → IsPoised (reread_from s slash).after
    other past None e again = poised
    other past (Some q) e again = λ p f h. let never : true ≡ false = sym again ∙ (ap was_again (sym e) ∙ h) in cc

    go : (past : Past) → s.past ≡ past → IsPoised (reread_from s (last_slash (seen_of past))).after
    go [] e = poised
    go (Next t ∷ past) e = found past t (is_slash (kind_of t.token)) refl e
    go (Again t ∷ past) e = other (Again t ∷ past) (slash_in (Some (kept_of t))) e refl
    go (AtEnd flag ∷ past) e = poised

-- one more clean step
record StaysSpoilt (s : Session) : Type 0 where
  poised : IsPoised s
  spoilt : is_unspoilt s ≡ false

step-spoilt : (s : Session) (step : Step) → IsPoised s → is_unspoilt s ≡ false → is_plain_step s step ≡ true → takes_none s step ≡ true → StaysSpoilt (act_on s step)
step-spoilt s Read poised h plain takes = record { poised = read-poised s; spoilt = read-spoilt s poised h plain }
step-spoilt s (SetCtx context) poised h plain takes =
    record { poised = poised; spoilt = stays-spoilt s (act_on s (SetCtx context)) h (λ e. e) (context-some context s.errors) }
step-spoilt s (SetExprAllowed allowed) poised h plain takes = record { poised = poised; spoilt = h }
step-spoilt s (SetContexts contexts) poised h plain takes = cc
step-spoilt s PopContext poised h plain takes = cc
step-spoilt s Reread poised h plain takes = record { poised = reread-poised s poised; spoilt = go (last_slash (seen_of s.past)) }
  where
    go : (slash : Option BytePos) → is_unspoilt (reread_from s slash).after ≡ false
    go None = h
    go (Some p) = h
step-spoilt s Withdraw poised h plain takes = record { poised = λ p f. cc; spoilt = h }
step-spoilt s Save poised h plain takes = record { poised = poised; spoilt = h }
step-spoilt s (Back n) poised h plain takes = record { poised = poised; spoilt = h }
step-spoilt s TakeErrors poised h plain takes =
    record { poised = poised; spoilt = stays-spoilt s (act_on s TakeErrors) h (λ e. e) (λ e. let never : true ≡ false = sym takes ∙ e in cc) }

-- a run that went wrong is not clean, whatever follows
pub spoilt-is-bad : (s : Session) (steps : List Step) → IsPoised s → is_unspoilt s ≡ false → is_good s steps ≡ false
spoilt-is-bad s [] poised h = ap (λ b. has_ended s.past && b) h ∙ and-false (has_ended s.past)
spoilt-is-bad s (step ∷ steps) poised h = go (is_plain_step s step) (takes_none s step) refl refl (spoilt-is-bad (act_on s step) steps)
  where
    go : (plain takes : Bool) → is_plain_step s step ≡ plain → takes_none s step ≡ takes → (IsPoised (act_on s step) → is_unspoilt (act_on s step) ≡ false → is_good (act_on s step) steps ≡ false)
        → is_good s (step ∷ steps) ≡ false
    go true true e f more =
        let after = step-spoilt s step poised h e f in good-step s step steps e f ∙ more after.poised after.spoilt
    go true false e f more = taking-step s step steps f
    go false takes e f more = unplain-step s step steps e
