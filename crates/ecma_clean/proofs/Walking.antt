-- The run of a session, and the walk of the lexer's grammar: the one is clean where the other comes to an end, and they keep
-- the same tokens and go through the same stages.
use Rattle.std.proofs.Common.{◌≡◌, ◌∙◌, Bool, true, false, not, ◌&&◌, cond, List, [], ◌∷◌, ◌++◌, append_assoc, Option, Some, None, map, reverse, refl, sym, ap, subst}
use Rattle.std.proofs.lemmas.Grind.{reverse_onto}
use Rattle.std.specs.Prelude.{is_some}
use Rattle.std.specs.List.{list_all}
use Rattle.clean_runs.specs.Grammar.{Standing, answered, asked, nothing}
use Rattle.clean_runs.specs.Moments.{Moment}
use Rattle.clean_runs.specs.Walk.{Walked, walked_if, with_moment, with_token}
use Rattle.ecma_place.specs.Cursor.{Cursor}
use Rattle.ecma_place.specs.declared.place.BytePos.{BytePos}
use Rattle.ecma_clean_reads.specs.Found.{Fault}
use Rattle.ecma_state.specs.Disposition.{Errors}
use Rattle.ecma_state.specs.Reading.{Reading, reading, reading_again}
use Rattle.ecma_state.specs.Run.{act, act_all, act_on, acted_on, at_place, given_in, mode_of, reading_from}
use Rattle.ecma_state.specs.Session.{Past, Session, kept_back, kept_of, last_flag, state_of}
use Rattle.ecma_state.specs.State.{is_error}
use Rattle.ecma_state.specs.TokenAt.{is_empty}
use Rattle.ecma_state.specs.declared.step.Step.{Step}
use Rattle.ecma_state.specs.declared.step.Step.TheVariants.{Read, SetCtx, SetExprAllowed, SetContexts, PopContext, Reread, Withdraw, Save, Back, TakeErrors}
use Rattle.ecma_syntax.specs.declared.context.Context.{Context}
use Rattle.ecma_token.specs.Kinds.{kind_of}
use Rattle.ecma_token.specs.View.{ErrorView, SpannedView, TokenView}
use Rattle.ecma_clean_reads.specs.BareReads.{Bare, any_recorded}
use Rattle.ecma_clean_reads.specs.Bearing.{Bearing}
use Rattle.ecma_clean_reads.specs.Canonical.{Own, own_in}
use Rattle.ecma_state.specs.Clean.{is_plain_step, takes_none}
use Rattle.ecma_clean_reads.specs.Stages.{Stage, read_in, stage_with, stages}
use Rattle.ecma_clean_reads.proofs.Disposed.{some-recorded}
use Rattle.ecma_clean_reads.proofs.Spoiling.{IsPoised, good-step, is_good, is_unrefused, is_unspoilt, read-poised, spoilt-is-bad, unspoilt-left, unspoilt-right}
use Rattle.ecma_clean_reads.proofs.TokensRead.{own_of}

-- Stages

abbrev pub told : Option Bare → Option (TokenView × Bool)
told None = None
told (Some p) = Some (p.kind, p.flag)

abbrev pub stands_again : Standing → Bool
stands_again nothing = false
stands_again asked = true
stands_again answered = true

abbrev pub stage_of : Moment Bearing TokenView → Stage
stage_of m = record { bearing = m.mode; rereads = stands_again m.standing; recorded = []; token = told m.answer }

-- Steps that are plain whatever the session is

abbrev pub is_plain_anywhere : Step → Bool
is_plain_anywhere Read = true
is_plain_anywhere (SetCtx context) = not context.ignore_error
is_plain_anywhere (SetExprAllowed allowed) = true
is_plain_anywhere (SetContexts contexts) = false
is_plain_anywhere PopContext = false
is_plain_anywhere Reread = true
is_plain_anywhere Withdraw = true
is_plain_anywhere Save = true
is_plain_anywhere (Back save) = true
is_plain_anywhere TakeErrors = true

-- Runs and walks

-- the tokens that are kept, the newest first, without their places
abbrev pub owned_back : Cursor → Session → List Own
owned_back c s = map (λ t. own_in c (kept_of t)) (kept_back s.past)

-- steps from a session on are clean where they are walked, and keep and go through the same; what was kept before stays
pub data IsWalked (c : Cursor) (s : Session) (steps : List Step) (before : List Own) : Option (Walked Bearing TokenView) → Type 0 where
  clean : (x : Walked Bearing TokenView) → is_good s steps ≡ true → owned_back c (act_all s steps) ≡ reverse (map own_of x.kept) ++ before → stages s steps ≡ map stage_of x.moments → IsWalked c s steps before (Some x)
  unclean : is_good s steps ≡ false → IsWalked c s steps before None

-- one more step, which is plain and takes no error
pub walked-step : (c : Cursor) (s : Session) (step : Step) (steps : List Step) (before : List Own) (m : Moment Bearing TokenView) (o : Option (Walked Bearing TokenView)) → is_plain_step s step ≡ true → takes_none s step ≡ true
    → stage_with s (read_in (act s step).answer) ≡ stage_of m → IsWalked c (act_on s step) steps before o → IsWalked c s (step ∷ steps) before (with_moment m o)
walked-step c s step steps before m o plain takes stage (clean x good kept through) =
    clean
    (record { kept = x.kept; moments = m ∷ x.moments })
    (good-step s step steps plain takes ∙ good)
    kept
    (ap (λ g. g ∷ stages (act_on s step) steps) stage ∙ ap (λ gs. stage_of m ∷ gs) through)
walked-step c s step steps before m o plain takes stage (unclean bad) = unclean (good-step s step steps plain takes ∙ bad)

-- one more token
pub walked-token : (c : Cursor) (s : Session) (steps : List Step) (before : List Own) (own : Own) (p : Bare) (o : Option (Walked Bearing TokenView)) → own ≡ own_of p → IsWalked c s steps (own ∷ before) o
    → IsWalked c s steps before (with_token p o)
walked-token c s steps before own p o same (clean x good kept through) =
    clean
    (record { kept = p ∷ x.kept; moments = x.moments })
    good
    (kept
    ∙ ap (λ u. reverse (map own_of x.kept) ++ (u ∷ before)) same
    ∙ sym (append_assoc (reverse (map own_of x.kept)) (own_of p ∷ []) before)
    ∙ ap (λ l. l ++ before) (sym (reverse_onto (map own_of x.kept) (own_of p) [])))
    through
walked-token c s steps before own p o same (unclean bad) = unclean bad

-- Sessions of clean runs

-- nothing is recorded, an error waits or none does, errors aren't ignored, and no token that is kept is an error
pub record Sound (s : Session) (w : Bool) : Type 0 where
  pub recorded : s.errors.recorded ≡ []
  pub waits : is_empty s.errors.waiting ≡ not w
  pub obeys : s.context.ignore_error ≡ false
  pub unspoilt : list_all is_unrefused (kept_back s.past) ≡ true

-- a step that changes neither errors, context nor answers
pub still-sound : (s t : Session) (w : Bool) → t.errors ≡ s.errors → t.context ≡ s.context → t.past ≡ s.past → Sound s w → Sound t w
still-sound s t w errors context past k = record {
  recorded = ap (λ e. e.recorded) errors ∙ k.recorded;
  waits = ap (λ e. is_empty e.waiting) errors ∙ k.waits;
  obeys = ap (λ x. x.ignore_error) context ∙ k.obeys;
  unspoilt = ap (λ p. list_all is_unrefused (kept_back p)) past ∙ k.unspoilt;
}

pub taken-sound : (s : Session) (w : Bool) → Sound s w → Sound (act_on s TakeErrors) w
taken-sound s w k = record { recorded = refl; waits = k.waits; obeys = k.obeys; unspoilt = k.unspoilt }

-- the session behind a read, by what it found
abbrev pub after_read : Session → Reading → Bool → Option SpannedView → List Fault → Session
after_read s r again found faults =
    record (acted_on s (record r { found = found; faults = faults })).after { past = given_in again r.end_flag found ∷ s.past }

pub after-is : (s : Session) (r : Reading) (again : Bool) (found : Option SpannedView) (faults : List Fault) → is_some s.reread ≡ again → r.found ≡ found → r.faults ≡ faults
    → (acted_on s r).after ≡ after_read s r again found faults
after-is s r again found faults e f g =
    ap (λ b. after_read s r b r.found r.faults) e
    ∙ ap (λ o. after_read s r again o r.faults) f
    ∙ ap (λ fs. after_read s r again found fs) g

-- a session whose read finds this
pub record Acts (s : Session) (r : Reading) : Type 0 where
  pub acts : act s Read ≡ acted_on s r

pub acts-plain : (s : Session) → s.reread ≡ None → Acts s (reading (mode_of (state_of s)) s.input)
acts-plain s e = record { acts = ap (λ slash. acted_on s (reading_from slash (state_of s))) e }

pub acts-again : (s : Session) (p : BytePos) → s.reread ≡ Some p → Acts s (reading_again (last_flag s.past) (at_place p s.input))
acts-again s p e = record { acts = ap (λ slash. acted_on s (reading_from slash (state_of s))) e }

-- a read that records something, or reads an error, is not clean

pub read-records : (s : Session) (r : Reading) (w : Bool) (steps : List Step) → Acts s r → Sound s w → is_plain_step s Read ≡ true → any_recorded s.context r.faults ≡ true → is_good s (Read ∷ steps) ≡ false
read-records s r w steps a k plain e =
    let some : is_empty (acted_on s r).after.errors.recorded ≡ false = some-recorded s.context s.errors r.faults k.obeys e in
    let bad : is_unspoilt (act_on s Read) ≡ false = ap (λ x. is_unspoilt x.after) a.acts ∙ unspoilt-right (list_all is_unrefused (kept_back (acted_on s r).after.past)) _ some in
    good-step s Read steps plain refl ∙ spoilt-is-bad (act_on s Read) steps (read-poised s) bad

given-bad : (again : Bool) (flag : Bool) (t : SpannedView) (past : Past) → is_unrefused t ≡ false → list_all is_unrefused (kept_back (given_in again flag (Some t) ∷ past)) ≡ false
given-bad true flag t past h = unspoilt-left (is_unrefused t) _ h
given-bad false flag t past h = unspoilt-left (is_unrefused t) _ h

pub read-refuses : (s : Session) (r : Reading) (steps : List Step) (t : SpannedView) → Acts s r → is_plain_step s Read ≡ true → r.found ≡ Some t → is_error (kind_of t.token) ≡ true → is_good s (Read ∷ steps) ≡ false
read-refuses s r steps t a plain found e =
    let after : (acted_on s r).after ≡ after_read s r (is_some s.reread) (Some t) r.faults = after-is s r (is_some s.reread) (Some t) r.faults refl found refl in
    let none : list_all is_unrefused (kept_back (after_read s r (is_some s.reread) (Some t) r.faults).past) ≡ false = given-bad (is_some s.reread) r.end_flag t s.past (ap not e) in
    let bad : is_unspoilt (act_on s Read) ≡ false = ap (λ x. is_unspoilt x.after) a.acts ∙ ap is_unspoilt after ∙ unspoilt-left _ _ none in
    good-step s Read steps plain refl ∙ spoilt-is-bad (act_on s Read) steps (read-poised s) bad

-- A context is set

-- what waits is recorded in module code
pub data ContextSet (s : Session) (context : Context) (w : Bool) : Type 0 where
  still_clean : (context.«module» && w) ≡ false → Sound (act_on s (SetCtx context)) w → ContextSet s context w
  records : (context.«module» && w) ≡ true → is_unspoilt (act_on s (SetCtx context)) ≡ false → ContextSet s context w

not-false : (b : Bool) → not b ≡ true → b ≡ false
not-false true h = cc
not-false false h = refl

empty-is : (es : List ErrorView) → is_empty es ≡ true → es ≡ []
empty-is [] h = refl
empty-is (e ∷ es) h = cc

pub context-set : (s : Session) (context : Context) (w : Bool) → Sound s w → not context.ignore_error ≡ true → ContextSet s context w
context-set s context w k obeys = go context.«module» w refl k
  where
    errors : Bool → Errors
    errors b = cond b (record { recorded = s.errors.recorded ++ s.errors.waiting; waiting = [] }) s.errors

    set_in : Bool → Session
    set_in b = record s { context = context; errors = errors b }

    same : (b : Bool) → context.«module» ≡ b → act_on s (SetCtx context) ≡ set_in b
    same b e = ap set_in e

    go : (b w : Bool) → context.«module» ≡ b → Sound s w → ContextSet s context w
    go false w e k =
        still_clean
        (ap (λ b. b && w) e)
        (subst (λ t. Sound t w) (sym (same false e)) (record { recorded = k.recorded; waits = k.waits; obeys = not-false context.ignore_error obeys; unspoilt = k.unspoilt }))
    go true false e k =
        let none : s.errors.waiting ≡ [] = empty-is s.errors.waiting k.waits in
        still_clean
        (ap (λ b. b && false) e)
        (subst
        (λ t. Sound t false)
        (sym (same true e))
        (record {
          recorded = ap (λ es. es ++ s.errors.waiting) k.recorded ∙ none;
          waits = refl;
          obeys = not-false context.ignore_error obeys;
          unspoilt = k.unspoilt;
        }))
    go true true e k =
        let some : is_empty (s.errors.recorded ++ s.errors.waiting) ≡ false = ap (λ es. is_empty (es ++ s.errors.waiting)) k.recorded ∙ k.waits in
        records (ap (λ b. b && true) e) (ap is_unspoilt (same true e) ∙ unspoilt-right (list_all is_unrefused (kept_back s.past)) _ some)

-- such a step, where the steps behind it are walked
pub walked-context : (c : Cursor) (s : Session) (context : Context) (w : Bool) (steps : List Step) (before : List Own) (m : Moment Bearing TokenView) (o : Option (Walked Bearing TokenView)) → not context.ignore_error ≡ true
    → Sound s w → IsPoised s → stage_with s None ≡ stage_of m → (Sound (act_on s (SetCtx context)) w → IsWalked c (act_on s (SetCtx context)) steps before o)
    → IsWalked c s (SetCtx context ∷ steps) before (walked_if (not (context.«module» && w)) (with_moment m o))
walked-context c s context w steps before m o plain k poised stage walks = go (context-set s context w k plain)
  where
    step : Step
    step = SetCtx context

    go : ContextSet s context w → IsWalked c s (step ∷ steps) before (walked_if (not (context.«module» && w)) (with_moment m o))
    go (still_clean e sound) =
        subst (λ b. IsWalked c s (step ∷ steps) before (walked_if (not b) (with_moment m o))) (sym e) (walked-step c s step steps before m o plain refl stage (walks sound))
    go (records e bad) =
        subst
        (λ b. IsWalked c s (step ∷ steps) before (walked_if (not b) (with_moment m o)))
        (sym e)
        (unclean (good-step s step steps plain refl ∙ spoilt-is-bad (act_on s step) steps poised bad))
