-- Behind the end a clean run goes on as the walk says: no token is kept, and no step records what waits.
use Rattle.std.proofs.Common.{◌≡◌, ◌∙◌, Bool, true, false, not, ◌&&◌, List, [], ◌∷◌, Option, Some, None, refl, sym, ap, subst}
use Rattle.std.proofs.lemmas.Bool.{and_parts}
use Rattle.std.specs.Prelude.{is_some, if◌then◌else◌}
use Rattle.std.specs.List.{list_all}
use Rattle.clean_runs.specs.Grammar.{nothing}
use Rattle.clean_runs.specs.Moments.{Moment, calm_moments, moment}
use Rattle.clean_runs.specs.Walk.{calm_walk, is_calm, walked_if, with_moment}
use Rattle.ecma_place.specs.Cursor.{Cursor, rest}
use Rattle.ecma_place.specs.declared.place.BytePos.{BytePos}
use Rattle.ecma_clean_reads.specs.Gaps.{has_line_break}
use Rattle.ecma_clean_reads.proofs.EndLemmas.{reading-end}
use Rattle.ecma_state.specs.Mode.{gap_mode}
use Rattle.ecma_state.specs.Reading.{Reading, reading}
use Rattle.ecma_state.specs.Run.{NoSlash, act, act_on, acted_on, mode_of, reread_from}
use Rattle.ecma_state.specs.Session.{Session, has_ended, kept_back, seen_of, state_of}
use Rattle.ecma_state.specs.State.{last_slash, slash_in}
use Rattle.ecma_state.specs.TokenAt.{is_empty}
use Rattle.ecma_state.specs.declared.step.Step.{Step}
use Rattle.ecma_state.specs.declared.step.Step.TheVariants.{Read, SetCtx, SetExprAllowed, SetContexts, PopContext, Reread, Withdraw, Save, Back, TakeErrors}
use Rattle.ecma_token.specs.View.{ErrorView, TokenView}
use Rattle.ecma_clean_reads.specs.Bearing.{Bearing, bearing_of}
use Rattle.ecma_clean_reads.specs.Canonical.{Own}
use Rattle.ecma_state.specs.Clean.{is_plain_step, takes_none, was_again}
use Rattle.ecma_clean_reads.specs.Instance.{InContext, changed, lexer_grammar, steps_as}
use Rattle.ecma_clean_reads.specs.Stages.{Stage, read_in, stage_with}
use Rattle.ecma_clean_reads.proofs.Spoiling.{is_good, is_unrefused}
use Rattle.ecma_clean.proofs.Walking.{Acts, IsWalked, Sound, acts-plain, after-is, after_read, clean, is_plain_anywhere, owned_back, stage_of, still-sound, taken-sound, walked-context, walked-step}

-- the end was answered, and no slash is read again
pub record AtTheEnd (s : Session) (w : Bool) : Type 0 where
  pub left : rest s.input ≡ []
  pub reread : s.reread ≡ None
  pub ended : has_ended s.past ≡ true
  pub sound : Sound s w

-- a clean run may stop here
end-good : (s : Session) (w : Bool) → AtTheEnd s w → is_good s [] ≡ true
end-good s w k =
    ap (λ b. b && (list_all is_unrefused (kept_back s.past) && is_empty s.errors.recorded)) k.ended
    ∙ ap (λ b. b && is_empty s.errors.recorded) k.sound.unspoilt
    ∙ ap is_empty k.sound.recorded

-- what stands before a step that reads nothing
pub quiet-stage : (s : Session) (w : Bool) → s.reread ≡ None → Sound s w → stage_with s None ≡ stage_of (moment (bearing_of s) nothing None)
quiet-stage s w e k =
    ap (λ r. stage r s.errors.recorded) (ap is_some e) ∙ ap (λ es. stage false es) k.recorded
  where
    stage : Bool → List ErrorView → Stage
    stage rereads recorded = record { bearing = bearing_of s; rereads = rereads; recorded = recorded; token = None }

calm-more : (b : Bool) (m : Moment Bearing TokenView) (ms : List (Moment Bearing TokenView))
    → with_moment m (walked_if b (Some (record { kept = []; moments = ms }))) ≡ walked_if b (Some (record { kept = []; moments = m ∷ ms }))
calm-more true m ms = refl
calm-more false m ms = refl

calm-set : (a b : Bool) (m : Moment Bearing TokenView) (ms : List (Moment Bearing TokenView))
    → walked_if a (with_moment m (walked_if b (Some (record { kept = []; moments = ms })))) ≡ walked_if (a && b) (Some (record { kept = []; moments = m ∷ ms }))
calm-set true b m ms = calm-more b m ms
calm-set false b m ms = refl

-- no slash was answered last
end-slash : (s : Session) → has_ended s.past ≡ true → last_slash (seen_of s.past) ≡ None
end-slash s e = ap (λ b. slash b) e
  where
    slash : Bool → Option BytePos
    slash b = if b then None else slash_in (seen_of s.past).last

end-read : (s : Session) (w : Bool) → AtTheEnd s w → AtTheEnd (act_on s Read) w × (bearing_of (act_on s Read) ≡ bearing_of s) × ((c : Cursor) → owned_back c (act_on s Read) ≡ owned_back c s) × (read_in (act s Read).answer ≡ None)
end-read s w k = (
  subst (λ t. AtTheEnd t w) (sym same) record { left = k.left; reread = k.reread; ended = refl; sound = record { recorded = k.sound.recorded; waits = k.sound.waits; obeys = k.sound.obeys; unspoilt = k.sound.unspoilt } },
  ap bearing_of same,
  λ c. ap (owned_back c) same,
  ap (λ a. read_in a.answer) acts.acts ∙ ap (λ x. read_in (acted_on s x).answer) found,
)
  where
    r : Reading
    r = reading (mode_of (state_of s)) s.input

    ending : Reading
    ending = record { found = None; end_flag = has_line_break (gap_mode (mode_of (state_of s))) (rest s.input); faults = []; comments = []; input = s.input }

    found : r ≡ ending
    found = reading-end (mode_of (state_of s)) s.input k.left

    acts : Acts s r
    acts = acts-plain s k.reread

    same : act_on s Read ≡ after_read s ending false None []
    same = ap (λ a. a.after) acts.acts ∙ ap (λ x. (acted_on s x).after) found ∙ after-is s ending false None [] (ap is_some k.reread) refl refl

-- one more step that is plain and takes no error
end-step : (c : Cursor) (s : Session) (w : Bool) (b : Bearing) (step : Step) (steps : List Step) (before : List Own) → s.reread ≡ None → Sound s w → is_plain_step s step ≡ true → takes_none s step ≡ true
    → read_in (act s step).answer ≡ None → IsWalked c (act_on s step) steps before (calm_walk lexer_grammar w b (steps_as steps))
    → IsWalked c s (step ∷ steps) before (walked_if (is_calm lexer_grammar w (steps_as steps)) (Some (record { kept = []; moments = moment (bearing_of s) nothing None ∷ calm_moments lexer_grammar b (steps_as steps) })))
end-step c s w b step steps before e k plain takes told more =
    let m = moment (bearing_of s) nothing None in
    subst
    (IsWalked c s (step ∷ steps) before)
    (calm-more (is_calm lexer_grammar w (steps_as steps)) m (calm_moments lexer_grammar b (steps_as steps)))
    (walked-step c s step steps before m _ plain takes (ap (stage_with s) told ∙ quiet-stage s w e k) more)

-- steps behind the end
pub walked-end : (c : Cursor) (s : Session) (w : Bool) (steps : List Step) → list_all is_plain_anywhere steps ≡ true → AtTheEnd s w → IsWalked c s steps (owned_back c s) (calm_walk lexer_grammar w (bearing_of s) (steps_as steps))
walked-end c s w [] plain k =
    clean
    (record { kept = []; moments = moment (bearing_of s) nothing None ∷ [] })
    (end-good s w k)
    refl
    (ap (λ g. g ∷ []) (quiet-stage s w k.reread k.sound))
walked-end c s w (Read ∷ steps) plain k =
    let (end, bearing, owned, told) = end-read s w k in
    end-step
    c
    s
    w
    (bearing_of s)
    Read
    steps
    (owned_back c s)
    k.reread
    k.sound
    (ap (λ r. not (is_some r && was_again s.past)) k.reread)
    refl
    told
    (subst (λ b. IsWalked c (act_on s Read) steps (owned_back c s) (calm_walk lexer_grammar w b (steps_as steps))) bearing
    (subst (λ l. IsWalked c (act_on s Read) steps l (calm_walk lexer_grammar w (bearing_of (act_on s Read)) (steps_as steps))) (owned c) (walked-end c (act_on s Read) w steps plain end)))
walked-end c s w (SetCtx context ∷ steps) plain k =
    let both = and_parts (not context.ignore_error) (list_all is_plain_anywhere steps) plain in
    let m = moment (bearing_of s) nothing None in
    let b : Bearing = changed (InContext context) (bearing_of s) in
    let after : Session = act_on s (SetCtx context) in
    subst
    (IsWalked c s (SetCtx context ∷ steps) (owned_back c s))
    (calm-set (not (context.«module» && w)) (is_calm lexer_grammar w (steps_as steps)) m (calm_moments lexer_grammar b (steps_as steps)))
    (walked-context
    c
    s
    context
    w
    steps
    (owned_back c s)
    m
    (calm_walk lexer_grammar w b (steps_as steps))
    both.0
    k.sound
    (λ p f h. let never : None ≡ Some p = sym k.reread ∙ f in cc)
    (quiet-stage s w k.reread k.sound)
    (λ sound. walked-end c after w steps both.1 (record { left = k.left; reread = k.reread; ended = k.ended; sound = sound })))
walked-end c s w (SetExprAllowed allowed ∷ steps) plain k =
    let after : Session = act_on s (SetExprAllowed allowed) in
    end-step c s w (bearing_of after) (SetExprAllowed allowed) steps (owned_back c s) k.reread k.sound refl refl refl
    (walked-end c after w steps plain (record { left = k.left; reread = k.reread; ended = k.ended; sound = still-sound s after w refl refl refl k.sound }))
walked-end c s w (SetContexts contexts ∷ steps) plain k = cc
walked-end c s w (PopContext ∷ steps) plain k = cc
walked-end c s w (Reread ∷ steps) plain k =
    let none = end-slash s k.ended in
    let same : act s Reread ≡ record { after = s; answer = NoSlash } = ap (reread_from s) none in
    end-step c s w (bearing_of s) Reread steps (owned_back c s) k.reread k.sound refl refl (ap (λ a. read_in a.answer) same)
    (subst (λ t. IsWalked c t steps (owned_back c s) (calm_walk lexer_grammar w (bearing_of s) (steps_as steps))) (sym (ap (λ a. a.after) same)) (walked-end c s w steps plain k))
walked-end c s w (Withdraw ∷ steps) plain k =
    let after : Session = act_on s Withdraw in
    end-step c s w (bearing_of s) Withdraw steps (owned_back c s) k.reread k.sound refl refl refl
    (walked-end c after w steps plain (record { left = k.left; reread = refl; ended = k.ended; sound = still-sound s after w refl refl refl k.sound }))
walked-end c s w (Save ∷ steps) plain k =
    end-step c s w (bearing_of s) Save steps (owned_back c s) k.reread k.sound refl refl refl (walked-end c s w steps plain k)
walked-end c s w (Back n ∷ steps) plain k =
    end-step c s w (bearing_of s) (Back n) steps (owned_back c s) k.reread k.sound refl refl refl (walked-end c s w steps plain k)
walked-end c s w (TakeErrors ∷ steps) plain k =
    let after : Session = act_on s TakeErrors in
    end-step c s w (bearing_of s) TakeErrors steps (owned_back c s) k.reread k.sound refl (ap is_empty k.sound.recorded) refl
    (walked-end c after w steps plain (record { left = k.left; reread = k.reread; ended = k.ended; sound = taken-sound s w k.sound }))
