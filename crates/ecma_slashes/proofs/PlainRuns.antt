-- Runs in which the slashes that a rule names are read again take plain steps alone.
use Rattle.std.proofs.Common.{◌≡◌, ◌∙◌, ℕ, zero, suc, Bool, true, false, not, ◌&&◌, List, [], ◌∷◌, ◌++◌, Option, Some, None, refl, ap}
use Rattle.std.specs.Prelude.{is_some}
use Rattle.std.proofs.lemmas.Bool.{and_parts}
use Rattle.ecma_place.specs.declared.place.BytePos.{BytePos}
use Rattle.ecma_token.specs.View.{SpannedView}
use Rattle.ecma_state.specs.Clean.{each_step, ends_clean, is_plain_step, takes_none, was_again}
use Rattle.ecma_state.specs.Counting.{counting}
use Rattle.ecma_state.specs.Run.{act_all, act_on, given_in, reading_of, reread_from, session, start_of}
use Rattle.ecma_state.specs.Session.{Past, Session, has_ended, seen_of, state_of}
use Rattle.ecma_state.specs.State.{last_slash}
use Rattle.ecma_state.specs.declared.step.Step.{Step}
use Rattle.ecma_state.specs.declared.step.Step.TheVariants.{Read, Reread, SetCtx}
use Rattle.ecma_state.specs.Ending.{enough}
use Rattle.ecma_slashes.specs.Rereads.{SlashRule, TextsAreReadPlainly, all_by, behind_by, entered, meets_expression, read_steps, steps_by, steps_to_end_by, text_steps_by, unless_ended}
use Rattle.ecma_slashes.proofs.RunLemmas.{text-counts}
use Rattle.ecma_slashes.proofs.TokenLemmas.{behind-plain}

pub each-append : (holds : Session → Step → Bool) (s : Session) (a b : List Step) → each_step holds s a ≡ true → each_step holds (act_all s a) b ≡ true → each_step holds s (a ++ b) ≡ true
each-append holds s [] b first more = more
each-append holds s (x ∷ xs) b first more =
    let parts = and_parts (holds s x) (each_step holds (act_on s x) xs) first in
    ap (λ h. h && each_step holds (act_on s x) (xs ++ b)) parts.0 ∙ each-append holds (act_on s x) xs b parts.1 more

-- what holds of all steps holds of none
each-unless : (holds : Session → Step → Bool) (s : Session) (b : Bool) (steps : List Step) → each_step holds s steps ≡ true → each_step holds s (unless_ended b steps) ≡ true
each-unless holds s true steps h = refl
each-unless holds s false steps h = h

-- One token

not-again : (flag : Bool) (found : Option SpannedView) (past : Past) → was_again (given_in false flag found ∷ past) ≡ false
not-again flag None past = refl
not-again flag (Some t) past = refl

-- a slash is read again once, behind a read that was plain
again-plain : (s : Session) → s.reread ≡ None → is_plain_step (act_on (act_on s Read) Reread) Read ≡ true
again-plain s plain =
    let first : Session = act_on s Read in
    let past : (act_on first Reread).past ≡ first.past = same-past first (last_slash (seen_of first.past)) in
    let newest : was_again (act_on first Reread).past ≡ false =
    ap was_again past
    ∙ ap (λ o. was_again (given_in (is_some o) (reading_of (state_of s)).end_flag (reading_of (state_of s)).found ∷ s.past)) plain
    ∙ not-again (reading_of (state_of s)).end_flag (reading_of (state_of s)).found s.past in
    ap (λ b. not (is_some (act_on first Reread).reread && b)) newest ∙ never (is_some (act_on first Reread).reread)
  where
    same-past : (r : Session) (o : Option BytePos) → (reread_from r o).after.past ≡ r.past
    same-past r None = refl
    same-past r (Some p) = refl

    never : (b : Bool) → not (b && false) ≡ true
    never true = refl
    never false = refl

token-plain : (s : Session) (b : Bool) → s.reread ≡ None → each_step is_plain_step s (read_steps b) ≡ true
token-plain s false plain = ap (λ o. not (is_some o && was_again s.past) && true) plain
token-plain s true plain =
    ap (λ o. not (is_some o && was_again s.past) && (is_plain_step (act_on (act_on s Read) Reread) Read && true)) plain ∙ ap (λ b. b && true) (again-plain s plain)

token-takes-none : (s : Session) (b : Bool) → each_step takes_none s (read_steps b) ≡ true
token-takes-none s false = refl
token-takes-none s true = refl

-- All of them

all-plain : (rule : SlashRule) (n : ℕ) (s : Session) → s.reread ≡ None → each_step is_plain_step s (all_by rule n s) ≡ true
all-plain rule zero s plain = refl
all-plain rule (suc n) s plain =
    let next : Session = behind_by rule s in
    each-append is_plain_step s (steps_by rule s) (unless_ended (has_ended next.past) (all_by rule n next)) (token-plain s (meets_expression rule s) plain)
    (each-unless is_plain_step next (has_ended next.past) (all_by rule n next) (all-plain rule n next (behind-plain rule s plain)))

all-take-none : (rule : SlashRule) (n : ℕ) (s : Session) → each_step takes_none s (all_by rule n s) ≡ true
all-take-none rule zero s = refl
all-take-none rule (suc n) s =
    let next : Session = behind_by rule s in
    each-append takes_none s (steps_by rule s) (unless_ended (has_ended next.past) (all_by rule n next)) (token-takes-none s (meets_expression rule s))
    (each-unless takes_none next (has_ended next.past) (all_by rule n next) (all-take-none rule n next))

pub texts_are_read_plainly : TextsAreReadPlainly
unfolding steps_to_end_by
texts_are_read_plainly rule settings context input told =
    let begun : Session = start_of settings input in
    let first : Session = entered settings context input in
    let steps : List Step = all_by rule (enough first.input) first in
    let counts : counting (text_steps_by rule settings context input) ≡ SetCtx context ∷ steps = text-counts rule settings context input in
    let plain : each_step is_plain_step begun (counting (text_steps_by rule settings context input)) ≡ true =
    ap (each_step is_plain_step begun) counts ∙ ap (λ b. not b && each_step is_plain_step first steps) told ∙ all-plain rule (enough first.input) first refl in
    let none : each_step takes_none begun (counting (text_steps_by rule settings context input)) ≡ true = ap (each_step takes_none begun) counts ∙ all-take-none rule (enough first.input) first in
    let end : Bool = ends_clean (session settings input (text_steps_by rule settings context input)) in
    record {
      plain = plain;
      takes_none = none;
      clean = ap (λ b. b && (each_step takes_none begun (counting (text_steps_by rule settings context input)) && end)) plain ∙ ap (λ b. b && end) none;
    }
