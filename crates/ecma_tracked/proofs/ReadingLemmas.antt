-- Reading by roles token by token is the run of the steps by which a text is read by them.
use Rattle.std.proofs.Common.{◌≡◌, ◌∙◌, suc, ◌+◌, Bool, true, false, List, [], ◌∷◌, ◌++◌, append-nil, append_assoc, refl, subst, sym, ap, arith}
use Rattle.std.specs.Prelude.{is_some}
use Rattle.std.proofs.lemmas.Bool.{and_parts}
use Rattle.std.proofs.lemmas.List.Sums.{fold-append}
use Rattle.ecma_token.specs.View.{SpannedView}
use Rattle.ecma_rewinding.specs.Rewinding.{GoesOn, take_none, takes_none}
use Rattle.ecma_rewinding.proofs.RewindingLemmas.{steps_go_on}
use Rattle.ecma_state.specs.Run.{act_all, act_on, session, start_of}
use Rattle.ecma_state.specs.Session.{Session, has_ended, state_of}
use Rattle.ecma_state.specs.declared.step.Step.{Step}
use Rattle.ecma_slashes.specs.Rereads.{StepsOn, all_by, behind_by, by_role, entered, found_by, meets_expression, read_steps, steps_by, steps_to_end_by, text_steps_by, unless_ended}
use Rattle.ecma_slashes.specs.Roles.{tokens_found, tokens_kept}
use Rattle.ecma_slashes.proofs.RoleLemmas.{tokens-behind}
use Rattle.ecma_slashes.proofs.RunLemmas.{SoFar, ended-some, runs_by_rule_end, so-far-end, text-counts}
use Rattle.ecma_slashes.proofs.TokenLemmas.{behind-ended, behind-fewer, behind-plain}
use Rattle.ecma_tracked.specs.Runs.{ExcursionsAreUndone, ReadingBegins, ReadingEnds, ReadingGoesOn, ReadsTo, TextsAreRead, end_of}
use Rattle.ecma_tracked.specs.States.{tracked_of}
use Rattle.ecma_tracked.proofs.MarkLemmas.{rewinding_undoes}

-- Steps that take no errors away

none-further : (s : Session) (xs ys : List Step) → take_none s xs ≡ true → take_none (act_all s xs) ys ≡ true → take_none s (xs ++ ys) ≡ true
none-further s [] ys first second = second
none-further s (x ∷ xs) ys first second =
    let parts = and_parts (takes_none s x) (take_none (act_on s x) xs) first in
    rw parts.0 (none-further (act_on s x) xs ys parts.1 second)

reads-none : (s : Session) (again : Bool) → take_none s (read_steps again) ≡ true
reads-none s true = refl
reads-none s false = refl

-- One token more

-- the steps so far, and those of the next token
abbrev one-more : (begin : Session) (tokens : List SpannedView) (s : Session) → ReadsTo begin tokens s → List Step
one-more begin tokens s to = to.steps ++ steps_by by_role s

there-next : (begin : Session) (tokens : List SpannedView) (s : Session) (to : ReadsTo begin tokens s) → behind_by by_role s ≡ act_all begin (one-more begin tokens s to)
there-next begin tokens s to = ap (λ x. act_all x (steps_by by_role s)) to.there ∙ sym (fold-append act_on begin to.steps (steps_by by_role s))

none-next : (begin : Session) (tokens : List SpannedView) (s : Session) (to : ReadsTo begin tokens s) → take_none begin (one-more begin tokens s to) ≡ true
none-next begin tokens s to =
    none-further begin to.steps (steps_by by_role s) to.takes_none (subst (λ x. take_none x (steps_by by_role s) ≡ true) to.there (reads-none s (meets_expression by_role s)))

pub reading_begins : ReadingBegins
reading_begins s plain =
    record {
      plain = plain;
      plain_still = plain;
      steps = [];
      there = refl;
      count = 0;
      first = λ n. ap (λ k. all_by by_role k s) (let same : 0 + n ≡ n = omega arith in same);
      left = omega arith;
      are_kept = sym (append-nil (tokens_kept s));
      takes_none = refl;
    }

pub reading_goes_on : ReadingGoesOn
reading_goes_on begin tokens s t to finds =
    let next : Session = behind_by by_role s in
    let going : has_ended next.past ≡ false = behind-ended by_role s ∙ ended-some (found_by by_role s) (ap is_some (sym finds)) in
    let less = behind-fewer by_role s to.plain_still (sym (behind-ended by_role s) ∙ going) in
    let left = to.left in
    record {
      plain = to.plain;
      plain_still = behind-plain by_role s to.plain_still;
      steps = one-more begin tokens s to;
      there = there-next begin tokens s to;
      count = to.count + 1;
      first = λ n. ap (λ k. all_by by_role k begin) (let same : (to.count + 1) + n ≡ to.count + suc n = omega arith in same)
          ∙ to.first (suc n)
          ∙ ap (λ b. to.steps ++ (steps_by by_role s ++ unless_ended b (all_by by_role n next))) going
          ∙ sym (append_assoc to.steps (steps_by by_role s) (all_by by_role n next));
      left = omega (arith, left, less);
      are_kept = tokens-behind by_role s to.plain_still
          ∙ ap (λ o. tokens_kept s ++ tokens_found o) (sym finds)
          ∙ ap (λ ts. ts ++ t ∷ []) to.are_kept
          ∙ append_assoc (tokens_kept begin) tokens (t ∷ []);
      takes_none = none-next begin tokens s to;
    }

-- The end

pub reading_ends : ReadingEnds
reading_ends begin tokens s to finds =
    let steps : List Step = one-more begin tokens s to in
    let so : SoFar by_role begin [] to.steps (state_of s) = record { here = s; added = to.steps; behind = refl; shows = refl; there = to.there; plain = to.plain_still; count = to.count; left = to.left; more = to.first } in
    let on : StepsOn by_role s to.steps steps false (state_of (behind_by by_role s)) = record { adds = refl; told = ap is_some finds; after = refl } in
    let both = so-far-end by_role begin [] to.steps steps (state_of s) (state_of (behind_by by_role s)) so on in
    let out : steps ≡ steps_to_end_by by_role begin = both.0 in
    let all : behind_by by_role s ≡ end_of begin = there-next begin tokens s to ∙ ap (act_all begin) out in
    record {
      all = all;
      are_kept = ap tokens_kept (sym all)
          ∙ tokens-behind by_role s to.plain_still
          ∙ ap (λ o. tokens_kept s ++ tokens_found o) (sym finds)
          ∙ append-nil (tokens_kept s)
          ∙ to.are_kept;
      ended = (runs_by_rule_end by_role begin to.plain).ended;
    }

pub texts_are_read : TextsAreRead
texts_are_read settings context input tokens s to finds =
    let read = reading_ends (entered settings context input) tokens s to finds in
    let run : session settings input (text_steps_by by_role settings context input) ≡ end_of (entered settings context input) = ap (act_all (start_of settings input)) (text-counts by_role settings context input) in
    record { all = read.all ∙ sym run; are_kept = sym read.are_kept ∙ ap tokens_kept (sym run) }

-- Going back

goes-on : (begin s : Session) (steps : List Step) → s ≡ act_all begin steps → take_none begin steps ≡ true → GoesOn (state_of begin) (state_of s)
goes-on begin s steps there none = subst (λ x. GoesOn (state_of begin) (state_of x)) (sym there) (steps_go_on begin steps none)

pub excursions_are_undone : ExcursionsAreUndone
excursions_are_undone begin s tokens within own to = (
  rewinding_undoes (tracked_of begin) (tracked_of s) within own (goes-on begin s to.steps to.there to.takes_none),
  rewinding_undoes (tracked_of begin) (tracked_of (behind_by by_role s)) within own (goes-on begin (behind_by by_role s) (one-more begin tokens s to) (there-next begin tokens s to) (none-next begin tokens s to)),
)
