-- Whole runs in which the slashes that a rule names are read again.
use Rattle.std.proofs.Common.{◌≡◌, ◌∙◌, ℕ, zero, suc, ◌+◌, ◌-◌, ◌<◌, ◌≤◌, Bool, true, false, List, [], ◌∷◌, ◌++◌, append_assoc, append-nil, Option, Some, None, length, refl, sym, ap, arith}
use Rattle.std.specs.Prelude.{is_some}
use Rattle.std.proofs.lemmas.List.Sums.{fold-append}
use Rattle.std.proofs.lemmas.Str.{length-le-encodes}
use Rattle.ecma_place.specs.Cursor.{Cursor, rest}
use Rattle.ecma_place.specs.Text.{byte_len}
use Rattle.ecma_syntax.specs.declared.context.Context.{Context}
use Rattle.ecma_token.specs.View.{SpannedView}
use Rattle.ecma_state.specs.Counting.{Counted, count_all, count_step, counting, none_yet}
use Rattle.ecma_state.specs.Run.{act_all, act_on, session, start_of}
use Rattle.ecma_state.specs.Session.{LexerState, Session, has_ended, seen_of, state_of}
use Rattle.ecma_state.specs.State.{previous}
use Rattle.ecma_state.specs.declared.settings.Settings.{Settings}
use Rattle.ecma_state.specs.declared.step.Step.{Step}
use Rattle.ecma_state.specs.declared.step.Step.TheVariants.{SetCtx}
use Rattle.ecma_state.specs.Ending.{enough, most_tokens}
use Rattle.ecma_stream.proofs.EndLemmas.{room-le}
use Rattle.ecma_slashes.specs.Rereads.{RunsByRuleAreRuns, RunsByRuleEnd, SlashRule, StepsOn, TextsAreReadOut, all_by, behind_by, entered, found_by, meets_expression, read_steps, steps_by, steps_to_end_by, text_steps_by, unless_ended}
use Rattle.ecma_slashes.proofs.TokenLemmas.{behind-ended, behind-fewer, behind-plain, ended_by}

-- enough reads are more than all tokens
most-enough : (s : Session) → most_tokens (state_of s) < enough s.input
most-enough s =
    let bound : length (rest s.input) ≤ byte_len (rest s.input) = length-le-encodes (rest s.input) in
    omega (arith, bound, room-le (previous (seen_of s.past)))

-- a token and all behind it
along : (rule : SlashRule) (s : Session) (n : ℕ) → act_all s (all_by rule (suc n) s) ≡ act_all (behind_by rule s) (unless_ended (has_ended (behind_by rule s).past) (all_by rule n (behind_by rule s)))
along rule s n = fold-append act_on s (steps_by rule s) (unless_ended (has_ended (behind_by rule s).past) (all_by rule n (behind_by rule s)))

-- The end

-- such a run ends
abbrev Ends : Session → List Step → Type 0
Ends s steps = (has_ended (act_all s steps).past ≡ true) × ((act_all s steps).reread ≡ None)

ends : (rule : SlashRule) (n : ℕ) (s : Session) → s.reread ≡ None → most_tokens (state_of s) < n → Ends s (all_by rule n s)
ends rule zero s plain h = absurd (omega (arith, h))
ends rule (suc n) s plain h = go (has_ended (behind_by rule s).past) refl (ends rule n (behind_by rule s) (behind-plain rule s plain))
  where
    next : Session
    next = behind_by rule s

    go : (b : Bool) → has_ended next.past ≡ b → (most_tokens (state_of next) < n → Ends next (all_by rule n next)) → Ends s (all_by rule (suc n) s)
    go true e more =
        let there : act_all s (all_by rule (suc n) s) ≡ next = along rule s n ∙ ap (λ b. act_all next (unless_ended b (all_by rule n next))) e in
        (ap (λ x. has_ended x.past) there ∙ e, ap (λ x. x.reread) there ∙ behind-plain rule s plain)
    go false e more =
        let there : act_all s (all_by rule (suc n) s) ≡ act_all next (all_by rule n next) = along rule s n ∙ ap (λ b. act_all next (unless_ended b (all_by rule n next))) e in
        let less = behind-fewer rule s plain (sym (behind-ended rule s) ∙ e) in
        let both = more (omega (arith, h, less)) in
        (ap (λ x. has_ended x.past) there ∙ both.0, ap (λ x. x.reread) there ∙ both.1)

pub runs_by_rule_end : RunsByRuleEnd
unfolding steps_to_end_by
runs_by_rule_end rule s plain =
    let both = ends rule (enough s.input) s plain (most-enough s) in
    record { ended = both.0; plain = both.1 }

-- Each step counts

-- steps stand behind those that count so far
abbrev pub Counts : List Step → Type 0
Counts steps = (c : Counted) → count_all c steps ≡ record c { steps = c.steps ++ steps }

pub none-counts : Counts []
none-counts c = ap (λ steps. record c { steps = steps }) (sym (append-nil c.steps))

read-counts : (b : Bool) → Counts (read_steps b)
unfolding count_step
read-counts false c = refl
read-counts true c = ap (λ steps. record c { steps = steps }) (simp append_assoc)

pub both-count : (a b : List Step) → Counts a → Counts b → Counts (a ++ b)
both-count a b first more c =
    fold-append count_step c a b ∙ ap (λ d. count_all d b) (first c) ∙ more (record c { steps = c.steps ++ a }) ∙ ap (λ steps. record c { steps = steps }) (append_assoc c.steps a b)

unless-counts : (b : Bool) (steps : List Step) → Counts steps → Counts (unless_ended b steps)
unless-counts true steps counts = none-counts
unless-counts false steps counts = counts

counts : (rule : SlashRule) (n : ℕ) (s : Session) → Counts (all_by rule n s)
counts rule zero s = none-counts
counts rule (suc n) s =
    both-count (steps_by rule s) (unless_ended (has_ended (behind_by rule s).past) (all_by rule n (behind_by rule s)))
    (read-counts (meets_expression rule s))
    (unless-counts (has_ended (behind_by rule s).past) (all_by rule n (behind_by rule s)) (counts rule n (behind_by rule s)))

pub runs_by_rule_are_runs : RunsByRuleAreRuns
unfolding steps_to_end_by
runs_by_rule_are_runs rule settings input before =
    let begun : Session = start_of settings input in
    let there : Session = session settings input before in
    let steps : List Step = all_by rule (enough there.input) there in
    let all : counting (before ++ steps) ≡ counting before ++ steps =
    ap (λ c. c.steps) (fold-append count_step none_yet before steps ∙ counts rule (enough there.input) there (count_all none_yet before)) in
    ap (act_all begun) all ∙ fold-append act_on begun (counting before) steps

-- the steps by which a text is read all count
pub text-counts : (rule : SlashRule) (settings : Settings) (context : Context) (input : Cursor)
    → counting (text_steps_by rule settings context input) ≡ text_steps_by rule settings context input
unfolding count_step steps_to_end_by
text-counts rule settings context input =
    let first : Session = entered settings context input in
    ap (λ c. c.steps) (counts rule (enough first.input) first (count_step none_yet (SetCtx context)))

pub texts_are_read_out : TextsAreReadOut
unfolding count_step
texts_are_read_out rule settings context input =
    let first : session settings input (SetCtx context ∷ []) ≡ entered settings context input = refl in
    let whole = runs_by_rule_are_runs rule settings input (SetCtx context ∷ []) in
    let steps : session settings input (text_steps_by rule settings context input) ≡ act_all (entered settings context input) (steps_to_end_by rule (entered settings context input)) = whole in
    ap (λ s. has_ended s.past) steps ∙ (runs_by_rule_end rule (entered settings context input) refl).ended

-- For a loop that reads to the end

-- so many tokens were read from a session on by the steps that were added, and a lexer shows where they led
pub record SoFar (rule : SlashRule) (begun : Session) (before steps : List Step) (l : LexerState) : Type 0 where
  pub here : Session
  pub added : List Step
  pub behind : steps ≡ before ++ added
  pub shows : l ≡ state_of here
  pub there : here ≡ act_all begun added
  pub plain : here.reread ≡ None
  pub count : ℕ
  pub left : count + most_tokens l ≤ most_tokens (state_of begun)
  pub more : (n : ℕ) → all_by rule (count + n) begun ≡ added ++ all_by rule n here

unfoldable pub so-far-start : (rule : SlashRule) (s : Session) (before : List Step) (l : LexerState) → l ≡ state_of s → s.reread ≡ None → SoFar rule s before before l
so-far-start rule s before l at plain =
    record {
      here = s;
      added = [];
      behind = sym (append-nil before);
      shows = at;
      there = refl;
      plain = plain;
      count = 0;
      left = (let same = ap most_tokens at in omega (arith, same));
      more = λ n. ap (λ k. all_by rule k s) (let same : 0 + n ≡ n = omega arith in same);
    }

pub ended-some : (found : Option SpannedView) → is_some found ≡ true → ended_by found ≡ false
ended-some None h = cc
ended-some (Some t) h = refl

pub ended-none : (found : Option SpannedView) → is_some found ≡ false → ended_by found ≡ true
ended-none None h = refl
ended-none (Some t) h = cc

unfoldable pub so-far-next : (rule : SlashRule) (begun : Session) (before steps now : List Step) (l next : LexerState) (so : SoFar rule begun before steps l) → StepsOn rule so.here steps now true next → SoFar rule begun before now next
so-far-next rule begun before steps now l next so on =
    let r = so.here in
    let going : has_ended (behind_by rule r).past ≡ false = behind-ended rule r ∙ ended-some (found_by rule r) (sym on.told) in
    let less = behind-fewer rule r so.plain (sym (behind-ended rule r) ∙ going) in
    record {
      here = behind_by rule r;
      added = so.added ++ steps_by rule r;
      behind = on.adds ∙ ap (λ front. front ++ steps_by rule r) so.behind ∙ append_assoc before so.added (steps_by rule r);
      shows = on.after;
      there = ap (λ x. act_all x (steps_by rule r)) so.there ∙ sym (fold-append act_on begun so.added (steps_by rule r));
      plain = behind-plain rule r so.plain;
      count = so.count + 1;
      left = (let left = so.left in let here = ap most_tokens so.shows in let there = ap most_tokens on.after in omega (arith, left, here, there, less));
      more = λ n. ap (λ k. all_by rule k begun) (let same : (so.count + 1) + n ≡ so.count + suc n = omega arith in same)
          ∙ so.more (suc n)
          ∙ ap (λ b. so.added ++ (steps_by rule r ++ unless_ended b (all_by rule n (behind_by rule r)))) going
          ∙ sym (append_assoc so.added (steps_by rule r) (all_by rule n (behind_by rule r)));
    }

-- behind the read that answers the end all steps were added, and the lexer shows where they lead
pub so-far-end : (rule : SlashRule) (begun : Session) (before steps now : List Step) (l next : LexerState) (so : SoFar rule begun before steps l) → StepsOn rule so.here steps now false next
    → (now ≡ before ++ steps_to_end_by rule begun) × (next ≡ state_of (act_all begun (steps_to_end_by rule begun)))
unfolding steps_to_end_by
so-far-end rule begun before steps now l next so on =
    let r = so.here in
    let n : ℕ = enough begun.input in
    let left = so.left in
    let most = most-enough begun in
    let ended : has_ended (behind_by rule r).past ≡ true = behind-ended rule r ∙ ended-none (found_by rule r) (sym on.told) in
    let count : n ≡ so.count + suc (n - (so.count + 1)) = omega (arith, left, most) in
    let all : all_by rule n begun ≡ so.added ++ steps_by rule r =
    ap (λ k. all_by rule k begun) count
    ∙ so.more (suc (n - (so.count + 1)))
    ∙ ap (λ b. so.added ++ (steps_by rule r ++ unless_ended b (all_by rule (n - (so.count + 1)) (behind_by rule r)))) ended
    ∙ ap (λ last. so.added ++ last) (append-nil (steps_by rule r)) in (
      on.adds ∙ ap (λ front. front ++ steps_by rule r) so.behind ∙ append_assoc before so.added (steps_by rule r) ∙ ap (λ x. before ++ x) (sym all),
      on.after ∙ ap (λ x. state_of (act_all x (steps_by rule r))) so.there ∙ ap state_of (sym (fold-append act_on begun so.added (steps_by rule r)) ∙ ap (act_all begun) (sym all)),
    )
