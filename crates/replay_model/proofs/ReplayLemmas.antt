-- One more step of a replay, and where all of them lead.
use Rattle.std.proofs.Common.{◌≡◌, ◌∙◌, ℕ, zero, suc, ◌<◌, ◌≤◌, Bool, List, length, arith, [], ◌∷◌, ◌++◌, map, Some, None, Result, Ok, Err, refl, sym, subst, ap}
use Rattle.std.specs.Prelude.{slice_get, slice_index_or, IfOk}
use Rattle.std.proofs.lemmas.List.{map-append}
use Rattle.std.proofs.lemmas.List.Sums.{fold-append}
use Rattle.ecma_syntax.specs.declared.context.Context.{Context}
use Rattle.ecma_state.specs.Contexts.{Contexts}
use Rattle.ecma_state.specs.Counting.{Counted, count_all, count_step, counted, gone_back, none_yet}
use Rattle.replay_model.specs.Copies.{Acts, AllAt, Follows, IsAt, PlayerValue, RunnerValue, with_answer}
use Rattle.ecma_replay.specs.Replay.{answer_view}
use Rattle.ecma_state.specs.Run.{act, act_all, act_on, answer_behind, answers_behind, back_answer}
use Rattle.ecma_state.specs.Session.{Session}
use Rattle.ecma_replay.specs.declared.answer.Answer.{Answer}
use Rattle.ecma_replay.specs.declared.answer.Answer.TheVariants as answers
use Rattle.ecma_state.specs.declared.step.Step.{Step}
use Rattle.ecma_state.specs.declared.step.Step.TheVariants.{Read, SetCtx, SetExprAllowed, SetContexts, PopContext, Reread, Withdraw, Save, Back, TakeErrors}

-- the answers with one more step

answers-more : (begin : Session) (c : Counted) (xs : List Step) (x : Step) → answers_behind begin c (xs ++ x ∷ []) ≡ answers_behind begin c xs ++ answer_behind begin (count_all c xs) x ∷ []
answers-more begin c [] x = refl
answers-more begin c (y ∷ ys) x = ap (λ more. answer_behind begin c y ∷ more) (answers-more begin (count_step c y) ys x)

-- what stands behind one more step, by what it counts and answers
more : (begin : Session) (xs : List Step) (x : Step) (old new : RunnerValue) (answer : Answer) → Follows begin xs old
    → (c : Counted) → count_step (count_all none_yet xs) x ≡ c
    → IsAt (act_all begin c.steps) new.player → AllAt begin c.saves new.saves → new.answers ≡ old.answers
    → answer_view answer ≡ answer_behind begin (count_all none_yet xs) x → Follows begin (xs ++ x ∷ []) (with_answer new answer)
more begin xs x old new answer follows c counts player saves answers answered =
    let all : count_all none_yet (xs ++ x ∷ []) ≡ c = fold-append count_step none_yet xs (x ∷ []) ∙ counts in
    record {
      player = subst (λ d. IsAt (act_all begin d.steps) new.player) (sym all) player;
      saves = subst (λ d. AllAt begin d.saves new.saves) (sym all) saves;
      answers = map-append answer_view new.answers (answer ∷ [])
          ∙ ap (λ front. map answer_view front ++ answer_view answer ∷ []) answers
          ∙ ap (λ front. front ++ answer_view answer ∷ []) follows.answers
          ∙ ap (λ a. answers_behind begin none_yet xs ++ a ∷ []) answered
          ∙ sym (answers-more begin none_yet xs x);
    }

-- a step that counts
counts-one : (begin : Session) (xs : List Step) (x : Step) (old new : RunnerValue) (answer : Answer) → Follows begin xs old
    → count_step (count_all none_yet xs) x ≡ counted (count_all none_yet xs) x
    → answer_behind begin (count_all none_yet xs) x ≡ (act (act_all begin (count_all none_yet xs).steps) x).answer
    → ((s : Session) → IsAt s old.player → Acts (act s x) answer new.player) → new.saves ≡ old.saves → new.answers ≡ old.answers → Follows begin (xs ++ x ∷ []) (with_answer new answer)
counts-one begin xs x old new answer follows counts answers acts saves kept =
    let c = count_all none_yet xs in
    let acted = acts (act_all begin c.steps) follows.player in
    let further : act_all begin (c.steps ++ x ∷ []) ≡ act_on (act_all begin c.steps) x = fold-append act_on begin c.steps (x ∷ []) in
    more begin xs x old new answer follows (counted c x) counts (subst (λ s. IsAt s new.player) (sym further) acted.after) (subst (AllAt begin c.saves) (sym saves) follows.saves) kept (acted.answered ∙ sym answers)

-- each of them

pub record Counts (x : Step) : Type 0 where
  pub steps : (c : Counted) → count_step c x ≡ counted c x
  pub answers : (begin : Session) (c : Counted) → answer_behind begin c x ≡ (act (act_all begin c.steps) x).answer

pub counts_read : Counts Read
unfolding count_step
counts_read = record { steps = λ c. refl; answers = λ begin c. refl }

pub counts_set_ctx : (context : Context) → Counts (SetCtx context)
unfolding count_step
counts_set_ctx context = record { steps = λ c. refl; answers = λ begin c. refl }

pub counts_set_expr_allowed : (allowed : Bool) → Counts (SetExprAllowed allowed)
unfolding count_step
counts_set_expr_allowed allowed = record { steps = λ c. refl; answers = λ begin c. refl }

pub counts_set_contexts : (contexts : Contexts) → Counts (SetContexts contexts)
unfolding count_step
counts_set_contexts contexts = record { steps = λ c. refl; answers = λ begin c. refl }

pub counts_pop_context : Counts PopContext
unfolding count_step
counts_pop_context = record { steps = λ c. refl; answers = λ begin c. refl }

pub counts_reread : Counts Reread
unfolding count_step
counts_reread = record { steps = λ c. refl; answers = λ begin c. refl }

pub counts_withdraw : Counts Withdraw
unfolding count_step
counts_withdraw = record { steps = λ c. refl; answers = λ begin c. refl }

pub counts_take_errors : Counts TakeErrors
unfolding count_step
counts_take_errors = record { steps = λ c. refl; answers = λ begin c. refl }

-- so does such a step where the runner is seen whole
pub step_follows : (x step : Step) → step ≡ x → Counts x → (old shown new : RunnerValue) (answer : Answer) → shown ≡ old → new.saves ≡ shown.saves → new.answers ≡ shown.answers
    → ((s : Session) → IsAt s shown.player → Acts (act s x) answer new.player) → (begin : Session) (xs : List Step) → Follows begin xs old → Follows begin (xs ++ step ∷ []) (with_answer new answer)
step_follows x step is counts old shown new answer shows saves kept acts begin xs follows =
    subst (λ y. Follows begin (xs ++ y ∷ []) (with_answer new answer)) (sym is)
    (counts-one begin xs x shown new answer (subst (Follows begin xs) (sym shows) follows) (counts.steps (count_all none_yet xs)) (counts.answers begin (count_all none_yet xs)) acts saves kept)

pub step_follows_ok : {E : Type 0} → (x step : Step) → step ≡ x → Counts x → (old shown new : RunnerValue) (result : Result Answer E) → shown ≡ old → new.saves ≡ shown.saves → new.answers ≡ shown.answers
    → ((s : Session) → IsAt s shown.player → IfOk result (λ answer. Acts (act s x) answer new.player)) → (begin : Session) (xs : List Step) → Follows begin xs old
    → IfOk result (λ answer. Follows begin (xs ++ step ∷ []) (with_answer new answer))
step_follows_ok x step is counts old shown new (Ok answer) shows saves kept acts begin xs follows =
    step_follows x step is counts old shown new answer shows saves kept acts begin xs follows
step_follows_ok x step is counts old shown new (Err error) shows saves kept acts begin xs follows = tt

-- a save

all-more : (begin : Session) (steps : List (List Step)) (ps : List PlayerValue) (more : List Step) (p : PlayerValue) → AllAt begin steps ps → IsAt (act_all begin more) p → AllAt begin (steps ++ more ∷ []) (ps ++ p ∷ [])
all-more begin [] [] more p all at = (at, tt)
all-more begin [] (q ∷ qs) more p all at = absurd all
all-more begin (xs ∷ xss) [] more p all at = absurd all
all-more begin (xs ∷ xss) (q ∷ qs) more p all at = (all.0, all-more begin xss qs more p all.1 at)

pub save_follows : (begin : Session) (xs : List Step) (old new : RunnerValue) (saved : PlayerValue) → Follows begin xs old → ((s : Session) → IsAt s old.player → IsAt s saved)
    → new.player ≡ old.player → new.saves ≡ old.saves ++ saved ∷ [] → new.answers ≡ old.answers → Follows begin (xs ++ Save ∷ []) (with_answer new answers.Done)
unfolding count_step
save_follows begin xs old new saved follows same player saves kept =
    let c = count_all none_yet xs in
    let here = act_all begin c.steps in
    more begin xs Save old new answers.Done follows (record c { saves = c.saves ++ c.steps ∷ [] }) refl (subst (IsAt here) (sym player) follows.player)
    (subst (AllAt begin (c.saves ++ c.steps ∷ [])) (sym saves) (all-more begin c.saves old.saves c.steps saved follows.saves (same here follows.player)))
    kept refl

-- a way back

pub get-some : (ps : List PlayerValue) (n : ℕ) (p : PlayerValue) → n < length ps → ((d : PlayerValue) → p ≡ slice_index_or ps n d) → slice_get ps n ≡ Some p
get-some [] n p less is = absurd (omega (arith, less))
get-some (q ∷ qs) zero p less is = ap (λ x. Some x) (sym (is p))
get-some (q ∷ qs) (suc n) p less is = get-some qs n p (omega (arith, less)) is

pub get-none : (ps : List PlayerValue) (n : ℕ) → length ps ≤ n → slice_get ps n ≡ None
get-none [] zero past = refl
get-none [] (suc n) past = refl
get-none (q ∷ qs) zero past = absurd (omega (arith, past))
get-none (q ∷ qs) (suc n) past = get-none qs n (omega (arith, past))

-- the save of a number has come to where the steps of that number lead
all-get : (begin : Session) (steps : List (List Step)) (ps : List PlayerValue) (n : ℕ) (p : PlayerValue) → AllAt begin steps ps → slice_get ps n ≡ Some p
    → (xs : List Step) × (slice_get steps n ≡ Some xs) × IsAt (act_all begin xs) p
all-get begin [] [] n p all e = cc
all-get begin [] (q ∷ qs) n p all e = absurd all
all-get begin (xs ∷ xss) [] n p all e = absurd all
all-get begin (xs ∷ xss) (q ∷ qs) zero p all e = let same : q ≡ p = cc in (xs, refl, subst (IsAt (act_all begin xs)) same all.0)
all-get begin (xs ∷ xss) (q ∷ qs) (suc n) p all e = all-get begin xss qs n p all.1 e

all-none : (begin : Session) (steps : List (List Step)) (ps : List PlayerValue) (n : ℕ) → AllAt begin steps ps → slice_get ps n ≡ None → slice_get steps n ≡ None
all-none begin [] [] zero all e = refl
all-none begin [] [] (suc n) all e = refl
all-none begin [] (q ∷ qs) n all e = absurd all
all-none begin (xs ∷ xss) [] n all e = absurd all
all-none begin (xs ∷ xss) (q ∷ qs) zero all e = cc
all-none begin (xs ∷ xss) (q ∷ qs) (suc n) all e = all-none begin xss qs n all.1 e

pub back_follows : (begin : Session) (xs : List Step) (n : ℕ) (old new : RunnerValue) (saved : PlayerValue) → Follows begin xs old → slice_get old.saves n ≡ Some saved
    → ((s : Session) → IsAt s saved → IsAt s new.player) → new.saves ≡ old.saves → new.answers ≡ old.answers → Follows begin (xs ++ Back n ∷ []) (with_answer new answers.Done)
unfolding count_step
back_follows begin xs n old new saved follows found same saves kept =
    let c = count_all none_yet xs in
    let there = all-get begin c.saves old.saves n saved follows.saves found in
    more begin xs (Back n) old new answers.Done follows (record c { steps = there.0 }) (ap (gone_back c) there.1) (same (act_all begin there.0) there.2)
    (subst (AllAt begin c.saves) (sym saves) follows.saves) kept (sym (ap back_answer there.1))

pub no_save_follows : (begin : Session) (xs : List Step) (n : ℕ) (old new : RunnerValue) → Follows begin xs old → slice_get old.saves n ≡ None
    → new ≡ old → Follows begin (xs ++ Back n ∷ []) (with_answer new answers.NoSave)
unfolding count_step
no_save_follows begin xs n old new follows none same =
    let c = count_all none_yet xs in
    let no_steps = all-none begin c.saves old.saves n follows.saves none in
    more begin xs (Back n) old new answers.NoSave follows c (ap (gone_back c) no_steps) (subst (λ r. IsAt (act_all begin c.steps) r.player) (sym same) follows.player)
    (subst (λ r. AllAt begin c.saves r.saves) (sym same) follows.saves) (ap (λ r. r.answers) same) (sym (ap back_answer no_steps))

-- before any step
pub start_follows : (begin : Session) (r : RunnerValue) → IsAt begin r.player → r.saves ≡ [] → r.answers ≡ [] → Follows begin [] r
start_follows begin r player saves none =
    record { player = player; saves = subst (AllAt begin []) (sym saves) tt; answers = ap (map answer_view) none }
