-- One more step of a replay, and where all of them lead.
use Rattle.std.proofs.Common.{◌≡◌, ◌∙◌, ℕ, zero, suc, ◌<◌, ◌≤◌, Bool, List, length, arith, [], ◌∷◌, ◌++◌, map, Some, None, Result, Ok, Err, refl, sym, subst, ap}
use Rattle.std.specs.Prelude.{slice_get, slice_index_or, IfOk, OnOk}
use Rattle.std.proofs.lemmas.List.{map-append}
use Rattle.std.proofs.lemmas.List.Sums.{fold-append}
use Rattle.ecma_syntax.specs.declared.context.Context.{Context}
use Rattle.ecma_state.specs.Contexts.{Contexts}
use Rattle.ecma_state.specs.Counting.{Counted, count_all, count_step, counted, gone_back, none_yet}
use Rattle.ecma_replay.specs.Playing.{Acts, AllAt, BranchValue, CourseValue, Follows, Grow, IsAt, Responds, Stands}
use Rattle.ecma_replay.specs.Replay.{answer_view}
use Rattle.ecma_replay.specs.declared.trees.Trees.{Trees}
use Rattle.ecma_replay.proofs.JoinedLemmas.{all-grown}
use Rattle.ecma_state.specs.Run.{act, act_all, act_on, answer_behind, answers_behind, back_answer}
use Rattle.ecma_state.specs.Session.{Session}
use Rattle.ecma_replay.specs.declared.answer.Answer.{Answer}
use Rattle.ecma_replay.specs.declared.answer.Answer.TheVariants as answers
use Rattle.ecma_state.specs.declared.step.Step.{Step}
use Rattle.ecma_state.specs.declared.step.Step.TheVariants.{Read, SetCtx, SetExprAllowed, SetContexts, PopContext, Reread, Withdraw, Save, Back, TakeErrors}

-- the answers with one more step

answers-more : (begin : Session) (c : Counted) (xs : List Step) (x : Step) → answers_behind begin c (xs ++ x ∷ []) ≡ answers_behind begin c xs ++ answer_behind begin (count_all c xs) x ∷ []
answers-more begin c [] x = refl
answers-more begin c (y ∷ ys) x = ap (λ more. answer_behind begin c y ∷ more) (answers-more begin (count_step c y) ys x)

-- what stands behind one more step, by what it counts and answers
more : (begin : Session) (xs : List Step) (x : Step) (new : CourseValue) (answer : Answer)
    → (c : Counted) → count_step (count_all none_yet xs) x ≡ c
    → IsAt new.trees (act_all begin c.steps) new.branch → AllAt new.trees begin c.saves new.saves
    → answer_view answer ≡ answer_behind begin (count_all none_yet xs) x → Responds begin xs x answer new
more begin xs x new answer c counts branch saves answered =
    let all : count_all none_yet (xs ++ x ∷ []) ≡ c = fold-append count_step none_yet xs (x ∷ []) ∙ counts in
    record {
      answered = answered;
      stands = record {
        branch = subst (λ d. IsAt new.trees (act_all begin d.steps) new.branch) (sym all) branch;
        saves = subst (λ d. AllAt new.trees begin d.saves new.saves) (sym all) saves;
      };
    }

-- its answer stands behind those before it
pub follows_more : (begin : Session) (xs : List Step) (x : Step) (before answers : List Answer) (answer : Answer) (old new : CourseValue) → Follows begin xs before old
    → answers ≡ before ++ answer ∷ [] → Responds begin xs x answer new → Follows begin (xs ++ x ∷ []) answers new
follows_more begin xs x before answers answer old new follows adds responds = record {
  answers = ap (map answer_view) adds ∙ map-append answer_view before (answer ∷ [])
      ∙ ap (λ front. front ++ answer_view answer ∷ []) follows.answers
      ∙ ap (λ a. answers_behind begin none_yet xs ++ a ∷ []) responds.answered
      ∙ sym (answers-more begin none_yet xs x);
  stands = responds.stands;
}

-- a step that counts
counts-one : (begin : Session) (xs : List Step) (x : Step) (old new : CourseValue) (answer : Answer) → Stands begin xs old
    → count_step (count_all none_yet xs) x ≡ counted (count_all none_yet xs) x
    → answer_behind begin (count_all none_yet xs) x ≡ (act (act_all begin (count_all none_yet xs).steps) x).answer
    → ((s : Session) → IsAt old.trees s old.branch → Acts new.trees (act s x) answer new.branch) → Grow old.trees new.trees → new.saves ≡ old.saves → Responds begin xs x answer new
counts-one begin xs x old new answer stands counts answers acts grows saves =
    let c = count_all none_yet xs in
    let acted = acts (act_all begin c.steps) stands.branch in
    let further : act_all begin (c.steps ++ x ∷ []) ≡ act_on (act_all begin c.steps) x = fold-append act_on begin c.steps (x ∷ []) in
    more begin xs x new answer (counted c x) counts (subst (λ s. IsAt new.trees s new.branch) (sym further) acted.after)
    (subst (AllAt new.trees begin c.saves) (sym saves) (all-grown old.trees new.trees grows begin c.saves old.saves stands.saves)) (acted.answered ∙ sym answers)

-- each of them

pub record Counts (x : Step) : Type 0 where
  pub steps : (c : Counted) → count_step c x ≡ counted c x
  pub answers : (begin : Session) (c : Counted) → answer_behind begin c x ≡ (act (act_all begin c.steps) x).answer

pub counts_read : Counts Read
unfolding count_step
counts_read = record { steps = λ c. refl; answers = λ begin c. refl }

pub counts_set_ctx : (context : Context) → Counts (SetCtx context)
unfolding count_step
counts_set_ctx context = record { steps = λ c. refl; answers = λ begin c. refl }

pub counts_set_expr_allowed : (allowed : Bool) → Counts (SetExprAllowed allowed)
unfolding count_step
counts_set_expr_allowed allowed = record { steps = λ c. refl; answers = λ begin c. refl }

pub counts_set_contexts : (contexts : Contexts) → Counts (SetContexts contexts)
unfolding count_step
counts_set_contexts contexts = record { steps = λ c. refl; answers = λ begin c. refl }

pub counts_pop_context : Counts PopContext
unfolding count_step
counts_pop_context = record { steps = λ c. refl; answers = λ begin c. refl }

pub counts_reread : Counts Reread
unfolding count_step
counts_reread = record { steps = λ c. refl; answers = λ begin c. refl }

pub counts_withdraw : Counts Withdraw
unfolding count_step
counts_withdraw = record { steps = λ c. refl; answers = λ begin c. refl }

pub counts_take_errors : Counts TakeErrors
unfolding count_step
counts_take_errors = record { steps = λ c. refl; answers = λ begin c. refl }

-- so does such a step where the course is seen whole
pub step_responds : (x step : Step) → step ≡ x → Counts x → (old shown new : CourseValue) (answer : Answer) → shown ≡ old → new.saves ≡ shown.saves → Grow shown.trees new.trees
    → ((s : Session) → IsAt shown.trees s shown.branch → Acts new.trees (act s x) answer new.branch) → (begin : Session) (xs : List Step) → Stands begin xs old → Responds begin xs step answer new
step_responds x step is counts old shown new answer shows saves grows acts begin xs stands =
    subst (λ y. Responds begin xs y answer new) (sym is)
    (counts-one begin xs x shown new answer (subst (Stands begin xs) (sym shows) stands) (counts.steps (count_all none_yet xs)) (counts.answers begin (count_all none_yet xs)) acts grows saves)

pub step_responds_ok : {E : Type 0} → (x step : Step) → step ≡ x → Counts x → (old shown new : CourseValue) (result : Result Answer E) → shown ≡ old → new.saves ≡ shown.saves → OnOk result (Grow shown.trees new.trees)
    → ((s : Session) → IsAt shown.trees s shown.branch → IfOk result (λ answer. Acts new.trees (act s x) answer new.branch)) → (begin : Session) (xs : List Step) → Stands begin xs old
    → IfOk result (λ answer. Responds begin xs step answer new)
step_responds_ok x step is counts old shown new (Ok answer) shows saves grows acts begin xs stands =
    step_responds x step is counts old shown new answer shows saves grows acts begin xs stands
step_responds_ok x step is counts old shown new (Err error) shows saves grows acts begin xs stands = tt

-- a read, whose answer stands in a slot
pub read_responds : {V E : Type 0} → (old shown new : CourseValue) (result : Result V E) (answer : Answer) → shown ≡ old → new.saves ≡ shown.saves → OnOk result (Grow shown.trees new.trees)
    → ((s : Session) → IsAt shown.trees s shown.branch → OnOk result (Acts new.trees (act s Read) answer new.branch)) → (begin : Session) (xs : List Step) → Stands begin xs old
    → OnOk result (Responds begin xs Read answer new)
read_responds old shown new (Ok v) answer shows saves grows acts begin xs stands =
    step_responds Read Read refl counts_read old shown new answer shows saves grows acts begin xs stands
read_responds old shown new (Err error) answer shows saves grows acts begin xs stands = tt

-- a save

all-more : (es : Trees) (begin : Session) (steps : List (List Step)) (ps : List BranchValue) (more : List Step) (p : BranchValue) → AllAt es begin steps ps → IsAt es (act_all begin more) p → AllAt es begin (steps ++ more ∷ []) (ps ++ p ∷ [])
all-more es begin [] [] more p all at = (at, tt)
all-more es begin [] (q ∷ qs) more p all at = absurd all
all-more es begin (xs ∷ xss) [] more p all at = absurd all
all-more es begin (xs ∷ xss) (q ∷ qs) more p all at = (all.0, all-more es begin xss qs more p all.1 at)

pub save_responds : (begin : Session) (xs : List Step) (old new : CourseValue) (saved : BranchValue) → Stands begin xs old → Grow old.trees new.trees
    → ((s : Session) → IsAt old.trees s old.branch → IsAt new.trees s new.branch) → ((s : Session) → IsAt new.trees s new.branch → IsAt new.trees s saved)
    → new.saves ≡ old.saves ++ saved ∷ [] → Responds begin xs Save answers.Done new
unfolding count_step
save_responds begin xs old new saved stands grow settles same saves =
    let c = count_all none_yet xs in
    let here = act_all begin c.steps in
    let at = settles here stands.branch in
    more begin xs Save new answers.Done (record c { saves = c.saves ++ c.steps ∷ [] }) refl at
    (subst (AllAt new.trees begin (c.saves ++ c.steps ∷ [])) (sym saves) (all-more new.trees begin c.saves old.saves c.steps saved (all-grown old.trees new.trees grow begin c.saves old.saves stands.saves) (same here at)))
    refl

-- a way back

pub get-some : (ps : List BranchValue) (n : ℕ) (p : BranchValue) → n < length ps → ((d : BranchValue) → p ≡ slice_index_or ps n d) → slice_get ps n ≡ Some p
get-some [] n p less is = absurd (omega (arith, less))
get-some (q ∷ qs) zero p less is = ap (λ x. Some x) (sym (is p))
get-some (q ∷ qs) (suc n) p less is = get-some qs n p (omega (arith, less)) is

pub get-none : (ps : List BranchValue) (n : ℕ) → length ps ≤ n → slice_get ps n ≡ None
get-none [] zero past = refl
get-none [] (suc n) past = refl
get-none (q ∷ qs) zero past = absurd (omega (arith, past))
get-none (q ∷ qs) (suc n) past = get-none qs n (omega (arith, past))

-- the save of a number has come to where the steps of that number lead
all-get : (es : Trees) (begin : Session) (steps : List (List Step)) (ps : List BranchValue) (n : ℕ) (p : BranchValue) → AllAt es begin steps ps → slice_get ps n ≡ Some p
    → (xs : List Step) × (slice_get steps n ≡ Some xs) × IsAt es (act_all begin xs) p
all-get es begin [] [] n p all e = cc
all-get es begin [] (q ∷ qs) n p all e = absurd all
all-get es begin (xs ∷ xss) [] n p all e = absurd all
all-get es begin (xs ∷ xss) (q ∷ qs) zero p all e = let same : q ≡ p = cc in (xs, refl, subst (IsAt es (act_all begin xs)) same all.0)
all-get es begin (xs ∷ xss) (q ∷ qs) (suc n) p all e = all-get es begin xss qs n p all.1 e

all-none : (es : Trees) (begin : Session) (steps : List (List Step)) (ps : List BranchValue) (n : ℕ) → AllAt es begin steps ps → slice_get ps n ≡ None → slice_get steps n ≡ None
all-none es begin [] [] zero all e = refl
all-none es begin [] [] (suc n) all e = refl
all-none es begin [] (q ∷ qs) n all e = absurd all
all-none es begin (xs ∷ xss) [] n all e = absurd all
all-none es begin (xs ∷ xss) (q ∷ qs) zero all e = cc
all-none es begin (xs ∷ xss) (q ∷ qs) (suc n) all e = all-none es begin xss qs n all.1 e

pub back_responds : (begin : Session) (xs : List Step) (n : ℕ) (old new : CourseValue) (saved : BranchValue) → Stands begin xs old → slice_get old.saves n ≡ Some saved
    → ((s : Session) → IsAt old.trees s saved → IsAt old.trees s new.branch) → new.trees ≡ old.trees → new.saves ≡ old.saves → Responds begin xs (Back n) answers.Done new
unfolding count_step
back_responds begin xs n old new saved stands found same entries saves =
    let c = count_all none_yet xs in
    let there = all-get old.trees begin c.saves old.saves n saved stands.saves found in
    more begin xs (Back n) new answers.Done (record c { steps = there.0 }) (ap (gone_back c) there.1) (subst (λ es. IsAt es (act_all begin there.0) new.branch) (sym entries) (same (act_all begin there.0) there.2))
    (subst (λ es. AllAt es begin c.saves new.saves) (sym entries) (subst (AllAt old.trees begin c.saves) (sym saves) stands.saves)) (sym (ap back_answer there.1))

pub no_save_responds : (begin : Session) (xs : List Step) (n : ℕ) (old new : CourseValue) → Stands begin xs old → slice_get old.saves n ≡ None
    → new ≡ old → Responds begin xs (Back n) answers.NoSave new
unfolding count_step
no_save_responds begin xs n old new stands none same =
    let c = count_all none_yet xs in
    let no_steps = all-none old.trees begin c.saves old.saves n stands.saves none in
    more begin xs (Back n) new answers.NoSave c (ap (gone_back c) no_steps) (subst (λ r. IsAt r.trees (act_all begin c.steps) r.branch) (sym same) stands.branch)
    (subst (λ r. AllAt r.trees begin c.saves r.saves) (sym same) stands.saves) (sym (ap back_answer no_steps))

-- before any step
pub start_stands : (begin : Session) (r : CourseValue) → IsAt r.trees begin r.branch → r.saves ≡ [] → Stands begin [] r
start_stands begin r branch saves = record { branch = branch; saves = subst (AllAt r.trees begin []) (sym saves) tt }
