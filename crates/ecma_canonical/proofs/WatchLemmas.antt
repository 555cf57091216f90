-- The watch over steps and their answers tells what holds behind the steps that count.
use Rattle.std.proofs.Common.{◌≡◌, ◌∙◌, ℕ, ◌+◌, ◌<◌, ◌≤◌, Bool, true, false, not, ◌&&◌, ◌||◌, List, [], ◌∷◌, ◌++◌, length, suc, map, drop, get_or, arith, Option, Some, None, refl, sym, ap}
use Rattle.std.specs.Prelude.{is_some, option_map, slice_get}
use Rattle.std.proofs.Math.Bool.{and-true, and_assoc, or-false, or-true}
use Rattle.std.proofs.lemmas.List.{drop_all, drop_more, map-append}
use Rattle.std.proofs.lemmas.List.Sums.{fold-append}
use Rattle.std.proofs.lemmas.Option.{slice_get-map}
use Rattle.ecma_place.specs.Cursor.{Cursor}
use Rattle.ecma_place.specs.declared.place.BytePos.{BytePos}
use Rattle.ecma_token.specs.View.{SpannedView}
use Rattle.ecma_joined.specs.Clean.{each_step, is_plain_step, takes_none, was_again}
use Rattle.ecma_replay.specs.Replay.{answer_view}
use Rattle.ecma_replay.specs.declared.answer.Answer.{Answer as GivenAnswer}
use Rattle.ecma_canonical.specs.Watching.{WatcherValue, back_to, behind_step, followed, followed_all, is_done, is_token, nothing_watched, watch_of, watcher_of, with_step}
use Rattle.ecma_canonical.specs.declared.watch.Watch.{Watch}
use Rattle.ecma_state.specs.Contexts.{Contexts}
use Rattle.ecma_state.specs.Counting.{Counted, count_all, count_step, counted, gone_back, none_yet}
use Rattle.ecma_state.specs.Reading.{Reading}
use Rattle.ecma_state.specs.Run.{Answer, act, act_all, act_on, answer_behind, answer_in, answers_behind, given_in, popped_from, reading_of, reread_from, start_of}
use Rattle.ecma_state.specs.Session.{Past, Session, seen_of, state_of}
use Rattle.ecma_state.specs.State.{last_slash}
use Rattle.ecma_state.specs.declared.settings.Settings.{Settings}
use Rattle.ecma_state.specs.declared.step.Step.{Step}
use Rattle.ecma_state.specs.declared.step.Step.TheVariants.{Read, SetCtx, SetExprAllowed, SetContexts, PopContext, Reread, Withdraw, Save, Back, TakeErrors}

-- Tests

and-swap : (a b c d : Bool) → ((a && b) && (c && d)) ≡ ((a && c) && (b && d))
and-swap true true c d = refl
and-swap true false true d = refl
and-swap true false false d = refl
and-swap false b c d = refl

-- One more step that counts

each-more : (holds : Session → Step → Bool) (s : Session) (steps : List Step) (x : Step) → each_step holds s (steps ++ x ∷ []) ≡ (each_step holds s steps && holds (act_all s steps) x)
each-more holds s [] x = and-true (holds s x)
each-more holds s (y ∷ ys) x =
    ap (λ more. holds s y && more) (each-more holds (act_on s y) ys x)
    ∙ sym (and_assoc (holds s y) (each_step holds (act_on s y) ys) (holds (act_all (act_on s y) ys) x))

-- what holds at a session, where the steps before it were clean or not
abbrev seen_at : Session → Bool → Watch
seen_at s is_clean = record { is_clean = is_clean; rereads = is_some s.reread; was_again = was_again s.past }

again-is : (again flag : Bool) (found : Option SpannedView) (past : Past) → was_again (given_in again flag found ∷ past) ≡ (again && is_token (answer_in found))
again-is true flag (Some t) past = refl
again-is false flag (Some t) past = refl
again-is true flag None past = refl
again-is false flag None past = refl

popped-seen : (s : Session) (contexts : Contexts) (is_clean : Bool) → seen_at (popped_from s contexts).after is_clean ≡ seen_at s is_clean
popped-seen s [] is_clean = refl
popped-seen s (top ∷ below) is_clean = refl

reread-seen : (s : Session) (slash : Option BytePos) (is_clean : Bool)
    → seen_at (reread_from s slash).after (is_clean && true) ≡ record (seen_at s is_clean) { rereads = is_some s.reread || is_done (reread_from s slash).answer }
reread-seen s (Some p) is_clean =
    ap (λ b. seen_at (record s { reread = Some p }) b) (and-true is_clean)
    ∙ ap (λ b. record (seen_at s is_clean) { rereads = b }) (sym (or-true (is_some s.reread)))
reread-seen s None is_clean =
    ap (seen_at s) (and-true is_clean) ∙ ap (λ b. record (seen_at s is_clean) { rereads = b }) (sym (or-false (is_some s.reread)))

step-seen : (s : Session) (is_clean : Bool) (x : Step) → seen_at (act_on s x) (is_clean && (is_plain_step s x && takes_none s x)) ≡ behind_step (seen_at s is_clean) x (act s x).answer
step-seen s is_clean Read =
    let plain = not (is_some s.reread && was_again s.past) in
    let r : Reading = reading_of (state_of s) in
    let kept : Bool → Bool → Watch = λ b again. record { is_clean = b; rereads = is_some s.reread; was_again = again } in
    ap (λ b. kept (is_clean && b) (was_again (given_in (is_some s.reread) r.end_flag r.found ∷ s.past))) (and-true plain)
    ∙ ap (kept (is_clean && plain)) (again-is (is_some s.reread) r.end_flag r.found s.past)
step-seen s is_clean (SetCtx context) = ap (λ b. seen_at s (is_clean && b)) (and-true (not context.ignore_error))
step-seen s is_clean (SetExprAllowed allowed) = ap (seen_at s) (and-true is_clean)
step-seen s is_clean (SetContexts contexts) = refl
step-seen s is_clean PopContext = popped-seen s s.contexts (is_clean && false)
step-seen s is_clean Reread = reread-seen s (last_slash (seen_of s.past)) is_clean
step-seen s is_clean Withdraw = ap (seen_at (record s { reread = None })) (and-true is_clean)
step-seen s is_clean TakeErrors = refl
step-seen s is_clean Save = ap (seen_at s) (and-true is_clean)
step-seen s is_clean (Back n) = ap (seen_at s) (and-true is_clean)

watch-more : (begin : Session) (steps : List Step) (x : Step) → watch_of begin (steps ++ x ∷ []) ≡ behind_step (watch_of begin steps) x (act (act_all begin steps) x).answer
watch-more begin steps x =
    let s = act_all begin steps in
    let plain = each_step is_plain_step begin steps in
    let none = each_step takes_none begin steps in
    let further : act_all begin (steps ++ x ∷ []) ≡ act_on s x = fold-append act_on begin steps (x ∷ []) in
    ap (λ t. seen_at t (each_step is_plain_step begin (steps ++ x ∷ []) && each_step takes_none begin (steps ++ x ∷ []))) further
    ∙ ap (λ b. seen_at (act_on s x) (b && each_step takes_none begin (steps ++ x ∷ []))) (each-more is_plain_step begin steps x)
    ∙ ap (λ b. seen_at (act_on s x) ((plain && is_plain_step s x) && b)) (each-more takes_none begin steps x)
    ∙ ap (seen_at (act_on s x)) (and-swap plain (is_plain_step s x) none (takes_none s x))
    ∙ step-seen s (plain && none) x

-- One more step of any kind

counted-watched : (begin : Session) (c : Counted) (x : Step) → with_step (watcher_of begin c) x (act (act_all begin c.steps) x).answer ≡ watcher_of begin (counted c x)
counted-watched begin c x =
    ap (λ w. record { watch = w; saves = map (watch_of begin) c.saves }) (sym (watch-more begin c.steps x))

back-watched : (begin : Session) (c : Counted) (saved : Option (List Step)) → back_to (watcher_of begin c) (option_map (watch_of begin) saved) ≡ watcher_of begin (gone_back c saved)
back-watched begin c (Some steps) = refl
back-watched begin c None = refl

step-watched : (begin : Session) (c : Counted) (x : Step) → followed (watcher_of begin c) x (answer_behind begin c x) ≡ watcher_of begin (count_step c x)
unfolding count_step followed
step-watched begin c Save =
    ap (λ saves. record { watch = watch_of begin c.steps; saves = saves }) (sym (map-append (watch_of begin) c.saves (c.steps ∷ [])))
step-watched begin c (Back n) =
    ap (back_to (watcher_of begin c)) (slice_get-map (watch_of begin) c.saves n) ∙ back-watched begin c (slice_get c.saves n)
step-watched begin c Read = counted-watched begin c Read
step-watched begin c (SetCtx context) = counted-watched begin c (SetCtx context)
step-watched begin c (SetExprAllowed allowed) = counted-watched begin c (SetExprAllowed allowed)
step-watched begin c (SetContexts contexts) = counted-watched begin c (SetContexts contexts)
step-watched begin c PopContext = counted-watched begin c PopContext
step-watched begin c Reread = counted-watched begin c Reread
step-watched begin c Withdraw = counted-watched begin c Withdraw
step-watched begin c TakeErrors = counted-watched begin c TakeErrors

all-watched : (begin : Session) (c : Counted) (steps : List Step) → followed_all (watcher_of begin c) steps (answers_behind begin c steps) ≡ watcher_of begin (count_all c steps)
all-watched begin c [] = refl
all-watched begin c (x ∷ xs) =
    ap (λ w. followed_all w xs (answers_behind begin (count_step c x) xs)) (step-watched begin c x)
    ∙ all-watched begin (count_step c x) xs

pub run-watched : (settings : Settings) (input : Cursor) (steps : List Step)
    → followed_all nothing_watched steps (answers_behind (start_of settings input) none_yet steps) ≡ watcher_of (start_of settings input) (count_all none_yet steps)
run-watched settings input steps = all-watched (start_of settings input) none_yet steps

-- one answer stands for each step
pub answers-length : (begin : Session) (c : Counted) (steps : List Step) → length (answers_behind begin c steps) ≡ length steps
answers-length begin c [] = refl
answers-length begin c (x ∷ xs) = ap (λ n. suc n) (answers-length begin (count_step c x) xs)

-- What the code keeps

abbrev pub kept_as : Watch → List Watch → WatcherValue
kept_as watch saves = record { watch = watch; saves = saves }

pub saved-followed : (watch : Watch) (saves : List Watch) (w : WatcherValue) → kept_as watch saves ≡ w → (x : Step) (answer : Answer) (now : List Watch) → x ≡ Save → now ≡ saves ++ watch ∷ []
    → kept_as watch now ≡ followed w x answer
unfolding followed
saved-followed watch saves w view x answer now is pushed =
    ap (kept_as watch) pushed ∙ ap (λ y. followed (kept_as watch saves) y answer) (sym is) ∙ ap (λ v. followed v x answer) view

pub back-followed : (w : WatcherValue) (x : Step) (answer : Answer) (n : ℕ) → x ≡ Back n → back_to w (slice_get w.saves n) ≡ followed w x answer
unfolding followed
back-followed w x answer n is = ap (λ y. followed w y answer) (sym is)

other-followed : (w : WatcherValue) (x : Step) (answer : Answer) → (x ≡ Save → ⊥) → ((n : ℕ) → x ≡ Back n → ⊥) → with_step w x answer ≡ followed w x answer
unfolding followed
other-followed w Save answer save back = absurd (save refl)
other-followed w (Back n) answer save back = absurd (back n refl)
other-followed w Read answer save back = refl
other-followed w (SetCtx context) answer save back = refl
other-followed w (SetExprAllowed allowed) answer save back = refl
other-followed w (SetContexts contexts) answer save back = refl
other-followed w PopContext answer save back = refl
other-followed w Reread answer save back = refl
other-followed w Withdraw answer save back = refl
other-followed w TakeErrors answer save back = refl

pub step-followed : (watch : Watch) (saves : List Watch) (w : WatcherValue) → kept_as watch saves ≡ w → (x : Step) (answer : Answer) (now : Watch) → now ≡ behind_step watch x answer
    → (x ≡ Save → ⊥) → ((n : ℕ) → x ≡ Back n → ⊥) → kept_as now saves ≡ followed w x answer
step-followed watch saves w view x answer now told save back =
    ap (λ n. kept_as n saves) told ∙ other-followed (kept_as watch saves) x answer save back ∙ ap (λ v. followed v x answer) view

-- the watch comes with what is left to where it came with one more
pub followed-more : (w now : WatcherValue) (steps : List Step) (given : List GivenAnswer) (i : ℕ) (x : Step) (answer : GivenAnswer) → i < length steps → length given ≡ length steps
    → x ≡ get_or steps i x → answer ≡ get_or given i answer → now ≡ followed w x (answer_view answer)
    → followed_all now (drop (i + 1) steps) (map answer_view (drop (i + 1) given)) ≡ followed_all w (drop i steps) (map answer_view (drop i given))
followed-more w now steps given i x answer below each is answered told =
    let next : drop i steps ≡ x ∷ drop (i + 1) steps = drop_more steps i x below ∙ ap (λ y. y ∷ drop (i + 1) steps) (sym is) in
    let next_answer : drop i given ≡ answer ∷ drop (i + 1) given =
    drop_more given i answer (omega (arith, below, each)) ∙ ap (λ a. a ∷ drop (i + 1) given) (sym answered) in
    ap (λ v. followed_all v (drop (i + 1) steps) (map answer_view (drop (i + 1) given))) told
    ∙ sym (ap (λ xs. followed_all w xs (map answer_view (drop i given))) next
    ∙ ap (λ gs. followed_all w (x ∷ drop (i + 1) steps) (map answer_view gs)) next_answer)

-- nothing is left behind the last step
pub followed-end : (w all : WatcherValue) (steps : List Step) (answers : List Answer) (i : ℕ) → length steps ≤ i → followed_all w (drop i steps) answers ≡ all → w ≡ all
followed-end w all steps answers i past comes =
    ap (λ xs. followed_all w xs answers) (sym (drop_all i steps past)) ∙ comes
