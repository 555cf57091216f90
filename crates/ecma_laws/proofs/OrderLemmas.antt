-- Where no step goes back or has a slash read again, the tokens that are answered are those that are kept.
use Rattle.std.proofs.Common.{◌≡◌, ◌∙◌, Bool, true, false, List, [], ◌∷◌, ◌++◌, append-nil, append_assoc, Option, Some, None, refl, sym, subst, ap, reverse}
use Rattle.std.specs.Prelude.{is_some}
use Rattle.std.specs.List.{list_all}
use Rattle.std.proofs.lemmas.Grind.{reverse_onto}
use Rattle.std.proofs.lemmas.List.Sums.{fold-append}
use Rattle.ecma_place.specs.Cursor.{place}
use Rattle.ecma_token.specs.View.{SpannedView}
use Rattle.ecma_state.specs.Contexts.{Contexts}
use Rattle.ecma_state.specs.Counting.{Counted, count_all, count_step, counted, none_yet}
use Rattle.ecma_laws.specs.Order.{AnswersAreInOrder, InOrder, goes_on, tokens_in, with_answered}
use Rattle.ecma_state.specs.Run.{Answer, Token', End, Done, Errors', NoSlash, NoSave, NoContext, act, act_all, act_on, answer_behind, answer_in, answers_behind, given_in, popped_from, reading_of, run, session, start_of}
use Rattle.ecma_state.specs.Session.{Session, kept_back, state_of}
use Rattle.ecma_state.specs.declared.step.Step.{Step}
use Rattle.ecma_state.specs.declared.step.Step.TheVariants.{Read, SetCtx, SetExprAllowed, SetContexts, PopContext, Reread, Withdraw, Save, Back, TakeErrors}
use Rattle.ecma_laws.proofs.TilingLemmas.{tokens_are_in_order}

-- a step keeps the token that it answers, if any, and has no slash read again
record Keeps (s : Session) (x : Step) : Type 0 where
  kept : kept_back (act_on s x).past ≡ with_answered (act s x).answer (kept_back s.past)
  plain : (act_on s x).reread ≡ None

read-keeps : (s : Session) → s.reread ≡ None → Keeps s Read
read-keeps s plain = record { kept = go (is_some s.reread) (ap is_some plain) (reading_of (state_of s)).found; plain = plain }
  where
    flag : Bool
    flag = (reading_of (state_of s)).end_flag

    go : (again : Bool) → again ≡ false → (found : Option SpannedView) → kept_back (given_in again flag found ∷ s.past) ≡ with_answered (answer_in found) (kept_back s.past)
    go again same None = refl
    go false same (Some t) = refl
    go true same (Some t) = cc

pop-keeps : (s : Session) → s.reread ≡ None → (contexts : Contexts)
    → (kept_back (popped_from s contexts).after.past ≡ with_answered (popped_from s contexts).answer (kept_back s.past)) × ((popped_from s contexts).after.reread ≡ None)
pop-keeps s plain [] = (refl, plain)
pop-keeps s plain (top ∷ below) = (refl, plain)

-- a list of steps behind others
abbrev at_steps : Session → Counted → Session
at_steps begin c = act_all begin c.steps

-- what is kept behind a step, and behind all that follow
abbrev KeepsAll : Session → Counted → List Step → Type 0
KeepsAll begin c steps =
    kept_back (at_steps begin (count_all c steps)).past ≡ reverse (tokens_in (answers_behind begin c steps)) ++ kept_back (at_steps begin c).past

one-more : (begin : Session) (c : Counted) (x : Step) → at_steps begin (counted c x) ≡ act_on (at_steps begin c) x
one-more begin c x = fold-append act_on begin c.steps (x ∷ [])

-- an answer may stand on either side
moved-over : (answer : Answer) (ts ks : List SpannedView) → reverse (with_answered answer ts) ++ ks ≡ reverse ts ++ with_answered answer ks
moved-over (Token' t) ts ks = ap (λ us. us ++ ks) (reverse_onto ts t []) ∙ append_assoc (reverse ts) (t ∷ []) ks
moved-over End ts ks = refl
moved-over Done ts ks = refl
moved-over (Errors' errors) ts ks = refl
moved-over NoSlash ts ks = refl
moved-over NoSave ts ks = refl
moved-over NoContext ts ks = refl

step-on : (begin : Session) (c : Counted) (x : Step) (steps : List Step) → count_step c x ≡ counted c x → answer_behind begin c x ≡ (act (at_steps begin c) x).answer
    → Keeps (at_steps begin c) x → ((at_steps begin (counted c x)).reread ≡ None → KeepsAll begin (counted c x) steps) → KeepsAll begin c (x ∷ steps)
step-on begin c x steps count answer keeps more =
    let s = at_steps begin c in
    let there = one-more begin c x in
    let tokens = tokens_in (answers_behind begin (counted c x) steps) in
    let here : kept_back (at_steps begin (counted c x)).past ≡ with_answered (act s x).answer (kept_back s.past) = ap (λ t. kept_back t.past) there ∙ keeps.kept in
    let all : kept_back (at_steps begin (count_all (counted c x) steps)).past ≡ reverse (with_answered (act s x).answer tokens) ++ kept_back s.past =
    more (ap (λ t. t.reread) there ∙ keeps.plain) ∙ ap (λ ks. reverse tokens ++ ks) here ∙ sym (moved-over (act s x).answer tokens (kept_back s.past)) in
    let Kept : Counted → Answer → Type 0 = λ next given. kept_back (at_steps begin (count_all next steps)).past ≡ reverse (with_answered given (tokens_in (answers_behind begin next steps))) ++ kept_back s.past in
    subst (λ given. Kept (count_step c x) given) (sym answer) (subst (λ next. Kept next (act s x).answer) (sym count) all)

keeps-all : (begin : Session) (c : Counted) (steps : List Step) → list_all goes_on steps ≡ true → (at_steps begin c).reread ≡ None → KeepsAll begin c steps
unfolding count_step
keeps-all begin c [] on plain = refl
keeps-all begin c (Save ∷ steps) on plain = keeps-all begin (record c { saves = c.saves ++ c.steps ∷ [] }) steps on plain
keeps-all begin c (Back n ∷ steps) on plain = cc
keeps-all begin c (Reread ∷ steps) on plain = cc
keeps-all begin c (Read ∷ steps) on plain =
    step-on begin c Read steps refl refl (read-keeps (at_steps begin c) plain) (keeps-all begin (counted c Read) steps on)
keeps-all begin c (SetCtx context ∷ steps) on plain =
    step-on begin c (SetCtx context) steps refl refl record { kept = refl; plain = plain } (keeps-all begin (counted c (SetCtx context)) steps on)
keeps-all begin c (SetExprAllowed allowed ∷ steps) on plain =
    step-on begin c (SetExprAllowed allowed) steps refl refl record { kept = refl; plain = plain } (keeps-all begin (counted c (SetExprAllowed allowed)) steps on)
keeps-all begin c (SetContexts contexts ∷ steps) on plain =
    step-on begin c (SetContexts contexts) steps refl refl record { kept = refl; plain = plain } (keeps-all begin (counted c (SetContexts contexts)) steps on)
keeps-all begin c (PopContext ∷ steps) on plain =
    let s = at_steps begin c in
    let (kept, still) = pop-keeps s plain s.contexts in
    step-on begin c PopContext steps refl refl record { kept = kept; plain = still } (keeps-all begin (counted c PopContext) steps on)
keeps-all begin c (Withdraw ∷ steps) on plain =
    step-on begin c Withdraw steps refl refl record { kept = refl; plain = refl } (keeps-all begin (counted c Withdraw) steps on)
keeps-all begin c (TakeErrors ∷ steps) on plain =
    step-on begin c TakeErrors steps refl refl record { kept = refl; plain = plain } (keeps-all begin (counted c TakeErrors) steps on)

pub answers_are_in_order : AnswersAreInOrder
answers_are_in_order settings input steps on =
    let s = session settings input steps in
    let tokens = tokens_in (run settings input steps) in
    let kept : reverse tokens ≡ kept_back s.past = sym (keeps-all (start_of settings input) none_yet steps on refl ∙ append-nil (reverse tokens)) in
    record { kept = kept; order = subst (λ ts. InOrder (place input) ts (place s.input)) (sym kept) (tokens_are_in_order settings input steps) }
