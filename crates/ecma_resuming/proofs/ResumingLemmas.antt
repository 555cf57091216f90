-- Runs over the rest of a text, and over the whole text.
use Rattle.std.proofs.Common.{◌≡◌, ◌∙◌, Bool, true, false, not, cond, ◌||◌, List, [], ◌∷◌, ◌++◌, append-nil, Option, Some, None, refl, sym, ap, subst}
use Rattle.std.proofs.lemmas.Bool.{and_parts}
use Rattle.std.proofs.lemmas.List.{append_assoc}
use Rattle.ecma_place.specs.Cursor.{Cursor, place}
use Rattle.ecma_place.specs.declared.place.BytePos.{BytePos}
use Rattle.ecma_syntax.specs.declared.context.Context.{Context}
use Rattle.ecma_token.specs.View.{ErrorView}
use Rattle.ecma_grammar.specs.Found.{Fault}
use Rattle.ecma_comments.specs.Attachment.{attachment}
use Rattle.ecma_comments.specs.declared.attachment.Around.{Around}
use Rattle.ecma_comments.specs.declared.comments_buffer.BufferedComment.{BufferedComment}
use Rattle.ecma_contexts.specs.Contexts.{Contexts}
use Rattle.ecma_state.specs.Counting.{counting, none_yet}
use Rattle.ecma_state.specs.Disposition.{Disposition, Dropped, Errors, Recorded, Waiting, disposed, disposition, with_context, with_fault, with_faults}
use Rattle.ecma_state.specs.Run.{act_all, act_on, popped_from, reading_of, reread_from}
use Rattle.ecma_state.specs.Session.{Session, kept_in, seen_of, state_of, state_value}
use Rattle.ecma_state.specs.State.{around_of, last_slash}
use Rattle.ecma_state.specs.TokenAt.{is_empty}
use Rattle.ecma_state.specs.declared.kept.Kept.{Kept}
use Rattle.ecma_state.specs.declared.step.Step.{Step}
use Rattle.ecma_state.specs.declared.step.Step.TheVariants.{Read, SetCtx, SetExprAllowed, SetContexts, PopContext, Reread, Withdraw, Save, Back, TakeErrors}
use Rattle.ecma_checkpoint.specs.Checkpoints.{Fits, checkpoint_of}
use Rattle.ecma_rewinding.specs.Rewinding.{take_none, takes_none}
use Rattle.ecma_resuming.specs.Resuming.{IsRestOf, ResumingBegins, StepsAnswerOverTheRest, StepsGoOnOverTheRest, errors_joined, resumed_in}
use Rattle.ecma_resuming.proofs.OverLemmas.{Over, Rests, answers-same, moved, over-step, same-reading}
use Rattle.ecma_resuming.proofs.RestLemmas.{alike-at, alike-back, alike-further}

-- Errors behind others

disposed-joined : (first all : Errors) (e : ErrorView) (to : Disposition) → disposed (errors_joined first all) e to ≡ errors_joined first (disposed all e to)
disposed-joined first all e Recorded = ap (λ l. errors_of l (first.waiting ++ all.waiting)) (append_assoc first.recorded all.recorded (e ∷ []))
  where
    errors_of : List ErrorView → List ErrorView → Errors
    errors_of recorded waiting = record { recorded = recorded; waiting = waiting }
disposed-joined first all e Waiting = ap (λ l. errors_of (first.recorded ++ all.recorded) l) (append_assoc first.waiting all.waiting (e ∷ []))
  where
    errors_of : List ErrorView → List ErrorView → Errors
    errors_of recorded waiting = record { recorded = recorded; waiting = waiting }
disposed-joined first all e Dropped = refl

faults-joined : (context : Context) (first all : Errors) (faults : List Fault) → with_faults context (errors_joined first all) faults ≡ errors_joined first (with_faults context all faults)
faults-joined context first all [] = refl
faults-joined context first all (f ∷ faults) =
    ap (λ e. with_faults context e faults) (disposed-joined first all f.error (disposition context f.blame))
    ∙ faults-joined context first (with_fault context all f) faults

context-joined : (context : Context) (first all : Errors) → (not context.«module» || is_empty (first.waiting ++ all.waiting)) ≡ true
    → with_context context (errors_joined first all) ≡ errors_joined first (with_context context all)
context-joined context first all none = go context.«module» first.recorded first.waiting all.recorded all.waiting none
  where
    errors_of : List ErrorView → List ErrorView → Errors
    errors_of recorded waiting = record { recorded = recorded; waiting = waiting }

    go : (is_module : Bool) (fr fw ar aw : List ErrorView) → (not is_module || is_empty (fw ++ aw)) ≡ true
        → cond is_module (errors_of ((fr ++ ar) ++ (fw ++ aw)) []) (errors_of (fr ++ ar) (fw ++ aw))
        ≡ errors_joined (errors_of fr fw) (cond is_module (errors_of (ar ++ aw) []) (errors_of ar aw))
    go false fr fw ar aw h = refl
    go true fr [] ar [] h = ap (λ l. errors_of l []) (append_assoc fr ar [])
    go true fr [] ar (e ∷ es) h = cc
    go true fr (e ∷ es) ar aw h = cc

-- Sessions with what was before

-- a session over the whole text has the errors and comments of before, and behind them those of one over the rest
record Joined (first : Errors) (behind : List BufferedComment) (part whole : Session) : Type 0 where
  over : Over part whole
  start : part.start ≡ whole.start
  errors : whole.errors ≡ errors_joined first part.errors
  comments : whole.comments ≡ behind ++ part.comments

joined-same : (first : Errors) (part whole : Session) → Over part whole → whole.errors ≡ errors_joined first part.errors
    → moved part whole.start whole.input (errors_joined first part.errors) whole.comments ≡ whole
joined-same first part whole over errors = ap (λ e. moved part whole.start whole.input e whole.comments) (sym errors) ∙ over.same

-- the lists that a step leaves, and the start place
record Lists (first : Errors) (behind : List BufferedComment) (part whole : Session) : Type 0 where
  start : part.start ≡ whole.start
  errors : whole.errors ≡ errors_joined first part.errors
  comments : whole.comments ≡ behind ++ part.comments

read-lists : (first : Errors) (behind : List BufferedComment) (s : Session) (start : BytePos) (input : Cursor) (comments : List BufferedComment) → Rests s input
    → s.start ≡ start → comments ≡ behind ++ s.comments
    → Lists first behind (act_on s Read) (act_on (moved s start input (errors_joined first s.errors) comments) Read)
read-lists first behind s start input comments h same told =
    let m = moved s start input (errors_joined first s.errors) comments in
    let r = reading_of (state_of s) in
    let q = reading_of (state_of m) in
    let both = same-reading s start input (errors_joined first s.errors) comments h in
    let around : BytePos → Option Kept → Around = λ p. around_of (record (state_value s) { start = p }) in
    record {
      start = same;
      errors = ap (with_faults s.context (errors_joined first s.errors)) (sym both.faults) ∙ faults-joined s.context first s.errors r.faults;
      comments =
          ap (λ c. c ++ attachment (around start (kept_in q.found)) q.comments) told
          ∙ ap (λ p. (behind ++ s.comments) ++ attachment (around p (kept_in q.found)) q.comments) (sym same)
          ∙ ap (λ f. (behind ++ s.comments) ++ attachment (around s.start (kept_in f)) q.comments) (sym both.found)
          ∙ ap (λ c. (behind ++ s.comments) ++ attachment (around s.start (kept_in r.found)) c) (sym both.comments)
          ∙ append_assoc behind s.comments (attachment (around s.start (kept_in r.found)) r.comments);
    }

kept-lists : (first : Errors) (behind : List BufferedComment) (s part whole : Session) (start : BytePos) (comments : List BufferedComment)
    → s.start ≡ start → comments ≡ behind ++ s.comments → part.start ≡ s.start → whole.start ≡ start
    → whole.errors ≡ errors_joined first part.errors → whole.comments ≡ comments → part.comments ≡ s.comments → Lists first behind part whole
kept-lists first behind s part whole start comments same told one two errors mine its =
    record { start = one ∙ same ∙ sym two; errors = errors; comments = mine ∙ told ∙ ap (λ c. behind ++ c) (sym its) }

popped-lists : (first : Errors) (behind : List BufferedComment) (s : Session) (start : BytePos) (input : Cursor) (comments : List BufferedComment) (contexts : Contexts)
    → s.start ≡ start → comments ≡ behind ++ s.comments
    → Lists first behind (popped_from s contexts).after (popped_from (moved s start input (errors_joined first s.errors) comments) contexts).after
popped-lists first behind s start input comments [] same told = kept-lists first behind s _ _ start comments same told refl refl refl refl refl
popped-lists first behind s start input comments (top ∷ below) same told = kept-lists first behind s _ _ start comments same told refl refl refl refl refl

reread-lists : (first : Errors) (behind : List BufferedComment) (s : Session) (start : BytePos) (input : Cursor) (comments : List BufferedComment) (slash : Option BytePos)
    → s.start ≡ start → comments ≡ behind ++ s.comments
    → Lists first behind (reread_from s slash).after (reread_from (moved s start input (errors_joined first s.errors) comments) slash).after
reread-lists first behind s start input comments None same told = kept-lists first behind s _ _ start comments same told refl refl refl refl refl
reread-lists first behind s start input comments (Some p) same told = kept-lists first behind s _ _ start comments same told refl refl refl refl refl

step-lists : (first : Errors) (behind : List BufferedComment) (s : Session) (start : BytePos) (input : Cursor) (comments : List BufferedComment) → Rests s input
    → s.start ≡ start → comments ≡ behind ++ s.comments → (step : Step)
    → takes_none (moved s start input (errors_joined first s.errors) comments) step ≡ true
    → Lists first behind (act_on s step) (act_on (moved s start input (errors_joined first s.errors) comments) step)
step-lists first behind s start input comments h same told Read none = read-lists first behind s start input comments h same told
step-lists first behind s start input comments h same told (SetCtx context) none =
    kept-lists first behind s _ _ start comments same told refl refl (context-joined context first s.errors none) refl refl
step-lists first behind s start input comments h same told (SetExprAllowed allowed) none = kept-lists first behind s _ _ start comments same told refl refl refl refl refl
step-lists first behind s start input comments h same told (SetContexts contexts) none = kept-lists first behind s _ _ start comments same told refl refl refl refl refl
step-lists first behind s start input comments h same told PopContext none = popped-lists first behind s start input comments s.contexts same told
step-lists first behind s start input comments h same told Reread none = reread-lists first behind s start input comments (last_slash (seen_of s.past)) same told
step-lists first behind s start input comments h same told Withdraw none = kept-lists first behind s _ _ start comments same told refl refl refl refl refl
step-lists first behind s start input comments h same told TakeErrors none = cc
step-lists first behind s start input comments h same told Save none = kept-lists first behind s _ _ start comments same told refl refl refl refl refl
step-lists first behind s start input comments h same told (Back n) none = kept-lists first behind s _ _ start comments same told refl refl refl refl refl

joined-step : (first : Errors) (behind : List BufferedComment) (part whole : Session) (step : Step) → takes_none whole step ≡ true
    → Joined first behind part whole → Joined first behind (act_on part step) (act_on whole step)
joined-step first behind part whole step none j =
    let same = joined-same first part whole j.over j.errors in
    let lists : Lists first behind (act_on part step) (act_on whole step) =
    subst
    (λ s. Lists first behind (act_on part step) (act_on s step))
    same
    (step-lists first behind part whole.start whole.input whole.comments j.over.rests j.start j.comments step (subst (λ s. takes_none s step ≡ true) (sym same) none)) in
    record {
      over = over-step part whole step j.over;
      start = lists.start;
      errors = lists.errors;
      comments = lists.comments;
    }

joined-steps : (first : Errors) (behind : List BufferedComment) (part whole : Session) (steps : List Step) → take_none whole steps ≡ true
    → Joined first behind part whole → Joined first behind (act_all part steps) (act_all whole steps)
joined-steps first behind part whole [] none j = j
joined-steps first behind part whole (step ∷ steps) none j =
    let parts = and_parts (takes_none whole step) (take_none (act_on whole step) steps) none in
    joined-steps first behind (act_on part step) (act_on whole step) steps parts.1 (joined-step first behind part whole step parts.0 j)

-- Where a lexer is resumed

pub over-resumed : (s : Session) (part : Cursor) → IsRestOf part s.input → Fits (checkpoint_of (state_of s)) part → Over (resumed_in part s) s
over-resumed s part is fits =
    record {
      same = refl;
      rests = record {
        is = record { front = is.front; text = is.text; begin = is.begin };
        alike = alike-further _ _ _ (alike-at part s.input (record { 0 = place s.input }) is fits.has_place) (alike-back s.input);
        reread = λ p e. (fits.slash_reread p e).has_place;
        answered = λ p e. (fits.slash_answered p e).has_place;
      };
    }

joined-resumed : (s : Session) (part : Cursor) → IsRestOf part s.input → Fits (checkpoint_of (state_of s)) part
    → Joined s.errors s.comments (resumed_in part s) s
joined-resumed s part is fits =
    record {
      over = over-resumed s part is fits;
      start = refl;
      errors = ap (λ l. errors_of l s.errors.waiting) (sym (append-nil s.errors.recorded)) ∙ ap (errors_of (s.errors.recorded ++ [])) (sym (append-nil s.errors.waiting));
      comments = sym (append-nil s.comments);
    }
  where
    errors_of : List ErrorView → List ErrorView → Errors
    errors_of recorded waiting = record { recorded = recorded; waiting = waiting }

-- Laws

pub resuming_begins : ResumingBegins
resuming_begins s part = refl

pub steps_answer_over_the_rest : StepsAnswerOverTheRest
steps_answer_over_the_rest s part steps is fits asks =
    answers-same (resumed_in part s) s none_yet steps (over-resumed s part is fits) asks

pub steps_go_on_over_the_rest : StepsGoOnOverTheRest
steps_go_on_over_the_rest s part steps is fits none =
    let j = joined-steps s.errors s.comments (resumed_in part s) s (counting steps) none (joined-resumed s part is fits) in
    record {
      left = j.over.rests.alike.left;
      stands = j.over.rests.alike.stands;
      same = same _ _ j;
    }
  where
    same : (part whole : Session) → Joined s.errors s.comments part whole
        → record part { input = whole.input; errors = errors_joined s.errors part.errors; comments = s.comments ++ part.comments } ≡ whole
    same part whole j =
        ap (λ p. moved part p whole.input (errors_joined s.errors part.errors) (s.comments ++ part.comments)) j.start
        ∙ ap (λ c. moved part whole.start whole.input (errors_joined s.errors part.errors) c) (sym j.comments)
        ∙ joined-same s.errors part whole j.over j.errors
