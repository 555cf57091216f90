-- Lexers that go on from where others were, and go back there.
use Rattle.std.proofs.Common.{◌≡◌, ◌∙◌, ℕ, ◌+◌, ◌≤◌, Bool, true, false, not, cond, ◌||◌, List, [], ◌∷◌, ◌++◌, Option, Some, None, arith, length, take, drop, take-append-drop, refl, sym, ap, subst}
use Rattle.std.proofs.Math.Seq.{take-append_seam, take-length}
use Rattle.std.proofs.lemmas.Bool.{and_parts}
use Rattle.std.proofs.lemmas.List.{append_assoc, length-append}
use Rattle.ecma_place.specs.Cursor.{Cursor, HasPlace, IsWithin, place, place_at}
use Rattle.ecma_place.specs.Text.{Text, place_of}
use Rattle.ecma_place.specs.declared.place.BytePos.{BytePos}
use Rattle.ecma_token.specs.View.{ErrorView}
use Rattle.ecma_syntax.specs.declared.context.Context.{Context}
use Rattle.ecma_comments.specs.Buffers.{Begins}
use Rattle.ecma_comments.specs.declared.comments_buffer.BufferedComment.{BufferedComment}
use Rattle.ecma_contexts.specs.Contexts.{Contexts}
use Rattle.ecma_grammar.specs.Found.{Fault}
use Rattle.ecma_state.specs.Disposition.{Disposition, Dropped, Errors, Recorded, Waiting, disposed, disposition, with_fault, with_faults}
use Rattle.ecma_state.specs.Run.{act_all, act_on, at_place, popped_from, reading_of, reread_from, state_behind}
use Rattle.ecma_state.specs.Session.{LexerState, Session, seen_of, state_of}
use Rattle.ecma_state.specs.State.{last_slash}
use Rattle.ecma_state.specs.TokenAt.{is_empty}
use Rattle.ecma_state.specs.declared.settings.Settings.{Settings}
use Rattle.ecma_state.specs.declared.step.Step.{Step}
use Rattle.ecma_state.specs.declared.step.Step.TheVariants.{Read, SetCtx, SetExprAllowed, SetContexts, PopContext, Reread, Withdraw, Save, Back, TakeErrors}
use Rattle.ecma_checkpoint.specs.Checkpoints.{AreSlashes}
use Rattle.ecma_reads.proofs.SlashLemmas.{at-index, reads-from, stands-moved}
use Rattle.ecma_rewinding.specs.Rewinding.{GoesOn, RefusalIsUndone, RewindingUndoes, StepsGoOn, take_none, takes_none}

-- Lists that begin with others

begins-same : {A : Type 0} (xs : List A) → Begins xs xs
begins-same xs = take-length xs

begins-more : {A : Type 0} (xs ys more : List A) → Begins xs ys → Begins xs (ys ++ more)
begins-more xs ys more begins =
    ap (take (length xs))
    (ap (λ list. list ++ more) (sym (take-append-drop (length xs) ys))
    ∙ append_assoc (take (length xs) ys) (drop (length xs) ys) more
    ∙ ap (λ list. list ++ (drop (length xs) ys ++ more)) begins)
    ∙ take-append_seam xs (drop (length xs) ys ++ more)

begins-further : {A : Type 0} (xs ys zs : List A) → Begins xs ys → Begins ys zs → Begins xs zs
begins-further xs ys zs one two =
    subst (Begins xs) (ap (λ list. list ++ drop (length ys) zs) (sym two) ∙ take-append-drop (length ys) zs) (begins-more xs ys (drop (length ys) zs) one)

begins-length : {A : Type 0} (xs ys : List A) → Begins xs ys → length xs ≤ length ys
begins-length xs ys begins =
    let whole : ys ≡ xs ++ drop (length xs) ys = sym (take-append-drop (length xs) ys) ∙ ap (λ list. list ++ drop (length xs) ys) begins in
    let sum : length ys ≡ length xs + length (drop (length xs) ys) = ap length whole ∙ length-append xs (drop (length xs) ys) in
    omega (arith, sum)

-- Errors that faults are added to

record BeginErrors (first second : Errors) : Type 0 where
  recorded : Begins first.recorded second.recorded
  waiting : Begins first.waiting second.waiting

disposed-begin : (first all : Errors) (e : ErrorView) (to : Disposition) → BeginErrors first all → BeginErrors first (disposed all e to)
disposed-begin first all e Recorded begins = record { recorded = begins-more first.recorded all.recorded (e ∷ []) begins.recorded; waiting = begins.waiting }
disposed-begin first all e Waiting begins = record { recorded = begins.recorded; waiting = begins-more first.waiting all.waiting (e ∷ []) begins.waiting }
disposed-begin first all e Dropped begins = begins

faults-begin : (context : Context) (first all : Errors) (faults : List Fault) → BeginErrors first all → BeginErrors first (with_faults context all faults)
faults-begin context first all [] begins = begins
faults-begin context first all (f ∷ faults) begins =
    faults-begin context first (with_fault context all f) faults (disposed-begin first all f.error (disposition context f.blame) begins)

-- Going on

pub same-on : (l : LexerState) → GoesOn l l
same-on l = record {
  settings = refl;
  begin = refl;
  text = refl;
  start = refl;
  recorded = begins-same l.errors.recorded;
  waiting = begins-same l.errors.waiting;
  comments = begins-same l.comments;
}

pub kept-on : (l m : LexerState) → m.settings ≡ l.settings → m.input ≡ l.input → m.state.start ≡ l.state.start → m.errors ≡ l.errors → m.comments ≡ l.comments → GoesOn l m
kept-on l m settings input start errors comments = record {
  settings = settings;
  begin = ap (λ c. c.start) input;
  text = ap (λ c. c.text) input;
  start = start;
  recorded = rw errors (begins-same l.errors.recorded);
  waiting = rw errors (begins-same l.errors.waiting);
  comments = rw comments (begins-same l.comments);
}

pub further-on : (l m n : LexerState) → GoesOn l m → GoesOn m n → GoesOn l n
further-on l m n one two = record {
  settings = two.settings ∙ one.settings;
  begin = two.begin ∙ one.begin;
  text = two.text ∙ one.text;
  start = two.start ∙ one.start;
  recorded = begins-further l.errors.recorded m.errors.recorded n.errors.recorded one.recorded two.recorded;
  waiting = begins-further l.errors.waiting m.errors.waiting n.errors.waiting one.waiting two.waiting;
  comments = begins-further l.comments m.comments n.comments one.comments two.comments;
}

pub reading-on : (l : LexerState) → GoesOn l (state_behind l (reading_of l))
reading-on l =
    let from = reads-from l in
    let errors = faults-begin l.context l.errors l.errors (reading_of l).faults (record { recorded = begins-same l.errors.recorded; waiting = begins-same l.errors.waiting }) in
    record {
      settings = refl;
      begin = from.start;
      text = from.text;
      start = refl;
      recorded = errors.recorded;
      waiting = errors.waiting;
      comments = take-append_seam l.comments _;
    }

read-on : (s : Session) → GoesOn (state_of s) (state_of (act_on s Read))
read-on s =
    let on = reading-on (state_of s) in
    record { settings = refl; begin = on.begin; text = on.text; start = refl; recorded = on.recorded; waiting = on.waiting; comments = on.comments }

context-on : (s : Session) (context : Context) → (not context.«module» || is_empty s.errors.waiting) ≡ true → GoesOn (state_of s) (state_of (act_on s (SetCtx context)))
context-on s context none = go context.«module» s.errors.waiting refl none
  where
    go : (is_module : Bool) (waiting : List ErrorView) → s.errors.waiting ≡ waiting → (not is_module || is_empty waiting) ≡ true
        → GoesOn (state_of s) (record (state_of s) { context = context; errors = cond is_module (record { recorded = s.errors.recorded ++ s.errors.waiting; waiting = [] }) s.errors })
    go false waiting e h = record {
      settings = refl;
      begin = refl;
      text = refl;
      start = refl;
      recorded = begins-same s.errors.recorded;
      waiting = begins-same s.errors.waiting;
      comments = begins-same s.comments;
    }
    go true [] e h = record {
      settings = refl;
      begin = refl;
      text = refl;
      start = refl;
      recorded = take-append_seam s.errors.recorded s.errors.waiting;
      waiting = rw e refl;
      comments = begins-same s.comments;
    }
    go true (error ∷ errors) e h = cc

popped-on : (s : Session) (contexts : Contexts) → GoesOn (state_of s) (state_of (popped_from s contexts).after)
popped-on s [] = same-on (state_of s)
popped-on s (top ∷ below) = kept-on (state_of s) (state_of (popped_from s (top ∷ below)).after) refl refl refl refl refl

reread-on : (s : Session) (slash : Option BytePos) → GoesOn (state_of s) (state_of (reread_from s slash).after)
reread-on s None = same-on (state_of s)
reread-on s (Some p) = kept-on (state_of s) (state_of (reread_from s (Some p)).after) refl refl refl refl refl

step-on : (s : Session) (step : Step) → takes_none s step ≡ true → GoesOn (state_of s) (state_of (act_on s step))
step-on s Read none = read-on s
step-on s (SetCtx context) none = context-on s context none
step-on s (SetExprAllowed allowed) none = kept-on (state_of s) (state_of (act_on s (SetExprAllowed allowed))) refl refl refl refl refl
step-on s (SetContexts contexts) none = kept-on (state_of s) (state_of (act_on s (SetContexts contexts))) refl refl refl refl refl
step-on s PopContext none = popped-on s s.contexts
step-on s Reread none = reread-on s (last_slash (seen_of s.past))
step-on s Withdraw none = kept-on (state_of s) (state_of (act_on s Withdraw)) refl refl refl refl refl
step-on s TakeErrors none = cc
step-on s Save none = same-on (state_of s)
step-on s (Back n) none = same-on (state_of s)

pub steps_go_on : StepsGoOn
steps_go_on s [] none = same-on (state_of s)
steps_go_on s (step ∷ steps) none =
    let parts = and_parts (takes_none s step) (take_none (act_on s step) steps) none in
    further-on (state_of s) (state_of (act_on s step)) (state_of (act_all (act_on s step) steps)) (step-on s step parts.0) (steps_go_on (act_on s step) steps parts.1)

-- Going back

same-cursor : (c : Cursor) (start : ℕ) (text : Text) (at : ℕ) → start ≡ c.start → text ≡ c.text → at ≡ c.at
    → (let other : Cursor = record { start = start; text = text; at = at } in other ≡ c)
same-cursor c start text at first second third = rw (first, second, third) refl

same-errors : (e : Errors) (recorded waiting : List ErrorView) → recorded ≡ e.recorded → waiting ≡ e.waiting
    → (let other : Errors = record { recorded = recorded; waiting = waiting } in other ≡ e)
same-errors e recorded waiting first second = rw (first, second) refl

same-state : (l : LexerState) (settings : Settings) (input : Cursor) (errors : Errors) (comments : List BufferedComment)
    → settings ≡ l.settings → input ≡ l.input → errors ≡ l.errors → comments ≡ l.comments
    → record l { settings = settings; input = input; errors = errors; comments = comments } ≡ l
same-state l settings input errors comments first second third fourth = rw (first, second, third, fourth) refl

place-back : (l m : LexerState) → IsWithin l.input → GoesOn l m → at_place (record { 0 = place l.input }) m.input ≡ l.input
place-back l m within on =
    let same : place l.input ≡ place_at m.input l.input.at =
    ap (λ s. place_of s (take l.input.at l.input.text)) (sym on.begin) ∙ ap (λ t. place_of m.input.start (take l.input.at t)) (sym on.text) in
    let inside : l.input.at ≤ length m.input.text = subst (λ (t : Text). l.input.at ≤ length t) (sym on.text) within in
    same-cursor l.input m.input.start m.input.text _ on.begin on.text (at-index m.input (record { 0 = place l.input }) l.input.at inside same)

slashes-moved : (l m : LexerState) (opened : BytePos) (slash : Option BytePos) → GoesOn l m → AreSlashes l.input opened slash → AreSlashes m.input opened slash
slashes-moved l m opened slash on are = λ p h. stands-moved l.input m.input opened p on.begin on.text (are p h)

place-moved : (l m : LexerState) (p : ℕ) → GoesOn l m → HasPlace l.input p → HasPlace m.input p
place-moved l m p on (n, e) =
    (n, e ∙ ap (λ s. place_of s (take n l.input.text)) (sym on.begin) ∙ ap (λ t. place_of m.input.start (take n t)) (sym on.text))

pub rewinding_undoes : RewindingUndoes
rewinding_undoes l m within own on =
    record {
      goes = record {
        from = sym on.start;
        within = record {
          recorded = begins-length l.errors.recorded m.errors.recorded on.recorded;
          waiting = begins-length l.errors.waiting m.errors.waiting on.waiting;
          comments = begins-length l.comments m.comments on.comments;
        };
        fits = record {
          has_place = place-moved l m (place l.input) on own.fits.has_place;
          opened_before = own.fits.opened_before;
          slash_reread = slashes-moved l m l.state.opened l.reread on own.fits.slash_reread;
          slash_answered = slashes-moved l m l.state.opened (last_slash l.state.seen) on own.fits.slash_answered;
        };
      };
      undone =
          same-state l m.settings _ _ _ on.settings (place-back l m within on) (same-errors l.errors _ _ on.recorded on.waiting) on.comments;
    }

pub refusal_is_undone : RefusalIsUndone
refusal_is_undone l within own =
    let same = same-on l in
    rewinding_undoes l (record l { refused = true }) within own
    (record {
      settings = refl;
      begin = refl;
      text = refl;
      start = refl;
      recorded = same.recorded;
      waiting = same.waiting;
      comments = same.comments;
    })
