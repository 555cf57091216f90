-- What the collecting of comments changes, and what it keeps.
use Rattle.std.proofs.Common.{subst, zero, suc, ◌≡◌, ◌∙◌, ℕ, ◌+◌, ◌-◌, ◌||◌, Bool, true, false, cond, List, [], ◌∷◌, ◌++◌, length, map, Option, Some, None, refl, sym, ap, arith}
use Rattle.std.specs.Prelude.{filter, fold}
use Rattle.std.specs.List.{list_any}
use Rattle.std.proofs.lemmas.List.{map-append}
use Rattle.ecma_place.specs.Character.{is_line_terminator}
use Rattle.ecma_place.specs.Text.{Text}
use Rattle.ecma_place.specs.Cursor.{Cursor, passed, place, rest}
use Rattle.ecma_place.specs.declared.comment.Comment.{Comment}
use Rattle.ecma_place.specs.declared.place.BytePos.{BytePos}
use Rattle.ecma_token.specs.View.{SpannedView}
use Rattle.ecma_scan.specs.Found.{Fault}
use Rattle.ecma_scan.specs.Gaps.{Element, element, element_text, elements_if, elements_under, faults_of, flag_behind, gap, gap_cutter, gap_spelling, special_element}
use Rattle.ecma_scan.specs.Pieces.{onward, pieces_behind, spelled}
use Rattle.ecma_scan.specs.GapViews.{GapView}
use Rattle.ecma_scan.specs.declared.gap_mode.GapMode.{GapMode}
use Rattle.ecma_state.specs.Mode.{gap_mode}
use Rattle.ecma_state.specs.Attachment.{attachment, for_next, of_next, of_previous, waiting_for}
use Rattle.ecma_laws.specs.Collecting.{CollectingChangesNothing, CommentsAreKept, comments_found, count, found_by, uncollecting, without_comments}
use Rattle.ecma_state.specs.Reading.{Reading, behind_gap, gap_in, reading, reading_behind, reading_code, reading_if, spanned, stands_shebang}
use Rattle.ecma_state.specs.Contexts.{Contexts}
use Rattle.ecma_state.specs.Counting.{Counted, count_step, counting, none_yet}
use Rattle.ecma_state.specs.Run.{act, act_on, acted_on, answer_behind, answer_in, answers_behind, mode_of, popped_from, reading_from, reading_of, reread_from, start_of}
use Rattle.ecma_state.specs.Session.{Session, kept_in, state_value, seen_of, state_of}
use Rattle.ecma_state.specs.State.{around_of, last_slash}
use Rattle.ecma_state.specs.TokenAt.{comments_in, lookahead, placed, read_opened, token_at, token_comments, token_found}
use Rattle.ecma_comments.specs.declared.attachment.Around.{Around}
use Rattle.ecma_comments.specs.declared.comments_buffer.BufferedComment.{BufferedComment}
use Rattle.ecma_state.specs.declared.mode.Mode.{Mode}
use Rattle.ecma_state.specs.declared.lookahead.Lookahead.{Lookahead}
use Rattle.ecma_state.specs.declared.lookahead.Lookahead.TheVariants as opens
use Rattle.ecma_state.specs.declared.step.Step.{Step}
use Rattle.ecma_state.specs.declared.step.Step.TheVariants.{Read, SetCtx, SetExprAllowed, SetContexts, PopContext, Reread, Withdraw, Save, Back, TakeErrors}

-- Each comment is kept once

abbrev unit : Bool → ℕ
unit b = cond b 1 0

count-cons : {A : Type 0} → (passes : A → Bool) (x : A) (xs : List A) → count passes (x ∷ xs) ≡ unit (passes x) + count passes xs
count-cons passes x xs = go (passes x)
  where
    go : (b : Bool) → length (cond b (x ∷ filter passes xs) (filter passes xs)) ≡ unit b + count passes xs
    go true = omega arith
    go false = omega arith

count-append : {A : Type 0} → (passes : A → Bool) (xs ys : List A) → count passes (xs ++ ys) ≡ count passes xs + count passes ys
count-append passes [] ys = omega arith
count-append passes (x ∷ xs) ys =
    omega (arith, count-cons passes x (xs ++ ys), count-cons passes x xs, count-append passes xs ys)

abbrev comment_in : BufferedComment → Comment
comment_in b = b.comment

abbrev comments_in_order : List (Comment × Bool) → List Comment
comments_in_order found = map (λ c. c.0) found

waiting-same : (around : Around) (comment : Comment) → (for_next around comment).comment ≡ comment
waiting-same around comment = go around.next
  where
    go : (next : Option BytePos) → (waiting_for around next comment).comment ≡ comment
    go (Some next) = refl
    go None = refl

sides-keep : (around : Around) (passes : Comment → Bool) (found : List (Comment × Bool))
    → count passes (map comment_in (of_previous around found)) + count passes (map comment_in (of_next around found)) ≡ count passes (comments_in_order found)
sides-keep around passes [] = refl
sides-keep around passes ((comment, true) ∷ more) =
    let same = ap (λ c. unit (passes c)) (waiting-same around comment) in
    omega (
      arith,
      count-cons passes (for_next around comment).comment (map comment_in (of_next around more)),
      count-cons passes comment (comments_in_order more),
      same,
      sides-keep around passes more,
    )
sides-keep around passes ((comment, false) ∷ more) =
    omega (
      arith,
      count-cons passes comment (map comment_in (of_previous around more)),
      count-cons passes comment (comments_in_order more),
      sides-keep around passes more,
    )

attachment-keeps : (around : Around) (passes : Comment → Bool) (found : List (Comment × Bool))
    → count passes (map comment_in (attachment around found)) ≡ count passes (comments_in_order found)
attachment-keeps around passes found =
    ap (count passes) (map-append comment_in (of_previous around found) (of_next around found))
    ∙ count-append passes (map comment_in (of_previous around found)) (map comment_in (of_next around found))
    ∙ sides-keep around passes found

-- so the reads of a list of steps keep those that they find, behind those that were there

abbrev kept : (Comment → Bool) → Session → ℕ
kept passes s = count passes (map comment_in s.comments)

read-keeps : (passes : Comment → Bool) (s : Session) → kept passes (act_on s Read) ≡ kept passes s + count passes (comments_in_order (reading_of (state_of s)).comments)
read-keeps passes s =
    let r = reading_of (state_of s) in
    let around = around_of (state_value s) (kept_in r.found) in
    ap (count passes) (map-append comment_in s.comments (attachment around r.comments))
    ∙ count-append passes (map comment_in s.comments) (map comment_in (attachment around r.comments))
    ∙ ap (λ n. kept passes s + n) (attachment-keeps around passes r.comments)

still-keeps : (passes : Comment → Bool) (s t : Session) → t.comments ≡ s.comments → kept passes t ≡ kept passes s + count passes []
still-keeps passes s t same =
    let kept_same : kept passes t ≡ kept passes s = ap (λ comments. count passes (map comment_in comments)) same in
    let none : count passes [] ≡ 0 = refl in
    omega (arith, kept_same, none)

popped-comments : (s : Session) (contexts : Contexts) → (popped_from s contexts).after.comments ≡ s.comments
popped-comments s [] = refl
popped-comments s (top ∷ below) = refl

reread-comments : (s : Session) (slash : Option BytePos) → (reread_from s slash).after.comments ≡ s.comments
reread-comments s None = refl
reread-comments s (Some p) = refl

step-keeps : (passes : Comment → Bool) (s : Session) (step : Step) → kept passes (act_on s step) ≡ kept passes s + count passes (found_by s step)
step-keeps passes s Read = read-keeps passes s
step-keeps passes s (SetCtx context) = still-keeps passes s (act_on s (SetCtx context)) refl
step-keeps passes s (SetExprAllowed allowed) = still-keeps passes s (act_on s (SetExprAllowed allowed)) refl
step-keeps passes s (SetContexts contexts) = still-keeps passes s (act_on s (SetContexts contexts)) refl
step-keeps passes s PopContext = still-keeps passes s (act_on s PopContext) (popped-comments s s.contexts)
step-keeps passes s Reread = still-keeps passes s (act_on s Reread) (reread-comments s (last_slash (seen_of s.past)))
step-keeps passes s Withdraw = still-keeps passes s (act_on s Withdraw) refl
step-keeps passes s TakeErrors = still-keeps passes s (act_on s TakeErrors) refl
step-keeps passes s Save = still-keeps passes s (act_on s Save) refl
step-keeps passes s (Back n) = still-keeps passes s (act_on s (Back n)) refl

steps-keep : (passes : Comment → Bool) (s : Session) (steps : List Step) → kept passes (fold act_on s steps) ≡ kept passes s + count passes (comments_found s steps)
steps-keep passes s [] = omega arith
steps-keep passes s (step ∷ steps) =
    omega (
      arith,
      step-keeps passes s step,
      steps-keep passes (act_on s step) steps,
      count-append passes (found_by s step) (comments_found (act_on s step) steps),
    )

pub comments_are_kept : CommentsAreKept
comments_are_kept settings input steps passes =
    let none : kept passes (start_of settings input) ≡ 0 = refl in
    let total = steps-keep passes (start_of settings input) (counting steps) in
    omega (arith, none, total)

-- Collecting changes nothing else

abbrev mode_without : Mode → Mode
mode_without mode = record mode { settings = uncollecting mode.settings }

-- two reads find the same, but the second no comment
record SameButComments (a b : Reading) : Type 0 where
  found : a.found ≡ b.found
  end_flag : a.end_flag ≡ b.end_flag
  faults : a.faults ≡ b.faults
  input : a.input ≡ b.input
  comments : b.comments ≡ []

no-comments-in : (lookahead : Lookahead) (mode : Mode) (n : ℕ) (text : Text) → comments_in lookahead (mode_without mode) n text ≡ []
no-comments-in opens.Template mode n text = refl
no-comments-in opens.Number mode n text = refl
no-comments-in opens.String mode n text = refl
no-comments-in opens.Word mode n text = refl
no-comments-in opens.Bars mode n text = refl
no-comments-in opens.Other mode n text = refl

placed-without : (lookahead : Lookahead) (mode : Mode) (n : ℕ) (text : Text) → placed lookahead mode n (read_opened lookahead mode text) ≡ placed lookahead (mode_without mode) n (read_opened lookahead (mode_without mode) text)
placed-without opens.Template mode n text = refl
placed-without opens.Number mode n text = refl
placed-without opens.String mode n text = refl
placed-without opens.Word mode n text = refl
placed-without opens.Bars mode n text = refl
placed-without opens.Other mode n text = refl

read-without : (lookahead : Lookahead) (mode : Mode) (text : Text) → read_opened lookahead mode text ≡ read_opened lookahead (mode_without mode) text
read-without opens.Template mode text = refl
read-without opens.Number mode text = refl
read-without opens.String mode text = refl
read-without opens.Word mode text = refl
read-without opens.Bars mode text = refl
read-without opens.Other mode text = refl

-- the gap is the same

abbrev gap_mode_without : GapMode → GapMode
gap_mode_without mode = record mode { collect = false }

pieces-without : (mode : GapMode) (flag : Bool) (n : ℕ) (text : Text) → pieces_behind (gap_cutter mode) flag n text ≡ pieces_behind (gap_cutter (gap_mode_without mode)) flag n text
pieces-without mode flag n [] = refl
pieces-without mode flag (suc n) (c ∷ cs) = pieces-without mode flag n cs
pieces-without mode flag zero (c ∷ cs) =
    go (element mode flag (c ∷ cs)) (λ e. pieces-without mode (flag_behind flag e) (length (element_text e) - 1) cs)
  where
    go : (found : Option Element)
        → ((e : Element) → pieces_behind (gap_cutter mode) (flag_behind flag e) (length (element_text e) - 1) cs
        ≡ pieces_behind (gap_cutter (gap_mode_without mode)) (flag_behind flag e) (length (element_text e) - 1) cs)
        → onward found (λ e. pieces_behind (gap_cutter mode) (flag_behind flag e) (length (element_text e) - 1) cs)
        ≡ onward found (λ e. pieces_behind (gap_cutter (gap_mode_without mode)) (flag_behind flag e) (length (element_text e) - 1) cs)
    go None more = refl
    go (Some e) more = ap (λ es. e ∷ es) (more e)

gap-without : (mode : GapMode) (text : Text) → gap mode text ≡ gap (gap_mode_without mode) text
gap-without mode text = go mode.template mode.keeps_space (special_element mode.type_mode mode.first text)
  where
    first-without : (found : Option Element) → elements_if found mode text ≡ elements_if found (gap_mode_without mode) text
    first-without None = refl
    first-without (Some e) = pieces-without mode mode.first 0 text

    go : (template keeps_space : Bool) (found : Option Element) → elements_under template keeps_space mode text ≡ elements_under template keeps_space (gap_mode_without mode) text
    go true keeps_space found = refl
    go false true found = first-without (special_element mode.type_mode mode.first text)
    go false false found = pieces-without mode mode.first 0 text

spelled-without : (mode : GapMode) (es : List Element) → spelled (gap_cutter mode) es ≡ spelled (gap_cutter (gap_mode_without mode)) es
spelled-without mode [] = refl
spelled-without mode (e ∷ es) = ap (λ text. element_text e ++ text) (spelled-without mode es)

gap_spelling-without : (mode : GapMode) (text : Text) → gap_spelling mode text ≡ gap_spelling (gap_mode_without mode) text
gap_spelling-without mode text =
    spelled-without mode (gap mode text) ∙ ap (spelled (gap_cutter (gap_mode_without mode))) (gap-without mode text)

behind-without : (mode : Mode) (a b : GapView) (here : Cursor) (text : Text) → a.line_break ≡ b.line_break → a.faults ≡ b.faults → b.comments ≡ []
    → SameButComments (reading_behind mode a here text) (reading_behind (mode_without mode) b here text)
behind-without mode a b here [] flag faults none =
    record { found = refl; end_flag = flag; faults = faults; input = refl; comments = none }
behind-without mode a b here (c ∷ cs) flag faults none =
    let text = c ∷ cs in
    let o : Bool → Lookahead = λ flag. lookahead mode flag text in
    let found = placed-without (o a.line_break) mode (place here) text in
    record {
      found = ap (λ f. Some (spanned a.line_break f)) found ∙ ap (λ x. Some (spanned x (token_found (mode_without mode) x (place here) text))) flag;
      end_flag = flag;
      faults =
          ap (λ f. a.faults ++ f.faults) found
          ∙ ap (λ x. a.faults ++ (token_found (mode_without mode) x (place here) text).faults) flag
          ∙ ap (λ fs. fs ++ (token_found (mode_without mode) b.line_break (place here) text).faults) faults;
      input =
          ap (λ s. passed (length s.spelling) here) (read-without (o a.line_break) mode text)
          ∙ ap (λ x. passed (length (token_at (mode_without mode) x text).spelling) here) flag;
      comments =
          ap (λ cs. cs ++ token_comments (mode_without mode) b.line_break (place here) text) none
          ∙ no-comments-in (o b.line_break) mode (place here) text;
    }

code-without : (mode : Mode) (input : Cursor) → SameButComments (reading_code mode input) (reading_code (mode_without mode) input)
unfolding reading_code
code-without mode input =
    let bare = mode_without mode in
    let text = rest input in
    let told = gap_in mode (place input) text in
    let none = gap_in bare (place input) text in
    let spelt = gap_spelling-without (gap_mode mode) text in
    let here : behind_gap mode input ≡ behind_gap bare input = ap (λ s. passed (length s) input) spelt in
    let flag : told.line_break ≡ none.line_break = ap (λ s. mode.first || list_any is_line_terminator s) spelt in
    let faults : told.faults ≡ none.faults = ap (faults_of None (place input)) (gap-without (gap_mode mode) text) in
    subst
    (λ (h : Cursor). SameButComments (reading_behind mode told (behind_gap mode input) (rest (behind_gap mode input))) (reading_behind bare none h (rest h)))
    here
    (behind-without mode told none (behind_gap mode input) (rest (behind_gap mode input)) flag faults refl)

reading-without : (mode : Mode) (input : Cursor) → SameButComments (reading mode input) (reading (mode_without mode) input)
reading-without mode input = go (stands_shebang mode (rest input))
  where
    go : (b : Bool) → SameButComments (reading_if b mode input) (reading_if b (mode_without mode) input)
    go true = record { found = refl; end_flag = refl; faults = refl; input = refl; comments = refl }
    go false = code-without mode input

-- what a read leaves, but for its comments
abbrev left_by : Session → Option SpannedView → Bool → List Fault → Cursor → Session
left_by s found end_flag faults input =
    (acted_on s (record { found = found; end_flag = end_flag; faults = faults; comments = []; input = input })).after

either-without : (s : Session) → SameButComments (reading_of (state_of s)) (reading_of (state_of (without_comments s)))
either-without s = go s.reread
  where
    go : (r : Option BytePos) → SameButComments (reading_from r (state_of s)) (reading_from r (state_of (without_comments s)))
    go None = reading-without (mode_of (state_of s)) s.input
    go (Some p) = record { found = refl; end_flag = refl; faults = refl; input = refl; comments = refl }

read-bare : (s : Session) → without_comments (act_on s Read) ≡ act_on (without_comments s) Read
read-bare s =
    let r = reading_of (state_of s) in
    let bare = without_comments s in
    let n = reading_of (state_of bare) in
    let same = either-without s in
    ap (λ x. left_by bare x r.end_flag r.faults r.input) same.found
    ∙ ap (λ x. left_by bare n.found x r.faults r.input) same.end_flag
    ∙ ap (λ x. left_by bare n.found n.end_flag x r.input) same.faults
    ∙ ap (λ x. left_by bare n.found n.end_flag n.faults x) same.input
    ∙ ap (λ x. (acted_on bare (record n { comments = x })).after) (sym same.comments)

popped-bare : (s : Session) (contexts : Contexts) → without_comments (popped_from s contexts).after ≡ (popped_from (without_comments s) contexts).after
popped-bare s [] = refl
popped-bare s (top ∷ below) = refl

reread-bare : (s : Session) (slash : Option BytePos) → without_comments (reread_from s slash).after ≡ (reread_from (without_comments s) slash).after
reread-bare s None = refl
reread-bare s (Some p) = refl

act-bare : (s : Session) (step : Step) → without_comments (act_on s step) ≡ act_on (without_comments s) step
act-bare s Read = read-bare s
act-bare s (SetCtx context) = refl
act-bare s (SetExprAllowed allowed) = refl
act-bare s (SetContexts contexts) = refl
act-bare s PopContext = popped-bare s s.contexts
act-bare s Reread = reread-bare s (last_slash (seen_of s.past))
act-bare s Withdraw = refl
act-bare s TakeErrors = refl
act-bare s Save = refl
act-bare s (Back n) = refl

fold-bare : (s : Session) (steps : List Step) → without_comments (fold act_on s steps) ≡ fold act_on (without_comments s) steps
fold-bare s [] = refl
fold-bare s (step ∷ steps) =
    fold-bare (act_on s step) steps ∙ ap (λ t. fold act_on t steps) (act-bare s step)

-- and the same is answered

popped-answer : (s : Session) (contexts : Contexts) → (popped_from s contexts).answer ≡ (popped_from (without_comments s) contexts).answer
popped-answer s [] = refl
popped-answer s (top ∷ below) = refl

reread-answer : (s : Session) (slash : Option BytePos) → (reread_from s slash).answer ≡ (reread_from (without_comments s) slash).answer
reread-answer s None = refl
reread-answer s (Some p) = refl

answer-bare : (s : Session) (step : Step) → (act s step).answer ≡ (act (without_comments s) step).answer
answer-bare s Read = ap answer_in (either-without s).found
answer-bare s (SetCtx context) = refl
answer-bare s (SetExprAllowed allowed) = refl
answer-bare s (SetContexts contexts) = refl
answer-bare s PopContext = popped-answer s s.contexts
answer-bare s Reread = reread-answer s (last_slash (seen_of s.past))
answer-bare s Withdraw = refl
answer-bare s TakeErrors = refl
answer-bare s Save = refl
answer-bare s (Back n) = refl

-- by a step that counts, behind others
counted-bare : (begin : Session) (steps : List Step) (step : Step) → (act (fold act_on begin steps) step).answer ≡ (act (fold act_on (without_comments begin) steps) step).answer
counted-bare begin steps step = answer-bare (fold act_on begin steps) step ∙ ap (λ t. (act t step).answer) (fold-bare begin steps)

behind-bare : (begin : Session) (c : Counted) (step : Step) → answer_behind begin c step ≡ answer_behind (without_comments begin) c step
behind-bare begin c Save = refl
behind-bare begin c (Back n) = refl
behind-bare begin c Read = counted-bare begin c.steps Read
behind-bare begin c (SetCtx context) = counted-bare begin c.steps (SetCtx context)
behind-bare begin c (SetExprAllowed allowed) = counted-bare begin c.steps (SetExprAllowed allowed)
behind-bare begin c (SetContexts contexts) = counted-bare begin c.steps (SetContexts contexts)
behind-bare begin c PopContext = counted-bare begin c.steps PopContext
behind-bare begin c Reread = counted-bare begin c.steps Reread
behind-bare begin c Withdraw = counted-bare begin c.steps Withdraw
behind-bare begin c TakeErrors = counted-bare begin c.steps TakeErrors

answers-bare : (begin : Session) (c : Counted) (steps : List Step) → answers_behind begin c steps ≡ answers_behind (without_comments begin) c steps
answers-bare begin c [] = refl
answers-bare begin c (step ∷ steps) =
    ap (λ answer. answer ∷ answers_behind begin (count_step c step) steps) (behind-bare begin c step)
    ∙ ap (λ answers. answer_behind (without_comments begin) c step ∷ answers) (answers-bare begin (count_step c step) steps)

pub collecting_changes_nothing : CollectingChangesNothing
collecting_changes_nothing settings input steps =
    let begin = start_of settings input in
    record { answers = answers-bare begin none_yet steps; comes_to = fold-bare begin (counting steps) }
