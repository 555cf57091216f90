-- The comments of a run are told by the elements of the gaps that it read, and of the markers of bars.
use Rattle.std.proofs.Common.{◌≡◌, ◌∙◌, inl, inr, ℕ, Bool, true, false, List, [], ◌∷◌, ◌++◌, map, Option, Some, None, refl, sym, subst, ap}
use Rattle.std.proofs.lemmas.List.{append-nil, map-append}
use Rattle.ecma_place.specs.Text.{Text}
use Rattle.ecma_place.specs.Cursor.{Cursor, place, rest}
use Rattle.ecma_place.specs.declared.comment.Comment.{Comment}
use Rattle.ecma_place.specs.declared.place.BytePos.{BytePos}
use Rattle.ecma_scan.specs.Bars.{bars_elements}
use Rattle.ecma_scan.specs.Comments.{collected, comments_of}
use Rattle.ecma_scan.specs.GapViews.{GapView}
use Rattle.ecma_scan.specs.Gaps.{Element, gap}
use Rattle.ecma_scan.specs.Telling.{AreOf, placed}
use Rattle.ecma_scan.proofs.TellingLaws.{elements_tell}
use Rattle.ecma_token.specs.declared.kind.TokenKind.{TokenKind}
use Rattle.ecma_state.specs.Contexts.{Contexts}
use Rattle.ecma_state.specs.Counting.{counting}
use Rattle.ecma_state.specs.Mode.{gap_mode}
use Rattle.ecma_state.specs.Reading.{behind_gap, gap_in, reading, reading_behind, reading_code, reading_if, stands_shebang}
use Rattle.ecma_state.specs.Run.{act_on, mode_of, popped_from, reading_from, reread_from, start_of}
use Rattle.ecma_state.specs.Session.{Session, seen_of, state_of}
use Rattle.ecma_state.specs.State.{last_slash}
use Rattle.ecma_state.specs.TokenAt.{comments_in, lookahead}
use Rattle.ecma_state.specs.declared.mode.Mode.{Mode}
use Rattle.ecma_state.specs.declared.lookahead.Lookahead.{Lookahead}
use Rattle.ecma_state.specs.declared.lookahead.Lookahead.TheVariants as opens
use Rattle.ecma_state.specs.declared.step.Step.{Step}
use Rattle.ecma_state.specs.declared.step.Step.TheVariants.{Read, SetCtx, SetExprAllowed, SetContexts, PopContext, Reread, Withdraw, Save, Back, TakeErrors}
use Rattle.ecma_laws.specs.Collecting.{comments_found, found_by}
use Rattle.ecma_laws.specs.ToldComments.{CommentsAreTold, elements_behind, elements_by, elements_from, elements_if, elements_in, elements_read}
use Rattle.ecma_laws.proofs.CollectingLemmas.{comments_are_kept}

-- comments of elements, and of those behind them
append-of : (xs ys : List (ℕ × Element)) (first second : List Comment) → AreOf xs first → AreOf ys second → AreOf (xs ++ ys) (first ++ second)
append-of [] ys first second none of = subst (λ l. AreOf ys (l ++ second)) (sym none) of
append-of (x ∷ xs) ys first second (inl (none, more)) of = inl (none, append-of xs ys first second more of)
append-of (x ∷ xs) ys first second (inr (own, others, same, is, more)) of =
    inr (own, others ++ second, ap (λ l. l ++ second) same, is, append-of xs ys others second more of)

abbrev alone : List (Comment × Bool) → List Comment
alone found = map (λ c. c.0) found

-- where comments are collected, elements tell them
collected-of : (collect : Bool) → collect ≡ true → (prev : Option TokenKind) (flag : Bool) (n : ℕ) (es : List Element) (text : Text)
    → AreOf (placed n es) (alone (collected collect (comments_of prev flag n es text)))
collected-of true e prev flag n es text = elements_tell prev flag n es text
collected-of false e prev flag n es text = cc

token-of : (opened : Lookahead) (mode : Mode) (n : ℕ) (text : Text) → mode.settings.comments ≡ true → AreOf (elements_in opened n text) (alone (comments_in opened mode n text))
token-of opens.Template mode n text e = refl
token-of opens.Number mode n text e = refl
token-of opens.String mode n text e = refl
token-of opens.Word mode n text e = refl
token-of opens.Other mode n text e = refl
token-of opens.Bars mode n text e = collected-of mode.settings.comments e None true n (bars_elements text) text

-- what the read of a gap and what stands behind it finds
behind-of : (mode : Mode) (before : GapView) (here : Cursor) (text : Text) (es : List (ℕ × Element)) → mode.settings.comments ≡ true → AreOf es (alone before.comments)
    → AreOf (es ++ elements_behind mode before.line_break (place here) text) (alone (reading_behind mode before here text).comments)
behind-of mode before here [] es e of =
    subst (λ l. AreOf l (alone before.comments)) (sym (append-nil es)) of
behind-of mode before here (c ∷ cs) es e of =
    let opened = lookahead mode before.line_break (c ∷ cs) in
    let found = comments_in opened mode (place here) (c ∷ cs) in
    subst (AreOf (es ++ elements_in opened (place here) (c ∷ cs))) (sym (map-append (λ c. c.0) before.comments found))
    (append-of es (elements_in opened (place here) (c ∷ cs)) (alone before.comments) (alone found) of (token-of opened mode (place here) (c ∷ cs) e))

code-of : (mode : Mode) (input : Cursor) → mode.settings.comments ≡ true → AreOf (elements_if false mode input) (alone (reading_code mode input).comments)
unfolding reading_code
code-of mode input e =
    let text = rest input in
    let before = gap_in mode (place input) text in
    let here = behind_gap mode input in
    let m = gap_mode mode in
    behind-of mode before here (rest here) (placed (place input) (gap m text)) e (collected-of mode.settings.comments e m.prev m.first (place input) (gap m text) text)

reading-of : (mode : Mode) (input : Cursor) → mode.settings.comments ≡ true → AreOf (elements_if (stands_shebang mode (rest input)) mode input) (alone (reading mode input).comments)
reading-of mode input e = go (stands_shebang mode (rest input))
  where
    go : (b : Bool) → AreOf (elements_if b mode input) (alone (reading_if b mode input).comments)
    go true = refl
    go false = code-of mode input e

read-of : (s : Session) → s.settings.comments ≡ true → AreOf (elements_by s Read) (found_by s Read)
read-of s e = go s.reread
  where
    go : (slash : Option BytePos) → AreOf (elements_from slash (mode_of (state_of s)) s.input) (alone (reading_from slash (state_of s)).comments)
    go None = reading-of (mode_of (state_of s)) s.input e
    go (Some p) = refl

step-of : (s : Session) (step : Step) → s.settings.comments ≡ true → AreOf (elements_by s step) (found_by s step)
step-of s Read e = read-of s e
step-of s (SetCtx context) e = refl
step-of s (SetExprAllowed allowed) e = refl
step-of s (SetContexts contexts) e = refl
step-of s PopContext e = refl
step-of s Reread e = refl
step-of s Withdraw e = refl
step-of s TakeErrors e = refl
step-of s Save e = refl
step-of s (Back n) e = refl

-- no step changes the settings

popped-settings : (s : Session) (contexts : Contexts) → (popped_from s contexts).after.settings ≡ s.settings
popped-settings s [] = refl
popped-settings s (top ∷ below) = refl

reread-settings : (s : Session) (slash : Option BytePos) → (reread_from s slash).after.settings ≡ s.settings
reread-settings s None = refl
reread-settings s (Some p) = refl

step-settings : (s : Session) (step : Step) → (act_on s step).settings ≡ s.settings
step-settings s Read = refl
step-settings s (SetCtx context) = refl
step-settings s (SetExprAllowed allowed) = refl
step-settings s (SetContexts contexts) = refl
step-settings s PopContext = popped-settings s s.contexts
step-settings s Reread = reread-settings s (last_slash (seen_of s.past))
step-settings s Withdraw = refl
step-settings s TakeErrors = refl
step-settings s Save = refl
step-settings s (Back n) = refl

steps-of : (s : Session) (steps : List Step) → s.settings.comments ≡ true → AreOf (elements_read s steps) (comments_found s steps)
steps-of s [] e = refl
steps-of s (step ∷ steps) e =
    let still = ap (λ settings. settings.comments) (step-settings s step) ∙ e in
    append-of (elements_by s step) (elements_read (act_on s step) steps) (found_by s step) (comments_found (act_on s step) steps) (step-of s step e) (steps-of (act_on s step) steps still)

pub comments_are_told : CommentsAreTold
comments_are_told settings input steps e =
    record {
      comments = comments_found (start_of settings input) (counting steps);
      told = steps-of (start_of settings input) (counting steps) e;
      kept = comments_are_kept settings input steps;
    }
