-- The comments of a run are told by the elements of the gaps that it read, and of the markers of bars.
use Rattle.std.specs.Prelude.{◌≡◌, ℕ, Bool, true, false, List, [], ◌∷◌, ◌++◌, map, Option, Some, None}
use Rattle.ecma_place.specs.Text.{Text}
use Rattle.ecma_place.specs.Cursor.{Cursor, place, rest}
use Rattle.ecma_place.specs.declared.comment.Comment.{Comment}
use Rattle.ecma_place.specs.declared.place.BytePos.{BytePos}
use Rattle.ecma_scan.specs.Bars.{bars_elements}
use Rattle.ecma_scan.specs.Gaps.{Element, gap, has_line_break}
use Rattle.ecma_scan.specs.Telling.{AreOf, placed}
use Rattle.ecma_state.specs.Counting.{counting}
use Rattle.ecma_state.specs.Mode.{gap_mode}
use Rattle.ecma_state.specs.Reading.{behind_gap, stands_shebang}
use Rattle.ecma_state.specs.Run.{act_on, mode_of, session, start_of}
use Rattle.ecma_state.specs.Session.{Session, state_of}
use Rattle.ecma_state.specs.TokenAt.{lookahead}
use Rattle.ecma_state.specs.declared.mode.Mode.{Mode}
use Rattle.ecma_state.specs.declared.lookahead.Lookahead.{Lookahead}
use Rattle.ecma_state.specs.declared.lookahead.Lookahead.TheVariants as opens
use Rattle.ecma_state.specs.declared.settings.Settings.{Settings}
use Rattle.ecma_state.specs.declared.step.Step.{Step}
use Rattle.ecma_state.specs.declared.step.Step.TheVariants.{Read, SetCtx, SetExprAllowed, SetContexts, PopContext, Reread, Withdraw, Save, Back, TakeErrors}
use Rattle.ecma_laws.specs.Collecting.{count}

-- The elements that each read passes, with the places where they stand

-- those inside a token: a marker of bars holds some
abbrev pub elements_in : Lookahead → ℕ → Text → List (ℕ × Element)
elements_in opens.Bars n text = placed n (bars_elements text)
elements_in opens.Template n text = []
elements_in opens.Number n text = []
elements_in opens.String n text = []
elements_in opens.Word n text = []
elements_in opens.Other n text = []

-- those behind the gap, where its flag stands or not and this text is left
abbrev pub elements_behind : Mode → Bool → ℕ → Text → List (ℕ × Element)
elements_behind mode flag n [] = []
elements_behind mode flag n (c ∷ cs) = elements_in (lookahead mode flag (c ∷ cs)) n (c ∷ cs)

-- those of the gap, and those inside the token behind it; a shebang stands alone
abbrev pub elements_if : Bool → Mode → Cursor → List (ℕ × Element)
elements_if true mode input = []
elements_if false mode input =
    placed (place input) (gap (gap_mode mode) (rest input))
    ++ elements_behind mode (has_line_break (gap_mode mode) (rest input)) (place (behind_gap mode input)) (rest (behind_gap mode input))

-- a read that begins at a slash passes none
abbrev pub elements_from : Option BytePos → Mode → Cursor → List (ℕ × Element)
elements_from (Some slash) mode input = []
elements_from None mode input = elements_if (stands_shebang mode (rest input)) mode input

abbrev pub elements_by : Session → Step → List (ℕ × Element)
elements_by s Read = elements_from s.reread (mode_of (state_of s)) s.input
elements_by s (SetCtx context) = []
elements_by s (SetExprAllowed allowed) = []
elements_by s (SetContexts contexts) = []
elements_by s PopContext = []
elements_by s Reread = []
elements_by s Withdraw = []
elements_by s TakeErrors = []
elements_by s Save = []
elements_by s (Back n) = []

-- those of counting steps
abbrev pub elements_read : Session → List Step → List (ℕ × Element)
elements_read s [] = []
elements_read s (step ∷ steps) = elements_by s step ++ elements_read (act_on s step) steps

-- A session keeps the comments of elements, each once: whatever is asked of a comment, as many of those that are kept
-- answer it as of those that the elements tell.
pub record AreTold (s : Session) (elements : List (ℕ × Element)) : Type 0 where
  pub comments : List Comment
  pub told : AreOf elements comments
  pub kept : (passes : Comment → Bool) → count passes (map (λ b. b.comment) s.comments) ≡ count passes comments

-- Laws

-- Where comments are collected, those that a run keeps are the comments of the elements that it read, each once: line
-- comments, closed block comments, `<!--`, `-->`, markers, and those inside markers of bars, each with its kind, its span
-- and its text.
abbrev pub CommentsAreTold : Type 0
CommentsAreTold =
    (settings : Settings) (input : Cursor) (steps : List Step) → settings.comments ≡ true
    → AreTold (session settings input steps) (elements_read (start_of settings input) (counting steps))
