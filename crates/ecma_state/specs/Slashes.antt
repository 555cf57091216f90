-- Where slashes stand in a text, and what a lexer asks of an answer that it takes in.
use Rattle.std.specs.Prelude.{◌≡◌, ◌≤◌, ⊤, true, Option, Some, None, if◌then◌else◌}
use Rattle.ecma_place.specs.Cursor.{Cursor, HasPlace, place, rest}
use Rattle.ecma_place.specs.declared.place.BytePos.{BytePos}
use Rattle.ecma_grammar.specs.Expressions.{opens_expression}
use Rattle.ecma_state.specs.Run.{at_place}
use Rattle.ecma_state.specs.Session.{LexerValue, LexerState}
use Rattle.ecma_state.specs.State.{last_slash, opened_by, slash_in}
use Rattle.ecma_state.specs.declared.kept.Kept.{Kept}

-- A slash stands at a place of the text, and no template was opened behind it.
pub record StandsSlash (input : Cursor) (opened p : BytePos) : Type 0 where
  pub has_place : HasPlace input p.0
  pub opens : opens_expression (rest (at_place p input)) ≡ true
  pub opened_before : opened.0 ≤ p.0

-- a token that was read does not begin behind the cursor's place
abbrev pub OpensBehind : Option Kept → Cursor → Type 0
OpensBehind None input = ⊤
OpensBehind (Some t) input = t.span.lo.0 ≤ place input

-- The answer of what was read: where it is a slash, one stands there, and what is read again opens no template.
pub record IsAnswer (l : LexerValue) (answer : Option Kept) : Type 0 where
  pub opens_behind : OpensBehind answer l.input
  pub slash : (p : BytePos) → slash_in answer ≡ Some p → StandsSlash l.input l.state.opened p
  pub again : (p : BytePos) → l.reread ≡ Some p → opened_by l.state answer ≡ l.state.opened

-- the slash that was answered last; none where memory was refused
abbrev pub slash_answered : LexerState → Option BytePos
slash_answered l = if l.refused then None else last_slash l.state.seen

-- what may be asked to be read again: nothing, or the slash that was answered last
abbrev pub MayReread : Option BytePos → LexerState → Type 0
MayReread start l = (p : BytePos) → start ≡ Some p → slash_answered l ≡ Some p
