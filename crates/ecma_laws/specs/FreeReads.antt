-- Which reads do not allocate, told by what is written.
use Rattle.std.specs.Prelude.{◌≡◌, ⊤, ℕ, Bool, true, false, ◌||◌, ◌==◌, [], Option, Some, None}
use Rattle.std.specs.List.{list_any}
use Rattle.ecma_place.specs.Text.{Text}
use Rattle.ecma_place.specs.Cursor.{Cursor, rest}
use Rattle.ecma_place.specs.declared.place.BytePos.{BytePos}
use Rattle.ecma_token.specs.Kinds.{kind_of}
use Rattle.ecma_token.specs.View.{SpannedView}
use Rattle.ecma_token.specs.declared.kind.TokenKind.{TokenKind}
use Rattle.ecma_token.specs.declared.kind.TokenKind.TheVariants.{Num, BigInt, Template}
use Rattle.ecma_scan.specs.Expressions.{regular_expression}
use Rattle.ecma_scan.specs.Gaps.{has_line_break}
use Rattle.ecma_state.specs.Mode.{gap_mode}
use Rattle.ecma_state.specs.Reading.{behind_gap}
use Rattle.ecma_state.specs.Run.{at_place, is_free_read, mode_of, reading_of}
use Rattle.ecma_state.specs.Session.{LexerState}
use Rattle.ecma_state.specs.State.{is_error}
use Rattle.ecma_state.specs.TokenAt.{token_at}
use Rattle.ecma_state.specs.declared.mode.Mode.{Mode}

-- a character that has a token of this kind mean something else than what is written: a backslash, in a number `_`, and in
-- the text of a template CR too
abbrev pub turns_meaning : TokenKind → ℕ → Bool
turns_meaning Num c = c == 95
turns_meaning BigInt c = c == 95
turns_meaning Template c = c == 92 || c == 13
turns_meaning _ c = c == 92

-- what is written of the token that a read finds

abbrev pub spelling_at : Mode → Cursor → Text
spelling_at mode input = (token_at mode (has_line_break (gap_mode mode) (rest input)) (rest (behind_gap mode input))).spelling

abbrev pub spelling_from : Option BytePos → LexerState → Text
spelling_from None l = spelling_at (mode_of l) l.input
spelling_from (Some slash) l = (regular_expression (rest (at_place slash l.input))).spelling

-- a token is no error, and nothing in its spelling turns its meaning; at the end there is nothing to ask
abbrev pub MeansItself : Option SpannedView → Text → Type 0
MeansItself None spelling = ⊤
MeansItself (Some t) spelling = (is_error (kind_of t.token) ≡ false) × (list_any (turns_meaning (kind_of t.token)) spelling ≡ false)

-- Laws

-- A read does not allocate where it finds no fault and no comment that is collected, and a token that means what is written
-- of it, or the end.
abbrev pub ReadsAreFree : Type 0
ReadsAreFree =
    (l : LexerState) → (reading_of l).faults ≡ [] → (reading_of l).comments ≡ [] → MeansItself (reading_of l).found (spelling_from l.reread l)
    → is_free_read l ≡ true
