-- Reads behind the white space with which they begin, and what they give.
use Rattle.std.specs.Prelude.{◌≡◌, ◌≤◌, Bool, true, false, Option, None, option_map}
use Rattle.ecma_place.specs.Cursor.{HasPlace}
use Rattle.ecma_place.specs.declared.place.BytePos.{BytePos}
use Rattle.ecma_plain.specs.Plain.{StandsPlain}
use Rattle.ecma_reads.specs.declared.blank_gap.BlankGap.{BlankGap}
use Rattle.ecma_state.specs.Run.{at_place, mode_of, reading_of, state_behind}
use Rattle.ecma_state.specs.Session.{LexerValue, lexer_state}
use Rattle.ecma_token.specs.View.{spanned_view}
use Rattle.ecma_token.specs.declared.token.TokenAndSpan.{TokenAndSpan}

-- a lexer whose cursor stands at this place
abbrev pub back_at : BytePos → LexerValue → LexerValue
back_at p l = record l { input = at_place p l.input }

-- A lexer stands behind the white space with which a read from this place begins, no slash is read again, and no template
-- was opened behind the place.
pub record IsBehindGap (before : BytePos) (l : LexerValue) (gap : BlankGap) : Type 0 where
  pub none : l.reread ≡ None
  pub has_place : HasPlace l.input before.0
  pub opened : l.state.opened.0 ≤ before.0
  pub stands : StandsPlain (mode_of (lexer_state l)) (at_place before l.input) l.input gap

-- the next token, or the end, was put into a slot, or nothing was changed
abbrev pub Gives : LexerValue → LexerValue → Option TokenAndSpan → Option TokenAndSpan → Bool → Type 0
Gives old now empty slot true =
    (option_map spanned_view slot ≡ (reading_of (lexer_state old)).found) × (lexer_state now ≡ state_behind (lexer_state old) (reading_of (lexer_state old)))
Gives old now empty slot false = (now ≡ old) × (slot ≡ empty)

-- nothing is put into a slot, and the lexer is as before
pub record IsRefused (old now : LexerValue) (empty left : Option TokenAndSpan) : Type 0 where
  pub slot : left ≡ empty
  pub same : now ≡ old
