-- What a lexer gives as an iterator.
use Rattle.std.specs.Prelude.{◌≡◌, ◌+◌, ◌<◌, [], length, true, false, Bool, Option, Some, None, Result, Ok, Err}
use Rattle.std.specs.Iterator.{Count, at_most, endless}
use Rattle.std.specs.declared.alloc.AllocError.{AllocError}
use Rattle.ecma_place.specs.Cursor.{rest}
use Rattle.ecma_place.specs.declared.place.BytePos.{BytePos}
use Rattle.ecma_token.specs.View.{spanned_view}
use Rattle.ecma_token.specs.declared.token.TokenAndSpan.{TokenAndSpan}
use Rattle.ecma_state.specs.Ending.{most_tokens}
use Rattle.ecma_state.specs.Run.{is_free_read, reading_of, state_behind}
use Rattle.ecma_state.specs.Session.{LexerValue, LexerState, lexer_state}

-- A read is refused memory, which is kept in mind, and nothing else is changed. It is not refused where it allocates nothing,
-- nor at the end, where no slash is read again.
pub record IsRefusedRead (old new : LexerValue) : Type 0 where
  pub refused : new ≡ record old { refused = true }
  pub wanted : length old.state.contexts < 128 → is_free_read (lexer_state old) ≡ true → ⊥
  pub more : old.reread ≡ None → rest old.input ≡ [] → ⊥

-- where memory was not refused before: the token or the end that a read answers, or that memory is refused
abbrev pub ReadItem : LexerValue → Option (Result TokenAndSpan AllocError) → LexerValue → Type 0
ReadItem old None new = ((reading_of (lexer_state old)).found ≡ None) × (lexer_state new ≡ state_behind (lexer_state old) (reading_of (lexer_state old)))
ReadItem old (Some (Ok token)) new =
    ((reading_of (lexer_state old)).found ≡ Some (spanned_view token)) × (lexer_state new ≡ state_behind (lexer_state old) (reading_of (lexer_state old)))
ReadItem old (Some (Err error)) new = IsRefusedRead old new

-- a refusal comes once: behind it there is nothing
abbrev pub ItemIf : Bool → LexerValue → Option (Result TokenAndSpan AllocError) → LexerValue → Type 0
ItemIf true old item new = (item ≡ None) × (new ≡ old)
ItemIf false old item new = ReadItem old item new

abbrev pub GivesItem : LexerValue → Option (Result TokenAndSpan AllocError) → LexerValue → Type 0
GivesItem old item new = ItemIf old.refused old item new

-- so many items are left at most, where no slash is read again: the tokens, and one refusal

abbrev pub items_from : Bool → Option BytePos → LexerState → Count
items_from true reread l = at_most 0
items_from false None l = at_most (most_tokens l + 1)
items_from false (Some slash) l = endless

abbrev pub items_left : LexerValue → Count
items_left l = items_from l.refused l.reread (lexer_state l)
