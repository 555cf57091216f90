-- What a reader gives as an iterator.
use Rattle.std.specs.Prelude.{◌+◌, ◌≡◌, Bool, true, false, List, [], ◌∷◌, ◌++◌, Option, Some, None, Result, Ok, Err}
use Rattle.std.specs.Iterator.{Count, at_most}
use Rattle.std.specs.declared.alloc.AllocError.{AllocError}
use Rattle.ecma_token.specs.View.{SpannedView, spanned_view}
use Rattle.ecma_token.specs.declared.token.TokenAndSpan.{TokenAndSpan}
use Rattle.ecma_state.specs.Session.{Session, lexer_state}
use Rattle.ecma_state.specs.Ending.{most_tokens}
use Rattle.ecma_slashes.specs.Rereads.{SlashRule}
use Rattle.ecma_reader.specs.Readers.{HasRead, IsReady, Shows, tokens_by}
use Rattle.ecma_reader.specs.declared.reader.Reader.{Reader}

-- it may be asked for an item: it may read on, or memory was refused
abbrev pub CanRead : Reader → Type 0
CanRead reader = reader.refused ≡ false → IsReady reader

-- behind these tokens: one token more, the end, or that memory is refused
abbrev pub Item : SlashRule → Session → List SpannedView → Option (Result TokenAndSpan AllocError) → Reader → Type 0
Item rule begin tokens None reader = (tokens ≡ tokens_by rule begin) × HasRead rule begin reader
Item rule begin tokens (Some (Ok token)) reader = Shows rule begin (tokens ++ spanned_view token ∷ []) reader
Item rule begin tokens (Some (Err refusal)) reader = reader.refused ≡ true

-- a refusal comes once: behind it there is nothing
abbrev pub ItemIf : Bool → Reader → Option (Result TokenAndSpan AllocError) → Reader → Type 0
ItemIf true old item new = (item ≡ None) × (new ≡ old)
ItemIf false old item new = (rule : SlashRule) (begin : Session) (tokens : List SpannedView) → Shows rule begin tokens old → Item rule begin tokens item new

abbrev pub GivesItem : Reader → Option (Result TokenAndSpan AllocError) → Reader → Type 0
GivesItem old item new = ItemIf old.refused old item new

-- so many items are left at most: the tokens, and one refusal

abbrev pub items_from : Bool → Reader → Count
items_from true reader = at_most 0
items_from false reader = at_most (most_tokens (lexer_state reader.lexer) + 1)

abbrev pub items_left : Reader → Count
items_left reader = items_from reader.refused reader
