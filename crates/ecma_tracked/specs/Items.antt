-- What a tracked lexer gives as an iterator.
use Rattle.std.specs.Prelude.{◌+◌, ◌≡◌, ⊤, Bool, true, false, Option, Some, None, Result, Ok, Err}
use Rattle.std.specs.Iterator.{Count, at_most}
use Rattle.std.specs.declared.alloc.AllocError.{AllocError}
use Rattle.ecma_token.specs.View.{spanned_view}
use Rattle.ecma_token.specs.declared.token.TokenAndSpan.{TokenAndSpan}
use Rattle.ecma_state.specs.Session.{Session, lexer_state}
use Rattle.ecma_state.specs.Ending.{most_tokens}
use Rattle.ecma_rewinding.specs.Rewinding.{GoesOn}
use Rattle.ecma_stream.specs.View.{IsGivenAs}
use Rattle.ecma_tracked.specs.States.{ReadsOn, TrackedState, TrackedValue, tracked_of, tracked_state}

-- one token more, the end, or that memory is refused
abbrev pub Item : Session → Option (Result TokenAndSpan AllocError) → TrackedState → Type 0
Item s None t = ReadsOn s None t
Item s (Some (Ok token)) t = ReadsOn s (Some (spanned_view token)) t
Item s (Some (Err refusal)) t = t.refused ≡ true

-- what stays where memory is refused, so that a checkpoint of before undoes it
abbrev pub StaysBehind : Option (Result TokenAndSpan AllocError) → TrackedValue → TrackedValue → Type 0
StaysBehind None old new = ⊤
StaysBehind (Some (Ok token)) old new = ⊤
StaysBehind (Some (Err refusal)) old new = (new.refused ≡ true) × (IsGivenAs old.lexer new.lexer × GoesOn (lexer_state old.lexer) (lexer_state new.lexer))

-- a refusal comes once: behind it there is nothing
abbrev pub ItemIf : Bool → TrackedValue → Option (Result TokenAndSpan AllocError) → TrackedValue → Type 0
ItemIf true old item new = (item ≡ None) × (new ≡ old)
ItemIf false old item new = ((s : Session) → tracked_of s ≡ tracked_state old → Item s item (tracked_state new)) × StaysBehind item old new

abbrev pub GivesItem : TrackedValue → Option (Result TokenAndSpan AllocError) → TrackedValue → Type 0
GivesItem old item new = ItemIf old.refused old item new

-- so many items are left at most: the tokens, and one refusal

abbrev pub items_from : Bool → TrackedValue → Count
items_from true t = at_most 0
items_from false t = at_most (most_tokens (lexer_state t.lexer) + 1)

abbrev pub items_left : TrackedValue → Count
items_left t = items_from t.refused t
