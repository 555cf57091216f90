-- An iterator gives nothing behind its end, where no slash is read again.
use Rattle.std.specs.Prelude.{◌≡◌, ⊤, List, [], ◌∷◌, Option, None, Result}
use Rattle.std.specs.declared.alloc.AllocError.{AllocError}
use Rattle.ecma_token.specs.declared.token.TokenAndSpan.{TokenAndSpan}
use Rattle.ecma_state.specs.Session.{LexerValue}
use Rattle.ecma_state.specs.Items.{GivesItem}

-- what one call of the iterator gives
abbrev pub Item : Type 0
Item = Option (Result TokenAndSpan AllocError)

-- what as many calls give, one after another
abbrev pub GivesItems : LexerValue → List Item → LexerValue → Type 0
GivesItems old [] new = old ≡ new
GivesItems old (item ∷ items) new = (between : LexerValue) × GivesItem old item between × GivesItems between items new

abbrev pub AllNothing : List Item → Type 0
AllNothing [] = ⊤
AllNothing (item ∷ items) = (item ≡ None) × AllNothing items

-- Laws

-- Once nothing was given, nothing follows, where no slash is read again.
abbrev pub NothingBehindTheEnd : Type 0
NothingBehindTheEnd = (old new : LexerValue) (items : List Item) → old.reread ≡ None → GivesItems old (None ∷ items) new → AllNothing items
