-- What a read gives as an item.
use Rattle.std.proofs.Common.{◌≡◌, Bool, false, List, Option, Some, None, Result, Ok, subst, sym}
use Rattle.std.specs.Prelude.{option_map}
use Rattle.std.specs.declared.alloc.AllocError.{AllocError}
use Rattle.ecma_token.specs.View.{SpannedView, spanned_view}
use Rattle.ecma_token.specs.declared.token.TokenAndSpan.{TokenAndSpan}
use Rattle.ecma_state.specs.Session.{Session}
use Rattle.ecma_slashes.specs.Rereads.{SlashRule}
use Rattle.ecma_reader.specs.Items.{GivesItem, Item, ItemIf}
use Rattle.ecma_reader.specs.Readers.{Goes, Reads, Shows}
use Rattle.ecma_reader.specs.declared.reader.Reader.{Reader}

-- the answer of a read, as an item
abbrev pub item_of : Option TokenAndSpan → Option (Result TokenAndSpan AllocError)
item_of slot = option_map Ok slot

pub gives : (old new : Reader) (slot : Option TokenAndSpan) (more : Bool) → old.refused ≡ false
    → ((rule : SlashRule) (begin : Session) (tokens : List SpannedView) → Shows rule begin tokens old → Reads rule begin tokens (option_map spanned_view slot) more new)
    → GivesItem old (item_of slot) new
gives old new slot more given reads =
    subst (λ b. ItemIf b old (item_of slot) new) (sym given) (λ rule begin tokens shows. there rule begin tokens slot (reads rule begin tokens shows).goes)
  where
    there : (rule : SlashRule) (begin : Session) (tokens : List SpannedView) (slot : Option TokenAndSpan) → Goes rule begin tokens (option_map spanned_view slot) new
        → Item rule begin tokens (item_of slot) new
    there rule begin tokens None goes = goes
    there rule begin tokens (Some t) goes = goes
