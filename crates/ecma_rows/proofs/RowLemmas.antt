-- The row of one token more is written.
use Rattle.std.proofs.Common.{◌≡◌, ◌∙◌, ℕ, ◌+◌, Bool, true, List, [], ◌∷◌, ◌++◌, Option, length, map, sym, ap}
use Rattle.std.proofs.lemmas.List.{length-append, map-append}
use Rattle.ecma_token.specs.View.{SpannedView}
use Rattle.ecma_state.specs.Session.{Session}
use Rattle.ecma_reader.specs.Rereads.{SlashRule}
use Rattle.ecma_reader.specs.Readers.{Reads, Tells, tokens_found}
use Rattle.ecma_reader.specs.declared.reader.Reader.{Reader}
use Rattle.ecma_reader.proofs.FoldLemmas.{told-next}
use Rattle.ecma_rows.specs.Rows.{token_row}
use Rattle.ecma_rows.specs.Told.{written}
use Rattle.ecma_rows.specs.declared.tokens.TokenRow.{TokenRow}

-- so many tokens were counted, and their rows stand in the room, which held this before
pub record IsWritten (before room : List TokenRow) (count : ℕ) (tokens : List SpannedView) : Type 0 where
  pub count_is : count ≡ length (map token_row tokens)
  pub room_is : room ≡ written (map token_row tokens) before

pub written-next : (rule : SlashRule) (begin : Session) (before room now : List TokenRow) (count : ℕ) (old new : Reader) (found : Option SpannedView) (more : Bool)
    (tells : Tells rule begin (IsWritten before room count) old) → Reads rule begin tells.tokens found more new → more ≡ true
    → ((first other : List TokenRow) → count ≡ length first → room ≡ written first other → now ≡ written (first ++ map token_row (tokens_found found)) other)
    → Tells rule begin (IsWritten before now (count + 1)) new
written-next rule begin before room now count old new found more tells reads going writes =
    told-next rule begin (IsWritten before room count) (IsWritten before now (count + 1)) old new found more tells reads going
    (λ t e so.
    let rows = map token_row tells.tokens in
    let all = map-append token_row tells.tokens (t ∷ []) in
    record {
      count_is = ap (λ n. n + 1) so.count_is ∙ sym (length-append rows (token_row t ∷ [])) ∙ ap length (sym all);
      room_is = writes rows before so.count_is so.room_is ∙ ap (λ o. written (rows ++ map token_row (tokens_found o)) before) e ∙ ap (λ r. written r before) (sym all);
    })
