-- Rows of errors, one behind another.
use Rattle.std.proofs.Common.{◌≡◌, ◌∙◌, ℕ, ◌+◌, List, [], ◌∷◌, ◌++◌, append-nil, Option, Some, length, sym, subst, ap, arith}
use Rattle.std.proofs.lemmas.List.{append_assoc, length-append, map-append}
use Rattle.std.proofs.lemmas.Grind.{flat_map-append}
use Rattle.ecma_span.specs.declared.place.Span.{Span}
use Rattle.ecma_token.specs.View.{ErrorView, SpannedView, refusal_of}
use Rattle.ecma_state.specs.Session.{Session}
use Rattle.ecma_rows.specs.ErrorRows.{IsGathered, IsSaid, Sourced, all_errors, error_row, message_of, messages, of_tokens, rows_from, source_number, sourced}
use Rattle.ecma_reader.specs.Outputs.{error_tokens, errors_among}
use Rattle.ecma_reader.specs.Readers.{tokens_found}
use Rattle.ecma_rows.specs.declared.errors.ErrorRow.{ErrorRow}
use Rattle.ecma_rows.specs.declared.errors.Gathered.{Gathered}
use Rattle.ecma_rows.specs.declared.errors.Source.{Source}
use Rattle.ecma_rows.specs.declared.errors.Source.TheVariants.{Token, Recorded, Waiting}

-- the message of one more begins where those before it end
rows-behind : (at : ℕ) (es : List Sourced) (e : Sourced) → rows_from at (es ++ e ∷ []) ≡ rows_from at es ++ error_row (at + length (messages es)) e ∷ []
rows-behind at [] e = ap (λ n. error_row n e ∷ []) (let same : at ≡ at + 0 = omega arith in same)
rows-behind at (x ∷ es) e =
    let long = length-append (message_of x) (messages es) in
    let there : (at + length (message_of x)) + length (messages es) ≡ at + length (messages (x ∷ es)) = omega (arith, long) in
    ap (λ more. error_row at x ∷ more) (rows-behind (at + length (message_of x)) es e ∙ ap (λ n. rows_from (at + length (message_of x)) es ++ error_row n e ∷ []) there)

messages-behind : (es : List Sourced) (e : Sourced) → messages (es ++ e ∷ []) ≡ messages es ++ message_of e
messages-behind es e = flat_map-append message_of es (e ∷ []) ∙ ap (λ more. messages es ++ more) (append-nil (message_of e))

same-row : (row other : ErrorRow) → row.lo ≡ other.lo → row.hi ≡ other.hi → row.source ≡ other.source → row.message_lo ≡ other.message_lo → row.message_hi ≡ other.message_hi → row ≡ other
same-row row other lo hi source from to =
    ap (λ n. record row { lo = n }) lo
    ∙ ap (λ n. record row { lo = other.lo; hi = n }) hi
    ∙ ap (λ n. record row { lo = other.lo; hi = other.hi; source = n }) source
    ∙ ap (λ n. record row { lo = other.lo; hi = other.hi; source = other.source; message_lo = n }) from
    ∙ ap (λ n. record other { message_hi = n }) to

-- one more was gathered
pub gathers : (es : List Sourced) (e : Sourced) (source : Source) (span : Span) (message : List ℕ) (old new : Gathered) (row : ErrorRow) → IsSaid e source span message → IsGathered es old
    → new.messages.items ≡ old.messages.items ++ message → new.rows.items ≡ old.rows.items ++ row ∷ []
    → row.lo ≡ span.lo.0 → row.hi ≡ span.hi.0 → row.source ≡ source_number source → row.message_lo ≡ length old.messages.items → row.message_hi ≡ length new.messages.items
    → IsGathered (es ++ e ∷ []) new
gathers es e source span message old new row said is bytes rows lo hi number from to =
    let begins : row.message_lo ≡ 0 + length (messages es) = from ∙ ap length is.messages ∙ (let same : length (messages es) ≡ 0 + length (messages es) = omega arith in same) in
    let long = length-append old.messages.items message in
    let whole = to ∙ ap length bytes in
    let text = ap length said.message_is in
    let ends : row.message_hi ≡ (0 + length (messages es)) + length (message_of e) = omega (arith, begins, from, long, whole, text) in
    let same : row ≡ error_row (0 + length (messages es)) e =
    same-row row (error_row (0 + length (messages es)) e) (lo ∙ ap (λ (s : Span). s.lo.0) said.span_is) (hi ∙ ap (λ (s : Span). s.hi.0) said.span_is) (number ∙ ap source_number said.source_is) begins ends in
    record {
      rows = rows ∙ ap (λ r. old.rows.items ++ r ∷ []) same ∙ ap (λ all. all ++ error_row (0 + length (messages es)) e ∷ []) is.rows ∙ sym (rows-behind 0 es e);
      messages = bytes ∙ ap (λ ms. ms ++ message) is.messages ∙ ap (λ m. messages es ++ m) said.message_is ∙ sym (messages-behind es e);
    }

-- all were
pub gathers-all : (s : Session) (recorded waiting : List ErrorView) (g : Gathered) → recorded ≡ s.errors.recorded → waiting ≡ s.errors.waiting
    → IsGathered ((of_tokens (error_tokens s) ++ sourced Recorded recorded) ++ sourced Waiting waiting) g → IsGathered (all_errors s) g
gathers-all s recorded waiting g first last is =
    let apart = append_assoc (of_tokens (error_tokens s)) (sourced Recorded recorded) (sourced Waiting waiting) in
    let there = ap (λ (es : List ErrorView). of_tokens (error_tokens s) ++ (sourced Recorded es ++ sourced Waiting waiting)) first in
    let end = ap (λ (es : List ErrorView). of_tokens (error_tokens s) ++ (sourced Recorded s.errors.recorded ++ sourced Waiting es)) last in
    subst (λ es. IsGathered es g) (apart ∙ there ∙ end) is

-- those of one token more
pub tokens-on : (ts : List SpannedView) (found : Option SpannedView) (t : SpannedView) → found ≡ Some t
    → of_tokens (errors_among ts) ++ of_tokens (errors_among (tokens_found found)) ≡ of_tokens (errors_among (ts ++ t ∷ []))
tokens-on ts found t e =
    let of_token : ErrorView → Sourced = λ error. record { source = Token; error = error } in
    ap (λ o. of_tokens (errors_among ts) ++ of_tokens (errors_among (tokens_found o))) e
    ∙ sym (map-append of_token (errors_among ts) (errors_among (t ∷ [])))
    ∙ ap of_tokens (sym (flat_map-append (λ (x : SpannedView). refusal_of x.token) ts (t ∷ [])))
