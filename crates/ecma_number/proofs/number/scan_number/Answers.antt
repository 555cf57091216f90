use Rattle.std.proofs.Common.{ℕ, ◌+◌, length, sym, ap, ◌∙◌, encode_utf8_all}
use Rattle.ecma_place.specs.Cursor.{rest, passed}
use Rattle.ecma_place.specs.Text.{byte_len}
use Rattle.ecma_place.specs.declared.place.Span.{Span}
use Rattle.ecma_place.proofs.MoveLemmas.{place-passed-le, span-passed}
use Rattle.ecma_place.proofs.RunLemmas.{text-passed}
use Rattle.ecma_grammar.specs.Found.{span_of}
use Rattle.ecma_grammar.specs.Numbers.{number_parts, number_text, behind_number, refusal}
use Rattle.ecma_number.specs.WrittenNumbers.{number_of}
use Rattle.ecma_number.proofs.NumberDigits.{number-some}
use Rattle.ecma_number.proofs.NumberForms.{number-bytes}
use Rattle.ecma_grammar.proofs.NumberFound.{front-taken, free-number}
use Rattle.ecma_grammar.proofs.SignLemmas.{rest-behind}
use Rattle.ecma_number.proofs.NumberLaws.{number_sound, number_tiles}
use Rattle.ecma_number.proofs.NumberLocal.{spelling_is}
use Rattle.ecma_number.proofs.number.scan_number.Goals as goal

pub new-extent-requires : goal.new-extent-requires
new-extent-requires c = rw (c.cur_pos-start.ensures, c.cur_pos.ensures) (place-passed-le _ _ _ c.read_parts-number.ensures.moved)

pub slice-raw-requires-clause-in_order : goal.slice-raw-requires-clause-in_order
slice-raw-requires-clause-in_order c =
    rw (c.new-extent.ensures, c.cur_pos-start.ensures, c.cur_pos.ensures) (place-passed-le _ _ _ c.read_parts-number.ensures.moved)

pub found_number-requires-clause-form : goal.found_number-requires-clause-form
found_number-requires-clause-form c = rw c.read_parts-number.ensures.value (number_sound (rest c.args.input.now))

pub found_number-requires-clause-raw : goal.found_number-requires-clause-raw
found_number-requires-clause-raw c =
    let text = rest c.args.input.now in
    let number = number_parts text in
    let from = ap (λ (s : Span). s.lo.0) c.new-extent.ensures ∙ c.cur_pos-start.ensures in
    let to = ap (λ (s : Span). s.hi.0) c.new-extent.ensures ∙ c.cur_pos.ensures in
    let cut = front-taken (number_text number) (behind_number number text) text (number_tiles text) in
    c.slice-raw.ensures ∙ text-passed _ _ (length (number_text number)) _ _ c.read_parts-number.ensures.moved from to
    ∙ ap encode_utf8_all cut ∙ number-bytes number (number_sound text) ∙ ap number_text (sym c.read_parts-number.ensures.value)

pub found_number-requires-clause-extent : goal.found_number-requires-clause-extent
found_number-requires-clause-extent c =
    let text = rest c.args.input.now in
    let number = number_parts text in
    let from = ap (λ (s : Span). s.lo.0) c.new-extent.ensures ∙ c.cur_pos-start.ensures in
    let cut = front-taken (number_text number) (behind_number number text) text (number_tiles text) in
    let extent = c.new-extent.ensures ∙ span-passed c.args.input.now _ (number_text number) _ _ cut c.read_parts-number.ensures.moved c.cur_pos-start.ensures c.cur_pos.ensures in
    rw c.read_parts-number.ensures.value (extent ∙ ap (λ (p : ℕ). span_of p (p + byte_len (number_text number))) (sym from))

pub found_number-requires-clause-some : goal.found_number-requires-clause-some
found_number-requires-clause-some c =
    λ none. number-some (number_of c.read_parts-number.result) (rest c.args.input.now) _ c.read_parts-number.ensures.value c.requires none

pub found_number-requires-clause-behind : goal.found_number-requires-clause-behind
found_number-requires-clause-behind c = ap (λ (s : Span). s.hi.0) c.new-extent.ensures ∙ c.cur_pos.ensures

pub returns-clause-moved : goal.returns-clause-moved
returns-clause-moved c =
    let text = rest c.args.input.now in
    let number = number_parts text in
    let same = spelling_is c.args.ts1085 c.args.rule number (refusal c.args.rule number (behind_number number text)) in
    c.read_parts-number.ensures.moved ∙ ap (λ s. passed (length s) c.args.input.now) (sym same)

pub returns-in_default-clause-free : goal.returns-in_default-clause-free
returns-in_default-clause-free c = λ plain accepted clean.
    let text = rest c.args.input.now in
    let number = number_parts text in
    let is = c.read_parts-number.ensures.value in
    let left = rest-behind _ _ _ c.read_parts-number.ensures.moved in
    let free = free-number c.args.ts1085 c.args.rule number (refusal c.args.rule number (behind_number number text)) plain accepted clean in
    c.in_default.ensures.free (rw is free.0) (rw (is, left) free.1) (rw is free.2)
