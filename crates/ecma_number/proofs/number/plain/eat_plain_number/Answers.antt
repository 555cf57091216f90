use Rattle.std.proofs.Common.{◌+◌, ap, sym, ◌∙◌, length, encode_utf8_all}
use Rattle.std.proofs.lemmas.Bool.{false≢true}
use Rattle.ecma_place.specs.Atom.{borrowed_atom}
use Rattle.ecma_place.specs.Cursor.{rest, place, passed}
use Rattle.ecma_place.specs.Text.{byte_len}
use Rattle.ecma_place.proofs.MoveLemmas.{place-passed, place-passed-le}
use Rattle.ecma_place.proofs.RunLemmas.{text-passed}
use Rattle.ecma_token.specs.View.{TokenView}
use Rattle.ecma_grammar.specs.Found.{Scanned, token_behind, found_at, span_of}
use Rattle.ecma_number.proofs.PlainNumber.{plain-front, plain-found, plain-moved, plain-number, plain-place, plain-token, start-bytes}
use Rattle.ecma_number.proofs.number.plain.eat_plain_number.Goals as goal

pub bump_bytes-requires : goal.bump_bytes-requires
bump_bytes-requires c = plain-place c.in_ok-count.ensures.plain c.args.input.now (c.as_bytes.ensures.value ∙ c.as_str.ensures)

pub slice-raw-requires-clause-in_order : goal.slice-raw-requires-clause-in_order
slice-raw-requires-clause-in_order c = rw (c.cur_pos-start.ensures, c.cur_pos.ensures) (place-passed-le _ _ _ c.bump_bytes.ensures)

pub returns-clause-found : goal.returns-clause-found
returns-clause-found c = λ ts1085 rule.
    let old = c.args.input.now in
    let is = c.as_bytes.ensures.value ∙ c.as_str.ensures in
    let moved = plain-moved c.in_ok-count.ensures.plain old _ is c.bump_bytes.ensures in
    let front = plain-front c.in_ok-count.ensures.plain (rest old) is in
    let raw = ap borrowed_atom (c.slice-raw.ensures ∙ text-passed old _ _ _ _ moved c.cur_pos-start.ensures c.cur_pos.ensures ∙ ap encode_utf8_all front) in
    let token = plain-token c.in_ok-count.ensures.plain _ _ (c.from.ensures ∙ raw) (c.from-2.ensures ∙ raw) in
    let extent = ap (span_of (place old)) (place-passed old _ _ moved ∙ ap (λ s. place old + byte_len s) front) in
    ap (found_at token_behind (place old)) (plain-number c.in_ok-count.ensures.plain (rest old) ts1085 rule is) ∙ plain-found c.in_ok-count.ensures.plain (place old) ts1085 rule _ _ token extent

pub returns-clause-moved : goal.returns-clause-moved
returns-clause-moved c = λ ts1085 rule.
    let old = c.args.input.now in
    let is = c.as_bytes.ensures.value ∙ c.as_str.ensures in
    plain-moved c.in_ok-count.ensures.plain old _ is c.bump_bytes.ensures
    ∙ ap (λ (s : Scanned TokenView). passed (length s.spelling) old) (sym (plain-number c.in_ok-count.ensures.plain (rest old) ts1085 rule is))

pub returns-in_err-count-clause-answered : goal.returns-in_err-count-clause-answered
returns-in_err-count-clause-answered c = λ start short.
    absurd (false≢true (c.in_err-count.ensures.answered (start-bytes _ _ (c.as_bytes.ensures.value ∙ c.as_str.ensures) start) short))
