use Rattle.std.proofs.Common.{Some, ap, arith, refl, sym, ◌∙◌}
use Rattle.ecma_place.proofs.MoveLemmas.{place-passed-le}
use Rattle.ecma_place.proofs.RunLemmas.{IsFurther, further-HasPlace, further-back, further-start, further-step}
use Rattle.ecma_escape.proofs.StringFound.{literal-raw}
use Rattle.ecma_string.proofs.PlainStrings.{eaten, plain-closed, plain-found, plain-scanned, run-text, uneaten}
use Rattle.ecma_string.proofs.string.eat_plain_string.Goals as goal

pub returns-then-not-eat_byte-clause-plain : goal.returns-then-not-eat_byte-clause-plain
returns-then-not-eat_byte-clause-plain c = λ token is free none.
    let quote = c.opening_quote-quote.result in
    let last = plain-closed quote c.args.input.now c.opening_quote-quote.new.input c.pass_plain.new.input token c.opening_quote-quote.ensures.quote c.opening_quote-quote.ensures.moved c.pass_plain.ensures is free none in
    sym c.if-not-eat_byte.true ∙ c.eat_byte.ensures.value.1 (last ∙ ap Some (sym c.quote_byte.ensures))

pub returns-then-not-eat_byte-clause-same : goal.returns-then-not-eat_byte-clause-same
returns-then-not-eat_byte-clause-same c =
    let stayed = uneaten c.eat_byte.result c.pass_plain.new.input c.eat_byte.new.self c.if-not-eat_byte.true c.eat_byte.ensures.moved in
    let run = further-step _ _ _ _ (further-step _ _ _ _ (further-start c.args.input.now) c.opening_quote-quote.ensures.moved) c.pass_plain.ensures in
    let further : IsFurther c.args.input.now c.eat_byte.new.self = rw stayed run in
    c.reset_to.ensures ∙ further-back c.args.input.now c.eat_byte.new.self _ _ further c.cur_pos-start.ensures c.opening_quote-quote.ensures.quote

pub slice-requires-clause-from_place : goal.slice-requires-clause-from_place
slice-requires-clause-from_place c =
    let onward = eaten c.eat_byte.result c.pass_plain.new.input c.eat_byte.new.self c.if-not-eat_byte.false c.eat_byte.ensures.moved in
    further-HasPlace c.opening_quote-quote.new.input c.eat_byte.new.self _ (further-step _ _ _ _ (further-step _ _ _ _ (further-start _) c.pass_plain.ensures) onward) c.cur_pos-from.ensures

pub slice-requires-clause-to_place : goal.slice-requires-clause-to_place
slice-requires-clause-to_place c =
    let onward = eaten c.eat_byte.result c.pass_plain.new.input c.eat_byte.new.self c.if-not-eat_byte.false c.eat_byte.ensures.moved in
    further-HasPlace c.pass_plain.new.input c.eat_byte.new.self _ (further-step _ _ _ _ (further-start _) onward) c.cur_pos-to.ensures

pub slice-requires-clause-in_order : goal.slice-requires-clause-in_order
slice-requires-clause-in_order c =
    let order = place-passed-le c.opening_quote-quote.new.input c.pass_plain.new.input _ c.pass_plain.ensures in
    omega (arith, order, c.cur_pos-from.ensures, c.cur_pos-to.ensures)

pub slice-requires-2-clause-in_order : goal.slice-requires-2-clause-in_order
slice-requires-2-clause-in_order c =
    let onward = eaten c.eat_byte.result c.pass_plain.new.input c.eat_byte.new.self c.if-not-eat_byte.false c.eat_byte.ensures.moved in
    let first = place-passed-le c.args.input.now c.opening_quote-quote.new.input 1 c.opening_quote-quote.ensures.moved in
    let run = place-passed-le c.opening_quote-quote.new.input c.pass_plain.new.input _ c.pass_plain.ensures in
    let last = place-passed-le c.pass_plain.new.input c.eat_byte.new.self 1 onward in
    omega (arith, first, run, last, c.cur_pos-start.ensures, c.cur_pos.ensures)

pub returns-clause-found : goal.returns-clause-found
returns-clause-found c =
    let onward = eaten c.eat_byte.result c.pass_plain.new.input c.eat_byte.new.self c.if-not-eat_byte.false c.eat_byte.ensures.moved in
    let last = c.eat_byte.ensures.value.0 c.if-not-eat_byte.false ∙ ap Some c.quote_byte.ensures in
    let text = c.slice.ensures ∙ run-text c.opening_quote-quote.new.input c.pass_plain.new.input c.eat_byte.new.self _ _ _ c.pass_plain.ensures onward c.cur_pos-from.ensures c.cur_pos-to.ensures in
    let is = plain-scanned c.opening_quote-quote.result c.args.input.now c.opening_quote-quote.new.input c.pass_plain.new.input c.eat_byte.new.self c.slice.result.now c.opening_quote-quote.ensures.quote c.opening_quote-quote.ensures.moved c.pass_plain.ensures text last onward in
    let raw = c.slice-2.ensures ∙ literal-raw c.args.input.now c.eat_byte.new.self _ _ is.moved c.cur_pos-start.ensures c.cur_pos.ensures in
    plain-found c.args.input.now c.eat_byte.new.self c.slice.result.now c.slice-2.result.now c.from.result c.from-2.result is raw c.from.ensures c.from-2.ensures

pub returns-clause-moved : goal.returns-clause-moved
returns-clause-moved c =
    let onward = eaten c.eat_byte.result c.pass_plain.new.input c.eat_byte.new.self c.if-not-eat_byte.false c.eat_byte.ensures.moved in
    let last = c.eat_byte.ensures.value.0 c.if-not-eat_byte.false ∙ ap Some c.quote_byte.ensures in
    (plain-scanned c.opening_quote-quote.result c.args.input.now c.opening_quote-quote.new.input c.pass_plain.new.input c.eat_byte.new.self _ c.opening_quote-quote.ensures.quote c.opening_quote-quote.ensures.moved c.pass_plain.ensures refl last onward).moved
