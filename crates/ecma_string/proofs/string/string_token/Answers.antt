use Rattle.std.proofs.Common.{ap, sym, ◌∙◌, refl, arith, map, Ok}
use Rattle.std.proofs.lemmas.Bool.{false≢true}
use Rattle.ecma_place.specs.Atom.{borrowed_atom}
use Rattle.ecma_place.proofs.MoveLemmas.{place-passed-le}
use Rattle.ecma_place.proofs.RunLemmas.{further-HasPlace, further-start, further-step}
use Rattle.ecma_token.specs.View.{error_view, plain_token}
use Rattle.ecma_token.specs.declared.token.Token.{Str}
use Rattle.ecma_grammar.specs.Found.{fault_view, value_view}
use Rattle.ecma_escape.proofs.StringFound.{literal-refused, literal-accepted, accepted-order, literal-raw, free-value, free-close}
use Rattle.ecma_string.proofs.string.string_token.Goals as goal

pub returns-in_err-error-clause-free : goal.returns-in_err-error-clause-free
returns-in_err-error-clause-free c = λ token h o none.
    let free = free-value c.opening_quote-quote.result c.args.input.now c.opening_quote-quote.new.input token c.opening_quote-quote.ensures.quote c.opening_quote-quote.ensures.moved h o in
    absurd (false≢true (c.in_err-error.ensures.free free.0 free.1 free.2))

pub close_string-requires : goal.close_string-requires
close_string-requires c =
    let value = sym (ap (value_view (λ a. a)) c.in-Ok.is) ∙ c.in_ok-error.ensures.value in
    let order = accepted-order c.opening_quote-quote.result c.args.input.now c.opening_quote-quote.new.input c.string_value.new.input c.in-Ok.value c.opening_quote-quote.ensures.quote c.opening_quote-quote.ensures.moved value c.in_ok-error.ensures.moved in
    omega (arith, order, c.cur_pos-start.ensures)

pub returns-in_err-close_string-in-Ok-clause-free : goal.returns-in_err-close_string-in-Ok-clause-free
returns-in_err-close_string-in-Ok-clause-free c = λ token h o none.
    let value = sym (ap (value_view (λ a. a)) c.in-Ok.is) ∙ c.in_ok-error.ensures.value in
    let closed = free-close c.opening_quote-quote.result c.args.input.now c.opening_quote-quote.new.input c.string_value.new.input c.in-Ok.value c.opening_quote-quote.ensures.quote c.opening_quote-quote.ensures.moved value c.in_ok-error.ensures.moved none in
    absurd (false≢true (c.in_err-close_string-in-Ok.ensures.free closed))

pub slice-requires-clause-from_place : goal.slice-requires-clause-from_place
slice-requires-clause-from_place c =
    let value = sym (ap (value_view (λ a. a)) c.in-Ok.is) ∙ c.in_ok-error.ensures.value in
    let all = literal-accepted c.opening_quote-quote.result c.args.input.now c.opening_quote-quote.new.input c.string_value.new.input c.close_string.new.input c.in-Ok.value (map fault_view c.args.faults.now.items) _ _ c.cur_pos-start.result.0
    c.opening_quote-quote.ensures.quote c.opening_quote-quote.ensures.moved value c.in_ok-error.ensures.faults c.in_ok-error.ensures.moved c.cur_pos-start.ensures c.in_ok-close_string-in-Ok.ensures.faults c.in_ok-close_string-in-Ok.ensures.moved in
    further-HasPlace c.args.input.now _ _ (further-step _ _ _ _ (further-start _) all.moved) c.cur_pos-start.ensures

pub slice-requires-clause-in_order : goal.slice-requires-clause-in_order
slice-requires-clause-in_order c =
    let value = sym (ap (value_view (λ a. a)) c.in-Ok.is) ∙ c.in_ok-error.ensures.value in
    let all = literal-accepted c.opening_quote-quote.result c.args.input.now c.opening_quote-quote.new.input c.string_value.new.input c.close_string.new.input c.in-Ok.value (map fault_view c.args.faults.now.items) _ _ c.cur_pos-start.result.0
    c.opening_quote-quote.ensures.quote c.opening_quote-quote.ensures.moved value c.in_ok-error.ensures.faults c.in_ok-error.ensures.moved c.cur_pos-start.ensures c.in_ok-close_string-in-Ok.ensures.faults c.in_ok-close_string-in-Ok.ensures.moved in
    let order = place-passed-le c.args.input.now c.close_string.new.input _ all.moved in
    omega (arith, order, c.cur_pos-start.ensures, c.cur_pos.ensures)

pub returns-in-Err : goal.returns-in-Err
returns-in-Err c =
    let value = sym (ap (value_view (λ a. a)) c.in-Err.is) ∙ c.in_ok-error.ensures.value in
    let all = literal-refused c.opening_quote-quote.result c.args.input.now c.opening_quote-quote.new.input c.string_value.new.input (error_view c.in-Err.error) (map fault_view c.args.faults.now.items) _
    c.opening_quote-quote.ensures.quote c.opening_quote-quote.ensures.moved value c.in_ok-error.ensures.faults c.in_ok-error.ensures.moved in
    record { value = all.value; faults = all.faults; moved = all.moved; free = λ token h o none. refl }

pub returns-in_ok-close_string-in-Ok : goal.returns-in_ok-close_string-in-Ok
returns-in_ok-close_string-in-Ok c =
    let value = sym (ap (value_view (λ a. a)) c.in-Ok.is) ∙ c.in_ok-error.ensures.value in
    let all = literal-accepted c.opening_quote-quote.result c.args.input.now c.opening_quote-quote.new.input c.string_value.new.input c.close_string.new.input c.in-Ok.value (map fault_view c.args.faults.now.items) _ _ c.cur_pos-start.result.0
    c.opening_quote-quote.ensures.quote c.opening_quote-quote.ensures.moved value c.in_ok-error.ensures.faults c.in_ok-error.ensures.moved c.cur_pos-start.ensures c.in_ok-close_string-in-Ok.ensures.faults c.in_ok-close_string-in-Ok.ensures.moved in
    let raw = c.slice.ensures ∙ literal-raw c.args.input.now c.close_string.new.input _ _ all.moved c.cur_pos-start.ensures c.cur_pos.ensures in
    record {
      value = ap (λ a. Ok (plain_token (Str c.in-Ok.value a))) (c.from-raw.ensures ∙ ap borrowed_atom raw) ∙ all.value;
      faults = all.faults;
      moved = all.moved;
      free = λ token h o none. refl;
    }
