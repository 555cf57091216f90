use Rattle.std.proofs.Common.{ap, arith, map}
use Rattle.ecma_place.proofs.MoveLemmas.{place-passed-le}
use Rattle.ecma_token.specs.View.{token_view}
use Rattle.ecma_grammar.specs.Found.{fault_view, value_view}
use Rattle.ecma_escape.proofs.StringFound.{literal-found}
use Rattle.ecma_string.proofs.string.scan_string.Goals as goal

pub new-requires : goal.new-requires
new-requires c =
    let order = place-passed-le c.args.input.now c.string_token.new.input _ c.in-Ok.ensures.moved in
    omega (arith, order, c.cur_pos-start.ensures, c.cur_pos.ensures)

pub returns-clause-found : goal.returns-clause-found
returns-clause-found c =
    let all = c.in-Ok.ensures in
    literal-found c.args.input.now c.string_token.new.input (value_view token_view c.in-Ok.value) (map fault_view c.new-faults.result.items) (map fault_view c.string_token.new.faults.items) c.new.result
    c.cur_pos-start.result.0 c.cur_pos.result.0 (record { value = all.value; faults = all.faults; moved = all.moved }) (ap (map fault_view) c.new-faults.ensures.items) c.new.ensures c.cur_pos-start.ensures c.cur_pos.ensures
