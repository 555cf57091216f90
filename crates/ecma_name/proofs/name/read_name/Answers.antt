use Rattle.std.proofs.Common.{ap, arith, map}
use Rattle.ecma_place.proofs.MoveLemmas.{place-passed-le}
use Rattle.ecma_grammar.specs.Found.{fault_view, value_view}
use Rattle.ecma_name.specs.NameParts.{cow_atom}
use Rattle.ecma_name.proofs.NameReading.{name-scanned, name-found, name-free}
use Rattle.ecma_name.proofs.name.read_name.Goals as goal

pub returns-in_err-value-clause-free : goal.returns-in_err-value-clause-free
returns-in_err-value-clause-free c = λ text h b.
    let bad = c.in_err-value.ensures.free text (name-free c.args.input.now text h) b in
    cc

pub returns-clause-moved : goal.returns-clause-moved
returns-clause-moved c =
    let all = c.in_ok-value.ensures in
    (name-scanned c.args.input.now c.name_text.new.input (value_view cow_atom c.in_ok-value.value) (map fault_view c.new-faults.result.items) (map fault_view c.name_text.new.faults.items)
    (record { value = all.value; faults = all.faults; moved = all.moved })).moved

pub new-requires : goal.new-requires
new-requires c =
    let all = c.in_ok-value.ensures in
    let moved = (name-scanned c.args.input.now c.name_text.new.input (value_view cow_atom c.in_ok-value.value) (map fault_view c.new-faults.result.items) (map fault_view c.name_text.new.faults.items)
    (record { value = all.value; faults = all.faults; moved = all.moved })).moved in
    let order = place-passed-le c.args.input.now c.name_text.new.input _ moved in
    omega (arith, order, c.cur_pos-start.ensures, c.cur_pos.ensures)

pub returns-clause-found : goal.returns-clause-found
returns-clause-found c =
    let all = c.in_ok-value.ensures in
    let scanned = name-scanned c.args.input.now c.name_text.new.input (value_view cow_atom c.in_ok-value.value) (map fault_view c.new-faults.result.items) (map fault_view c.name_text.new.faults.items)
    (record { value = all.value; faults = all.faults; moved = all.moved }) in
    name-found c.args.input.now c.name_text.new.input (value_view cow_atom c.in_ok-value.value) (map fault_view c.new-faults.result.items) (map fault_view c.name_text.new.faults.items) c.new.result
    c.cur_pos-start.result.0 c.cur_pos.result.0 scanned (ap (map fault_view) c.new-faults.ensures.items) c.new.ensures c.cur_pos-start.ensures c.cur_pos.ensures
