use Rattle.std.proofs.Common.{◌≡◌, ◌∷◌, [], length, sym, ◌∙◌}
use Rattle.std.proofs.lemmas.List.{nil_from_length}
use Rattle.ecma_state.proofs.ErrorLemmas.{begins-further, on-ok, taking-start, taking-next, taking-end}
use Rattle.ecma_state.proofs.errors.ErrorLists.take_faults.Goals as goal

pub faults-init : goal.faults-init
faults-init c =
    let same : c.into_iter-blame-iterator.result.rest.items ≡ c.args.faults.items = search in
    taking-start c.args.context.now c.args.self.now c.args.faults.items _ same

pub returns-then-is_err-clause-kept : goal.returns-then-is_err-clause-kept
returns-then-is_err-clause-kept c =
    begins-further c.args.self.now c.faults.self c.take_fault.new.self c.faults.invariant.begins c.take_fault.ensures.begins

pub returns-then-is_err-clause-free : goal.returns-then-is_err-clause-free
returns-then-is_err-clause-free c none =
    let some : (c.in-Some.blame, c.in-Some.error) ∷ c.next.new.self.rest.items ≡ [] = sym c.in-Some.ensures.steps.0 ∙ c.faults.invariant.none none in cc

pub faults-preserved : goal.faults-preserved
faults-preserved c =
    let taken = on-ok c.take_fault.result c.is_err.result c.is_err.ensures.value c.if-is_err.false c.take_fault.ensures.ok in
    taking-next c.args.context.now c.args.self.now c.faults.self c.take_fault.new.self c.args.faults.items _ _ c.in-Some.blame c.in-Some.error c.faults.invariant c.in-Some.ensures.steps.0 taken c.take_fault.ensures.begins

pub returns-clause-ok : goal.returns-clause-ok
returns-clause-ok c =
    let none : length c.faults.blame-iterator.rest.items ≡ 0 = sym c.faults.blame-iterator.rest.ok.0 ∙ c.in-None.ensures.steps.0 in
    taking-end c.args.context.now c.args.self.now c.faults.self c.args.faults.items _ c.faults.invariant (nil_from_length c.faults.blame-iterator.rest.items none)

pub returns-clause-kept : goal.returns-clause-kept
returns-clause-kept c = c.faults.invariant.begins
