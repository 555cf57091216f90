use Rattle.std.proofs.Common.{map, ap, ◌∙◌}
use Rattle.ecma_grammar.specs.Found.{fault_view}
use Rattle.ecma_number.proofs.OctalFaults.{octal_said, octal_said_typed}
use Rattle.ecma_number.proofs.number.faults.push_octal_run_faults.Goals as goal
use Rattle.ecma_number.proofs.number.faults.push_octal_run_faults.Goals.{then-ts1085+in_ok-push_fault, else-ts1085}

pub returns : goal.returns
returns c =
    elim c.if-ts1085.branch [
      | then-ts1085+in_ok-push_fault w ↦
          rw w.if-ts1085.true
          (octal_said_typed c.args.start.0 c.args.run.now _ _ _ _ c.requires.run c.new-span.ensures
          (ap (λ v. map fault_view v.items) w.faults-is ∙ w.in_ok-push_fault.ensures) c.in_ok-push_fault-2.ensures)
      | else-ts1085 w ↦
          rw w.if-ts1085.false
          (octal_said c.args.start.0 c.args.run.now _ _ _ c.requires.run c.new-span.ensures
          (rw w.faults-is at c.in_ok-push_fault-2.ensures))
    ]
