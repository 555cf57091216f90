-- The numbers that are left lead on from where the run stands.
use Rattle.std.proofs.Common.{◌≡◌, drop}
use Rattle.ecma_state.specs.Session.{Session}
use Rattle.ecma_program.specs.Rereads.{Stands, behind_rereads}
use Rattle.ecma_program.proofs.rereads.ReadAgain.read_again.Given as goal

abbrev pub invariant-loop-number : goal.invariant-loop-number
invariant-loop-number l =
    (s : Session) → Stands s l.initial.self → (r : Session) × (behind_rereads 0 s l.numbers ≡ behind_rereads l.before r (drop l.number-index l.numbers)) × Stands r l.self
