-- The reads that are left lead on from where the run stands.
use Rattle.std.proofs.Common.{◌≡◌, ◌-◌}
use Rattle.ecma_state.specs.Ending.{behind_reads}
use Rattle.ecma_state.specs.Session.{Session}
use Rattle.ecma_program.specs.Rereads.{Stands}
use Rattle.ecma_program.proofs.rereads.ReadAgain.read_on.Given as goal

abbrev pub invariant-reads : goal.invariant-reads
invariant-reads l = (s : Session) → Stands s l.initial.self → (r : Session) × (behind_reads l.count s ≡ behind_reads (l.count - l.counter) r) × Stands r l.self
