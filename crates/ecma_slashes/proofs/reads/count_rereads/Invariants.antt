-- So many of the steps that were passed read a slash again.
use Rattle.std.proofs.Common.{◌≡◌, take}
use Rattle.ecma_slashes.specs.Rereads.{rereads}
use Rattle.ecma_slashes.proofs.reads.count_rereads.Given as goal

abbrev pub invariant-steps : goal.invariant-steps
invariant-steps l = l.count ≡ rereads (take l.step-index l.steps)
