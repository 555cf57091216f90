use Rattle.std.proofs.Common.{◌≡◌, ◌++◌, length, map}
use Rattle.ecma_contexts.specs.ContextPairs.{number_of}
use Rattle.ecma_stored.proofs.to_bytes.push_contexts.Given as goal

abbrev pub invariant-contexts : goal.invariant-contexts
invariant-contexts l = l.out.items ++ map number_of l.left ≡ l.fn.out.items ++ map number_of l.contexts

abbrev pub decreases-contexts : goal.decreases-contexts
decreases-contexts l = length l.left
