use Rattle.std.proofs.Common.{◌≡◌, ◌≤◌, drop, length, map}
use Rattle.ecma_contexts.specs.ContextPairs.{context_at}
use Rattle.ecma_stored.proofs.from_bytes.contexts_in.Given as goal

abbrev pub invariant-contexts : goal.invariant-contexts
invariant-contexts l = (l.left ≤ length l.inner) × (l.contexts ≡ map context_at (drop l.left l.inner))

abbrev pub decreases-contexts : goal.decreases-contexts
decreases-contexts l = l.left
