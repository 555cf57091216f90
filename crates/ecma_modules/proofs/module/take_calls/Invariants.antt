-- What is left to close leaves what was to be closed at first.
use Rattle.std.proofs.Common.{◌≡◌, ◌+◌, length, ℕ}
use Rattle.ecma_modules.specs.Modules.{imports_closed}
use Rattle.ecma_modules.proofs.module.take_calls.Given as goal

abbrev pub invariant-calls : goal.invariant-calls
invariant-calls l = (n : ℕ) → n + l.left ≡ length l.fn.scan.calls → imports_closed n l.scan l.imports.items ≡ imports_closed (length l.fn.scan.calls) l.fn.scan l.fn.imports.items
