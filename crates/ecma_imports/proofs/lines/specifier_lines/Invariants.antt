-- The lines so far are those of the first specifiers.
use Rattle.std.proofs.Common.{◌≡◌, take}
use Rattle.ecma_imports.specs.Lines.{lines}
use Rattle.ecma_imports.proofs.lines.specifier_lines.Given as goal

abbrev pub invariant-loop-specifier : goal.invariant-loop-specifier
invariant-loop-specifier l = l.out.items ≡ lines l.bytes (take l.specifier-index l.specifiers)
