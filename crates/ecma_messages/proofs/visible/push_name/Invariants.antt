use Rattle.std.proofs.Common.{◌≡◌, ◌++◌, flat_map}
use Rattle.ecma_messages.specs.Visible.{name_char}
use Rattle.ecma_messages.proofs.visible.push_name.Given as goal

abbrev pub invariant-loop-c : goal.invariant-loop-c
invariant-loop-c l = l.out.items ≡ l.fn.out.items ++ flat_map name_char l.yielded
