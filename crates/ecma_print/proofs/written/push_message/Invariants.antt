use Rattle.std.proofs.Common.{◌≡◌, ◌++◌, map, take}
use Rattle.ecma_print.specs.Rows.{one_line}
use Rattle.ecma_print.proofs.written.push_message.Given as goal

abbrev pub invariant-loop-byte : goal.invariant-loop-byte
invariant-loop-byte l = l.out.items ≡ l.fn.out.items ++ map one_line (take l.byte-index l.message)
