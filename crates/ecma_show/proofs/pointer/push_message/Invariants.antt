use Rattle.std.proofs.Common.{◌≡◌, ◌++◌, drop}
use Rattle.ecma_show.specs.Painted.{each_behind}
use Rattle.ecma_show.specs.Shown.{message_byte, message_text}
use Rattle.ecma_show.proofs.pointer.push_message.Given as goal

abbrev pub invariant-loop-byte : goal.invariant-loop-byte
invariant-loop-byte l = l.out.items ++ each_behind message_byte l.before (drop l.byte-index l.message) ≡ l.fn.out.items ++ message_text l.message
