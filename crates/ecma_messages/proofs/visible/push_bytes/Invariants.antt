use Rattle.std.proofs.Common.{◌≡◌, ◌++◌, flat_map, take}
use Rattle.ecma_messages.specs.Visible.{byte_text}
use Rattle.ecma_messages.proofs.visible.push_bytes.Given as goal

abbrev pub invariant-loop-byte : goal.invariant-loop-byte
invariant-loop-byte l = l.out.items ≡ l.fn.out.items ++ flat_map byte_text (take l.byte-index l.bytes)
