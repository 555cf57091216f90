use Rattle.std.proofs.Common.{◌≡◌, ◌++◌, take}
use Rattle.ecma_show.specs.Shown.{pad}
use Rattle.ecma_show.proofs.pointer.push_pad.Given as goal

abbrev pub invariant-loop-byte : goal.invariant-loop-byte
invariant-loop-byte l = l.out.items ≡ l.fn.out.items ++ pad (take l.byte-index l.bytes)
