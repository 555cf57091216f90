use Rattle.std.proofs.Common.{◌≡◌, ◌∷◌, ◌++◌, take}
use Rattle.std.specs.Prelude.{flat_map}
use Rattle.ecma_show.specs.Shown.{caret_byte}
use Rattle.ecma_show.proofs.pointer.push_carets.Given as goal

abbrev pub invariant-loop-byte : goal.invariant-loop-byte
invariant-loop-byte l = l.out.items ≡ l.fn.out.items ++ 94 ∷ flat_map caret_byte (take l.byte-index l.byte-items)
