use Rattle.std.proofs.Common.{◌≡◌, ◌++◌, map, take}
use Rattle.ecma_stored.specs.Stored.{byte_of}
use Rattle.ecma_stored.proofs.to_bytes.push_flags.Given as goal

abbrev pub invariant-loop-flag : goal.invariant-loop-flag
invariant-loop-flag l = l.out.items ≡ l.fn.out.items ++ map byte_of (take l.flag-index l.flags)
