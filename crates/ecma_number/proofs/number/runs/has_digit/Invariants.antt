use Rattle.std.proofs.Common.{◌≡◌, take}
use Rattle.std.specs.List.{list_any}
use Rattle.ecma_grammar.specs.Numbers.{digit}
use Rattle.ecma_number.proofs.number.runs.has_digit.Given as goal

abbrev pub invariant-bytes : goal.invariant-bytes
invariant-bytes l = l.has ≡ list_any (digit l.radix) (take l.b-index l.run)
