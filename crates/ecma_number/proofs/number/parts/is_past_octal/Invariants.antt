use Rattle.std.proofs.Common.{◌≡◌, take}
use Rattle.std.specs.List.{list_any}
use Rattle.ecma_grammar.specs.Numbers.{is_past_octal}
use Rattle.ecma_number.proofs.number.parts.is_past_octal.Given as goal

abbrev pub invariant-bytes : goal.invariant-bytes
invariant-bytes l = l.past ≡ list_any is_past_octal (take l.b-index l.run)
