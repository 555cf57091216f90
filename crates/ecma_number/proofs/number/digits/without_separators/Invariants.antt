use Rattle.std.proofs.Common.{◌≡◌, take, encode_utf8_all, string_bytes}
use Rattle.ecma_grammar.specs.Numbers as numbers
use Rattle.ecma_number.proofs.number.digits.without_separators.Given as goal

abbrev pub invariant-bytes : goal.invariant-bytes
invariant-bytes l = string_bytes l.digits ≡ encode_utf8_all (numbers.without_separators (take l.b-index l.text))
