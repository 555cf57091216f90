use Rattle.std.proofs.Common.{length, ◌-◌, ◌≡◌, true, take, get_or, ℕ, ◌<◌, ◌≤◌}
use Rattle.std.specs.Str.Parse.{digits_value}
use Rattle.ecma_token.specs.declared.token.Radix.TheVariants.{Decimal}
use Rattle.ecma_grammar.specs.Numbers.{digit}
use Rattle.ecma_number.proofs.number.plain.leading_value.Given as goal

abbrev pub invariant-digits : goal.invariant-digits
invariant-digits l =
    (l.count ≤ length l.bytes) × (l.value ≡ digits_value 10 (take l.count l.bytes)) × ((k : ℕ) → k < l.count → digit Decimal (get_or l.bytes k 0) ≡ true)

abbrev pub decreases-digits : goal.decreases-digits
decreases-digits l = length l.bytes - l.count
