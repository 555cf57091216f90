use Rattle.std.proofs.Common.{ℕ, ◌<◌, ◌^◌, List, get_or, subst}
use Rattle.ecma_stored.proofs.to_bytes.encode.Goals as goal

pub returns-clause-storable : goal.returns-clause-storable
returns-clause-storable c = record {
  numbers = subst (λ (xs : List ℕ). (i : ℕ) → get_or xs i 0 < 2 ^ 32) c.numbers.ensures c.push_numbers.ensures.fits;
  counts = subst (λ (xs : List ℕ). (i : ℕ) → get_or xs i 0 < 2 ^ 64) c.counts.ensures c.push_counts.ensures.fits;
}
