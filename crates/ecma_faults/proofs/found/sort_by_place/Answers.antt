use Rattle.std.proofs.Common.{rules}
use Rattle.std.proofs.lemmas.List.Sorted.{IsNonDecreasingBy-from_sort_by_key, answers_always}
use Rattle.ecma_faults.specs.declared.found.Found.{Found}
use Rattle.ecma_faults.specs.Faults.{place_of, view}
use Rattle.ecma_faults.proofs.FaultLemmas.{rising-seen, same-seen}
use Rattle.ecma_faults.proofs.found.sort_by_place.Goals as goal

pub returns-clause-ok : goal.returns-clause-ok
returns-clause-ok c =
    record {
      order = rising-seen view place_of c.sort_by_key.new.self.items (IsNonDecreasingBy-from_sort_by_key (λ (f : Found). f.error.span.lo.0) _ c.in_ok-sort_by_key.ensures.sorted (λ a r q k. search rules));
      same = same-seen view place_of c.args.found.now.items c.sort_by_key.new.self.items (c.sort_by_key.ensures.stable (λ (f : Found). f.error.span.lo.0) (answers_always _ _ _ (λ f a r g h. search rules)));
    }
