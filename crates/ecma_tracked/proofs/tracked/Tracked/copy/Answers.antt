use Rattle.std.proofs.Common.{◌∙◌, ap}
use Rattle.ecma_slashes.specs.Rereads.{rule_of}
use Rattle.ecma_tracked.proofs.tracked.Tracked.copy.Goals as goal

pub invariant_of-result : goal.invariant_of-result
invariant_of-result c =
    record {
      by_roles = ap (λ d. rule_of d.slashes) c.in_ok-copy-2.ensures.copy ∙ c.self.invariant.by_roles;
      no_reread = λ going. ap (λ l. l.reread) c.in_ok-copy.ensures.same ∙ c.self.invariant.no_reread going;
    }
