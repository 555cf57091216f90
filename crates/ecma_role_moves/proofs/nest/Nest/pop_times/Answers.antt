use Rattle.std.proofs.Common.{◌≡◌, ◌+◌, ◌∙◌, suc, sym, arith}
use Rattle.ecma_role_moves.proofs.NestLemmas.{popped_more, popped_none}
use Rattle.ecma_role_moves.proofs.nest.Nest.pop_times.Goals as goal

pub levels-preserved : goal.levels-preserved
levels-preserved c = (
  (λ n e. let more : suc n + c.levels.level ≡ c.args.count = omega (arith, e) in rw c.pop.ensures.nest (sym (popped_more n c.levels.self.nest) ∙ c.levels.invariant.0 (suc n) more)),
  omega (arith, c.pop.ensures.room, c.levels.invariant.1),
)

pub returns-clause-nest : goal.returns-clause-nest
returns-clause-nest c = sym (popped_none c.levels.self.nest) ∙ c.levels.invariant.0 0 (omega (arith, c.levels.auto.level-end, c.levels-test.false))
