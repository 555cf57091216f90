use Rattle.std.proofs.Common.{◌∙◌, sym}
use Rattle.ecma_name.proofs.NameRuns.{bytes-passed, none-passed}
use Rattle.ecma_name.proofs.name.run_onward.Goals as goal

pub returns-then-is_some : goal.returns-then-is_some
returns-then-is_some c = bytes-passed c.args.input.now _ _ c.run_bytes-run.ensures.run c.bump_bytes.ensures

pub returns-else-is_some : goal.returns-else-is_some
returns-else-is_some c = none-passed c.args.input.now (sym (rw c.cur_as_ascii.ensures at c.is_some.ensures) ∙ c.if-is_some.false)
