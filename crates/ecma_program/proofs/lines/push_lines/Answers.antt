use Rattle.ecma_program.proofs.RereadLemmas.{within-item}
use Rattle.std.proofs.Common.{length}
use Rattle.ecma_program.proofs.lines.push_lines.Goals as goal

pub push_line-requires-clause-in_order : goal.push_line-requires-clause-in_order
push_line-requires-clause-in_order c =
    rw (c.of.ensures) (within-item (length c.args.bytes.now) c.args.tokens.now c.loop-token.token-index c.token-item.result c.requires c.loop-token-test.true c.token-item.is).0

pub push_line-requires-clause-within : goal.push_line-requires-clause-within
push_line-requires-clause-within c =
    rw (c.of.ensures) (within-item (length c.args.bytes.now) c.args.tokens.now c.loop-token.token-index c.token-item.result c.requires c.loop-token-test.true c.token-item.is).1
