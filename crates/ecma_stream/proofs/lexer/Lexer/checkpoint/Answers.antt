use Rattle.ecma_stream.proofs.CheckpointLemmas.{goes-back}
use Rattle.ecma_stream.proofs.lexer.Lexer.checkpoint.Goals as goal

pub returns-clause-goes : goal.returns-clause-goes
returns-clause-goes c = goes-back c.self.inside c.args.self.now c.self.view_is c.self.invariant

pub returns-in_err-copy-clause-goes : goal.returns-in_err-copy-clause-goes
returns-in_err-copy-clause-goes c = goes-back c.self.inside c.args.self.now c.self.view_is c.self.invariant
