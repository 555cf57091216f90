use Rattle.ecma_guide.proofs.strings.write_strings.Goals as goal

pub read_into-requires : goal.read_into-requires
read_into-requires c = record { ready = c.tokens.invariant }

pub tokens-preserved : goal.tokens-preserved
tokens-preserved c = c.in_ok-read_into.ensures.ready c.if-branch.true
