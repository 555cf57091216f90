use Rattle.std.proofs.Common.{◌∙◌, ap}
use Rattle.ecma_stream.proofs.CheckpointLemmas.{cut-more, map-err, no-err}
use Rattle.ecma_stream.specs.View.{cut_to}
use Rattle.ecma_stream.proofs.lexer.Lexer.take_in.Goals as goal

pub returns-then-is_err-clause-err : goal.returns-then-is_err-clause-err
returns-then-is_err-clause-err c =
    map-err c.take_besides-taken.result c.take_besides-taken.ensures.more
    (λ more. c.cut.ensures ∙ ap (λ n. cut_to n c.take_besides-taken.new.self) c.counts-counts.ensures ∙ cut-more c.args.self.now c.take_besides-taken.new.self more)

pub returns-else-is_err-clause-err : goal.returns-else-is_err-clause-err
returns-else-is_err-clause-err c = no-err _ c.take_besides-taken.result c.is_err.result c.is_err.ensures.value c.if-is_err.false
