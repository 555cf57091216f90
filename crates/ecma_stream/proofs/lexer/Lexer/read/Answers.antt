use Rattle.std.proofs.Common.{Ok}
use Rattle.std.specs.Prelude.{⊤}
use Rattle.ecma_token.specs.View.{spanned_view}
use Rattle.ecma_state.specs.Session.{lexer_state}
use Rattle.ecma_reads.proofs.EndingLemmas.{end_again}
use Rattle.ecma_stream.proofs.lexer.Lexer.read.Goals as goal

pub returns-in-Ok-clause-again : goal.returns-in-Ok-clause-again
returns-in-Ok-clause-again c = λ plain.
    end_again {E = ⊤} spanned_view (Ok c.in-Ok.answer) (lexer_state c.args.self.now) (lexer_state c.next_answer.new.self) plain c.in-Ok.ensures.answer c.in-Ok.ensures.after
