use Rattle.std.proofs.Common.{subst, sym}
use Rattle.ecma_state.specs.Session.{LexerValue}
use Rattle.ecma_state.specs.Slashes.{IsAnswer}
use Rattle.ecma_stream.specs.View.{lexer_view}
use Rattle.ecma_stream.proofs.LexerLemmas.{still-answers}
use Rattle.ecma_stream.proofs.lexer.Lexer.besides_into.Goals as goal

pub take_in-requires-clause-answer : goal.take_in-requires-clause-answer
take_in-requires-clause-answer c =
    let found = still-answers c.self.inside c.args.self.now c.read_on.new.input _ c.self.view_is c.self.invariant c.in_ok-found.ensures.found c.in_ok-found.ensures.moved in
    subst (λ (k : LexerValue). IsAnswer (record k { input = c.read_on.new.input }) c.of_answer.result) c.self.view_is
    (subst (IsAnswer (record (lexer_view c.self.inside) { input = c.read_on.new.input })) (sym c.of_answer.ensures) found)
