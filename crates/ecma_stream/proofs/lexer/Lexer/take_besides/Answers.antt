use Rattle.std.proofs.Common.{[], ap, append-nil, refl, subst, sym, ◌∙◌}
use Rattle.ecma_state.proofs.ErrorLemmas.{begins-same}
use Rattle.ecma_state.specs.Errors.{Begins}
use Rattle.ecma_state.specs.Session.{LexerValue}
use Rattle.ecma_stream.proofs.CheckpointLemmas.{has-more, on-err}
use Rattle.ecma_stream.proofs.LexerLemmas.{same-lexer, still-lexer, taken-lexer}
use Rattle.ecma_stream.proofs.lexer.Lexer.take_besides.Goals as goal

pub returns-in_err-attach-clause-more : goal.returns-in_err-attach-clause-more
returns-in_err-attach-clause-more c =
    on-err c.from_residual.result
    (has-more c.self.inside c.args.self.now c.self.inside.state c.self.inside.errors c.attach.new.self [] c.self.view_is refl (begins-same c.self.inside.errors)
    (c.in_err-attach.ensures.err ∙ sym (append-nil c.self.inside.comments.comments)))

pub returns-in_err-take_read-clause-more : goal.returns-in_err-take_read-clause-more
returns-in_err-take_read-clause-more c =
    on-err c.from_residual-in_err-take_read.result
    (has-more c.self.inside c.args.self.now c.self.inside.state c.take_read.new.self c.attach.new.self _ c.self.view_is refl
    (subst (Begins c.self.inside.errors) (sym c.in_err-take_read.ensures.err) (begins-same c.self.inside.errors)) c.in_ok-attach.ensures.ok)

pub returns-in_err-take-clause-more : goal.returns-in_err-take-clause-more
returns-in_err-take-clause-more c =
    on-err c.from_residual-in_err-take.result
    (has-more c.self.inside c.args.self.now c.take.new.self c.take_read.new.self c.attach.new.self _ c.self.view_is c.in_err-take.ensures.err c.in_ok-take_read.ensures.begins
    c.in_ok-attach.ensures.ok)

pub invariant_of-self-in_err-take : goal.invariant_of-self-in_err-take
invariant_of-self-in_err-take c =
    same-lexer c.self.inside _ c.self.invariant refl c.in_err-take.ensures.err refl c.attach.ensures.none

pub invariant_of-self-2 : goal.invariant_of-self-2
invariant_of-self-2 c =
    let moved = still-lexer c.self.inside c.args.self.now c.args.behind c.self.view_is c.self.invariant c.requires.moved in
    taken-lexer (record c.self.inside { input = c.args.behind }) _ (record c.args.self.now { input = c.args.behind }) c.args.answer c.args.besides.end_flag
    (ap (λ (k : LexerValue). record k { input = c.args.behind }) c.self.view_is) c.requires.answer moved refl refl c.in_ok-take.ensures.ok c.attach.ensures.none
