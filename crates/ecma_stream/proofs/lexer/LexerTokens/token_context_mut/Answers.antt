use Rattle.std.proofs.Common.{◌∙◌, ap, refl}
use Rattle.ecma_stream.proofs.LexerLemmas.{kept-lexer}
use Rattle.ecma_stream.proofs.lexer.LexerTokens.token_context_mut.Goals as goal

pub invariant_of-self-lent : goal.invariant_of-self-lent
invariant_of-self-lent c = λ w.
    kept-lexer c.self.inside _ _ c.self-inside.view_is c.self.invariant refl refl refl refl
    (ap (λ a. a.comments.pending_leading) c.self-inside.view_is ∙ c.self.invariant.none_pending)
