use Rattle.std.proofs.Common.{◌∙◌, ap, refl}
use Rattle.ecma_stream.proofs.LexerLemmas.{kept-lexer}
use Rattle.ecma_stream.proofs.lexer.Lexer.cut.Goals as goal

pub invariant_of-self : goal.invariant_of-self
invariant_of-self c =
    kept-lexer c.self.inside _ _ c.self-inside.view_is c.self.invariant refl refl refl refl
    (ap (λ b. b.pending_leading) c.truncate-3.ensures ∙ ap (λ a. a.comments.pending_leading) c.self-inside.view_is ∙ c.self.invariant.none_pending)
