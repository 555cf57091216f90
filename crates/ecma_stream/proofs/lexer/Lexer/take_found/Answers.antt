use Rattle.std.proofs.Common.{◌∙◌, ap, refl}
use Rattle.ecma_stream.proofs.LexerLemmas.{kept-lexer}
use Rattle.ecma_stream.proofs.lexer.Lexer.take_found.Goals as goal

pub invariant_of-self : goal.invariant_of-self
invariant_of-self c =
    kept-lexer c.self.inside c.self.inside _ refl c.self.invariant refl refl refl refl
    (ap (λ b. b.pending_leading) c.take_comments.ensures.left ∙ c.self.invariant.none_pending)
