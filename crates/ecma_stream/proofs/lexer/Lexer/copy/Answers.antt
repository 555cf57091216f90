use Rattle.std.proofs.Common.{◌∙◌, ap, refl}
use Rattle.ecma_stream.proofs.LexerLemmas.{same-lexer}
use Rattle.ecma_stream.proofs.lexer.Lexer.copy.Goals as goal

pub invariant_of-result : goal.invariant_of-result
invariant_of-result c =
    same-lexer c.self.inside _ c.self.invariant c.in_ok-clone.ensures.cases c.in_ok-copy.ensures.same refl
    (ap (λ b. b.pending_leading) c.in_ok-copy-3.ensures ∙ c.self.invariant.none_pending)
