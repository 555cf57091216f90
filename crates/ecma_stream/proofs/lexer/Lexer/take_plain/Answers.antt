use Rattle.std.proofs.Common.{Some, refl}
use Rattle.ecma_stream.proofs.LexerLemmas.{same-lexer, taken-lexer}
use Rattle.ecma_stream.proofs.lexer.Lexer.take_plain.Goals as goal

pub invariant_of-self : goal.invariant_of-self
invariant_of-self c =
    same-lexer c.self.inside _ c.self.invariant refl c.in_err-take_token.ensures.err refl c.self.invariant.none_pending

pub invariant_of-self-2 : goal.invariant_of-self-2
invariant_of-self-2 c =
    taken-lexer c.self.inside _ c.args.self.now (Some c.args.token) c.args.token.flag c.self.view_is c.requires c.self.invariant refl refl c.in_ok-take_token.ensures.ok c.self.invariant.none_pending
