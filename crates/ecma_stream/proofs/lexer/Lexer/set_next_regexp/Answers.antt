use Rattle.std.proofs.Common.{refl}
use Rattle.ecma_stream.proofs.LexerLemmas.{asked-lexer}
use Rattle.ecma_stream.proofs.lexer.Lexer.set_next_regexp.Goals as goal

pub invariant_of-self : goal.invariant_of-self
invariant_of-self c =
    asked-lexer c.self.inside _ c.args.self.now c.args.start c.self.view_is c.requires c.self.invariant refl refl refl c.self.invariant.none_pending
