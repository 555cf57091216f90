use Rattle.std.proofs.Common.{Some, subst, sym}
use Rattle.ecma_token.specs.View.{spanned_view}
use Rattle.ecma_state.specs.declared.kept.Kept.{Kept}
use Rattle.ecma_state.specs.Slashes.{IsAnswer}
use Rattle.ecma_stream.proofs.ArmLemmas.{given-answer}
use Rattle.ecma_stream.proofs.lexer.Lexer.give.Goals as goal

pub take_plain-requires : goal.take_plain-requires
take_plain-requires c =
    subst (λ (k : Kept). IsAnswer c.args.self.now (Some k)) (sym c.requires.kept)
    (given-answer c.args.before c.args.self.now (spanned_view c.args.plain.token) c.requires.none c.requires.place c.requires.opened c.requires.found)
