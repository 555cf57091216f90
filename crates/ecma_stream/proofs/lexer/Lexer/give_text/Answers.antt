use Rattle.std.proofs.Common.{Some, refl, subst, sym}
use Rattle.ecma_token.specs.View.{spanned_view}
use Rattle.ecma_state.specs.declared.kept.Kept.{Kept}
use Rattle.ecma_state.specs.Slashes.{IsAnswer}
use Rattle.ecma_stream.proofs.ArmLemmas.{answer-found}
use Rattle.ecma_stream.proofs.lexer.Lexer.give_text.Goals as goal

pub take_plain-requires : goal.take_plain-requires
take_plain-requires c =
    subst (λ (k : Kept). IsAnswer c.args.self.now (Some k)) (sym c.requires.kept)
    (answer-found c.args.before c.args.self.now (spanned_view c.args.plain.token) _ refl refl c.requires.none c.requires.place c.requires.opened c.requires.found)
