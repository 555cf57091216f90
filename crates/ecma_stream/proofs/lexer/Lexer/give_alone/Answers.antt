use Rattle.ecma_token.specs.View.{spanned_view}
use Rattle.ecma_state.specs.Run.{mode_of}
use Rattle.ecma_state.specs.Session.{lexer_state}
use Rattle.ecma_stream.specs.View.{lexer_view}
use Rattle.ecma_stream.proofs.ArmLemmas.{arm-code, arm-read, moved-lexer}
use Rattle.ecma_stream.proofs.lexer.Lexer.give_alone.Goals as goal

pub invariant_of-self : goal.invariant_of-self
invariant_of-self c = moved-lexer c.self.inside c.plain_alone-plain.new.input 1 c.self.invariant c.plain_alone-plain.ensures.moved

pub give-requires-clause-found : goal.give-requires-clause-found
give-requires-clause-found c =
    let a = c.self.inside in
    let behind = c.requires.behind in
    let code = arm-code c.args.before a c.args.self.now c.args.gap c.self.view_is behind in
    arm-read c.args.before a c.args.self.now c.args.gap (spanned_view c.plain_alone-plain.result.token) c.plain_alone-plain.new.input 1 c.self.view_is behind c.plain_alone-plain.ensures.flag
    (c.plain_alone-plain.ensures.token (mode_of (lexer_state (lexer_view a))) code) c.plain_alone-plain.ensures.moved
