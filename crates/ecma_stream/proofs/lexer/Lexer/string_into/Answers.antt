use Rattle.std.proofs.Common.{ap, refl, ◌∙◌}
use Rattle.ecma_place.specs.Cursor.{rest}
use Rattle.ecma_token.specs.View.{spanned_view}
use Rattle.ecma_state.specs.Run.{mode_of}
use Rattle.ecma_state.specs.Session.{lexer_state}
use Rattle.ecma_state.specs.TokenAt.{lookahead}
use Rattle.ecma_stream.specs.View.{lexer_view}
use Rattle.ecma_stream.proofs.ArmLemmas.{arm-read, moved-lexer}
use Rattle.ecma_plain.proofs.PlainLemmas.{plain-of-string}
use Rattle.ecma_stream.proofs.LexerLemmas.{same-lexer}
use Rattle.ecma_stream.proofs.lexer.Lexer.string_into.Goals as goal

pub give-requires-clause-found : goal.give-requires-clause-found
give-requires-clause-found c =
    let a = c.self.inside in
    let gap = c.args.gap in
    let now = c.eaten_string.new.input in
    let t = spanned_view c.in-Some.plain.token in
    let mode = mode_of (lexer_state (lexer_view a)) in
    let opens = ap (λ k. lookahead (mode_of (lexer_state k)) gap.line_break (rest k.input)) c.self.view_is ∙ c.requires.opens in
    let is = plain-of-string mode gap.line_break a.input now t opens c.in-Some.ensures.token c.in-Some.ensures.flag c.in-Some.ensures.moved in
    arm-read c.args.before a c.args.self.now gap t now _ c.self.view_is c.requires.behind c.in-Some.ensures.flag is c.in-Some.ensures.moved

pub invariant_of-self : goal.invariant_of-self
invariant_of-self c = moved-lexer c.self.inside c.eaten_string.new.input _ c.self.invariant c.in-Some.ensures.moved

pub invariant_of-self-in-None : goal.invariant_of-self-in-None
invariant_of-self-in-None c = same-lexer c.self.inside _ c.self.invariant c.in-None.ensures.same refl refl c.self.invariant.none_pending
