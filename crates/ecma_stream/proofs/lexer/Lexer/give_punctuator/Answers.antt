use Rattle.std.proofs.Common.{ap, subst, sym, ◌∙◌}
use Rattle.ecma_token.specs.View.{spanned_view}
use Rattle.ecma_state.specs.Run.{mode_of}
use Rattle.ecma_state.specs.Session.{lexer_state}
use Rattle.ecma_state.specs.declared.mode.Mode.{Mode}
use Rattle.ecma_plain.specs.Plain.{IsPlain}
use Rattle.ecma_stream.proofs.ArmLemmas.{arm-read, moved-lexer}
use Rattle.ecma_stream.proofs.lexer.Lexer.give_punctuator.Goals as goal

pub invariant_of-self : goal.invariant_of-self
invariant_of-self c = moved-lexer c.self.inside c.plain_punctuator.new.input c.plain_punctuator.ensures.moved.0 c.self.invariant c.plain_punctuator.ensures.moved.1

pub give-requires-clause-found : goal.give-requires-clause-found
give-requires-clause-found c =
    let a = c.self.inside in
    let now = c.plain_punctuator.new.input in
    let t = spanned_view c.in-Some.plain.token in
    let mode = c.mode-mode.ensures ∙ ap (λ k. mode_of (lexer_state k)) (sym c.self.view_is) in
    arm-read c.args.before a c.args.self.now c.args.gap t now c.plain_punctuator.ensures.moved.0 c.self.view_is c.requires.behind c.in-Some.ensures.flag
    (subst (λ (m : Mode). IsPlain m t a.input now) mode c.in-Some.ensures.token) c.plain_punctuator.ensures.moved.1

pub invariant_of-self-in-None : goal.invariant_of-self-in-None
invariant_of-self-in-None c = moved-lexer c.self.inside c.plain_punctuator.new.input c.plain_punctuator.ensures.moved.0 c.self.invariant c.plain_punctuator.ensures.moved.1
