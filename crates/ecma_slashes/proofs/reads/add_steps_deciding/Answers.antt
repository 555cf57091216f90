use Rattle.std.proofs.Common.{◌∙◌, Bool, ap, refl, subst, sym}
use Rattle.ecma_state.specs.Session.{lexer_state}
use Rattle.ecma_slashes.specs.Rereads.{StepsOn, is_in_order, rule_of}
use Rattle.ecma_slashes.proofs.DecidingLemmas.{decides-next, decides-start}
use Rattle.ecma_slashes.proofs.RunLemmas.{so-far-end}
use Rattle.ecma_slashes.proofs.reads.add_steps_deciding.Goals as goal

pub add_steps-requires-clause-no_reread : goal.add_steps-requires-clause-no_reread
add_steps-requires-clause-no_reread c = c.tokens.invariant.1.0

pub add_steps-requires-clause-in_order : goal.add_steps-requires-clause-in_order
add_steps-requires-clause-in_order c = ap (λ s. is_in_order (rule_of s)) c.tokens.invariant.1.1 ∙ c.requires.in_order

pub tokens-init : goal.tokens-init
tokens-init c = (
  λ rule s at decides. decides-start rule s c.args.steps.now.items (lexer_state c.args.lexer.now) c.args.decider.now (sym at) (ap (λ l. l.reread) at ∙ c.requires.no_reread) decides,
  (c.requires.no_reread, refl),
)

pub tokens-preserved : goal.tokens-preserved
tokens-preserved c = (
  λ rule s at decides.
      let (so, here) = c.tokens.invariant.0 rule s at decides in
      let on = c.in_ok-add_steps.ensures.steps rule so.here (sym so.shows) here in
      decides-next rule s c.args.steps.now.items c.tokens.steps.items c.add_steps.new.steps.items (lexer_state c.tokens.lexer) (lexer_state c.add_steps.new.lexer) c.add_steps.new.decider so
      (subst (λ (b : Bool). StepsOn rule so.here c.tokens.steps.items c.add_steps.new.steps.items b (lexer_state c.add_steps.new.lexer)) c.if-branch.true on)
      (c.in_ok-add_steps.ensures.decides rule so.here (sym so.shows) here),
  (c.in_ok-add_steps.ensures.no_reread, c.add_steps.ensures.slashes ∙ c.tokens.invariant.1.1),
)

pub returns-clause-steps : goal.returns-clause-steps
returns-clause-steps c = λ rule s at decides.
    let (so, here) = c.tokens.invariant.0 rule s at decides in
    let on = c.in_ok-add_steps.ensures.steps rule so.here (sym so.shows) here in
    (so-far-end rule s c.args.steps.now.items c.tokens.steps.items c.add_steps.new.steps.items (lexer_state c.tokens.lexer) (lexer_state c.add_steps.new.lexer) so
    (subst (λ (b : Bool). StepsOn rule so.here c.tokens.steps.items c.add_steps.new.steps.items b (lexer_state c.add_steps.new.lexer)) c.if-branch.false on)).0

pub returns-clause-after : goal.returns-clause-after
returns-clause-after c = λ rule s at decides.
    let (so, here) = c.tokens.invariant.0 rule s at decides in
    let on = c.in_ok-add_steps.ensures.steps rule so.here (sym so.shows) here in
    (so-far-end rule s c.args.steps.now.items c.tokens.steps.items c.add_steps.new.steps.items (lexer_state c.tokens.lexer) (lexer_state c.add_steps.new.lexer) so
    (subst (λ (b : Bool). StepsOn rule so.here c.tokens.steps.items c.add_steps.new.steps.items b (lexer_state c.add_steps.new.lexer)) c.if-branch.false on)).1
