use Rattle.std.proofs.Common.{◌∙◌, ap, subst, sym}
use Rattle.ecma_checkpoint.specs.Checkpoints.{Fits}
use Rattle.ecma_state.specs.Run.{at_place}
use Rattle.ecma_stream.proofs.CheckpointLemmas.{rewound-lexer}
use Rattle.ecma_stream.proofs.lexer.Lexer.put_back.Goals as goal

pub invariant_of-self : goal.invariant_of-self
invariant_of-self c =
    let there = ap (λ l. l.input) c.self.view_is ∙ ap (λ l. l.input) c.cut.ensures in
    rewound-lexer c.self.inside.input _ c.args.to.now (subst (Fits c.args.to.now) (sym there) c.requires.goes.fits)
    (c.reset_to.ensures ∙ ap (λ v. at_place v.at c.self.inside.input) c.to.view_is) c.requires.state (ap (λ v. v.reread) c.to.view_is) c.self.invariant.none_pending
