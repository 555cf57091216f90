use Rattle.std.proofs.Common.{◌∙◌, ap}
use Rattle.ecma_state.specs.Run.{at_place}
use Rattle.ecma_stream.proofs.CheckpointLemmas.{rewound-lexer}
use Rattle.ecma_stream.proofs.lexer.Lexer.going_on.Goals as goal

pub invariant_of-result : goal.invariant_of-result
invariant_of-result c =
    rewound-lexer c.args.input _ c.args.from.now c.requires.fits
    (c.reset_to.ensures ∙ ap (λ v. at_place v.at c.args.input) c.from.view_is) c.requires.state (ap (λ v. v.reread) c.from.view_is) (ap (λ b. b.pending_leading) c.new-2.ensures)
