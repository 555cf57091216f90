use Rattle.ecma_template.proofs.VerbatimPieces.{passes-on, passes-run, eaten-passes}
use Rattle.ecma_template.proofs.template.verbatim.pass_verbatim.Goals as goal

pub pieces-preserved : goal.pieces-preserved
pieces-preserved c =
    let one = eaten-passes c.in-Some.is_break c.pieces.input c.eat_verbatim.new.input c.in-Some.ensures.value c.in-Some.ensures.moved in
    passes-run _ _ _ _ (passes-on _ _ _ _ _ c.pieces.invariant one) c.pass_run-in-Some.ensures.verbatim
