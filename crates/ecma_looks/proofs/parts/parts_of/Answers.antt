use Rattle.std.proofs.Common.{◌≡◌, ◌∙◌, ◌++◌, [], append-nil, ap, drop, drop_of_length-le, sym}
use Rattle.ecma_styles.specs.Styles.{styled}
use Rattle.ecma_show.specs.Painted as painted
use Rattle.ecma_looks.specs.Looks as looks
use Rattle.ecma_looks.proofs.PartLemmas.{parts-bytes}
use Rattle.ecma_looks.proofs.parts.parts_of.Goals as goal

pub returns-clause-whole : goal.returns-clause-whole
returns-clause-whole c = λ text whole.
    let classes = c.args.classes.now in
    let pieces = c.args.pieces.now in
    let items = c.loop-piece.parts.items in
    let rest : drop c.loop-piece.piece-index pieces ≡ [] = drop_of_length-le pieces c.loop-piece-test.false in
    let same : items ≡ looks.parts_of (styled classes pieces) =
    sym (append-nil items) ∙ ap (λ l. items ++ looks.parts_of (styled (drop c.loop-piece.taken classes) l)) (sym rest) ∙ c.loop-piece.invariant in
    ap (painted.joined text) same ∙ parts-bytes text classes pieces ∙ whole
