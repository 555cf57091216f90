use Rattle.std.proofs.Common.{◌≡◌, IfOk, subst}
use Rattle.ecma_styles.specs.Styles.{styled}
use Rattle.ecma_html.specs.Markup.{html_of}
use Rattle.ecma_html.proofs.MarkedLemmas.{marked-none, none-in-order}
use Rattle.ecma_html.proofs.markup.html.Goals as goal

pub returns-clause-same : goal.returns-clause-same
returns-clause-same c =
    subst (λ parts. IfOk c.html_marked.result (λ v. v.items ≡ html_of c.args.source.now parts)) (marked-none (styled c.args.classes.now c.args.pieces.now)) (c.html_marked.ensures.same none-in-order)
