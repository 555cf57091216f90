use Rattle.std.proofs.Common.{◌≡◌, IfOk, length, subst}
use Rattle.ecma_classes.specs.Classes.{classes_of}
use Rattle.ecma_styles.specs.Styles.{styled}
use Rattle.ecma_styles.specs.Tokens.{token_classes}
use Rattle.ecma_html.specs.Markup.{html_of}
use Rattle.ecma_html.proofs.MarkedLemmas.{marked-none, none-in-order}
use Rattle.ecma_html.proofs.text.html_of_gathered.Goals as goal

pub returns-clause-same : goal.returns-clause-same
returns-clause-same c =
    let source = c.args.source.now in
    let kept = c.args.gathered.now.kept.items in
    let parts = styled (token_classes kept) (classes_of 0 (length source) kept c.args.gathered.now.comments.items) in
    subst (λ ps. IfOk c.html_with_errors.result (λ v. v.items ≡ html_of source ps)) (marked-none parts) (c.html_with_errors.ensures.same none-in-order)
