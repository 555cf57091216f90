use Rattle.std.proofs.Common.{◌≡◌, ◌∙◌, ◌++◌, ap, subst, sym}
use Rattle.ecma_html.specs.Markup.{open_tag}
use Rattle.ecma_html.specs.Page.{front_of}
use Rattle.ecma_html.specs.Parts.{begin_of}
use Rattle.ecma_html.proofs.PageLemmas.{behind}
use Rattle.ecma_html.proofs.parts.push_begin.Goals as goal

pub returns-then-page : goal.returns-then-page
returns-then-page c =
    let before = c.args.out.now.items in
    let after = c.push_open_tag.new.out.items in
    let title = c.args.title.now in
    let source = c.args.source.now in
    subst (λ page. after ≡ before ++ begin_of page title source) (sym c.if-page.true)
    (behind before c.push_front.new.out.items after (front_of title source) open_tag (c.in_ok-push_front.ensures ∙ ap (λ bytes. before ++ front_of title bytes) c.as_bytes.ensures.value) c.in_ok-push_open_tag.ensures)
