use Rattle.std.proofs.Common.{◌∙◌, ◌++◌, ap}
use Rattle.ecma_html.specs.Markup.{escaped}
use Rattle.ecma_html.specs.Page.{line_marks}
use Rattle.ecma_html.specs.declared.page.TheConstants.{HEAD, MIDDLE, STYLE}
use Rattle.ecma_html.proofs.PageLemmas.{behind}
use Rattle.ecma_html.proofs.page.push_front.Goals as goal

pub returns : goal.returns
returns c =
    let before = c.args.out.now.items in
    let head = c.extend_from_slice.new.self.items in
    let titled = c.push_escaped.new.out.items in
    let styled = c.extend_from_slice-2.new.self.items in
    let marked = c.push_marks.new.out.items in
    let after = c.extend_from_slice-3.new.self.items in
    let title = escaped c.args.title.now in
    let marks = line_marks c.args.bytes.now in
    behind before head after HEAD.now (title ++ (STYLE.now ++ (marks ++ MIDDLE.now)))
    (c.in_ok-extend_from_slice.ensures.items ∙ ap (λ l. before ++ l) c.as_bytes.ensures.value)
    (behind head titled after title (STYLE.now ++ (marks ++ MIDDLE.now))
    (c.in_ok-push_escaped.ensures ∙ ap (λ l. head ++ escaped l) c.as_bytes-2.ensures.value)
    (behind titled styled after STYLE.now (marks ++ MIDDLE.now)
    (c.in_ok-extend_from_slice-2.ensures.items ∙ ap (λ l. titled ++ l) c.as_bytes-3.ensures.value)
    (behind styled marked after marks MIDDLE.now c.in_ok-push_marks.ensures
    (c.in_ok-extend_from_slice-3.ensures.items ∙ ap (λ l. marked ++ l) c.as_bytes-4.ensures.value))))
