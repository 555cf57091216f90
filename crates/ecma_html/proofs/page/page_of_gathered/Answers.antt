use Rattle.std.proofs.Common.{◌≡◌, ◌∙◌, ◌++◌, ap}
use Rattle.ecma_html.specs.Page.{front_of, page_of}
use Rattle.ecma_html.specs.Unmark.{at, unmark}
use Rattle.ecma_html.proofs.PageLemmas.{page-added, page-back}
use Rattle.ecma_html.proofs.page.page_of_gathered.Goals as goal

pub returns-clause-same : goal.returns-clause-same
returns-clause-same c order =
    let source = c.args.source.now in
    let title = c.args.title.now in
    let front = c.push_front.new.out.items in
    let marked = c.extend_from_slice.new.self.items in
    let first : front ≡ front_of title source = c.in_ok-push_front.ensures ∙ ap (λ l. l ++ front_of title c.as_bytes.result.now) c.new-out.ensures.items ∙ ap (front_of title) c.as_bytes.ensures.value in
    page-added title source c.in_ok-html.html.items front marked c.extend_from_slice-2.new.self.items first
    (c.in_ok-extend_from_slice.ensures.items ∙ ap (λ l. front ++ l) c.deref.ensures.value)
    (c.in_ok-extend_from_slice-2.ensures.items ∙ ap (λ l. marked ++ l) c.as_bytes-2.ensures.value)
    ∙ ap (page_of title source) (c.in_ok-html.ensures.same order)

pub returns-clause-back : goal.returns-clause-back
returns-clause-back c =
    let source = c.args.source.now in
    let title = c.args.title.now in
    let html = c.in_ok-html.html.items in
    let front = c.push_front.new.out.items in
    let marked = c.extend_from_slice.new.self.items in
    let first : front ≡ front_of title source = c.in_ok-push_front.ensures ∙ ap (λ l. l ++ front_of title c.as_bytes.result.now) c.new-out.ensures.items ∙ ap (front_of title) c.as_bytes.ensures.value in
    let same : c.extend_from_slice-2.new.self.items ≡ page_of title source html =
    page-added title source html front marked c.extend_from_slice-2.new.self.items first
    (c.in_ok-extend_from_slice.ensures.items ∙ ap (λ l. front ++ l) c.deref.ensures.value)
    (c.in_ok-extend_from_slice-2.ensures.items ∙ ap (λ l. marked ++ l) c.as_bytes-2.ensures.value) in
    ap unmark same ∙ page-back title source html (unmark html) (ap (λ place. at place (unmark html)) c.in_ok-html.ensures.closed) ∙ c.in_ok-html.ensures.back
