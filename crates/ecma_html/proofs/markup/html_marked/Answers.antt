use Rattle.std.proofs.Common.{◌≡◌, append_assoc, ap, subst}
use Rattle.ecma_html.specs.Markup.{open_tag}
use Rattle.ecma_html.specs.Marked.{WereAdded}
use Rattle.ecma_html.specs.Unmark.{Outside, at, read, shown}
use Rattle.ecma_html.proofs.MarkedLemmas.{text-read}
use Rattle.ecma_html.proofs.markup.html_marked.Goals as goal

was-read : (c : goal.In_ok-push_close_tag) → read c.push_close_tag.new.out.items ≡ at Outside (shown c.args.source.now)
was-read c =
    let source = c.args.source.now in
    let before = c.push_open_tag.new.out.items in
    let after = c.push_pieces.new.out.items in
    let first : before ≡ open_tag = simp (c.in_ok-push_open_tag.ensures, c.new-out.ensures.items) in
    text-read source c.args.pieces.now before after c.push_close_tag.new.out.items c.requires.whole first
    (subst (λ text. WereAdded text c.args.pieces.now before after) c.as_bytes.ensures.value c.in_ok-push_pieces.ensures.added) c.in_ok-push_close_tag.ensures

pub returns-clause-same : goal.returns-clause-same
returns-clause-same c order = simp (c.in_ok-push_close_tag.ensures, c.in_ok-push_pieces.ensures.same order, c.in_ok-push_open_tag.ensures, c.new-out.ensures.items, c.as_bytes.ensures.value, append_assoc)

pub returns-clause-back : goal.returns-clause-back
returns-clause-back c = ap (λ u. u.text) (was-read c)

pub returns-clause-closed : goal.returns-clause-closed
returns-clause-closed c = ap (λ u. u.place) (was-read c)
