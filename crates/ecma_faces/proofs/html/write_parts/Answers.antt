use Rattle.std.proofs.Common.{◌∙◌, ◌++◌, ap, length, subst, sym}
use Rattle.ecma_classes.specs.Classes.{classes_of}
use Rattle.ecma_styles.specs.Styles.{styled}
use Rattle.ecma_styles.specs.Tokens.{token_classes}
use Rattle.ecma_html.specs.Marked.{AreInOrder, marked}
use Rattle.ecma_html.specs.Markup.{pieces_html}
use Rattle.ecma_html.specs.Parts.{begin_of, end_of}
use Rattle.ecma_report.specs.Reports.{Adds, look_of}
use Rattle.ecma_report.specs.Rows.{whole_begin, whole_end, whole_part}
use Rattle.ecma_report.proofs.PartLemmas.{whole-in-parts}
use Rattle.ecma_report.proofs.ReportLemmas.{adds-held, adds-on, said-of, stays-of}
use Rattle.ecma_faces.specs.Whole.{html_by}
use Rattle.ecma_faces.proofs.HtmlLemmas.{in-parts, left-is, part-three}
use Rattle.ecma_faces.proofs.html.write_parts.Goals as goal

pub returns-clause-adds : goal.returns-clause-adds
returns-clause-adds g c = λ ask file bytes of order.
    let first = c.args.report.now in
    let opened = c.begin_whole.new.self in
    let begun = c.push_front.new.report in
    let written = c.write_markup.new.report in
    let ended = c.push_back.new.report in
    let last = c.end_whole.new.self in
    let kept = c.args.gathered.now.kept.items in
    let comments = c.args.gathered.now.comments.items in
    let places = c.args.places.now in
    let page = ask.asked.page in
    let before = g.W.Write.contents c.args.out.now in
    let after = g.W.Write.contents c.write_markup.new.out in
    let made = c.in_ok-markup.ensures in
    let body = pieces_html bytes (marked places (styled (token_classes kept) (classes_of 0 (length bytes) kept comments))) in
    let is =
    left-is c.in_ok-markup.markup bytes (token_classes kept) (classes_of 0 (length bytes) kept comments) places (made.text ∙ of.text)
    (made.styles ∙ ap token_classes c.as_slice-kept.ensures.value)
    (made.pieces
    ∙ ap (λ k. classes_of 0 (length first.text.now) k c.as_slice-comments.result.now) c.as_slice-kept.ensures.value
    ∙ ap (classes_of 0 (length first.text.now) kept) c.as_slice-comments.ensures.value
    ∙ ap (λ t. classes_of 0 (length t) kept comments) of.text)
    made.places in
    let in_opened = stays-of ask file bytes first opened c.in_ok-begin_whole.ensures.stays of in
    let in_begun = stays-of ask file bytes opened begun c.in_ok-push_front.ensures.stays in_opened in
    let in_written = stays-of ask file bytes begun written c.in_ok-write_markup.ensures.stays in_begun in
    let in_ended = stays-of ask file bytes written ended c.in_ok-push_back.ensures.stays in_written in
    let opens = said-of ask file bytes first (λ a n t. Adds before before first.out.items opened.out.items (whole_begin a n)) of (adds-held before first.out.items opened.out.items _ c.in_ok-begin_whole.ensures.added) in
    let begins = said-of ask file bytes opened (λ a n t. Adds before before opened.out.items begun.out.items (whole_part a (begin_of a.asked.page n t))) in_opened
    (adds-held before opened.out.items begun.out.items _ c.in_ok-push_front.ensures.added) in
    let pieces = said-of ask file bytes begun (λ a n t. Adds before after begun.out.items written.out.items (whole_part a body)) in_begun
    (subst (λ html. Adds before after begun.out.items written.out.items (whole_part (look_of begun) html)) is (c.in_ok-write_markup.ensures.adds (subst AreInOrder (sym made.places) order))) in
    let ends = said-of ask file bytes written (λ a n t. Adds after after written.out.items ended.out.items (whole_part a (end_of a.asked.page))) in_written
    (adds-held after written.out.items ended.out.items _ c.in_ok-push_back.ensures.added) in
    let closes = said-of ask file bytes ended (λ a n t. Adds after after ended.out.items last.out.items (whole_end a)) in_ended (adds-held after ended.out.items last.out.items _ c.in_ok-end_whole.ensures.added) in
    let three = adds-on before after after begun.out.items written.out.items ended.out.items (whole_part ask body) (whole_part ask (end_of page)) pieces ends in
    let four = adds-on before before after opened.out.items begun.out.items ended.out.items (whole_part ask (begin_of page file bytes)) (whole_part ask body ++ whole_part ask (end_of page)) begins three in
    let html = part-three ask (begin_of page file bytes) body (end_of page) ∙ ap (whole_part ask) (in-parts page file bytes kept comments places) in
    let five = adds-on before after after opened.out.items ended.out.items last.out.items (whole_part ask (html_by page file bytes kept comments places)) (whole_end ask) (subst (Adds before after opened.out.items ended.out.items) html four) closes in
    subst (Adds before after first.out.items last.out.items) (whole-in-parts ask file (html_by page file bytes kept comments places))
    (adds-on before before after first.out.items opened.out.items last.out.items (whole_begin ask file) (whole_part ask (html_by page file bytes kept comments places) ++ whole_end ask) opens five)
