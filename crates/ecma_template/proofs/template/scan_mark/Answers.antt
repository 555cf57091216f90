use Rattle.std.proofs.Common.{◌∙◌}
use Rattle.ecma_place.specs.Cursor.{rest, place}
use Rattle.ecma_place.proofs.MoveLemmas.{place-passed-le, span-passed}
use Rattle.ecma_grammar.specs.Templates.{mark_of, template_end}
use Rattle.ecma_grammar.proofs.NumberFound.{front-taken}
use Rattle.ecma_template.proofs.TemplateFound.{mark_stops, mark_on, mark-found}
use Rattle.ecma_template.proofs.TemplateLaws.{mark_front}
use Rattle.ecma_template.proofs.template.scan_mark.Goals as goal

pub new-requires-2 : goal.new-requires-2
new-requires-2 c = rw (c.cur_pos-start.ensures, c.cur_pos.ensures) (place-passed-le _ _ _ c.read_mark-token.ensures.moved)

pub returns-clause-found : goal.returns-clause-found
returns-clause-found c =
    let text = rest c.args.input.now in
    let spelling = (mark_of (template_end text)).spelling in
    let front = mark_front text (mark_stops text c.requires) in
    let cut = front-taken spelling front.0 text front.1 in
    let extent = c.new-2.ensures ∙ span-passed c.args.input.now _ spelling _ _ cut c.read_mark-token.ensures.moved c.cur_pos-start.ensures c.cur_pos.ensures in
    rw c.new.ensures.items (mark-found (place c.args.input.now) (template_end text) _ _ (mark_on text c.requires) c.read_mark-token.ensures.value extent)
