use Rattle.std.proofs.Common.{◌∷◌, [], refl, ◌∙◌}
use Rattle.ecma_place.specs.Cursor.{rest, place}
use Rattle.ecma_place.proofs.MoveLemmas.{place-passed-le, span-passed}
use Rattle.ecma_reads.proofs.TokenLemmas.{stray-first, first-front, empty-span}
use Rattle.ecma_dispatch.proofs.token_at.stray_at.Goals as goal

pub new-requires-4 : goal.new-requires-4
new-requires-4 c = rw (c.cur_pos-start.ensures, c.cur_pos.ensures) (place-passed-le _ _ _ c.bump.ensures)

pub returns-clause-found : goal.returns-clause-found
returns-clause-found c =
    let text = rest c.args.input.now in
    let extent = c.new-4.ensures ∙ span-passed c.args.input.now _ (c.args.c ∷ []) _ _ (first-front text c.args.c c.requires) c.bump.ensures c.cur_pos-start.ensures c.cur_pos.ensures in
    let at = empty-span (place c.args.input.now) _ _ c.cur_pos-start.ensures (c.in_ok-error.ensures.span_is ∙ c.new.ensures) in
    rw (stray-first text c.args.c c.requires, c.new-3.ensures.items, extent, c.in_ok-error.ensures.kind_is, at) refl
