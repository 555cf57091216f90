use Rattle.std.proofs.Common.{◌∙◌}
use Rattle.ecma_place.specs.Cursor.{rest, place}
use Rattle.ecma_place.proofs.MoveLemmas.{place-passed-le, span-passed}
use Rattle.ecma_grammar.specs.Shebangs.{shebang}
use Rattle.ecma_punctuator.proofs.ShebangLemmas.{shebang-front, shebang-seen}
use Rattle.ecma_punctuator.proofs.shebang.scan_shebang.Goals as goal

pub new-requires-2 : goal.new-requires-2
new-requires-2 c = rw (c.cur_pos-start.ensures, c.cur_pos.ensures) (place-passed-le _ _ _ c.shebang-token.ensures.moved)

pub returns-clause-moved : goal.returns-clause-moved
returns-clause-moved c = c.shebang-token.ensures.moved

pub returns-clause-found : goal.returns-clause-found
returns-clause-found c =
    let text = rest c.args.input.now in
    let extent = c.new-2.ensures ∙ span-passed c.args.input.now _ (shebang text).spelling _ _ (shebang-front text) c.shebang-token.ensures.moved c.cur_pos-start.ensures c.cur_pos.ensures in
    rw (c.shebang-token.ensures.token, c.new.ensures.items, extent) (shebang-seen (place c.args.input.now) text)
