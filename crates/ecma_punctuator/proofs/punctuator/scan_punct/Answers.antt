use Rattle.std.proofs.Common.{refl, ◌∙◌}
use Rattle.ecma_place.specs.Cursor.{rest, place}
use Rattle.ecma_place.proofs.MoveLemmas.{place-passed-le, span-passed}
use Rattle.ecma_grammar.specs.Punctuators.{punctuator_in, spelling_in}
use Rattle.ecma_grammar.proofs.PunctuatorLemmas.{punctuator-front, punctuator-seen}
use Rattle.ecma_punctuator.proofs.punctuator.scan_punct.Goals as goal

pub new-requires-2 : goal.new-requires-2
new-requires-2 c = rw (c.cur_pos-start.ensures, c.cur_pos.ensures) (place-passed-le _ _ _ c.eat_punctuator-kind.ensures.moved)

pub returns-clause-moved : goal.returns-clause-moved
returns-clause-moved c = c.eat_punctuator-kind.ensures.moved

pub returns-clause-found : goal.returns-clause-found
returns-clause-found c =
    let text = rest c.args.input.now in
    let extent = c.new-2.ensures ∙ span-passed c.args.input.now _ (spelling_in (punctuator_in c.args.type_mode text)) _ _ (punctuator-front c.args.type_mode text) c.eat_punctuator-kind.ensures.moved c.cur_pos-start.ensures c.cur_pos.ensures in
    rw (c.token_of.ensures ∙ c.eat_punctuator-kind.ensures.token, c.new.ensures.items, extent, punctuator-seen (place c.args.input.now) c.args.type_mode text) refl
