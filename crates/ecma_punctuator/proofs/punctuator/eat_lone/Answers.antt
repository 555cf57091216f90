use Rattle.std.proofs.Common.{◌≡◌, ap, sym, ◌∙◌, length, slice_get, Some}
use Rattle.ecma_place.specs.Cursor.{rest, passed}
use Rattle.ecma_grammar.specs.Punctuators.{spelling_in, token_in}
use Rattle.ecma_place.proofs.CursorLemmas.{ascii-is}
use Rattle.ecma_grammar.proofs.PunctuatorLemmas.{first_of-lone, lone-everywhere}
use Rattle.ecma_punctuator.proofs.punctuator.eat_lone.Goals as goal

pub returns-clause-token : goal.returns-clause-token
returns-clause-token c m =
    let first : slice_get (rest c.args.input.now) 0 ≡ Some c.in_ok-first.first = ascii-is _ _ (sym c.cur_as_ascii.ensures ∙ c.in_ok-first.was) in
    let alone = lone-everywhere m (rest c.args.input.now) c.in_ok-first.first first c.in_ok-kind.ensures.lone in
    sym (ap token_in (alone ∙ first_of-lone (rest c.args.input.now) _ _ first c.in_ok-kind.ensures.some))

pub returns-clause-moved : goal.returns-clause-moved
returns-clause-moved c m =
    let first : slice_get (rest c.args.input.now) 0 ≡ Some c.in_ok-first.first = ascii-is _ _ (sym c.cur_as_ascii.ensures ∙ c.in_ok-first.was) in
    let alone = lone-everywhere m (rest c.args.input.now) c.in_ok-first.first first c.in_ok-kind.ensures.lone in
    c.bump.ensures ∙ sym (ap (λ found. passed (length (spelling_in found)) c.args.input.now) (alone ∙ first_of-lone (rest c.args.input.now) _ _ first c.in_ok-kind.ensures.some))
