use Rattle.std.proofs.Common.{◌∷◌, length, sym, ap, ◌∙◌}
use Rattle.ecma_place.specs.Cursor.{rest, passed}
use Rattle.ecma_punctuator.specs.PunctuatorKinds.{kind_token}
use Rattle.ecma_grammar.specs.Punctuators.{punctuators, first_of, token_in, spelling_in}
use Rattle.ecma_grammar.proofs.PunctuatorLemmas.{passed-zero, first_of-lone, first_of-none-at, rest-bumped, count_behind-found, moved-behind}
use Rattle.ecma_punctuator.proofs.punctuator.longest.Goals as goal

pub returns-in-Some-clause-token : goal.returns-in-Some-clause-token
returns-in-Some-clause-token c =
    sym (ap token_in (first_of-lone (rest c.args.input.now) c.args.first (kind_token c.in-Some.kind) c.requires c.in-Some.ensures.some))

pub returns-in-Some-clause-moved : goal.returns-in-Some-clause-moved
returns-in-Some-clause-moved c =
    let found = first_of-lone (rest c.args.input.now) c.args.first (kind_token c.in-Some.kind) c.requires c.in-Some.ensures.some in
    c.bump.ensures ∙ ap (λ p. passed (length (spelling_in p)) c.args.input.now) (sym found)

pub returns-then-begins_more-clause-token : goal.returns-then-begins_more-clause-token
returns-then-begins_more-clause-token c =
    let text = rest-bumped c.args.input.now _ c.args.first c.requires c.bump-then-begins_more.ensures in
    sym (ap (λ t. token_in (first_of punctuators t)) (sym text) ∙ c.behind_first.ensures.token)

pub returns-then-begins_more-clause-moved : goal.returns-then-begins_more-clause-moved
returns-then-begins_more-clause-moved c =
    let text = rest-bumped c.args.input.now _ c.args.first c.requires c.bump-then-begins_more.ensures in
    moved-behind _ _ _ _ _ c.bump-then-begins_more.ensures c.behind_first.ensures.moved
    (count_behind-found (c.args.first ∷ rest c.bump-then-begins_more.new.self) (kind_token c.behind_first.result) c.behind_first.ensures.token ∙ ap (λ t. length (spelling_in (first_of punctuators t))) text)

pub returns-else-begins_more-clause-token : goal.returns-else-begins_more-clause-token
returns-else-begins_more-clause-token c =
    sym (ap token_in (first_of-none-at (rest c.args.input.now) c.args.first c.requires c.in_default.ensures.none (sym c.begins_more.ensures ∙ c.if-begins_more.false)))

pub returns-else-begins_more-clause-moved : goal.returns-else-begins_more-clause-moved
returns-else-begins_more-clause-moved c =
    let none = first_of-none-at (rest c.args.input.now) c.args.first c.requires c.in_default.ensures.none (sym c.begins_more.ensures ∙ c.if-begins_more.false) in
    sym (passed-zero c.args.input.now) ∙ ap (λ p. passed (length (spelling_in p)) c.args.input.now) (sym none)
