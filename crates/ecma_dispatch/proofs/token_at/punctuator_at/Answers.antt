use Rattle.std.proofs.Common.{sym, ◌∙◌, true≢false}
use Rattle.ecma_place.specs.Cursor.{rest, place}
use Rattle.ecma_token.specs.View.{token_view}
use Rattle.ecma_reads.specs.Punctuators.{punctuator_in}
use Rattle.ecma_reads.proofs.TokenLemmas.{punctuator-some, punctuator-none, punctuator-stayed, punctuator-moved, stray-refused}
use Rattle.ecma_dispatch.proofs.token_at.punctuator_at.Goals as goal

pub stray_at-requires : goal.stray_at-requires
stray_at-requires c =
    let text = rest c.args.input.now in
    let found = rw (c.in-Ok-None.is, c.in-Ok-None.field-0-is) at c.in_ok-value.ensures.found in
    let none = punctuator-none (place c.args.input.now) (punctuator_in c.type_mode.result text) _ _ _ found in
    rw (punctuator-stayed (punctuator_in c.type_mode.result text) c.args.input.now _ none c.in_ok-value.ensures.moved) c.requires

pub returns-in-Ok-None-clause-found : goal.returns-in-Ok-None-clause-found
returns-in-Ok-None-clause-found c =
    let text = rest c.args.input.now in
    let found = rw (c.in-Ok-None.is, c.in-Ok-None.field-0-is) at c.in_ok-value.ensures.found in
    let none = punctuator-none (place c.args.input.now) (punctuator_in c.type_mode.result text) _ _ _ found in
    let stayed = punctuator-stayed (punctuator_in c.type_mode.result text) c.args.input.now _ none c.in_ok-value.ensures.moved in
    rw (← c.type_mode.ensures, none, ← stayed) c.stray_at.ensures.found

pub returns-in-Ok-None-clause-moved : goal.returns-in-Ok-None-clause-moved
returns-in-Ok-None-clause-moved c =
    let text = rest c.args.input.now in
    let found = rw (c.in-Ok-None.is, c.in-Ok-None.field-0-is) at c.in_ok-value.ensures.found in
    let none = punctuator-none (place c.args.input.now) (punctuator_in c.type_mode.result text) _ _ _ found in
    let stayed = punctuator-stayed (punctuator_in c.type_mode.result text) c.args.input.now _ none c.in_ok-value.ensures.moved in
    rw (← c.type_mode.ensures, none, ← stayed) c.stray_at.ensures.moved

pub returns-in-Ok-None-clause-free : goal.returns-in-Ok-None-clause-free
returns-in-Ok-None-clause-free c =
    let text = rest c.args.input.now in
    let found = rw (c.in-Ok-None.is, c.in-Ok-None.field-0-is) at c.in_ok-value.ensures.found in
    let none = punctuator-none (place c.args.input.now) (punctuator_in c.type_mode.result text) _ _ _ found in
    rw (← c.type_mode.ensures, none) (λ ok. absurd (true≢false (sym ok ∙ stray-refused text)))

pub returns-in-Ok-Some-clause-found : goal.returns-in-Ok-Some-clause-found
returns-in-Ok-Some-clause-found c =
    let text = rest c.args.input.now in
    let found = rw (c.in-Ok-Some.is, c.in-Ok-Some.field-0-is) at c.in_ok-value.ensures.found in
    rw (← c.type_mode.ensures) (punctuator-some (place c.args.input.now) (punctuator_in c.type_mode.result text) text (token_view c.in-Ok-Some.token) _ _ _ found)

pub returns-in-Ok-Some-clause-moved : goal.returns-in-Ok-Some-clause-moved
returns-in-Ok-Some-clause-moved c =
    let text = rest c.args.input.now in
    let found = rw (c.in-Ok-Some.is, c.in-Ok-Some.field-0-is) at c.in_ok-value.ensures.found in
    rw (← c.type_mode.ensures) (punctuator-moved (place c.args.input.now) (punctuator_in c.type_mode.result text) text (token_view c.in-Ok-Some.token) _ _ _ c.args.input.now _ found c.in_ok-value.ensures.moved)
