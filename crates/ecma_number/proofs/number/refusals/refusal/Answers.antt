use Rattle.std.proofs.Common.{◌≡◌, None}
use Rattle.ecma_place.specs.Cursor.{rest}
use Rattle.ecma_grammar.specs.Found.{error_behind}
use Rattle.ecma_grammar.specs.Numbers.{part_refusal}
use Rattle.ecma_number.specs.WrittenNumbers.{number_of}
use Rattle.ecma_grammar.proofs.NumberRefusals.{none-behind}
use Rattle.ecma_number.proofs.Refusals.{first_some}
use Rattle.ecma_number.proofs.number.refusals.refusal.Goals as goal

pub returns-in-None-clause-value : goal.returns-in-None-clause-value
returns-in-None-clause-value c =
    let parts = rw c.in-None.is at c.in_ok-error.ensures.value in
    let none : part_refusal (number_of c.args.number) (rest c.args.input.now) ≡ None = none-behind c.args.start.0 _ parts in
    rw none (c.next_refusal.ensures.value c.args.start.0 c.requires.behind)

pub returns-in-None-clause-free : goal.returns-in-None-clause-free
returns-in-None-clause-free c =
    let parts = rw c.in-None.is at c.in_ok-error.ensures.value in
    let none : part_refusal (number_of c.args.number) (rest c.args.input.now) ≡ None = none-behind c.args.start.0 _ parts in
    λ unrefused. c.next_refusal.ensures.free (rw none at unrefused)

pub returns-in-Some-clause-value : goal.returns-in-Some-clause-value
returns-in-Some-clause-value c = first_some (error_behind c.args.start.0) _ _ _ (rw c.in-Some.is at c.in_ok-error.ensures.value)
