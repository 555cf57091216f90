use Rattle.std.proofs.Common.{refl, sym, ap, ◌∙◌, arith}
use Rattle.std.proofs.lemmas.Bool.{false≢true}
use Rattle.ecma_place.specs.declared.place.Span.{Span}
use Rattle.ecma_grammar.specs.Numbers.{part_faults, octal_faults}
use Rattle.ecma_number.specs.WrittenNumbers.{number_of}
use Rattle.ecma_number.proofs.NumberForms.{number-length}
use Rattle.ecma_grammar.proofs.NumberFound.{refused-found, accepted-found}
use Rattle.ecma_grammar.proofs.NumberRefusals.{none-behind}
use Rattle.ecma_number.proofs.NumberLocal.{first_none}
use Rattle.ecma_grammar.proofs.EmptyLists.{append-none}
use Rattle.ecma_number.proofs.number.found_number.Goals.{in-Some, in-None+in_ok-push_octal_faults-in-None+in_ok-number_token-in-None}
use Rattle.ecma_number.proofs.number.found_number.Goals as goal

pub push_part_faults-requires-clause-fits : goal.push_part_faults-requires-clause-fits
push_part_faults-requires-clause-fits c =
    omega (arith, ap (λ (s : Span). s.hi.0) c.requires.extent, number-length (number_of c.args.number) c.requires.form)

pub refusal-requires-clause-fits : goal.refusal-requires-clause-fits
refusal-requires-clause-fits c = omega (arith, ap (λ (s : Span). s.hi.0) c.requires.extent, number-length (number_of c.args.number) c.requires.form)

pub refusal-requires-clause-behind : goal.refusal-requires-clause-behind
refusal-requires-clause-behind c = sym (ap (λ (s : Span). s.hi.0) c.requires.extent) ∙ c.requires.behind

pub push_octal_faults-requires-clause-fits : goal.push_octal_faults-requires-clause-fits
push_octal_faults-requires-clause-fits c =
    omega (arith, ap (λ (s : Span). s.hi.0) c.requires.extent, number-length (number_of c.args.number) c.requires.form)

pub number_token-requires-clause-some : goal.number_token-requires-clause-some
number_token-requires-clause-some c =
    c.requires.some (first_none _ _ (none-behind c.args.extent.lo.0 _ (rw c.in-None.is at c.in_ok-error.ensures.value)))

pub returns-in_err-push_part_faults-clause-free : goal.returns-in_err-push_part_faults-clause-free
returns-in_err-push_part_faults-clause-free c =
    λ plain unrefused clean.
    let none = append-none (part_faults c.args.rule (number_of c.args.number)) (octal_faults c.args.ts1085 (number_of c.args.number)) clean in
    absurd (false≢true (c.in_err-push_part_faults.ensures.free plain none.0))

pub returns-in_err-push_octal_faults-in-None-clause-free : goal.returns-in_err-push_octal_faults-in-None-clause-free
returns-in_err-push_octal_faults-in-None-clause-free c =
    λ plain unrefused clean.
    let none = append-none (part_faults c.args.rule (number_of c.args.number)) (octal_faults c.args.ts1085 (number_of c.args.number)) clean in
    absurd (false≢true (c.in_err-push_octal_faults-in-None.ensures.free none.1))

pub returns-in_err-error-clause-free : goal.returns-in_err-error-clause-free
returns-in_err-error-clause-free c =
    λ plain unrefused clean.
    absurd (false≢true (c.in_err-error.ensures.free unrefused))

pub returns-in_err-number_token-in-None-clause-free : goal.returns-in_err-number_token-in-None-clause-free
returns-in_err-number_token-in-None-clause-free c =
    λ plain unrefused clean.
    absurd (false≢true (c.in_err-number_token-in-None.ensures.free plain))

pub returns-clause-found : goal.returns-clause-found
returns-clause-found c =
    let number = number_of c.args.number in
    let said = rw c.new-faults.ensures.items at c.in_ok-push_part_faults.ensures.faults in
    elim c.match-branch-3.branch [
      | in-Some w ↦
          let why = rw w.in-Some.is at c.in_ok-error.ensures.value in
          rw (w.value-is, w.faults-is) (refused-found c.args.extent.lo.0 c.args.ts1085 c.args.rule number _ _ _ c.args.extent why said c.requires.extent)
      | in-None+in_ok-push_octal_faults-in-None+in_ok-number_token-in-None w ↦
          let none = none-behind c.args.extent.lo.0 _ (rw w.in-None.is at c.in_ok-error.ensures.value) in
          rw (w.value-is, w.faults-is)
          (accepted-found c.args.extent.lo.0 c.args.ts1085 c.args.rule number _ _ _ _ c.args.extent none w.in_ok-number_token-in-None.ensures.value said w.in_ok-push_octal_faults-in-None.ensures.faults c.requires.extent)
    ]

pub returns-clause-free : goal.returns-clause-free
returns-clause-free c = λ _ _ _. refl
