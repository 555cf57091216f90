use Rattle.std.proofs.Common.{sym, ap, ◌∙◌}
use Rattle.ecma_place.specs.Atom.{borrowed_atom}
use Rattle.ecma_grammar.specs.Numbers.{digits_atom, written_digits}
use Rattle.ecma_number.specs.WrittenNumbers.{number_of}
use Rattle.ecma_number.proofs.NumberDigits.{atom-bytes, written-plain}
use Rattle.ecma_number.proofs.NumberForms.{number-bytes, written-bytes, kept-bytes}
use Rattle.ecma_grammar.proofs.NumberFound.{big-token, small-token}
use Rattle.ecma_number.proofs.number.token.number_token.Goals as goal

pub digits_atom-requires : goal.digits_atom-requires
digits_atom-requires c = record { ascii = rw c.written_digits.ensures (written-bytes (number_of c.args.number) c.requires.form) }

pub returns-in_err-digits-clause-free : goal.returns-in_err-digits-clause-free
returns-in_err-digits-clause-free c =
    λ plain.
    let none = written-plain (number_of c.args.number) plain in
    let taken = c.in_err-digits.ensures.free (rw c.written_digits.ensures none) in
    cc

pub returns-then-is_big-clause-value : goal.returns-then-is_big-clause-value
returns-then-is_big-clause-value c =
    let number = number_of c.args.number in
    let raw = c.from.ensures ∙ ap borrowed_atom (c.requires.raw ∙ sym (number-bytes number c.requires.form)) in
    let digits = c.in_ok-digits.ensures.value ∙ ap digits_atom c.written_digits.ensures in
    big-token number _ _ _ (sym c.is_big.ensures ∙ c.if-is_big.true) raw c.radix_of-radix.ensures digits

held : goal.whole_value-whole-requires-clause-digits
held c =
    let number = number_of c.args.number in
    let digits = c.in_ok-digits.ensures.value ∙ ap digits_atom c.written_digits.ensures in
    c.as_str.ensures ∙ ap (λ a. a.bytes) digits ∙ atom-bytes (written_digits number) (written-bytes number c.requires.form) (kept-bytes number c.requires.form)

pub whole_value-whole-requires-clause-digits : goal.whole_value-whole-requires-clause-digits
whole_value-whole-requires-clause-digits c = held c

pub whole_value-whole-requires-clause-some : goal.whole_value-whole-requires-clause-some
whole_value-whole-requires-clause-some c = rw (held c) c.requires.some

pub returns-clause-value : goal.returns-clause-value
returns-clause-value c =
    let number = number_of c.args.number in
    let raw = c.from-2.ensures ∙ ap borrowed_atom (c.requires.raw ∙ sym (number-bytes number c.requires.form)) in
    let digits = c.in_ok-digits.ensures.value ∙ ap digits_atom c.written_digits.ensures in
    small-token number _ _ _ _ (sym c.is_big.ensures ∙ c.if-is_big.false) raw c.radix_of-radix.ensures digits c.whole_value-whole.ensures
