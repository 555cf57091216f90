use Rattle.std.proofs.Common.{refl, sym, ◌∙◌, arith}
use Rattle.std.proofs.lemmas.Bool.{true≢false}
use Rattle.ecma_number.proofs.PlainNumber.{whole-plain, pointed-plain, not-long, not-ended, not-padded, whole-ends, pointed-ends}
use Rattle.ecma_number.proofs.number.plain.plain_extent.Goals as goal

pub returns-in_err-count-clause-answered : goal.returns-in_err-count-clause-answered
returns-in_err-count-clause-answered c = λ start short. absurd (not-long c.args.bytes.now start short c.in_err-count.ensures.long)

pub returns-then-count-bytes-clause-answered : goal.returns-then-count-bytes-clause-answered
returns-then-count-bytes-clause-answered c = λ start short. absurd (not-ended c.args.bytes.now start c.in_ok-count.count c.in_ok-count.ensures.count c.if-count-bytes.true)

pub returns-then-is_padded-clause-answered : goal.returns-then-is_padded-clause-answered
returns-then-is_padded-clause-answered c = λ start short.
    absurd (not-padded c.args.bytes.now start c.in_ok-count.count c.in_ok-count.ensures.count (sym c.is_padded.ensures ∙ c.if-is_padded.true))

pub returns-then-ends_at-clause-plain : goal.returns-then-ends_at-clause-plain
returns-then-ends_at-clause-plain c =
    let said = c.in_ok-count.ensures in
    let unpadded = sym c.is_padded.ensures ∙ c.if-is_padded.false in
    whole-plain c.args.bytes.now c.in_ok-count.count c.in_ok-count.value said.count said.value (omega arith) unpadded c.if-bytes-count-ne46.true (c.ends_at.ensures.0 c.if-ends_at.true)

pub returns-else-ends_at-clause-answered : goal.returns-else-ends_at-clause-answered
returns-else-ends_at-clause-answered c = λ start short.
    let ends = whole-ends c.args.bytes.now start c.in_ok-count.count c.in_ok-count.ensures.count c.if-bytes-count-ne46.true in
    absurd (true≢false (sym (c.ends_at.ensures.1 ends) ∙ c.if-ends_at.false))

pub returns-then-ends_at-2-clause-plain : goal.returns-then-ends_at-2-clause-plain
returns-then-ends_at-2-clause-plain c =
    let said = c.in_ok-count.ensures in
    let unpadded = sym c.is_padded.ensures ∙ c.if-is_padded.false in
    pointed-plain c.args.bytes.now c.in_ok-count.count c.leading_digits.result _ said.count unpadded (omega arith) c.if-bytes-count-ne46.false c.leading_digits.ensures.count refl
    (c.ends_at-2.ensures.0 c.if-ends_at-2.true)

pub returns-else-ends_at-2-clause-answered : goal.returns-else-ends_at-2-clause-answered
returns-else-ends_at-2-clause-answered c = λ start short.
    let ends = pointed-ends c.args.bytes.now start c.in_ok-count.count c.leading_digits.result _ c.in_ok-count.ensures.count c.if-bytes-count-ne46.false c.leading_digits.ensures.count refl in
    absurd (true≢false (sym (c.ends_at-2.ensures.1 ends) ∙ c.if-ends_at-2.false))
