use Rattle.std.proofs.Common.{Some, ap, subst, sym, ◌∙◌}
use Rattle.ecma_place.specs.Cursor.{rest}
use Rattle.ecma_place.proofs.MoveLemmas.{place-passed-le}
use Rattle.ecma_reads.specs.Punctuators.{punctuator_in}
use Rattle.ecma_token.specs.View.{spanned_view}
use Rattle.ecma_token.specs.declared.token.TokenAndSpan.{TokenAndSpan}
use Rattle.ecma_plain.specs.Plain.{IsPlain}
use Rattle.ecma_plain.proofs.PlainLemmas.{plain-of-punctuator}
use Rattle.ecma_plain.proofs.plain.plain_punctuator.Goals as goal

pub new-requires : goal.new-requires
new-requires c = rw (c.cur_pos-start.ensures, c.cur_pos.ensures) (place-passed-le _ _ _ c.eat_punctuator.ensures.moved)

pub returns-clause-token : goal.returns-clause-token
returns-clause-token c =
    let old = c.args.input.now in
    let mode = c.args.mode.now in
    let is = plain-of-punctuator mode old c.eat_punctuator.new.input (punctuator_in c.type_mode.result (rest old)) c.token.result c.args.flag c.new.result _ _ c.requires
    (ap (λ m. punctuator_in m (rest old)) (sym c.type_mode.ensures)) (ap Some c.token.ensures ∙ c.in_ok-kind.ensures.token) c.eat_punctuator.ensures.moved c.cur_pos-start.ensures c.cur_pos.ensures c.new.ensures in
    subst (λ (t : TokenAndSpan). IsPlain mode (spanned_view t) old c.eat_punctuator.new.input) (sym c.with_kept.ensures.token) is

pub returns-clause-moved : goal.returns-clause-moved
returns-clause-moved c = (_, c.eat_punctuator.ensures.moved)
