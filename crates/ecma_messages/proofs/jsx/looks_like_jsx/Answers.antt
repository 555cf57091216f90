use Rattle.std.proofs.Common.{◌∙◌, sym, ap}
use Rattle.std.proofs.lemmas.List.{take_rest}
use Rattle.ecma_messages.specs.Jsx.{closes_element}
use Rattle.ecma_messages.proofs.JsxLemmas.{passed}
use Rattle.ecma_messages.proofs.jsx.looks_like_jsx.Goals as goal

pub loop-place-preserved : goal.loop-place-preserved
loop-place-preserved c =
    let none = ap closes_element (sym (take_rest c.args.text.now c.loop-place.place)) ∙ sym c.closes_element.ensures ∙ c.if-closes_element.false in
    passed c.args.text.now c.loop-place.place c.loop-place-test.true none ∙ c.loop-place.invariant
