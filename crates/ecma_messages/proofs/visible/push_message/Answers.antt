use Rattle.std.proofs.Common.{◌++◌, ◌∙◌, flat_map, sym, ap}
use Rattle.std.proofs.lemmas.Iterator.{YieldsList-from_chars}
use Rattle.std.proofs.lemmas.Iterator.Consumers.{YieldsList-end}
use Rattle.ecma_messages.proofs.CharLemmas.{each-as-it-is}
use Rattle.ecma_messages.specs.Visible.{message_char}
use Rattle.ecma_messages.proofs.visible.push_message.Goals as goal

pub returns : goal.returns
returns c =
    let t = YieldsList-end (YieldsList-from_chars c.args.message.now c.utf8.message cc) c.loop-c.yielded _ c.loop-c.yielded_by _ _ c.in-None.is c.next.ensures.steps in
    c.loop-c.invariant ∙ ap (λ cs. c.args.out.now.items ++ flat_map message_char cs) (sym (each-as-it-is c.loop-c.yielded) ∙ t.0)
