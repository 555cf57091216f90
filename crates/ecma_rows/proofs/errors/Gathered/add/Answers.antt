use Rattle.std.proofs.Common.{◌≡◌, length, refl, rules}
use Rattle.ecma_rows.proofs.ErrorLemmas.{gathers}
use Rattle.ecma_rows.proofs.errors.Gathered.add.Goals as goal

pub returns : goal.returns
returns c = λ es e said is.
    let from : c.len-message_lo.result ≡ length c.args.self.now.messages.items = search rules in
    let to : c.len-message_hi.result ≡ length c.extend_from_slice.new.self.items = search rules in
    gathers es e c.args.source c.args.span c.args.message.now c.args.self.now (record { rows = c.push.new.self; messages = c.extend_from_slice.new.self })
    (record { lo = c.args.span.lo.0; hi = c.args.span.hi.0; source = c.number.result; message_lo = c.len-message_lo.result; message_hi = c.len-message_hi.result }) said is
    c.in_ok-extend_from_slice.ensures.items c.in_ok-push.ensures.items refl refl c.number.ensures from to
