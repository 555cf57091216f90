use Rattle.std.proofs.Common.{◌∙◌, ap, sym}
use Rattle.ecma_slashes.specs.Rereads.{behind_by, by_role, is_in_order}
use Rattle.ecma_tracked.specs.States.{tracked_state}
use Rattle.ecma_tracked.proofs.StateLemmas.{shown-decides, shows-all}
use Rattle.ecma_tracked.proofs.tracked.Tracked.read_into.Goals as goal

pub read_deciding-requires-clause-no_reread : goal.read_deciding-requires-clause-no_reread
read_deciding-requires-clause-no_reread c = c.self.invariant.no_reread c.if-self.false

pub read_deciding-requires-clause-in_order : goal.read_deciding-requires-clause-in_order
read_deciding-requires-clause-in_order c = ap is_in_order c.self.invariant.by_roles

pub returns-in-Ok-clause-reads : goal.returns-in-Ok-clause-reads
returns-in-Ok-clause-reads c = λ s shows.
    let here = shows ∙ sym (ap tracked_state c.self.view_is) in
    let at = ap (λ t. t.lexer) here in
    let decides = shown-decides s c.self.inside c.self.invariant here in
    let told = c.in-Ok.ensures.steps by_role s at decides in
    record { finds = told.0.finds; shows = shows-all (behind_by by_role s) _ _ _ told.0.after (c.in-Ok.ensures.decides by_role s at decides).follows c.if-self.false }

pub returns-in-Err-clause-expects_still : goal.returns-in-Err-clause-expects_still
returns-in-Err-clause-expects_still c = λ s shows.
    let here = shows ∙ sym (ap tracked_state c.self.view_is) in
    (c.in-Err.ensures.decides_still by_role s (shown-decides s c.self.inside c.self.invariant here)).follows ∙ ap (λ t. t.known) shows
