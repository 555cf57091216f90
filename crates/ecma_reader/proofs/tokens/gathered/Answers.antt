use Rattle.std.proofs.Common.{◌∙◌, refl}
use Rattle.ecma_replay.specs.declared.gathered.Gathered.{Gathered}
use Rattle.ecma_slashes.specs.Rereads.{entered}
use Rattle.ecma_reader.specs.Readers.{end_by}
use Rattle.ecma_reader.proofs.TextLemmas.{gathers-all, lexed}
use Rattle.ecma_reader.proofs.tokens.gathered.Goals as goal

pub returns : goal.returns
returns c = λ rule settings context input has kept.
    let outcome = c.finish-outcome.result in
    let gathered : Gathered = record { kept = c.args.kept; errors = outcome.errors; waiting = outcome.waiting; comments = outcome.comments; ended = outcome.ended } in
    let all = gathers-all rule settings context input gathered outcome (c.finish-outcome.ensures.left (end_by rule (entered settings context input)) has.at) kept refl refl refl refl in
    lexed rule settings context input (record { gathered = gathered; rereads = outcome.rereads }) all (c.finish-outcome.ensures.rereads ∙ has.counted)
