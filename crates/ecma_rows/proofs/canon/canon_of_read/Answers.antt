use Rattle.std.proofs.Common.{false, refl}
use Rattle.ecma_options.specs.Begin.{context, settings, whole}
use Rattle.ecma_reader.proofs.PlainRuns.{texts_are_read_plainly}
use Rattle.ecma_rows.specs.Asked.{asked_view}
use Rattle.ecma_rows.specs.Canon.{steps_of}
use Rattle.ecma_rows.proofs.canon.canon_of_read.Goals as goal

pub canonical_of_gathered-requires-clause-plain : goal.canonical_of_gathered-requires-clause-plain
canonical_of_gathered-requires-clause-plain c =
    let asked = asked_view c.args.asked.now in
    let plain = texts_are_read_plainly asked.rule (settings false asked.options) (context asked.options) (whole asked.bytes) refl in
    (settings false asked.options, steps_of asked, record { gathers = c.requires.read.gathers; clean = plain.clean })

pub returns : goal.returns
returns c =
    let asked = asked_view c.args.asked.now in
    let plain = texts_are_read_plainly asked.rule (settings false asked.options) (context asked.options) (whole asked.bytes) refl in
    c.canonical_of_gathered.ensures (settings false asked.options) (steps_of asked) record { gathers = c.requires.read.gathers; clean = plain.clean }
