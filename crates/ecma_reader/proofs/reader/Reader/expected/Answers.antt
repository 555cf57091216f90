use Rattle.ecma_slashes.specs.Known.{expected_next}
use Rattle.ecma_slashes.specs.Rereads.{known_to}
use Rattle.ecma_reader.specs.Readers.{expected_behind}
use Rattle.ecma_reader.proofs.ExpectedLemmas.{expected-by, ready-caught-up, shows-caught-up, told-if}
use Rattle.ecma_reader.proofs.reader.Reader.expected.Goals as goal

pub returns-clause-shows : goal.returns-clause-shows
returns-clause-shows c = λ rule begin tokens shows.
    shows-caught-up rule begin tokens c.args.self.now c.expected.new.self c.expected.ensures.slashes c.expected.ensures.follows shows

pub returns-clause-ready : goal.returns-clause-ready
returns-clause-ready c = λ ready. ready-caught-up c.args.self.now c.expected.new.self c.expected.ensures.slashes ready

pub returns-clause-told : goal.returns-clause-told
returns-clause-told c = λ rule begin tokens shows.
    told-if c.expected.result (expected_next (known_to c.args.self.now.decider)) (expected_behind rule begin tokens) (expected-by rule begin tokens c.args.self.now shows) c.expected.ensures.told
