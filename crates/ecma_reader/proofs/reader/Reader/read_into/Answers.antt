use Rattle.std.proofs.Common.{◌∙◌, arith, sym}
use Rattle.std.specs.Prelude.{option_map}
use Rattle.ecma_token.specs.View.{spanned_view}
use Rattle.ecma_state.specs.Run.{act_all}
use Rattle.ecma_reader.specs.declared.reader.Reader.{Reader}
use Rattle.ecma_reader.proofs.ReaderLemmas.{reads-on, stays-ready}
use Rattle.ecma_reader.proofs.TokenLemmas.{some-map}
use Rattle.ecma_reader.proofs.reader.Reader.read_into.Goals as goal

pub read_deciding-requires-clause-no_reread : goal.read_deciding-requires-clause-no_reread
read_deciding-requires-clause-no_reread c = c.requires.ready.no_reread

pub read_deciding-requires-clause-in_order : goal.read_deciding-requires-clause-in_order
read_deciding-requires-clause-in_order c = c.requires.ready.in_order

pub counted-self-requires : goal.counted-self-requires
counted-self-requires c = let few = c.requires.ready.few in omega (arith, few)

pub returns-in-Ok-clause-reads : goal.returns-in-Ok-clause-reads
returns-in-Ok-clause-reads c = λ rule begin tokens shows.
    let told = c.in-Ok.ensures.steps rule (act_all begin shows.steps) (sym shows.at) shows.decides in
    let same = some-map spanned_view c.read_deciding.new.slot in
    let new : Reader = record { lexer = c.read_deciding.new.lexer; decider = c.read_deciding.new.decider; rereads = c.counted-self.result; refused = c.args.self.now.refused } in
    reads-on rule begin tokens c.args.self.now new (option_map spanned_view c.read_deciding.new.slot) c.in-Ok.again c.is_some.result shows told.0 told.1 (c.is_some.ensures ∙ sym same)
    (λ some. stays-ready c.args.self.now new c.in-Ok.again c.requires.ready c.in-Ok.ensures.no_reread c.read_deciding.ensures.slashes c.counted-self.ensures (c.in-Ok.ensures.fewer (sym same ∙ some)))
    (c.in-Ok.ensures.decides rule (act_all begin shows.steps) (sym shows.at) shows.decides) c.counted-self.ensures

pub returns-in-Ok-clause-ready : goal.returns-in-Ok-clause-ready
returns-in-Ok-clause-ready c = λ some.
    let new : Reader = record { lexer = c.read_deciding.new.lexer; decider = c.read_deciding.new.decider; rereads = c.counted-self.result; refused = c.args.self.now.refused } in
    stays-ready c.args.self.now new c.in-Ok.again c.requires.ready c.in-Ok.ensures.no_reread c.read_deciding.ensures.slashes c.counted-self.ensures (c.in-Ok.ensures.fewer (sym c.is_some.ensures ∙ some))
