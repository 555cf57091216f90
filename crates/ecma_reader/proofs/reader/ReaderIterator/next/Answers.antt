use Rattle.std.proofs.Common.{subst, sym}
use Rattle.ecma_reader.specs.Items.{GivesItem}
use Rattle.ecma_reader.proofs.ItemLemmas.{gives}
use Rattle.ecma_reader.proofs.reader.ReaderIterator.next.Goals as goal

pub returns-in-Ok-clause-steps : goal.returns-in-Ok-clause-steps
returns-in-Ok-clause-steps c =
    subst
    (λ item. GivesItem c.args.self.now item c.read_into.new.self)
    (sym c.as_item.ensures)
    (gives c.args.self.now c.read_into.new.self c.read_into.new.slot _ c.if-self.false c.in-Ok.ensures.reads)
