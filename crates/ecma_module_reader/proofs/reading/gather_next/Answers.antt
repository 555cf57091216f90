use Rattle.ecma_module_reader.proofs.reading.gather_next.Goals as goal

pub returns-clause-reads : goal.returns-clause-reads
returns-clause-reads c = λ rule begin tokens shows.
    let reads = c.in_ok-more.ensures.reads rule begin tokens shows in
    record { told = reads.told; goes = c.take_read.ensures.goes rule begin tokens reads.goes }

pub returns-clause-gathers : goal.returns-clause-gathers
returns-clause-gathers c = λ rule begin tokens options shows so.
    c.in_ok-take_read.ensures.gathers rule begin tokens options (c.in_ok-more.ensures.reads rule begin tokens shows).goes so

pub returns-clause-ready : goal.returns-clause-ready
returns-clause-ready c = λ more. c.take_read.ensures.ready (c.in_ok-more.ensures.ready more)
