-- What has been read is what the reader has given away.
use Rattle.std.proofs.Common.{vec_items}
use Rattle.std.specs.Io.KnownBytes.{Consumes}
use Rattle.ecma_stdio.proofs.input.read_all.Given as goal

abbrev pub invariant-turns : goal.invariant-turns
invariant-turns g l = Consumes (g.R.Read.remaining l.initial.reader) (g.R.Read.remaining l.reader) (vec_items l.bytes)
