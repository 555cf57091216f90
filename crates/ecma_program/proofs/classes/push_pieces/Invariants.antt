-- What was added is the lines of the first pieces.
use Rattle.std.proofs.Common.{◌≡◌, ◌++◌, take}
use Rattle.ecma_program.specs.ClassLines.{piece_lines}
use Rattle.ecma_program.proofs.classes.push_pieces.Given as goal

abbrev pub invariant-loop-piece : goal.invariant-loop-piece
invariant-loop-piece l = l.out.items ≡ l.initial.out.items ++ piece_lines (take l.piece-index l.pieces)
