use Rattle.std.proofs.Common.{◌++◌, take}
use Rattle.std.specs.List.{flat_map}
use Rattle.std.specs.Fmt.{HasWritten, IsPlainFormatter}
use Rattle.ecma_token.proofs.message.write_behind.Given as goal

-- the pieces so far are written
abbrev pub invariant-pieces : goal.invariant-pieces
invariant-pieces g l =
    IsPlainFormatter l.initial.f → HasWritten g.W.Write.write_str_gives l.initial.f (flat_map (λ x. l.separator ++ x.now) (take l.piece-index l.pieces)) l.f
