use Rattle.std.proofs.Common.{length}
use Rattle.ecma_place.specs.Character.{is_ident_part}
use Rattle.ecma_place.specs.Cursor.{rest}
use Rattle.ecma_place.proofs.RunLemmas.{IsOnRun}
use Rattle.ecma_name.proofs.name.pass_part_characters.Given as goal

abbrev pub invariant-chars : goal.invariant-chars
invariant-chars l = IsOnRun is_ident_part l.fn.input l.input

abbrev pub decreases-chars : goal.decreases-chars
decreases-chars l = length (rest l.input)
