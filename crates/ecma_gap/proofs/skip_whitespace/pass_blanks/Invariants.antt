use Rattle.std.proofs.Common.{length}
use Rattle.ecma_place.specs.Character.{is_white_space, is_line_terminator}
use Rattle.ecma_place.specs.Cursor.{rest}
use Rattle.ecma_place.proofs.RunLemmas.{IsOnRun, FlagsRun}
use Rattle.ecma_gap.proofs.skip_whitespace.pass_blanks.Given as goal

abbrev pub invariant-chars : goal.invariant-chars
invariant-chars l =
    IsOnRun is_white_space l.fn.input l.input
    × FlagsRun is_white_space is_line_terminator l.terminator l.fn.input l.input

abbrev pub decreases-chars : goal.decreases-chars
decreases-chars l = length (rest l.input)
