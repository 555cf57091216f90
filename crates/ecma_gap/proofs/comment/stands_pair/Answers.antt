use Rattle.std.proofs.Common.{refl, sym, ◌∙◌}
use Rattle.ecma_place.specs.Cursor.{rest}
use Rattle.ecma_gap.proofs.PairLemmas.{pair-stands}
use Rattle.ecma_gap.proofs.comment.stands_pair.Goals as goal

pub returns-in-Some : goal.returns-in-Some
returns-in-Some c =
    pair-stands (rest c.args.input.now) c.in-Some.b c.args.one c.args.other c.requires ((c.if-not-is_byte.ensures.ascii c.requires.0).0 refl) (sym c.in-Some.is ∙ c.byte_ahead.ensures.byte)
