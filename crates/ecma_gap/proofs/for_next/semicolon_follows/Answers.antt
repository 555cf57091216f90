use Rattle.std.proofs.Common.{arith, ap, ◌∙◌}
use Rattle.ecma_place.specs.Cursor.{Cursor, rest}
use Rattle.ecma_grammar.specs.Comments.{semicolon_follows}
use Rattle.ecma_grammar.proofs.ForNextLemmas.{semicolon-seen}
use Rattle.ecma_gap.proofs.for_next.semicolon_follows.Goals as goal

pub returns-in-Ok : goal.returns-in-Ok
returns-in-Ok c =
    semicolon-seen c.in-Ok.ahead _ c.is_byte.result c.skip_white_space.ensures.moved (c.is_byte.ensures.ascii (omega arith))
    ∙ ap (λ (ahead : Cursor). semicolon_follows (rest ahead)) c.in-Ok.ensures.cases
