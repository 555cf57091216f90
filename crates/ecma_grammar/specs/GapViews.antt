-- What callers see of a gap.
use Rattle.std.specs.Prelude.{Bool, List}
use Rattle.ecma_place.specs.declared.comment.Comment.{Comment}
use Rattle.ecma_grammar.specs.Found.{Fault}

pub record GapView : Type 0 where
  pub line_break : Bool
  pub comments : List (Comment × Bool)
  pub faults : List Fault
