-- How a text is read for what is told of it.
use Rattle.std.specs.Prelude.{Bool, true, false}
use Rattle.ecma_command.specs.declared.words.Face.{Face}
use Rattle.ecma_command.specs.declared.words.Face.TheVariants.{Comments, Classes, Html, Show}

-- comments are collected
abbrev pub with_comments : Face → Bool
with_comments Comments = true
with_comments Classes = true
with_comments Html = true
with_comments Show = true
with_comments _ = false
