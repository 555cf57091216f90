-- Lists of comments that copies share in part.
use Rattle.std.specs.Prelude.{◌≡◌, ℕ, ◌+◌, ◌<◌, ◌≤◌, List, ◌++◌, length, take, IsTrue, Vec}
use Rattle.std.specs.Global.{Global}
use Rattle.std.specs.List.{All, flat_map}
use Rattle.std.specs.declared.sync.Arc.{Arc}
use Rattle.ecma_comments.specs.declared.comments_buffer.BufferedComment.{BufferedComment}

-- a block of comments, which lists share
abbrev pub Block : Type 0
Block = Arc (Vec BufferedComment Global) Global

abbrev pub of_blocks : List Block → List BufferedComment
of_blocks blocks = flat_map (λ (block : Block). block.value.items) blocks

-- the text of the comment is a slice of the source, so that a copy of it does not allocate
abbrev pub IsBorrowed : BufferedComment → Type 0
IsBorrowed c = IsTrue c.comment.text.is_borrowed

-- so many comments are shared, whose copies do not allocate, and behind the others there is room for them
pub record AreShared (shared : List BufferedComment) (count others room : ℕ) : Type 0 where
  pub borrowed : All IsBorrowed shared
  pub counted : count ≡ length shared
  pub fits : count + others ≤ room

-- a block was cut off that has the comment behind the first so many: the blocks before it stay, with so many comments
pub record CutsBlock (old new : List Block) (block : Block) (before len : ℕ) : Type 0 where
  pub order : take (before + length block.value.items) (of_blocks old) ≡ of_blocks new ++ block.value.items
  pub counted : before ≡ length (of_blocks new)
  pub begins : before ≤ len
  pub ends : len < before + length block.value.items
