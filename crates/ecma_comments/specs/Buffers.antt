-- What a buffer of comments keeps.
use Rattle.std.specs.Prelude.{◌≡◌, List, length, take}
use Rattle.ecma_comments.specs.declared.comments_buffer.BufferedComment.{BufferedComment}

pub record CommentsValue : Type 0 where
  -- those that have their token, in order
  pub comments : List BufferedComment
  -- those that wait for the next token, in order
  pub pending_leading : List BufferedComment

-- the second list begins with the first
abbrev pub Begins : {A : Type 0} → List A → List A → Type 0
Begins first second = take (length first) second ≡ first
