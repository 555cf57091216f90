-- What a store is handed of the comments of a lexer, once the end was answered.
use Rattle.std.specs.Prelude.{◌≡◌, Bool, not, ◌&&◌, List, [], ◌++◌, map}
use Rattle.ecma_place.specs.Comment.{Added}
use Rattle.ecma_state.specs.Run.{state_with_comments}
use Rattle.ecma_state.specs.Session.{LexerState}
pub use Rattle.ecma_comments.specs.HandOver.{side_of, added_of, HandsFirst, StopsEarly}

-- the last answer was the end, and memory was never refused
abbrev pub has_comments : LexerState → Bool
has_comments l = not l.refused && l.state.seen.ended

-- a store was handed all comments of a lexer, in order, and none is kept
pub record HandsAll (given_old given_new : List Added) (old new : LexerState) : Type 0 where
  pub given : given_new ≡ given_old ++ map added_of old.comments
  pub none : new ≡ state_with_comments [] old
