-- What a read finds besides the token, as the code has it, and what becomes of that.
use Rattle.std.specs.Prelude.{◌≡◌, ◌++◌, Bool, List, [], map, Option}
use Rattle.ecma_place.specs.declared.comment.Comment.{Comment}
use Rattle.ecma_reads.specs.Found.{Fault, fault_view}
use Rattle.ecma_state.specs.Disposition.{with_faults}
use Rattle.ecma_state.specs.Reading.{Reading}
use Rattle.ecma_state.specs.Run.{comments_behind}
use Rattle.ecma_state.specs.Session.{LexerState}
use Rattle.ecma_state.specs.State.{behind_answer}
use Rattle.ecma_state.specs.declared.kept.Kept.{Kept}
use Rattle.ecma_dispatch.specs.declared.read.Besides.{Besides}

-- the flag before the end, what is wrong, and the comments, in order
pub record BesidesView : Type 0 where
  pub end_flag : Bool
  pub faults : List Fault
  pub comments : List (Comment × Bool)

abbrev pub seen_beside : Besides → BesidesView
seen_beside b =
    record {
      end_flag = b.end_flag;
      faults = map fault_view b.gap_faults.items ++ map fault_view b.token_faults.items;
      comments = b.gap_comments.items ++ b.token_comments.items;
    }

-- neither a fault nor a comment
abbrev pub bare : Bool → BesidesView
bare end_flag = record { end_flag = end_flag; faults = []; comments = [] }

-- it is that of a reading
pub record IsBeside (b : Besides) (r : Reading) : Type 0 where
  pub end_flag : b.end_flag ≡ r.end_flag
  pub faults : (seen_beside b).faults ≡ r.faults
  pub comments : (seen_beside b).comments ≡ r.comments

-- the lexer behind an answer, which stands behind what was read
abbrev pub state_taking : LexerState → Option Kept → BesidesView → LexerState
state_taking l answer b =
    record l {
      state = behind_answer l.state b.end_flag answer;
      errors = with_faults l.context l.errors b.faults;
      comments = comments_behind l.comments l.state answer b.comments;
    }

-- neither is anything wrong nor a comment there
abbrev pub TakesNone : Besides → Type 0
TakesNone b = ((seen_beside b).faults ≡ []) × ((seen_beside b).comments ≡ [])
