-- What was read of a gap so far, what an element adds to it, and what callers see of a gap and of bars.
use Rattle.std.specs.Prelude.{◌≡◌, ℕ, Bool, ◌||◌, List, [], ◌∷◌, ◌++◌, map, ⊤, Option, Some, None, option_map, if◌then◌else◌}
use Rattle.std.specs.List.{list_any}
use Rattle.ecma_place.specs.Character.{is_line_terminator}
use Rattle.ecma_place.specs.Text.{Text}
use Rattle.ecma_place.specs.declared.comment.Comment.{Comment}
use Rattle.ecma_place.specs.declared.place.BytePos.{BytePos}
use Rattle.ecma_token.specs.View.{ErrorView, error_view}
use Rattle.ecma_gap.specs.declared.bars.Bars.{Bars}
use Rattle.ecma_gap.specs.declared.gap.Gap.{Gap}
use Rattle.ecma_grammar.specs.declared.gap_mode.GapMode.{GapMode}
use Rattle.ecma_gap.specs.declared.so_far.GapSoFar.{GapSoFar}
use Rattle.ecma_grammar.specs.Bars as markers
use Rattle.ecma_grammar.specs.Comments.{comment_of, comments_of, paired, behind_element, collected}
use Rattle.ecma_grammar.specs.Found.{Fault, error_behind, fault_behind, fault_view}
use Rattle.ecma_grammar.specs.GapViews.{GapView}
use Rattle.ecma_grammar.specs.Gaps.{Element, element_text, is_common, element_faults, faults_of, pending_fault, pending_behind, flag_behind, gap_cutter}
use Rattle.ecma_grammar.specs.Pieces.{spelled}

-- the flag, where the `<!--` stands whose fault is still to come, the comments and the faults
pub record GapSoFarView : Type 0 where
  pub flag : Bool
  pub pending : Option ℕ
  pub comments : List (Comment × Bool)
  pub faults : List Fault

abbrev pub place_of_opening : Option BytePos → Option ℕ
place_of_opening opening = option_map (λ (p : BytePos). p.0) opening

abbrev pub gap_so_far : GapSoFar → GapSoFarView
gap_so_far r =
    record { flag = r.line_break; pending = place_of_opening r.opening; comments = r.comments.items; faults = map fault_view r.faults.items }

-- nothing read
abbrev pub nothing_read : Bool → GapSoFarView
nothing_read flag = record { flag = flag; pending = None; comments = []; faults = [] }

-- What is added

-- the flag, where it stood or stands now
abbrev pub with_flag : Bool → GapSoFarView → GapSoFarView
with_flag flag r = record { flag = flag; pending = r.pending; comments = r.comments; faults = r.faults }

-- a comment, where comments are collected, behind which the text stands
abbrev pub with_comment : GapMode → Text → Comment → GapSoFarView → GapSoFarView
with_comment mode behind comment r =
    record {
      flag = r.flag;
      pending = r.pending;
      comments = r.comments ++ collected mode.collect (paired mode.prev r.flag behind (comment ∷ []));
      faults = r.faults;
    }

abbrev pub with_fault : Fault → GapSoFarView → GapSoFarView
with_fault fault r = record { flag = r.flag; pending = r.pending; comments = r.comments; faults = r.faults ++ fault ∷ [] }

-- the fault of a `<!--` up to n, if one is still to come, and the place of the next
abbrev pub with_opening : ℕ → Option ℕ → GapSoFarView → GapSoFarView
with_opening n opening r =
    record { flag = r.flag; pending = opening; comments = r.comments; faults = r.faults ++ pending_fault r.pending n }

-- an element

abbrev pub element_comments : GapMode → Bool → ℕ → Text → Element → List (Comment × Bool)
element_comments mode flag n text e = collected mode.collect (paired mode.prev flag (behind_element e text) (comment_of n e))

abbrev pub faults_with : Option ℕ → ℕ → Element → List Fault
faults_with pending n e = (if is_common e then [] else pending_fault pending n) ++ element_faults n e

-- the element at n with which the text begins
abbrev pub with_element : GapMode → ℕ → Text → Element → GapSoFarView → GapSoFarView
with_element mode n text e r =
    record {
      flag = flag_behind r.flag e;
      pending = pending_behind r.pending n e;
      comments = r.comments ++ element_comments mode r.flag n text e;
      faults = r.faults ++ faults_with r.pending n e;
    }

-- the element, if there is one
abbrev pub with_next : GapMode → ℕ → Text → Option Element → GapSoFarView → GapSoFarView
with_next mode n text None r = r
with_next mode n text (Some e) r = with_element mode n text e r

abbrev pub next_text : Option Element → Text
next_text None = []
next_text (Some e) = element_text e

-- the element gives neither a fault nor a comment that is collected
abbrev pub AddsNothing : GapMode → ℕ → Text → GapSoFarView → Element → Type 0
AddsNothing mode n text r e = (element_comments mode r.flag n text e ≡ []) × (faults_with r.pending n e ≡ [])

abbrev pub NextAddsNothing : GapMode → ℕ → Text → GapSoFarView → Option Element → Type 0
NextAddsNothing mode n text r None = ⊤
NextAddsNothing mode n text r (Some e) = AddsNothing mode n text r e

-- What is found

abbrev pub gap_view : Gap → GapView
gap_view g = record { line_break = g.line_break; comments = g.comments.items; faults = map fault_view g.faults.items }

-- what is found of elements at n with which the text begins, and of what was read before them
abbrev pub found_with : GapMode → ℕ → Text → List Element → GapSoFarView → GapView
found_with mode n text es r =
    record {
      line_break = r.flag || list_any is_line_terminator (spelled (gap_cutter mode) es);
      comments = r.comments ++ collected mode.collect (comments_of mode.prev r.flag n es text);
      faults = r.faults ++ faults_of r.pending n es;
    }

-- neither a fault nor a comment
abbrev pub IsEmpty : GapView → Type 0
IsEmpty g = (g.comments ≡ []) × (g.faults ≡ [])

-- What callers see of bars

pub record BarsView : Type 0 where
  pub error : ErrorView
  pub faults : List Fault
  pub comments : List (Comment × Bool)
  pub line_break : Bool

abbrev pub bars_view : Bars → BarsView
bars_view b =
    record { error = error_view b.error; faults = map fault_view b.gap.faults.items; comments = b.gap.comments.items; line_break = b.gap.line_break }

-- what is found at a place: error and faults are moved to it
abbrev pub bars_found_at : ℕ → markers.Bars → BarsView
bars_found_at n b =
    record { error = error_behind n b.error; faults = map (fault_behind n) b.faults; comments = b.comments; line_break = b.line_break }
