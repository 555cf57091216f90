-- What was kept, with what a lexer has besides, is what steps came to.
use Rattle.std.proofs.Common.{◌≡◌, ◌∙◌, ◌++◌, List, map, reverse, sym, ap}
use Rattle.std.proofs.lemmas.List.{map-append, reverse-reverse}
use Rattle.ecma_token.specs.View.{ErrorView, error_view}
use Rattle.ecma_token.specs.declared.error.Error.{Error}
use Rattle.ecma_comments.specs.declared.comments_buffer.BufferedComment.{BufferedComment}
use Rattle.ecma_state.specs.Counting.{counting}
use Rattle.ecma_state.specs.Run.{act_all}
use Rattle.ecma_state.specs.Session.{LexerState, Session, has_ended, kept_tokens, lexer_state, state_of}
use Rattle.ecma_state.specs.declared.step.Step.{Step}
use Rattle.ecma_trees.specs.Trees.{way}
use Rattle.ecma_replay.specs.Playing.{BranchValue, IsAt, joined}
use Rattle.ecma_replay.specs.Replay.{Gathers}
use Rattle.ecma_replay.specs.declared.trees.Trees.{Trees}
use Rattle.ecma_replay.specs.declared.gathered.Gathered.{Gathered}

-- what was kept, with the errors and comments that a lexer shows there, is what was gathered of steps that come there
pub gathers-at : (begin : Session) (steps : List Step) (s : Session) (r : Gathered) (l : LexerState) → act_all begin (counting steps) ≡ s → l ≡ state_of s
    → r.kept.items ≡ kept_tokens s → map error_view r.errors ≡ l.errors.recorded → map error_view r.waiting ≡ l.errors.waiting → r.comments.items ≡ l.comments → r.ended ≡ l.state.seen.ended
    → Gathers begin steps r
gathers-at begin steps s r l run shows kept errors waiting comments ended =
    record {
      kept = kept ∙ ap kept_tokens (sym run);
      errors = errors ∙ ap (λ x. x.errors.recorded) shows ∙ ap (λ x. x.errors.recorded) (sym run);
      waiting = waiting ∙ ap (λ x. x.errors.waiting) shows ∙ ap (λ x. x.errors.waiting) (sym run);
      comments = comments ∙ ap (λ x. x.comments) shows ∙ ap (λ x. x.comments) (sym run);
      ended = ended ∙ ap (λ x. x.state.seen.ended) shows ∙ ap (λ x. has_ended x.past) (sym run);
    }

list-whole : {T : Type 0} (values found : List T) → reverse values ≡ found → values ≡ reverse found
list-whole values found is = sym (reverse-reverse values) ∙ ap reverse is

errors-whole : (all before own : List Error) (found : List Error) (seen : List ErrorView) → reverse before ≡ found → all ≡ before ++ own → map error_view own ≡ seen
    → map error_view all ≡ map error_view (reverse found) ++ seen
errors-whole all before own found seen is joins views =
    ap (map error_view) joins ∙ map-append error_view before own ∙ ap (λ l. map error_view l ++ map error_view own) (list-whole before found is) ∙ ap (λ l. map error_view (reverse found) ++ l) views

-- so is what stands on the ways of a lexer, with what the lexer has besides
pub gathers-joined : (begin s : Session) (steps : List Step) (t : Trees) (b : BranchValue) (r : Gathered) (recorded waiting own waits : List Error) (comments found : List BufferedComment)
    → act_all begin (counting steps) ≡ s → IsAt t s b → reverse r.kept.items ≡ way b.ways.kept t.kept → reverse recorded ≡ way b.ways.recorded t.recorded
    → reverse waiting ≡ way b.ways.waiting t.waiting → reverse comments ≡ way b.ways.comments t.comments → map error_view own ≡ (lexer_state b.lexer).errors.recorded
    → map error_view waits ≡ (lexer_state b.lexer).errors.waiting → found ≡ b.lexer.comments → r.errors ≡ recorded ++ own → r.waiting ≡ waiting ++ waits
    → r.comments.items ≡ comments ++ found → r.ended ≡ b.lexer.state.seen.ended → Gathers begin steps r
gathers-joined begin s steps t b r recorded waiting own waits comments found run at kept of_recorded of_waiting of_comments are_own wait are_found errors all_waiting all ended =
    gathers-at begin steps s r (joined t b.ways (lexer_state b.lexer)) run at.state (list-whole r.kept.items _ (kept ∙ at.kept))
    (errors-whole r.errors recorded own _ _ of_recorded errors are_own) (errors-whole r.waiting waiting waits _ _ of_waiting all_waiting wait)
    (all ∙ ap (λ l. l ++ found) (list-whole comments _ of_comments) ∙ ap (λ l. reverse (way b.ways.comments t.comments) ++ l) are_found) ended
