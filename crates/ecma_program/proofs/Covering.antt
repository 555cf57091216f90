-- The tokens and comments of a text lie so that pieces can cover it.
use Rattle.std.proofs.Common.{◌≡◌, ℕ, true, List, Some, refl, sym, subst}
use Rattle.ecma_pieces.specs.Covered.{MayBeCovered}
use Rattle.ecma_state.specs.Ending.{comments_of, read_out}
use Rattle.ecma_state.specs.Session.{Session, kept_tokens}
use Rattle.ecma_comments.specs.declared.comments_buffer.BufferedComment.{BufferedComment}
use Rattle.ecma_state.specs.declared.kept.Kept.{Kept}
use Rattle.ecma_pieces.proofs.CoveredLemmas.{steps_may_be_covered}
use Rattle.ecma_options.specs.Begin.{settings, whole}
use Rattle.ecma_program.specs.Rereads.{session_behind}
use Rattle.ecma_options.specs.declared.options.Options.{Options}
use Rattle.ecma_program.proofs.Keeping.{read_out-steps}

-- where reads come to the end
at-end : (o : Options) (rereads bytes : List ℕ) (s : Session) → session_behind true o rereads bytes ≡ Some s → MayBeCovered (whole bytes) (kept_tokens (read_out s)) (read_out s).comments
at-end o rereads bytes s opened =
    let (steps, there) = read_out-steps true o rereads bytes s opened in
    subst (λ (x : Session). MayBeCovered (whole bytes) (kept_tokens x) x.comments) (sym there) (steps_may_be_covered (settings true o) (whole bytes) steps)

-- the same of what was kept and handed over there
pub may-be-covered : (o : Options) (rereads bytes : List ℕ) (s : Session) (kept : List Kept) (comments : List BufferedComment) → session_behind true o rereads bytes ≡ Some s
    → kept ≡ kept_tokens (read_out s) → comments ≡ (read_out s).comments → MayBeCovered (whole bytes) kept comments
may-be-covered o rereads bytes s kept comments opened same_kept same_comments =
    subst (λ ks. MayBeCovered (whole bytes) ks comments) (sym same_kept)
    (subst (λ cs. MayBeCovered (whole bytes) (kept_tokens (read_out s)) cs) (sym same_comments) (at-end o rereads bytes s opened))

pub collected-there : (s : Session) → comments_of s ≡ (read_out s).comments
unfolding comments_of
collected-there s = refl
