use Rattle.std.proofs.Common.{◌≡◌, ◌∙◌, List, [], ◌∷◌, ◌++◌, reverse}
use Rattle.std.proofs.lemmas.List.{append_assoc, map-append, reverse-append}
use Rattle.ecma_span.specs.Comment.{Added}
use Rattle.ecma_comments.specs.declared.comments_buffer.BufferedComment.{BufferedComment}
use Rattle.ecma_comments.specs.HandOver.{added_of, HandsFirst}
use Rattle.ecma_comments.proofs.hand_over.give_from_last.Goals as goal

-- the last comment of the turned list is the next one that is handed over
hands-next : (g0 g1 g2 : List Added) (all turned rest : List BufferedComment) (c : BufferedComment) → HandsFirst g0 g1 all (reverse turned) → turned ≡ rest ++ c ∷ [] → g2 ≡ g1 ++ added_of c ∷ [] → HandsFirst g0 g2 all (reverse rest)
hands-next g0 g1 g2 all turned rest c so_far last more = record {
  handed = so_far.handed ++ c ∷ [];
  order = so_far.order ∙ rw last (simp (reverse-append, append_assoc));
  given = more ∙ rw so_far.given (simp (map-append, append_assoc));
}

pub comments-preserved : goal.comments-preserved
comments-preserved g c =
    hands-next _ _ _ _ _ _ c.in-Some.comment c.comments.invariant c.in-Some.ensures.items c.in_default-give.ensures.ok
