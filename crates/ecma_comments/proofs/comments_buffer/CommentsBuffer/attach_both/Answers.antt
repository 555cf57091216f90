use Rattle.std.proofs.Common.{◌≡◌, ◌++◌, List, [], ◌∷◌, refl, sym, true≢false}
use Rattle.ecma_comments.proofs.comments_buffer.CommentsBuffer.attach_both.Goals as goal

both-empty : {A : Type 0} → (xs ys : List A) → xs ++ ys ≡ [] → (xs ≡ []) × (ys ≡ [])
both-empty [] ys h = (refl, h)
both-empty (x ∷ xs) ys h = cc

pub returns-in_err-attach_each-clause-free : goal.returns-in_err-attach_each-clause-free
returns-in_err-attach_each-clause-free c = λ h.
    absurd (true≢false (sym (c.in_err-attach_each.ensures.free (both-empty c.args.of_gap.items c.args.of_token.items h).0)))

pub returns-clause-free : goal.returns-clause-free
returns-clause-free c = λ h. c.attach_each-2.ensures.free (both-empty c.args.of_gap.items c.args.of_token.items h).1
