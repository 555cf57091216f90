-- Each item of a lexer leaves fewer.
use Rattle.std.proofs.Common.{◌≡◌, ◌∙◌, ◌<◌, Bool, true, false, Option, Some, None, refl, sym, subst, ap, arith}
use Rattle.std.specs.Iterator.{IsFinite, size}
use Rattle.ecma_place.specs.declared.place.BytePos.{BytePos}
use Rattle.ecma_token.specs.View.{SpannedView}
use Rattle.ecma_state.specs.Ending.{most_tokens}
use Rattle.ecma_state.specs.Items.{items_from, items_left}
use Rattle.ecma_state.specs.Run.{reading_of, state_behind}
use Rattle.ecma_state.specs.Session.{LexerValue, lexer_state}
use Rattle.ecma_reads.proofs.EndingLemmas.{tokens_run_out}

pub item-less : (old new : LexerValue) (t : SpannedView) → old.refused ≡ false → (reading_of (lexer_state old)).found ≡ Some t → lexer_state new ≡ state_behind (lexer_state old) (reading_of (lexer_state old))
    → IsFinite (items_left old) → IsFinite (items_left new) × (size (items_left new) < size (items_left old))
item-less old new t given found moved finite = go old.refused given old.reread refl finite
  where
    go : (refused : Bool) → refused ≡ false → (r : Option BytePos) → old.reread ≡ r → IsFinite (items_from refused r (lexer_state old))
        → IsFinite (items_left new) × (size (items_left new) < size (items_from refused r (lexer_state old)))
    go true e r same finite = cc
    go false e (Some p) same finite = absurd finite
    go false e None same finite =
        let refused : new.refused ≡ false = ap (λ l. l.refused) moved ∙ given in
        let reread : new.reread ≡ None = ap (λ l. l.reread) moved ∙ same in
        let fewer = tokens_run_out (lexer_state old) t same found in
        let less : most_tokens (lexer_state new) < most_tokens (lexer_state old) = subst (λ l. most_tokens l < most_tokens (lexer_state old)) (sym moved) fewer in
        rw (refused, reread) (tt, omega (arith, less))
