use Rattle.std.proofs.Common.{◌≡◌, Bool, true, false, refl, arith, codes, ap, sym, ◌∙◌, drop, length, nat_eq}
use Rattle.std.specs.Prelude.{is_some}
use Rattle.std.specs.List.{starts_with}
use Rattle.std.specs.Str.{chars}
use Rattle.ecma_place.specs.Cursor.{Cursor, rest, place, passed}
use Rattle.ecma_place.proofs.MoveLemmas.{place-passed-le}
use Rattle.ecma_grammar.specs.Gaps.{comment_body, block_of, body_before, element_text}
use Rattle.ecma_gap.specs.GapRecords.{gap_so_far, with_element}
use Rattle.ecma_gap.proofs.BodyLemmas.{body-ended}
use Rattle.ecma_gap.proofs.ElementLemmas.{block-closed, block-open, closed-said, open-said, open-free}
use Rattle.ecma_grammar.proofs.SignLemmas.{signs-within, rest-behind, ending-seen}
use Rattle.ecma_gap.proofs.element.read_block_comment.Goals.{then-is_str+in_ok-add_comment, else-is_str+in_ok-add_fault}
use Rattle.ecma_gap.proofs.element.read_block_comment.Goals as goal

pub pass-requires-then-is_str : goal.pass-requires-then-is_str
pass-requires-then-is_str c = signs-within (codes "*/") _ (sym (ending-seen _) ∙ sym c.is_str.ensures ∙ c.if-is_str.true)

pub new-span-requires : goal.new-span-requires
new-span-requires c = omega (arith, c.cur_pos-start.ensures, c.cur_pos.ensures, place-passed-le _ _ _ c.pass.ensures, place-passed-le _ _ _ c.read_body-terminator.ensures.moved, place-passed-le _ _ _ c.pass-then-is_str.ensures)

pub new-span-requires-else-is_str : goal.new-span-requires-else-is_str
new-span-requires-else-is_str c = omega (arith, c.cur_pos-start.ensures, c.cur_pos-else-is_str.ensures, place-passed-le _ _ _ c.pass.ensures, place-passed-le _ _ _ c.read_body-terminator.ensures.moved)

-- whether the comment ends, by what stands behind its body
is_ended : (behind there : Cursor) (b x : Bool) → there ≡ passed (length (body_before (rest behind))) behind → b ≡ starts_with nat_eq (rest there) (chars (codes "*/")) → b ≡ x
    → is_some (comment_body (rest behind)) ≡ x
is_ended behind there b x moved seen e = sym (body-ended behind there moved) ∙ sym (ending-seen (rest there)) ∙ sym seen ∙ e

pub returns-in_err-add_fault-clause-free : goal.returns-in_err-add_fault-clause-free
returns-in_err-add_fault-clause-free c =
    let d = drop 2 (rest c.args.input.now) in
    let none = is_ended _ _ _ false c.read_body-terminator.ensures.moved c.is_str.ensures c.if-is_str.false in
    λ h. absurd (open-free c.args.mode.now (gap_so_far c.args.so_far.now) (place c.args.input.now) (rest c.args.input.now) (comment_body d) d (ap (λ t. is_some (comment_body t)) (sym (rest-behind _ _ 2 c.pass.ensures)) ∙ none) h)

pub returns-clause-so_far : goal.returns-clause-so_far
returns-clause-so_far c =
    let r = gap_so_far c.args.so_far.now in
    let body = c.read_body-terminator.ensures in
    elim c.if-is_str.branch [
      | then-is_str+in_ok-add_comment w ↦
          let some = is_ended _ _ _ true body.moved c.is_str.ensures w.if-is_str.true in
          let is = block-closed c.args.input.now _ _ _ c.requires c.pass.ensures body.moved some w.pass-then-is_str.ensures in
          closed-said c.args.mode.now r (gap_so_far c.if-is_str.so_far) _ c.args.input.now c.pass.new.input _ _ _ _ _ some is c.cur_pos-start.ensures w.cur_pos.ensures body.text body.terminator
          (ap gap_so_far w.so_far-is ∙ (rw (w.from.ensures, w.new-span.ensures) at w.in_ok-add_comment.ensures.so_far)) refl
          ∙ ap (λ d. with_element c.args.mode.now (place c.args.input.now) (rest c.args.input.now) (block_of (comment_body d) d) r) (rest-behind _ _ 2 c.pass.ensures)
      | else-is_str+in_ok-add_fault w ↦
          let none = is_ended _ _ _ false body.moved c.is_str.ensures w.if-is_str.false in
          let is = block-open c.args.input.now _ _ c.requires c.pass.ensures body.moved none in
          open-said c.args.mode.now r (gap_so_far c.if-is_str.so_far) _ c.args.input.now c.pass.new.input _ _ _ _ none is c.cur_pos-start.ensures w.cur_pos-else-is_str.ensures body.terminator
          (ap gap_so_far w.so_far-is ∙ (rw w.new-span-else-is_str.ensures at w.in_ok-add_fault.ensures)) refl
          ∙ ap (λ d. with_element c.args.mode.now (place c.args.input.now) (rest c.args.input.now) (block_of (comment_body d) d) r) (rest-behind _ _ 2 c.pass.ensures)
    ]

pub returns-clause-moved : goal.returns-clause-moved
returns-clause-moved c =
    let body = c.read_body-terminator.ensures in
    let there : rest c.pass.new.input ≡ drop 2 (rest c.args.input.now) = rest-behind _ _ 2 c.pass.ensures in
    let far = ap (λ d. passed (length (element_text (block_of (comment_body d) d))) c.args.input.now) there in
    elim c.if-is_str.branch [
      | then-is_str+in_ok-add_comment w ↦
          let some = is_ended _ _ _ true body.moved c.is_str.ensures w.if-is_str.true in
          w.input-is ∙ (block-closed c.args.input.now _ _ _ c.requires c.pass.ensures body.moved some w.pass-then-is_str.ensures).moved ∙ far
      | else-is_str+in_ok-add_fault w ↦
          let none = is_ended _ _ _ false body.moved c.is_str.ensures w.if-is_str.false in
          w.input-is ∙ (block-open c.args.input.now _ _ c.requires c.pass.ensures body.moved none).moved ∙ far
    ]
