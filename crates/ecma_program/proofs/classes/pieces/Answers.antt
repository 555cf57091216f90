use Rattle.std.proofs.Common.{◌∙◌, Some, arith, sym, ap, length}
use Rattle.std.specs.Prelude.{option_map}
use Rattle.ecma_classes.specs.Classes.{classes_of}
use Rattle.ecma_state.specs.Ending.{read_out}
use Rattle.ecma_state.specs.Session.{kept_tokens}
use Rattle.ecma_program.specs.ClassLines.{pieces_from}
use Rattle.ecma_program.proofs.Covering.{collected-there, may-be-covered}
use Rattle.ecma_program.proofs.classes.pieces.Goals as goal

pub classes-requires : goal.classes-requires
classes-requires c =
    let (s, opened, stands) = c.in_ok-opened.ensures in
    let all = c.in_ok-kept.ensures in
    let kept = c.deref.ensures.value ∙ all.tokens s stands in
    let comments = c.deref-2.ensures.value ∙ c.in_ok-comments.ensures (all.ended s stands) ∙ all.comments s stands ∙ collected-there s in
    let may = may-be-covered c.args.options c.args.rereads.now c.args.text.now s c.deref.result.now c.deref-2.result.now opened kept comments in
    record { fits = omega (arith, c.requires); tokens = may.tokens_stand; in_order = may.in_order; comments = may.comments_stand; apart = may.apart; inside_or_outside = may.inside_or_outside }

pub returns : goal.returns
returns c =
    let (s, opened, stands) = c.in_ok-opened.ensures in
    let all = c.in_ok-kept.ensures in
    let kept = c.deref.ensures.value ∙ all.tokens s stands in
    let comments = c.deref-2.ensures.value ∙ c.in_ok-comments.ensures (all.ended s stands) ∙ all.comments s stands ∙ collected-there s in
    let pieces =
    c.in_ok-classes.ensures.same
    ∙ ap (λ kept. classes_of 0 (length c.args.text.now) kept c.deref-2.result.now) kept
    ∙ ap (λ comments. classes_of 0 (length c.args.text.now) (kept_tokens (read_out s)) comments) comments in
    ap (option_map (pieces_from c.args.text.now)) opened ∙ ap (λ pieces. Some pieces) (sym pieces)
