use Rattle.std.proofs.Common.{length, true, false, None, ◌+◌, arith, refl, sym, ap, ◌∙◌}
use Rattle.ecma_place.specs.Cursor.{rest}
use Rattle.ecma_template.specs.WrittenTemplates.{piece_of, first_text}
use Rattle.ecma_template.proofs.TemplatePieces.{piece_read, piece_end, behind_same, and_on, or_on, refusal_on, refused-end}
use Rattle.ecma_template.proofs.VerbatimPieces.{and-over, or-over, refusal-over, behind-over, passes-shorter}
use Rattle.ecma_template.proofs.template.survey.survey_text.Goals as goal

pub newer-survey-requires : goal.newer-survey-requires
newer-survey-requires c =
    let is = piece_read c.in-Some.piece _ _ c.in-Some.ensures.value c.in-Some.ensures.moved in
    omega (arith, piece_end _ _ _ is, c.pieces.invariant.start, c.cur_pos-end.ensures)

pub pieces-init : goal.pieces-init
pieces-init c =
    let old = c.args.input.now in
    let now = c.pass_verbatim.new.input in
    let flag = c.pass_verbatim.result in
    let is = c.pass_verbatim.ensures.passed in
    record {
      verbatim = and-over true flag old now _ is refl;
      line_break = or-over false flag old now _ is refl;
      refusal = refusal-over None flag old now _ is refl;
      behind = behind-over flag old now is;
      start = c.cur_pos-start.ensures;
    }

pub pieces-smaller : goal.pieces-smaller
pieces-smaller c =
    let is = piece_read c.in-Some.piece _ _ c.in-Some.ensures.value c.in-Some.ensures.moved in
    omega (arith, is.shorter, passes-shorter _ _ _ c.pass_verbatim-in-Some.ensures.passed)

pub pieces-preserved : goal.pieces-preserved
pieces-preserved c =
    let old = c.pieces.input in
    let mid = c.read_piece.new.input in
    let now = c.pass_verbatim-in-Some.new.input in
    let flag = c.pass_verbatim-in-Some.result in
    let spelling = first_text (rest old) in
    let piece = piece_of spelling c.in-Some.piece in
    let is = piece_read c.in-Some.piece old mid c.in-Some.ensures.value c.in-Some.ensures.moved in
    let start = c.pieces.invariant.start in
    let newer = c.newer-survey.ensures spelling (λ r same. ap (λ p. p + length spelling) start ∙ refused-end c.in-Some.piece r old mid c.in-Some.ensures.value is same ∙ sym c.cur_pos-end.ensures) in
    let onward = c.pass_verbatim-in-Some.ensures.passed in
    record {
      verbatim = and-over _ flag mid now _ onward (and_on c.pieces.survey.is_verbatim c.is_verbatim.result piece old mid _ is (c.is_verbatim.ensures spelling) c.pieces.invariant.verbatim);
      line_break = or-over _ flag mid now _ onward (or_on c.pieces.survey.line_break c.is_break.result piece old mid _ is (c.is_break.ensures spelling) c.pieces.invariant.line_break);
      refusal = refusal-over _ flag mid now _ onward (refusal_on _ _ piece old mid _ is (rw start at newer) c.pieces.invariant.refusal);
      behind = behind-over flag mid now onward ∙ behind_same piece old mid is ∙ c.pieces.invariant.behind;
      start = c.cur_pos-start-in-Some.ensures;
    }
