use Rattle.std.proofs.Common.{◌≡◌, ◌&&◌, ◌||◌, None, length, option_map}
use Rattle.std.specs.List.{list_all, list_any}
use Rattle.ecma_place.specs.Cursor.{rest, place}
use Rattle.ecma_grammar.specs.Templates.{is_verbatim, is_break, last_refusal}
use Rattle.ecma_template.specs.WrittenTemplates.{refused_at}
use Rattle.ecma_template.proofs.TemplatePieces.{pieces_at, behind_at}
use Rattle.ecma_template.proofs.template.survey.survey_text.Given as goal

-- what was said of the pieces so far and what is still to be said is what is said of all
abbrev pub invariant-pieces : goal.invariant-pieces
invariant-pieces l = record {
  verbatim : (l.survey.is_verbatim && list_all is_verbatim (pieces_at l.input)) ≡ list_all is_verbatim (pieces_at l.fn.input);
  line_break : (l.survey.line_break || list_any is_break (pieces_at l.input)) ≡ list_any is_break (pieces_at l.fn.input);
  refusal : last_refusal (place l.input) (option_map refused_at l.survey.refusal) (pieces_at l.input) ≡ last_refusal (place l.fn.input) None (pieces_at l.fn.input);
  behind : behind_at l.input ≡ behind_at l.fn.input;
  start : l.start.0 ≡ place l.input;
}

abbrev pub decreases-pieces : goal.decreases-pieces
decreases-pieces l = length (rest l.input)
