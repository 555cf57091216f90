use Rattle.std.proofs.Common.{◌≡◌, ◌++◌, length, encode_utf8_all, string_bytes}
use Rattle.ecma_place.specs.Cursor.{rest, place}
use Rattle.ecma_grammar.specs.Templates.{cooked_text}
use Rattle.ecma_template.proofs.TemplatePieces.{pieces_at}
use Rattle.ecma_template.proofs.template.cooked.cook_text.Given as goal

-- what was added and what the pieces that are left mean is what all pieces mean
abbrev pub invariant-pieces : goal.invariant-pieces
invariant-pieces l = record {
  cooked : string_bytes l.cooked ++ encode_utf8_all (cooked_text (pieces_at l.input)) ≡ encode_utf8_all (cooked_text (pieces_at l.fn.input));
  start : l.start.0 ≡ place l.input;
}

abbrev pub decreases-pieces : goal.decreases-pieces
decreases-pieces l = length (rest l.input)
