-- Pieces of template text that mean what is written, as a cursor passes them.
use Rattle.std.specs.Prelude.{◌≡◌, ℕ, Bool, true, List, [], ◌++◌, length, Option, Some, None, encode_utf8_all, if◌then◌else◌}
use Rattle.std.specs.List.{list_all, list_any, prefix_len}
use Rattle.ecma_place.specs.Text.{Text, count_within}
use Rattle.ecma_place.specs.Cursor.{Cursor, rest, passed}
use Rattle.ecma_place.specs.Run.{is_in_class}
use Rattle.ecma_place.specs.declared.run.ByteClass.TheVariants.{Template}
use Rattle.ecma_grammar.specs.Pieces.{pieces, spelled}
use Rattle.ecma_grammar.specs.Templates.{TemplatePiece, is_break, is_verbatim, piece_text, template_cutter}

-- such pieces stand between two cursors, and the flag says whether a line terminator is among them
pub record PassesVerbatim (flag : Bool) (old now : Cursor) : Type 0 where
  pub between : List TemplatePiece
  pub all : pieces template_cutter tt (rest old) ≡ between ++ pieces template_cutter tt (rest now)
  pub verbatim : list_all is_verbatim between ≡ true
  pub line_break : flag ≡ list_any is_break between
  pub moved : now ≡ passed (length (spelled template_cutter between)) old

-- whether a piece is a line terminator, if there is one that means what is written
abbrev pub break_if_verbatim : Option TemplatePiece → Option Bool
break_if_verbatim None = None
break_if_verbatim (Some piece) = if is_verbatim piece then Some (is_break piece) else None

-- what is written of it
abbrev pub verbatim_text : Option TemplatePiece → Text
verbatim_text None = []
verbatim_text (Some piece) = if is_verbatim piece then piece_text piece else []

-- how many characters stand in the run of bytes that template text holds as they are
abbrev pub run_length : Text → ℕ
run_length text = count_within (prefix_len (is_in_class Template) (encode_utf8_all text)) text
