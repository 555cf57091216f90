-- What is written of the pieces that cover a text: a line each. The form of the lines is our own choice.
use Rattle.std.specs.Prelude.{ℕ, true, List, ◌++◌, Option, codes, decimal, flat_map, length, option_map}
use Rattle.ecma_classes.specs.Classes.{classes_of}
use Rattle.ecma_state.specs.Ending.{read_out}
use Rattle.ecma_state.specs.Session.{Session, kept_tokens}
use Rattle.ecma_classes.specs.declared.piece.Piece.{Piece}
use Rattle.ecma_program.specs.Rereads.{session_behind}
use Rattle.ecma_names.specs.Names.{piece_name}
use Rattle.ecma_options.specs.declared.options.Options.{Options}

-- where the piece begins and ends, and its class
abbrev pub piece_line : Piece → List ℕ
piece_line p = decimal p.span.lo.0 ++ (codes " " ++ (decimal p.span.hi.0 ++ (codes " " ++ (piece_name p.class ++ codes "\n"))))

abbrev pub piece_lines : List Piece → List ℕ
piece_lines pieces = flat_map piece_line pieces

-- the pieces of the tokens and comments that the reads have come to
abbrev pub pieces_at : List ℕ → Session → List Piece
pieces_at bytes s = classes_of 0 (length bytes) (kept_tokens s) s.comments

abbrev pub pieces_from : List ℕ → Session → List Piece
pieces_from bytes s = pieces_at bytes (read_out s)

abbrev pub text_pieces : Options → List ℕ → List ℕ → Option (List Piece)
text_pieces options rereads bytes = option_map (pieces_from bytes) (session_behind true options rereads bytes)

abbrev pub classes_text : Options → List ℕ → List ℕ → Option (List ℕ)
classes_text options rereads bytes = option_map piece_lines (text_pieces options rereads bytes)
