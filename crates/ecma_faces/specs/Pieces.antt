-- Rows of the pieces of a text.
use Rattle.std.specs.Prelude.{ℕ, List, flat_map, length, true}
use Rattle.ecma_state.specs.Session.{Session, kept_tokens}
use Rattle.ecma_classes.specs.Classes.{classes_of}
use Rattle.ecma_classes.specs.declared.piece.Piece.{Piece}
use Rattle.ecma_names.specs.Names.{piece_name}
use Rattle.ecma_print.specs.Rows.{nothing}
use Rattle.ecma_report.specs.Rows.{Look, part_at, row_of}
use Rattle.ecma_report.specs.Runs.{read_to}
use Rattle.ecma_command.specs.declared.words.Named.{Named}

abbrev pub piece_row : Look → List ℕ → List ℕ → Piece → List ℕ
piece_row l file text piece = row_of l file text (piece_name piece.«class») piece.span nothing (part_at text piece.span)

abbrev pub piece_rows : Look → List ℕ → List ℕ → List Piece → List ℕ
piece_rows l file text pieces = flat_map (piece_row l file text) pieces

-- the pieces of a text that tokens and comments stand for, and what is left between them
abbrev pub pieces_behind : List ℕ → Session → List Piece
pieces_behind text s = classes_of 0 (length text) (kept_tokens s) s.comments

-- those of a text, read as it is asked for
abbrev pub pieces_by : Named → Look → List ℕ → List Piece
pieces_by named l text = pieces_behind text (read_to true named l text)
