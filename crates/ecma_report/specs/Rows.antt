-- A row of a report.
use Rattle.std.specs.Prelude.{ℕ, List, [], ◌∷◌, ◌++◌, ◌||◌, Bool, false, ◌&&◌, if◌then◌else◌, length, nat_le, nat_lt, slice_index, slice_range, Option, Some, None}
use Rattle.serde_json.specs.Data.{object}
use Rattle.serde_json.specs.Written.{compact_text}
use Rattle.ecma_span.specs.declared.place.BytePos.{BytePos}
use Rattle.ecma_span.specs.declared.place.Span.{Span}
use Rattle.ecma_stdio.specs.Escaped.{escaped}
use Rattle.ecma_positions.specs.Columns.{position_by}
use Rattle.ecma_positions.specs.declared.position.Position.{Position}
use Rattle.ecma_print.specs.Rows.{MoreView, head_of, members, more_view, own_text, text_begin, text_data, text_end, text_part}
use Rattle.ecma_print.specs.declared.row.Row.{Row}
use Rattle.ecma_command.specs.declared.words.Among.{Among}
use Rattle.ecma_command.specs.declared.words.Asked.{Asked}

-- what is asked for, and how the file is written of beside others
pub record Look : Type 0 where
  pub asked : Asked
  pub among : Among

abbrev pub look : Asked → Among → Look
look asked among = record { asked = asked; among = among }

-- as the only file
abbrev pub alone : Among
alone = record { several = false; names = false }

-- the name of the file, where it is asked for
abbrev pub name_asked : Look → List ℕ → List ℕ
name_asked l file = if l.among.names then escaped file ++ 58 ∷ [] else []

-- its line and column, where they are asked for
abbrev pub place_asked : Asked → List ℕ → BytePos → Option Position
place_asked asked text place = if asked.lines then Some (position_by asked.columns text place) else None

-- a line: the name of the file, of what kind it is, where it lies, what else is told, and its text
abbrev pub line_text : Look → List ℕ → List ℕ → List ℕ → Span → MoreView → List ℕ → List ℕ
line_text l file text kind span more own = name_asked l file ++ (head_of (place_asked l.asked text span.lo) kind span more ++ own_text more own)

-- an object, or a line
abbrev pub parts_of : Look → List ℕ → List ℕ → List ℕ → Span → MoreView → List ℕ → List ℕ
parts_of l file text kind span more own =
    if l.asked.json then compact_text (object (members file (position_by l.asked.columns text span.lo) span kind own more)) else line_text l file text kind span more own

-- with the end of its line
abbrev pub row_of : Look → List ℕ → List ℕ → List ℕ → Span → MoreView → List ℕ → List ℕ
row_of l file text kind span more own = parts_of l file text kind span more own ++ 10 ∷ []

abbrev pub row_parts : Look → List ℕ → List ℕ → Row → List ℕ
row_parts l file text row = parts_of l file text row.kind.now row.span (more_view row.more) row.text.now

abbrev pub row_text : Look → List ℕ → List ℕ → Row → List ℕ
row_text l file text row = row_of l file text row.kind.now row.span (more_view row.more) row.text.now

-- a text that is written whole: its bytes, or an object in a line; of several files each text ends with a line feed
abbrev pub whole_text : Look → List ℕ → List ℕ → List ℕ
whole_text l file bytes = if l.asked.json then compact_text (text_data file bytes) ++ 10 ∷ [] else if l.among.several then bytes ++ 10 ∷ [] else bytes

-- The same in parts: what begins it, its bytes, and what ends it

abbrev pub whole_begin : Look → List ℕ → List ℕ
whole_begin l file = if l.asked.json then text_begin file else []

abbrev pub whole_part : Look → List ℕ → List ℕ
whole_part l bytes = if l.asked.json then text_part bytes else bytes

abbrev pub whole_end : Look → List ℕ
whole_end l = if l.asked.json then text_end ++ 10 ∷ [] else if l.among.several then 10 ∷ [] else []

-- The text at a span, where it begins and ends with characters

abbrev pub is_boundary : List ℕ → ℕ → Bool
is_boundary text place = nat_le place (length text) && (nat_le (length text) place || (nat_lt (slice_index text place) 128 || nat_le 192 (slice_index text place)))

abbrev pub is_part : List ℕ → Span → Bool
is_part text span = nat_le span.lo.0 span.hi.0 && (is_boundary text span.lo.0 && is_boundary text span.hi.0)

abbrev pub part_at : List ℕ → Span → List ℕ
part_at text span = if is_part text span then slice_range text span.lo.0 span.hi.0 else []
