-- How a row is written: as a JSON object, or as what comes before its text in a line.
use Rattle.std.specs.Prelude.{ℕ, List, map, if◌then◌else◌, [], ◌∷◌, ◌++◌, ◌==◌, ◌||◌, Bool, true, false, nat_lt, Option, Some, None, codes, decimal}
use Rattle.std.specs.Borrow.{Bor}
use Rattle.json.specs.Print.{escape, quoted}
use Rattle.serde_json.specs.Data.{Data, Members, unsigned, boolean, number, string, object, no_members, member}
use Rattle.ecma_span.specs.declared.place.BytePos.{BytePos}
use Rattle.ecma_span.specs.declared.place.Span.{Span}
use Rattle.ecma_positions.specs.declared.position.Position.{Position}
use Rattle.ecma_stdio.specs.Escaped.{escaped}
use Rattle.ecma_print.specs.declared.row.Imported.{Imported}
use Rattle.ecma_print.specs.declared.row.More.{More}
use Rattle.ecma_print.specs.declared.row.More.TheVariants.{Nothing, LineBreak, Valued, Message, Beside, Import, Export}
use Rattle.ecma_print.specs.declared.row.Row.{Row}
use Rattle.ecma_print.specs.Values.{ValueView, no_value, form_text, value_field, value_text, value_view, with_digits, with_flags, with_form, with_value}

abbrev pub needs_escape : ℕ → Bool
needs_escape byte = nat_lt byte 32 || (byte == 34 || byte == 92)

-- What is told besides, with texts in the place of references.

pub record ImportView : Type 0 where
  pub phase : Option (List ℕ)
  pub is_type : Bool
  pub statement : Span
  pub attributes : Option Span

pub data MoreView : Type 0 where
  nothing : MoreView
  line_break : Bool → MoreView
  valued : Bool → ValueView → MoreView
  message : MoreView
  beside_token : List ℕ → BytePos → MoreView
  imported : ImportView → MoreView
  exported : Option (List ℕ) → Bool → MoreView

-- the text behind a reference, where there is one
abbrev pub text_behind : Option (Bor (List ℕ)) → Option (List ℕ)
text_behind (Some text) = Some text.now
text_behind None = None

abbrev pub import_view : Imported → ImportView
import_view i = record { phase = text_behind i.phase; is_type = i.is_type; statement = i.statement; attributes = i.attributes }

abbrev pub more_view : More → MoreView
more_view Nothing = nothing
more_view (LineBreak flag) = line_break flag
more_view (Valued flag value) = valued flag (value_view value)
more_view Message = message
more_view (Beside side token) = beside_token side.now token
more_view (Import i) = imported (import_view i)
more_view (Export local is_type) = exported (text_behind local) is_type

-- the value of a token, where it is told
abbrev pub value_in : MoreView → ValueView
value_in (valued flag value) = value
value_in _ = no_value

-- A row as a JSON object.

abbrev pub with_line_break : MoreView → Members → Members
with_line_break (line_break flag) behind = member (codes "line_break_before") (boolean flag) behind
with_line_break (valued flag value) behind = member (codes "line_break_before") (boolean flag) behind
with_line_break _ behind = behind

-- the phase up to which a module is brought
abbrev pub phase_name : Option (List ℕ) → List ℕ
phase_name (Some phase) = phase
phase_name None = codes "evaluation"

abbrev pub with_statement : ImportView → Members → Members
with_statement i behind =
    member (codes "phase") (string (phase_name i.phase))
    (member (codes "statement_hi") (number (unsigned i.statement.hi.0))
    (member (codes "statement_lo") (number (unsigned i.statement.lo.0)) behind))

abbrev pub with_before_text : MoreView → Members → Members
with_before_text (beside_token side token) behind = member (codes "side") (string side) behind
with_before_text (imported i) behind = with_statement i behind
with_before_text (exported (Some local) is_type) behind = member (codes "local") (string local) behind
with_before_text (valued flag value) behind = with_form value behind
with_before_text _ behind = behind

abbrev pub with_attributes : Option Span → Members → Members
with_attributes (Some span) behind = member (codes "with_hi") (number (unsigned span.hi.0)) (member (codes "with_lo") (number (unsigned span.lo.0)) behind)
with_attributes None behind = behind

abbrev pub with_behind_text : MoreView → Members → Members
with_behind_text (beside_token side token) behind = member (codes "token") (number (unsigned token.0)) behind
with_behind_text (imported i) behind = member (codes "type") (boolean i.is_type) (with_attributes i.attributes behind)
with_behind_text (exported local is_type) behind = member (codes "type") (boolean is_type) behind
with_behind_text (valued flag value) behind = with_value value behind
with_behind_text _ behind = behind

-- its members, in the order of their names
abbrev pub members : List ℕ → Position → Span → List ℕ → List ℕ → MoreView → Members
members file at span kind text more =
    member (codes "column") (number (unsigned at.column))
    (with_digits (value_in more)
    (member (codes "file") (string file)
    (with_flags (value_in more)
    (member (codes "hi") (number (unsigned span.hi.0))
    (member (codes "kind") (string kind)
    (member (codes "line") (number (unsigned at.line))
    (with_line_break more
    (member (codes "lo") (number (unsigned span.lo.0))
    (with_before_text more
    (member (codes "text") (string text)
    (with_behind_text more no_members)))))))))))

abbrev pub row_data : List ℕ → Position → Row → Data
row_data file at row = object (members file at row.span row.kind.now row.text.now (more_view row.more))

-- a whole text
abbrev pub text_data : List ℕ → List ℕ → Data
text_data file text = object (member (codes "file") (string file) (member (codes "text") (string text) no_members))

-- the same in parts: what begins it, its bytes, and what ends it
abbrev pub text_begin : List ℕ → List ℕ
text_begin file = (codes "{\"file\":" ++ quoted file) ++ codes ",\"text\":\""

abbrev pub text_part : List ℕ → List ℕ
text_part bytes = escape bytes

abbrev pub text_end : List ℕ
text_end = codes "\"}"

-- the members that not each row has, as they are written behind others

abbrev pub flag_text : Bool → List ℕ
flag_text true = codes "true"
flag_text false = codes "false"

abbrev pub line_break_text : MoreView → List ℕ
line_break_text (line_break flag) = codes ",\"line_break_before\":" ++ flag_text flag
line_break_text (valued flag value) = codes ",\"line_break_before\":" ++ flag_text flag
line_break_text _ = []

abbrev pub statement_text : ImportView → List ℕ
statement_text i =
    (codes ",\"phase\":" ++ quoted (phase_name i.phase))
    ++ ((codes ",\"statement_hi\":" ++ decimal i.statement.hi.0)
    ++ (codes ",\"statement_lo\":" ++ decimal i.statement.lo.0))

abbrev pub before_text : MoreView → List ℕ
before_text (beside_token side token) = codes ",\"side\":" ++ quoted side
before_text (imported i) = statement_text i
before_text (exported (Some local) is_type) = codes ",\"local\":" ++ quoted local
before_text (valued flag value) = form_text value
before_text _ = []

abbrev pub attributes_text : Option Span → List ℕ
attributes_text (Some span) = (codes ",\"with_hi\":" ++ decimal span.hi.0) ++ (codes ",\"with_lo\":" ++ decimal span.lo.0)
attributes_text None = []

abbrev pub import_end_text : ImportView → List ℕ
import_end_text i = (codes ",\"type\":" ++ flag_text i.is_type) ++ attributes_text i.attributes

abbrev pub behind_text : MoreView → List ℕ
behind_text (beside_token side token) = codes ",\"token\":" ++ decimal token.0
behind_text (imported i) = import_end_text i
behind_text (exported local is_type) = codes ",\"type\":" ++ flag_text is_type
behind_text (valued flag value) = value_text value
behind_text _ = []

-- What comes before the text of a row in its line.

abbrev pub position_text : Option Position → List ℕ
position_text None = []
position_text (Some at) = 32 ∷ (decimal at.line ++ 58 ∷ decimal at.column)

abbrev pub between : List ℕ → List ℕ
between text = 32 ∷ (text ++ codes " ")

abbrev pub beside : List ℕ → BytePos → List ℕ
beside side token = 32 ∷ (side ++ 32 ∷ (decimal token.0 ++ codes " "))

-- types alone, or a phase other than evaluation
abbrev pub phase_mark : Option (List ℕ) → List ℕ
phase_mark (Some phase) = between phase
phase_mark None = codes " "

abbrev pub mark : ImportView → List ℕ
mark i = if i.is_type then codes " type " else phase_mark i.phase

abbrev pub local_text : Option (List ℕ) → List ℕ
local_text (Some local) = between (escaped local)
local_text None = codes " - "

abbrev pub flag_field : Bool → List ℕ
flag_field true = codes " lf "
flag_field false = codes " - "

abbrev pub more_text : MoreView → List ℕ
more_text nothing = codes " "
more_text message = codes " "
more_text (line_break flag) = flag_field flag
more_text (valued flag value) = flag_field flag ++ (value_field value ++ codes " ")
more_text (beside_token side token) = beside side token
more_text (imported i) = mark i
more_text (exported local is_type) = local_text local

-- what it is, its line and column where they are asked for, where it begins and ends, and what else is told
abbrev pub head_of : Option Position → List ℕ → Span → MoreView → List ℕ
head_of at kind span more = kind ++ (position_text at ++ 32 ∷ (decimal span.lo.0 ++ 32 ∷ (decimal span.hi.0 ++ more_text more)))

abbrev pub head : Option Position → Row → List ℕ
head at row = head_of at row.kind.now row.span (more_view row.more)

-- The text of a row in its line: a message is for people, and takes one line; any other text can be read back.

abbrev pub one_line : ℕ → ℕ
one_line byte = if byte == 10 || byte == 13 then 32 else byte

abbrev pub own_text : MoreView → List ℕ → List ℕ
own_text message own = map one_line own
own_text _ own = escaped own
