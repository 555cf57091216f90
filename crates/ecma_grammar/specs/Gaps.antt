-- Gaps (ECMA-262 WhiteSpace, LineTerminator and Comment, 12.2 to 12.4; HTML-like comments, Annex B.1.1): what stands
-- before a token. Conflict markers, and which spans faults have, are our own choice.
use Rattle.std.specs.Prelude.{◌≡◌, ◌≤◌, ℕ, ◌+◌, Bool, true, false, not, ◌&&◌, ◌||◌, ◌==◌, List, [], ◌∷◌, ◌++◌, map, codes, replicate, length, drop, Option, Some, None, option_map, unwrap_or, if◌then◌else◌}
use Rattle.std.specs.List.{list_any, list_all}
use Rattle.ecma_place.specs.Text.{Text, byte_len}
use Rattle.ecma_place.specs.Character.{is_white_space, is_line_terminator}
use Rattle.ecma_token.specs.View.{plain_kind}
use Rattle.ecma_token.specs.declared.error.SyntaxError.{SyntaxError, UnterminatedBlockComment, LegacyCommentInModule, TS1185}
use Rattle.ecma_grammar.specs.declared.found.Blame.{Blame}
use Rattle.ecma_grammar.specs.declared.found.Blame.TheVariants.{Always, Module}
use Rattle.ecma_grammar.specs.declared.gap_mode.GapMode.{GapMode}
use Rattle.ecma_grammar.specs.Found.{Fault, span_of, fault_behind}
use Rattle.ecma_grammar.specs.Fronts.{in_line, line, begins_with, next_is, next_passes}
use Rattle.ecma_grammar.specs.Pieces.{Cutter, pieces, spelled, state_behind, remainder, Tiled}

-- an element of a gap
pub data Element : Type 0 where
  -- one white space character (12.2) or line terminator (12.3)
  Blank : ℕ → Element
  -- what follows `//` in its line (SingleLineComment, 12.4)
  LineComment : Text → Element
  -- what stands between `/*` and the first `*/` (MultiLineComment, 12.4)
  BlockComment : Text → Element
  -- what follows a `/*` that no `*/` ends
  OpenComment : Text → Element
  -- what follows `<!--` in its line (SingleLineHTMLOpenComment, B.1.1)
  HtmlOpening : Text → Element
  -- what follows `-->` in its line (SingleLineHTMLCloseComment, B.1.1)
  HtmlClosing : Text → Element
  -- which character stands seven times, and what follows in the line
  Marker : ℕ → Text → Element

-- an element is a whole text
abbrev pub element_text : Element → Text
element_text (Blank c) = c ∷ []
element_text (LineComment line) = codes "//" ++ line
element_text (BlockComment body) = codes "/*" ++ (body ++ codes "*/")
element_text (OpenComment body) = codes "/*" ++ body
element_text (HtmlOpening line) = codes "<!--" ++ line
element_text (HtmlClosing line) = codes "-->" ++ line
element_text (Marker c line) = replicate 7 c ++ line

-- Which element begins a text

-- up to the first `*/`, if there is one
abbrev pub comment_body : Text → Option Text
comment_body [] = None
comment_body (c ∷ cs) = if begins_with (codes "*/") (c ∷ cs) then Some [] else option_map (λ body. c ∷ body) (comment_body cs)

-- up to the first `*/` or the end
abbrev pub body_before : Text → Text
body_before text = unwrap_or (comment_body text) text

-- the comment whose `/*` stands before the text, by its body
abbrev pub block_of : Option Text → Text → Element
block_of (Some body) text = BlockComment body
block_of None text = OpenComment text

-- which characters make a marker, and before what: `=`, and outside of types `<` and `>` before a space
abbrev pub marks : Bool → ℕ → Text → Bool
marks type_mode c text = c == 61 || (((c == 60 || c == 62) && not type_mode) && next_is 32 text)

-- the text begins with a marker of this character
abbrev pub is_marker : Bool → ℕ → Text → Bool
is_marker type_mode c text = begins_with (replicate 7 c) text && marks type_mode c (drop 7 text)

abbrev pub marker : Bool → Text → Option Element
marker type_mode [] = None
marker type_mode (c ∷ cs) = if is_marker type_mode c (c ∷ cs) then Some (Marker c (line (drop 6 cs))) else None

-- what begins a text only where the flag stands: no token came before, or a line terminator stands before
abbrev pub flagged_element : Bool → Text → Option Element
flagged_element type_mode text =
    if begins_with (codes "-->") text then Some (HtmlClosing (line (drop 3 text))) else marker type_mode text

-- an HTML-like comment or a marker
abbrev pub special_element : Bool → Bool → Text → Option Element
special_element type_mode flag text =
    if begins_with (codes "<!--") text && not type_mode then Some (HtmlOpening (line (drop 4 text)))
    else (if flag then flagged_element type_mode text
    else None)

-- white space, a line comment or a block comment, else what is given
abbrev pub common_or : ℕ → Text → Option Element → Option Element
common_or c cs otherwise =
    if is_white_space c then Some (Blank c)
    else (if begins_with (codes "//") (c ∷ cs) then Some (LineComment (line (drop 1 cs)))
    else (if begins_with (codes "/*") (c ∷ cs) then Some (block_of (comment_body (drop 1 cs)) (drop 1 cs))
    else otherwise))

-- the element with which a text begins, where the flag stands or not
abbrev pub element : GapMode → Bool → Text → Option Element
element mode flag [] = None
element mode flag (c ∷ cs) = common_or c cs (special_element mode.type_mode flag (c ∷ cs))

-- the flag behind an element: a line terminator sets it, in a comment too (12.4)
abbrev pub flag_behind : Bool → Element → Bool
flag_behind flag e = flag || list_any is_line_terminator (element_text e)

-- where an element that stands at n ends
abbrev pub end_of : ℕ → Element → ℕ
end_of n e = n + byte_len (element_text e)

abbrev pub gap_cutter : GapMode → Cutter Bool Element
gap_cutter mode = record { read = element mode; spelling = element_text; next = flag_behind }

-- The gap

-- as many elements as there are
abbrev pub elements : GapMode → Text → List Element
elements mode text = pieces (gap_cutter mode) mode.first text

-- where space is kept, a gap that is not empty has a marker or an HTML-like comment in front
abbrev pub elements_if : Option Element → GapMode → Text → List Element
elements_if None mode text = []
elements_if (Some e) mode text = elements mode text

-- no gap stands before the text of a template
abbrev pub elements_under : Bool → Bool → GapMode → Text → List Element
elements_under true keeps_space mode text = []
elements_under false true mode text = elements_if (special_element mode.type_mode mode.first text) mode text
elements_under false false mode text = elements mode text

-- the elements of the gap with which a text begins
abbrev pub gap : GapMode → Text → List Element
gap mode text = elements_under mode.template mode.keeps_space mode text

-- the text of the gap, and what follows it
abbrev pub gap_spelling : GapMode → Text → Text
gap_spelling mode text = spelled (gap_cutter mode) (gap mode text)

abbrev pub behind_gap : GapMode → Text → Text
behind_gap mode text = drop (length (gap_spelling mode text)) text

-- whether no token came before, or a line terminator stands in the gap
abbrev pub has_line_break : GapMode → Text → Bool
has_line_break mode text = mode.first || list_any is_line_terminator (gap_spelling mode text)

-- What is wrong in a gap

abbrev pub fault_between : Blame → SyntaxError → ℕ → ℕ → Fault
fault_between blame kind low high = record { blame = blame; error = record { kind = plain_kind kind; span = span_of low high } }

-- HTML-like comments count in module code only (B.1)
abbrev pub legacy_comment : ℕ → ℕ → List Fault
legacy_comment low high = fault_between Module LegacyCommentInModule low high ∷ []

-- what is said of an element alone, behind n bytes
abbrev pub element_faults : ℕ → Element → List Fault
element_faults n (Blank c) = []
element_faults n (LineComment line) = []
element_faults n (BlockComment body) = []
element_faults n (OpenComment body) = fault_between Always UnterminatedBlockComment n (end_of n (OpenComment body)) ∷ []
element_faults n (HtmlOpening line) = []
element_faults n (HtmlClosing line) = legacy_comment n (n + 3)
element_faults n (Marker c line) = fault_between Always TS1185 n (n + 7) ∷ []

-- white space, line comments and block comments: the fault of a `<!--` reaches over those right behind it
abbrev pub is_common : Element → Bool
is_common (Blank c) = true
is_common (LineComment line) = true
is_common (BlockComment body) = true
is_common (OpenComment body) = true
is_common (HtmlOpening line) = false
is_common (HtmlClosing line) = false
is_common (Marker c line) = false

-- the fault of a `<!--` at `low` that reaches up to n, if one is still to come
abbrev pub pending_fault : Option ℕ → ℕ → List Fault
pending_fault None n = []
pending_fault (Some low) n = legacy_comment low n

-- where the `<!--` stands whose fault is still to come behind an element at n
abbrev pub pending_behind : Option ℕ → ℕ → Element → Option ℕ
pending_behind pending n (Blank c) = pending
pending_behind pending n (LineComment line) = pending
pending_behind pending n (BlockComment body) = pending
pending_behind pending n (OpenComment body) = pending
pending_behind pending n (HtmlOpening line) = Some n
pending_behind pending n (HtmlClosing line) = None
pending_behind pending n (Marker c line) = None

-- the faults of elements behind n bytes, in order: that of a `<!--` comes after those of what it reaches over
abbrev pub faults_of : Option ℕ → ℕ → List Element → List Fault
faults_of pending n [] = pending_fault pending n
faults_of pending n (e ∷ es) =
    (if is_common e then [] else pending_fault pending n)
    ++ (element_faults n e ++ faults_of (pending_behind pending n e) (end_of n e) es)

-- the faults of the gap with which a text at the place n begins
abbrev pub gap_faults_at : ℕ → GapMode → Text → List Fault
gap_faults_at n mode text = faults_of None n (gap mode text)

-- the same, counted from the gap's first byte
abbrev pub gap_faults : GapMode → Text → List Fault
gap_faults mode text = gap_faults_at 0 mode text

-- a character with which no element begins, whatever follows
abbrev pub is_inert : ℕ → Bool
is_inert c = not (((((is_white_space c || c == 47) || c == 60) || c == 45) || c == 61) || c == 62)

-- The same by rules, one for each element

-- all characters up to the line terminator with which the rest begins, or up to the end
abbrev pub IsLine : Text → Text → Type 0
IsLine line rest = (list_all in_line line ≡ true) × (next_passes in_line rest ≡ false)

-- the text holds `*/` at its end at most
abbrev pub HoldsEndAtEnd : Text → Type 0
HoldsEndAtEnd text = (before behind : Text) → text ≡ before ++ (codes "*/" ++ behind) → behind ≡ []

abbrev pub HoldsNoEnd : Text → Type 0
HoldsNoEnd text = (before behind : Text) → text ≡ before ++ (codes "*/" ++ behind) → ⊥

-- what makes a text an element before the rest, where the flag stands or not
abbrev pub IsElement : Bool → Bool → Element → Text → Type 0
IsElement type_mode flag (Blank c) rest = is_white_space c ≡ true
IsElement type_mode flag (LineComment line) rest = IsLine line rest
IsElement type_mode flag (BlockComment body) rest = HoldsEndAtEnd (body ++ codes "*/")
IsElement type_mode flag (OpenComment body) rest = HoldsNoEnd body × (rest ≡ [])
IsElement type_mode flag (HtmlOpening line) rest = (type_mode ≡ false) × IsLine line rest
IsElement type_mode flag (HtmlClosing line) rest = (flag ≡ true) × IsLine line rest
IsElement type_mode flag (Marker c line) rest = (flag ≡ true) × (marks type_mode c line ≡ true) × IsLine line rest

-- elements in a row before the rest, behind which no element stands
abbrev pub AreElements : GapMode → Bool → List Element → Text → Type 0
AreElements mode flag [] rest = (e : Element) (more : Text) → rest ≡ element_text e ++ more → IsElement mode.type_mode flag e more → ⊥
AreElements mode flag (e ∷ es) rest =
    IsElement mode.type_mode flag e (spelled (gap_cutter mode) es ++ rest) × AreElements mode (flag_behind flag e) es rest

-- Laws

-- The elements of a text are as the rules say, and are the only ones that are so.
abbrev pub ElementsAreRuled : Type 0
ElementsAreRuled =
    (mode : GapMode) (text : Text)
    → AreElements mode mode.first (elements mode text) (remainder (gap_cutter mode) mode.first text)
    × ((es : List Element) (rest : Text) → AreElements mode mode.first es rest → elements mode (spelled (gap_cutter mode) es ++ rest) ≡ es)

-- The elements and what follows them are the text, and no element begins what follows.
abbrev pub GapTiles : Type 0
GapTiles = (mode : GapMode) (text : Text) → Tiled (gap_cutter mode) mode.first text

-- In every mode the gap and what follows it are the text.
abbrev pub GapIsFront : Type 0
GapIsFront = (mode : GapMode) (text : Text) → gap_spelling mode text ++ behind_gap mode text ≡ text

-- The gap's flag is the one that stands behind its last element.
abbrev pub FlagIsBehind : Type 0
FlagIsBehind = (mode : GapMode) (text : Text) → has_line_break mode text ≡ state_behind (gap_cutter mode) mode.first (gap mode text)

-- A block comment ends at the first `*/`: where one stands in the text the body ends no later.
abbrev pub CommentBodyIsFirst : Type 0
CommentBodyIsFirst =
    (before behind : Text)
    → (body rest : Text) × (comment_body (before ++ (codes "*/" ++ behind)) ≡ Some body)
    × (body ++ (codes "*/" ++ rest) ≡ before ++ (codes "*/" ++ behind))
    × (length body ≤ length before)

-- No element begins a text whose first character is inert.
abbrev pub NoElement : Type 0
NoElement = (mode : GapMode) (flag : Bool) (c : ℕ) (cs : Text) → is_inert c ≡ true → element mode flag (c ∷ cs) ≡ None

-- Before a text that begins no element the gap is empty.
abbrev pub NothingIsTheGap : Type 0
NothingIsTheGap = (mode : GapMode) (text : Text) → element mode mode.first text ≡ None → gap mode text ≡ []

-- A space before a text that begins no element is the whole gap, and the flag stands as before.
abbrev pub SpaceIsTheGap : Type 0
SpaceIsTheGap =
    (mode : GapMode) (text : Text) → mode.template ≡ false → mode.keeps_space ≡ false → element mode mode.first text ≡ None
    → (gap mode (32 ∷ text) ≡ Blank 32 ∷ []) × (has_line_break mode (32 ∷ text) ≡ mode.first)

-- A line feed before a text that begins no element under a standing flag is the whole gap, and the flag stands.
abbrev pub LineFeedIsTheGap : Type 0
LineFeedIsTheGap =
    (mode : GapMode) (text : Text) → mode.template ≡ false → mode.keeps_space ≡ false → element mode true text ≡ None
    → (gap mode (10 ∷ text) ≡ Blank 10 ∷ []) × (has_line_break mode (10 ∷ text) ≡ true)

-- The faults of a gap are the same wherever it stands.
abbrev pub GapFaultsMove : Type 0
GapFaultsMove = (n : ℕ) (mode : GapMode) (text : Text) → map (fault_behind n) (gap_faults mode text) ≡ gap_faults_at n mode text
