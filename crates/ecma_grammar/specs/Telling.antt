-- What the elements of a gap tell of, said of the elements themselves: which comments they are (ECMA-262 Comment, 12.4,
-- B.1.1; those of markers, and where a comment begins, are our own choice), and in which order their faults come, which
-- is our own choice too.
use Rattle.std.specs.Prelude.{◌≡◌, ◌⊎◌, ⊤, ℕ, ◌+◌, Bool, true, not, List, [], ◌∷◌, ◌++◌, map, Option, None, encode_utf8_all}
use Rattle.std.specs.List.{list_all}
use Rattle.ecma_place.specs.Text.{Text}
use Rattle.ecma_place.specs.Atom.{borrowed_atom}
use Rattle.ecma_place.specs.declared.comment.Comment.{Comment}
use Rattle.ecma_place.specs.declared.comment.CommentKind.{CommentKind}
use Rattle.ecma_place.specs.declared.comment.CommentKind.TheVariants.{Line, Block}
use Rattle.ecma_token.specs.declared.kind.TokenKind.{TokenKind}
use Rattle.ecma_grammar.specs.declared.gap_mode.GapMode.{GapMode}
use Rattle.ecma_grammar.specs.Comments.{comments_of, marker_margin, marker_text}
use Rattle.ecma_grammar.specs.Found.{Fault}
use Rattle.ecma_grammar.specs.Gaps.{Element, Blank, LineComment, BlockComment, OpenComment, HtmlOpening, HtmlClosing, Marker, element_faults, end_of, faults_of, gap, gap_faults_at, is_common, legacy_comment}

-- Elements in a row from a place on, each with the place where it stands

abbrev pub placed : ℕ → List Element → List (ℕ × Element)
placed n [] = []
placed n (e ∷ es) = (n, e) ∷ placed (end_of n e) es

abbrev pub row_end : ℕ → List Element → ℕ
row_end n [] = n
row_end n (e ∷ es) = row_end (end_of n e) es

-- Their comments

-- a comment is of this kind, reaches from one place up to another, and says this text, a slice of the source
pub record Says (kind : CommentKind) (low high : ℕ) (text : Text) (comment : Comment) : Type 0 where
  pub is : comment.kind ≡ kind
  pub begins : comment.span.lo.0 ≡ low
  pub ends : comment.span.hi.0 ≡ high
  pub says : comment.text ≡ borrowed_atom (encode_utf8_all text)

-- The comment is the one of the element at n: it reaches up to the element's end. White space has none, and neither
-- has a `/*` that no `*/` ends.
abbrev pub IsOf : ℕ → Element → Comment → Type 0
IsOf n (Blank c) comment = ⊥
IsOf n (LineComment line) comment = Says Line n (end_of n (LineComment line)) line comment
IsOf n (BlockComment body) comment = Says Block n (end_of n (BlockComment body)) body comment
IsOf n (OpenComment body) comment = ⊥
IsOf n (HtmlOpening line) comment = Says Line (n + 1) (end_of n (HtmlOpening line)) line comment
IsOf n (HtmlClosing line) comment = Says Line (n + 3) (end_of n (HtmlClosing line)) line comment
IsOf n (Marker c line) comment = Says Line (n + marker_margin c) (end_of n (Marker c line)) (marker_text c line) comment

abbrev pub HasNone : Element → Type 0
HasNone (Blank c) = ⊤
HasNone (LineComment line) = ⊥
HasNone (BlockComment body) = ⊥
HasNone (OpenComment body) = ⊤
HasNone (HtmlOpening line) = ⊥
HasNone (HtmlClosing line) = ⊥
HasNone (Marker c line) = ⊥

-- Comments are those of the elements: one of each that has one, in order, and no other.
abbrev pub AreOf : List (ℕ × Element) → List Comment → Type 0
AreOf [] comments = comments ≡ []
AreOf (at ∷ more) comments =
    (HasNone at.1 × AreOf more comments)
    ⊎ ((first : Comment) × (others : List Comment) × (comments ≡ first ∷ others) × IsOf at.0 at.1 first × AreOf more others)

-- Their faults

-- what is said of each alone, in order
abbrev pub own_faults : List (ℕ × Element) → List Fault
own_faults [] = []
own_faults (at ∷ more) = element_faults at.0 at.1 ++ own_faults more

-- there is none, or the first is neither white space nor a line or block comment
abbrev pub begins_uncommon : List Element → Bool
begins_uncommon [] = true
begins_uncommon (e ∷ es) = not (is_common e)

-- elements hold a `<!--`, behind which these white space characters, line and block comments stand, as many as there
-- are, and then these others
pub record HoldsOpening (es before : List Element) (line : Text) (common behind : List Element) : Type 0 where
  pub order : es ≡ before ++ HtmlOpening line ∷ (common ++ behind)
  pub all_common : list_all is_common common ≡ true
  pub no_more : begins_uncommon behind ≡ true

-- the faults of elements at n that hold a `<!--`, which stands at `low`, and behind whose white space, line and block
-- comments `high` is
abbrev pub faults_around : ℕ → ℕ → ℕ → List Element → Text → List Element → List Element → List Fault
faults_around n low high before line common behind =
    faults_of None n before
    ++ (own_faults (placed (end_of low (HtmlOpening line)) common)
    ++ (legacy_comment low high ++ faults_of None high behind))

-- Laws

-- The comments of elements in a row are told by the elements alone.
abbrev pub ElementsTell : Type 0
ElementsTell =
    (prev : Option TokenKind) (flag : Bool) (n : ℕ) (es : List Element) (text : Text)
    → AreOf (placed n es) (map (λ c. c.0) (comments_of prev flag n es text))

-- The fault of a `<!--` comes right behind the faults of the white space, line and block comments that stand directly
-- behind it, and before those of all that follows; it reaches from the `<!--` over these.
abbrev pub OpeningFaultIsNext : Type 0
OpeningFaultIsNext =
    (n : ℕ) (mode : GapMode) (text : Text) (before : List Element) (line : Text) (common behind : List Element)
    → HoldsOpening (gap mode text) before line common behind
    → gap_faults_at n mode text
    ≡ faults_around n (row_end n before) (row_end n (before ++ HtmlOpening line ∷ common)) before line common behind
