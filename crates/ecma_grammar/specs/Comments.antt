-- The comments of a gap (ECMA-262 Comment, 12.4), and which of them are for the next token, which is our own choice.
use Rattle.std.specs.Prelude.{◌≡◌, ◌≤◌, ℕ, ◌+◌, Bool, true, false, not, ◌&&◌, ◌||◌, ◌==◌, List, [], ◌∷◌, ◌++◌, length, drop, Option, Some, None, encode_utf8_all, if◌then◌else◌}
use Rattle.std.specs.List.{list_all}
use Rattle.ecma_place.specs.Text.{Text, byte_len}
use Rattle.ecma_place.specs.Atom.{borrowed_atom}
use Rattle.ecma_place.specs.Character.{is_white_space}
use Rattle.ecma_place.specs.declared.comment.Comment.{Comment}
use Rattle.ecma_place.specs.declared.comment.CommentKind.{CommentKind}
use Rattle.ecma_place.specs.declared.comment.CommentKind.TheVariants.{Line, Block}
use Rattle.ecma_token.specs.Questions.{can_have_trailing_comment, can_have_trailing_line_comment}
use Rattle.ecma_token.specs.declared.kind.TokenKind.{TokenKind}
use Rattle.ecma_grammar.specs.declared.gap_mode.GapMode.{GapMode}
use Rattle.ecma_grammar.specs.Cutters.{ReadsInOrder}
use Rattle.ecma_grammar.specs.Found.{span_of}
use Rattle.ecma_grammar.specs.Fronts.{after, next_is}
use Rattle.ecma_grammar.specs.Gaps.{Element, Blank, LineComment, BlockComment, OpenComment, HtmlOpening, HtmlClosing, Marker, element_text, end_of, flag_behind, gap, gap_cutter, gap_spelling}
use Rattle.ecma_grammar.specs.Pieces.{spelled}

-- The comment of an element

-- how many characters of a marker stand before its comment, and how many of its line before the comment's text
abbrev pub marker_margin : ℕ → ℕ
marker_margin c = if c == 61 || c == 62 then 3 else 2

abbrev pub marker_text : ℕ → Text → Text
marker_text c line = if c == 62 then drop 1 line else line

abbrev pub comment_between : CommentKind → ℕ → ℕ → Text → List Comment
comment_between kind low high text =
    record { kind = kind; span = span_of low high; text = borrowed_atom (encode_utf8_all text) } ∷ []

-- the comment of an element at n, if it has one; a block comment without its end gives none
abbrev pub comment_of : ℕ → Element → List Comment
comment_of n (Blank c) = []
comment_of n (LineComment line) = comment_between Line n (end_of n (LineComment line)) line
comment_of n (BlockComment body) = comment_between Block n (end_of n (BlockComment body)) body
comment_of n (OpenComment body) = []
comment_of n (HtmlOpening line) = comment_between Line (n + 1) (end_of n (HtmlOpening line)) line
comment_of n (HtmlClosing line) = comment_between Line (n + 3) (end_of n (HtmlClosing line)) line
comment_of n (Marker c line) = comment_between Line (n + marker_margin c) (end_of n (Marker c line)) (marker_text c line)

-- For which token a comment is

-- a semicolon follows behind white space alone
abbrev pub semicolon_follows : Text → Bool
semicolon_follows text = next_is 59 (after is_white_space text)

-- a line comment can be the previous token's, also where there is none
abbrev pub can_trail_line : Option TokenKind → Bool
can_trail_line None = true
can_trail_line (Some kind) = can_have_trailing_line_comment kind

-- a block comment can be the previous token's
abbrev pub can_trail_block : Option TokenKind → Bool
can_trail_block None = false
can_trail_block (Some kind) = can_have_trailing_comment kind

-- A comment belongs to the token ahead if the flag is set where it begins, or if the token before can have none.
-- A block comment before a semicolon never is.
abbrev pub is_for_next : Option TokenKind → Bool → Bool → CommentKind → Bool
is_for_next prev flag semicolon Line = flag || not (can_trail_line prev)
is_for_next prev flag semicolon Block = (flag || not (can_trail_block prev)) && not semicolon

-- comments, each with whether it is for the next token, where the text stands behind them
abbrev pub paired : Option TokenKind → Bool → Text → List Comment → List (Comment × Bool)
paired prev flag text [] = []
paired prev flag text (comment ∷ more) =
    (comment, is_for_next prev flag (semicolon_follows text) comment.kind) ∷ paired prev flag text more

-- what stands behind the element with which a text begins
abbrev pub behind_element : Element → Text → Text
behind_element e text = drop (length (element_text e)) text

-- the comments of elements at n with which a text begins, in order
abbrev pub comments_of : Option TokenKind → Bool → ℕ → List Element → Text → List (Comment × Bool)
comments_of prev flag n [] text = []
comments_of prev flag n (e ∷ es) text =
    paired prev flag (behind_element e text) (comment_of n e)
    ++ comments_of prev (flag_behind flag e) (end_of n e) es (behind_element e text)

abbrev pub collected : {A : Type 0} → Bool → List A → List A
collected true comments = comments
collected false comments = []

-- the comments of the gap with which a text at the place n begins, where they are collected
abbrev pub comments_at : ℕ → GapMode → Text → List (Comment × Bool)
comments_at n mode text = collected mode.collect (comments_of mode.prev mode.first n (gap mode text) text)

-- each comment begins where the one before ends or behind, and they lie between two places
abbrev pub LieBetween : ℕ → ℕ → List (Comment × Bool) → Type 0
LieBetween low high [] = low ≤ high
LieBetween low high (c ∷ more) = (low ≤ c.0.span.lo.0) × (c.0.span.lo.0 ≤ c.0.span.hi.0) × LieBetween c.0.span.hi.0 high more

abbrev pub is_blank : Element → Bool
is_blank (Blank c) = true
is_blank (LineComment line) = false
is_blank (BlockComment body) = false
is_blank (OpenComment body) = false
is_blank (HtmlOpening line) = false
is_blank (HtmlClosing line) = false
is_blank (Marker c line) = false

-- Laws

-- A semicolon follows a comment where the elements behind it are white space alone and the semicolon stands behind the gap.
abbrev pub SemicolonFollows : Type 0
SemicolonFollows =
    (mode : GapMode) (flag : Bool) (es : List Element) (text : Text) → ReadsInOrder (gap_cutter mode) flag es text
    → semicolon_follows (spelled (gap_cutter mode) es ++ text) ≡ (list_all is_blank es && next_is 59 text)

-- The comments lie in the gap, in order.
abbrev pub CommentsLieInOrder : Type 0
CommentsLieInOrder =
    (n : ℕ) (mode : GapMode) (text : Text) → LieBetween n (n + byte_len (gap_spelling mode text)) (comments_at n mode text)
