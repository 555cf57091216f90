-- Comments of reads that were read by hand, and where they belong.
use Rattle.std.proofs.Common.{◌≡◌, ℕ, Bool, true, false, [], ◌∷◌, Option, Some, None, refl}
use Rattle.std.specs.Prelude.{codes, encode_utf8_all}
use Rattle.ecma_span.specs.Atom.{borrowed_atom}
use Rattle.ecma_span.specs.declared.comment.Comment.{Comment}
use Rattle.ecma_span.specs.declared.comment.CommentKind.{CommentKind}
use Rattle.ecma_span.specs.declared.comment.CommentKind.TheVariants.{Line, Block}
use Rattle.ecma_span.specs.declared.place.BytePos.{BytePos}
use Rattle.ecma_token.specs.declared.kind.TokenKind.{TokenKind}
use Rattle.ecma_token.specs.declared.kind.TokenKind.TheVariants.{BinOp, RParen, Semi, Shebang}
use Rattle.ecma_syntax.specs.declared.operator.BinOpToken.TheVariants.{Add}
use Rattle.ecma_grammar.specs.Comments.{is_for_next}
use Rattle.ecma_grammar.specs.Found.{span_of}
use Rattle.ecma_state.specs.Attachment.{attachment, attached}
use Rattle.ecma_comments.specs.declared.attachment.Around.{Around}
use Rattle.ecma_comments.specs.declared.comments_buffer.BufferedComment.{BufferedComment}
use Rattle.ecma_comments.specs.declared.comments_buffer.BufferedCommentKind.{BufferedCommentKind}
use Rattle.ecma_comments.specs.declared.comments_buffer.BufferedCommentKind.TheVariants.{Leading, Trailing}

abbrev pos : ℕ → BytePos
pos n = record { 0 = n }

-- the places of a read, in a text from 0 on, behind a token that ends there: a token starts there, or none comes
abbrev before : ℕ → ℕ → Around
before end next = record { start = pos 0; end = pos end; next = Some (pos next) }

abbrev ending : ℕ → Around
ending end = record { start = pos 0; end = pos end; next = None }

abbrev comment : CommentKind → ℕ → ℕ → Comment
comment kind lo hi = record { kind = kind; span = span_of lo hi; text = borrowed_atom (encode_utf8_all (codes "c")) }

-- a comment of a gap, behind a token of this kind, where the flag stands (or not) at its start, and a semicolon follows
-- (or not)
abbrev found : CommentKind → ℕ → ℕ → Bool → Option TokenKind → Bool → Comment × Bool
found kind lo hi flag previous semicolon = (comment kind lo hi, is_for_next previous flag semicolon kind)

abbrev placed : BufferedCommentKind → ℕ → CommentKind → ℕ → ℕ → BufferedComment
placed kind at of lo hi = attached kind (pos at) (comment of lo hi)

-- `/**/a`
before_the_first : attachment (before 0 4) (found Block 0 4 true None false ∷ []) ≡ placed Leading 4 Block 0 4 ∷ []
before_the_first = refl

-- `f() /*a*/ //b`: the block comment waits and stands last
at_the_end : attachment (ending 3) (found Block 4 9 false (Some RParen) false ∷ found Line 10 13 false (Some RParen) false ∷ []) ≡ placed Trailing 3 Line 10 13 ∷ placed Trailing 3 Block 4 9 ∷ []
at_the_end = refl

-- `a`, LF, `-->x`, LF, `b`
behind_a_line : attachment (before 1 7) (found Line 5 6 true (Some RParen) false ∷ []) ≡ placed Leading 7 Line 5 6 ∷ []
behind_a_line = refl

-- `a; /*b*/ c`
behind_a_semicolon : attachment (before 2 9) (found Block 3 8 false (Some Semi) false ∷ []) ≡ placed Trailing 2 Block 3 8 ∷ []
behind_a_semicolon = refl

-- `a + /*b*/;`
before_a_semicolon : attachment (before 3 9) (found Block 4 9 false (Some (BinOp Add)) true ∷ []) ≡ placed Trailing 3 Block 4 9 ∷ []
before_a_semicolon = refl

-- `/*a*/`: with no token at all the comment leads the start
alone : attachment (ending 0) (found Block 0 5 true None false ∷ []) ≡ placed Leading 0 Block 0 5 ∷ []
alone = refl

-- `#!x`, LF, `//c`
behind_a_shebang : attachment (ending 3) (found Line 4 7 true (Some Shebang) false ∷ []) ≡ placed Trailing 3 Line 4 7 ∷ []
behind_a_shebang = refl
