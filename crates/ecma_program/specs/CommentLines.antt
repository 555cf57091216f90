-- What is written of the comments of a text: a line each. The form of the lines is our own choice.
use Rattle.std.specs.Prelude.{ℕ, true, List, [], ◌∷◌, ◌++◌, Option, codes, decimal, flat_map, option_map}
use Rattle.ecma_names.specs.Names.{comment_name, side_name}
use Rattle.ecma_state.specs.Ending.{comments_of}
use Rattle.ecma_state.specs.Session.{Session}
use Rattle.ecma_comments.specs.declared.comments_buffer.BufferedComment.{BufferedComment}
use Rattle.ecma_stdio.specs.Escaped.{escaped}
use Rattle.ecma_program.specs.Rereads.{session_behind}
use Rattle.ecma_options.specs.declared.options.Options.{Options}

-- its side, the place of its token, where it lies and its form, each with a space behind it
abbrev pub comment_head : BufferedComment → List ℕ
comment_head c =
    side_name c.kind
    ++ (codes " "
    ++ (decimal c.pos.0 ++ (codes " " ++ (decimal c.comment.span.lo.0 ++ (codes " " ++ (decimal c.comment.span.hi.0 ++ (codes " " ++ (comment_name c.comment.kind ++ codes " "))))))))

-- the line of a comment; what it says stands behind its head
abbrev pub comment_line : BufferedComment → List ℕ
comment_line c = comment_head c ++ escaped c.comment.text.bytes ++ 10 ∷ []

abbrev pub comment_lines : List BufferedComment → List ℕ
comment_lines comments = flat_map comment_line comments

-- the comments in the order in which the lexer hands them over
abbrev pub comments_from : Session → List ℕ
comments_from s = comment_lines (comments_of s)

abbrev pub comments_text : Options → List ℕ → List ℕ → Option (List ℕ)
comments_text options rereads bytes = option_map comments_from (session_behind true options rereads bytes)
