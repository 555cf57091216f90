-- What is written of the tokens of a text: a line each. The form of the lines is our own choice.
use Rattle.std.specs.Prelude.{ℕ, Bool, true, false, List, [], ◌∷◌, ◌++◌, Option, option_map, map, flat_map, codes, decimal, slice_range}
use Rattle.ecma_token.specs.KindNames.{kind_name}
use Rattle.ecma_state.specs.declared.kept.Kept.{Kept}
use Rattle.ecma_state.specs.Session.{Session, kept_of}
use Rattle.ecma_state.specs.Ending.{tokens_of}
use Rattle.ecma_options.specs.declared.options.Options.{Options}
use Rattle.ecma_program.specs.Rereads.{session_behind}
use Rattle.ecma_stdio.specs.Escaped.{escaped}

-- whether a line terminator stands before
abbrev pub flag_text : Bool → List ℕ
flag_text true = codes "lf"
flag_text false = codes "-"

-- where the token begins and ends, its flag and its kind, each with a space behind it
abbrev pub head : Kept → List ℕ
head t =
    decimal t.span.lo.0 ++ (codes " " ++ (decimal t.span.hi.0 ++ (codes " " ++ (flag_text t.flag ++ (codes " " ++ (kind_name t.kind ++ codes " "))))))

-- the line of a token of the text with these bytes
abbrev pub line : List ℕ → Kept → List ℕ
line bytes t = head t ++ escaped (slice_range bytes t.span.lo.0 t.span.hi.0) ++ 10 ∷ []

abbrev pub lines : List ℕ → List Kept → List ℕ
lines bytes tokens = flat_map (line bytes) tokens

-- what is written of the tokens of a text that is read on from a session
abbrev pub tokens_from : List ℕ → Session → List ℕ
tokens_from bytes s = lines bytes (map kept_of (tokens_of s))

-- what is written of the tokens of a text, some of which are read again
abbrev pub tokens_text : Options → List ℕ → List ℕ → Option (List ℕ)
tokens_text options rereads bytes = option_map (tokens_from bytes) (session_behind false options rereads bytes)
