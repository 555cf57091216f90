-- Rows of tokens.
use Rattle.std.specs.Prelude.{ℕ, List, [], ◌∷◌, ◌++◌, Option, Some, None, codes, false}
use Rattle.ecma_token.specs.View.{SpannedView}
use Rattle.ecma_token.specs.declared.kind.TokenKind.{TokenKind}
use Rattle.ecma_state.specs.Session.{Session, kept_of}
use Rattle.ecma_options.specs.Begin.{begin}
use Rattle.ecma_styles.specs.Styles.{class_name, class_of}
use Rattle.ecma_styles.specs.declared.«class».Class.{Class}
use Rattle.ecma_report.specs.Rows.{Look, part_at, row_of}
use Rattle.ecma_faces.specs.Values.{told}
use Rattle.ecma_command.specs.declared.words.Asked.{Asked}

-- the class of a token, or that it is a punctuator
abbrev pub name_of : Option Class → List ℕ
name_of (Some c) = class_name c
name_of None = codes "punctuator"

-- what a row says that a token of this kind is, behind one of a kind where there is one
abbrev pub kind_name : TokenKind → Option TokenKind → List ℕ
kind_name kind previous = name_of (class_of kind previous)

abbrev pub token_row : Look → List ℕ → List ℕ → Option TokenKind → SpannedView → List ℕ
token_row l file text previous t = row_of l file text (kind_name (kept_of t).kind previous) t.span (told l.asked.values t) (part_at text t.span)

-- the rows of tokens, one behind the other
abbrev pub token_rows : Look → List ℕ → List ℕ → Option TokenKind → List SpannedView → List ℕ
token_rows l file text previous [] = []
token_rows l file text previous (t ∷ ts) = token_row l file text previous t ++ token_rows l file text (Some (kept_of t).kind) ts

-- the kind of the last of them
abbrev pub kind_behind : Option TokenKind → List SpannedView → Option TokenKind
kind_behind previous [] = previous
kind_behind previous (t ∷ ts) = kind_behind (Some (kept_of t).kind) ts

-- where the reading of a text begins, as it is asked for
abbrev pub begun : Asked → List ℕ → Session
begun asked text = begin false asked.options text
