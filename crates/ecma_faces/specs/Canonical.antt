-- The tokens of a text joined while they are read.
use Rattle.std.specs.Prelude.{◌≡◌, ◌<◌, ◌≤◌, ◌^◌, ℕ, Bool, not, List, [], ◌∷◌, ◌++◌, Option, Some, None}
use Rattle.ecma_token.specs.Kinds.{kind_of}
use Rattle.ecma_token.specs.View.{SpannedView}
use Rattle.ecma_token.specs.declared.kind.TokenKind.{TokenKind}
use Rattle.ecma_state.specs.Session.{kept_of}
use Rattle.ecma_state.specs.State.{is_error}
use Rattle.ecma_joined.specs.Clean.{is_clean}
use Rattle.ecma_options.specs.Begin.{whole}
use Rattle.ecma_reader.specs.Rereads.{SlashRule}
use Rattle.ecma_joined.specs.Joined.{between_behind}
use Rattle.ecma_report.specs.Rows.{Look, part_at}
use Rattle.ecma_faces.specs.Whole.{plainly, steps_by}

-- the characters of a token, behind one of a kind where there is one, with what comes between
abbrev pub joined_one : List ℕ → Option TokenKind → SpannedView → List ℕ
joined_one text before t = between_behind before (kept_of t) ++ part_at text t.span

-- those of tokens, one behind the other
abbrev pub joined : List ℕ → Option TokenKind → List SpannedView → List ℕ
joined text before [] = []
joined text before (t ∷ ts) = joined_one text before t ++ joined text (Some (kept_of t).kind) ts

-- so many bytes, where these are fewer than 2^32
abbrev pub Counted : Option ℕ → ℕ → Type 0
Counted (Some n) total = (n ≡ total) × (n < 2 ^ 32)
Counted None total = 2 ^ 32 ≤ total

-- a token is no error
abbrev pub has_no_error : SpannedView → Bool
has_no_error t = not (is_error (kind_of t.token))

-- a text is read cleanly as it is asked for, its slashes by this rule
abbrev pub reads_clean : SlashRule → Look → List ℕ → Bool
reads_clean rule l text = is_clean (plainly l) (whole text) (steps_by rule l text)
