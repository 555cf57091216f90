-- The classes of a run's tokens: each by what stands beside it, and by a track of the tokens.
use Rattle.std.specs.Prelude.{true, List, [], ◌∷◌, ◌++◌, Option, Some, None, if◌then◌else◌}
use Rattle.ecma_token.specs.declared.kind.TokenKind.{TokenKind}
use Rattle.ecma_state.specs.declared.kept.Kept.{Kept}
use Rattle.ecma_classes.specs.Classes.{holds_byte}
use Rattle.ecma_role_table.specs.Parts.{part_of}
use Rattle.ecma_role_moves.specs.Nest.{top}
use Rattle.ecma_roles.specs.Track.{TrackView, first, stepped}
use Rattle.ecma_styles.specs.declared.beside.Beside.{Beside}
use Rattle.ecma_styles.specs.declared.«class».Class.{Class}
use Rattle.ecma_styles.specs.Roles.{class_at}

-- the kind of the first token, if no line terminator comes before it
abbrev pub next_kind : List Kept → Option TokenKind
next_kind [] = None
next_kind (k ∷ ks) = if k.flag then None else Some k.kind

-- the track behind one token more
abbrev pub behind : TrackView → Kept → TrackView
behind t k = stepped t (part_of k.kind k.flag)

-- what stands beside a token, before which and behind which there are these tracks
abbrev pub beside : TrackView → TrackView → Option TokenKind → Option TokenKind → Kept → List Kept → Beside
beside t u earlier previous k ks =
    record { before = t.state; behind = u.state; over = top u.nest; earlier = earlier; previous = previous; flag = k.flag; next = next_kind ks }

-- the classes of tokens that hold a byte, in order, behind others: their track, and the kinds of the last two
abbrev pub classes_behind : TrackView → Option TokenKind → Option TokenKind → List Kept → List (Option Class)
classes_behind t earlier previous [] = []
classes_behind t earlier previous (k ∷ ks) =
    (if holds_byte k.span then class_at k.kind (beside t (behind t k) earlier previous k ks) ∷ [] else [])
    ++ classes_behind (behind t k) previous (Some k.kind) ks

-- the track begins as that of a module in TypeScript, whatever the text is
abbrev pub token_classes : List Kept → List (Option Class)
token_classes kept = classes_behind (first true true) None None kept
