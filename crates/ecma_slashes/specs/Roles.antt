-- What the tokens so far say of a slash that comes next: whether an operand is expected, which a regular expression may be.
use Rattle.std.specs.Prelude.{Bool, true, false, List, [], ◌∷◌, Option, Some, None, map, reverse}
use Rattle.ecma_syntax.specs.Questions.{typescript}
use Rattle.ecma_word.specs.declared.operator.AssignOp.TheVariants.{DivAssign}
use Rattle.ecma_token.specs.Kinds.{kind_of}
use Rattle.ecma_token.specs.View.{SpannedView}
use Rattle.ecma_token.specs.declared.kind.TokenKind.{TokenKind}
use Rattle.ecma_token.specs.declared.kind.TokenKind.TheVariants.{AssignOp}
use Rattle.ecma_role_table.specs.Parts.{part_of}
use Rattle.ecma_role_table.specs.declared.part.Part.{Part}
use Rattle.ecma_roles.specs.Track as tracks
use Rattle.ecma_roles.specs.Track.{TrackView}
use Rattle.ecma_state.specs.Session.{Session, kept_back}

-- the tokens that are kept, in order
abbrev pub tokens_kept : Session → List SpannedView
tokens_kept s = reverse (kept_back s.past)

-- that which a read found, or none
abbrev pub tokens_found : Option SpannedView → List SpannedView
tokens_found None = []
tokens_found (Some t) = t ∷ []

-- what is seen of a token
abbrev pub part_in : SpannedView → Part
part_in t = part_of (kind_of t.token) t.had_line_break

-- the track behind tokens, in the language and goal of a session
abbrev pub tracked_in : Session → List SpannedView → TrackView
tracked_in s tokens = tracks.track_of (typescript s.settings.syntax) s.context.«module» (map part_in tokens)

-- behind those that the session keeps
abbrev pub track_of : Session → TrackView
track_of s = tracked_in s (tokens_kept s)

-- `/=`, and no `/`
abbrev pub is_assign_kind : TokenKind → Bool
is_assign_kind (AssignOp DivAssign) = true
is_assign_kind other = false

abbrev pub is_assign : Option SpannedView → Bool
is_assign None = false
is_assign (Some t) = is_assign_kind (kind_of t.token)
