-- A track of tokens: what is expected behind them, and how one more changes that
use Rattle.std.specs.Prelude.{ℕ, zero, suc, ◌≡◌, ◌++◌, Bool, true, false, ◌&&◌, List, [], Option, Some, None, if◌then◌else◌}
use Rattle.std.specs.List.{fold}
use Rattle.ecma_role_table.specs.declared.part.Part.{Part}
use Rattle.ecma_role_table.specs.declared.part.PartKind.{PartKind}
use Rattle.ecma_role_table.specs.declared.part.PartKind.TheVariants.{Name, Reserved, Sign}
use Rattle.ecma_role_table.specs.declared.part.Name.TheVariants as name
use Rattle.ecma_role_table.specs.declared.part.Reserved.TheVariants as reserved
use Rattle.ecma_role_table.specs.declared.part.Sign.TheVariants as sign
use Rattle.ecma_role_table.specs.declared.frame.FrameKind.{FrameKind}
use Rattle.ecma_role_table.specs.declared.frame.FrameKind.TheVariants as frame
use Rattle.ecma_role_table.specs.declared.frame.Kinds.TheVariants as kinds
use Rattle.ecma_role_table.specs.declared.state.State.{State}
use Rattle.ecma_role_table.specs.declared.state.State.TheVariants as state
use Rattle.ecma_role_table.specs.declared.moves.Turn.{Turn}
use Rattle.ecma_role_table.specs.declared.moves.Turn.TheVariants.{Again, Done}
use Rattle.ecma_role_table.specs.declared.table.Seen.{Seen}
use Rattle.ecma_role_table.specs.Frames.{over_async_candidate}
use Rattle.ecma_role_moves.specs.Moves.{Turned, moved}
use Rattle.ecma_role_moves.specs.Nest.{Nested, nested, dropped, function, top, turned, under}
use Rattle.ecma_role_table.specs.Table.{row}

pub record TrackView : Type 0 where
  pub state : State
  pub nest : Nested
  pub typescript : Bool

abbrev pub track : State → Nested → Bool → TrackView
track state nest typescript = record { state = state; nest = nest; typescript = typescript }

-- before the first token of a module or script
abbrev pub first : Bool → Bool → TrackView
first typescript is_module = track state.Statement (nested [] (function is_module) (function false)) typescript

-- a token that no type argument holds, behind `<` that may have begun some
abbrev pub ends_candidates : Bool → PartKind → Bool
ends_candidates had_line_break (Name name.As) = true
ends_candidates had_line_break (Name name.Satisfies) = true
ends_candidates had_line_break (Name n) = had_line_break
ends_candidates had_line_break (Reserved reserved.In) = true
ends_candidates had_line_break (Reserved reserved.InstanceOf) = true
ends_candidates had_line_break (Reserved reserved.Extends) = false
ends_candidates had_line_break (Reserved r) = had_line_break
ends_candidates had_line_break (Sign sign.Star) = true
ends_candidates had_line_break (Sign sign.Minus) = true
ends_candidates had_line_break (Sign sign.Assign) = true
ends_candidates had_line_break (Sign sign.Operator) = true
ends_candidates had_line_break (Sign sign.RShiftEq) = true
ends_candidates had_line_break (Sign sign.ZeroFillRShiftEq) = true
ends_candidates had_line_break (Sign sign.QuestionMark) = true
ends_candidates had_line_break (Sign sign.Semi) = true
ends_candidates had_line_break (Sign sign.Update) = true
ends_candidates had_line_break (Sign sign.Tilde) = true
ends_candidates had_line_break (Sign sign.Bang) = true
ends_candidates had_line_break (Sign sign.LParen) = true
ends_candidates had_line_break (Sign s) = false

-- with this frame around: behind `async <` a type parameter may have a default
abbrev pub is_equals : PartKind → Bool
is_equals (Sign sign.Assign) = true
is_equals kind = false

abbrev pub ends_over : Option FrameKind → Bool → PartKind → Bool
ends_over over had_line_break kind = if is_equals kind && over_async_candidate over then false else ends_candidates had_line_break kind

-- parentheses of a type that begin as a pattern does are parameters where the pattern ends so, else a group
abbrev pub behind_pattern : PartKind → Nested → Nested
behind_pattern (Sign sign.LBracket) nest = nest
behind_pattern (Sign sign.LBrace) nest = nest
behind_pattern (Sign sign.RParen) nest = nest
behind_pattern (Sign sign.Colon) nest = turned frame.OuterParameters nest
behind_pattern (Sign sign.Comma) nest = turned frame.OuterParameters nest
behind_pattern (Sign sign.QuestionMark) nest = turned frame.OuterParameters nest
behind_pattern (Sign sign.Assign) nest = turned frame.OuterParameters nest
behind_pattern kind nest = turned frame.OuterParen nest

abbrev pub pattern_over : Option FrameKind → PartKind → Nested → Nested
pattern_over (Some frame.OuterPattern) kind nest = behind_pattern kind nest
pattern_over over kind nest = nest

-- what is decided before the row is looked up
abbrev pub readied : State → PartKind → Bool → Nested → Nested
readied state.After kind had_line_break nest = if ends_over (top nest) had_line_break kind then dropped kinds.Candidates nest else nest
readied state.TypeBrackets kind had_line_break nest = pattern_over (top nest) kind nest
readied other kind had_line_break nest = nest

abbrev pub seen : Bool → Bool → Nested → Seen
seen had_line_break typescript nest = record { had_line_break = had_line_break; typescript = typescript; around = nest.around; method = nest.pending; top = top nest; under = under nest }

-- a token of this kind, read once in the state of a track
abbrev pub read_in : State → PartKind → Bool → Bool → Nested → Turned
read_in state kind had_line_break typescript nest = moved (row state kind (seen had_line_break typescript nest)) kind nest

unfoldable pub read_once : TrackView → PartKind → Bool → Turned
read_once t kind had_line_break = read_in t.state kind had_line_break t.typescript (readied t.state kind had_line_break t.nest)

-- a track, and what is left of the token that is read
pub record Reading : Type 0 where
  pub track : TrackView
  pub left : Option PartKind

abbrev pub reading : TrackView → Option PartKind → Reading
reading t left = record { track = t; left = left }

abbrev pub read_on : Turn → Nested → Bool → Reading
read_on (Done state) nest typescript = reading (track state nest typescript) None
read_on (Again state kind) nest typescript = reading (track state nest typescript) (Some kind)

abbrev pub after_turn : Turned → Bool → Reading
after_turn t typescript = read_on t.turn t.nest typescript

abbrev pub read_left : Bool → TrackView → Option PartKind → Reading
read_left had_line_break t None = reading t None
read_left had_line_break t (Some kind) = after_turn (read_once t kind had_line_break) t.typescript

-- so many times
unfoldable pub read_times : ℕ → Bool → Reading → Reading
read_times zero had_line_break r = r
read_times (suc n) had_line_break r = read_times n had_line_break (read_left had_line_break r.track r.left)

-- the track behind one token more; each time that a token is read again that is in a state of lower rank, so that eight
-- times are enough
abbrev pub stepped : TrackView → Part → TrackView
stepped t part = (read_times 8 part.had_line_break (reading t (Some part.kind))).track

-- the track behind tokens, the first of them first
abbrev pub tracked : TrackView → List Part → TrackView
tracked t parts = fold stepped t parts

-- the track of the tokens that a module or script begins with
abbrev pub track_of : Bool → Bool → List Part → TrackView
track_of typescript is_module parts = tracked (first typescript is_module) parts

-- tokens behind tokens go on from the track of those
abbrev pub TracksGoOn : Type 0
TracksGoOn = (t : TrackView) (xs ys : List Part) → tracked t (xs ++ ys) ≡ tracked (tracked t xs) ys
