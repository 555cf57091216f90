-- Whether a slash begins a regular expression (ECMA-262, 12.1), by what is expected
use Rattle.std.specs.Prelude.{Bool, true, false, ◌||◌, Option, Some, slice_get, if◌then◌else◌}
use Rattle.ecma_role_table.specs.declared.frame.FrameKind.{FrameKind}
use Rattle.ecma_role_table.specs.declared.frame.FrameKind.TheVariants as frame
use Rattle.ecma_role_table.specs.declared.frame.Kinds.TheVariants as kinds
use Rattle.ecma_role_table.specs.declared.state.State.{State}
use Rattle.ecma_role_table.specs.declared.state.State.TheVariants as state
use Rattle.ecma_role_moves.specs.Nest.{Nested, kind_in, outside, top}
use Rattle.ecma_role_tracks.specs.Track.{TrackView}

-- a statement has to begin behind what is declared with a type and no initializer, and behind an alias
abbrev pub annotates_statement : Option FrameKind → Bool
annotates_statement (Some frame.Declaration) = true
annotates_statement (Some frame.FunctionHead) = true
annotates_statement over = false

abbrev pub type_ends_statement : Option FrameKind → Option FrameKind → Bool
type_ends_statement (Some frame.AliasType) over = true
type_ends_statement (Some frame.Annotation) over = annotates_statement over
type_ends_statement mark over = false

abbrev pub behind_type : Nested → Bool
behind_type nest = type_ends_statement (kind_in (slice_get (outside kinds.TypeConditions nest.frames) 0)) (kind_in (slice_get (outside kinds.TypeConditions nest.frames) 1))

abbrev pub over_function_head : Option FrameKind → Bool
over_function_head (Some frame.FunctionHead) = true
over_function_head over = false

-- a head, a member, a key, a template or what is in the brackets of a type is read, where no operand begins
abbrev pub takes_none : State → Bool
takes_none state.Label = true
takes_none state.MaybeLet = true
takes_none state.MaybeType = true
takes_none state.MaybeInterface = true
takes_none state.ImportStart = true
takes_none state.Member = true
takes_none state.MemberAsync = true
takes_none state.Key = true
takes_none state.KeyAsync = true
takes_none state.KeyCommaName = true
takes_none state.KeyCommaParameter = true
takes_none state.AfterDecorator = true
takes_none state.Quasi = true
takes_none state.TypeParen = true
takes_none state.TypeParenName = true
takes_none state.TypeBrackets = true
takes_none other = false

-- an operand is complete, whatever encloses the place
abbrev pub completes : State → Bool
completes state.After = true
completes state.AfterPostfix = true
completes state.Group = true
completes state.GroupParameters = true
completes state.AsyncGroup = true
completes state.AsyncGroupParameters = true
completes state.Async = true
completes state.AsyncStatement = true
completes state.AsyncAs = true
completes state.AsyncParameter = true
completes state.ImportExpression = true
completes state.Property = true
completes state.OptionalProperty = true
completes other = false

-- a type is read that may end
abbrev pub may_end_type : State → Bool
may_end_type state.TypeOperand = true
may_end_type state.TypeName = true
may_end_type state.TypeEnd = true
may_end_type state.TypeParameters = true
may_end_type state.Asserts = true
may_end_type state.TypeProperty = true
may_end_type other = false

-- behind what may be type arguments a slash divides, and `/=` begins an operand: `f<T> /= x/` compares twice
abbrev pub expects_otherwise : State → Nested → Bool → Bool
expects_otherwise state.TypeArguments nest is_assign = is_assign
expects_otherwise state.HeadEnd nest is_assign = over_function_head (top nest)
expects_otherwise other nest is_assign = true

-- a slash alone, or with `=` behind it
abbrev pub expects_in : State → Nested → Bool → Bool
expects_in state nest is_assign = if takes_none state || completes state then false else if may_end_type state then behind_type nest else expects_otherwise state nest is_assign

abbrev pub expects_operand : TrackView → Bool → Bool
expects_operand t is_assign = expects_in t.state t.nest is_assign
