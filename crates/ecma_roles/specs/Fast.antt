-- Tokens that are taken into account before the table is asked
use Rattle.std.specs.Prelude.{◌≡◌, Bool, true, false, not, ◌&&◌, ◌||◌, Option, Some, None, if◌then◌else◌}
use Rattle.ecma_role_table.specs.declared.frame.FrameKind.{FrameKind}
use Rattle.ecma_role_table.specs.declared.frame.FrameKind.TheVariants as frame
use Rattle.ecma_role_table.specs.declared.part.PartKind.{PartKind}
use Rattle.ecma_role_table.specs.declared.part.Name.TheVariants as name
use Rattle.ecma_role_table.specs.declared.part.PartKind.TheVariants.{Name, Reserved, Sign}
use Rattle.ecma_role_table.specs.declared.part.Reserved.TheVariants as reserved
use Rattle.ecma_role_table.specs.declared.part.Sign.TheVariants as sign
use Rattle.ecma_role_table.specs.declared.state.State.{State}
use Rattle.ecma_role_table.specs.declared.state.State.TheVariants as state
use Rattle.ecma_role_moves.specs.Nest.{Nested}
use Rattle.ecma_role_tracks.specs.Track.{stepped, track}

-- a token of this kind leads from a state and what encloses the place to these
abbrev pub Takes : State → Nested → PartKind → Bool → State → Nested → Type 0
Takes state nest kind had_line_break next behind =
    (typescript : Bool) → stepped (track state nest typescript) (record { kind = kind; had_line_break = had_line_break }) ≡ track next behind typescript

-- a sign other than a colon, `<` or `<<` is read here as behind any operand
abbrev pub is_behind : State → Bool
is_behind state.Label = true
is_behind state.Group = true
is_behind state.AfterPostfix = true
is_behind other = false

abbrev pub follows : PartKind → Bool
follows (Sign sign.Colon) = false
follows (Sign sign.Lt) = false
follows (Sign sign.LShift) = false
follows (Sign s) = true
follows kind = false

abbrev pub is_after : State → Bool
is_after state.After = true
is_after other = false

abbrev pub is_complete : State → Bool
is_complete s = is_after s || is_behind s

-- behind a name that is declared a comma, a semicolon and `=` are too
abbrev pub is_declared : State → Bool
is_declared state.AfterBinding = true
is_declared other = false

abbrev pub may_go_on : State → Bool
may_go_on s = is_complete s || is_declared s

-- a right bracket may come where an operand is missing
abbrev pub is_missing : State → Bool
is_missing state.Operand = true
is_missing other = false

abbrev pub may_close : State → Bool
may_close s = is_complete s || is_missing s

-- no method's name is read
abbrev pub has_no_method : Nested → Bool
has_no_method nest = not nest.pending.is_async && not nest.pending.is_generator

-- the state behind a comma that ends nothing
abbrev pub comma_state : Option FrameKind → Option State
comma_state (Some frame.Object) = Some state.Key
comma_state (Some frame.Declaration) = Some state.Binding
comma_state (Some frame.Call) = Some state.Operand
comma_state (Some frame.Bracket) = Some state.Operand
comma_state (Some frame.Paren) = Some state.Operand
comma_state (Some frame.Parameters) = Some state.Operand
comma_state over = None

-- the state behind a right parenthesis that closes the innermost frame
abbrev pub decorates : Option FrameKind → Bool
decorates (Some frame.StatementDecorator) = true
decorates (Some frame.MemberDecorator) = true
decorates (Some frame.OperandDecorator) = true
decorates over = false

abbrev pub paren_state : Option FrameKind → Option FrameKind → Option State
paren_state (Some frame.Call) around = if decorates around then None else Some state.After
paren_state (Some frame.Parameters) around = Some state.HeadEnd
paren_state (Some frame.Control) around = Some state.Statement
paren_state (Some frame.For) around = Some state.Statement
paren_state over around = None

-- a group is right around
abbrev pub is_group : Option FrameKind → Bool
is_group (Some frame.Paren) = true
is_group over = false

-- the body that begins behind a function's head
abbrev pub body_kind : Option FrameKind → Option FrameKind
body_kind (Some frame.FunctionHead) = Some frame.Function
body_kind (Some frame.FunctionExpressionHead) = Some frame.FunctionExpression
body_kind (Some frame.MethodHead) = Some frame.Method
body_kind over = None

-- a right brace may come next
abbrev pub ends_statement : State → Bool
ends_statement state.Statement = true
ends_statement state.Key = true
ends_statement other = false

abbrev pub may_end : State → Bool
may_end s = may_close s || ends_statement s

-- the state behind a right brace that closes the innermost frame
abbrev pub brace_state : Option FrameKind → Option State
brace_state (Some frame.Block) = Some state.Statement
brace_state (Some frame.Function) = Some state.Statement
brace_state (Some frame.FunctionExpression) = Some state.After
brace_state (Some frame.Object) = Some state.After
brace_state (Some frame.ArrowBody) = Some state.ArrowEnd
brace_state over = None

-- statements are right around
abbrev pub holds_statements : Option FrameKind → Bool
holds_statements None = true
holds_statements (Some frame.Block) = true
holds_statements (Some frame.Function) = true
holds_statements (Some frame.FunctionExpression) = true
holds_statements (Some frame.Method) = true
holds_statements (Some frame.ArrowBody) = true
holds_statements over = false

-- the state behind a semicolon that ends what is right inside of this frame
abbrev pub semicolon_state : Option FrameKind → Option State
semicolon_state (Some frame.For) = Some state.Operand
semicolon_state over = if holds_statements over then Some state.Statement else None

-- the state behind a colon that ends what is right inside of this frame
abbrev pub colon_state : Option FrameKind → Option State
colon_state (Some frame.Conditional) = Some state.Operand
colon_state (Some frame.Case) = Some state.Statement
colon_state over = None

-- something is declared
abbrev pub declares : Option FrameKind → Bool
declares (Some frame.Declaration) = true
declares over = false

-- an operator between two operands that is no bracket of types
abbrev pub is_operator : PartKind → Bool
is_operator (Sign sign.Operator) = true
is_operator (Sign sign.Star) = true
is_operator (Sign sign.Minus) = true
is_operator (Sign sign.BitOr) = true
is_operator (Sign sign.BitAnd) = true
is_operator kind = false

abbrev pub is_word : PartKind → Bool
is_word (Name n) = true
is_word (Reserved r) = true
is_word (Sign s) = false

-- an operand by itself
abbrev pub is_operand : PartKind → Bool
is_operand (Name name.Async) = false
is_operand (Name name.Await) = false
is_operand (Name name.Yield) = false
is_operand (Name n) = true
is_operand (Reserved reserved.This) = true
is_operand (Reserved reserved.Constant) = true
is_operand (Reserved reserved.Super) = true
is_operand (Sign sign.Literal) = true
is_operand kind = false

-- an operator before an operand that is a word
abbrev pub is_prefix : PartKind → Bool
is_prefix (Reserved reserved.Typeof) = true
is_prefix (Reserved reserved.Void) = true
is_prefix (Reserved reserved.Delete) = true
is_prefix (Reserved reserved.New) = true
is_prefix kind = false
