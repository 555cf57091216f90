-- What a row of the table says to do: changes of what encloses the place, and the shared moves
use Rattle.std.specs.Prelude.{ℕ, ◌+◌, Bool, true, false, ◌&&◌, ◌||◌, Option, Some, None, if◌then◌else◌}
use Rattle.ecma_role_table.specs.declared.part.PartKind.{PartKind}
use Rattle.ecma_role_table.specs.declared.part.PartKind.TheVariants.{Sign}
use Rattle.ecma_role_table.specs.declared.part.Sign.TheVariants as sign
use Rattle.ecma_role_table.specs.declared.frame.FrameKind.{FrameKind}
use Rattle.ecma_role_table.specs.declared.frame.FrameKind.TheVariants as frame
use Rattle.ecma_role_table.specs.declared.frame.Kinds.TheVariants as kinds
use Rattle.ecma_role_table.specs.declared.state.State.{State}
use Rattle.ecma_role_table.specs.declared.state.State.TheVariants as state
use Rattle.ecma_role_table.specs.declared.moves.Angles.{Angles}
use Rattle.ecma_role_table.specs.declared.moves.Angles.TheVariants as angles
use Rattle.ecma_role_table.specs.declared.moves.Grouping.{Grouping}
use Rattle.ecma_role_table.specs.declared.moves.Grouping.TheVariants as grouping
use Rattle.ecma_role_table.specs.declared.moves.Change.{Change}
use Rattle.ecma_role_table.specs.declared.moves.Change.TheVariants as change
use Rattle.ecma_role_table.specs.declared.moves.Move.{Move}
use Rattle.ecma_role_table.specs.declared.moves.Move.TheVariants as move
use Rattle.ecma_role_table.specs.declared.moves.Turn.{Turn}
use Rattle.ecma_role_table.specs.declared.moves.Turn.TheVariants.{Again, Done}
use Rattle.ecma_role_table.specs.Frames.{is_template, over_candidate, over_parameters_candidate}
use Rattle.ecma_role_moves.specs.Nest.{Nested, dropped, function, gains_async, gains_generator, async_function, kind_at, loses_async, module_code, no_function, pending, popped, popped_times, pushed, top, turned, under, within}

-- what a move leaves
pub record Turned : Type 0 where
  pub turn : Turn
  pub nest : Nested

abbrev pub turned_to : Turn → Nested → Turned
turned_to turn nest = record { turn = turn; nest = nest }

-- a state, and what encloses the place there
pub record Landed : Type 0 where
  pub state : State
  pub nest : Nested

abbrev pub landed : State → Nested → Landed
landed state nest = record { state = state; nest = nest }

abbrev pub done : Landed → Turned
done l = turned_to (Done l.state) l.nest

abbrev pub again : PartKind → Landed → Turned
again kind l = turned_to (Again l.state kind) l.nest

-- Changes

-- a function's head: within it, the function around is the one that begins
abbrev pub entered : FrameKind → Bool → Nested → Nested
entered kind is_async nest = within (function is_async) (pushed kind nest)

-- a method's head and its parameters: the function around is the method whose name was read
abbrev pub method : Nested → Nested
method nest = pushed frame.Parameters (pending no_function (within nest.pending (pushed frame.MethodHead nest)))

-- a static block: `await` is a keyword in it (ECMA-262, 15.7.1)
abbrev pub static_block : Nested → Nested
static_block nest = pending no_function (within async_function (pushed frame.Static nest))

abbrev pub object : Nested → Nested
object nest = pending no_function (pushed frame.Object nest)

-- an arrow function: a second one right behind the first takes its place
abbrev pub arrow_over : Option FrameKind → Nested → Nested
arrow_over (Some frame.Arrow) nest = nest
arrow_over over nest = pushed frame.Arrow nest

abbrev pub arrow : Bool → Nested → Nested
arrow is_async nest = within (function is_async) (arrow_over (top nest) nest)

-- parentheses with nothing before their end are parameters
abbrev pub parameters_over : Option FrameKind → Nested → Nested
parameters_over (Some frame.Paren) nest = turned frame.ParenParameters nest
parameters_over (Some frame.AsyncParen) nest = turned frame.AsyncParenParameters nest
parameters_over over nest = nest

abbrev pub parameters : Nested → Nested
parameters nest = parameters_over (top nest) nest

unfoldable pub changed : Change → Nested → Nested
changed change.Nothing nest = nest
changed (change.Push kind) nest = pushed kind nest
changed (change.PushTwo outer inner) nest = pushed inner (pushed outer nest)
changed (change.Enter kind is_async) nest = entered kind is_async nest
changed change.Pop nest = popped nest
changed (change.Turn kind) nest = turned kind nest
changed change.Method nest = method nest
changed change.Static nest = static_block nest
changed change.Object nest = object nest
changed (change.Arrow is_async) nest = arrow is_async nest
changed change.Parameters nest = parameters (dropped kinds.Marks nest)
changed change.DropCandidates nest = dropped kinds.Candidates nest
changed change.DropCandidatesClear nest = dropped kinds.Candidates (pending no_function nest)
changed change.ClearPending nest = pending no_function nest
changed change.PendAsync nest = pending (gains_async nest.pending) nest
changed change.PendGenerator nest = pending (gains_generator nest.pending) nest
changed change.PendNameAsync nest = pending async_function nest
changed change.LoseAsync nest = pending (loses_async nest.pending) nest
changed change.Generator nest = within (gains_generator nest.around) nest
changed change.ModuleCode nest = module_code nest
changed change.ImportEnds nest = module_code (popped nest)

-- States by the innermost frame

-- behind a head's brackets or a member's key
abbrev pub back_of : Option FrameKind → State
back_of (Some frame.Class) = state.Member
back_of (Some frame.ClassExpression) = state.Member
back_of (Some frame.Object) = state.Key
back_of (Some frame.Enum) = state.Key
back_of (Some frame.FunctionHead) = state.Head
back_of (Some frame.FunctionExpressionHead) = state.Head
back_of (Some frame.MethodHead) = state.Head
back_of (Some frame.ClassHead) = state.ClassHead
back_of (Some frame.ClassExpressionHead) = state.ClassHead
back_of (Some frame.AliasHead) = state.AliasHead
back_of (Some frame.InterfaceHead) = state.InterfaceHead
back_of (Some frame.ImportHead) = state.Import
back_of (Some frame.ExportHead) = state.ExportEnd
back_of (Some frame.StatementDecorator) = state.AfterDecorator
back_of (Some frame.MemberDecorator) = state.AfterDecorator
back_of (Some frame.OperandDecorator) = state.AfterDecorator
back_of over = state.After

-- where something new may begin
abbrev pub fresh_of : Option FrameKind → State
fresh_of None = state.Statement
fresh_of (Some frame.Block) = state.Statement
fresh_of (Some frame.Function) = state.Statement
fresh_of (Some frame.FunctionExpression) = state.Statement
fresh_of (Some frame.Method) = state.Statement
fresh_of (Some frame.ArrowBody) = state.Statement
fresh_of (Some frame.Static) = state.Statement
fresh_of (Some frame.Class) = state.Member
fresh_of (Some frame.ClassExpression) = state.Member
fresh_of (Some frame.Object) = state.Key
fresh_of (Some frame.Enum) = state.Key
fresh_of over = state.Operand

-- in the brackets of a type
abbrev pub in_type : Option FrameKind → Bool
in_type (Some frame.InnerParen) = true
in_type (Some frame.InnerBracket) = true
in_type (Some frame.InnerBrace) = true
in_type (Some frame.InnerAngle) = true
in_type (Some frame.InnerTemplate) = true
in_type (Some frame.OuterParen) = true
in_type (Some frame.OuterPattern) = true
in_type (Some frame.OuterParameters) = true
in_type (Some frame.OuterBracket) = true
in_type (Some frame.OuterBrace) = true
in_type (Some frame.OuterAngle) = true
in_type (Some frame.OuterTemplate) = true
in_type (Some frame.ParametersAngle) = true
in_type (Some frame.OperandAngle) = true
in_type (Some frame.HeadAngle) = true
in_type (Some frame.ArgumentsAngle) = true
in_type (Some frame.AsyncAngle) = true
in_type (Some frame.Interface) = true
in_type over = false

-- Shared moves

abbrev pub fresh : Nested → Landed
fresh nest = landed (fresh_of (top (dropped kinds.Marks nest))) (dropped kinds.Marks nest)

abbrev pub operand_for_member : State → State
operand_for_member state.Member = state.Operand
operand_for_member state.Key = state.Operand
operand_for_member other = other

abbrev pub operand_for_key : State → State
operand_for_key state.Key = state.Operand
operand_for_key other = other

abbrev pub fresh_as : (State → State) → Nested → Landed
fresh_as change nest = landed (change (fresh nest).state) (fresh nest).nest

-- a word that begins statements and nothing else is an operand where only an operand may begin
abbrev pub word_turned : State → PartKind → Nested → Turned
word_turned state.Operand kind nest = turned_to (Done state.Operand) nest
word_turned other kind nest = turned_to (Again other kind) nest

abbrev pub fresh_word : PartKind → Nested → Turned
fresh_word kind nest = word_turned (fresh nest).state kind (fresh nest).nest

-- a right brace closes the nearest brace, and a substitution goes back to its template
abbrev pub behind_clause : Option FrameKind → State
behind_clause (Some frame.ImportHead) = state.Import
behind_clause (Some frame.ExportHead) = state.ExportEnd
behind_clause over = state.Statement

abbrev pub behind_brace : FrameKind → Option FrameKind → State
behind_brace frame.FunctionExpression over = state.After
behind_brace frame.ClassExpression over = state.After
behind_brace frame.Object over = state.After
behind_brace frame.Method over = back_of over
behind_brace frame.Static over = state.Member
behind_brace frame.ArrowBody over = state.ArrowEnd
behind_brace frame.Clause over = behind_clause over
behind_brace frame.InnerBrace over = state.TypeBrackets
behind_brace frame.OuterBrace over = state.TypeEnd
behind_brace kind over = state.Statement

abbrev pub brace_of : FrameKind → Nested → Landed
brace_of kind nest = if is_template kind then landed state.Quasi nest else landed (behind_brace kind (top (popped nest))) (popped nest)

abbrev pub brace_over : Option FrameKind → Nested → Landed
brace_over None nest = landed state.Statement nest
brace_over (Some kind) nest = brace_of kind nest

abbrev pub brace : Nested → Landed
brace nest = brace_over (top (dropped kinds.InsideBraces nest)) (dropped kinds.InsideBraces nest)

-- behind parentheses; those of a decorator end an operand of it
abbrev pub decorating : Option FrameKind → State → State
decorating (Some frame.StatementDecorator) other = state.AfterDecorator
decorating (Some frame.MemberDecorator) other = state.AfterDecorator
decorating (Some frame.OperandDecorator) other = state.AfterDecorator
decorating over other = other

-- what closes nothing is passed over
abbrev pub unclosed : Nested → Landed
unclosed nest = landed (if in_type (top nest) then state.TypeBrackets else state.After) nest

-- behind parentheses of a type that look like a pattern: they are parameters, but a group where the type of what an arrow function
-- returns ends, since its arrow follows
abbrev pub pattern_end : Option FrameKind → State
pattern_end (Some frame.ReturnType) = state.TypeEnd
pattern_end (Some frame.AsyncReturnType) = state.TypeEnd
pattern_end over = state.TypeParameters

abbrev pub paren_over : Option FrameKind → Nested → Landed
paren_over (Some frame.Paren) nest = landed (decorating (top (popped nest)) state.Group) (popped nest)
paren_over (Some frame.ParenParameters) nest = landed state.GroupParameters (popped nest)
paren_over (Some frame.AsyncParen) nest = landed state.AsyncGroup (popped nest)
paren_over (Some frame.AsyncParenParameters) nest = landed state.AsyncGroupParameters (popped nest)
paren_over (Some frame.Call) nest = landed (decorating (top (popped nest)) state.After) (popped nest)
paren_over (Some frame.Parameters) nest = landed state.HeadEnd (popped nest)
paren_over (Some frame.Control) nest = landed state.Statement (popped nest)
paren_over (Some frame.For) nest = landed state.Statement (popped nest)
paren_over (Some frame.InnerParen) nest = landed state.TypeBrackets (popped nest)
paren_over (Some frame.OuterParen) nest = landed state.TypeEnd (popped nest)
paren_over (Some frame.OuterPattern) nest = landed (pattern_end (top (popped nest))) (popped nest)
paren_over (Some frame.OuterParameters) nest = landed state.TypeParameters (popped nest)
paren_over over nest = unclosed nest

abbrev pub paren : Nested → Landed
paren nest = paren_over (top (dropped kinds.MarksAndAngles nest)) (dropped kinds.MarksAndAngles nest)

abbrev pub bracket_over : Option FrameKind → Nested → Landed
bracket_over (Some frame.Bracket) nest = landed state.After (popped nest)
bracket_over (Some frame.Computed) nest = landed (back_of (top (popped nest))) (popped nest)
bracket_over (Some frame.InnerBracket) nest = landed state.TypeBrackets (popped nest)
bracket_over (Some frame.OuterBracket) nest = landed state.TypeEnd (popped nest)
bracket_over over nest = unclosed nest

abbrev pub bracket : Nested → Landed
bracket nest = bracket_over (top (dropped kinds.MarksAndAngles nest)) (dropped kinds.MarksAndAngles nest)

-- a semicolon ends a statement or a member; in the head of a `for` an operand may follow
abbrev pub semi_at : State → Nested → Landed
semi_at state.Member nest = landed state.Member (pending no_function nest)
semi_at state.Operand nest = landed (if in_type (top nest) then state.TypeBrackets else state.Operand) nest
semi_at other nest = landed other nest

abbrev pub semi : Nested → Landed
semi nest = semi_at (fresh nest).state (fresh nest).nest

-- a comma ends conditionals and concise bodies of arrow functions
abbrev pub is_object : Option FrameKind → Bool
is_object (Some frame.Object) = true
is_object (Some frame.Enum) = true
is_object over = false

abbrev pub candidate_in_object : Nested → Bool
candidate_in_object nest =
    over_candidate (top nest)
    && (is_object (under nest)
    || (over_candidate (under nest) && (is_object (kind_at 2 nest) || (over_candidate (kind_at 2 nest) && is_object (kind_at 3 nest)))))

abbrev pub behind_comma : Option FrameKind → State
behind_comma (Some frame.Declaration) = state.Binding
behind_comma (Some frame.Object) = state.Key
behind_comma (Some frame.Enum) = state.Key
behind_comma (Some frame.ClassHead) = state.ClassHead
behind_comma (Some frame.ClassExpressionHead) = state.ClassHead
behind_comma (Some frame.AsyncCandidate) = state.TypeParameter
behind_comma over = state.Operand

abbrev pub comma_in : Nested → Landed
comma_in nest = landed (if candidate_in_object nest then state.KeyComma else behind_comma (top nest)) nest

abbrev pub comma : Nested → Landed
comma nest = comma_in (dropped kinds.Conditionals nest)

-- a colon: of a conditional, of `case`, or before a type
abbrev pub annotated : FrameKind → Nested → Landed
annotated kind nest = landed state.TypeOperand (pushed kind nest)

abbrev pub colon_over : Option FrameKind → Nested → Landed
colon_over (Some frame.Conditional) nest = landed state.Operand (popped nest)
colon_over (Some frame.Case) nest = landed state.Statement (popped nest)
colon_over (Some frame.Paren) nest = annotated frame.Annotation (turned frame.ParenParameters nest)
colon_over (Some frame.AsyncParen) nest = annotated frame.Annotation (turned frame.AsyncParenParameters nest)
colon_over (Some frame.Declaration) nest = annotated frame.Annotation nest
colon_over (Some frame.ParenParameters) nest = annotated frame.Annotation nest
colon_over (Some frame.AsyncParenParameters) nest = annotated frame.Annotation nest
colon_over (Some frame.Call) nest = annotated frame.Annotation nest
colon_over (Some frame.Parameters) nest = annotated frame.Annotation nest
colon_over (Some frame.Control) nest = annotated frame.Annotation nest
colon_over (Some frame.For) nest = annotated frame.Annotation nest
colon_over (Some frame.Bracket) nest = annotated frame.Annotation nest
colon_over (Some frame.Computed) nest = annotated frame.Annotation nest
colon_over over nest = landed state.Operand nest

abbrev pub is_waiting : Option FrameKind → Bool
is_waiting (Some frame.Conditional) = true
is_waiting (Some frame.Case) = true
is_waiting over = false

-- the frame that decides is the one around a concise body
abbrev pub colon_waits : Nested → Option FrameKind → Bool
colon_waits nest (Some frame.Arrow) = is_waiting (under nest)
colon_waits nest over = is_waiting over

abbrev pub without_arrow : Nested → Option FrameKind → Nested
without_arrow nest (Some frame.Arrow) = if is_waiting (under nest) then popped nest else nest
without_arrow nest over = nest

abbrev pub colon_plain : Nested → Landed
colon_plain nest = colon_over (top (without_arrow nest (top nest))) (without_arrow nest (top nest))

abbrev pub colon_behind : FrameKind → Nested → Landed
colon_behind kind nest = if colon_waits nest (top nest) then colon_plain nest else annotated kind nest

abbrev pub colon_in : Grouping → Nested → Landed
colon_in grouping.None nest = colon_plain nest
colon_in grouping.Plain nest = colon_behind frame.ReturnType nest
colon_in grouping.Async nest = colon_behind frame.AsyncReturnType nest

abbrev pub colon : Grouping → Nested → Landed
colon grouping nest = colon_in grouping (dropped kinds.Candidates nest)

-- right angle brackets behind an operand close as many candidates, or are operators
abbrev pub candidate_from : ℕ → Option FrameKind → Option FrameKind → Option ℕ
candidate_from i (Some frame.Candidate) around = Some i
candidate_from i (Some frame.AsyncCandidate) around = Some i
candidate_from i (Some frame.ParametersCandidate) around = Some i
candidate_from i (Some frame.Arrow) around = if over_candidate around then Some (i + 1) else None
candidate_from i over around = None

abbrev pub next_candidate : Nested → ℕ → Option ℕ
next_candidate nest i = candidate_from i (kind_at i nest) (kind_at (i + 1) nest)

-- the type parameters of a function type are closed by themselves, since its parameters come next
abbrev pub candidate_around : Nested → ℕ → Option FrameKind → Option ℕ
candidate_around nest i over = if over_parameters_candidate over then None else next_candidate nest (i + 1)

abbrev pub candidate_behind : Nested → Option ℕ → Option ℕ
candidate_behind nest None = None
candidate_behind nest (Some i) = candidate_around nest i (kind_at i nest)

abbrev pub last_candidate : Angles → Nested → Option ℕ
last_candidate angles.One nest = next_candidate nest 0
last_candidate angles.Two nest = candidate_behind nest (next_candidate nest 0)
last_candidate angles.Three nest = candidate_behind nest (candidate_behind nest (next_candidate nest 0))

abbrev pub behind_candidate : Option FrameKind → State
behind_candidate (Some frame.AsyncCandidate) = state.AsyncTypeArguments
behind_candidate (Some frame.ParametersCandidate) = state.FunctionTypeArguments
behind_candidate over = state.TypeArguments

abbrev pub greater_at : Nested → Option ℕ → Landed
greater_at nest None = landed state.Operand (dropped kinds.Candidates nest)
greater_at nest (Some i) = landed (behind_candidate (kind_at i nest)) (popped_times (i + 1) nest)

abbrev pub greater : Angles → Nested → Landed
greater angles nest = greater_at nest (last_candidate angles nest)

-- right angle brackets in a type; where the type ends, `=` behind them is a token of its own
abbrev pub angle_over : Option FrameKind → Landed → Landed
angle_over (Some frame.InnerAngle) l = landed state.TypeBrackets (popped l.nest)
angle_over (Some frame.OuterAngle) l = landed state.TypeEnd (popped l.nest)
angle_over (Some frame.ParametersAngle) l = landed state.TypeOperand (popped l.nest)
angle_over (Some frame.OperandAngle) l = landed state.Operand (popped l.nest)
angle_over (Some frame.HeadAngle) l = landed (back_of (top (popped l.nest))) (popped l.nest)
angle_over (Some frame.ArgumentsAngle) l = landed state.TypeArguments (popped l.nest)
angle_over (Some frame.AsyncAngle) l = landed state.AsyncTypeArguments (popped l.nest)
angle_over (Some frame.Candidate) l = landed state.TypeArguments (popped l.nest)
angle_over over l = l

abbrev pub angle : Landed → Landed
angle l = angle_over (top l.nest) l

abbrev pub type_angles : Angles → Nested → Landed
type_angles angles.One nest = angle (landed state.TypeBrackets nest)
type_angles angles.Two nest = angle (angle (landed state.TypeBrackets nest))
type_angles angles.Three nest = angle (angle (angle (landed state.TypeBrackets nest)))

abbrev pub equals_behind : State → Turn
equals_behind state.TypeBrackets = Done state.TypeBrackets
equals_behind other = Again other (Sign sign.Assign)

abbrev pub type_greater : Angles → Bool → Nested → Turned
type_greater angles has_equals nest =
    if has_equals then turned_to (equals_behind (type_angles angles nest).state) (type_angles angles nest).nest else done (type_angles angles nest)

-- the body of a function or class begins
abbrev pub body_of : Option FrameKind → FrameKind
body_of (Some frame.FunctionHead) = frame.Function
body_of (Some frame.FunctionExpressionHead) = frame.FunctionExpression
body_of over = frame.Method

abbrev pub body : Nested → Landed
body nest = landed state.Statement (turned (body_of (top nest)) nest)

abbrev pub class_body_of : Option FrameKind → FrameKind
class_body_of (Some frame.ClassHead) = frame.Class
class_body_of over = frame.ClassExpression

abbrev pub class_body : Nested → Landed
class_body nest = landed state.Member (pending no_function (turned (class_body_of (top nest)) nest))

-- there is none: an overload, or what is declared or abstract
abbrev pub behind_method : Option FrameKind → State
behind_method (Some frame.Class) = state.Member
behind_method (Some frame.ClassExpression) = state.Member
behind_method (Some frame.Object) = state.Key
behind_method (Some frame.Enum) = state.Key
behind_method over = state.After

abbrev pub by_head : Option FrameKind → State → State
by_head (Some frame.FunctionHead) method = state.Statement
by_head (Some frame.FunctionExpressionHead) method = state.After
by_head head method = method

abbrev pub behind_no_body : Option FrameKind → Option FrameKind → State
behind_no_body head over = by_head head (behind_method over)

abbrev pub no_body : Nested → Landed
no_body nest = landed (behind_no_body (top nest) (top (popped nest))) (popped nest)

abbrev pub behind_no_class : Option FrameKind → State
behind_no_class (Some frame.ClassHead) = state.Statement
behind_no_class over = state.After

abbrev pub no_class_body : Nested → Landed
no_class_body nest = landed (behind_no_class (top nest)) (popped nest)

-- what a decorator stands before
abbrev pub decorated_of : Option FrameKind → State
decorated_of (Some frame.StatementDecorator) = state.Statement
decorated_of (Some frame.MemberDecorator) = state.Member
decorated_of over = state.Operand

abbrev pub no_decorator : Nested → Landed
no_decorator nest = landed (decorated_of (top nest)) (popped nest)

-- a type ends
abbrev pub behind_annotation : Option FrameKind → State
behind_annotation (Some frame.Declaration) = state.AfterBinding
behind_annotation (Some frame.Class) = state.Member
behind_annotation (Some frame.ClassExpression) = state.Member
behind_annotation (Some frame.FunctionHead) = state.HeadEnd
behind_annotation (Some frame.FunctionExpressionHead) = state.HeadEnd
behind_annotation (Some frame.MethodHead) = state.HeadEnd
behind_annotation over = state.After

abbrev pub by_mark : Option FrameKind → State → State
by_mark (Some frame.Assertion) annotated = state.AfterPostfix
by_mark (Some frame.AliasType) annotated = state.Statement
by_mark (Some frame.ReturnType) annotated = state.Group
by_mark (Some frame.AsyncReturnType) annotated = state.AsyncGroup
by_mark mark annotated = annotated

abbrev pub behind_ended_type : Option FrameKind → Option FrameKind → State
behind_ended_type mark over = by_mark mark (behind_annotation over)

abbrev pub type_ended : Nested → Landed
type_ended nest = landed (behind_ended_type (top nest) (top (popped nest))) (popped nest)

abbrev pub end_type : Nested → Landed
end_type nest = type_ended (dropped kinds.TypeConditions nest)

-- templates
abbrev pub substitution_in : Option FrameKind → State
substitution_in (Some frame.InnerTemplate) = state.TypeBrackets
substitution_in (Some frame.OuterTemplate) = state.TypeBrackets
substitution_in over = state.Operand

abbrev pub substitution : Nested → Landed
substitution nest = landed (substitution_in (top nest)) nest

abbrev pub template_over : Option FrameKind → Nested → Landed
template_over (Some frame.Template) nest = landed state.After (popped nest)
template_over (Some frame.InnerTemplate) nest = landed state.TypeBrackets (popped nest)
template_over (Some frame.OuterTemplate) nest = landed state.TypeEnd (popped nest)
template_over over nest = landed state.After nest

abbrev pub end_template : Nested → Landed
end_template nest = template_over (top nest) nest

-- what a row says to do with a token
unfoldable pub moved : Move → PartKind → Nested → Turned
moved (move.To state change) kind nest = turned_to (Done state) (changed change nest)
moved (move.Again state change) kind nest = turned_to (Again state kind) (changed change nest)
moved move.Fresh kind nest = again kind (fresh nest)
moved move.FreshOperand kind nest = again kind (fresh_as operand_for_member nest)
moved move.FreshBrace kind nest = again kind (fresh_as operand_for_key nest)
moved move.FreshWord kind nest = fresh_word kind nest
moved move.Brace kind nest = done (brace (pending no_function nest))
moved move.Paren kind nest = done (paren nest)
moved move.Bracket kind nest = done (bracket nest)
moved move.Semi kind nest = done (semi nest)
moved move.Comma kind nest = done (comma nest)
moved (move.Colon grouping) kind nest = done (colon grouping nest)
moved (move.Greater angles) kind nest = done (greater angles nest)
moved (move.TypeGreater angles has_equals) kind nest = type_greater angles has_equals nest
moved move.Body kind nest = done (body nest)
moved move.ClassBody kind nest = done (class_body nest)
moved move.NoBody kind nest = again kind (no_body nest)
moved move.NoClassBody kind nest = again kind (no_class_body nest)
moved move.NoDecorator kind nest = again kind (no_decorator nest)
moved move.EndType kind nest = again kind (end_type nest)
moved move.Substitution kind nest = done (substitution nest)
moved move.EndTemplate kind nest = done (end_template nest)
