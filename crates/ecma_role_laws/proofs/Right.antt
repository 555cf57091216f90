-- What a state takes for granted of the innermost frame, a frame of the one right around it, and which moves keep to that
use Rattle.std.specs.Prelude.{Bool, true, false, not, ◌&&◌, ◌||◌, Option, Some, None}
use Rattle.ecma_role_table.specs.declared.part.PartKind.{PartKind}
use Rattle.ecma_role_table.specs.declared.part.PartKind.TheVariants.{Sign}
use Rattle.ecma_role_table.specs.declared.part.Sign.TheVariants as sign
use Rattle.ecma_role_table.specs.declared.frame.FrameKind.{FrameKind}
use Rattle.ecma_role_table.specs.declared.frame.FrameKind.TheVariants as frame
use Rattle.ecma_role_table.specs.declared.state.State.{State}
use Rattle.ecma_role_table.specs.declared.state.State.TheVariants as state
use Rattle.ecma_role_table.specs.declared.moves.Change.{Change}
use Rattle.ecma_role_table.specs.declared.moves.Change.TheVariants as change
use Rattle.ecma_role_table.specs.declared.moves.Move.{Move}
use Rattle.ecma_role_table.specs.declared.moves.Move.TheVariants as move
use Rattle.ecma_role_laws.specs.Brackets.{Bracket, Parentheses, Squares, Braces, Template, Substitution, bracket_of, in_clause, in_text}

pub data Need : Type 0 where
  Anything : Need
  AType : Need
  AFunctionHead : Need
  AClass : Need
  AClassHead : Need
  AnAliasHead : Need
  AnInterfaceHead : Need
  AnImport : Need
  AnExport : Need
  ADecorator : Need
  ADeclaration : Need
  AnArrow : Need
  ATemplate : Need
  AParen : Need
  AClause : Need
  Nothing : Need

-- what a frame is, of what is needed
abbrev pub serves : FrameKind → Need
serves frame.Annotation = AType
serves frame.Assertion = AType
serves frame.AliasType = AType
serves frame.ReturnType = AType
serves frame.AsyncReturnType = AType
serves frame.TypeExtends = AType
serves frame.TypeConditional = AType
serves frame.FunctionHead = AFunctionHead
serves frame.FunctionExpressionHead = AFunctionHead
serves frame.MethodHead = AFunctionHead
serves frame.Class = AClass
serves frame.ClassExpression = AClass
serves frame.ClassHead = AClassHead
serves frame.ClassExpressionHead = AClassHead
serves frame.AliasHead = AnAliasHead
serves frame.InterfaceHead = AnInterfaceHead
serves frame.ImportHead = AnImport
serves frame.ExportHead = AnExport
serves frame.StatementDecorator = ADecorator
serves frame.MemberDecorator = ADecorator
serves frame.OperandDecorator = ADecorator
serves frame.Declaration = ADeclaration
serves frame.Arrow = AnArrow
serves frame.Template = ATemplate
serves frame.InnerTemplate = ATemplate
serves frame.OuterTemplate = ATemplate
serves frame.OuterParen = AParen
serves frame.Clause = AClause
serves kind = Anything

abbrev pub is_same : Need → Need → Bool
is_same Anything Anything = true
is_same AType AType = true
is_same AFunctionHead AFunctionHead = true
is_same AClass AClass = true
is_same AClassHead AClassHead = true
is_same AnAliasHead AnAliasHead = true
is_same AnInterfaceHead AnInterfaceHead = true
is_same AnImport AnImport = true
is_same AnExport AnExport = true
is_same ADecorator ADecorator = true
is_same ADeclaration ADeclaration = true
is_same AnArrow AnArrow = true
is_same ATemplate ATemplate = true
is_same AParen AParen = true
is_same AClause AClause = true
is_same Nothing Nothing = true
is_same need other = false

abbrev pub is_anything : Need → Bool
is_anything Anything = true
is_anything need = false

abbrev pub served : Option FrameKind → Need
served None = Nothing
served (Some kind) = serves kind

abbrev pub meets : Need → Option FrameKind → Bool
meets Anything top = true
meets need top = is_same need (served top)

-- what a state needs
abbrev pub need : State → Need
need state.Head = AFunctionHead
need state.HeadEnd = AFunctionHead
need state.ClassHead = AClassHead
need state.Member = AClass
need state.MemberAsync = AClass
need state.AliasHead = AnAliasHead
need state.InterfaceHead = AnInterfaceHead
need state.Import = AnImport
need state.ImportAll = AnImport
need state.ImportAs = AnImport
need state.ImportEnd = AnImport
need state.ImportWith = AnImport
need state.ImportEquals = AnImport
need state.ImportEqualsName = AnImport
need state.ExportEnd = AnExport
need state.Clause = AClause
need state.Decorator = ADecorator
need state.AfterDecorator = ADecorator
need state.Binding = ADeclaration
need state.ArrowBody = AnArrow
need state.Quasi = ATemplate
need state.TypeOperand = AType
need state.TypeName = AType
need state.TypeEnd = AType
need state.TypeParameters = AType
need state.Asserts = AType
need state.TypeProperty = AType
need state.TypeParen = AParen
need state.TypeParenName = AParen
need other = Anything

-- what a frame needs right around it
abbrev pub base : FrameKind → Need
base frame.OuterParen = AType
base frame.OuterPattern = AType
base frame.OuterParameters = AType
base frame.OuterBracket = AType
base frame.OuterBrace = AType
base frame.OuterAngle = AType
base frame.OuterTemplate = AType
base frame.ParametersAngle = AType
base frame.TypeExtends = AType
base frame.TypeConditional = AType
base frame.Parameters = AFunctionHead
base frame.Static = AClass
base frame.MemberDecorator = AClass
base kind = Anything

abbrev pub base_of : Option FrameKind → Need
base_of None = Anything
base_of (Some kind) = base kind

abbrev pub bracket_in : Option FrameKind → Option Bracket
bracket_in None = None
bracket_in (Some kind) = bracket_of kind

abbrev pub is_there : Option FrameKind → Bool
is_there None = false
is_there (Some kind) = true

abbrev pub is_soft : Option Bracket → Bool
is_soft None = true
is_soft (Some b) = false

abbrev pub is_bracket : Bracket → Option Bracket → Bool
is_bracket Parentheses (Some Parentheses) = true
is_bracket Squares (Some Squares) = true
is_bracket Braces (Some Braces) = true
is_bracket Template (Some Template) = true
is_bracket Substitution (Some Substitution) = true
is_bracket b other = false

abbrev pub is_alike : Option Bracket → Option Bracket → Bool
is_alike None other = is_soft other
is_alike (Some b) other = is_bracket b other

-- a frame that goes: what is needed is what it needed
abbrev pub pop_meets : Option FrameKind → Need → Bool
pop_meets top needed = is_anything needed || is_same needed (base_of top)

abbrev pub turn_meets : FrameKind → Option FrameKind → Bool
turn_meets kind top = is_anything (base kind) || is_same (base kind) (base_of top)

-- what a change leaves meets what the next state needs, and each frame what it needs
abbrev pub is_sound : Option FrameKind → Change → Need → Bool
is_sound top (change.Push kind) needed = meets (base kind) top && meets needed (Some kind)
is_sound top (change.PushTwo outer inner) needed = meets (base outer) top && (meets (base inner) (Some outer) && meets needed (Some inner))
is_sound top (change.Enter kind is_async) needed = meets (base kind) top && meets needed (Some kind)
is_sound top change.Pop needed = pop_meets top needed
is_sound top change.ImportEnds needed = pop_meets top needed
is_sound top (change.Turn kind) needed = is_there top && (turn_meets kind top && meets needed (Some kind))
is_sound top change.Method needed = is_anything needed
is_sound top change.Static needed = meets AClass top && is_anything needed
is_sound top change.Object needed = is_anything needed
is_sound top (change.Arrow is_async) needed = meets needed (Some frame.Arrow)
is_sound top change.Parameters needed = is_anything needed
is_sound top change.DropCandidates needed = is_anything needed
is_sound top change.DropCandidatesClear needed = is_anything needed
is_sound top other needed = meets needed top

-- it leaves the nearest bracket, and what is outside of that
abbrev pub is_kept : Option FrameKind → Change → Bool
is_kept top (change.Push kind) = is_soft (bracket_of kind)
is_kept top (change.PushTwo outer inner) = is_soft (bracket_of outer) && is_soft (bracket_of inner)
is_kept top (change.Enter kind is_async) = is_soft (bracket_of kind)
is_kept top change.Pop = is_soft (bracket_in top)
is_kept top change.ImportEnds = is_soft (bracket_in top)
is_kept top (change.Turn kind) = is_alike (bracket_of kind) (bracket_in top)
is_kept top change.Method = false
is_kept top change.Static = false
is_kept top change.Object = false
is_kept top other = true

-- it puts a bracket inside of it
abbrev pub is_opened : Bracket → Option FrameKind → Change → Bool
is_opened b top (change.Push kind) = is_bracket b (bracket_of kind)
is_opened b top (change.PushTwo outer inner) = is_soft (bracket_of outer) && is_bracket b (bracket_of inner)
is_opened b top (change.Turn kind) = is_there top && (is_soft (bracket_in top) && is_bracket b (bracket_of kind))
is_opened b top change.Method = is_bracket b (Some Parentheses)
is_opened b top change.Static = is_bracket b (Some Braces)
is_opened b top change.Object = is_bracket b (Some Braces)
is_opened b top other = false

-- what a token that is taken into account does
abbrev pub is_done : PartKind → Option FrameKind → Change → Bool
is_done (Sign sign.LParen) top c = is_opened Parentheses top c
is_done (Sign sign.LBracket) top c = is_opened Squares top c
is_done (Sign sign.LBrace) top c = is_opened Braces top c
is_done (Sign sign.BackQuote) top c = is_opened Template top c
is_done (Sign sign.RParen) top c = is_kept top c && is_bracket Braces (bracket_in top)
is_done (Sign sign.RBracket) top c = is_kept top c && is_bracket Braces (bracket_in top)
is_done (Sign sign.RBrace) top c = false
is_done kind top c = is_kept top c

abbrev pub is_code : State → Bool
is_code other = not (in_text other) && not (in_clause other)

-- where a token leads that is taken into account: to the text of a template by a back quote alone
abbrev pub leads : PartKind → State → Bool
leads (Sign sign.BackQuote) other = in_text other
leads kind other = not (in_text other)

abbrev pub is_plain : PartKind → Bool
is_plain (Sign sign.LParen) = false
is_plain (Sign sign.LBracket) = false
is_plain (Sign sign.LBrace) = false
is_plain (Sign sign.BackQuote) = false
is_plain (Sign sign.RParen) = false
is_plain (Sign sign.RBracket) = false
is_plain (Sign sign.RBrace) = false
is_plain kind = true

abbrev pub is_kind : Bracket → PartKind → Bool
is_kind Parentheses (Sign sign.RParen) = true
is_kind Squares (Sign sign.RBracket) = true
is_kind Braces (Sign sign.RBrace) = true
is_kind b kind = false

abbrev pub is_left_brace : PartKind → Bool
is_left_brace (Sign sign.LBrace) = true
is_left_brace kind = false

-- a move keeps what states and frames need
abbrev pub is_safe : Option FrameKind → Move → Bool
is_safe top (move.To s c) = is_sound top c (need s)
is_safe top (move.Again s c) = is_sound top c (need s)
is_safe top move.Body = meets AFunctionHead top
is_safe top move.NoBody = meets AFunctionHead top
is_safe top move.ClassBody = meets AClassHead top
is_safe top move.NoClassBody = meets AClassHead top
is_safe top move.NoDecorator = meets ADecorator top
is_safe top move.EndType = meets AType top
is_safe top move.EndTemplate = meets ATemplate top
is_safe top other = true

-- and opens and closes what the token does, where code is read
abbrev pub is_right : PartKind → Option FrameKind → Move → Bool
is_right kind top (move.To s c) = is_done kind top c && leads kind s
is_right kind top (move.Again s c) = is_kept top c && is_code s
is_right kind top move.FreshWord = is_plain kind
is_right kind top move.Brace = is_kind Braces kind
is_right kind top move.Paren = is_kind Parentheses kind
is_right kind top move.Bracket = is_kind Squares kind
is_right kind top move.Semi = is_plain kind
is_right kind top move.Comma = is_plain kind
is_right kind top (move.Colon grouping) = is_plain kind
is_right kind top (move.Greater angles) = is_plain kind
is_right kind top (move.TypeGreater angles has_equals) = is_plain kind
is_right kind top move.Body = is_left_brace kind
is_right kind top move.ClassBody = is_left_brace kind
is_right kind top move.Substitution = false
is_right kind top move.EndTemplate = false
is_right kind top other = true

-- both, where code is read
abbrev pub is_fit : State → PartKind → Option FrameKind → Move → Bool
is_fit s kind top m = is_safe top m && (not (is_code s) || is_right kind top m)
