-- What encloses the place that is read: questions of the innermost frames
use Rattle.std.specs.Prelude.{Bool, true, false, not, ◌||◌, Option, Some}
use Rattle.ecma_role_table.specs.declared.frame.FrameKind.{FrameKind}
use Rattle.ecma_role_table.specs.declared.frame.FrameKind.TheVariants as frame
use Rattle.ecma_role_table.specs.declared.frame.Kinds.{Kinds}
use Rattle.ecma_role_table.specs.declared.frame.Kinds.TheVariants as kinds

abbrev pub over_conditional : Option FrameKind → Bool
over_conditional (Some frame.Conditional) = true
over_conditional top = false

abbrev pub over_for : Option FrameKind → Bool
over_for (Some frame.For) = true
over_for top = false

abbrev pub over_declared_for : Option FrameKind → Option FrameKind → Bool
over_declared_for (Some frame.Declaration) under = over_for under
over_declared_for top under = false

abbrev pub over_class_head : Option FrameKind → Bool
over_class_head (Some frame.ClassHead) = true
over_class_head (Some frame.ClassExpressionHead) = true
over_class_head top = false

abbrev pub over_candidate : Option FrameKind → Bool
over_candidate (Some frame.Candidate) = true
over_candidate (Some frame.AsyncCandidate) = true
over_candidate (Some frame.ParametersCandidate) = true
over_candidate top = false

abbrev pub over_async_candidate : Option FrameKind → Bool
over_async_candidate (Some frame.AsyncCandidate) = true
over_async_candidate top = false

abbrev pub over_parameters_candidate : Option FrameKind → Bool
over_parameters_candidate (Some frame.ParametersCandidate) = true
over_parameters_candidate top = false

-- right in what may be type arguments, or in the type that a function type there returns
abbrev pub in_arguments : Option FrameKind → Option FrameKind → Bool
in_arguments (Some frame.Arrow) under = over_candidate under
in_arguments top under = over_candidate top

abbrev pub over_type_extends : Option FrameKind → Bool
over_type_extends (Some frame.TypeExtends) = true
over_type_extends top = false

abbrev pub over_type_conditional : Option FrameKind → Bool
over_type_conditional (Some frame.TypeConditional) = true
over_type_conditional top = false

-- it is no bracket
abbrev pub is_mark : FrameKind → Bool
is_mark frame.Conditional = true
is_mark frame.Case = true
is_mark frame.Arrow = true
is_mark frame.Declaration = true
is_mark frame.Candidate = true
is_mark frame.AsyncCandidate = true
is_mark frame.ParametersCandidate = true
is_mark frame.FunctionHead = true
is_mark frame.FunctionExpressionHead = true
is_mark frame.MethodHead = true
is_mark frame.ClassHead = true
is_mark frame.ClassExpressionHead = true
is_mark frame.AliasHead = true
is_mark frame.InterfaceHead = true
is_mark frame.ImportHead = true
is_mark frame.ExportHead = true
is_mark frame.StatementDecorator = true
is_mark frame.MemberDecorator = true
is_mark frame.OperandDecorator = true
is_mark frame.Annotation = true
is_mark frame.Assertion = true
is_mark frame.AliasType = true
is_mark frame.ReturnType = true
is_mark frame.AsyncReturnType = true
is_mark frame.TypeExtends = true
is_mark frame.TypeConditional = true
is_mark kind = false

-- it is `<` of a type or head
abbrev pub is_angle : FrameKind → Bool
is_angle frame.InnerAngle = true
is_angle frame.OuterAngle = true
is_angle frame.ParametersAngle = true
is_angle frame.OperandAngle = true
is_angle frame.HeadAngle = true
is_angle frame.ArgumentsAngle = true
is_angle frame.AsyncAngle = true
is_angle kind = false

-- a right brace ends it, or what is in it
abbrev pub is_brace : FrameKind → Bool
is_brace frame.Block = true
is_brace frame.Function = true
is_brace frame.FunctionExpression = true
is_brace frame.Method = true
is_brace frame.ArrowBody = true
is_brace frame.Static = true
is_brace frame.Class = true
is_brace frame.ClassExpression = true
is_brace frame.Object = true
is_brace frame.Enum = true
is_brace frame.Clause = true
is_brace frame.Template = true
is_brace frame.InnerBrace = true
is_brace frame.InnerTemplate = true
is_brace frame.OuterBrace = true
is_brace frame.OuterTemplate = true
is_brace frame.Interface = true
is_brace kind = false

-- it gives back, when it goes, what the function around is
abbrev pub gives_around : FrameKind → Bool
gives_around frame.Function = true
gives_around frame.FunctionExpression = true
gives_around frame.Method = true
gives_around frame.ArrowBody = true
gives_around frame.Arrow = true
gives_around frame.FunctionHead = true
gives_around frame.FunctionExpressionHead = true
gives_around frame.MethodHead = true
gives_around frame.Static = true
gives_around kind = false

-- it gives back, when it goes, what the method is whose name is read
abbrev pub gives_pending : FrameKind → Bool
gives_pending frame.Computed = true
gives_pending kind = false

-- it is a template
abbrev pub is_template : FrameKind → Bool
is_template frame.Template = true
is_template frame.InnerTemplate = true
is_template frame.OuterTemplate = true
is_template kind = false

-- kinds of frames that go together
abbrev pub is_of : Kinds → FrameKind → Bool
is_of kinds.Marks kind = is_mark kind
is_of kinds.MarksAndAngles kind = is_mark kind || is_angle kind
is_of kinds.Candidates kind = over_candidate (Some kind)
is_of kinds.Conditionals frame.Conditional = true
is_of kinds.Conditionals frame.Arrow = true
is_of kinds.Conditionals kind = false
is_of kinds.TypeConditions frame.TypeExtends = true
is_of kinds.TypeConditions frame.TypeConditional = true
is_of kinds.TypeConditions kind = false
is_of kinds.InsideBraces kind = not (is_brace kind)
