-- Where the parts of the grammar begin and end in a track
use Rattle.std.proofs.Common.{◌≡◌, Bool, true, false, not, List, [], ◌∷◌, ◌++◌, Option, Some, None, refl, arith, ◌&&◌, ◌||◌}
use Rattle.std.specs.List.{slice_get}
use Rattle.ecma_role_table.specs.declared.frame.Around.{Around}
use Rattle.ecma_role_table.specs.declared.frame.Frame.{Frame}
use Rattle.ecma_role_table.specs.declared.frame.FrameKind.{FrameKind}
use Rattle.ecma_role_table.specs.declared.frame.FrameKind.TheVariants as frame
use Rattle.ecma_role_table.specs.declared.frame.Kinds.TheVariants as kinds
use Rattle.ecma_role_table.specs.declared.state.State.{State}
use Rattle.ecma_role_table.specs.declared.state.State.TheVariants as state
use Rattle.ecma_role_table.specs.declared.part.Part.{Part}
use Rattle.ecma_role_table.specs.declared.part.PartKind.TheVariants.{Sign}
use Rattle.ecma_role_table.specs.declared.part.Sign as signs
use Rattle.ecma_role_table.specs.declared.part.Sign.TheVariants as sign
use Rattle.ecma_role_table.specs.Frames.{over_candidate, over_declared_for, over_for}
use Rattle.ecma_role_moves.specs.Moves.{Landed, arrow_over, back_of, behind_comma, candidate_from, decorating, fresh_of}
use Rattle.ecma_role_moves.specs.Nest.{Nested, gains_async, dropped, kind_in, nested, no_function, over_kinds, pending, pushed, top, under}
use Rattle.ecma_role_tracks.specs.Slashes.{expects_operand}
use Rattle.ecma_role_tracks.specs.Track.{TrackView, stepped, track}
use Rattle.ecma_role_moves.proofs.NestLemmas.{dropped_none}
use Rattle.ecma_token_kind.specs.declared.kind.TokenKind.{TokenKind}
use Rattle.ecma_token_kind.specs.declared.kind.TokenKind.TheVariants as kind
use Rattle.ecma_word.specs.declared.keyword.Keyword.TheVariants as keyword
use Rattle.ecma_word.specs.declared.known_ident.KnownIdent.TheVariants as known
use Rattle.ecma_word.specs.declared.word.WordKind.TheVariants as word
use Rattle.ecma_word.specs.declared.word.IdentKind.TheVariants as ident
use Rattle.ecma_word.specs.declared.operator.BinOpToken.TheVariants as binary
use Rattle.ecma_role_grammar.specs.Tokens.{Token, part, token}
use Rattle.ecma_role_grammar.specs.Grammar.{Parameters, begins_anew_kind, begins_brace, begins_declaration, begins_function, is_async_word, is_declaration, is_on_line}
use Rattle.ecma_role_grammar.specs.Laws.{around_of}
use Rattle.ecma_role_grammar.proofs.Runs.{Run}

abbrev pub top_of : List Frame → Option FrameKind
top_of frames = kind_in (slice_get frames 0)

abbrev pub under_of : List Frame → Option FrameKind
under_of frames = kind_in (slice_get frames 1)

abbrev pub at : State → Nested → TrackView
at state nest = track state nest false

abbrev pub at_landed : Landed → TrackView
at_landed l = track l.state l.nest false

-- where an expression begins
pub data Start : Type 0 where
  AtOperand : Start
  AtStatement : Start
  AtRestricted : Start
  AtQuestion : Start
  AtArrowBody : Start
  AtForHead : Start
  AtBinding : Start

abbrev pub start_state : Start → State
start_state AtOperand = state.Operand
start_state AtStatement = state.Statement
start_state AtRestricted = state.Restricted
start_state AtQuestion = state.Conditional
start_state AtArrowBody = state.ArrowBody
start_state AtForHead = state.ForHead
start_state AtBinding = state.Binding

abbrev pub begin : Start → Nested → TrackView
begin s nest = at (start_state s) nest

abbrev pub is_statement : Start → Bool
is_statement AtStatement = true
is_statement s = false

abbrev pub begins_pattern_kind : TokenKind → Bool
begins_pattern_kind kind.LBrace = true
begins_pattern_kind kind.LBracket = true
begins_pattern_kind kind = false

abbrev pub begins_pattern : List Token → Bool
begins_pattern [] = false
begins_pattern (x ∷ xs) = begins_pattern_kind x.kind

-- what is required of the tokens that begin there
abbrev pub opens : Start → List Token → Bool
opens AtOperand xs = true
opens AtStatement xs = not (is_declaration xs)
opens AtRestricted xs = is_on_line xs
opens AtQuestion xs = true
opens AtArrowBody xs = not (begins_brace xs)
opens AtForHead xs = true
opens AtBinding xs = begins_pattern xs

-- where an operand is complete
pub data Complete : Type 0 where
  Plain : Complete
  Postfix : Complete
  Grouped : Complete
  LabelOr : Complete
  TypeOr : Complete
  InterfaceOr : Complete

abbrev pub complete_state : Complete → State
complete_state Plain = state.After
complete_state Postfix = state.AfterPostfix
complete_state Grouped = state.Group
complete_state LabelOr = state.Label
complete_state TypeOr = state.MaybeType
complete_state InterfaceOr = state.MaybeInterface

abbrev pub completed : Complete → Nested → TrackView
completed c nest = at (complete_state c) nest

-- behind a name that a statement begins with a colon makes a label of it
abbrev pub is_label : Complete → Bool
is_label LabelOr = true
is_label TypeOr = true
is_label InterfaceOr = true
is_label c = false

-- where an assignment expression ends: an operand is complete, an arrow function's braces, or `yield` with nothing behind it
pub data Ended : Type 0 where
  Whole : Complete → Ended
  Braces : Ended
  Yielding : Ended

abbrev pub ended_state : Ended → State
ended_state (Whole c) = complete_state c
ended_state Braces = state.ArrowEnd
ended_state Yielding = state.Restricted

abbrev pub ended : Ended → Nested → TrackView
ended e nest = at (ended_state e) nest

abbrev pub is_label_end : Ended → Bool
is_label_end (Whole c) = is_label c
is_label_end Braces = false
is_label_end Yielding = false

pub completed_divides : (c : Complete) (nest : Nested) (w : Bool) → expects_operand (completed c nest) w ≡ false
completed_divides Plain nest w = refl
completed_divides Postfix nest w = refl
completed_divides Grouped nest w = refl
completed_divides LabelOr nest w = refl
completed_divides TypeOr nest w = refl
completed_divides InterfaceOr nest w = refl

pub begin_expects : (s : Start) (nest : Nested) (w : Bool) → expects_operand (begin s nest) w ≡ true
begin_expects AtOperand nest w = refl
begin_expects AtStatement nest w = refl
begin_expects AtRestricted nest w = refl
begin_expects AtQuestion nest w = refl
begin_expects AtArrowBody nest w = refl
begin_expects AtForHead nest w = refl
begin_expects AtBinding nest w = refl

-- What encloses an expression

-- what an operand needs of the frames around it
pub record Fits (p : Parameters) (n : Nested) : Type 0 where
  pub calm : over_candidate (top n) ≡ false
  pub lone : candidate_from 0 (top n) (under n) ≡ None
  pub plain : (s : State) → decorating (top n) s ≡ s
  pub declared : p.takes_in ≡ true → over_declared_for (top n) (under n) ≡ false
  pub around : n.around ≡ around_of p

-- the frames around an assignment expression, and around the concise body of an arrow function in them
pub data Over : Type 0 where
  Bare : Over
  Concise : Around → Over

abbrev pub around_in : Around → Over → Around
around_in a Bare = a
around_in a (Concise b) = b

abbrev pub frames_over : List Frame → Around → Over → List Frame
frames_over fs a Bare = fs
frames_over fs a (Concise b) = record { kind = frame.Arrow; kept = a } ∷ fs

abbrev pub over : List Frame → Around → Over → Around → Nested
over fs a m pend = nested (frames_over fs a m) (around_in a m) pend

pub record Rests (p : Parameters) (fs : List Frame) (a : Around) (m : Over) : Type 0 where
  pub calm : over_candidate (top_of fs) ≡ false
  pub lone : (u : Option FrameKind) → candidate_from 0 (top_of fs) u ≡ None
  pub plain : (s : State) → decorating (top_of fs) s ≡ s
  pub no_arrow : (n : Nested) → arrow_over (top_of fs) n ≡ pushed frame.Arrow n
  pub declared : p.takes_in ≡ true → over_declared_for (top_of fs) (under_of fs) ≡ false
  pub around : around_in a m ≡ around_of p

-- and what a list of them does
pub record Separates (fs : List Frame) : Type 0 where
  pub kept : over_kinds kinds.Conditionals (top_of fs) ≡ false
  pub behind : behind_comma (top_of fs) ≡ state.Operand

lone-arrow : (o : Option FrameKind) → over_candidate o ≡ false → candidate_from 0 (Some frame.Arrow) o ≡ None
lone-arrow o calm = rw calm refl

pub rests_fits : (p : Parameters) (fs : List Frame) (a : Around) (m : Over) (pend : Around) → Rests p fs a m → Fits p (over fs a m pend)
rests_fits p fs a Bare pend r = record { calm = r.calm; lone = r.lone (under_of fs); plain = r.plain; declared = r.declared; around = r.around }
rests_fits p fs a (Concise b) pend r = record { calm = refl; lone = lone-arrow (top_of fs) r.calm; plain = λ s. refl; declared = λ _. refl; around = r.around }

pub calm_settled : (n : Nested) → over_candidate (top n) ≡ false → dropped kinds.Candidates n ≡ n
calm_settled n calm = dropped_none kinds.Candidates n (candidates (top n) calm)
  where
    candidates : (o : Option FrameKind) → over_candidate o ≡ false → over_kinds kinds.Candidates o ≡ false
    candidates None h = refl
    candidates (Some k) h = h

pub fits_settled : (p : Parameters) (n : Nested) → Fits p n → dropped kinds.Candidates n ≡ n
fits_settled p n fits = calm_settled n fits.calm

-- frames that statements stand in
pub statements_rest : (p : Parameters) (fs : List Frame) (a : Around) → fresh_of (top_of fs) ≡ state.Statement → a ≡ around_of p → Rests p fs a Bare
statements_rest p fs a h is = record { calm = calm (top_of fs) h; lone = λ u. lone (top_of fs) u h; plain = λ s. plain (top_of fs) s h; no_arrow = λ n. no-arrow (top_of fs) n h; declared = λ _. declared (top_of fs) (under_of fs) h; around = is }
  where
    calm : (o : Option FrameKind) → fresh_of o ≡ state.Statement → over_candidate o ≡ false
    calm o h = grind (arith, h)

    lone : (o u : Option FrameKind) → fresh_of o ≡ state.Statement → candidate_from 0 o u ≡ None
    lone o u h = grind (arith, h)

    plain : (o : Option FrameKind) (s : State) → fresh_of o ≡ state.Statement → decorating o s ≡ s
    plain o s h = grind (arith, h)

    no-arrow : (o : Option FrameKind) (n : Nested) → fresh_of o ≡ state.Statement → arrow_over o n ≡ pushed frame.Arrow n
    no-arrow o n h = grind (arith, h)

    declared : (o u : Option FrameKind) → fresh_of o ≡ state.Statement → over_declared_for o u ≡ false
    declared o u h = grind (arith, h)

pub statements_separate : (fs : List Frame) → fresh_of (top_of fs) ≡ state.Statement → Separates fs
statements_separate fs h = record { kept = kept (top_of fs) h; behind = behind (top_of fs) h }
  where
    kept : (o : Option FrameKind) → fresh_of o ≡ state.Statement → over_kinds kinds.Conditionals o ≡ false
    kept o h = grind (arith, h)

    behind : (o : Option FrameKind) → fresh_of o ≡ state.Statement → behind_comma o ≡ state.Operand
    behind o h = grind (arith, h)

pub statements_marks : (o : Option FrameKind) → fresh_of o ≡ state.Statement → over_kinds kinds.Marks o ≡ false
statements_marks o h = grind (arith, h)

-- What is shown of each part of the grammar

abbrev pub is_some : List Token → Bool
is_some [] = false
is_some (x ∷ xs) = true

-- an operand: it ends complete, with the frames as they were
pub record Completes (s : Start) (n : Nested) (xs : List Token) : Type 0 where
  pub state : Complete
  pub pend : Around
  pub run : Run (begin s n) xs (completed state (pending pend n))
  pub label : is_statement s ≡ false → is_label state ≡ false
  pub keeps : n.pending ≡ no_function → pend ≡ no_function

pub record OperandRuns (p : Parameters) (xs : List Token) : Type 0 where
  pub some : is_some xs ≡ true
  pub runs : (s : Start) (n : Nested) → Fits p n → opens s xs ≡ true → Completes s n xs

-- an assignment expression: it may leave the mark of an arrow function's concise body
pub record Ends (s : Start) (fs : List Frame) (a : Around) (m : Over) (before : Around) (xs : List Token) : Type 0 where
  pub state : Ended
  pub mark : Over
  pub pend : Around
  pub run : Run (begin s (over fs a m before)) xs (ended state (over fs a mark pend))
  pub label : is_statement s ≡ false → is_label_end state ≡ false
  pub keeps : before ≡ no_function → pend ≡ no_function

pub record AssignmentRuns (p : Parameters) (xs : List Token) : Type 0 where
  pub some : is_some xs ≡ true
  pub runs : (s : Start) (fs : List Frame) (a : Around) (m : Over) (before : Around) → Rests p fs a m → opens s xs ≡ true → Ends s fs a m before xs

-- a list of them
pub record ListRuns (p : Parameters) (xs : List Token) : Type 0 where
  pub some : is_some xs ≡ true
  pub runs : (s : Start) (fs : List Frame) (a before : Around) → Rests p fs a Bare → Separates fs → opens s xs ≡ true → Ends s fs a Bare before xs

-- signs that are read alike wherever an operand is complete
abbrev pub goes_on : signs.Sign → Bool
goes_on sign.Colon = false
goes_on sign.Tilde = false
goes_on sign.At = false
goes_on sign.Hash = false
goes_on sign.Literal = false
goes_on sign.Regex = false
goes_on sign.LBrace = false
goes_on sign.Bang = false
goes_on sign.Update = false
goes_on s = true

abbrev pub sign_part : signs.Sign → Bool → Part
sign_part s b = record { kind = Sign s; had_line_break = b }

-- a track that reads these as behind a complete operand
abbrev pub ReadsOn : TrackView → Nested → Type 0
ReadsOn t n = (s : signs.Sign) (b : Bool) → goes_on s ≡ true → stepped t (sign_part s b) ≡ stepped (at state.After n) (sign_part s b)

-- what stands behind an operand: brackets and what is in them, and names behind dots
pub record Follows (t : TrackView) (n : Nested) (xs : List Token) : Type 0 where
  pub pend : Around
  pub run : Run t xs (at state.After (pending pend n))
  pub keeps : n.pending ≡ no_function → pend ≡ no_function

pub record BehindRuns (p : Parameters) (xs : List Token) : Type 0 where
  pub runs : (t : TrackView) (n : Nested) → ReadsOn t n → Fits p n → Follows t n xs

-- the text of a template and what is in it
pub record Spans (fs : List Frame) (a before : Around) (xs : List Token) : Type 0 where
  pub pend : Around
  pub run : Run (at state.Quasi (nested fs a before)) xs (at state.Quasi (nested fs a pend))
  pub keeps : before ≡ no_function → pend ≡ no_function

pub record SpanRuns (p : Parameters) (xs : List Token) : Type 0 where
  pub runs : (fs : List Frame) (kept before : Around) → Spans (record { kind = frame.Template; kept = kept } ∷ fs) (around_of p) before xs

-- commas with nothing between them
pub record GapRuns (xs : List Token) : Type 0 where
  pub runs : (fs : List Frame) (a pend : Around) → Separates fs → over_candidate (top_of fs) ≡ false → Run (at state.Operand (nested fs a pend)) xs (at state.Operand (nested fs a pend))

-- what is in a list, behind its bracket or a comma
pub record ItemRuns (p : Parameters) (xs : List Token) : Type 0 where
  pub runs : (fs : List Frame) (a before : Around) → Rests p fs a Bare → Separates fs → Ends AtOperand fs a Bare before xs

-- a list that may be empty, or end in a comma
pub data Finish : Type 0 where
  Open : Finish
  Shut : Ended → Over → Finish

abbrev pub finished : Finish → List Frame → Around → Around → TrackView
finished Open fs a pend = at state.Operand (nested fs a pend)
finished (Shut e m) fs a pend = ended e (over fs a m pend)

pub record Finishes (fs : List Frame) (a before : Around) (xs : List Token) : Type 0 where
  pub finish : Finish
  pub pend : Around
  pub run : Run (at state.Operand (nested fs a before)) xs (finished finish fs a pend)
  pub keeps : before ≡ no_function → pend ≡ no_function

pub record ParameterRuns (p : Parameters) (xs : List Token) : Type 0 where
  pub runs : (fs : List Frame) (a before : Around) → Rests p fs a Bare → Separates fs → Finishes fs a before xs

-- the parameters of an arrow function
pub data Head : Type 0 where
  HeadOperand : Complete → Head
  HeadParameters : Head

abbrev pub head_state : Head → State
head_state (HeadOperand c) = complete_state c
head_state HeadParameters = state.GroupParameters

pub record Heads (s : Start) (n : Nested) (xs : List Token) : Type 0 where
  pub head : Head
  pub pend : Around
  pub run : Run (begin s n) xs (at (head_state head) (pending pend n))
  pub keeps : n.pending ≡ no_function → pend ≡ no_function

pub record HeadRuns (p : Parameters) (xs : List Token) : Type 0 where
  pub some : is_some xs ≡ true
  pub runs : (s : Start) (n : Nested) → Fits p n → opens s xs ≡ true → Heads s n xs

-- and those of an async one
pub data AsyncHead : Type 0 where
  AsyncOne : AsyncHead
  AsyncAsOne : AsyncHead
  AsyncList : AsyncHead
  AsyncNone : AsyncHead

abbrev pub async_state : AsyncHead → State
async_state AsyncOne = state.AsyncParameter
async_state AsyncAsOne = state.AsyncAs
async_state AsyncList = state.AsyncGroup
async_state AsyncNone = state.AsyncGroupParameters

pub record AsyncHeads (s : Start) (n : Nested) (xs : List Token) : Type 0 where
  pub head : AsyncHead
  pub pend : Around
  pub run : Run (begin s n) xs (at (async_state head) (pending pend n))
  pub keeps : n.pending ≡ no_function → pend ≡ no_function

pub record AsyncHeadRuns (p : Parameters) (xs : List Token) : Type 0 where
  pub some : is_some xs ≡ true
  pub runs : (s : Start) (n : Nested) → Fits p n → opens s xs ≡ true → AsyncHeads s n xs

-- the body of an arrow function
pub record BodyEnds (fs : List Frame) (a inside before : Around) (xs : List Token) : Type 0 where
  pub place : Ended
  pub mark : Over
  pub pend : Around
  pub run : Run (at state.ArrowBody (over fs a (Concise inside) before)) xs (ended place (over fs a mark pend))
  pub label : is_label_end place ≡ false
  pub keeps : before ≡ no_function → pend ≡ no_function

pub record BodyRuns (p : Parameters) (xs : List Token) : Type 0 where
  pub runs : (fs : List Frame) (a before : Around) → Rests p fs a (Concise (around_of p)) → BodyEnds fs a (around_of p) before xs

-- the head of a function or method
pub data Heading : Type 0 where
  Declared : Heading
  Expressed : Heading
  Methodic : Heading

abbrev pub heading_frame : Heading → FrameKind
heading_frame Declared = frame.FunctionHead
heading_frame Expressed = frame.FunctionExpressionHead
heading_frame Methodic = frame.MethodHead

abbrev pub body_frame : Heading → FrameKind
body_frame Declared = frame.Function
body_frame Expressed = frame.FunctionExpression
body_frame Methodic = frame.Method

abbrev pub body_state : Heading → List Frame → State
body_state Declared fs = state.Statement
body_state Expressed fs = state.After
body_state Methodic fs = back_of (top_of fs)

-- parentheses with parameters and braces with a body, wherever the parenthesis is read
abbrev pub Opened : TrackView → Heading → Around → Around → List Frame → Around → Around → Type 0
Opened t h kept a fs around pend = (b : Bool) → stepped t (part (token kind.LParen b)) ≡ at state.Operand (nested (record { kind = frame.Parameters; kept = kept } ∷ record { kind = heading_frame h; kept = a } ∷ fs) around pend)

pub record FunctionRuns (p : Parameters) (xs : List Token) : Type 0 where
  pub runs : (t : TrackView) (h : Heading) (kept a : Around) (fs : List Frame) (pend : Around) → Opened t h kept a fs (around_of p) pend → Run t xs (at (body_state h fs) (nested fs a no_function))

-- What stands in the braces of an object or a class

pub data Holder : Type 0 where
  InObject : Holder
  InClass : Holder
  InClassExpression : Holder

abbrev pub holder_frame : Holder → FrameKind
holder_frame InObject = frame.Object
holder_frame InClass = frame.Class
holder_frame InClassExpression = frame.ClassExpression

abbrev pub holder_state : Holder → State
holder_state InObject = state.Key
holder_state InClass = state.Member
holder_state InClassExpression = state.Member

-- behind `async` there
abbrev pub async_member_state : Holder → State
async_member_state InObject = state.KeyAsync
async_member_state InClass = state.MemberAsync
async_member_state InClassExpression = state.MemberAsync

abbrev pub name_state : Holder → Bool → State
name_state h true = async_member_state h
name_state h false = holder_state h

abbrev pub holder_nest : Holder → Around → List Frame → Around → Around → Nested
holder_nest h kept fs a pend = nested (record { kind = holder_frame h; kept = kept } ∷ fs) a pend

-- the name of a member, also right behind `async`; `async` where no `async` was read is taken for a word before a name
abbrev pub is_name_place : Bool → List Token → Bool
is_name_place true xs = is_on_line xs
is_name_place false xs = true

abbrev pub named_pending : Bool → Around → Around
named_pending true pend = gains_async pend
named_pending false pend = pend

pub record NameEnds (h : Holder) (is_async : Bool) (kept : Around) (fs : List Frame) (a pend : Around) (xs : List Token) : Type 0 where
  pub named : Bool
  pub settled : named ≡ true → pend.is_async ≡ false
  pub run : Run (at (name_state h is_async) (holder_nest h kept fs a pend)) xs (at (name_state h named) (holder_nest h kept fs a (named_pending named pend)))

pub record NameRuns (p : Parameters) (xs : List Token) : Type 0 where
  pub runs : (h : Holder) (is_async : Bool) (kept : Around) (fs : List Frame) (a pend : Around) → a ≡ around_of p → is_name_place is_async xs ≡ true → (is_async ≡ true → pend.is_async ≡ true) → NameEnds h is_async kept fs a pend xs

pub record MemberRuns (p : Parameters) (xs : List Token) : Type 0 where
  pub runs : (h : Holder) (kept : Around) (fs : List Frame) (a : Around) → a ≡ around_of p → Run (at (holder_state h) (holder_nest h kept fs a no_function)) xs (at (holder_state h) (holder_nest h kept fs a no_function))

-- a property ends where its name does, or its value
pub data PropertyEnd : Type 0 where
  NameEnd : PropertyEnd
  ValueEnd : Ended → Over → PropertyEnd

abbrev pub property_ended : PropertyEnd → Around → List Frame → Around → TrackView
property_ended NameEnd kept fs a = at state.Key (holder_nest InObject kept fs a no_function)
property_ended (ValueEnd e m) kept fs a = ended e (over (record { kind = frame.Object; kept = kept } ∷ fs) a m no_function)

pub record Properties (kept : Around) (fs : List Frame) (a : Around) (xs : List Token) : Type 0 where
  pub finish : PropertyEnd
  pub run : Run (at state.Key (holder_nest InObject kept fs a no_function)) xs (property_ended finish kept fs a)

pub record PropertyRuns (p : Parameters) (xs : List Token) : Type 0 where
  pub runs : (kept : Around) (fs : List Frame) (a : Around) → a ≡ around_of p → Properties kept fs a xs

-- a class: its heritage and its braces, of a declaration or an expression
abbrev pub class_head_frame : Bool → FrameKind
class_head_frame true = frame.ClassExpressionHead
class_head_frame false = frame.ClassHead

abbrev pub class_holder : Bool → Holder
class_holder true = InClassExpression
class_holder false = InClass

abbrev pub class_end : Bool → State
class_end true = state.After
class_end false = state.Statement

pub record TailRuns (p : Parameters) (xs : List Token) : Type 0 where
  pub runs : (is_expression : Bool) (kept : Around) (fs : List Frame) (a pend : Around) → a ≡ around_of p → Run (at state.ClassHead (nested (record { kind = class_head_frame is_expression; kept = kept } ∷ fs) a pend)) xs (at (class_end is_expression) (nested fs a no_function))

pub record ElementRuns (p : Parameters) (xs : List Token) : Type 0 where
  pub runs : (is_expression : Bool) (kept : Around) (fs : List Frame) (a : Around) → a ≡ around_of p → Run (at state.Member (holder_nest (class_holder is_expression) kept fs a no_function)) xs (at state.Member (holder_nest (class_holder is_expression) kept fs a no_function))

-- What is declared

pub data Declaring : Type 0 where
  Plainly : Declaring
  ByLet : Declaring

abbrev pub declared_frames : List Frame → Around → List Frame
declared_frames fs a = record { kind = frame.Declaration; kept = a } ∷ fs

abbrev pub declaring : Declaring → List Frame → Around → Around → TrackView
declaring Plainly fs a pend = at state.Binding (nested (declared_frames fs a) a pend)
declaring ByLet fs a pend = at state.MaybeLet (nested fs a pend)

-- a name, or a pattern
pub data Bound : Type 0 where
  ByName : Bound
  ByPattern : Complete → Bound

abbrev pub bound_state : Bound → State
bound_state ByName = state.AfterBinding
bound_state (ByPattern c) = complete_state c

abbrev pub is_label_bound : Bound → Bool
is_label_bound ByName = false
is_label_bound (ByPattern c) = is_label c

pub record Binds (d : Declaring) (fs : List Frame) (a before : Around) (xs : List Token) : Type 0 where
  pub bound : Bound
  pub pend : Around
  pub run : Run (declaring d fs a before) xs (at (bound_state bound) (nested (declared_frames fs a) a pend))
  pub label : is_label_bound bound ≡ false
  pub keeps : before ≡ no_function → pend ≡ no_function

pub record BoundRuns (p : Parameters) (xs : List Token) : Type 0 where
  pub runs : (d : Declaring) (fs : List Frame) (a before : Around) → a ≡ around_of p → Binds d fs a before xs

-- variables: the last one ends with its name, or with its value
pub data VariableEnd : Type 0 where
  NameBound : VariableEnd
  ValueBound : Ended → Over → VariableEnd

abbrev pub variable_ended : VariableEnd → List Frame → Around → Around → TrackView
variable_ended NameBound fs a pend = at state.AfterBinding (nested (declared_frames fs a) a pend)
variable_ended (ValueBound e m) fs a pend = ended e (over (declared_frames fs a) a m pend)

pub record Declares (d : Declaring) (fs : List Frame) (a before : Around) (xs : List Token) : Type 0 where
  pub finish : VariableEnd
  pub pend : Around
  pub run : Run (declaring d fs a before) xs (variable_ended finish fs a pend)
  pub keeps : before ≡ no_function → pend ≡ no_function

pub record DeclarationRuns (p : Parameters) (xs : List Token) : Type 0 where
  pub runs : (d : Declaring) (fs : List Frame) (a before : Around) → a ≡ around_of p → (p.takes_in ≡ true → over_for (top_of fs) ≡ false) → Declares d fs a before xs

-- The head of a `for`

abbrev pub for_frames : List Frame → Around → List Frame
for_frames fs a = record { kind = frame.For; kept = a } ∷ fs

pub record ForEnds (t : TrackView) (fs : List Frame) (a before : Around) (xs : List Token) : Type 0 where
  pub finish : Finish
  pub pend : Around
  pub run : Run t xs (finished finish (for_frames fs a) a pend)
  pub keeps : before ≡ no_function → pend ≡ no_function

pub record ForHeadRuns (p : Parameters) (xs : List Token) : Type 0 where
  pub runs : (fs : List Frame) (before : Around) → ForEnds (at state.ForHead (nested (for_frames fs (around_of p)) (around_of p) before)) fs (around_of p) before xs

-- the first of its three parts
pub data First : Type 0 where
  Nothing : First
  Something : Ended → Over → First

abbrev pub first_ended : First → List Frame → Around → Around → TrackView
first_ended Nothing fs a pend = at state.ForHead (nested (for_frames fs a) a pend)
first_ended (Something e m) fs a pend = ended e (over (for_frames fs a) a m pend)

pub record FirstEnds (fs : List Frame) (a before : Around) (xs : List Token) : Type 0 where
  pub finish : First
  pub pend : Around
  pub run : Run (at state.ForHead (nested (for_frames fs a) a before)) xs (first_ended finish fs a pend)
  pub keeps : before ≡ no_function → pend ≡ no_function

-- an expression there, or none
pub record TestRuns (p : Parameters) (xs : List Token) : Type 0 where
  pub first : (fs : List Frame) (before : Around) → FirstEnds fs (around_of p) before xs
  pub later : (fs : List Frame) (before : Around) → ForEnds (at state.Operand (nested (for_frames fs (around_of p)) (around_of p) before)) fs (around_of p) before xs

-- statements
pub record Continues (fs : List Frame) (a before : Around) (xs : List Token) : Type 0 where
  pub pend : Around
  pub run : Run (at state.Statement (nested fs a before)) xs (at state.Statement (nested fs a pend))
  pub keeps : before ≡ no_function → pend ≡ no_function

pub record StatementRuns (p : Parameters) (xs : List Token) : Type 0 where
  pub runs : (fs : List Frame) (before : Around) → fresh_of (top_of fs) ≡ state.Statement → Continues fs (around_of p) before xs

-- Restrictions of what begins

front-alone : (b c d : Bool) → not (b || (c && d)) ≡ true → not (b || (c && false)) ≡ true
front-alone b c d h = grind (arith, h)

pub opens_front : (s : Start) (xs ys : List Token) → is_some xs ≡ true → opens s (xs ++ ys) ≡ true → opens s xs ≡ true
opens_front s [] ys some h = cc
opens_front AtOperand (x ∷ xs) ys some h = h
opens_front AtStatement (x ∷ []) ys some h = front-alone (begins_declaration x.kind) (is_async_word x.kind) (begins_function ys) h
opens_front AtStatement (x ∷ y ∷ xs) ys some h = h
opens_front AtRestricted (x ∷ xs) ys some h = h
opens_front AtQuestion (x ∷ xs) ys some h = h
opens_front AtArrowBody (x ∷ xs) ys some h = h
opens_front AtForHead (x ∷ xs) ys some h = h
opens_front AtBinding (x ∷ xs) ys some h = h

pub some_front : (xs ys : List Token) → is_some xs ≡ true → is_some (xs ++ ys) ≡ true
some_front [] ys some = cc
some_front (x ∷ xs) ys some = refl

-- Modules

abbrev pub at_top : Around → Around → Nested
at_top a pend = nested [] a pend

abbrev pub in_import : Around → Around → Nested
in_import a pend = nested (record { kind = frame.ImportHead; kept = a } ∷ []) a pend

abbrev pub in_export : Around → Around → Nested
in_export a pend = nested (record { kind = frame.ExportHead; kept = a } ∷ []) a pend

-- names in the braces of an import or export
pub record WordRuns (xs : List Token) : Type 0 where
  pub runs : (n : Nested) → Run (at state.Clause n) xs (at state.Clause n)

-- and those braces
pub record BracesRuns (xs : List Token) : Type 0 where
  pub begins : begins_brace xs ≡ true
  pub runs : (t v : TrackView) (n : Nested) → ((b : Bool) → stepped t (part (token kind.LBrace b)) ≡ at state.Clause n) → ((b : Bool) → stepped (at state.Clause n) (part (token kind.RBrace b)) ≡ v) → Run t xs v

-- around the top, as module code has it
abbrev pub IsModule : Around → Type 0
IsModule a = gains_async a ≡ a

pub record TopEnds (t : TrackView) (a : Around) (xs : List Token) : Type 0 where
  pub pend : Around
  pub run : Run t xs (at state.Statement (at_top a pend))

pub record EndRuns (xs : List Token) : Type 0 where
  pub runs : (a pend : Around) → IsModule a → TopEnds (at state.ImportEnd (in_import a pend)) a xs

abbrev pub begins_import_kind : TokenKind → Bool
begins_import_kind (kind.Word name) = true
begins_import_kind (kind.BinOp binary.Mul) = true
begins_import_kind kind.LBrace = true
begins_import_kind kind = false

abbrev pub begins_import : List Token → Bool
begins_import [] = false
begins_import (x ∷ xs) = begins_import_kind x.kind

pub record Imported (a before : Around) (xs : List Token) : Type 0 where
  pub pend : Around
  pub run : Run (at state.Import (in_import a before)) xs (at state.Import (in_import a pend))

pub record ImportRuns (xs : List Token) : Type 0 where
  pub begins : begins_import xs ≡ true
  pub runs : (a before : Around) → Imported a before xs

pub record ModuleRuns (p : Parameters) (xs : List Token) : Type 0 where
  pub runs : (before : Around) → IsModule (around_of p) → TopEnds (at state.Statement (at_top (around_of p) before)) (around_of p) xs

-- what `export` may stand before
abbrev pub begins_export_kind : TokenKind → Bool
begins_export_kind (kind.Word (word.Keyword keyword.Var)) = true
begins_export_kind (kind.Word (word.Keyword keyword.Const)) = true
begins_export_kind (kind.Word (word.Keyword keyword.Let)) = true
begins_export_kind (kind.Word (word.Keyword keyword.Function)) = true
begins_export_kind (kind.Word (word.Keyword keyword.Class)) = true
begins_export_kind (kind.Word (word.Ident (ident.Known known.Async))) = true
begins_export_kind kind = false

abbrev pub begins_export : List Token → Bool
begins_export [] = false
begins_export (x ∷ xs) = begins_export_kind x.kind

-- A list whose last semicolon may be missing: behind it a right brace, and a line that begins anew, are read as where a
-- statement begins

pub record Opens (fs : List Frame) (a before : Around) (xs : List Token) : Type 0 where
  pub after : TrackView
  pub pend : Around
  pub run : Run (at state.Statement (nested fs a before)) xs after
  pub closes : (b : Bool) → stepped after (part (token kind.RBrace b)) ≡ stepped (at state.Statement (nested fs a pend)) (part (token kind.RBrace b))
  pub anew : (k : TokenKind) → begins_anew_kind k ≡ true → stepped after (part (token k true)) ≡ stepped (at state.Statement (nested fs a pend)) (part (token k true))
  pub keeps : before ≡ no_function → pend ≡ no_function

pub record InsideRuns (p : Parameters) (xs : List Token) : Type 0 where
  pub runs : (fs : List Frame) (before : Around) → fresh_of (top_of fs) ≡ state.Statement → Opens fs (around_of p) before xs
