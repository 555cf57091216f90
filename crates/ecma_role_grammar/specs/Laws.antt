-- What is stated of a track of tokens and the grammar
use Rattle.std.specs.Prelude.{◌≡◌, true, ◌++◌, Bool, false, List, ◌∷◌, Some}
use Rattle.ecma_role_table.specs.declared.frame.Around.{Around}
use Rattle.ecma_role_table.specs.declared.frame.Kinds.TheVariants as kinds
use Rattle.ecma_role_table.specs.declared.state.State.{State}
use Rattle.ecma_role_table.specs.declared.state.State.TheVariants as state
use Rattle.ecma_role_moves.specs.Moves.{fresh_of}
use Rattle.ecma_role_moves.specs.Nest.{dropped, over_kinds, top}
use Rattle.ecma_role_tracks.specs.Slashes.{completes, expects_operand}
use Rattle.ecma_role_tracks.specs.Track.{TrackView, first, tracked}
use Rattle.ecma_role_grammar.specs.Tokens.{Role, Token, begins_operand, parts, role_of}
use Rattle.ecma_role_grammar.specs.Grammar.{AssignmentExpression, Body, Derives, ModuleItemList, Parameters, StatementList, module_code}

-- what the function around is, by the parameters of a nonterminal
abbrev pub around_of : Parameters → Around
around_of p = record { is_async = p.is_async; is_generator = p.is_generator }

-- a statement begins, over whatever statements stand in: nothing, or the braces of a block, function, method, arrow
-- function or static block; in JavaScript
pub record Begins (p : Parameters) (t : TrackView) : Type 0 where
  pub begins : t.state ≡ state.Statement
  pub over : fresh_of (top t.nest) ≡ state.Statement
  pub around : t.nest.around ≡ around_of p
  pub javascript : t.typescript ≡ false

-- each slash among the tokens has the role that the track gives it
abbrev pub RolesAreRight : TrackView → List Token → Type 0
RolesAreRight t tokens = (before after : List Token) (x : Token) (is_assign : Bool) (role : Role)
    → tokens ≡ before ++ x ∷ after → role_of x.kind is_assign ≡ Some role
    → expects_operand (tracked t (parts before)) is_assign ≡ begins_operand role

-- behind a list of statements the next one begins, and what encloses the place is as it was
pub record EndsStatements (t u : TrackView) : Type 0 where
  pub begins : u.state ≡ state.Statement
  pub frames : u.nest.frames ≡ t.nest.frames
  pub around : u.nest.around ≡ t.nest.around

-- each slash of a list of statements that the grammar derives, the semicolon of the last one written or not, has the role that
-- the track gives it
abbrev pub StatementsHaveTheirRoles : Type 0
StatementsHaveTheirRoles = (p : Parameters) (tokens : List Token) (t : TrackView) → Derives Body p tokens → Begins p t → RolesAreRight t tokens

abbrev pub StatementsEnd : Type 0
StatementsEnd = (p : Parameters) (tokens : List Token) (t : TrackView) → Derives StatementList p tokens → Begins p t → EndsStatements t (tracked t (parts tokens))

-- an operand is expected, within whatever bracket, in JavaScript
pub record Expects (p : Parameters) (t : TrackView) : Type 0 where
  pub begins : t.state ≡ state.Operand
  pub over : over_kinds kinds.Marks (top t.nest) ≡ false
  pub around : t.nest.around ≡ around_of p
  pub javascript : t.typescript ≡ false

-- behind an expression an operand is complete, or the braces of an arrow function are, or `yield` stands with nothing behind it
abbrev pub ends_expression : State → Bool
ends_expression state.ArrowEnd = true
ends_expression state.Restricted = true
ends_expression other = completes other

-- what encloses the place is as it was but for marks, which go with the next bracket, comma or semicolon
pub record EndsExpression (t u : TrackView) : Type 0 where
  pub ends : ends_expression u.state ≡ true
  pub frames : (dropped kinds.Marks u.nest).frames ≡ t.nest.frames
  pub around : (dropped kinds.Marks u.nest).around ≡ t.nest.around

abbrev pub ExpressionsHaveTheirRoles : Type 0
ExpressionsHaveTheirRoles = (p : Parameters) (tokens : List Token) (t : TrackView) → Derives AssignmentExpression p tokens → Expects p t → RolesAreRight t tokens

abbrev pub ExpressionsEnd : Type 0
ExpressionsEnd = (p : Parameters) (tokens : List Token) (t : TrackView) → Derives AssignmentExpression p tokens → Expects p t → EndsExpression t (tracked t (parts tokens))

-- where two programs of the grammar begin with the same tokens and a slash is next in both, it has one role
abbrev pub SlashesHaveOneRole : Type 0
SlashesHaveOneRole = (p : Parameters) (before xs ys : List Token) (x y : Token) (is_assign : Bool) (r s : Role)
    → Derives Body p (before ++ x ∷ xs) → Derives Body p (before ++ y ∷ ys)
    → role_of x.kind is_assign ≡ Some r → role_of y.kind is_assign ≡ Some s → r ≡ s

-- the same of modules, from their first token on
abbrev pub ModulesHaveTheirRoles : Type 0
ModulesHaveTheirRoles = (tokens : List Token) → Derives ModuleItemList module_code tokens → RolesAreRight (first false true) tokens

abbrev pub ModulesHaveOneRole : Type 0
ModulesHaveOneRole = (before xs ys : List Token) (x y : Token) (is_assign : Bool) (r s : Role)
    → Derives ModuleItemList module_code (before ++ x ∷ xs) → Derives ModuleItemList module_code (before ++ y ∷ ys)
    → role_of x.kind is_assign ≡ Some r → role_of y.kind is_assign ≡ Some s → r ≡ s
