-- Brackets: which tokens open and close them, which frames stand for them, and when a sequence of tokens is balanced
use Rattle.std.specs.Prelude.{◌≡◌, ◌++◌, Bool, true, false, List, [], ◌∷◌, Option, Some, None}
use Rattle.std.specs.List.{fold}
use Rattle.ecma_role_table.specs.declared.part.Part.{Part}
use Rattle.ecma_role_table.specs.declared.part.PartKind.{PartKind}
use Rattle.ecma_role_table.specs.declared.part.PartKind.TheVariants.{Sign}
use Rattle.ecma_role_table.specs.declared.part.Sign.TheVariants as sign
use Rattle.ecma_role_table.specs.declared.frame.Frame.{Frame}
use Rattle.ecma_role_table.specs.declared.frame.FrameKind.{FrameKind}
use Rattle.ecma_role_table.specs.declared.frame.FrameKind.TheVariants as frame
use Rattle.ecma_role_table.specs.declared.state.State.{State}
use Rattle.ecma_role_table.specs.declared.state.State.TheVariants as state
use Rattle.ecma_role_tracks.specs.Track.{TrackView, track_of, tracked}

pub data Bracket : Type 0 where
  Parentheses : Bracket
  Squares : Bracket
  Braces : Bracket
  Template : Bracket
  Substitution : Bracket

-- Frames

-- the bracket that a frame stands for; marks and angle brackets are none. A substitution has no frame of its own
abbrev pub bracket_of : FrameKind → Option Bracket
bracket_of frame.Block = Some Braces
bracket_of frame.Function = Some Braces
bracket_of frame.FunctionExpression = Some Braces
bracket_of frame.Method = Some Braces
bracket_of frame.ArrowBody = Some Braces
bracket_of frame.Static = Some Braces
bracket_of frame.Class = Some Braces
bracket_of frame.ClassExpression = Some Braces
bracket_of frame.Object = Some Braces
bracket_of frame.Enum = Some Braces
bracket_of frame.Clause = Some Braces
bracket_of frame.InnerBrace = Some Braces
bracket_of frame.OuterBrace = Some Braces
bracket_of frame.Interface = Some Braces
bracket_of frame.Paren = Some Parentheses
bracket_of frame.ParenParameters = Some Parentheses
bracket_of frame.AsyncParen = Some Parentheses
bracket_of frame.AsyncParenParameters = Some Parentheses
bracket_of frame.Call = Some Parentheses
bracket_of frame.Parameters = Some Parentheses
bracket_of frame.Control = Some Parentheses
bracket_of frame.For = Some Parentheses
bracket_of frame.InnerParen = Some Parentheses
bracket_of frame.OuterParen = Some Parentheses
bracket_of frame.OuterPattern = Some Parentheses
bracket_of frame.OuterParameters = Some Parentheses
bracket_of frame.Bracket = Some Squares
bracket_of frame.Computed = Some Squares
bracket_of frame.InnerBracket = Some Squares
bracket_of frame.OuterBracket = Some Squares
bracket_of frame.Template = Some Template
bracket_of frame.InnerTemplate = Some Template
bracket_of frame.OuterTemplate = Some Template
bracket_of kind = None

-- the bracket that is right around a place, and the frames outside of it
pub record Enclosed : Type 0 where
  pub bracket : Bracket
  pub outer : List Frame

abbrev pub enclosed : Bracket → List Frame → Enclosed
enclosed bracket outer = record { bracket = bracket; outer = outer }

abbrev pub nearest : Option Bracket → List Frame → Option Enclosed → Option Enclosed
nearest None outer further = further
nearest (Some bracket) outer further = Some (enclosed bracket outer)

unfoldable pub enclosing : List Frame → Option Enclosed
enclosing [] = None
enclosing (f ∷ fs) = nearest (bracket_of f.kind) fs (enclosing fs)

-- Tokens

abbrev pub closed_parentheses : List Bracket → Option (List Bracket)
closed_parentheses (Parentheses ∷ brackets) = Some brackets
closed_parentheses brackets = None

abbrev pub closed_squares : List Bracket → Option (List Bracket)
closed_squares (Squares ∷ brackets) = Some brackets
closed_squares brackets = None

abbrev pub closed_braces : List Bracket → Option (List Bracket)
closed_braces (Braces ∷ brackets) = Some brackets
closed_braces (Substitution ∷ brackets) = Some brackets
closed_braces brackets = None

-- the brackets that are open, the innermost first, behind one token more
abbrev pub in_code : List Bracket → PartKind → Option (List Bracket)
in_code brackets (Sign sign.LParen) = Some (Parentheses ∷ brackets)
in_code brackets (Sign sign.LBracket) = Some (Squares ∷ brackets)
in_code brackets (Sign sign.LBrace) = Some (Braces ∷ brackets)
in_code brackets (Sign sign.BackQuote) = Some (Template ∷ brackets)
in_code brackets (Sign sign.RParen) = closed_parentheses brackets
in_code brackets (Sign sign.RBracket) = closed_squares brackets
in_code brackets (Sign sign.RBrace) = closed_braces brackets
in_code brackets (Sign sign.DollarLBrace) = None
in_code brackets kind = Some brackets

-- in a template there are its text, substitutions and its end (ECMA-262, 12.9.6)
abbrev pub in_template : List Bracket → PartKind → Option (List Bracket)
in_template brackets (Sign sign.Template) = Some (Template ∷ brackets)
in_template brackets (Sign sign.DollarLBrace) = Some (Substitution ∷ Template ∷ brackets)
in_template brackets (Sign sign.BackQuote) = Some brackets
in_template brackets kind = None

abbrev pub behind_kind : List Bracket → PartKind → Option (List Bracket)
behind_kind (Template ∷ brackets) kind = in_template brackets kind
behind_kind brackets kind = in_code brackets kind

abbrev pub behind_part : Option (List Bracket) → Part → Option (List Bracket)
behind_part None part = None
behind_part (Some brackets) part = behind_kind brackets part.kind

-- each bracket is closed by its partner
abbrev pub IsBalanced : List Part → Type 0
IsBalanced parts = fold behind_part (Some []) parts ≡ Some []

-- States

abbrev pub in_text : State → Bool
in_text state.Quasi = true
in_text other = false

-- in the braces of an import or export, where no bracket is looked for
abbrev pub in_clause : State → Bool
in_clause state.Clause = true
in_clause other = false

-- no token stands in such braces
abbrev pub HasNoClause : TrackView → List Part → Type 0
HasNoClause t parts = (xs ys : List Part) → parts ≡ xs ++ ys → in_clause (tracked t xs).state ≡ false

-- a sequence of tokens that is balanced, within any text, leaves the bracket that is around it, and all outside of that
abbrev pub BracketsEnd : Type 0
BracketsEnd = (typescript is_module : Bool) (before inside : List Part)
    → let t = track_of typescript is_module before in
    in_text t.state ≡ false → IsBalanced inside → HasNoClause t inside
    → enclosing (tracked t inside).nest.frames ≡ enclosing t.nest.frames

-- a token closes a bracket
abbrev pub is_closed_by : Bracket → PartKind → Bool
is_closed_by Parentheses (Sign sign.RParen) = true
is_closed_by Squares (Sign sign.RBracket) = true
is_closed_by Braces (Sign sign.RBrace) = true
is_closed_by b kind = false

-- behind the token that closes a bracket there are the frames that are outside of it, whatever stands between
abbrev pub BracketsGiveBack : Type 0
BracketsGiveBack = (typescript is_module : Bool) (before inside : List Part) (last : Part) (bracket : Bracket) (outer : List Frame)
    → let t = track_of typescript is_module before in
    in_text t.state ≡ false → enclosing t.nest.frames ≡ Some (enclosed bracket outer) → IsBalanced inside → HasNoClause t inside
    → is_closed_by bracket last.kind ≡ true
    → (tracked t (inside ++ last ∷ [])).nest.frames ≡ outer
