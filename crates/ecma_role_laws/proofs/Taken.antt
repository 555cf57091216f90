-- What a token that is taken into account does to the nearest bracket
use Rattle.std.proofs.Common.{◌≡◌, true, false, List, Option, Some, ◌⊎◌}
use Rattle.ecma_role_table.specs.declared.part.PartKind.{PartKind}
use Rattle.ecma_role_table.specs.declared.part.PartKind.TheVariants.{Sign}
use Rattle.ecma_role_table.specs.declared.part.Sign.TheVariants as sign
use Rattle.ecma_role_table.specs.declared.frame.Frame.{Frame}
use Rattle.ecma_role_table.specs.declared.state.State.{State}
use Rattle.ecma_role_table.specs.declared.moves.Turn.{Turn}
use Rattle.ecma_role_table.specs.declared.moves.Turn.TheVariants.{Again, Done}
use Rattle.ecma_role_laws.specs.Brackets.{Bracket, Enclosed, Parentheses, Squares, Braces, Template, enclosed, enclosing, in_text}
use Rattle.ecma_role_laws.proofs.Right.{is_code, is_left_brace, is_plain}

-- a bracket more, inside of what was
abbrev pub OpenedIn : Bracket → List Frame → Option Enclosed → Type 0
OpenedIn b after was = (outer : List Frame) × ((enclosing after ≡ Some (enclosed b outer)) × (enclosing outer ≡ was))

-- its frame goes, and all inside of that
abbrev pub Closed : Bracket → Option Enclosed → List Frame → State → Type 0
Closed b was after s = (outer : List Frame) → was ≡ Some (enclosed b outer) → (after ≡ outer) × (in_text s ≡ false)

-- a right brace goes back to the text of a template
abbrev pub GoesBack : Option Enclosed → List Frame → State → Type 0
GoesBack was after s = (outer : List Frame) → was ≡ Some (enclosed Template outer) → (enclosing after ≡ was) × (in_text s ≡ true)

abbrev pub Taken : PartKind → Option Enclosed → List Frame → State → Type 0
Taken (Sign sign.LParen) was after s = OpenedIn Parentheses after was × (in_text s ≡ false)
Taken (Sign sign.LBracket) was after s = OpenedIn Squares after was × (in_text s ≡ false)
Taken (Sign sign.LBrace) was after s = OpenedIn Braces after was × (in_text s ≡ false)
Taken (Sign sign.BackQuote) was after s = OpenedIn Template after was × (in_text s ≡ true)
Taken (Sign sign.RParen) was after s = Closed Parentheses was after s
Taken (Sign sign.RBracket) was after s = Closed Squares was after s
Taken (Sign sign.RBrace) was after s = Closed Braces was after s × GoesBack was after s
Taken kind was after s = (enclosing after ≡ was) × (in_text s ≡ false)

abbrev pub SameKind : PartKind → PartKind → Type 0
SameKind kind left = (left ≡ kind) ⊎ ((is_plain kind ≡ true) × (is_plain left ≡ true))

abbrev pub EffectOf : PartKind → Option Enclosed → Turn → List Frame → Type 0
EffectOf kind was (Again s left) after = (enclosing after ≡ was) × ((is_code s ≡ true) × SameKind kind left)
EffectOf kind was (Done s) after = Taken kind was after s

pub plain_taken : (kind : PartKind) (was : Option Enclosed) (after : List Frame) (s : State) → is_plain kind ≡ true → enclosing after ≡ was → in_text s ≡ false → Taken kind was after s
plain_taken (Sign sign.LParen) was after s plain kept text = cc
plain_taken (Sign sign.LBracket) was after s plain kept text = cc
plain_taken (Sign sign.LBrace) was after s plain kept text = cc
plain_taken (Sign sign.BackQuote) was after s plain kept text = cc
plain_taken (Sign sign.RParen) was after s plain kept text = cc
plain_taken (Sign sign.RBracket) was after s plain kept text = cc
plain_taken (Sign sign.RBrace) was after s plain kept text = cc
plain_taken kind was after s plain kept text = (kept, text)

pub plain_kept : (kind : PartKind) (was : Option Enclosed) (after : List Frame) (s : State) → is_plain kind ≡ true → Taken kind was after s → (enclosing after ≡ was) × (in_text s ≡ false)
plain_kept (Sign sign.LParen) was after s plain taken = cc
plain_kept (Sign sign.LBracket) was after s plain taken = cc
plain_kept (Sign sign.LBrace) was after s plain taken = cc
plain_kept (Sign sign.BackQuote) was after s plain taken = cc
plain_kept (Sign sign.RParen) was after s plain taken = cc
plain_kept (Sign sign.RBracket) was after s plain taken = cc
plain_kept (Sign sign.RBrace) was after s plain taken = cc
plain_kept kind was after s plain taken = taken

pub brace_taken : (kind : PartKind) (was : Option Enclosed) (after : List Frame) (s : State) → is_left_brace kind ≡ true → OpenedIn Braces after was → in_text s ≡ false → Taken kind was after s
brace_taken (Sign sign.LBrace) was after s left opened text = (opened, text)
brace_taken kind was after s left opened text = cc
