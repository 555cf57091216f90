-- Operands and words that are taken into account before the table is asked, by their rows
use Rattle.std.proofs.Common.{◌≡◌, Bool, true, false, refl, arith}
use Rattle.ecma_word.specs.declared.known_ident.KnownIdent.{KnownIdent}
use Rattle.ecma_word.specs.declared.keyword.Keyword.{Keyword}
use Rattle.ecma_role_table.specs.declared.frame.FrameKind.TheVariants as frame
use Rattle.ecma_role_table.specs.declared.moves.Change.TheVariants as change
use Rattle.ecma_role_table.specs.declared.moves.Move.TheVariants as move
use Rattle.ecma_role_table.specs.declared.moves.Turn.TheVariants.{Again, Done}
use Rattle.ecma_role_table.specs.declared.part.Name.TheVariants as name
use Rattle.ecma_role_table.specs.declared.part.PartKind.{PartKind}
use Rattle.ecma_role_table.specs.declared.part.PartKind.TheVariants.{Name, Reserved, Sign}
use Rattle.ecma_role_table.specs.declared.part.Reserved.TheVariants as reserved
use Rattle.ecma_role_table.specs.declared.part.Sign.TheVariants as sign
use Rattle.ecma_role_table.specs.declared.state.State.TheVariants as state
use Rattle.ecma_role_table.specs.Parts.{part_of_keyword, part_of_known}
use Rattle.ecma_role_table.specs.Statements.{statement}
use Rattle.ecma_role_table.specs.Table.{row}
use Rattle.ecma_role_moves.specs.Moves.{changed, entered, moved, turned_to}
use Rattle.ecma_role_moves.specs.Nest.{Nested, pushed}
use Rattle.ecma_roles.specs.Fast.{Takes, is_operand, is_prefix, is_word}
use Rattle.ecma_role_tracks.specs.Track.{read_once, seen, track}
use Rattle.ecma_roles.proofs.FastLemmas.{once, twice}

-- an operand where one is expected
operand-row : (kind : PartKind) (nest : Nested) (typescript had_line_break : Bool) → is_operand kind ≡ true → row state.Operand kind (seen had_line_break typescript nest) ≡ move.To state.After change.Nothing
unfolding row
operand-row kind nest typescript had_line_break holds = grind arith

operand-once : (kind : PartKind) (nest : Nested) (typescript had_line_break : Bool) → is_operand kind ≡ true → read_once (track state.Operand nest typescript) kind had_line_break ≡ turned_to (Done state.After) nest
unfolding read_once moved changed
operand-once kind nest typescript had_line_break holds = rw (operand-row kind nest typescript had_line_break holds) refl

pub operand_takes : (kind : PartKind) (nest : Nested) (had_line_break : Bool) → is_operand kind ≡ true → Takes state.Operand nest kind had_line_break state.After nest
operand_takes kind nest had_line_break holds typescript = once state.Operand nest typescript had_line_break kind state.After nest (operand-once kind nest typescript had_line_break holds)

-- behind `?`
conditional-row : (kind : PartKind) (nest : Nested) (typescript had_line_break : Bool) → is_operand kind ≡ true → row state.Conditional kind (seen had_line_break typescript nest) ≡ move.Again state.Operand change.Nothing
unfolding row
conditional-row kind nest typescript had_line_break holds = grind arith

conditional-once : (kind : PartKind) (nest : Nested) (typescript had_line_break : Bool) → is_operand kind ≡ true → read_once (track state.Conditional nest typescript) kind had_line_break ≡ turned_to (Again state.Operand kind) nest
unfolding read_once moved changed
conditional-once kind nest typescript had_line_break holds = rw (conditional-row kind nest typescript had_line_break holds) refl

pub conditional_takes : (kind : PartKind) (nest : Nested) (had_line_break : Bool) → is_operand kind ≡ true → Takes state.Conditional nest kind had_line_break state.After nest
conditional_takes kind nest had_line_break holds typescript = twice state.Conditional state.Operand nest nest typescript had_line_break kind state.After nest (conditional-once kind nest typescript had_line_break holds) (operand-once kind nest typescript had_line_break holds)

-- behind `return`, on its line
returned-row : (kind : PartKind) (nest : Nested) (typescript : Bool) → is_operand kind ≡ true → row state.Restricted kind (seen false typescript nest) ≡ move.Again state.Operand change.Nothing
unfolding row
returned-row kind nest typescript holds = grind arith

returned-once : (kind : PartKind) (nest : Nested) (typescript : Bool) → is_operand kind ≡ true → read_once (track state.Restricted nest typescript) kind false ≡ turned_to (Again state.Operand kind) nest
unfolding read_once moved changed
returned-once kind nest typescript holds = rw (returned-row kind nest typescript holds) refl

pub returned_takes : (kind : PartKind) (nest : Nested) → is_operand kind ≡ true → Takes state.Restricted nest kind false state.After nest
returned_takes kind nest holds typescript = twice state.Restricted state.Operand nest nest typescript false kind state.After nest (returned-once kind nest typescript holds) (operand-once kind nest typescript false holds)

-- a number, a string or `this` where a statement begins
pub literal_begins : (nest : Nested) (had_line_break : Bool) → Takes state.Statement nest (Sign sign.Literal) had_line_break state.After nest
unfolding read_once row moved changed statement
literal_begins nest had_line_break typescript = twice state.Statement state.Operand nest nest typescript had_line_break (Sign sign.Literal) state.After nest refl (operand-once (Sign sign.Literal) nest typescript had_line_break refl)

pub this_begins : (nest : Nested) (had_line_break : Bool) → Takes state.Statement nest (Reserved reserved.This) had_line_break state.After nest
unfolding read_once row moved changed statement
this_begins nest had_line_break typescript = twice state.Statement state.Operand nest nest typescript had_line_break (Reserved reserved.This) state.After nest refl (operand-once (Reserved reserved.This) nest typescript had_line_break refl)

pub literal_is_key : (nest : Nested) (had_line_break : Bool) → Takes state.Key nest (Sign sign.Literal) had_line_break state.Key nest
unfolding read_once row moved changed
literal_is_key nest had_line_break typescript = once state.Key nest typescript had_line_break (Sign sign.Literal) state.Key nest refl

-- a word behind a dot
word-row : (kind : PartKind) (nest : Nested) (typescript had_line_break : Bool) → is_word kind ≡ true → row state.Property kind (seen had_line_break typescript nest) ≡ move.To state.After change.Nothing
unfolding row
word-row kind nest typescript had_line_break holds = grind arith

word-once : (kind : PartKind) (nest : Nested) (typescript had_line_break : Bool) → is_word kind ≡ true → read_once (track state.Property nest typescript) kind had_line_break ≡ turned_to (Done state.After) nest
unfolding read_once moved changed
word-once kind nest typescript had_line_break holds = rw (word-row kind nest typescript had_line_break holds) refl

pub word_takes : (kind : PartKind) (nest : Nested) (had_line_break : Bool) → is_word kind ≡ true → Takes state.Property nest kind had_line_break state.After nest
word_takes kind nest had_line_break holds typescript = once state.Property nest typescript had_line_break kind state.After nest (word-once kind nest typescript had_line_break holds)

pub known_is_word : (n : KnownIdent) → is_word (part_of_known n) ≡ true
known_is_word n = grind arith

pub keyword_is_word : (k : Keyword) → is_word (part_of_keyword k) ≡ true
keyword_is_word k = grind arith

-- a name that no row asks for
pub name_begins : (nest : Nested) (had_line_break : Bool) → Takes state.Statement nest (Name name.Other) had_line_break state.Label nest
unfolding read_once row moved changed statement
name_begins nest had_line_break typescript = once state.Statement nest typescript had_line_break (Name name.Other) state.Label nest refl

pub name_is_bound : (nest : Nested) (had_line_break : Bool) → Takes state.Binding nest (Name name.Other) had_line_break state.AfterBinding nest
unfolding read_once row moved changed
name_is_bound nest had_line_break typescript = once state.Binding nest typescript had_line_break (Name name.Other) state.AfterBinding nest refl

pub name_is_key : (nest : Nested) (had_line_break : Bool) → Takes state.Key nest (Name name.Other) had_line_break state.Key nest
unfolding read_once row moved changed
name_is_key nest had_line_break typescript = once state.Key nest typescript had_line_break (Name name.Other) state.Key nest refl

pub name_is_in_head : (nest : Nested) (had_line_break : Bool) → Takes state.Head nest (Name name.Other) had_line_break state.Head nest
unfolding read_once row moved changed
name_is_in_head nest had_line_break typescript = once state.Head nest typescript had_line_break (Name name.Other) state.Head nest refl

pub name_is_body : (nest : Nested) (had_line_break : Bool) → Takes state.ArrowBody nest (Name name.Other) had_line_break state.After nest
unfolding read_once row moved changed
name_is_body nest had_line_break typescript = twice state.ArrowBody state.Operand nest nest typescript had_line_break (Name name.Other) state.After nest refl (operand-once (Name name.Other) nest typescript had_line_break refl)

pub name_behind_let : (nest : Nested) (had_line_break : Bool) → Takes state.MaybeLet nest (Name name.Other) had_line_break state.AfterBinding (pushed frame.Declaration nest)
unfolding read_once row moved changed
name_behind_let nest had_line_break typescript = twice state.MaybeLet state.Binding nest (pushed frame.Declaration nest) typescript had_line_break (Name name.Other) state.AfterBinding (pushed frame.Declaration nest) refl refl

-- keywords
prefix-row : (kind : PartKind) (nest : Nested) (typescript had_line_break : Bool) → is_prefix kind ≡ true → row state.Operand kind (seen had_line_break typescript nest) ≡ move.To state.Operand change.Nothing
unfolding row
prefix-row kind nest typescript had_line_break holds = grind arith

prefix-once : (kind : PartKind) (nest : Nested) (typescript had_line_break : Bool) → is_prefix kind ≡ true → read_once (track state.Operand nest typescript) kind had_line_break ≡ turned_to (Done state.Operand) nest
unfolding read_once moved changed
prefix-once kind nest typescript had_line_break holds = rw (prefix-row kind nest typescript had_line_break holds) refl

pub prefix_takes : (kind : PartKind) (nest : Nested) (had_line_break : Bool) → is_prefix kind ≡ true → Takes state.Operand nest kind had_line_break state.Operand nest
prefix_takes kind nest had_line_break holds typescript = once state.Operand nest typescript had_line_break kind state.Operand nest (prefix-once kind nest typescript had_line_break holds)

pub return_begins : (nest : Nested) (had_line_break : Bool) → Takes state.Statement nest (Reserved reserved.Return) had_line_break state.Restricted nest
unfolding read_once row moved changed statement
return_begins nest had_line_break typescript = once state.Statement nest typescript had_line_break (Reserved reserved.Return) state.Restricted nest refl

pub declaration_begins : (nest : Nested) (had_line_break : Bool) → Takes state.Statement nest (Reserved reserved.Declare) had_line_break state.Binding (pushed frame.Declaration nest)
unfolding read_once row moved changed statement
declaration_begins nest had_line_break typescript = once state.Statement nest typescript had_line_break (Reserved reserved.Declare) state.Binding (pushed frame.Declaration nest) refl

pub control_begins : (nest : Nested) (had_line_break : Bool) → Takes state.Statement nest (Reserved reserved.Control) had_line_break state.Control nest
unfolding read_once row moved changed statement
control_begins nest had_line_break typescript = once state.Statement nest typescript had_line_break (Reserved reserved.Control) state.Control nest refl

pub statement_follows : (nest : Nested) (had_line_break : Bool) → Takes state.Statement nest (Reserved reserved.BeforeStatement) had_line_break state.Statement nest
unfolding read_once row moved changed statement
statement_follows nest had_line_break typescript = once state.Statement nest typescript had_line_break (Reserved reserved.BeforeStatement) state.Statement nest refl

pub let_begins : (nest : Nested) (had_line_break : Bool) → Takes state.Statement nest (Name name.Let) had_line_break state.MaybeLet nest
unfolding read_once row moved changed statement
let_begins nest had_line_break typescript = once state.Statement nest typescript had_line_break (Name name.Let) state.MaybeLet nest refl

pub function_begins : (nest : Nested) (had_line_break : Bool) → Takes state.Statement nest (Reserved reserved.Function) had_line_break state.Head (entered frame.FunctionHead false nest)
unfolding read_once row moved changed statement
function_begins nest had_line_break typescript = once state.Statement nest typescript had_line_break (Reserved reserved.Function) state.Head (entered frame.FunctionHead false nest) refl

pub for_begins : (nest : Nested) (had_line_break : Bool) → Takes state.Statement nest (Reserved reserved.For) had_line_break state.ForKeyword nest
unfolding read_once row moved changed statement
for_begins nest had_line_break typescript = once state.Statement nest typescript had_line_break (Reserved reserved.For) state.ForKeyword nest refl

pub case_begins : (nest : Nested) (had_line_break : Bool) → Takes state.Statement nest (Reserved reserved.Case) had_line_break state.Operand (pushed frame.Case nest)
unfolding read_once row moved changed statement
case_begins nest had_line_break typescript = once state.Statement nest typescript had_line_break (Reserved reserved.Case) state.Operand (pushed frame.Case nest) refl

pub break_begins : (nest : Nested) (had_line_break : Bool) → Takes state.Statement nest (Reserved reserved.Break) had_line_break state.Break nest
unfolding read_once row moved changed statement
break_begins nest had_line_break typescript = once state.Statement nest typescript had_line_break (Reserved reserved.Break) state.Break nest refl

pub function_is_operand : (nest : Nested) (had_line_break : Bool) → Takes state.Operand nest (Reserved reserved.Function) had_line_break state.Head (entered frame.FunctionExpressionHead false nest)
unfolding read_once row moved changed
function_is_operand nest had_line_break typescript = once state.Operand nest typescript had_line_break (Reserved reserved.Function) state.Head (entered frame.FunctionExpressionHead false nest) refl

-- where the head of a `for` begins
pub declaration_in_head : (nest : Nested) (had_line_break : Bool) → Takes state.ForHead nest (Reserved reserved.Declare) had_line_break state.Binding (pushed frame.Declaration nest)
unfolding read_once row moved changed
declaration_in_head nest had_line_break typescript = once state.ForHead nest typescript had_line_break (Reserved reserved.Declare) state.Binding (pushed frame.Declaration nest) refl

pub let_in_head : (nest : Nested) (had_line_break : Bool) → Takes state.ForHead nest (Name name.Let) had_line_break state.MaybeLet nest
unfolding read_once row moved changed
let_in_head nest had_line_break typescript = once state.ForHead nest typescript had_line_break (Name name.Let) state.MaybeLet nest refl
