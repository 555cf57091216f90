-- The first token of an expression, wherever it begins
use Rattle.std.proofs.Common.{◌≡◌, ◌∙◌, ap, ℕ, suc, Bool, true, false, not, List, [], ◌∷◌, Some, None, refl, arith, ◌&&◌, ◌||◌}
use Rattle.ecma_word.specs.declared.keyword.Keyword.TheVariants as keyword
use Rattle.ecma_word.specs.declared.known_ident.KnownIdent.TheVariants as known
use Rattle.ecma_word.specs.declared.word.WordKind.{WordKind}
use Rattle.ecma_word.specs.declared.word.WordKind.TheVariants as word
use Rattle.ecma_word.specs.declared.word.IdentKind.TheVariants as ident
use Rattle.ecma_word.specs.declared.operator.BinOpToken.TheVariants as binary
use Rattle.ecma_token_kind.specs.declared.kind.TokenKind.{TokenKind}
use Rattle.ecma_token_kind.specs.declared.kind.TokenKind.TheVariants as kind
use Rattle.ecma_role_table.specs.declared.part.PartKind.{PartKind}
use Rattle.ecma_role_table.specs.declared.part.PartKind.TheVariants.{Name}
use Rattle.ecma_role_table.specs.declared.part.Name as names
use Rattle.ecma_role_table.specs.declared.part.Name.TheVariants as name
use Rattle.ecma_role_table.specs.declared.frame.Around.{Around}
use Rattle.ecma_role_table.specs.declared.state.State.{State}
use Rattle.ecma_role_table.specs.declared.state.State.TheVariants as state
use Rattle.ecma_role_table.specs.declared.moves.Turn.TheVariants.{Again, Done}
use Rattle.ecma_role_table.specs.Parts.{part_of_kind, part_of_word}
use Rattle.ecma_role_table.specs.Table.{row}
use Rattle.ecma_role_table.specs.Statements as statements
use Rattle.ecma_role_moves.specs.Moves.{changed, moved, turned_to}
use Rattle.ecma_role_moves.specs.Nest.{Nested}
use Rattle.ecma_role_tracks.specs.Track.{TrackView, read_once, read_times, reading, stepped, track}
use Rattle.ecma_role_tracks.proofs.TrackLemmas.{nothing_left, one_more}
use Rattle.ecma_role_grammar.specs.Tokens.{Token, part, token}
use Rattle.ecma_role_grammar.specs.Grammar.{Parameters, begins_brace, begins_declaration, begins_function, is_async_word, is_identifier}
use Rattle.ecma_role_grammar.specs.Laws.{around_of}
use Rattle.ecma_role_grammar.proofs.Places.{AtArrowBody, AtBinding, AtForHead, AtOperand, AtQuestion, AtRestricted, AtStatement, Complete, InterfaceOr, LabelOr, Plain, Start, TypeOr, at, begin, begins_pattern_kind, complete_state, completed, is_label, is_statement, opens}

-- a token that is read at once
pub taken : (i : ℕ) (b : Bool) (t : TrackView) (k : PartKind) (s : State) (n : Nested) → read_once t k b ≡ turned_to (Done s) n → read_times (suc i) b (reading t (Some k)) ≡ reading (track s n t.typescript) None
taken i b t k s n is = one_more i b t k ∙ rw is (nothing_left i b (track s n t.typescript))

-- and one that is read again
pub again : (i : ℕ) (b : Bool) (t : TrackView) (k left : PartKind) (s : State) (n : Nested) → read_once t k b ≡ turned_to (Again s left) n → read_times (suc i) b (reading t (Some k)) ≡ read_times i b (reading (track s n t.typescript) (Some left))
again i b t k left s n is = one_more i b t k ∙ rw is refl

-- what an expression begins with, names aside
abbrev pub starts : TokenKind → Bool
starts (kind.Word (word.Keyword keyword.This)) = true
starts (kind.Word (word.Keyword keyword.Super)) = true
starts (kind.Word (word.Keyword keyword.Delete)) = true
starts (kind.Word (word.Keyword keyword.Void)) = true
starts (kind.Word (word.Keyword keyword.TypeOf)) = true
starts (kind.Word (word.Keyword keyword.New)) = true
starts (kind.Word (word.Keyword keyword.Function)) = true
starts (kind.Word (word.Keyword keyword.Class)) = true
starts (kind.Word word.Null) = true
starts (kind.Word word.True) = true
starts (kind.Word word.False) = true
starts (kind.BinOp binary.Add) = true
starts (kind.BinOp binary.Sub) = true
starts kind.Regex = true
starts kind.Num = true
starts kind.BigInt = true
starts kind.Str = true
starts kind.LParen = true
starts kind.LBracket = true
starts kind.LBrace = true
starts kind.Bang = true
starts kind.Tilde = true
starts kind.PlusPlus = true
starts kind.MinusMinus = true
starts kind.BackQuote = true
starts kind.DotDotDot = true
starts kind.Hash = true
starts kind = false

abbrev ReadAgain : State → Nested → TokenKind → Bool → Type 0
ReadAgain s n kind b = read_once (at s n) (part_of_kind kind) b ≡ turned_to (Again state.Operand (part_of_kind kind)) n

abbrev Everywhere : Nested → TokenKind → Bool → Type 0
Everywhere n kind b =
    (begins_declaration kind ≡ false → ReadAgain state.Statement n kind b)
    × ReadAgain state.Restricted n kind false
    × ReadAgain state.Conditional n kind b
    × (begins_brace (token kind b ∷ []) ≡ false → ReadAgain state.ArrowBody n kind b)
    × ReadAgain state.ForHead n kind b
    × (begins_pattern_kind kind ≡ true → ReadAgain state.Binding n kind b)

read-again : (n : Nested) (kind : TokenKind) (b : Bool) → starts kind ≡ true → Everywhere n kind b
unfolding read_once row moved changed statements.statement
read-again n (kind.Word (word.Keyword keyword.This)) b h = (λ _. refl, refl, refl, λ _. refl, refl, λ k. absurd cc)
read-again n (kind.Word (word.Keyword keyword.Super)) b h = (λ _. refl, refl, refl, λ _. refl, refl, λ k. absurd cc)
read-again n (kind.Word (word.Keyword keyword.Delete)) b h = (λ _. refl, refl, refl, λ _. refl, refl, λ k. absurd cc)
read-again n (kind.Word (word.Keyword keyword.Void)) b h = (λ _. refl, refl, refl, λ _. refl, refl, λ k. absurd cc)
read-again n (kind.Word (word.Keyword keyword.TypeOf)) b h = (λ _. refl, refl, refl, λ _. refl, refl, λ k. absurd cc)
read-again n (kind.Word (word.Keyword keyword.New)) b h = (λ _. refl, refl, refl, λ _. refl, refl, λ k. absurd cc)
read-again n (kind.Word (word.Keyword keyword.Function)) b h = (λ h. cc, refl, refl, λ _. refl, refl, λ k. absurd cc)
read-again n (kind.Word (word.Keyword keyword.Class)) b h = (λ h. cc, refl, refl, λ _. refl, refl, λ k. absurd cc)
read-again n (kind.Word word.Null) b h = (λ _. refl, refl, refl, λ _. refl, refl, λ k. absurd cc)
read-again n (kind.Word word.True) b h = (λ _. refl, refl, refl, λ _. refl, refl, λ k. absurd cc)
read-again n (kind.Word word.False) b h = (λ _. refl, refl, refl, λ _. refl, refl, λ k. absurd cc)
read-again n (kind.BinOp binary.Add) b h = (λ _. refl, refl, refl, λ _. refl, refl, λ k. absurd cc)
read-again n (kind.BinOp binary.Sub) b h = (λ _. refl, refl, refl, λ _. refl, refl, λ k. absurd cc)
read-again n kind.Regex b h = (λ _. refl, refl, refl, λ _. refl, refl, λ k. absurd cc)
read-again n kind.Num b h = (λ _. refl, refl, refl, λ _. refl, refl, λ k. absurd cc)
read-again n kind.BigInt b h = (λ _. refl, refl, refl, λ _. refl, refl, λ k. absurd cc)
read-again n kind.Str b h = (λ _. refl, refl, refl, λ _. refl, refl, λ k. absurd cc)
read-again n kind.LParen b h = (λ _. refl, refl, refl, λ _. refl, refl, λ k. absurd cc)
read-again n kind.LBracket b h = (λ _. refl, refl, refl, λ _. refl, refl, λ _. refl)
read-again n kind.LBrace b h = (λ h. cc, refl, refl, λ h. cc, refl, λ _. refl)
read-again n kind.Bang b h = (λ _. refl, refl, refl, λ _. refl, refl, λ k. absurd cc)
read-again n kind.Tilde b h = (λ _. refl, refl, refl, λ _. refl, refl, λ k. absurd cc)
read-again n kind.PlusPlus b h = (λ _. refl, refl, refl, λ _. refl, refl, λ k. absurd cc)
read-again n kind.MinusMinus b h = (λ _. refl, refl, refl, λ _. refl, refl, λ k. absurd cc)
read-again n kind.BackQuote b h = (λ _. refl, refl, refl, λ _. refl, refl, λ k. absurd cc)
read-again n kind.DotDotDot b h = (λ _. refl, refl, refl, λ _. refl, refl, λ k. absurd cc)
read-again n kind.Hash b h = (λ _. refl, refl, refl, λ _. refl, refl, λ k. absurd cc)
read-again n kind b h = absurd cc

not-true : (b : Bool) → not b ≡ true → b ≡ false
not-true b h = grind (arith, h)

not-or : (b c : Bool) → not (b || c) ≡ true → b ≡ false
not-or b c h = grind (arith, h)

pub from_start : (s : Start) (n : Nested) (kind : TokenKind) (b : Bool) (xs : List Token) (behind : State) (after : Nested) → starts kind ≡ true → opens s (token kind b ∷ xs) ≡ true
    → read_once (at state.Operand n) (part_of_kind kind) b ≡ turned_to (Done behind) after → stepped (begin s n) (part (token kind b)) ≡ at behind after
from_start AtOperand n kind b xs behind after h o is = ap (λ r. r.track) (taken 7 b (at state.Operand n) (part_of_kind kind) behind after is)
from_start AtStatement n kind b xs behind after h o is =
    ap (λ r. r.track) (again 7 b (at state.Statement n) (part_of_kind kind) (part_of_kind kind) state.Operand n ((read-again n kind b h).0 (not-or (begins_declaration kind) (is_async_word kind && begins_function xs) o)) ∙ taken 6 b (at state.Operand n) (part_of_kind kind) behind after is)
from_start AtRestricted n kind true xs behind after h o is = absurd cc
from_start AtRestricted n kind false xs behind after h o is =
    ap (λ r. r.track) (again 7 false (at state.Restricted n) (part_of_kind kind) (part_of_kind kind) state.Operand n (read-again n kind false h).1 ∙ taken 6 false (at state.Operand n) (part_of_kind kind) behind after is)
from_start AtQuestion n kind b xs behind after h o is =
    ap (λ r. r.track) (again 7 b (at state.Conditional n) (part_of_kind kind) (part_of_kind kind) state.Operand n (read-again n kind b h).2 ∙ taken 6 b (at state.Operand n) (part_of_kind kind) behind after is)
from_start AtArrowBody n kind b xs behind after h o is =
    ap (λ r. r.track) (again 7 b (at state.ArrowBody n) (part_of_kind kind) (part_of_kind kind) state.Operand n ((read-again n kind b h).3 (not-true (begins_brace (token kind b ∷ [])) o)) ∙ taken 6 b (at state.Operand n) (part_of_kind kind) behind after is)
from_start AtForHead n kind b xs behind after h o is =
    ap (λ r. r.track) (again 7 b (at state.ForHead n) (part_of_kind kind) (part_of_kind kind) state.Operand n (read-again n kind b h).4 ∙ taken 6 b (at state.Operand n) (part_of_kind kind) behind after is)
from_start AtBinding n kind b xs behind after h o is =
    ap (λ r. r.track) (again 7 b (at state.Binding n) (part_of_kind kind) (part_of_kind kind) state.Operand n ((read-again n kind b h).5 o) ∙ taken 6 b (at state.Operand n) (part_of_kind kind) behind after is)

-- names

abbrev pub is_plain : names.Name → Around → Bool
is_plain name.Await around = not around.is_async
is_plain name.Yield around = not around.is_generator
is_plain name.Async around = false
is_plain name.Let around = false
is_plain m around = true

abbrev pub name_of : PartKind → names.Name
name_of (Name m) = m
name_of other = name.Other

pub identifier_name : (p : Parameters) (w : WordKind) → is_identifier p w ≡ true → (part_of_word w ≡ Name (name_of (part_of_word w))) × (is_plain (name_of (part_of_word w)) (around_of p) ≡ true)
identifier_name p (word.Ident (ident.Known known.Enum)) h = absurd cc
identifier_name p (word.Ident (ident.Known known.Async)) h = absurd cc
identifier_name p (word.Ident (ident.Known k)) h = (refl, refl)
identifier_name p (word.Ident ident.Other) h = (refl, refl)
identifier_name p (word.Keyword keyword.Yield) h = (refl, h)
identifier_name p (word.Keyword keyword.Await) h = (refl, h)
identifier_name p (word.Keyword k) h = absurd cc
identifier_name p w h = absurd cc

operand-name : (n : Nested) (m : names.Name) (b : Bool) → is_plain m n.around ≡ true → read_once (at state.Operand n) (Name m) b ≡ turned_to (Done state.After) n
unfolding read_once row moved changed
operand-name n name.Await b h = rw (not-true n.around.is_async h) refl
operand-name n name.Yield b h = rw (not-true n.around.is_generator h) refl
operand-name n name.Async b h = absurd cc
operand-name n name.Let b h = absurd cc
operand-name n m b h = refl

abbrev behind_name : names.Name → Complete
behind_name name.TypeWord = TypeOr
behind_name name.Interface = InterfaceOr
behind_name m = LabelOr

statement-name : (n : Nested) (m : names.Name) (b : Bool) → is_plain m n.around ≡ true → read_once (at state.Statement n) (Name m) b ≡ turned_to (Done (complete_state (behind_name m))) n
unfolding read_once row moved changed statements.statement
statement-name n name.Await b h = rw (not-true n.around.is_async h) refl
statement-name n name.Yield b h = rw (not-true n.around.is_generator h) refl
statement-name n name.Async b h = absurd cc
statement-name n name.Let b h = absurd cc
statement-name n m b h = refl

for-name : (n : Nested) (m : names.Name) (b : Bool) → is_plain m n.around ≡ true → read_once (at state.ForHead n) (Name m) b ≡ turned_to (Again state.Operand (Name m)) n
unfolding read_once row moved changed
for-name n name.Let b h = absurd cc
for-name n m b h = refl

again-name : (n : Nested) (m : names.Name) (b : Bool) → (read_once (at state.Restricted n) (Name m) false ≡ turned_to (Again state.Operand (Name m)) n) × (read_once (at state.Conditional n) (Name m) b ≡ turned_to (Again state.Operand (Name m)) n) × (read_once (at state.ArrowBody n) (Name m) b ≡ turned_to (Again state.Operand (Name m)) n)
unfolding read_once row moved changed
again-name n m b = (refl, refl, refl)

-- a single token that is an operand
pub record Begun (s : Start) (n : Nested) (x : Token) : Type 0 where
  pub state : Complete
  pub is : stepped (begin s n) (part x) ≡ completed state n
  pub label : is_statement s ≡ false → is_label state ≡ false

again-then : (s : State) (n : Nested) (m : names.Name) (b : Bool) → is_plain m n.around ≡ true → read_once (at s n) (Name m) b ≡ turned_to (Again state.Operand (Name m)) n → (read_times 8 b (reading (at s n) (Some (Name m)))).track ≡ at state.After n
again-then s n m b h is = ap (λ r. r.track) (again 7 b (at s n) (Name m) (Name m) state.Operand n is ∙ taken 6 b (at state.Operand n) (Name m) state.After n (operand-name n m b h))

name-begun : (s : Start) (n : Nested) (w : WordKind) (m : names.Name) (b : Bool) (xs : List Token) → part_of_word w ≡ Name m → is_plain m n.around ≡ true → opens s (token (kind.Word w) b ∷ xs) ≡ true → Begun s n (token (kind.Word w) b)
name-begun AtOperand n w m b xs is h o = record { state = Plain; is = rw is (ap (λ r. r.track) (taken 7 b (at state.Operand n) (Name m) state.After n (operand-name n m b h))); label = λ _. refl }
name-begun AtStatement n w m b xs is h o = record { state = behind_name m; is = rw is (ap (λ r. r.track) (taken 7 b (at state.Statement n) (Name m) (complete_state (behind_name m)) n (statement-name n m b h))); label = λ f. absurd cc }
name-begun AtRestricted n w m true xs is h o = absurd cc
name-begun AtRestricted n w m false xs is h o = record { state = Plain; is = rw is (again-then state.Restricted n m false h (again-name n m false).0); label = λ _. refl }
name-begun AtQuestion n w m b xs is h o = record { state = Plain; is = rw is (again-then state.Conditional n m b h (again-name n m b).1); label = λ _. refl }
name-begun AtArrowBody n w m b xs is h o = record { state = Plain; is = rw is (again-then state.ArrowBody n m b h (again-name n m b).2); label = λ _. refl }
name-begun AtForHead n w m b xs is h o = record { state = Plain; is = rw is (again-then state.ForHead n m b h (for-name n m b h)); label = λ _. refl }
name-begun AtBinding n w m b xs is h o = absurd cc

pub identifier_begun : (s : Start) (p : Parameters) (n : Nested) (w : WordKind) (b : Bool) (xs : List Token) → n.around ≡ around_of p → is_identifier p w ≡ true → opens s (token (kind.Word w) b ∷ xs) ≡ true → Begun s n (token (kind.Word w) b)
identifier_begun s p n w b xs around h o =
    let i = identifier_name p w h in
    name-begun s n w (name_of (part_of_word w)) b xs i.0 (rw around i.1) o

pub begun : (s : Start) (n : Nested) (kind : TokenKind) (b : Bool) (xs : List Token) → starts kind ≡ true → opens s (token kind b ∷ xs) ≡ true → read_once (at state.Operand n) (part_of_kind kind) b ≡ turned_to (Done state.After) n → Begun s n (token kind b)
begun s n kind b xs h o is = record { state = Plain; is = from_start s n kind b xs state.After n h o is; label = λ _. refl }

-- a name that leads to another state
abbrev is_let : names.Name → Bool
is_let name.Let = true
is_let m = false

for-other : (n : Nested) (m : names.Name) (b : Bool) → is_let m ≡ false → read_once (at state.ForHead n) (Name m) b ≡ turned_to (Again state.Operand (Name m)) n
unfolding read_once row moved changed
for-other n name.Let b h = absurd cc
for-other n m b h = refl

led : (s : State) (n : Nested) (m : names.Name) (b : Bool) (behind : State) → read_once (at s n) (Name m) b ≡ turned_to (Again state.Operand (Name m)) n → read_once (at state.Operand n) (Name m) b ≡ turned_to (Done behind) n → (read_times 8 b (reading (at s n) (Some (Name m)))).track ≡ at behind n
led s n m b behind first is = ap (λ r. r.track) (again 7 b (at s n) (Name m) (Name m) state.Operand n first ∙ taken 6 b (at state.Operand n) (Name m) behind n is)

pub name_from : (s : Start) (n : Nested) (w : WordKind) (m : names.Name) (b : Bool) (xs : List Token) (behind : State) → part_of_word w ≡ Name m → is_let m ≡ false → opens s (token (kind.Word w) b ∷ xs) ≡ true
    → read_once (at state.Operand n) (Name m) b ≡ turned_to (Done behind) n
    → (is_statement s ≡ true → read_once (at state.Statement n) (Name m) b ≡ turned_to (Done behind) n)
    → stepped (begin s n) (part (token (kind.Word w) b)) ≡ at behind n
name_from AtOperand n w m b xs behind is h o operand statement = rw is (ap (λ r. r.track) (taken 7 b (at state.Operand n) (Name m) behind n operand))
name_from AtStatement n w m b xs behind is h o operand statement = rw is (ap (λ r. r.track) (taken 7 b (at state.Statement n) (Name m) behind n (statement refl)))
name_from AtRestricted n w m true xs behind is h o operand statement = absurd cc
name_from AtRestricted n w m false xs behind is h o operand statement = rw is (led state.Restricted n m false behind (again-name n m false).0 operand)
name_from AtQuestion n w m b xs behind is h o operand statement = rw is (led state.Conditional n m b behind (again-name n m b).1 operand)
name_from AtArrowBody n w m b xs behind is h o operand statement = rw is (led state.ArrowBody n m b behind (again-name n m b).2 operand)
name_from AtForHead n w m b xs behind is h o operand statement = rw is (led state.ForHead n m b behind (for-other n m b h) operand)
name_from AtBinding n w m b xs behind is h o operand statement = absurd cc

-- `await`, `yield` and `async`
await-rows : (n : Nested) (b : Bool) → n.around.is_async ≡ true → (read_once (at state.Operand n) (Name name.Await) b ≡ turned_to (Done state.Operand) n) × (read_once (at state.Statement n) (Name name.Await) b ≡ turned_to (Done state.Operand) n)
unfolding read_once row moved changed statements.statement
await-rows n b h = (rw h refl, rw h refl)

yield-rows : (n : Nested) (b : Bool) → n.around.is_generator ≡ true → (read_once (at state.Operand n) (Name name.Yield) b ≡ turned_to (Done state.Restricted) n) × (read_once (at state.Statement n) (Name name.Yield) b ≡ turned_to (Done state.Restricted) n)
unfolding read_once row moved changed statements.statement
yield-rows n b h = (rw h refl, rw h refl)

async-row : (n : Nested) (b : Bool) → read_once (at state.Operand n) (Name name.Async) b ≡ turned_to (Done state.Async) n
unfolding read_once row moved changed
async-row n b = refl

pub await_from : (s : Start) (n : Nested) (b : Bool) (xs : List Token) → n.around.is_async ≡ true → opens s (token (kind.Word (word.Keyword keyword.Await)) b ∷ xs) ≡ true → stepped (begin s n) (part (token (kind.Word (word.Keyword keyword.Await)) b)) ≡ at state.Operand n
await_from s n b xs h o = let r = await-rows n b h in name_from s n (word.Keyword keyword.Await) name.Await b xs state.Operand refl refl o r.0 (λ _. r.1)

pub yield_from : (s : Start) (n : Nested) (b : Bool) (xs : List Token) → n.around.is_generator ≡ true → opens s (token (kind.Word (word.Keyword keyword.Yield)) b ∷ xs) ≡ true → stepped (begin s n) (part (token (kind.Word (word.Keyword keyword.Yield)) b)) ≡ at state.Restricted n
yield_from s n b xs h o = let r = yield-rows n b h in name_from s n (word.Keyword keyword.Yield) name.Yield b xs state.Restricted refl refl o r.0 (λ _. r.1)

pub data AsyncPlace : Type 0 where
  AsyncOperand : AsyncPlace
  AsyncFirst : AsyncPlace

abbrev pub async_place_state : AsyncPlace → State
async_place_state AsyncOperand = state.Async
async_place_state AsyncFirst = state.AsyncStatement

pub record Asyncs (s : Start) (n : Nested) (b : Bool) : Type 0 where
  pub place : AsyncPlace
  pub is : stepped (begin s n) (part (token (kind.Word (word.Ident (ident.Known known.Async))) b)) ≡ at (async_place_state place) n

async-first : (n : Nested) (b : Bool) → stepped (begin AtStatement n) (part (token (kind.Word (word.Ident (ident.Known known.Async))) b)) ≡ at state.AsyncStatement n
unfolding read_times read_once row moved changed statements.statement
async-first n b = refl

-- where an operand is expected, and not a statement
pub async_operand_from : (s : Start) (n : Nested) (b : Bool) (xs : List Token) → opens s (token (kind.Word (word.Ident (ident.Known known.Async))) b ∷ xs) ≡ true → (is_statement s ≡ true → ⊥) → stepped (begin s n) (part (token (kind.Word (word.Ident (ident.Known known.Async))) b)) ≡ at state.Async n
async_operand_from s n b xs o none = name_from s n (word.Ident (ident.Known known.Async)) name.Async b xs state.Async refl refl o (async-row n b) (λ is. absurd (none is))

pub async_from : (s : Start) (n : Nested) (b : Bool) (xs : List Token) → opens s (token (kind.Word (word.Ident (ident.Known known.Async))) b ∷ xs) ≡ true → Asyncs s n b
async_from AtOperand n b xs o = record { place = AsyncOperand; is = async_operand_from AtOperand n b xs o (λ f. cc) }
async_from AtStatement n b xs o = record { place = AsyncFirst; is = async-first n b }
async_from AtRestricted n b xs o = record { place = AsyncOperand; is = async_operand_from AtRestricted n b xs o (λ f. cc) }
async_from AtQuestion n b xs o = record { place = AsyncOperand; is = async_operand_from AtQuestion n b xs o (λ f. cc) }
async_from AtArrowBody n b xs o = record { place = AsyncOperand; is = async_operand_from AtArrowBody n b xs o (λ f. cc) }
async_from AtForHead n b xs o = record { place = AsyncOperand; is = async_operand_from AtForHead n b xs o (λ f. cc) }
async_from AtBinding n b xs o = absurd cc

-- `import` in an expression
pub data Importing : Type 0 where
  FromOperand : Importing
  FromStatement : Importing

abbrev pub import_state : Importing → State
import_state FromOperand = state.ImportExpression
import_state FromStatement = state.ImportStart

pub record Imports (s : Start) (n : Nested) (b : Bool) : Type 0 where
  pub place : Importing
  pub is : stepped (begin s n) (part (token (kind.Word (word.Keyword keyword.Import)) b)) ≡ at (import_state place) n

pub import_from : (s : Start) (n : Nested) (b : Bool) (xs : List Token) → opens s (token (kind.Word (word.Keyword keyword.Import)) b ∷ xs) ≡ true → Imports s n b
unfolding read_times read_once row moved changed statements.statement
import_from AtOperand n b xs o = record { place = FromOperand; is = refl }
import_from AtStatement n b xs o = record { place = FromStatement; is = refl }
import_from AtRestricted n true xs o = absurd cc
import_from AtRestricted n false xs o = record { place = FromOperand; is = refl }
import_from AtQuestion n b xs o = record { place = FromOperand; is = refl }
import_from AtArrowBody n b xs o = record { place = FromOperand; is = refl }
import_from AtForHead n b xs o = record { place = FromOperand; is = refl }
import_from AtBinding n b xs o = absurd cc

-- a name that a statement begins with, where a colon makes a label of it
named-label : (m : names.Name) → is_label (behind_name m) ≡ true
named-label name.TypeWord = refl
named-label name.Interface = refl
named-label m = refl

pub record Labels (n : Nested) (x : Token) : Type 0 where
  pub state : Complete
  pub is : stepped (begin AtStatement n) (part x) ≡ completed state n
  pub label : is_label state ≡ true

pub label_begun : (p : Parameters) (n : Nested) (w : WordKind) (b : Bool) → n.around ≡ around_of p → is_identifier p w ≡ true → Labels n (token (kind.Word w) b)
label_begun p n w b around h =
    let i = identifier_name p w h in
    let m = name_of (part_of_word w) in
    record { state = behind_name m; is = rw i.0 (ap (λ r. r.track) (taken 7 b (at state.Statement n) (Name m) (complete_state (behind_name m)) n (statement-name n m b (rw around i.1)))); label = named-label m }
