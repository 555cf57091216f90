-- The next token behind a complete operand
use Rattle.std.proofs.Common.{Option, ◌≡◌, ◌∙◌, ap, Bool, true, false, Some, None, refl, arith, if◌then◌else◌}
use Rattle.ecma_word.specs.declared.keyword.Keyword.{Keyword}
use Rattle.ecma_word.specs.declared.keyword.Keyword.TheVariants as keyword
use Rattle.ecma_word.specs.declared.known_ident.KnownIdent.{KnownIdent}
use Rattle.ecma_word.specs.declared.known_ident.KnownIdent.TheVariants as known
use Rattle.ecma_word.specs.declared.word.WordKind.{WordKind}
use Rattle.ecma_word.specs.declared.word.WordKind.TheVariants as word
use Rattle.ecma_word.specs.declared.word.IdentKind.TheVariants as ident
use Rattle.ecma_word.specs.declared.operator.BinOpToken.{BinOpToken}
use Rattle.ecma_word.specs.declared.operator.BinOpToken.TheVariants as binary
use Rattle.ecma_word.specs.declared.operator.AssignOp.{AssignOp}
use Rattle.ecma_word.specs.declared.operator.AssignOp.TheVariants as assigning
use Rattle.ecma_token_kind.specs.declared.kind.TokenKind.TheVariants as kind
use Rattle.ecma_role_table.specs.declared.frame.FrameKind.{FrameKind}
use Rattle.ecma_role_table.specs.declared.part.PartKind.{PartKind}
use Rattle.ecma_role_table.specs.declared.part.PartKind.TheVariants.{Name, Reserved, Sign}
use Rattle.ecma_role_table.specs.declared.part.Reserved as words
use Rattle.ecma_role_table.specs.declared.part.Reserved.TheVariants as reserved
use Rattle.ecma_role_table.specs.declared.part.Sign as signs
use Rattle.ecma_role_table.specs.declared.part.Sign.TheVariants as sign
use Rattle.ecma_role_table.specs.declared.frame.FrameKind.TheVariants as frame
use Rattle.ecma_role_table.specs.declared.frame.Kinds.TheVariants as kinds
use Rattle.ecma_role_table.specs.declared.state.State.{State}
use Rattle.ecma_role_table.specs.declared.state.State.TheVariants as state
use Rattle.ecma_role_table.specs.declared.moves.Grouping.TheVariants as grouping
use Rattle.ecma_role_table.specs.declared.moves.Move.{Move}
use Rattle.ecma_role_table.specs.declared.moves.Move.TheVariants.{To}
use Rattle.ecma_role_table.specs.declared.moves.Change.TheVariants.{Nothing, Pop}
use Rattle.ecma_role_table.specs.declared.moves.Turn.TheVariants.{Again, Done}
use Rattle.ecma_role_table.specs.Frames.{over_async_candidate, over_declared_for}
use Rattle.ecma_role_table.specs.Parts.{part_of_keyword, part_of_known, part_of_word, sign_of_assign, sign_of_operator}
use Rattle.ecma_role_table.specs.Table.{row}
use Rattle.ecma_role_moves.specs.Moves.{brace, bracket, candidate_from, changed, colon, comma, landed, moved, paren, semi, turned_to}
use Rattle.ecma_role_moves.specs.Nest.{Nested, dropped, no_function, pending, pushed, top, under}
use Rattle.ecma_role_tracks.specs.Track.{TrackView, read_once, read_times, reading, stepped}
use Rattle.ecma_role_grammar.specs.Tokens.{part, token}
use Rattle.ecma_role_grammar.proofs.Starts.{again, taken}
use Rattle.ecma_role_grammar.proofs.Places.{Braces, Complete, Ended, Grouped, InterfaceOr, LabelOr, Plain, Postfix, ReadsOn, TypeOr, Whole, Yielding, at, at_landed, completed, ended, goes_on, is_label_end, sign_part}

abbrev Alike : Nested → signs.Sign → Bool → State → Type 0
Alike n s b other = stepped (at other n) (sign_part s b) ≡ stepped (at state.After n) (sign_part s b)

alike : (n : Nested) (s : signs.Sign) (b : Bool) → goes_on s ≡ true → Alike n s b state.AfterPostfix × Alike n s b state.Group × Alike n s b state.Label × Alike n s b state.MaybeType × Alike n s b state.MaybeInterface
unfolding read_times read_once row moved changed
alike n sign.Colon b h = absurd cc
alike n sign.Tilde b h = absurd cc
alike n sign.At b h = absurd cc
alike n sign.Hash b h = absurd cc
alike n sign.Literal b h = absurd cc
alike n sign.Regex b h = absurd cc
alike n sign.LBrace b h = absurd cc
alike n sign.Bang b h = absurd cc
alike n sign.Update b h = absurd cc
alike n s b h = (refl, refl, refl, refl, refl)

pub as_after : (c : Complete) (n : Nested) (s : signs.Sign) (b : Bool) → goes_on s ≡ true → stepped (completed c n) (sign_part s b) ≡ stepped (at state.After n) (sign_part s b)
as_after Plain n s b h = refl
as_after Postfix n s b h = (alike n s b h).0
as_after Grouped n s b h = (alike n s b h).1
as_after LabelOr n s b h = (alike n s b h).2
as_after TypeOr n s b h = (alike n s b h).3
as_after InterfaceOr n s b h = (alike n s b h).4

-- signs that end an assignment expression
abbrev pub ends_it : signs.Sign → Bool
ends_it sign.RBracket = true
ends_it sign.RBrace = true
ends_it sign.Semi = true
ends_it sign.Comma = true
ends_it s = false

ends-alike : (n : Nested) (s : signs.Sign) (b : Bool) → ends_it s ≡ true → Alike n s b state.ArrowEnd × Alike n s b state.Restricted
unfolding read_times read_once row moved changed
ends-alike n sign.RBracket b h = (refl, refl)
ends-alike n sign.RBrace b h = (refl, refl)
ends-alike n sign.Semi b h = (refl, refl)
ends-alike n sign.Comma b h = (refl, refl)
ends-alike n s b h = absurd cc

ends-go-on : (s : signs.Sign) → ends_it s ≡ true → goes_on s ≡ true
ends-go-on s h = grind (arith, h)

pub as_after_end : (e : Ended) (n : Nested) (s : signs.Sign) (b : Bool) → ends_it s ≡ true → stepped (ended e n) (sign_part s b) ≡ stepped (at state.After n) (sign_part s b)
as_after_end (Whole c) n s b h = as_after c n s b (ends-go-on s h)
as_after_end Braces n s b h = (ends-alike n s b h).0
as_after_end Yielding n s b h = (ends-alike n s b h).1

-- Rows behind a complete operand

abbrev Settled : Nested → Type 0
Settled n = dropped kinds.Candidates n ≡ n

after-dot : (n : Nested) (b : Bool) → stepped (at state.After n) (sign_part sign.Dot b) ≡ at state.Property n
unfolding read_times read_once row moved changed
after-dot n b = refl

after-bracket : (n : Nested) (b : Bool) → stepped (at state.After n) (sign_part sign.LBracket b) ≡ at state.Operand (pushed frame.Bracket n)
unfolding read_times read_once row moved changed
after-bracket n b = refl

after-paren : (n : Nested) (b : Bool) → Settled n → stepped (at state.After n) (sign_part sign.LParen b) ≡ at state.Operand (pushed frame.Call n)
unfolding read_times read_once row moved changed
after-paren n b settled = ap (λ m. at state.Operand (pushed frame.Call m)) settled

after-question : (n : Nested) (b : Bool) → Settled n → stepped (at state.After n) (sign_part sign.QuestionMark b) ≡ at state.Conditional (pushed frame.Conditional n)
unfolding read_times read_once row moved changed
after-question n b settled = ap (λ m. at state.Conditional (pushed frame.Conditional m)) settled

pub behind_dot : (t : TrackView) (n : Nested) (b : Bool) → ReadsOn t n → stepped t (part (token kind.Dot b)) ≡ at state.Property n
behind_dot t n b on = on sign.Dot b refl ∙ after-dot n b

pub behind_bracket : (t : TrackView) (n : Nested) (b : Bool) → ReadsOn t n → stepped t (part (token kind.LBracket b)) ≡ at state.Operand (pushed frame.Bracket n)
behind_bracket t n b on = on sign.LBracket b refl ∙ after-bracket n b

pub behind_paren : (t : TrackView) (n : Nested) (b : Bool) → ReadsOn t n → dropped kinds.Candidates n ≡ n → stepped t (part (token kind.LParen b)) ≡ at state.Operand (pushed frame.Call n)
behind_paren t n b on settled = on sign.LParen b refl ∙ after-paren n b settled

after-back_quote : (n : Nested) (b : Bool) → stepped (at state.After n) (sign_part sign.BackQuote b) ≡ at state.Quasi (pushed frame.Template n)
unfolding read_times read_once row moved changed
after-back_quote n b = refl

pub behind_back_quote : (t : TrackView) (n : Nested) (b : Bool) → ReadsOn t n → stepped t (part (token kind.BackQuote b)) ≡ at state.Quasi (pushed frame.Template n)
behind_back_quote t n b on = on sign.BackQuote b refl ∙ after-back_quote n b

optional-reads : (n : Nested) (s : signs.Sign) (b : Bool) → goes_on s ≡ true → stepped (at state.OptionalProperty n) (sign_part s b) ≡ stepped (at state.After n) (sign_part s b)
unfolding read_times read_once row moved changed
optional-reads n sign.Colon b h = absurd cc
optional-reads n sign.Tilde b h = absurd cc
optional-reads n sign.At b h = absurd cc
optional-reads n sign.Hash b h = absurd cc
optional-reads n sign.Literal b h = absurd cc
optional-reads n sign.Regex b h = absurd cc
optional-reads n sign.LBrace b h = absurd cc
optional-reads n sign.Bang b h = absurd cc
optional-reads n sign.Update b h = absurd cc
optional-reads n s b h = refl

pub optional_reads_on : (n : Nested) → ReadsOn (at state.OptionalProperty n) n
optional_reads_on n = optional-reads n

pub plain_reads_on : (n : Nested) → ReadsOn (at state.After n) n
plain_reads_on n s b h = refl

pub complete_reads_on : (c : Complete) (n : Nested) → ReadsOn (completed c n) n
complete_reads_on c n s b h = as_after c n s b h

-- `?.`, and what may stand right behind it
pub question_dot : (n : Nested) (b : Bool) → stepped (at state.Conditional (pushed frame.Conditional n)) (part (token kind.Dot b)) ≡ at state.OptionalProperty n
unfolding read_times read_once row moved changed
question_dot n b = refl

pub behind_question : (t : TrackView) (n : Nested) (b : Bool) → ReadsOn t n → dropped kinds.Candidates n ≡ n → stepped t (part (token kind.QuestionMark b)) ≡ at state.Conditional (pushed frame.Conditional n)
behind_question t n b on settled = on sign.QuestionMark b refl ∙ after-question n b settled

-- a postfix operator on the same line
update-all : (n : Nested) → (stepped (at state.AfterPostfix n) (sign_part sign.Update false) ≡ stepped (at state.After n) (sign_part sign.Update false)) × (stepped (at state.Group n) (sign_part sign.Update false) ≡ stepped (at state.After n) (sign_part sign.Update false)) × (stepped (at state.Label n) (sign_part sign.Update false) ≡ stepped (at state.After n) (sign_part sign.Update false)) × (stepped (at state.MaybeType n) (sign_part sign.Update false) ≡ stepped (at state.After n) (sign_part sign.Update false)) × (stepped (at state.MaybeInterface n) (sign_part sign.Update false) ≡ stepped (at state.After n) (sign_part sign.Update false))
unfolding read_times read_once row moved changed
update-all n = (refl, refl, refl, refl, refl)

after-update : (n : Nested) → Settled n → stepped (at state.After n) (sign_part sign.Update false) ≡ at state.AfterPostfix n
unfolding read_times read_once row moved changed
after-update n settled = ap (λ m. at state.AfterPostfix m) settled

pub behind_update : (c : Complete) (n : Nested) → dropped kinds.Candidates n ≡ n → stepped (completed c n) (sign_part sign.Update false) ≡ at state.AfterPostfix n
behind_update Plain n settled = after-update n settled
behind_update Postfix n settled = (update-all n).0 ∙ after-update n settled
behind_update Grouped n settled = (update-all n).1 ∙ after-update n settled
behind_update LabelOr n settled = (update-all n).2 ∙ after-update n settled
behind_update TypeOr n settled = (update-all n).3 ∙ after-update n settled
behind_update InterfaceOr n settled = (update-all n).4 ∙ after-update n settled

-- a name behind a dot
abbrev pub is_word_part : PartKind → Bool
is_word_part (Sign s) = false
is_word_part k = true

keyword-word : (k : Keyword) → is_word_part (part_of_keyword k) ≡ true
keyword-word keyword.Await = refl
keyword-word k = refl

known-word : (k : KnownIdent) → is_word_part (part_of_known k) ≡ true
known-word known.Enum = refl
known-word k = refl

pub word_word : (w : WordKind) → is_word_part (part_of_word w) ≡ true
word_word (word.Keyword k) = keyword-word k
word_word (word.Ident (ident.Known k)) = known-word k
word_word (word.Ident ident.Other) = refl
word_word word.Null = refl
word_word word.True = refl
word_word word.False = refl

property-word : (n : Nested) (k : PartKind) (b : Bool) → is_word_part k ≡ true → (read_times 8 b (reading (at state.Property n) (Some k))).track ≡ at state.After n
unfolding read_times read_once row moved changed
property-word n (Name m) b h = refl
property-word n (Reserved r) b h = refl
property-word n (Sign s) b h = absurd cc

hash-row : (n : Nested) (b : Bool) → (stepped (at state.Property n) (sign_part sign.Hash b) ≡ at state.Property n) × (stepped (at state.OptionalProperty n) (sign_part sign.Hash b) ≡ at state.Property n)
unfolding read_times read_once row moved changed
hash-row n b = (refl, refl)

pub property_hash : (n : Nested) (b : Bool) → (stepped (at state.Property n) (part (token kind.Hash b)) ≡ at state.Property n) × (stepped (at state.OptionalProperty n) (part (token kind.Hash b)) ≡ at state.Property n)
property_hash n b = hash-row n b

optional-word : (n : Nested) (k : PartKind) (b : Bool) → is_word_part k ≡ true → (read_times 8 b (reading (at state.OptionalProperty n) (Some k))).track ≡ at state.After n
unfolding read_times read_once row moved changed
optional-word n (Name m) b h = refl
optional-word n (Reserved r) b h = refl
optional-word n (Sign s) b h = absurd cc

pub optional_name : (n : Nested) (w : WordKind) (b : Bool) → stepped (at state.OptionalProperty n) (part (token (kind.Word w) b)) ≡ at state.After n
optional_name n w b = optional-word n (part_of_word w) b (word_word w)

pub property_name : (n : Nested) (w : WordKind) (b : Bool) → stepped (at state.Property n) (part (token (kind.Word w) b)) ≡ at state.After n
property_name n w b = property-word n (part_of_word w) b (word_word w)

-- operators between two operands
abbrev pub is_operator : signs.Sign → Bool
is_operator sign.Star = true
is_operator sign.Lt = true
is_operator sign.LShift = true
is_operator sign.Gt = true
is_operator sign.RShift = true
is_operator sign.ZeroFillRShift = true
is_operator sign.GtEq = true
is_operator sign.RShiftEq = true
is_operator sign.ZeroFillRShiftEq = true
is_operator sign.Assign = true
is_operator sign.BitOr = true
is_operator sign.BitAnd = true
is_operator sign.Minus = true
is_operator sign.Operator = true
is_operator s = false

not-async : (o u : Option FrameKind) → candidate_from 0 o u ≡ None → over_async_candidate o ≡ false
not-async o u lone = grind (arith, lone)

after-operator : (n : Nested) (s : signs.Sign) (b : Bool) → is_operator s ≡ true → Settled n → candidate_from 0 (top n) (under n) ≡ None → stepped (at state.After n) (sign_part s b) ≡ at state.Operand n
unfolding read_times read_once row moved changed
after-operator n sign.Star b h settled lone = ap (at state.Operand) settled
after-operator n sign.Minus b h settled lone = ap (at state.Operand) settled
after-operator n sign.Assign b h settled lone =
    let none = not-async (top n) (under n) lone in
    rw none (rw settled (rw none refl))
after-operator n sign.Operator b h settled lone = ap (at state.Operand) settled
after-operator n sign.Lt b h settled lone = refl
after-operator n sign.LShift b h settled lone = refl
after-operator n sign.BitOr b h settled lone = refl
after-operator n sign.BitAnd b h settled lone = refl
after-operator n sign.GtEq b h settled lone = ap (at state.Operand) settled
after-operator n sign.RShiftEq b h settled lone = ap (λ m. at state.Operand (dropped kinds.Candidates m)) settled ∙ ap (at state.Operand) settled
after-operator n sign.ZeroFillRShiftEq b h settled lone = ap (λ m. at state.Operand (dropped kinds.Candidates m)) settled ∙ ap (at state.Operand) settled
after-operator n sign.Gt b h settled lone = rw lone (ap (at state.Operand) settled)
after-operator n sign.RShift b h settled lone = rw lone (ap (at state.Operand) settled)
after-operator n sign.ZeroFillRShift b h settled lone = rw lone (ap (at state.Operand) settled)
after-operator n s b h settled lone = absurd cc

operators-go-on : (s : signs.Sign) → is_operator s ≡ true → goes_on s ≡ true
operators-go-on s h = grind (arith, h)

behind-sign : (c : Complete) (n : Nested) (s : signs.Sign) (b : Bool) → is_operator s ≡ true → Settled n → candidate_from 0 (top n) (under n) ≡ None → stepped (completed c n) (sign_part s b) ≡ at state.Operand n
behind-sign c n s b h settled lone = as_after c n s b (operators-go-on s h) ∙ after-operator n s b h settled lone

binary-sign : (op : BinOpToken) → is_operator (sign_of_operator op) ≡ true
binary-sign binary.Mul = refl
binary-sign op = refl

assign-sign : (op : AssignOp) → is_operator (sign_of_assign op) ≡ true
assign-sign assigning.Assign = refl
assign-sign op = refl

pub behind_binary : (c : Complete) (n : Nested) (op : BinOpToken) (b : Bool) → dropped kinds.Candidates n ≡ n → candidate_from 0 (top n) (under n) ≡ None → stepped (completed c n) (part (token (kind.BinOp op) b)) ≡ at state.Operand n
behind_binary c n op b settled lone = behind-sign c n (sign_of_operator op) b (binary-sign op) settled lone

pub behind_assign : (c : Complete) (n : Nested) (op : AssignOp) (b : Bool) → dropped kinds.Candidates n ≡ n → candidate_from 0 (top n) (under n) ≡ None → stepped (completed c n) (part (token (kind.AssignOp op) b)) ≡ at state.Operand n
behind_assign c n op b settled lone = behind-sign c n (sign_of_assign op) b (assign-sign op) settled lone

-- `in` and `instanceof`
abbrev in_move : Bool → Move
in_move declared = if declared then To state.Operand Pop else To state.Operand Nothing

in-once : (n : Nested) (b : Bool) → Settled n → over_declared_for (top n) (under n) ≡ false → read_once (at state.After n) (Reserved reserved.In) b ≡ turned_to (Done state.Operand) n
unfolding read_once row moved changed
in-once n b settled none = ap (λ m. moved (in_move (over_declared_for (top m) (under m))) (Reserved reserved.In) m) settled ∙ ap (λ c. moved (in_move c) (Reserved reserved.In) n) none

instanceof-once : (n : Nested) (b : Bool) → Settled n → read_once (at state.After n) (Reserved reserved.InstanceOf) b ≡ turned_to (Done state.Operand) n
unfolding read_once row moved changed
instanceof-once n b settled = ap (λ m. moved (To state.Operand Nothing) (Reserved reserved.InstanceOf) m) settled

-- words that are read behind an operand, wherever it is complete
abbrev IsAgain : State → PartKind → Bool → Nested → State → Type 0
IsAgain s k b n t = read_once (at s n) k b ≡ turned_to (Again t k) n

reserved-again : (r : words.Reserved) (b : Bool) (n : Nested) → IsAgain state.AfterPostfix (Reserved r) b n state.After × IsAgain state.Group (Reserved r) b n state.After × IsAgain state.Label (Reserved r) b n state.After × IsAgain state.MaybeType (Reserved r) b n state.Label × IsAgain state.MaybeInterface (Reserved r) b n state.Label
unfolding read_once row moved changed
reserved-again r b n = (refl, refl, refl, refl, refl)

pub reserved_behind : (c : Complete) (n after : Nested) (r : words.Reserved) (b : Bool) (s : State) → read_once (at state.After n) (Reserved r) b ≡ turned_to (Done s) after → stepped (completed c n) (record { kind = Reserved r; had_line_break = b }) ≡ at s after
reserved_behind Plain n after r b s is = ap (λ u. u.track) (taken 7 b (at state.After n) (Reserved r) s after is)
reserved_behind Postfix n after r b s is = ap (λ u. u.track) (again 7 b (at state.AfterPostfix n) (Reserved r) (Reserved r) state.After n (reserved-again r b n).0 ∙ taken 6 b (at state.After n) (Reserved r) s after is)
reserved_behind Grouped n after r b s is = ap (λ u. u.track) (again 7 b (at state.Group n) (Reserved r) (Reserved r) state.After n (reserved-again r b n).1 ∙ taken 6 b (at state.After n) (Reserved r) s after is)
reserved_behind LabelOr n after r b s is = ap (λ u. u.track) (again 7 b (at state.Label n) (Reserved r) (Reserved r) state.After n (reserved-again r b n).2 ∙ taken 6 b (at state.After n) (Reserved r) s after is)
reserved_behind TypeOr n after r b s is = ap (λ u. u.track) (again 7 b (at state.MaybeType n) (Reserved r) (Reserved r) state.Label n (reserved-again r b n).3 ∙ again 6 b (at state.Label n) (Reserved r) (Reserved r) state.After n (reserved-again r b n).2 ∙ taken 5 b (at state.After n) (Reserved r) s after is)
reserved_behind InterfaceOr n after r b s is = ap (λ u. u.track) (again 7 b (at state.MaybeInterface n) (Reserved r) (Reserved r) state.Label n (reserved-again r b n).4 ∙ again 6 b (at state.Label n) (Reserved r) (Reserved r) state.After n (reserved-again r b n).2 ∙ taken 5 b (at state.After n) (Reserved r) s after is)

pub behind_in : (c : Complete) (n : Nested) (b : Bool) → dropped kinds.Candidates n ≡ n → over_declared_for (top n) (under n) ≡ false → stepped (completed c n) (part (token (kind.Word (word.Keyword keyword.In)) b)) ≡ at state.Operand n
behind_in c n b settled none = reserved_behind c n n reserved.In b state.Operand (in-once n b settled none)

pub behind_instanceof : (c : Complete) (n : Nested) (b : Bool) → dropped kinds.Candidates n ≡ n → stepped (completed c n) (part (token (kind.Word (word.Keyword keyword.InstanceOf)) b)) ≡ at state.Operand n
behind_instanceof c n b settled = reserved_behind c n n reserved.InstanceOf b state.Operand (instanceof-once n b settled)

-- Rows that end an assignment expression

ended-all : (n : Nested) (b : Bool) → (stepped (at state.After n) (sign_part sign.RParen b) ≡ at_landed (paren n)) × (stepped (at state.After n) (sign_part sign.RBracket b) ≡ at_landed (bracket n)) × (stepped (at state.After n) (sign_part sign.RBrace b) ≡ at_landed (brace (pending no_function n))) × (stepped (at state.After n) (sign_part sign.Semi b) ≡ at_landed (semi (dropped kinds.Candidates n))) × (stepped (at state.After n) (sign_part sign.Comma b) ≡ at_landed (comma n))
unfolding read_times read_once row moved changed
ended-all n b = (refl, refl, refl, refl, refl)

-- a right parenthesis
braces-paren : (n : Nested) (b : Bool) → stepped (at state.ArrowEnd n) (sign_part sign.RParen b) ≡ at_landed (paren n)
unfolding read_times read_once row moved changed
braces-paren n b = refl

yield-paren : (n : Nested) (b : Bool) → stepped (at state.Restricted n) (sign_part sign.RParen b) ≡ at_landed (paren n)
unfolding read_times read_once row moved changed
yield-paren n b = refl

pub end_paren : (e : Ended) (n : Nested) (b : Bool) → stepped (ended e n) (part (token kind.RParen b)) ≡ at_landed (paren n)
end_paren (Whole c) n b = as_after c n sign.RParen b refl ∙ (ended-all n b).0
end_paren Braces n b = braces-paren n b
end_paren Yielding n b = yield-paren n b

pub end_bracket : (e : Ended) (n : Nested) (b : Bool) → stepped (ended e n) (part (token kind.RBracket b)) ≡ at_landed (bracket n)
end_bracket e n b = as_after_end e n sign.RBracket b refl ∙ (ended-all n b).1

pub end_brace : (e : Ended) (n : Nested) (b : Bool) → stepped (ended e n) (part (token kind.RBrace b)) ≡ at_landed (brace (pending no_function n))
end_brace e n b = as_after_end e n sign.RBrace b refl ∙ (ended-all n b).2

pub end_semi : (e : Ended) (n : Nested) (b : Bool) → stepped (ended e n) (part (token kind.Semi b)) ≡ at_landed (semi (dropped kinds.Candidates n))
end_semi e n b = as_after_end e n sign.Semi b refl ∙ (ended-all n b).3

pub end_comma : (e : Ended) (n : Nested) (b : Bool) → stepped (ended e n) (part (token kind.Comma b)) ≡ at_landed (comma n)
end_comma e n b = as_after_end e n sign.Comma b refl ∙ (ended-all n b).4

-- a colon, where no label may end
colon-all : (n : Nested) (b : Bool) → Settled n → (stepped (at state.After n) (sign_part sign.Colon b) ≡ at_landed (colon grouping.None n)) × (stepped (at state.AfterPostfix n) (sign_part sign.Colon b) ≡ at_landed (colon grouping.None n)) × (stepped (at state.Group n) (sign_part sign.Colon b) ≡ at_landed (colon grouping.Plain n)) × (stepped (at state.ArrowEnd n) (sign_part sign.Colon b) ≡ at_landed (colon grouping.None n)) × (stepped (at state.Restricted n) (sign_part sign.Colon b) ≡ at_landed (colon grouping.None n))
unfolding read_times read_once row moved changed
colon-all n b settled = (refl, refl, refl, refl, refl)

pub end_colon : (e : Ended) (n after : Nested) (s : State) (b : Bool) → is_label_end e ≡ false → dropped kinds.Candidates n ≡ n → colon grouping.None n ≡ landed s after → colon grouping.Plain n ≡ landed s after → stepped (ended e n) (part (token kind.Colon b)) ≡ at s after
end_colon (Whole Plain) n after s b h settled none plain = (colon-all n b settled).0 ∙ ap at_landed none
end_colon (Whole Postfix) n after s b h settled none plain = (colon-all n b settled).1 ∙ ap at_landed none
end_colon (Whole Grouped) n after s b h settled none plain = (colon-all n b settled).2 ∙ ap at_landed plain
end_colon (Whole LabelOr) n after s b h settled none plain = absurd cc
end_colon (Whole TypeOr) n after s b h settled none plain = absurd cc
end_colon (Whole InterfaceOr) n after s b h settled none plain = absurd cc
end_colon Braces n after s b h settled none plain = (colon-all n b settled).3 ∙ ap at_landed none
end_colon Yielding n after s b h settled none plain = (colon-all n b settled).4 ∙ ap at_landed none
