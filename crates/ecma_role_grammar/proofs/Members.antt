-- Objects and classes of the grammar run: one lemma for each form of production
use Rattle.std.proofs.Common.{◌≡◌, ◌∙◌, ap, Bool, true, false, not, List, [], ◌∷◌, ◌++◌, Some, refl, subst, sym}
use Rattle.ecma_word.specs.declared.keyword.Keyword.TheVariants as keyword
use Rattle.ecma_word.specs.declared.word.WordKind.{WordKind}
use Rattle.ecma_word.specs.declared.word.WordKind.TheVariants as word
use Rattle.ecma_word.specs.declared.word.IdentKind.TheVariants as ident
use Rattle.ecma_word.specs.declared.known_ident.KnownIdent.TheVariants as known
use Rattle.ecma_word.specs.declared.operator.AssignOp.TheVariants as assigning
use Rattle.ecma_role_table.specs.declared.part.PartKind.{PartKind}
use Rattle.ecma_role_table.specs.declared.part.PartKind.TheVariants.{Name, Reserved, Sign}
use Rattle.ecma_role_table.specs.declared.part.Sign.TheVariants as sign
use Rattle.ecma_role_table.specs.declared.part.Reserved.TheVariants as reserved'
use Rattle.ecma_role_table.specs.declared.part.Name.TheVariants as name
use Rattle.ecma_word.specs.declared.operator.BinOpToken.TheVariants as binary
use Rattle.ecma_token_kind.specs.declared.kind.TokenKind.{TokenKind}
use Rattle.ecma_token_kind.specs.declared.kind.TokenKind.TheVariants as kind
use Rattle.ecma_role_table.specs.declared.frame.Around.{Around}
use Rattle.ecma_role_table.specs.declared.frame.Frame.{Frame}
use Rattle.ecma_role_table.specs.declared.frame.FrameKind.TheVariants as frame
use Rattle.ecma_role_table.specs.declared.frame.Kinds.TheVariants as kinds
use Rattle.ecma_role_table.specs.declared.state.State.TheVariants as state
use Rattle.ecma_role_table.specs.declared.moves.Turn.TheVariants.{Done}
use Rattle.ecma_role_table.specs.Parts.{part_of_kind, part_of_word}
use Rattle.ecma_role_table.specs.Statements as statements
use Rattle.ecma_role_table.specs.Table.{row}
use Rattle.ecma_role_moves.specs.Moves.{brace, semi, bracket, changed, comma, moved, turned_to}
use Rattle.ecma_role_moves.specs.Nest.{Nested, async_function, dropped, dropped_from, gains_async, loses_async, nested, no_function, pending, pushed}
use Rattle.ecma_role_tracks.specs.Track.{TrackView, read_once, read_times, reading, stepped}
use Rattle.ecma_role_grammar.specs.Tokens.{Token, part, token}
use Rattle.ecma_role_grammar.specs.Grammar.{Parameters, async, in_function, is_accessor, is_async_word, is_identifier, is_identifier_kind, is_literal_name, is_on_line, is_optional_name, reserved, static, with_in, without_in}
use Rattle.ecma_role_grammar.specs.Laws.{around_of}
use Rattle.ecma_role_grammar.proofs.Runs.{Run, goes, is_slash, joins, lands, no_slash, one, stays, true_false}
use Rattle.ecma_role_grammar.proofs.Places.{AssignmentRuns, AtOperand, Bare, Complete, Concise, ElementRuns, Fits, FunctionRuns, Grouped, Holder, InClass, InClassExpression, InObject, InsideRuns, MemberRuns, Methodic, NameEnd, NameEnds, NameRuns, Opened, OperandRuns, Over, Plain, Postfix, PropertyEnd, PropertyRuns, Rests, TailRuns, ValueEnd, async_member_state, at, at_landed, begin, body_state, class_end, class_head_frame, class_holder, completed, ended, holder_frame, holder_nest, holder_state, is_label, is_name_place, name_state, named_pending, over, property_ended, rests_fits, sign_part}
use Rattle.ecma_role_grammar.proofs.Starts.{identifier_name, from_start}
use Rattle.ecma_role_grammar.proofs.Behind.{end_brace, end_semi, is_word_part, word_word, end_bracket, end_comma}
use Rattle.ecma_role_grammar.proofs.Expressions.{held}

abbrev is_extends : PartKind → Bool
is_extends (Reserved reserved'.Extends) = true
is_extends k = false

-- Names of members

abbrev is_name_part : PartKind → Bool
is_name_part (Name name.Async) = false
is_name_part (Name m) = true
is_name_part (Reserved r) = true
is_name_part (Sign sign.Literal) = true
is_name_part (Sign sign.Hash) = true
is_name_part (Sign s) = false

abbrev on_line : Bool → Bool → Bool
on_line true b = not b
on_line false b = true

literal-row : (h : Holder) (is_async : Bool) (n : Nested) (b : Bool) → on_line is_async b ≡ true → stepped (at (name_state h is_async) n) (sign_part sign.Literal b) ≡ at (holder_state h) n
unfolding read_times read_once row moved changed
literal-row InObject false n b line = refl
literal-row InObject true n b line = refl
literal-row InClass false n b line = refl
literal-row InClass true n true line = absurd cc
literal-row InClass true n false line = refl
literal-row InClassExpression false n b line = refl
literal-row InClassExpression true n true line = absurd cc
literal-row InClassExpression true n false line = refl

hash-row : (h : Holder) (is_async : Bool) (n : Nested) (b : Bool) → on_line is_async b ≡ true → stepped (at (name_state h is_async) n) (sign_part sign.Hash b) ≡ at (holder_state h) n
unfolding read_times read_once row moved changed
hash-row InObject false n b line = refl
hash-row InObject true n b line = refl
hash-row InClass false n b line = refl
hash-row InClass true n true line = absurd cc
hash-row InClass true n false line = refl
hash-row InClassExpression false n b line = refl
hash-row InClassExpression true n true line = absurd cc
hash-row InClassExpression true n false line = refl

name-row : (h : Holder) (is_async : Bool) (n : Nested) (k : PartKind) (b : Bool) → is_name_part k ≡ true → on_line is_async b ≡ true → (read_times 8 b (reading (at (name_state h is_async) n) (Some k))).track ≡ at (holder_state h) n
unfolding read_times read_once row moved changed
name-row h is_async n (Name name.Async) b ok line = absurd cc
name-row h is_async n (Sign sign.Literal) b ok line = literal-row h is_async n b line
name-row h is_async n (Sign sign.Hash) b ok line = hash-row h is_async n b line
name-row h is_async n (Sign s) b ok line = absurd cc
name-row InObject false n (Name m) b ok line = refl
name-row InObject true n (Name m) b ok line = refl
name-row InObject false n (Reserved r) b ok line = refl
name-row InObject true n (Reserved r) b ok line = refl
name-row InClass false n (Name m) b ok line = refl
name-row InClass true n (Name m) true ok line = absurd cc
name-row InClass true n (Name m) false ok line = refl
name-row InClass false n (Reserved r) b ok line = refl
name-row InClass true n (Reserved r) true ok line = absurd cc
name-row InClass true n (Reserved r) false ok line = refl
name-row InClassExpression false n (Name m) b ok line = refl
name-row InClassExpression true n (Name m) true ok line = absurd cc
name-row InClassExpression true n (Name m) false ok line = refl
name-row InClassExpression false n (Reserved r) b ok line = refl
name-row InClassExpression true n (Reserved r) true ok line = absurd cc
name-row InClassExpression true n (Reserved r) false ok line = refl

member-word : (w : WordKind) → is_async_word (kind.Word w) ≡ false → is_name_part (part_of_word w) ≡ true
member-word (word.Keyword keyword.Await) h = refl
member-word (word.Keyword k) h = refl
member-word (word.Ident (ident.Known known.Async)) h = absurd cc
member-word (word.Ident (ident.Known k)) h = refl
member-word (word.Ident ident.Other) h = refl
member-word word.Null h = refl
member-word word.True h = refl
member-word word.False h = refl

literal-name : (k : TokenKind) → is_literal_name k ≡ true → is_async_word k ≡ false → (is_slash k ≡ false) × (is_name_part (part_of_kind k) ≡ true)
literal-name (kind.Word (word.Keyword k)) h g = (refl, member-word (word.Keyword k) refl)
literal-name (kind.Word (word.Ident (ident.Known known.Async))) h g = absurd cc
literal-name (kind.Word (word.Ident (ident.Known k))) h g = (refl, member-word (word.Ident (ident.Known k)) refl)
literal-name (kind.Word (word.Ident ident.Other)) h g = (refl, refl)
literal-name (kind.Word word.Null) h g = (refl, refl)
literal-name (kind.Word word.True) h g = (refl, refl)
literal-name (kind.Word word.False) h g = (refl, refl)
literal-name kind.Str h g = (refl, refl)
literal-name kind.Num h g = (refl, refl)
literal-name kind.BigInt h g = (refl, refl)
literal-name k h g = absurd cc

first-line : (is_async b : Bool) (x : TokenKind) (xs : List Token) → is_name_place is_async (token x b ∷ xs) ≡ true → on_line is_async b ≡ true
first-line true b x xs h = h
first-line false b x xs h = refl

-- a name that is not `async`
plain-name : (k : TokenKind) (b : Bool) (h : Holder) (is_async : Bool) (kept : Around) (fs : List Frame) (a pend : Around) → is_literal_name k ≡ true → is_async_word k ≡ false → on_line is_async b ≡ true → Run (at (name_state h is_async) (holder_nest h kept fs a pend)) (token k b ∷ []) (at (holder_state h) (holder_nest h kept fs a pend))
plain-name k b h is_async kept fs a pend ok g line =
    let n = holder_nest h kept fs a pend in
    let l = literal-name k ok g in
    one (no_slash (at (name_state h is_async) n) k l.0) (name-row h is_async n (part_of_kind k) b l.1 line)

-- `async` as a name
gains-row : (h : Holder) (kept : Around) (fs : List Frame) (a : Around) (g b : Bool) → let pend : Around = record { is_async = false; is_generator = g } in stepped (at (holder_state h) (holder_nest h kept fs a pend)) (part (async b)) ≡ at (async_member_state h) (holder_nest h kept fs a (gains_async pend))
unfolding read_times read_once row moved changed
gains-row InObject kept fs a g b = refl
gains-row InClass kept fs a g b = refl
gains-row InClassExpression kept fs a g b = refl

async-name-row : (h : Holder) (kept : Around) (fs : List Frame) (a pend : Around) (b : Bool) → pend.is_async ≡ false → stepped (at (holder_state h) (holder_nest h kept fs a pend)) (part (async b)) ≡ at (async_member_state h) (holder_nest h kept fs a (gains_async pend))
async-name-row h kept fs a pend b none =
    let same : pend ≡ record { is_async = false; is_generator = pend.is_generator } = ap (λ i. let around : Around = record { is_async = i; is_generator = pend.is_generator } in around) none in
    subst (λ q. stepped (at (holder_state h) (holder_nest h kept fs a q)) (part (async b)) ≡ at (async_member_state h) (holder_nest h kept fs a (gains_async q))) (sym same) (gains-row h kept fs a pend.is_generator b)

is-async : (k : TokenKind) → is_async_word k ≡ true → k ≡ kind.Word (word.Ident (ident.Known known.Async))
is-async (kind.Word (word.Ident (ident.Known known.Async))) h = refl
is-async k h = absurd cc

-- `async` as a name where an async method is read
kept-row : (h : Holder) (kept : Around) (fs : List Frame) (a : Around) (g b : Bool) → let n = holder_nest h kept fs a (record { is_async = true; is_generator = g }) in stepped (at (holder_state h) n) (part (async b)) ≡ at (holder_state h) n
unfolding read_times read_once row moved changed
kept-row InObject kept fs a g b = refl
kept-row InClass kept fs a g b = refl
kept-row InClassExpression kept fs a g b = refl

second-row : (h : Holder) (kept : Around) (fs : List Frame) (a : Around) (g : Bool) → let n = holder_nest h kept fs a (record { is_async = true; is_generator = g }) in stepped (at (async_member_state h) n) (part (async false)) ≡ at (holder_state h) n
unfolding read_times read_once row moved changed
second-row InObject kept fs a g = refl
second-row InClass kept fs a g = refl
second-row InClassExpression kept fs a g = refl

is-pending : (i : Bool) (pend : Around) → pend.is_async ≡ i → pend ≡ record { is_async = i; is_generator = pend.is_generator }
is-pending i pend is = ap (λ j. let around : Around = record { is_async = j; is_generator = pend.is_generator } in around) is

async-kept : (h : Holder) (is_async : Bool) (kept : Around) (fs : List Frame) (a : Around) (g b : Bool) → on_line is_async b ≡ true → let n = holder_nest h kept fs a (record { is_async = true; is_generator = g }) in stepped (at (name_state h is_async) n) (part (async b)) ≡ at (holder_state h) n
async-kept h false kept fs a g b line = kept-row h kept fs a g b
async-kept h true kept fs a g false line = second-row h kept fs a g
async-kept h true kept fs a g true line = absurd cc

async-in : (b : Bool) (h : Holder) (is_async : Bool) (kept : Around) (fs : List Frame) (a pend : Around) (i : Bool) → pend.is_async ≡ i → on_line is_async b ≡ true → (is_async ≡ true → pend.is_async ≡ true) → NameEnds h is_async kept fs a pend (async b ∷ [])
async-in b h is_async kept fs a pend true is line read = record {
  named = false;
  settled = λ e. absurd (true_false (sym e));
  run = one (no_slash (at (name_state h is_async) (holder_nest h kept fs a pend)) (kind.Word (word.Ident (ident.Known known.Async))) refl) (subst (λ q. stepped (at (name_state h is_async) (holder_nest h kept fs a q)) (part (async b)) ≡ at (holder_state h) (holder_nest h kept fs a q)) (sym (is-pending true pend is)) (async-kept h is_async kept fs a pend.is_generator b line));
}
async-in b h false kept fs a pend false is line read = record { named = true; settled = λ _. is; run = one (no_slash (at (holder_state h) (holder_nest h kept fs a pend)) (kind.Word (word.Ident (ident.Known known.Async))) refl) (async-name-row h kept fs a pend b is) }
async-in b h true kept fs a pend false is line read = absurd (true_false (sym (read refl) ∙ is))

async-ends : (b : Bool) (h : Holder) (is_async : Bool) (kept : Around) (fs : List Frame) (a pend : Around) → on_line is_async b ≡ true → (is_async ≡ true → pend.is_async ≡ true) → NameEnds h is_async kept fs a pend (async b ∷ [])
async-ends b h is_async kept fs a pend line read = async-in b h is_async kept fs a pend pend.is_async refl line read

literal-ends : (k : TokenKind) (b : Bool) (is_it : Bool) (h : Holder) (is_async : Bool) (kept : Around) (fs : List Frame) (a pend : Around) → is_async_word k ≡ is_it → is_literal_name k ≡ true → on_line is_async b ≡ true → (is_async ≡ true → pend.is_async ≡ true) → NameEnds h is_async kept fs a pend (token k b ∷ [])
literal-ends k b false h is_async kept fs a pend g ok line read = record { named = false; settled = λ e. absurd (true_false (sym e)); run = plain-name k b h is_async kept fs a pend ok g line }
literal-ends k b true h is_async kept fs a pend g ok line read = subst (λ l. NameEnds h is_async kept fs a pend (token l b ∷ [])) (sym (is-async k g)) (async-ends b h is_async kept fs a pend line read)

pub literal_name_runs : (p : Parameters) (k : TokenKind) (b : Bool) → is_literal_name k ≡ true → NameRuns p (token k b ∷ [])
literal_name_runs p k b ok = record { runs = λ h is_async kept fs a pend is place read. literal-ends k b (is_async_word k) h is_async kept fs a pend refl ok (first-line is_async b k [] place) read }

-- behind `#` each word is read as where no `async` is next to it
private-ends : (a : Bool) (h : Holder) (is_async : Bool) (kept : Around) (fs : List Frame) (around pend : Around) (xs : List Token) → on_line is_async a ≡ true → NameEnds h false kept fs around pend xs → NameEnds h is_async kept fs around pend (token kind.Hash a ∷ xs)
private-ends a h is_async kept fs around pend xs line ends = record {
  named = ends.named;
  settled = ends.settled;
  run = goes (no_slash (at (name_state h is_async) (holder_nest h kept fs around pend)) kind.Hash refl) (hash-row h is_async (holder_nest h kept fs around pend) a line) ends.run;
}

pub private_name_runs : (p : Parameters) (w : WordKind) (a b : Bool) → NameRuns p (token kind.Hash a ∷ token (kind.Word w) b ∷ [])
private_name_runs p w a b = record {
  runs = λ h is_async kept fs around pend is place read. private-ends a h is_async kept fs around pend (token (kind.Word w) b ∷ []) (first-line is_async a kind.Hash (token (kind.Word w) b ∷ []) place) (literal-ends (kind.Word w) b (is_async_word (kind.Word w)) h false kept fs around pend refl refl refl (λ e. absurd (true_false (sym e))));
}

-- behind `async` as a name these are read as behind any name
lost : (pend : Around) → pend.is_async ≡ false → loses_async (gains_async pend) ≡ pend
lost pend h = ap (λ b. let around : Around = record { is_async = b; is_generator = pend.is_generator } in around) (sym h)

lost-paren : (h : Holder) (kept : Around) (fs : List Frame) (a pend : Around) (b : Bool) → stepped (at (async_member_state h) (holder_nest h kept fs a (gains_async pend))) (part (token kind.LParen b)) ≡ stepped (at (holder_state h) (holder_nest h kept fs a (loses_async (gains_async pend)))) (part (token kind.LParen b))
unfolding read_times read_once row moved changed
lost-paren InObject kept fs a pend b = refl
lost-paren InClass kept fs a pend b = refl
lost-paren InClassExpression kept fs a pend b = refl

lost-colon : (kept : Around) (fs : List Frame) (a pend : Around) (b : Bool) → stepped (at state.KeyAsync (holder_nest InObject kept fs a (gains_async pend))) (part (token kind.Colon b)) ≡ stepped (at state.Key (holder_nest InObject kept fs a (loses_async (gains_async pend)))) (part (token kind.Colon b))
unfolding read_times read_once row moved changed
lost-colon kept fs a pend b = refl

lost-field : (e : Bool) (kept : Around) (fs : List Frame) (a pend : Around) (b : Bool) → let t = at (async_member_state (class_holder e)) (holder_nest (class_holder e) kept fs a (gains_async pend)) in let u = at state.Member (holder_nest (class_holder e) kept fs a (loses_async (gains_async pend))) in
    (stepped t (part (token kind.Semi b)) ≡ stepped u (part (token kind.Semi b))) × (stepped t (sign_part sign.Assign b) ≡ stepped u (sign_part sign.Assign b))
unfolding read_times read_once row moved changed
lost-field true kept fs a pend b = (refl, refl)
lost-field false kept fs a pend b = (refl, refl)

reads-paren : (h : Holder) (named : Bool) (kept : Around) (fs : List Frame) (a pend : Around) (b : Bool) → (named ≡ true → pend.is_async ≡ false) → stepped (at (name_state h named) (holder_nest h kept fs a (named_pending named pend))) (part (token kind.LParen b)) ≡ stepped (at (holder_state h) (holder_nest h kept fs a pend)) (part (token kind.LParen b))
reads-paren h false kept fs a pend b settled = refl
reads-paren h true kept fs a pend b settled = lost-paren h kept fs a pend b ∙ ap (λ q. stepped (at (holder_state h) (holder_nest h kept fs a q)) (part (token kind.LParen b))) (lost pend (settled refl))

reads-colon : (named : Bool) (kept : Around) (fs : List Frame) (a pend : Around) (b : Bool) → (named ≡ true → pend.is_async ≡ false) → stepped (at (name_state InObject named) (holder_nest InObject kept fs a (named_pending named pend))) (part (token kind.Colon b)) ≡ stepped (at state.Key (holder_nest InObject kept fs a pend)) (part (token kind.Colon b))
reads-colon false kept fs a pend b settled = refl
reads-colon true kept fs a pend b settled = lost-colon kept fs a pend b ∙ ap (λ q. stepped (at state.Key (holder_nest InObject kept fs a q)) (part (token kind.Colon b))) (lost pend (settled refl))

reads-field : (e named : Bool) (kept : Around) (fs : List Frame) (a pend : Around) (b : Bool) → (named ≡ true → pend.is_async ≡ false) → let t = at (name_state (class_holder e) named) (holder_nest (class_holder e) kept fs a (named_pending named pend)) in let u = at state.Member (holder_nest (class_holder e) kept fs a pend) in
    (stepped t (part (token kind.Semi b)) ≡ stepped u (part (token kind.Semi b))) × (stepped t (sign_part sign.Assign b) ≡ stepped u (sign_part sign.Assign b))
reads-field true false kept fs a pend b settled = (refl, refl)
reads-field false false kept fs a pend b settled = (refl, refl)
reads-field e true kept fs a pend b settled =
    let same = lost pend (settled refl) in
    let l = lost-field e kept fs a pend b in
    (l.0 ∙ ap (λ q. stepped (at state.Member (holder_nest (class_holder e) kept fs a q)) (part (token kind.Semi b))) same, l.1 ∙ ap (λ q. stepped (at state.Member (holder_nest (class_holder e) kept fs a q)) (sign_part sign.Assign b)) same)

computed-row : (h : Holder) (is_async : Bool) (n : Nested) (b : Bool) → on_line is_async b ≡ true → stepped (at (name_state h is_async) n) (sign_part sign.LBracket b) ≡ at state.Operand (pushed frame.Computed n)
unfolding read_times read_once row moved changed
computed-row InObject false n b line = refl
computed-row InObject true n b line = refl
computed-row InClass false n b line = refl
computed-row InClass true n true line = absurd cc
computed-row InClass true n false line = refl
computed-row InClassExpression false n b line = refl
computed-row InClassExpression true n true line = absurd cc
computed-row InClassExpression true n false line = refl

computed-closed : (h : Holder) (kept : Around) (fs : List Frame) (a pend : Around) (m : Over) (last : Around) → at_landed (bracket (over (record { kind = frame.Computed; kept = pend } ∷ record { kind = holder_frame h; kept = kept } ∷ fs) a m last)) ≡ at (holder_state h) (holder_nest h kept fs a pend)
unfolding dropped_from
computed-closed InObject kept fs a pend Bare last = refl
computed-closed InObject kept fs a pend (Concise b) last = refl
computed-closed InClass kept fs a pend Bare last = refl
computed-closed InClass kept fs a pend (Concise b) last = refl
computed-closed InClassExpression kept fs a pend Bare last = refl
computed-closed InClassExpression kept fs a pend (Concise b) last = refl

pub computed_name_runs : (p : Parameters) (xs : List Token) (a b : Bool) → AssignmentRuns (with_in p) xs → NameRuns p (token kind.LBracket a ∷ xs ++ token kind.RBracket b ∷ [])
computed_name_runs p xs a b item = record {
  runs = λ holder is_async kept fs around pend is place read.
      let n = holder_nest holder kept fs around pend in
      let inner : List Frame = record { kind = frame.Computed; kept = pend } ∷ n.frames in
      let r = item.runs AtOperand inner around Bare pend (held (with_in p) frame.Computed pend n.frames around refl is) refl in
      record {
        named = false;
        settled = λ e. absurd (true_false (sym e));
        run = goes (no_slash (at (name_state holder is_async) n) kind.LBracket refl) (computed-row holder is_async n a (first-line is_async a kind.LBracket (xs ++ token kind.RBracket b ∷ []) place)) (joins r.run (one (no_slash (ended r.state (over inner around r.mark r.pend)) kind.RBracket refl) (end_bracket r.state (over inner around r.mark r.pend) b ∙ computed-closed holder kept fs around pend r.mark r.pend)));
      };
}

-- Methods

method-opened : (h : Holder) (kept : Around) (fs : List Frame) (a pend : Around) → Opened (at (holder_state h) (holder_nest h kept fs a pend)) Methodic pend a (record { kind = holder_frame h; kept = kept } ∷ fs) pend no_function
unfolding read_times read_once row moved changed
method-opened InObject kept fs a pend b = refl
method-opened InClass kept fs a pend b = refl
method-opened InClassExpression kept fs a pend b = refl

method-end : (h : Holder) (kept : Around) (fs : List Frame) (n : Nested) → at (body_state Methodic (record { kind = holder_frame h; kept = kept } ∷ fs)) n ≡ at (holder_state h) n
method-end InObject kept fs n = refl
method-end InClass kept fs n = refl
method-end InClassExpression kept fs n = refl

-- a name, and the parameters and body of a function of this kind
tail-run : (g i : Bool) (p : Parameters) (xs ys : List Token) (h : Holder) (is_async : Bool) (kept : Around) (fs : List Frame) (a : Around) → a ≡ around_of p → is_name_place is_async xs ≡ true → (is_async ≡ true → i ≡ true) → NameRuns p xs → FunctionRuns (in_function g i) ys
    → Run (at (name_state h is_async) (holder_nest h kept fs a (around_of (in_function g i)))) (xs ++ ys) (at (holder_state h) (holder_nest h kept fs a no_function))
tail-run g i p xs ys h is_async kept fs a is place read names rest =
    let pend = around_of (in_function g i) in
    let l = names.runs h is_async kept fs a pend is place read in
    joins l.run (lands (rest.runs (at (name_state h l.named) (holder_nest h kept fs a (named_pending l.named pend))) Methodic pend a (record { kind = holder_frame h; kept = kept } ∷ fs) no_function (λ b. reads-paren h l.named kept fs a pend b l.settled ∙ method-opened h kept fs a pend b)) (method-end h kept fs (holder_nest h kept fs a no_function)))

not-read : (i : Bool) → false ≡ true → i ≡ true
not-read i e = absurd (true_false (sym e))

pub method_runs : (p : Parameters) (xs ys : List Token) → NameRuns p xs → FunctionRuns (in_function false false) ys → MemberRuns p (xs ++ ys)
method_runs p xs ys named rest = record { runs = λ h kept fs a is. tail-run false false p xs ys h false kept fs a is refl (not-read false) named rest }

generator-row : (h : Holder) (kept : Around) (fs : List Frame) (a : Around) (b : Bool) → stepped (at (holder_state h) (holder_nest h kept fs a no_function)) (part (token (kind.BinOp binary.Mul) b)) ≡ at (holder_state h) (holder_nest h kept fs a (around_of (in_function true false)))
unfolding read_times read_once row moved changed
generator-row InObject kept fs a b = refl
generator-row InClass kept fs a b = refl
generator-row InClassExpression kept fs a b = refl

pub generator_method_runs : (p : Parameters) (xs ys : List Token) (b : Bool) → NameRuns p xs → FunctionRuns (in_function true false) ys → MemberRuns p (token (kind.BinOp binary.Mul) b ∷ (xs ++ ys))
generator_method_runs p xs ys b named rest = record { runs = λ h kept fs a is. goes (no_slash (at (holder_state h) (holder_nest h kept fs a no_function)) (kind.BinOp binary.Mul) refl) (generator-row h kept fs a b) (tail-run true false p xs ys h false kept fs a is refl (not-read false) named rest) }

async-row : (h : Holder) (kept : Around) (fs : List Frame) (a : Around) (b : Bool) → stepped (at (holder_state h) (holder_nest h kept fs a no_function)) (part (token (kind.Word (word.Ident (ident.Known known.Async))) b)) ≡ at (async_member_state h) (holder_nest h kept fs a (around_of (in_function false true)))
unfolding read_times read_once row moved changed
async-row InObject kept fs a b = refl
async-row InClass kept fs a b = refl
async-row InClassExpression kept fs a b = refl

async-star-row : (h : Holder) (kept : Around) (fs : List Frame) (a : Around) → stepped (at (async_member_state h) (holder_nest h kept fs a (around_of (in_function false true)))) (part (token (kind.BinOp binary.Mul) false)) ≡ at (holder_state h) (holder_nest h kept fs a (around_of (in_function true true)))
unfolding read_times read_once row moved changed
async-star-row InObject kept fs a = refl
async-star-row InClass kept fs a = refl
async-star-row InClassExpression kept fs a = refl

pub async_method_runs : (p : Parameters) (xs ys : List Token) (b : Bool) → is_on_line xs ≡ true → NameRuns p xs → FunctionRuns (in_function false true) ys → MemberRuns p (async b ∷ (xs ++ ys))
async_method_runs p xs ys b line named rest = record { runs = λ h kept fs a is. goes (no_slash (at (holder_state h) (holder_nest h kept fs a no_function)) (kind.Word (word.Ident (ident.Known known.Async))) refl) (async-row h kept fs a b) (tail-run false true p xs ys h true kept fs a is line (λ _. refl) named rest) }

pub async_generator_method_runs : (p : Parameters) (xs ys : List Token) (b : Bool) → NameRuns p xs → FunctionRuns (in_function true true) ys → MemberRuns p (async b ∷ token (kind.BinOp binary.Mul) false ∷ (xs ++ ys))
async_generator_method_runs p xs ys b named rest = record {
  runs = λ h kept fs a is.
      goes (no_slash (at (holder_state h) (holder_nest h kept fs a no_function)) (kind.Word (word.Ident (ident.Known known.Async))) refl) (async-row h kept fs a b) (goes (no_slash (at (async_member_state h) (holder_nest h kept fs a (around_of (in_function false true)))) (kind.BinOp binary.Mul) refl) (async-star-row h kept fs a) (tail-run true true p xs ys h false kept fs a is refl (not-read true) named rest));
}

accessor-name : (k : TokenKind) → is_accessor k ≡ true → (is_literal_name k ≡ true) × (is_async_word k ≡ false)
accessor-name (kind.Word (word.Ident (ident.Known known.Get))) h = (refl, refl)
accessor-name (kind.Word (word.Ident (ident.Known known.Set))) h = (refl, refl)
accessor-name k h = absurd cc

pub accessor_runs : (p : Parameters) (xs ys : List Token) (k : TokenKind) (b : Bool) → is_accessor k ≡ true → NameRuns p xs → FunctionRuns (in_function false false) ys → MemberRuns p (token k b ∷ (xs ++ ys))
accessor_runs p xs ys k b ok named rest = record {
  runs = λ h kept fs a is.
      let l = accessor-name k ok in
      joins (plain-name k b h false kept fs a no_function l.0 l.1 refl) (tail-run false false p xs ys h false kept fs a is refl (not-read false) named rest);
}

-- Properties

pub property_member : (p : Parameters) (xs : List Token) → MemberRuns p xs → PropertyRuns p xs
property_member p xs member = record { runs = λ kept fs a is. record { finish = NameEnd; run = member.runs InObject kept fs a is } }

-- an identifier is a name of a member
identifier-other : (p : Parameters) (w : WordKind) → is_identifier p w ≡ true → is_async_word (kind.Word w) ≡ false
identifier-other p (word.Ident (ident.Known known.Async)) h = absurd (true_false (sym h))
identifier-other p (word.Ident (ident.Known k)) h = refl
identifier-other p (word.Ident ident.Other) h = refl
identifier-other p (word.Keyword k) h = refl
identifier-other p w h = refl

reference-run : (p : Parameters) (w : WordKind) (b : Bool) (kept : Around) (fs : List Frame) (a : Around) → a ≡ around_of p → is_identifier p w ≡ true → Run (at state.Key (holder_nest InObject kept fs a no_function)) (token (kind.Word w) b ∷ []) (at state.Key (holder_nest InObject kept fs a no_function))
reference-run p w b kept fs a is h = plain-name (kind.Word w) b InObject false kept fs a no_function refl (identifier-other p w h) refl

pub property_reference_runs : (p : Parameters) (w : WordKind) (b : Bool) → is_identifier p w ≡ true → PropertyRuns p (token (kind.Word w) b ∷ [])
property_reference_runs p w b h = record { runs = λ kept fs a is. record { finish = NameEnd; run = reference-run p w b kept fs a is h } }

value-rows : (kept : Around) (fs : List Frame) (a : Around) (b : Bool) → let n = holder_nest InObject kept fs a no_function in
    (stepped (at state.Key n) (sign_part sign.Assign b) ≡ at state.Operand n) × (stepped (at state.Key n) (sign_part sign.Colon b) ≡ at state.Operand n) × (stepped (at state.Key n) (sign_part sign.DotDotDot b) ≡ at state.Operand n)
unfolding read_times read_once row moved changed
value-rows kept fs a b = (refl, refl, refl)

value-run : (p : Parameters) (xs : List Token) (kept : Around) (fs : List Frame) (a : Around) → a ≡ around_of p → AssignmentRuns (with_in p) xs → (t : TrackView) (before : List Token) → Run t before (at state.Operand (holder_nest InObject kept fs a no_function)) → (f : PropertyEnd) × Run t (before ++ xs) (property_ended f kept fs a)
value-run p xs kept fs a is item t before first =
    let inner : List Frame = record { kind = frame.Object; kept = kept } ∷ fs in
    let r = item.runs AtOperand inner a Bare no_function (held (with_in p) frame.Object kept fs a refl is) refl in
    (ValueEnd r.state r.mark, joins first (lands r.run (ap (λ q. ended r.state (over inner a r.mark q)) (r.keeps refl))))

pub property_initialized_runs : (p : Parameters) (xs : List Token) (w : WordKind) (b c : Bool) → is_identifier p w ≡ true → AssignmentRuns (with_in p) xs → PropertyRuns p (token (kind.Word w) b ∷ token (kind.AssignOp assigning.Assign) c ∷ xs)
property_initialized_runs p xs w b c h item = record {
  runs = λ kept fs a is.
      let n = holder_nest InObject kept fs a no_function in
      let r = value-run p xs kept fs a is item (at state.Key n) (token (kind.Word w) b ∷ token (kind.AssignOp assigning.Assign) c ∷ []) (joins (reference-run p w b kept fs a is h) (one (no_slash (at state.Key n) (kind.AssignOp assigning.Assign) refl) (value-rows kept fs a c).0)) in
      record { finish = r.0; run = r.1 };
}

pub property_value_runs : (p : Parameters) (xs ys : List Token) (b : Bool) → NameRuns p xs → AssignmentRuns (with_in p) ys → PropertyRuns p (xs ++ token kind.Colon b ∷ ys)
property_value_runs p xs ys b named item = record {
  runs = λ kept fs a is.
      let n = holder_nest InObject kept fs a no_function in
      let l = named.runs InObject false kept fs a no_function is refl (λ e. absurd (true_false (sym e))) in
      let t = at (name_state InObject l.named) (holder_nest InObject kept fs a (named_pending l.named no_function)) in
      let r = value-run p ys kept fs a is item t (token kind.Colon b ∷ []) (one (no_slash t kind.Colon refl) (reads-colon l.named kept fs a no_function b l.settled ∙ (value-rows kept fs a b).1)) in
      record { finish = r.0; run = joins l.run r.1 };
}

pub property_spread_runs : (p : Parameters) (xs : List Token) (b : Bool) → AssignmentRuns (with_in p) xs → PropertyRuns p (token kind.DotDotDot b ∷ xs)
property_spread_runs p xs b item = record {
  runs = λ kept fs a is.
      let n = holder_nest InObject kept fs a no_function in
      let r = value-run p xs kept fs a is item (at state.Key n) (token kind.DotDotDot b ∷ []) (one (no_slash (at state.Key n) kind.DotDotDot refl) (value-rows kept fs a b).2) in
      record { finish = r.0; run = r.1 };
}

name-comma : (kept : Around) (fs : List Frame) (a : Around) (b : Bool) → stepped (at state.Key (holder_nest InObject kept fs a no_function)) (part (token kind.Comma b)) ≡ at state.Key (holder_nest InObject kept fs a no_function)
unfolding read_times read_once row moved changed
name-comma kept fs a b = refl

value-comma : (kept : Around) (fs : List Frame) (a : Around) (m : Over) → at_landed (comma (over (record { kind = frame.Object; kept = kept } ∷ fs) a m no_function)) ≡ at state.Key (holder_nest InObject kept fs a no_function)
unfolding dropped_from
value-comma kept fs a Bare = refl
value-comma kept fs a (Concise b) = refl

property-comma : (f : PropertyEnd) (kept : Around) (fs : List Frame) (a : Around) (b : Bool) → stepped (property_ended f kept fs a) (part (token kind.Comma b)) ≡ at state.Key (holder_nest InObject kept fs a no_function)
property-comma NameEnd kept fs a b = name-comma kept fs a b
property-comma (ValueEnd e m) kept fs a b = end_comma e (over (record { kind = frame.Object; kept = kept } ∷ fs) a m no_function) b ∙ value-comma kept fs a m

name-closed : (kept : Around) (fs : List Frame) (a pend : Around) (b : Bool) → stepped (at state.Key (holder_nest InObject kept fs a pend)) (part (token kind.RBrace b)) ≡ at state.After (nested fs a no_function)
unfolding read_times read_once row moved changed dropped_from
name-closed kept fs a pend b = refl

value-closed : (kept : Around) (fs : List Frame) (a : Around) (m : Over) → at_landed (brace (pending no_function (over (record { kind = frame.Object; kept = kept } ∷ fs) a m no_function))) ≡ at state.After (nested fs a no_function)
unfolding dropped_from
value-closed kept fs a Bare = refl
value-closed kept fs a (Concise b) = refl

property-closed : (f : PropertyEnd) (kept : Around) (fs : List Frame) (a : Around) (b : Bool) → stepped (property_ended f kept fs a) (part (token kind.RBrace b)) ≡ at state.After (nested fs a no_function)
property-closed NameEnd kept fs a b = name-closed kept fs a no_function b
property-closed (ValueEnd e m) kept fs a b = end_brace e (over (record { kind = frame.Object; kept = kept } ∷ fs) a m no_function) b ∙ value-closed kept fs a m

pub more_property_runs : (p : Parameters) (xs ys : List Token) (b : Bool) → PropertyRuns p xs → PropertyRuns p ys → PropertyRuns p (xs ++ token kind.Comma b ∷ ys)
more_property_runs p xs ys b first second = record {
  runs = λ kept fs a is.
      let l = first.runs kept fs a is in
      let r = second.runs kept fs a is in
      record { finish = r.finish; run = joins l.run (goes (no_slash (property_ended l.finish kept fs a) kind.Comma refl) (property-comma l.finish kept fs a b) r.run) };
}

-- they do not depend on [In]
pub properties_without : (p : Parameters) (xs : List Token) → PropertyRuns p xs → PropertyRuns (without_in p) xs
properties_without p xs properties = record { runs = properties.runs }

-- Objects

object-row : (n : Nested) (b : Bool) → read_once (at state.Operand n) (part_of_kind kind.LBrace) b ≡ turned_to (Done state.Key) (holder_nest InObject n.around n.frames n.around no_function)
unfolding read_once row moved changed
object-row n b = refl

in-object : (p : Parameters) (xs : List Token) (a : Bool) → ((n : Nested) → n.around ≡ around_of p → Run (at state.Key (holder_nest InObject n.around n.frames n.around no_function)) xs (at state.After (pending no_function n))) → OperandRuns p (token kind.LBrace a ∷ xs)
in-object p xs a inside = record {
  some = refl;
  runs = λ s n fits o.
      record {
        state = Plain;
        pend = no_function;
        run = goes (no_slash (begin s n) kind.LBrace refl) (from_start s n kind.LBrace a xs state.Key (holder_nest InObject n.around n.frames n.around no_function) refl o (object-row n a)) (inside n fits.around);
        label = λ _. refl;
        keeps = λ h. refl;
      };
}

pub empty_object_runs : (p : Parameters) (a b : Bool) → OperandRuns p (token kind.LBrace a ∷ token kind.RBrace b ∷ [])
empty_object_runs p a b = in-object p (token kind.RBrace b ∷ []) a (λ n is. one (no_slash (at state.Key (holder_nest InObject n.around n.frames n.around no_function)) kind.RBrace refl) (name-closed n.around n.frames n.around no_function b))

pub object_runs : (p : Parameters) (xs : List Token) (a b : Bool) → PropertyRuns p xs → OperandRuns p (token kind.LBrace a ∷ xs ++ token kind.RBrace b ∷ [])
object_runs p xs a b properties = in-object p (xs ++ token kind.RBrace b ∷ []) a (λ n is.
    let r = properties.runs n.around n.frames n.around is in
    joins r.run (one (no_slash (property_ended r.finish n.around n.frames n.around) kind.RBrace refl) (property-closed r.finish n.around n.frames n.around b)))

pub object_comma_runs : (p : Parameters) (xs : List Token) (a b c : Bool) → PropertyRuns p xs → OperandRuns p (token kind.LBrace a ∷ xs ++ token kind.Comma b ∷ token kind.RBrace c ∷ [])
object_comma_runs p xs a b c properties = in-object p (xs ++ token kind.Comma b ∷ token kind.RBrace c ∷ []) a (λ n is.
    let r = properties.runs n.around n.frames n.around is in
    joins r.run (goes (no_slash (property_ended r.finish n.around n.frames n.around) kind.Comma refl) (property-comma r.finish n.around n.frames n.around b) (one (no_slash (at state.Key (holder_nest InObject n.around n.frames n.around no_function)) kind.RBrace refl) (name-closed n.around n.frames n.around no_function c))))

-- Classes

pub class_method_runs : (p : Parameters) (xs : List Token) → MemberRuns p xs → ElementRuns p xs
class_method_runs p xs member = record { runs = runs }
  where
    runs : (e : Bool) (kept : Around) (fs : List Frame) (a : Around) → a ≡ around_of p → Run (at state.Member (holder_nest (class_holder e) kept fs a no_function)) xs (at state.Member (holder_nest (class_holder e) kept fs a no_function))
    runs true kept fs a is = member.runs InClassExpression kept fs a is
    runs false kept fs a is = member.runs InClass kept fs a is

field-name : (p : Parameters) (xs : List Token) → NameRuns p xs → (e : Bool) (kept : Around) (fs : List Frame) (a : Around) → a ≡ around_of p → NameEnds (class_holder e) false kept fs a no_function xs
field-name p xs names e kept fs a is = names.runs (class_holder e) false kept fs a no_function is refl (λ f. absurd (true_false (sym f)))

from-member : (e : Bool) (n : Nested) → at (name_state (class_holder e) false) n ≡ at state.Member n
from-member true n = refl
from-member false n = refl

member-rows : (e : Bool) (kept : Around) (fs : List Frame) (a : Around) (b : Bool) → let n = holder_nest (class_holder e) kept fs a no_function in
    (stepped (at state.Member n) (part (token kind.Semi b)) ≡ at state.Member n) × (stepped (at state.Member n) (sign_part sign.Assign b) ≡ at state.Operand n) × (stepped (at state.Member n) (part (static b)) ≡ at state.Member n)
unfolding read_times read_once row moved changed
member-rows e kept fs a b = (refl, refl, refl)

pub class_semicolon_runs : (p : Parameters) (b : Bool) → ElementRuns p (token kind.Semi b ∷ [])
class_semicolon_runs p b = record { runs = λ e kept fs a is. one (no_slash (at state.Member (holder_nest (class_holder e) kept fs a no_function)) kind.Semi refl) (member-rows e kept fs a b).0 }

-- the name of a field
field-run : (p : Parameters) (xs : List Token) (e : Bool) (kept : Around) (fs : List Frame) (a : Around) (ends : NameEnds (class_holder e) false kept fs a no_function xs) → Run (at state.Member (holder_nest (class_holder e) kept fs a no_function)) xs (at (name_state (class_holder e) ends.named) (holder_nest (class_holder e) kept fs a (named_pending ends.named no_function)))
field-run p xs e kept fs a ends = subst (λ t. Run t xs (at (name_state (class_holder e) ends.named) (holder_nest (class_holder e) kept fs a (named_pending ends.named no_function)))) (from-member e (holder_nest (class_holder e) kept fs a no_function)) ends.run

pub class_field_runs : (p : Parameters) (xs : List Token) (b : Bool) → NameRuns p xs → ElementRuns p (xs ++ token kind.Semi b ∷ [])
class_field_runs p xs b names = record {
  runs = λ e kept fs a is.
      let l = field-name p xs names e kept fs a is in
      joins (field-run p xs e kept fs a l) (one (no_slash (at (name_state (class_holder e) l.named) (holder_nest (class_holder e) kept fs a (named_pending l.named no_function))) kind.Semi refl) ((reads-field e l.named kept fs a no_function b l.settled).0 ∙ (member-rows e kept fs a b).0));
}

field-closed : (e : Bool) (kept : Around) (fs : List Frame) (a : Around) (m : Over) (pend : Around) → at_landed (semi (dropped kinds.Candidates (over (record { kind = holder_frame (class_holder e); kept = kept } ∷ fs) a m pend))) ≡ at state.Member (holder_nest (class_holder e) kept fs a no_function)
unfolding dropped_from
field-closed true kept fs a Bare pend = refl
field-closed true kept fs a (Concise b) pend = refl
field-closed false kept fs a Bare pend = refl
field-closed false kept fs a (Concise b) pend = refl

class-held : (p : Parameters) (e : Bool) (kept : Around) (fs : List Frame) (a : Around) → a ≡ around_of p → Rests p (record { kind = holder_frame (class_holder e); kept = kept } ∷ fs) a Bare
class-held p true kept fs a is = held p frame.ClassExpression kept fs a refl is
class-held p false kept fs a is = held p frame.Class kept fs a refl is

pub class_field_value_runs : (p : Parameters) (xs ys : List Token) (b c : Bool) → NameRuns p xs → AssignmentRuns (with_in p) ys → ElementRuns p (xs ++ (token (kind.AssignOp assigning.Assign) b ∷ ys ++ token kind.Semi c ∷ []))
class_field_value_runs p xs ys b c named item = record {
  runs = λ e kept fs a is.
      let n = holder_nest (class_holder e) kept fs a no_function in
      let inner : List Frame = record { kind = holder_frame (class_holder e); kept = kept } ∷ fs in
      let r = item.runs AtOperand inner a Bare no_function (class-held (with_in p) e kept fs a is) refl in
      let last = over inner a r.mark r.pend in
      let l = field-name p xs named e kept fs a is in
      joins (field-run p xs e kept fs a l) (goes (no_slash (at (name_state (class_holder e) l.named) (holder_nest (class_holder e) kept fs a (named_pending l.named no_function))) (kind.AssignOp assigning.Assign) refl) ((reads-field e l.named kept fs a no_function b l.settled).1 ∙ (member-rows e kept fs a b).1) (joins r.run (one (no_slash (ended r.state last) kind.Semi refl) (end_semi r.state last c ∙ field-closed e kept fs a r.mark r.pend))));
}

pub static_element_runs : (p : Parameters) (xs : List Token) (b : Bool) → ElementRuns p xs → ElementRuns p (static b ∷ xs)
static_element_runs p xs b element = record { runs = λ e kept fs a is. goes (no_slash (at state.Member (holder_nest (class_holder e) kept fs a no_function)) (kind.Word (word.Ident (ident.Known known.Static))) refl) (member-rows e kept fs a b).2 (element.runs e kept fs a is) }

static-opened : (e : Bool) (kept : Around) (fs : List Frame) (a : Around) (b : Bool) → stepped (at state.Member (holder_nest (class_holder e) kept fs a no_function)) (part (token kind.LBrace b)) ≡ at state.Statement (nested (record { kind = frame.Static; kept = a } ∷ record { kind = holder_frame (class_holder e); kept = kept } ∷ fs) async_function no_function)
unfolding read_times read_once row moved changed
static-opened e kept fs a b = refl

static-closed : (e : Bool) (kept : Around) (fs : List Frame) (a pend : Around) (b : Bool) → stepped (at state.Statement (nested (record { kind = frame.Static; kept = a } ∷ record { kind = holder_frame (class_holder e); kept = kept } ∷ fs) async_function pend)) (part (token kind.RBrace b)) ≡ at state.Member (holder_nest (class_holder e) kept fs a no_function)
unfolding read_times read_once row moved changed statements.statement dropped_from
static-closed e kept fs a pend b = refl

pub static_block_runs : (p : Parameters) (xs : List Token) (b c d : Bool) → InsideRuns (in_function false true) xs → ElementRuns p (static b ∷ (token kind.LBrace c ∷ xs ++ token kind.RBrace d ∷ []))
static_block_runs p xs b c d body = record {
  runs = λ e kept fs a is.
      let n = holder_nest (class_holder e) kept fs a no_function in
      let inner : List Frame = record { kind = frame.Static; kept = a } ∷ n.frames in
      let r = body.runs inner no_function refl in
      goes (no_slash (at state.Member n) (kind.Word (word.Ident (ident.Known known.Static))) refl) (member-rows e kept fs a b).2 (goes (no_slash (at state.Member n) kind.LBrace refl) (static-opened e kept fs a c) (joins r.run (one (no_slash r.after kind.RBrace refl) (r.closes d ∙ static-closed e kept fs a r.pend d))));
}

pub no_elements_run : (p : Parameters) → ElementRuns p []
no_elements_run p = record { runs = λ e kept fs a is. stays (at state.Member (holder_nest (class_holder e) kept fs a no_function)) }

pub more_elements_run : (p : Parameters) (xs ys : List Token) → ElementRuns p xs → ElementRuns p ys → ElementRuns p (xs ++ ys)
more_elements_run p xs ys first second = record { runs = λ e kept fs a is. joins (first.runs e kept fs a is) (second.runs e kept fs a is) }

class-opened : (e : Bool) (kept : Around) (fs : List Frame) (a pend : Around) (b : Bool) → stepped (at state.ClassHead (nested (record { kind = class_head_frame e; kept = kept } ∷ fs) a pend)) (part (token kind.LBrace b)) ≡ at state.Member (holder_nest (class_holder e) kept fs a no_function)
unfolding read_times read_once row moved changed
class-opened true kept fs a pend b = refl
class-opened false kept fs a pend b = refl

class-closed : (e : Bool) (kept : Around) (fs : List Frame) (a : Around) (b : Bool) → stepped (at state.Member (holder_nest (class_holder e) kept fs a no_function)) (part (token kind.RBrace b)) ≡ at (class_end e) (nested fs a no_function)
unfolding read_times read_once row moved changed dropped_from
class-closed true kept fs a b = refl
class-closed false kept fs a b = refl

pub class_plain_runs : (p : Parameters) (xs : List Token) (a b : Bool) → ElementRuns p xs → TailRuns p (token kind.LBrace a ∷ xs ++ token kind.RBrace b ∷ [])
class_plain_runs p xs a b elements = record {
  runs = λ e kept fs around pend is.
      goes (no_slash (at state.ClassHead (nested (record { kind = class_head_frame e; kept = kept } ∷ fs) around pend)) kind.LBrace refl) (class-opened e kept fs around pend a) (joins (elements.runs e kept fs around is) (one (no_slash (at state.Member (holder_nest (class_holder e) kept fs around no_function)) kind.RBrace refl) (class-closed e kept fs around b)));
}

extends-row : (n : Nested) (b : Bool) → stepped (at state.ClassHead n) (part (token (kind.Word (word.Keyword keyword.Extends)) b)) ≡ at state.Operand n
unfolding read_times read_once row moved changed
extends-row n b = refl

heritage-closed : (c : Complete) (e : Bool) (kept : Around) (fs : List Frame) (a pend : Around) (b : Bool) → is_label c ≡ false → stepped (completed c (nested (record { kind = class_head_frame e; kept = kept } ∷ fs) a pend)) (part (token kind.LBrace b)) ≡ at state.Member (holder_nest (class_holder e) kept fs a no_function)
unfolding read_times read_once row moved changed
heritage-closed Plain true kept fs a pend b h = refl
heritage-closed Plain false kept fs a pend b h = refl
heritage-closed Postfix true kept fs a pend b h = refl
heritage-closed Postfix false kept fs a pend b h = refl
heritage-closed Grouped true kept fs a pend b h = refl
heritage-closed Grouped false kept fs a pend b h = refl
heritage-closed c e kept fs a pend b h = absurd cc

head-fits : (p : Parameters) (e : Bool) (kept : Around) (fs : List Frame) (a pend : Around) → a ≡ around_of p → Fits p (nested (record { kind = class_head_frame e; kept = kept } ∷ fs) a pend)
head-fits p true kept fs a pend is = rests_fits p (record { kind = frame.ClassExpressionHead; kept = kept } ∷ fs) a Bare pend (held p frame.ClassExpressionHead kept fs a refl is)
head-fits p false kept fs a pend is = rests_fits p (record { kind = frame.ClassHead; kept = kept } ∷ fs) a Bare pend (held p frame.ClassHead kept fs a refl is)

pub class_extends_runs : (p : Parameters) (xs ys : List Token) (a b c : Bool) → OperandRuns p xs → ElementRuns p ys → TailRuns p (reserved keyword.Extends a ∷ (xs ++ (token kind.LBrace b ∷ ys ++ token kind.RBrace c ∷ [])))
class_extends_runs p xs ys a b c heritage elements = record {
  runs = λ e kept fs around pend is.
      let n = nested (record { kind = class_head_frame e; kept = kept } ∷ fs) around pend in
      let r = heritage.runs AtOperand n (head-fits p e kept fs around pend is) refl in
      goes (no_slash (at state.ClassHead n) (kind.Word (word.Keyword keyword.Extends)) refl) (extends-row n a) (joins r.run (goes (no_slash (completed r.state (pending r.pend n)) kind.LBrace refl) (heritage-closed r.state e kept fs around r.pend b (r.label refl)) (joins (elements.runs e kept fs around is) (one (no_slash (at state.Member (holder_nest (class_holder e) kept fs around no_function)) kind.RBrace refl) (class-closed e kept fs around c)))));
}

class-word : (n : Nested) (k : PartKind) (b : Bool) → is_word_part k ≡ true → is_extends k ≡ false → (read_times 8 b (reading (at state.ClassHead n) (Some k))).track ≡ at state.ClassHead n
unfolding read_times read_once row moved changed
class-word n (Name m) b h f = refl
class-word n (Reserved reserved'.Extends) b h f = absurd cc
class-word n (Reserved r) b h f = refl
class-word n (Sign s) b h f = absurd cc

identifier-extends : (p : Parameters) (w : WordKind) → is_identifier p w ≡ true → is_extends (part_of_word w) ≡ false
identifier-extends p w h = rw (identifier_name p w h).0 refl

class-name : (p : Parameters) (n : Nested) (k : TokenKind) (b : Bool) → is_identifier_kind p k ≡ true → (is_slash k ≡ false) × (stepped (at state.ClassHead n) (part (token k b)) ≡ at state.ClassHead n)
class-name p n (kind.Word w) b h = (refl, class-word n (part_of_word w) b (word_word w) (identifier-extends p w h))
class-name p n k b h = absurd cc

pub class_name_run : (p : Parameters) (n : Nested) (xs : List Token) → is_optional_name p xs ≡ true → Run (at state.ClassHead n) xs (at state.ClassHead n)
class_name_run p n [] h = stays (at state.ClassHead n)
class_name_run p n (x ∷ []) h = let r = class-name p n x.kind x.had_line_break h in one (no_slash (at state.ClassHead n) x.kind r.0) r.1
class_name_run p n (x ∷ y ∷ xs) h = absurd cc

class-row : (n : Nested) (b : Bool) → read_once (at state.Operand n) (part_of_kind (kind.Word (word.Keyword keyword.Class))) b ≡ turned_to (Done state.ClassHead) (pushed frame.ClassExpressionHead n)
unfolding read_once row moved changed
class-row n b = refl

pub class_expression_runs : (p : Parameters) (name xs : List Token) (a : Bool) → is_optional_name p name ≡ true → TailRuns p xs → OperandRuns p (reserved keyword.Class a ∷ (name ++ xs))
class_expression_runs p name xs a named tail = record {
  some = refl;
  runs = λ s n fits o.
      record {
        state = Plain;
        pend = no_function;
        run = goes (no_slash (begin s n) (kind.Word (word.Keyword keyword.Class)) refl) (from_start s n (kind.Word (word.Keyword keyword.Class)) a (name ++ xs) state.ClassHead (pushed frame.ClassExpressionHead n) refl o (class-row n a)) (joins (class_name_run p (pushed frame.ClassExpressionHead n) name named) (tail.runs true n.around n.frames n.around n.pending fits.around));
        label = λ _. refl;
        keeps = λ h. refl;
      };
}
