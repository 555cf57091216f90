-- Statements with heads and parts of the grammar run: one lemma for each form of production
use Rattle.std.proofs.Common.{◌≡◌, ◌∙◌, ap, Bool, true, false, List, [], ◌∷◌, ◌++◌, refl}
use Rattle.ecma_word.specs.declared.keyword.Keyword.{Keyword}
use Rattle.ecma_word.specs.declared.keyword.Keyword.TheVariants as keyword
use Rattle.ecma_word.specs.declared.word.WordKind.{WordKind}
use Rattle.ecma_word.specs.declared.word.WordKind.TheVariants as word
use Rattle.ecma_word.specs.declared.word.IdentKind.TheVariants as ident
use Rattle.ecma_word.specs.declared.known_ident.KnownIdent.TheVariants as known
use Rattle.ecma_role_table.specs.declared.part.PartKind.TheVariants.{Name, Sign}
use Rattle.ecma_role_table.specs.declared.part.Sign.TheVariants as sign
use Rattle.ecma_role_table.specs.declared.part.Name as names
use Rattle.ecma_token_kind.specs.declared.kind.TokenKind.{TokenKind}
use Rattle.ecma_token_kind.specs.declared.kind.TokenKind.TheVariants as kind
use Rattle.ecma_role_table.specs.declared.frame.Around.{Around}
use Rattle.ecma_role_table.specs.declared.frame.Frame.{Frame}
use Rattle.ecma_role_table.specs.declared.frame.FrameKind.TheVariants as frame
use Rattle.ecma_role_table.specs.declared.frame.Kinds.TheVariants as kinds
use Rattle.ecma_role_table.specs.declared.state.State.TheVariants as state
use Rattle.ecma_role_table.specs.declared.moves.Grouping.TheVariants as grouping
use Rattle.ecma_role_table.specs.declared.moves.Turn.TheVariants.{Again, Done}
use Rattle.ecma_role_table.specs.Parts.{part_of_word}
use Rattle.ecma_role_table.specs.Statements as statements
use Rattle.ecma_role_table.specs.Table.{row}
use Rattle.ecma_role_moves.specs.Moves.{semi, fresh_of, changed, colon, landed, moved, paren, turned_to}
use Rattle.ecma_role_moves.specs.Nest.{Nested, dropped, dropped_from, nested, no_function, pending, pushed, top}
use Rattle.ecma_role_tracks.specs.Track.{TrackView, read_once, read_times, stepped}
use Rattle.ecma_role_grammar.specs.Tokens.{Token, part, token}
use Rattle.ecma_role_grammar.specs.Grammar.{in_parens, is_left_brace, is_declaring, of, is_on_line, begins_brace, Parameters, is_identifier, reserved, with_in, without_in}
use Rattle.ecma_role_grammar.specs.Laws.{around_of}
use Rattle.ecma_role_grammar.proofs.Runs.{begins_alike, RightAt, Run, goes, joins, no_slash, one, stays}
use Rattle.ecma_role_grammar.proofs.Places.{AssignmentRuns, AtForHead, AtOperand, AtRestricted, Bare, Bound, BoundRuns, ByName, ByPattern, Complete, Concise, Continues, DeclarationRuns, Ends, Finish, First, Fits, ForEnds, ForHeadRuns, Grouped, InterfaceOr, LabelOr, ListRuns, NameBound, Nothing, Open, OperandRuns, Over, Plain, Postfix, Rests, Shut, Something, StatementRuns, TestRuns, TypeOr, ValueBound, VariableEnd, Whole, at, at_landed, bound_state, calm_settled, completed, declared_frames, ended, finished, first_ended, fits_settled, for_frames, is_label, is_label_bound, over, rests_fits, statements_rest, statements_separate, top_of, variable_ended}
use Rattle.ecma_role_grammar.proofs.Starts.{again, label_begun, taken, identifier_name, name_of}
use Rattle.ecma_role_grammar.proofs.Behind.{end_semi, behind_in, end_colon, end_paren}
use Rattle.ecma_role_grammar.proofs.Expressions.{held}
use Rattle.ecma_role_grammar.proofs.Declarations.{declaring_row}
use Rattle.ecma_role_grammar.proofs.Statements.{gone_marks, semi_moved, semi_row}

-- groups of words
abbrev pub is_before : Keyword → Bool
is_before keyword.Else = true
is_before keyword.Do = true
is_before keyword.Try = true
is_before keyword.Finally = true
is_before keyword.Debugger = true
is_before k = false

abbrev pub is_control : Keyword → Bool
is_control keyword.If = true
is_control keyword.While = true
is_control keyword.With = true
is_control keyword.Switch = true
is_control keyword.Catch = true
is_control k = false

abbrev pub is_leave : Keyword → Bool
is_leave keyword.Break = true
is_leave keyword.Continue = true
is_leave k = false

abbrev pub is_return : Keyword → Bool
is_return keyword.Return = true
is_return keyword.Throw = true
is_return k = false

-- what is behind `in` or `of` in the head of a `for`
abbrev ItemsOf : Parameters → List Token → Type 0
ItemsOf p ys = (fs : List Frame) (before : Around) → Ends AtOperand (for_frames fs (around_of p)) (around_of p) Bare before ys

-- one part behind another
both : (fs : List Frame) (a before : Around) (xs ys : List Token) → Continues fs a before xs → ((pend : Around) → Continues fs a pend ys) → Continues fs a before (xs ++ ys)
both fs a before xs ys l later = let r = later l.pend in record { pend = r.pend; run = joins l.run r.run; keeps = λ k. r.keeps (l.keeps k) }

-- a word before a statement
pub before_row : (k : Keyword) (n : Nested) (b : Bool) → is_before k ≡ true → stepped (at state.Statement n) (part (reserved k b)) ≡ at state.Statement n
unfolding read_times read_once row moved changed statements.statement
before_row keyword.Else n b h = refl
before_row keyword.Do n b h = refl
before_row keyword.Try n b h = refl
before_row keyword.Finally n b h = refl
before_row keyword.Debugger n b h = refl
before_row k n b h = absurd cc

pub before_run : (p : Parameters) (xs : List Token) (k : Keyword) (b : Bool) → is_before k ≡ true → StatementRuns p xs → StatementRuns p (reserved k b ∷ xs)
before_run p xs k b h s = record {
  runs = λ fs before over_statements.
      let n = nested fs (around_of p) before in
      let r = s.runs fs before over_statements in
      record { pend = r.pend; run = goes (no_slash (at state.Statement n) (kind.Word (word.Keyword k)) refl) (before_row k n b h) r.run; keeps = r.keeps };
}

-- Heads in parentheses

control-row : (k : Keyword) (n : Nested) (b : Bool) → is_control k ≡ true → stepped (at state.Statement n) (part (reserved k b)) ≡ at state.Control n
unfolding read_times read_once row moved changed statements.statement
control-row keyword.If n b h = refl
control-row keyword.While n b h = refl
control-row keyword.With n b h = refl
control-row keyword.Switch n b h = refl
control-row keyword.Catch n b h = refl
control-row k n b h = absurd cc

paren-row : (n : Nested) (b : Bool) → stepped (at state.Control n) (part (token kind.LParen b)) ≡ at state.Operand (pushed frame.Control n)
unfolding read_times read_once row moved changed
paren-row n b = refl

control-closed : (fs : List Frame) (a kept : Around) (m : Over) (pend : Around) → at_landed (paren (over (record { kind = frame.Control; kept = kept } ∷ fs) a m pend)) ≡ at state.Statement (nested fs a pend)
unfolding dropped_from
control-closed fs a kept Bare pend = refl
control-closed fs a kept (Concise b) pend = refl

pub control_part : (p : Parameters) (xs : List Token) (k : Keyword) (b c d : Bool) → is_control k ≡ true → ListRuns (with_in p) xs → (fs : List Frame) (before : Around) → Continues fs (around_of p) before (reserved k b ∷ in_parens c d xs)
control_part p xs k b c d h list fs before =
    let a = around_of p in
    let n = nested fs a before in
    let inner : List Frame = record { kind = frame.Control; kept = a } ∷ fs in
    let r = list.runs AtOperand inner a before (held (with_in p) frame.Control a fs a refl refl) (record { kept = refl; behind = refl }) refl in
    let last = over inner a r.mark r.pend in
    record {
      pend = r.pend;
      run = goes (no_slash (at state.Statement n) (kind.Word (word.Keyword k)) refl) (control-row k n b h) (goes (no_slash (at state.Control n) kind.LParen refl) (paren-row n c) (joins r.run (one (no_slash (ended r.state last) kind.RParen refl) (end_paren r.state last d ∙ control-closed fs a a r.mark r.pend))));
      keeps = r.keeps;
    }

pub control_run : (p : Parameters) (xs ys : List Token) (k : Keyword) (b c d : Bool) → is_control k ≡ true → ListRuns (with_in p) xs → StatementRuns p ys → StatementRuns p (reserved k b ∷ in_parens c d xs ++ ys)
control_run p xs ys k b c d h list s = record { runs = λ fs before over_statements. both fs (around_of p) before (reserved k b ∷ in_parens c d xs) ys (control_part p xs k b c d h list fs before) (λ pend. s.runs fs pend over_statements) }

pub head_run : (p : Parameters) (xs : List Token) (k : Keyword) (b c d : Bool) → is_control k ≡ true → ListRuns (with_in p) xs → StatementRuns p (reserved k b ∷ in_parens c d xs)
head_run p xs k b c d h list = record { runs = λ fs before over_statements. control_part p xs k b c d h list fs before }

-- Leaving

pub leave_row : (k : Keyword) (n : Nested) (b : Bool) → is_leave k ≡ true → stepped (at state.Statement n) (part (reserved k b)) ≡ at state.Break n
unfolding read_times read_once row moved changed statements.statement
leave_row keyword.Break n b h = refl
leave_row keyword.Continue n b h = refl
leave_row k n b h = absurd cc

pub fresh_again_semi : (n : Nested) (b : Bool) → dropped kinds.Marks n ≡ n → fresh_of (top n) ≡ state.Statement → read_once (at state.Break n) (Sign sign.Semi) b ≡ turned_to (Again state.Statement (Sign sign.Semi)) n
unfolding read_once row moved changed
fresh_again_semi n b gone h = ap (λ m. turned_to (Again (fresh_of (top m)) (Sign sign.Semi)) m) gone ∙ ap (λ s. turned_to (Again s (Sign sign.Semi)) n) h

semi-once : (n : Nested) (b : Bool) → read_once (at state.Statement n) (Sign sign.Semi) b ≡ turned_to (Done (semi n).state) (semi n).nest
unfolding read_once row moved changed statements.statement
semi-once n b = refl

leave-semi : (p : Parameters) (fs : List Frame) (a pend : Around) (b : Bool) → fresh_of (top_of fs) ≡ state.Statement → stepped (at state.Break (nested fs a pend)) (part (token kind.Semi b)) ≡ at state.Statement (nested fs a pend)
leave-semi p fs a pend b h =
    let n = nested fs a pend in
    let gone = gone_marks fs a Bare pend h in
    ap (λ r. r.track) (again 7 b (at state.Break n) (Sign sign.Semi) (Sign sign.Semi) state.Statement n (fresh_again_semi n b gone h) ∙ taken 6 b (at state.Statement n) (Sign sign.Semi) (semi n).state (semi n).nest (semi-once n b))
    ∙ ap at_landed (semi_moved n n gone h)

pub leave_run : (p : Parameters) (k : Keyword) (b c : Bool) → is_leave k ≡ true → StatementRuns p (reserved k b ∷ token kind.Semi c ∷ [])
leave_run p k b c h = record {
  runs = λ fs before over_statements.
      let n = nested fs (around_of p) before in
      record { pend = before; run = goes (no_slash (at state.Statement n) (kind.Word (word.Keyword k)) refl) (leave_row k n b h) (one (no_slash (at state.Break n) kind.Semi refl) (leave-semi p fs (around_of p) before c over_statements)); keeps = λ e. e };
}

pub label_row : (n : Nested) (m : names.Name) → stepped (at state.Break n) (record { kind = Name m; had_line_break = false }) ≡ at state.Statement n
unfolding read_times read_once row moved changed
label_row n m = refl

semi-row : (n : Nested) (b : Bool) → stepped (at state.Statement n) (part (token kind.Semi b)) ≡ at_landed (semi n)
unfolding read_times read_once row moved changed statements.statement
semi-row n b = refl

pub leave_label_run : (p : Parameters) (w : WordKind) (k : Keyword) (b c : Bool) → is_identifier p w ≡ true → is_leave k ≡ true → StatementRuns p (reserved k b ∷ token (kind.Word w) false ∷ token kind.Semi c ∷ [])
leave_label_run p w k b c named h = record {
  runs = λ fs before over_statements.
      let n = nested fs (around_of p) before in
      let i = identifier_name p w named in
      record {
        pend = before;
        run = goes (no_slash (at state.Statement n) (kind.Word (word.Keyword k)) refl) (leave_row k n b h) (goes (no_slash (at state.Break n) (kind.Word w) refl) (rw i.0 (label_row n (name_of (part_of_word w)))) (one (no_slash (at state.Statement n) kind.Semi refl) (semi-row n c ∙ ap at_landed (semi_moved n n (gone_marks fs (around_of p) Bare before over_statements) over_statements))));
        keeps = λ e. e;
      };
}

pub return_row : (k : Keyword) (n : Nested) (b : Bool) → is_return k ≡ true → stepped (at state.Statement n) (part (reserved k b)) ≡ at state.Restricted n
unfolding read_times read_once row moved changed statements.statement
return_row keyword.Return n b h = refl
return_row keyword.Throw n b h = refl
return_row k n b h = absurd cc

restricted-semi : (n : Nested) (b : Bool) → stepped (at state.Restricted n) (part (token kind.Semi b)) ≡ at_landed (semi (dropped kinds.Candidates n))
unfolding read_times read_once row moved changed
restricted-semi n b = refl

pub return_run : (p : Parameters) (b c : Bool) → StatementRuns p (reserved keyword.Return b ∷ token kind.Semi c ∷ [])
return_run p b c = record {
  runs = λ fs before h.
      let a = around_of p in
      let n = nested fs a before in
      record {
        pend = before;
        run = goes (no_slash (at state.Statement n) (kind.Word (word.Keyword keyword.Return)) refl) (return_row keyword.Return n b refl) (one (no_slash (at state.Restricted n) kind.Semi refl) (restricted-semi n c ∙ ap (λ m. at_landed (semi m)) (calm_settled n (statements_rest p fs a h refl).calm) ∙ ap at_landed (semi_moved n n (gone_marks fs a Bare before h) h)));
        keeps = λ e. e;
      };
}

pub return_value_run : (p : Parameters) (xs : List Token) (k : Keyword) (b c : Bool) → is_return k ≡ true → is_on_line xs ≡ true → ListRuns (with_in p) xs → StatementRuns p (reserved k b ∷ (xs ++ token kind.Semi c ∷ []))
return_value_run p xs k b c ok line list = record {
  runs = λ fs before h.
      let a = around_of p in
      let n = nested fs a before in
      let r = list.runs AtRestricted fs a before (statements_rest (with_in p) fs a h refl) (statements_separate fs h) line in
      record {
        pend = r.pend;
        run = goes (no_slash (at state.Statement n) (kind.Word (word.Keyword k)) refl) (return_row k n b ok) (joins r.run (one (no_slash (ended r.state (over fs a r.mark r.pend)) kind.Semi refl) (semi_row p r.state fs a r.mark r.pend c refl h)));
        keeps = r.keeps;
      };
}

-- Labels

pub label_colon : (c : Complete) (n : Nested) (b : Bool) → is_label c ≡ true → stepped (completed c n) (part (token kind.Colon b)) ≡ at state.Statement n
unfolding read_times read_once row moved changed
label_colon LabelOr n b h = refl
label_colon TypeOr n b h = refl
label_colon InterfaceOr n b h = refl
label_colon c n b h = absurd cc

pub labelled_run : (p : Parameters) (xs : List Token) (w : WordKind) (b c : Bool) → is_identifier p w ≡ true → StatementRuns p xs → StatementRuns p (token (kind.Word w) b ∷ token kind.Colon c ∷ xs)
labelled_run p xs w b c named s = record {
  runs = λ fs before h.
      let n = nested fs (around_of p) before in
      let l = label_begun p n w b refl named in
      let r = s.runs fs before h in
      record {
        pend = r.pend;
        run = goes (no_slash (at state.Statement n) (kind.Word w) refl) l.is (goes (no_slash (completed l.state n) kind.Colon refl) (label_colon l.state n c l.label) r.run);
        keeps = r.keeps;
      };
}

-- Cases

case-row : (n : Nested) (b : Bool) → stepped (at state.Statement n) (part (reserved keyword.Case b)) ≡ at state.Operand (pushed frame.Case n)
unfolding read_times read_once row moved changed statements.statement
case-row n b = refl

case-colon : (fs : List Frame) (a kept : Around) (m : Over) (pend : Around) → let n = over (record { kind = frame.Case; kept = kept } ∷ fs) a m pend in
    (dropped kinds.Candidates n ≡ n) × (colon grouping.None n ≡ landed state.Statement (nested fs a pend)) × (colon grouping.Plain n ≡ landed state.Statement (nested fs a pend))
unfolding dropped_from
case-colon fs a kept Bare pend = (refl, refl, refl)
case-colon fs a kept (Concise b) pend = (refl, refl, refl)

pub case_run : (p : Parameters) (xs ys : List Token) (b c : Bool) → ListRuns (with_in p) xs → StatementRuns p ys → StatementRuns p (reserved keyword.Case b ∷ xs ++ token kind.Colon c ∷ ys)
case_run p xs ys b c list s = record {
  runs = λ fs before h.
      let a = around_of p in
      let n = nested fs a before in
      let inner : List Frame = record { kind = frame.Case; kept = a } ∷ fs in
      let r = list.runs AtOperand inner a before (held (with_in p) frame.Case a fs a refl refl) (record { kept = refl; behind = refl }) refl in
      let last = over inner a r.mark r.pend in
      let closed = case-colon fs a a r.mark r.pend in
      let t = s.runs fs r.pend h in
      record {
        pend = t.pend;
        run = goes (no_slash (at state.Statement n) (kind.Word (word.Keyword keyword.Case)) refl) (case-row n b) (joins r.run (goes (no_slash (ended r.state last) kind.Colon refl) (end_colon r.state last (nested fs a r.pend) state.Statement c (r.label refl) closed.0 closed.1 closed.2) t.run));
        keeps = λ k. t.keeps (r.keeps k);
      };
}

default-rows : (n : Nested) (b c : Bool) → (stepped (at state.Statement n) (part (reserved keyword.Default_ b)) ≡ at state.Default n) × (stepped (at state.Default n) (part (token kind.Colon c)) ≡ at state.Statement n)
unfolding read_times read_once row moved changed statements.statement
default-rows n b c = (refl, refl)

pub default_run : (p : Parameters) (xs : List Token) (b c : Bool) → StatementRuns p xs → StatementRuns p (reserved keyword.Default_ b ∷ token kind.Colon c ∷ xs)
default_run p xs b c s = record {
  runs = λ fs before h.
      let n = nested fs (around_of p) before in
      let r = s.runs fs before h in
      record { pend = r.pend; run = goes (no_slash (at state.Statement n) (kind.Word (word.Keyword keyword.Default_)) refl) (default-rows n b c).0 (goes (no_slash (at state.Default n) kind.Colon refl) (default-rows n b c).1 r.run); keeps = r.keeps };
}

-- `catch`

catch-block : (k : TokenKind) (n : Nested) (b : Bool) → is_left_brace k ≡ true → RightAt (at state.Control n) k × (stepped (at state.Control n) (part (token k b)) ≡ stepped (at state.Statement n) (part (token k b)))
unfolding read_times read_once row moved changed statements.statement
catch-block kind.LBrace n b h = (no_slash (at state.Control n) kind.LBrace refl, refl)
catch-block k n b h = absurd cc

behind-control : (xs : List Token) (n : Nested) (v : TrackView) → begins_brace xs ≡ true → Run (at state.Statement n) xs v → Run (at state.Control n) xs v
behind-control [] n v h run = absurd cc
behind-control (x ∷ xs) n v h run = let same = catch-block x.kind n x.had_line_break h in begins_alike same.0 same.1 run

pub catch_block_run : (p : Parameters) (xs : List Token) (b : Bool) → begins_brace xs ≡ true → StatementRuns p xs → StatementRuns p (reserved keyword.Catch b ∷ xs)
catch_block_run p xs b begins s = record {
  runs = λ fs before h.
      let n = nested fs (around_of p) before in
      let r = s.runs fs before h in
      record { pend = r.pend; run = goes (no_slash (at state.Statement n) (kind.Word (word.Keyword keyword.Catch)) refl) (control-row keyword.Catch n b refl) (behind-control xs n (at state.Statement (nested fs (around_of p) r.pend)) begins r.run); keeps = r.keeps };
}

pub catch_parameter_run : (p : Parameters) (xs ys : List Token) (b c d : Bool) → OperandRuns (without_in p) xs → StatementRuns p ys → StatementRuns p (reserved keyword.Catch b ∷ in_parens c d xs ++ ys)
catch_parameter_run p xs ys b c d target s = record {
  runs = λ fs before h.
      let a = around_of p in
      let n = nested fs a before in
      let inner : List Frame = record { kind = frame.Control; kept = a } ∷ fs in
      let r = target.runs AtOperand (nested inner a before) (rests_fits (without_in p) inner a Bare before (held (without_in p) frame.Control a fs a refl refl)) refl in
      let last = nested inner a r.pend in
      let t = s.runs fs r.pend h in
      record {
        pend = t.pend;
        run = joins (goes (no_slash (at state.Statement n) (kind.Word (word.Keyword keyword.Catch)) refl) (control-row keyword.Catch n b refl) (goes (no_slash (at state.Control n) kind.LParen refl) (paren-row n c) (joins r.run (one (no_slash (completed r.state last) kind.RParen refl) (end_paren (Whole r.state) last d ∙ control-closed fs a a Bare r.pend))))) t.run;
        keeps = λ k. t.keeps (r.keeps k);
      };
}

-- The head of a `for`

for-held : (p : Parameters) (fs : List Frame) (a : Around) → a ≡ around_of p → Rests p (for_frames fs a) a Bare
for-held p fs a is = held p frame.For a fs a refl is

pub no_test_runs : (p : Parameters) → TestRuns p []
no_test_runs p = record {
  first = λ fs before. record { finish = Nothing; pend = before; run = stays (at state.ForHead (nested (for_frames fs (around_of p)) (around_of p) before)); keeps = λ k. k };
  later = λ fs before. record { finish = Open; pend = before; run = stays (at state.Operand (nested (for_frames fs (around_of p)) (around_of p) before)); keeps = λ k. k };
}

pub test_runs : (p : Parameters) (xs : List Token) → ListRuns p xs → TestRuns p xs
test_runs p xs list = record {
  first = λ fs before. let r = list.runs AtForHead (for_frames fs (around_of p)) (around_of p) before (for-held p fs (around_of p) refl) (record { kept = refl; behind = refl }) refl in record { finish = Something r.state r.mark; pend = r.pend; run = r.run; keeps = r.keeps };
  later = λ fs before. let r = list.runs AtOperand (for_frames fs (around_of p)) (around_of p) before (for-held p fs (around_of p) refl) (record { kept = refl; behind = refl }) refl in record { finish = Shut r.state r.mark; pend = r.pend; run = r.run; keeps = r.keeps };
}

open-semis : (fs : List Frame) (a pend : Around) (b : Bool) → (stepped (at state.ForHead (nested (for_frames fs a) a pend)) (part (token kind.Semi b)) ≡ at state.Operand (nested (for_frames fs a) a pend)) × (stepped (at state.Operand (nested (for_frames fs a) a pend)) (part (token kind.Semi b)) ≡ at state.Operand (nested (for_frames fs a) a pend)) × (stepped (at state.AfterBinding (nested (declared_frames (for_frames fs a) a) a pend)) (part (token kind.Semi b)) ≡ at state.Operand (nested (for_frames fs a) a pend))
unfolding read_times read_once row moved changed dropped_from
open-semis fs a pend b = (refl, refl, refl)

shut-semi : (fs : List Frame) (a : Around) (m : Over) (pend : Around) → at_landed (semi (dropped kinds.Candidates (over (for_frames fs a) a m pend))) ≡ at state.Operand (nested (for_frames fs a) a pend)
unfolding dropped_from
shut-semi fs a Bare pend = refl
shut-semi fs a (Concise b) pend = refl

value-semi : (fs : List Frame) (a : Around) (m : Over) (pend : Around) → at_landed (semi (dropped kinds.Candidates (over (declared_frames (for_frames fs a) a) a m pend))) ≡ at state.Operand (nested (for_frames fs a) a pend)
unfolding dropped_from
value-semi fs a Bare pend = refl
value-semi fs a (Concise b) pend = refl

first-semi : (f : First) (fs : List Frame) (a pend : Around) (b : Bool) → stepped (first_ended f fs a pend) (part (token kind.Semi b)) ≡ at state.Operand (nested (for_frames fs a) a pend)
first-semi Nothing fs a pend b = (open-semis fs a pend b).0
first-semi (Something e m) fs a pend b = end_semi e (over (for_frames fs a) a m pend) b ∙ shut-semi fs a m pend

later-semi : (f : Finish) (fs : List Frame) (a pend : Around) (b : Bool) → stepped (finished f (for_frames fs a) a pend) (part (token kind.Semi b)) ≡ at state.Operand (nested (for_frames fs a) a pend)
later-semi Open fs a pend b = (open-semis fs a pend b).1
later-semi (Shut e m) fs a pend b = end_semi e (over (for_frames fs a) a m pend) b ∙ shut-semi fs a m pend

variable-semi : (f : VariableEnd) (fs : List Frame) (a pend : Around) (b : Bool) → stepped (variable_ended f (for_frames fs a) a pend) (part (token kind.Semi b)) ≡ at state.Operand (nested (for_frames fs a) a pend)
variable-semi NameBound fs a pend b = (open-semis fs a pend b).2
variable-semi (ValueBound e m) fs a pend b = end_semi e (over (declared_frames (for_frames fs a) a) a m pend) b ∙ value-semi fs a m pend

-- the second and third of its parts
two-tests : (p : Parameters) (ys zs : List Token) (c : Bool) → TestRuns (with_in p) ys → TestRuns (with_in p) zs → (fs : List Frame) (before : Around) → ForEnds (at state.Operand (nested (for_frames fs (around_of p)) (around_of p) before)) fs (around_of p) before (ys ++ token kind.Semi c ∷ zs)
two-tests p ys zs c second third fs before =
    let a = around_of p in
    let l = second.later fs before in
    let r = third.later fs l.pend in
    record { finish = r.finish; pend = r.pend; run = joins l.run (goes (no_slash (finished l.finish (for_frames fs a) a l.pend) kind.Semi refl) (later-semi l.finish fs a l.pend c) r.run); keeps = λ k. r.keeps (l.keeps k) }

pub for_expressions_runs : (p : Parameters) (xs ys zs : List Token) (b c : Bool) → TestRuns (without_in p) xs → TestRuns (with_in p) ys → TestRuns (with_in p) zs → ForHeadRuns p (xs ++ (token kind.Semi b ∷ ys ++ token kind.Semi c ∷ zs))
for_expressions_runs p xs ys zs b c first second third = record {
  runs = λ fs before.
      let a = around_of p in
      let l = first.first fs before in
      let r = two-tests p ys zs c second third fs l.pend in
      record { finish = r.finish; pend = r.pend; run = joins l.run (goes (no_slash (first_ended l.finish fs a l.pend) kind.Semi refl) (first-semi l.finish fs a l.pend b) r.run); keeps = λ k. r.keeps (l.keeps k) };
}

without : (p : Parameters) → (without_in p).takes_in ≡ true → ⊥
without p t = cc

pub for_variables_runs : (p : Parameters) (xs ys zs : List Token) (k : Keyword) (b c d : Bool) → is_declaring k ≡ true → DeclarationRuns (without_in p) xs → TestRuns (with_in p) ys → TestRuns (with_in p) zs → ForHeadRuns p (reserved k b ∷ (xs ++ (token kind.Semi c ∷ ys ++ token kind.Semi d ∷ zs)))
for_variables_runs p xs ys zs k b c d h list second third = record {
  runs = λ fs before.
      let a = around_of p in
      let n = nested (for_frames fs a) a before in
      let first = declaring_row k n b h in
      let l = list.runs first.0 (for_frames fs a) a before refl (λ t. absurd (without p t)) in
      let r = two-tests p ys zs d second third fs l.pend in
      record {
        finish = r.finish;
        pend = r.pend;
        run = goes (no_slash (at state.ForHead n) (kind.Word (word.Keyword k)) refl) first.2 (joins l.run (goes (no_slash (variable_ended l.finish (for_frames fs a) a l.pend) kind.Semi refl) (variable-semi l.finish fs a l.pend c) r.run));
        keeps = λ e. r.keeps (l.keeps e);
      };
}

-- behind `in` or `of`
in-rest : (p : Parameters) (ys : List Token) → ItemsOf p ys → (fs : List Frame) (before : Around) → ForEnds (at state.Operand (nested (for_frames fs (around_of p)) (around_of p) before)) fs (around_of p) before ys
in-rest p ys items fs before = let r = items fs before in record { finish = Shut r.state r.mark; pend = r.pend; run = r.run; keeps = r.keeps }

list-of : (p : Parameters) (ys : List Token) → ListRuns (with_in p) ys → ItemsOf p ys
list-of p ys list fs before = list.runs AtOperand (for_frames fs (around_of p)) (around_of p) before (for-held (with_in p) fs (around_of p) refl) (record { kept = refl; behind = refl }) refl

item-of : (p : Parameters) (ys : List Token) → AssignmentRuns (with_in p) ys → ItemsOf p ys
item-of p ys item fs before = item.runs AtOperand (for_frames fs (around_of p)) (around_of p) Bare before (for-held (with_in p) fs (around_of p) refl) refl

of-row : (c : Complete) (fs : List Frame) (a pend : Around) (b : Bool) → is_label c ≡ false → stepped (completed c (nested (for_frames fs a) a pend)) (part (of b)) ≡ at state.Operand (nested (for_frames fs a) a pend)
unfolding read_times read_once row moved changed dropped_from
of-row Plain fs a pend true h = refl
of-row Plain fs a pend false h = refl
of-row Postfix fs a pend true h = refl
of-row Postfix fs a pend false h = refl
of-row Grouped fs a pend true h = refl
of-row Grouped fs a pend false h = refl
of-row c fs a pend b h = absurd cc

-- a name or pattern that is declared, and `in` or `of`
variable-in : (t : Bound) (fs : List Frame) (a pend : Around) (b : Bool) → is_label_bound t ≡ false → stepped (at (bound_state t) (nested (declared_frames (for_frames fs a) a) a pend)) (part (reserved keyword.In b)) ≡ at state.Operand (nested (for_frames fs a) a pend)
unfolding read_times read_once row moved changed dropped_from
variable-in ByName fs a pend b h = refl
variable-in (ByPattern Plain) fs a pend b h = refl
variable-in (ByPattern Postfix) fs a pend b h = refl
variable-in (ByPattern Grouped) fs a pend b h = refl
variable-in (ByPattern c) fs a pend b h = absurd cc

variable-of : (t : Bound) (fs : List Frame) (a pend : Around) (b : Bool) → is_label_bound t ≡ false → stepped (at (bound_state t) (nested (declared_frames (for_frames fs a) a) a pend)) (part (of b)) ≡ at state.Operand (nested (for_frames fs a) a pend)
unfolding read_times read_once row moved changed dropped_from
variable-of ByName fs a pend true h = refl
variable-of ByName fs a pend false h = refl
variable-of (ByPattern Plain) fs a pend true h = refl
variable-of (ByPattern Plain) fs a pend false h = refl
variable-of (ByPattern Postfix) fs a pend true h = refl
variable-of (ByPattern Postfix) fs a pend false h = refl
variable-of (ByPattern Grouped) fs a pend true h = refl
variable-of (ByPattern Grouped) fs a pend false h = refl
variable-of (ByPattern c) fs a pend b h = absurd cc

for-fits : (p : Parameters) (fs : List Frame) (pend : Around) → Fits p (nested (for_frames fs (around_of p)) (around_of p) pend)
for-fits p fs pend = rests_fits p (for_frames fs (around_of p)) (around_of p) Bare pend (for-held p fs (around_of p) refl)

pub for_in_runs : (p : Parameters) (xs ys : List Token) (b : Bool) → OperandRuns p xs → ListRuns (with_in p) ys → ForHeadRuns p (xs ++ reserved keyword.In b ∷ ys)
for_in_runs p xs ys b left list = record {
  runs = λ fs before.
      let a = around_of p in
      let n = nested (for_frames fs a) a before in
      let l = left.runs AtForHead n (for-fits p fs before) refl in
      let m = pending l.pend n in
      let r = in-rest p ys (list-of p ys list) fs l.pend in
      record { finish = r.finish; pend = r.pend; run = joins l.run (goes (no_slash (completed l.state m) (kind.Word (word.Keyword keyword.In)) refl) (behind_in l.state m b (fits_settled p m (for-fits p fs l.pend)) refl) r.run); keeps = λ k. r.keeps (l.keeps k) };
}

pub for_of_runs : (p : Parameters) (xs ys : List Token) (b : Bool) → OperandRuns p xs → AssignmentRuns (with_in p) ys → ForHeadRuns p (xs ++ of b ∷ ys)
for_of_runs p xs ys b left item = record {
  runs = λ fs before.
      let a = around_of p in
      let n = nested (for_frames fs a) a before in
      let l = left.runs AtForHead n (for-fits p fs before) refl in
      let r = in-rest p ys (item-of p ys item) fs l.pend in
      record { finish = r.finish; pend = r.pend; run = joins l.run (goes (no_slash (completed l.state (pending l.pend n)) (kind.Word (word.Ident (ident.Known known.Of))) refl) (of-row l.state fs a l.pend b (l.label refl)) r.run); keeps = λ k. r.keeps (l.keeps k) };
}

pub for_variable_in_runs : (p : Parameters) (xs ys : List Token) (k : Keyword) (b c : Bool) → is_declaring k ≡ true → BoundRuns p xs → ListRuns (with_in p) ys → ForHeadRuns p (reserved k b ∷ (xs ++ reserved keyword.In c ∷ ys))
for_variable_in_runs p xs ys k b c h target list = record {
  runs = λ fs before.
      let a = around_of p in
      let n = nested (for_frames fs a) a before in
      let first = declaring_row k n b h in
      let l = target.runs first.0 (for_frames fs a) a before refl in
      let r = in-rest p ys (list-of p ys list) fs l.pend in
      record {
        finish = r.finish;
        pend = r.pend;
        run = goes (no_slash (at state.ForHead n) (kind.Word (word.Keyword k)) refl) first.2 (joins l.run (goes (no_slash (at (bound_state l.bound) (nested (declared_frames (for_frames fs a) a) a l.pend)) (kind.Word (word.Keyword keyword.In)) refl) (variable-in l.bound fs a l.pend c l.label) r.run));
        keeps = λ e. r.keeps (l.keeps e);
      };
}

pub for_variable_of_runs : (p : Parameters) (xs ys : List Token) (k : Keyword) (b c : Bool) → is_declaring k ≡ true → BoundRuns p xs → AssignmentRuns (with_in p) ys → ForHeadRuns p (reserved k b ∷ (xs ++ of c ∷ ys))
for_variable_of_runs p xs ys k b c h target item = record {
  runs = λ fs before.
      let a = around_of p in
      let n = nested (for_frames fs a) a before in
      let first = declaring_row k n b h in
      let l = target.runs first.0 (for_frames fs a) a before refl in
      let r = in-rest p ys (item-of p ys item) fs l.pend in
      record {
        finish = r.finish;
        pend = r.pend;
        run = goes (no_slash (at state.ForHead n) (kind.Word (word.Keyword k)) refl) first.2 (joins l.run (goes (no_slash (at (bound_state l.bound) (nested (declared_frames (for_frames fs a) a) a l.pend)) (kind.Word (word.Ident (ident.Known known.Of))) refl) (variable-of l.bound fs a l.pend c l.label) r.run));
        keeps = λ e. r.keeps (l.keeps e);
      };
}

open-paren : (fs : List Frame) (a pend : Around) (b : Bool) → stepped (at state.Operand (nested (for_frames fs a) a pend)) (part (token kind.RParen b)) ≡ at state.Statement (nested fs a pend)
unfolding read_times read_once row moved changed dropped_from
open-paren fs a pend b = refl

shut-paren : (fs : List Frame) (a : Around) (m : Over) (pend : Around) → at_landed (paren (over (for_frames fs a) a m pend)) ≡ at state.Statement (nested fs a pend)
unfolding dropped_from
shut-paren fs a Bare pend = refl
shut-paren fs a (Concise b) pend = refl

for-closed : (f : Finish) (fs : List Frame) (a pend : Around) (b : Bool) → stepped (finished f (for_frames fs a) a pend) (part (token kind.RParen b)) ≡ at state.Statement (nested fs a pend)
for-closed Open fs a pend b = open-paren fs a pend b
for-closed (Shut e m) fs a pend b = end_paren e (over (record { kind = frame.For; kept = a } ∷ fs) a m pend) b ∙ shut-paren fs a m pend

pub for_rows : (n : Nested) (b : Bool) → (stepped (at state.Statement n) (part (reserved keyword.For b)) ≡ at state.ForKeyword n) × (stepped (at state.ForKeyword n) (part (reserved keyword.Await b)) ≡ at state.ForKeyword n) × (stepped (at state.ForKeyword n) (part (token kind.LParen b)) ≡ at state.ForHead (pushed frame.For n))
unfolding read_times read_once row moved changed statements.statement
for_rows n b = (refl, refl, refl)

pub for_parens : (p : Parameters) (xs : List Token) (c d : Bool) → ForHeadRuns p xs → (fs : List Frame) (before : Around) → (pend : Around) × (Run (at state.ForKeyword (nested fs (around_of p) before)) (in_parens c d xs) (at state.Statement (nested fs (around_of p) pend)) × (before ≡ no_function → pend ≡ no_function))
for_parens p xs c d head fs before =
    let a = around_of p in
    let n = nested fs a before in
    let r = head.runs fs before in
    (r.pend, (goes (no_slash (at state.ForKeyword n) kind.LParen refl) (for_rows n c).2 (joins r.run (one (no_slash (finished r.finish (for_frames fs a) a r.pend) kind.RParen refl) (for-closed r.finish fs a r.pend d))), r.keeps))

pub for_run : (p : Parameters) (xs ys : List Token) (b c d : Bool) → ForHeadRuns p xs → StatementRuns p ys → StatementRuns p (reserved keyword.For b ∷ in_parens c d xs ++ ys)
for_run p xs ys b c d head s = record {
  runs = λ fs before h.
      let n = nested fs (around_of p) before in
      let l = for_parens p xs c d head fs before in
      let r = s.runs fs l.0 h in
      record { pend = r.pend; run = joins (goes (no_slash (at state.Statement n) (kind.Word (word.Keyword keyword.For)) refl) (for_rows n b).0 l.1.0) r.run; keeps = λ k. r.keeps (l.1.1 k) };
}

pub for_await_run : (p : Parameters) (xs ys : List Token) (b c d f : Bool) → ForHeadRuns p xs → StatementRuns p ys → StatementRuns p (reserved keyword.For b ∷ reserved keyword.Await c ∷ in_parens d f xs ++ ys)
for_await_run p xs ys b c d f head s = record {
  runs = λ fs before h.
      let n = nested fs (around_of p) before in
      let l = for_parens p xs d f head fs before in
      let r = s.runs fs l.0 h in
      record { pend = r.pend; run = joins (goes (no_slash (at state.Statement n) (kind.Word (word.Keyword keyword.For)) refl) (for_rows n b).0 (goes (no_slash (at state.ForKeyword n) (kind.Word (word.Keyword keyword.Await)) refl) (for_rows n c).1 l.1.0)) r.run; keeps = λ k. r.keeps (l.1.1 k) };
}
