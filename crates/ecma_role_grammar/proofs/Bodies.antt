-- What stands in braces of the grammar runs: one lemma for each form of production
use Rattle.std.proofs.Common.{◌≡◌, ◌∙◌, ap, Bool, true, false, List, [], ◌∷◌, ◌++◌, refl, sym, not, Some}
use Rattle.ecma_word.specs.declared.keyword.Keyword.{Keyword}
use Rattle.ecma_word.specs.declared.keyword.Keyword.TheVariants as keyword
use Rattle.ecma_word.specs.declared.word.WordKind.{WordKind}
use Rattle.ecma_word.specs.declared.word.WordKind.TheVariants as word
use Rattle.ecma_role_table.specs.declared.part.PartKind.TheVariants.{Sign}
use Rattle.ecma_role_table.specs.declared.part.Sign.TheVariants as sign
use Rattle.ecma_token_kind.specs.declared.kind.TokenKind.{TokenKind}
use Rattle.ecma_token_kind.specs.declared.kind.TokenKind.TheVariants as kind
use Rattle.ecma_role_table.specs.declared.frame.Around.{Around}
use Rattle.ecma_role_table.specs.declared.frame.Frame.{Frame}
use Rattle.ecma_role_table.specs.declared.frame.Kinds.TheVariants as kinds
use Rattle.ecma_role_table.specs.declared.state.State.TheVariants as state
use Rattle.ecma_role_table.specs.declared.moves.Turn.TheVariants.{Again}
use Rattle.ecma_role_table.specs.Parts.{part_of_kind, part_of_word}
use Rattle.ecma_role_table.specs.Statements as statements
use Rattle.ecma_role_table.specs.Table.{row}
use Rattle.ecma_role_moves.specs.Moves.{brace, changed, fresh_of, moved, turned_to}
use Rattle.ecma_role_moves.specs.Nest.{Nested, dropped, dropped_from, nested, no_function, pending, top}
use Rattle.ecma_role_tracks.specs.Track.{read_once, read_times, reading, stepped}
use Rattle.ecma_role_grammar.specs.Tokens.{Token, part, token}
use Rattle.ecma_role_grammar.specs.Grammar.{Parameters, begins_anew, begins_anew_kind, in_parens, is_declaration, is_declaring, is_identifier, is_lexical, is_on_line, reserved, with_in}
use Rattle.ecma_role_grammar.specs.Laws.{around_of}
use Rattle.ecma_role_grammar.proofs.Runs.{goes, joins, no_slash, one}
use Rattle.ecma_role_grammar.proofs.Places.{AtRestricted, AtStatement, Bare, Concise, Continues, DeclarationRuns, Ended, ForHeadRuns, InsideRuns, ListRuns, NameBound, Opens, Over, StatementRuns, ValueBound, VariableEnd, at, at_landed, completed, declared_frames, ended, over, statements_rest, statements_separate, top_of, variable_ended}
use Rattle.ecma_role_grammar.proofs.Starts.{again, label_begun, identifier_name, name_of}
use Rattle.ecma_role_grammar.proofs.Behind.{end_brace}
use Rattle.ecma_role_grammar.proofs.Declarations.{declaring_row, lexical_declares, no_for}
use Rattle.ecma_role_grammar.proofs.Statements.{gone_marks}
use Rattle.ecma_role_grammar.proofs.Control.{before_row, control_part, for_parens, for_rows, is_before, is_control, is_leave, is_return, label_colon, label_row, leave_row, return_row}
use Rattle.ecma_role_grammar.proofs.LineEnds.{anew_part, binding_anew, break_anew, ended_anew, line_run, quiet_over, quiet_variable, restricted_anew}

-- a right brace where a statement begins, and behind an expression
statement-brace : (n : Nested) (b : Bool) → stepped (at state.Statement n) (part (token kind.RBrace b)) ≡ at_landed (brace (pending no_function n))
unfolding read_times read_once row moved changed statements.statement
statement-brace n b = refl

same-brace : (fs : List Frame) (a : Around) (m : Over) (pend : Around) → brace (pending no_function (over fs a m pend)) ≡ brace (pending no_function (nested fs a pend))
unfolding dropped_from
same-brace fs a Bare pend = refl
same-brace fs a (Concise b) pend = refl

ended-closes : (e : Ended) (fs : List Frame) (a : Around) (m : Over) (pend : Around) (b : Bool) → stepped (ended e (over fs a m pend)) (part (token kind.RBrace b)) ≡ stepped (at state.Statement (nested fs a pend)) (part (token kind.RBrace b))
ended-closes e fs a m pend b = end_brace e (over fs a m pend) b ∙ ap at_landed (same-brace fs a m pend) ∙ sym (statement-brace (nested fs a pend) b)

pub whole_inside : (p : Parameters) (xs : List Token) → StatementRuns p xs → InsideRuns p xs
whole_inside p xs s = record { runs = λ fs before h. let r = s.runs fs before h in record { after = at state.Statement (nested fs (around_of p) r.pend); pend = r.pend; run = r.run; closes = λ b. refl; anew = λ k g. refl; keeps = r.keeps } }

behind : (fs : List Frame) (a before : Around) (xs ys : List Token) → Continues fs a before xs → ((pend : Around) → Opens fs a pend ys) → Opens fs a before (xs ++ ys)
behind fs a before xs ys l later = let r = later l.pend in record { after = r.after; pend = r.pend; run = joins l.run r.run; closes = r.closes; anew = r.anew; keeps = λ k. r.keeps (l.keeps k) }

pub open_inside : (p : Parameters) (xs ys : List Token) → StatementRuns p xs → InsideRuns p ys → InsideRuns p (xs ++ ys)
open_inside p xs ys s rest = record { runs = λ fs before h. behind fs (around_of p) before xs ys (s.runs fs before h) (λ pend. rest.runs fs pend h) }

not-false : (b : Bool) → b ≡ false → not b ≡ true
not-false b h = rw h refl

pub open_expression_runs : (p : Parameters) (xs : List Token) → is_declaration xs ≡ false → ListRuns (with_in p) xs → InsideRuns p xs
open_expression_runs p xs other list = record {
  runs = λ fs before h.
      let a = around_of p in
      let r = list.runs AtStatement fs a before (statements_rest (with_in p) fs a h refl) (statements_separate fs h) (not-false (is_declaration xs) other) in
      record { after = ended r.state (over fs a r.mark r.pend); pend = r.pend; run = r.run; closes = ended-closes r.state fs a r.mark r.pend; anew = λ k g. ended_anew r.state (over fs a r.mark r.pend) (nested fs a r.pend) (part_of_kind k) (quiet_over fs a r.mark r.pend h) (anew_part k g).0; keeps = r.keeps };
}

name-closes : (fs : List Frame) (a pend : Around) (b : Bool) → stepped (at state.AfterBinding (nested (declared_frames fs a) a pend)) (part (token kind.RBrace b)) ≡ at_landed (brace (pending no_function (nested fs a pend)))
unfolding read_times read_once row moved changed dropped_from
name-closes fs a pend b = refl

value-brace : (fs : List Frame) (a : Around) (m : Over) (pend : Around) → brace (pending no_function (over (declared_frames fs a) a m pend)) ≡ brace (pending no_function (nested fs a pend))
unfolding dropped_from
value-brace fs a Bare pend = refl
value-brace fs a (Concise b) pend = refl

variable-closes : (f : VariableEnd) (fs : List Frame) (a pend : Around) (b : Bool) → stepped (variable_ended f fs a pend) (part (token kind.RBrace b)) ≡ stepped (at state.Statement (nested fs a pend)) (part (token kind.RBrace b))
variable-closes NameBound fs a pend b = name-closes fs a pend b ∙ sym (statement-brace (nested fs a pend) b)
variable-closes (ValueBound e m) fs a pend b = end_brace e (over (declared_frames fs a) a m pend) b ∙ ap at_landed (value-brace fs a m pend) ∙ sym (statement-brace (nested fs a pend) b)

variable-anew : (f : VariableEnd) (fs : List Frame) (a pend : Around) → fresh_of (top_of fs) ≡ state.Statement → (k : TokenKind) → begins_anew_kind k ≡ true → stepped (variable_ended f fs a pend) (part (token k true)) ≡ stepped (at state.Statement (nested fs a pend)) (part (token k true))
variable-anew NameBound fs a pend h k g = binding_anew (over (declared_frames fs a) a Bare pend) (nested fs a pend) (part_of_kind k) (quiet_variable fs a Bare pend h) (anew_part k g).0
variable-anew (ValueBound e m) fs a pend h k g = ended_anew e (over (declared_frames fs a) a m pend) (nested fs a pend) (part_of_kind k) (quiet_variable fs a m pend h) (anew_part k g).0

pub open_variables_runs : (p : Parameters) (xs : List Token) (k : Keyword) (b : Bool) → is_declaring k ≡ true → DeclarationRuns (with_in p) xs → InsideRuns p (reserved k b ∷ xs)
open_variables_runs p xs k b ok list = record {
  runs = λ fs before h.
      let a = around_of p in
      let n = nested fs a before in
      let first = declaring_row k n b ok in
      let r = list.runs first.0 fs a before refl (λ _. no_for (top_of fs) h) in
      record { after = variable_ended r.finish fs a r.pend; pend = r.pend; run = goes (no_slash (at state.Statement n) (kind.Word (word.Keyword k)) refl) first.1 r.run; closes = variable-closes r.finish fs a r.pend; anew = variable-anew r.finish fs a r.pend h; keeps = r.keeps };
}

pub open_lexical_runs : (p : Parameters) (xs : List Token) (k : Keyword) (b : Bool) → is_lexical k ≡ true → DeclarationRuns (with_in p) xs → InsideRuns p (reserved k b ∷ xs)
open_lexical_runs p xs k b ok list = open_variables_runs p xs k b (lexical_declares k ok) list

pub open_control_runs : (p : Parameters) (xs ys : List Token) (k : Keyword) (b c d : Bool) → is_control k ≡ true → ListRuns (with_in p) xs → InsideRuns p ys → InsideRuns p (reserved k b ∷ in_parens c d xs ++ ys)
open_control_runs p xs ys k b c d ok list rest = record { runs = λ fs before h. behind fs (around_of p) before (reserved k b ∷ in_parens c d xs) ys (control_part p xs k b c d ok list fs before) (λ pend. rest.runs fs pend h) }

pub open_before_runs : (p : Parameters) (xs : List Token) (k : Keyword) (b : Bool) → is_before k ≡ true → InsideRuns p xs → InsideRuns p (reserved k b ∷ xs)
open_before_runs p xs k b ok rest = record {
  runs = λ fs before h.
      let n = nested fs (around_of p) before in
      let r = rest.runs fs before h in
      record { after = r.after; pend = r.pend; run = goes (no_slash (at state.Statement n) (kind.Word (word.Keyword k)) refl) (before_row k n b ok) r.run; closes = r.closes; anew = r.anew; keeps = r.keeps };
}

pub open_for_runs : (p : Parameters) (xs ys : List Token) (b c d : Bool) → ForHeadRuns p xs → InsideRuns p ys → InsideRuns p (reserved keyword.For b ∷ in_parens c d xs ++ ys)
open_for_runs p xs ys b c d head rest = record {
  runs = λ fs before h.
      let n = nested fs (around_of p) before in
      let l = for_parens p xs c d head fs before in
      let r = rest.runs fs l.0 h in
      record { after = r.after; pend = r.pend; run = joins (goes (no_slash (at state.Statement n) (kind.Word (word.Keyword keyword.For)) refl) (for_rows n b).0 l.1.0) r.run; closes = r.closes; anew = r.anew; keeps = λ k. r.keeps (l.1.1 k) };
}

pub open_for_await_runs : (p : Parameters) (xs ys : List Token) (b c d f : Bool) → ForHeadRuns p xs → InsideRuns p ys → InsideRuns p (reserved keyword.For b ∷ reserved keyword.Await c ∷ in_parens d f xs ++ ys)
open_for_await_runs p xs ys b c d f head rest = record {
  runs = λ fs before h.
      let n = nested fs (around_of p) before in
      let l = for_parens p xs d f head fs before in
      let r = rest.runs fs l.0 h in
      record { after = r.after; pend = r.pend; run = joins (goes (no_slash (at state.Statement n) (kind.Word (word.Keyword keyword.For)) refl) (for_rows n b).0 (goes (no_slash (at state.ForKeyword n) (kind.Word (word.Keyword keyword.Await)) refl) (for_rows n c).1 l.1.0)) r.run; closes = r.closes; anew = r.anew; keeps = λ k. r.keeps (l.1.1 k) };
}

-- words that leave
fresh-brace : (n : Nested) (b : Bool) → dropped kinds.Marks n ≡ n → fresh_of (top n) ≡ state.Statement → read_once (at state.Break n) (Sign sign.RBrace) b ≡ turned_to (Again state.Statement (Sign sign.RBrace)) n
unfolding read_once row moved changed
fresh-brace n b gone h = ap (λ m. turned_to (Again (fresh_of (top m)) (Sign sign.RBrace)) m) gone ∙ ap (λ s. turned_to (Again s (Sign sign.RBrace)) n) h

brace-later : (n : Nested) (b : Bool) → (read_times 7 b (reading (at state.Statement n) (Some (Sign sign.RBrace)))).track ≡ stepped (at state.Statement n) (part (token kind.RBrace b))
unfolding read_times read_once row moved changed statements.statement
brace-later n b = refl

leave-closes : (fs : List Frame) (a pend : Around) (b : Bool) → fresh_of (top_of fs) ≡ state.Statement → stepped (at state.Break (nested fs a pend)) (part (token kind.RBrace b)) ≡ stepped (at state.Statement (nested fs a pend)) (part (token kind.RBrace b))
leave-closes fs a pend b h =
    let n = nested fs a pend in
    ap (λ r. r.track) (again 7 b (at state.Break n) (Sign sign.RBrace) (Sign sign.RBrace) state.Statement n (fresh-brace n b (gone_marks fs a Bare pend h) h)) ∙ brace-later n b

pub open_leave_runs : (p : Parameters) (k : Keyword) (b : Bool) → is_leave k ≡ true → InsideRuns p (reserved k b ∷ [])
open_leave_runs p k b ok = record {
  runs = λ fs before h.
      let n = nested fs (around_of p) before in
      record { after = at state.Break n; pend = before; run = one (no_slash (at state.Statement n) (kind.Word (word.Keyword k)) refl) (leave_row k n b ok); closes = λ c. leave-closes fs (around_of p) before c h; anew = λ l g. break_anew n n (part_of_kind l) (quiet_over fs (around_of p) Bare before h) (anew_part l g).0; keeps = λ e. e };
}

pub open_leave_label_runs : (p : Parameters) (w : WordKind) (k : Keyword) (b : Bool) → is_identifier p w ≡ true → is_leave k ≡ true → InsideRuns p (reserved k b ∷ token (kind.Word w) false ∷ [])
open_leave_label_runs p w k b named ok = record {
  runs = λ fs before h.
      let n = nested fs (around_of p) before in
      let i = identifier_name p w named in
      record { after = at state.Statement n; pend = before; run = goes (no_slash (at state.Statement n) (kind.Word (word.Keyword k)) refl) (leave_row k n b ok) (one (no_slash (at state.Break n) (kind.Word w) refl) (rw i.0 (label_row n (name_of (part_of_word w))))); closes = λ c. refl; anew = λ l g. refl; keeps = λ e. e };
}

return-closes : (n : Nested) (b : Bool) → stepped (at state.Restricted n) (part (token kind.RBrace b)) ≡ stepped (at state.Statement n) (part (token kind.RBrace b))
unfolding read_times read_once row moved changed statements.statement
return-closes n b = refl

pub open_return_runs : (p : Parameters) (b : Bool) → InsideRuns p (reserved keyword.Return b ∷ [])
open_return_runs p b = record {
  runs = λ fs before h.
      let n = nested fs (around_of p) before in
      record { after = at state.Restricted n; pend = before; run = one (no_slash (at state.Statement n) (kind.Word (word.Keyword keyword.Return)) refl) (return_row keyword.Return n b refl); closes = return-closes n; anew = λ l g. restricted_anew n n (part_of_kind l) (quiet_over fs (around_of p) Bare before h) (anew_part l g).0; keeps = λ e. e };
}

pub open_return_value_runs : (p : Parameters) (xs : List Token) (k : Keyword) (b : Bool) → is_return k ≡ true → is_on_line xs ≡ true → ListRuns (with_in p) xs → InsideRuns p (reserved k b ∷ xs)
open_return_value_runs p xs k b ok line list = record {
  runs = λ fs before h.
      let a = around_of p in
      let n = nested fs a before in
      let r = list.runs AtRestricted fs a before (statements_rest (with_in p) fs a h refl) (statements_separate fs h) line in
      record { after = ended r.state (over fs a r.mark r.pend); pend = r.pend; run = goes (no_slash (at state.Statement n) (kind.Word (word.Keyword k)) refl) (return_row k n b ok) r.run; closes = ended-closes r.state fs a r.mark r.pend; anew = λ k g. ended_anew r.state (over fs a r.mark r.pend) (nested fs a r.pend) (part_of_kind k) (quiet_over fs a r.mark r.pend h) (anew_part k g).0; keeps = r.keeps };
}

pub open_labelled_runs : (p : Parameters) (xs : List Token) (w : WordKind) (b c : Bool) → is_identifier p w ≡ true → InsideRuns p xs → InsideRuns p (token (kind.Word w) b ∷ token kind.Colon c ∷ xs)
open_labelled_runs p xs w b c named rest = record {
  runs = λ fs before h.
      let n = nested fs (around_of p) before in
      let l = label_begun p n w b refl named in
      let r = rest.runs fs before h in
      record { after = r.after; pend = r.pend; run = goes (no_slash (at state.Statement n) (kind.Word w) refl) l.is (goes (no_slash (completed l.state n) kind.Colon refl) (label_colon l.state n c l.label) r.run); closes = r.closes; anew = r.anew; keeps = r.keeps };
}

pub open_debugger_runs : (p : Parameters) (b : Bool) → InsideRuns p (reserved keyword.Debugger b ∷ [])
open_debugger_runs p b = record {
  runs = λ fs before h.
      let n = nested fs (around_of p) before in
      record { after = at state.Statement n; pend = before; run = one (no_slash (at state.Statement n) (kind.Word (word.Keyword keyword.Debugger)) refl) (before_row keyword.Debugger n b refl); closes = λ c. refl; anew = λ l g. refl; keeps = λ e. e };
}

-- Lists with line ends in the place of semicolons

pub line_end_runs : (p : Parameters) (xs ys : List Token) → InsideRuns p xs → StatementRuns p ys → begins_anew ys ≡ true → StatementRuns p (xs ++ ys)
line_end_runs p xs ys first second line = record {
  runs = λ fs before h.
      let a = around_of p in
      let l = first.runs fs before h in
      let r = second.runs fs l.pend h in
      record { pend = r.pend; run = joins l.run (line_run ys l.after (at state.Statement (nested fs a r.pend)) (nested fs a l.pend) line l.anew r.run); keeps = λ k. r.keeps (l.keeps k) };
}

pub open_line_runs : (p : Parameters) (xs ys : List Token) → InsideRuns p xs → InsideRuns p ys → begins_anew ys ≡ true → InsideRuns p (xs ++ ys)
open_line_runs p xs ys first second line = record {
  runs = λ fs before h.
      let a = around_of p in
      let l = first.runs fs before h in
      let r = second.runs fs l.pend h in
      record { after = r.after; pend = r.pend; run = joins l.run (line_run ys l.after r.after (nested fs a l.pend) line l.anew r.run); closes = r.closes; anew = r.anew; keeps = λ k. r.keeps (l.keeps k) };
}

lexical-line : (k : Keyword) (xs : List Token) → is_lexical k ≡ true → begins_anew (reserved k true ∷ xs) ≡ true
lexical-line keyword.Const xs h = refl
lexical-line keyword.Let xs h = refl
lexical-line k xs h = absurd cc

pub open_lexical_line_runs : (p : Parameters) (xs ys : List Token) (k : Keyword) → is_lexical k ≡ true → InsideRuns p xs → DeclarationRuns (with_in p) ys → InsideRuns p (xs ++ reserved k true ∷ ys)
open_lexical_line_runs p xs ys k ok first list = open_line_runs p xs (reserved k true ∷ ys) first (open_lexical_runs p ys k true ok list) (lexical-line k ys ok)
