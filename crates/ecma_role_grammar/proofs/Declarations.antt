-- Variables and declarations of the grammar run: one lemma for each form of production
use Rattle.std.proofs.Common.{◌≡◌, ◌∙◌, ap, Bool, true, false, List, [], ◌∷◌, ◌++◌, Option, Some, refl, arith}
use Rattle.ecma_word.specs.declared.keyword.Keyword.{Keyword}
use Rattle.ecma_word.specs.declared.keyword.Keyword.TheVariants as keyword
use Rattle.ecma_word.specs.declared.word.WordKind.{WordKind}
use Rattle.ecma_word.specs.declared.word.WordKind.TheVariants as word
use Rattle.ecma_word.specs.declared.word.IdentKind.TheVariants as ident
use Rattle.ecma_word.specs.declared.known_ident.KnownIdent.TheVariants as known
use Rattle.ecma_word.specs.declared.operator.AssignOp.TheVariants as assigning
use Rattle.ecma_role_table.specs.declared.part.PartKind.TheVariants.{Name}
use Rattle.ecma_role_table.specs.declared.part.Name as names
use Rattle.ecma_token_kind.specs.declared.kind.TokenKind.{TokenKind}
use Rattle.ecma_token_kind.specs.declared.kind.TokenKind.TheVariants as kind
use Rattle.ecma_role_table.specs.declared.frame.Around.{Around}
use Rattle.ecma_role_table.specs.declared.frame.Frame.{Frame}
use Rattle.ecma_role_table.specs.declared.frame.FrameKind.{FrameKind}
use Rattle.ecma_role_table.specs.declared.frame.FrameKind.TheVariants as frame
use Rattle.ecma_role_table.specs.declared.frame.Kinds.TheVariants as kinds
use Rattle.ecma_role_table.specs.declared.state.State.TheVariants as state
use Rattle.ecma_role_table.specs.Frames.{over_declared_for, over_for}
use Rattle.ecma_role_table.specs.Parts.{part_of_word}
use Rattle.ecma_role_table.specs.Statements as statements
use Rattle.ecma_role_table.specs.Table.{row}
use Rattle.ecma_role_moves.specs.Moves.{semi, fresh_of, changed, comma, moved}
use Rattle.ecma_role_moves.specs.Nest.{function, within, Nested, dropped, dropped_from, nested, no_function, pushed}
use Rattle.ecma_role_tracks.specs.Track.{TrackView, read_once, read_times, stepped}
use Rattle.ecma_role_moves.proofs.NestLemmas.{dropped_none}
use Rattle.ecma_role_grammar.specs.Tokens.{Token, part, token}
use Rattle.ecma_role_grammar.specs.Grammar.{is_declaring, is_lexical, async, in_function, star, Parameters, is_identifier, reserved, with_in, without_in}
use Rattle.ecma_role_grammar.specs.Laws.{around_of}
use Rattle.ecma_role_grammar.proofs.Runs.{begins_alike, RightAt, Run, goes, joins, no_slash, one}
use Rattle.ecma_role_grammar.proofs.Places.{AssignmentRuns, AtBinding, AtOperand, Bare, Binds, Bound, BoundRuns, ByLet, ByName, ByPattern, Concise, DeclarationRuns, Declared, Declaring, Fits, FunctionRuns, NameBound, OperandRuns, Over, Plainly, Rests, StatementRuns, TailRuns, ValueBound, VariableEnd, at, at_landed, begins_export, begins_pattern, begins_pattern_kind, bound_state, calm_settled, completed, declared_frames, declaring, over, rests_fits, statements_marks, top_of, variable_ended}
use Rattle.ecma_role_grammar.proofs.Starts.{identifier_name, name_of}
use Rattle.ecma_role_grammar.proofs.Behind.{end_semi, behind_assign, end_comma}
use Rattle.ecma_role_grammar.proofs.Expressions.{identifier_runs}
use Rattle.ecma_role_grammar.proofs.Functions.{function_tail_run}
use Rattle.ecma_role_grammar.proofs.Members.{class_name_run}
use Rattle.ecma_role_grammar.proofs.Statements.{semi_moved}

-- the frames around a value that is declared
value-rests : (p : Parameters) (fs : List Frame) (a : Around) → a ≡ around_of p → (p.takes_in ≡ true → over_for (top_of fs) ≡ false) → Rests p (declared_frames fs a) a Bare
value-rests p fs a is none = record { calm = refl; lone = λ u. refl; plain = λ s. refl; no_arrow = λ n. refl; declared = λ t. declared (top_of fs) (none t); around = is }
  where
    declared : (o : Option FrameKind) → over_for o ≡ false → over_declared_for (Some frame.Declaration) o ≡ false
    declared o h = h

-- Names and patterns

target-row : (d : Declaring) (fs : List Frame) (a pend : Around) (m : names.Name) (b : Bool) → stepped (declaring d fs a pend) (record { kind = Name m; had_line_break = b }) ≡ at state.AfterBinding (nested (declared_frames fs a) a pend)
unfolding read_times read_once row moved changed
target-row Plainly fs a pend m b = refl
target-row ByLet fs a pend m b = refl

pub target_name_runs : (p : Parameters) (w : WordKind) (b : Bool) → is_identifier p w ≡ true → OperandRuns (without_in p) (token (kind.Word w) b ∷ []) × BoundRuns p (token (kind.Word w) b ∷ [])
target_name_runs p w b h = (
  identifier_runs (without_in p) w b h,
  record {
    runs = λ d fs a before is.
        let i = identifier_name p w h in
        record { bound = ByName; pend = before; run = one (no_slash (declaring d fs a before) (kind.Word w) refl) (rw i.0 (target-row d fs a before (name_of (part_of_word w)) b)); label = refl; keeps = λ k. k };
  },
)

without-fits : (p : Parameters) (fs : List Frame) (a pend : Around) → a ≡ around_of p → Fits (without_in p) (nested (declared_frames fs a) a pend)
without-fits p fs a pend is = rests_fits (without_in p) (declared_frames fs a) a Bare pend (value-rests (without_in p) fs a is (λ t. absurd cc))

pattern-alike : (k : TokenKind) (fs : List Frame) (a pend : Around) (b : Bool) → begins_pattern_kind k ≡ true → RightAt (declaring ByLet fs a pend) k × (stepped (declaring ByLet fs a pend) (part (token k b)) ≡ stepped (declaring Plainly fs a pend) (part (token k b)))
unfolding read_times read_once row moved changed
pattern-alike kind.LBrace fs a pend b h = (no_slash (declaring ByLet fs a pend) kind.LBrace refl, refl)
pattern-alike kind.LBracket fs a pend b h = (no_slash (declaring ByLet fs a pend) kind.LBracket refl, refl)
pattern-alike k fs a pend b h = absurd cc

by-let : (xs : List Token) (fs : List Frame) (a pend : Around) (v : TrackView) → begins_pattern xs ≡ true → Run (declaring Plainly fs a pend) xs v → Run (declaring ByLet fs a pend) xs v
by-let [] fs a pend v h run = absurd cc
by-let (x ∷ xs) fs a pend v h run = let same = pattern-alike x.kind fs a pend x.had_line_break h in begins_alike same.0 same.1 run

pub target_pattern_runs : (p : Parameters) (xs : List Token) → OperandRuns (without_in p) xs → begins_pattern xs ≡ true → OperandRuns (without_in p) xs × BoundRuns p xs
target_pattern_runs p xs operand begins = (operand, record { runs = bound })
  where
    bound : (d : Declaring) (fs : List Frame) (a before : Around) → a ≡ around_of p → Binds d fs a before xs
    bound Plainly fs a before is = let r = operand.runs AtBinding (nested (declared_frames fs a) a before) (without-fits p fs a before is) begins in record { bound = ByPattern r.state; pend = r.pend; run = r.run; label = r.label refl; keeps = r.keeps }
    bound ByLet fs a before is = let r = operand.runs AtBinding (nested (declared_frames fs a) a before) (without-fits p fs a before is) begins in record { bound = ByPattern r.state; pend = r.pend; run = by-let xs fs a before (completed r.state (nested (declared_frames fs a) a r.pend)) begins r.run; label = r.label refl; keeps = r.keeps }

-- Variables

name-value : (fs : List Frame) (a pend : Around) (b : Bool) → stepped (at state.AfterBinding (nested (declared_frames fs a) a pend)) (part (token (kind.AssignOp assigning.Assign) b)) ≡ at state.Operand (nested (declared_frames fs a) a pend)
unfolding read_times read_once row moved changed dropped_from
name-value fs a pend b = refl

bound-value : (t : Bound) (fs : List Frame) (a pend : Around) (b : Bool) → stepped (at (bound_state t) (nested (declared_frames fs a) a pend)) (part (token (kind.AssignOp assigning.Assign) b)) ≡ at state.Operand (nested (declared_frames fs a) a pend)
bound-value ByName fs a pend b = name-value fs a pend b
bound-value (ByPattern c) fs a pend b = behind_assign c (nested (declared_frames fs a) a pend) assigning.Assign b (settled fs a pend) refl
  where
    settled : (fs : List Frame) (a pend : Around) → dropped kinds.Candidates (nested (declared_frames fs a) a pend) ≡ nested (declared_frames fs a) a pend
    settled fs a pend = calm_settled (nested (declared_frames fs a) a pend) refl

pub variable_name_runs : (p : Parameters) (w : WordKind) (b : Bool) → is_identifier p w ≡ true → DeclarationRuns p (token (kind.Word w) b ∷ [])
variable_name_runs p w b h = record {
  runs = λ d fs a before is none.
      let i = identifier_name p w h in
      record { finish = NameBound; pend = before; run = one (no_slash (declaring d fs a before) (kind.Word w) refl) (rw i.0 (target-row d fs a before (name_of (part_of_word w)) b)); keeps = λ k. k };
}

pub variable_value_runs : (p : Parameters) (xs ys : List Token) (b : Bool) → BoundRuns p xs → AssignmentRuns p ys → DeclarationRuns p (xs ++ token (kind.AssignOp assigning.Assign) b ∷ ys)
variable_value_runs p xs ys b target value = record {
  runs = λ d fs a before is none.
      let l = target.runs d fs a before is in
      let r = value.runs AtOperand (declared_frames fs a) a Bare l.pend (value-rests p fs a is none) refl in
      record {
        finish = ValueBound r.state r.mark;
        pend = r.pend;
        run = joins l.run (goes (no_slash (at (bound_state l.bound) (nested (declared_frames fs a) a l.pend)) (kind.AssignOp assigning.Assign) refl) (bound-value l.bound fs a l.pend b) r.run);
        keeps = λ k. r.keeps (l.keeps k);
      };
}

name-comma : (fs : List Frame) (a pend : Around) (b : Bool) → stepped (at state.AfterBinding (nested (declared_frames fs a) a pend)) (part (token kind.Comma b)) ≡ at state.Binding (nested (declared_frames fs a) a pend)
unfolding read_times read_once row moved changed dropped_from
name-comma fs a pend b = refl

value-comma : (fs : List Frame) (a pend : Around) (m : Over) → at_landed (comma (over (declared_frames fs a) a m pend)) ≡ at state.Binding (nested (declared_frames fs a) a pend)
unfolding dropped_from
value-comma fs a pend Bare = refl
value-comma fs a pend (Concise b) = refl

variable-comma : (f : VariableEnd) (fs : List Frame) (a pend : Around) (b : Bool) → stepped (variable_ended f fs a pend) (part (token kind.Comma b)) ≡ declaring Plainly fs a pend
variable-comma NameBound fs a pend b = name-comma fs a pend b
variable-comma (ValueBound e m) fs a pend b = end_comma e (over (declared_frames fs a) a m pend) b ∙ value-comma fs a pend m

pub more_variable_runs : (p : Parameters) (xs ys : List Token) (b : Bool) → DeclarationRuns p xs → DeclarationRuns p ys → DeclarationRuns p (xs ++ token kind.Comma b ∷ ys)
more_variable_runs p xs ys b first second = record {
  runs = λ d fs a before is none.
      let l = first.runs d fs a before is none in
      let r = second.runs Plainly fs a l.pend is none in
      record { finish = r.finish; pend = r.pend; run = joins l.run (goes (no_slash (variable_ended l.finish fs a l.pend) kind.Comma refl) (variable-comma l.finish fs a l.pend b) r.run); keeps = λ k. r.keeps (l.keeps k) };
}

-- Statements and declarations

pub gone_variable : (fs : List Frame) (a : Around) (m : Over) (pend : Around) → fresh_of (top_of fs) ≡ state.Statement → dropped kinds.Marks (over (declared_frames fs a) a m pend) ≡ nested fs a pend
unfolding dropped_from
gone_variable fs a Bare pend h = dropped_none kinds.Marks (nested fs a pend) (statements_marks (top_of fs) h)
gone_variable fs a (Concise b) pend h = dropped_none kinds.Marks (nested fs a pend) (statements_marks (top_of fs) h)

name-semi : (fs : List Frame) (a pend : Around) (b : Bool) → stepped (at state.AfterBinding (nested (declared_frames fs a) a pend)) (part (token kind.Semi b)) ≡ at_landed (semi (nested (declared_frames fs a) a pend))
unfolding read_times read_once row moved changed dropped_from
name-semi fs a pend b = refl

settled-over : (fs : List Frame) (a : Around) (m : Over) (pend : Around) → dropped kinds.Candidates (over (declared_frames fs a) a m pend) ≡ over (declared_frames fs a) a m pend
settled-over fs a Bare pend = calm_settled (over (declared_frames fs a) a Bare pend) refl
settled-over fs a (Concise b) pend = calm_settled (over (declared_frames fs a) a (Concise b) pend) refl

variable-semi : (f : VariableEnd) (fs : List Frame) (a pend : Around) (b : Bool) → fresh_of (top_of fs) ≡ state.Statement → stepped (variable_ended f fs a pend) (part (token kind.Semi b)) ≡ at state.Statement (nested fs a pend)
variable-semi NameBound fs a pend b h = name-semi fs a pend b ∙ ap at_landed (semi_moved (over (declared_frames fs a) a Bare pend) (nested fs a pend) (gone_variable fs a Bare pend h) h)
variable-semi (ValueBound e m) fs a pend b h =
    end_semi e (over (declared_frames fs a) a m pend) b
    ∙ ap (λ n. at_landed (semi n)) (settled-over fs a m pend)
    ∙ ap at_landed (semi_moved (over (declared_frames fs a) a m pend) (nested fs a pend) (gone_variable fs a m pend h) h)

pub no_for : (o : Option FrameKind) → fresh_of o ≡ state.Statement → over_for o ≡ false
no_for o h = grind (arith, h)

-- a word that declares
pub declaring_row : (k : Keyword) (n : Nested) (b : Bool) → is_declaring k ≡ true → (d : Declaring) × (stepped (at state.Statement n) (part (reserved k b)) ≡ declaring d n.frames n.around n.pending) × (stepped (at state.ForHead n) (part (reserved k b)) ≡ declaring d n.frames n.around n.pending)
unfolding read_times read_once row moved changed statements.statement
declaring_row keyword.Var n b h = (Plainly, refl, refl)
declaring_row keyword.Const n b h = (Plainly, refl, refl)
declaring_row keyword.Let n b h = (ByLet, refl, refl)
declaring_row k n b h = absurd cc

pub lexical_declares : (k : Keyword) → is_lexical k ≡ true → is_declaring k ≡ true
lexical_declares keyword.Const h = refl
lexical_declares keyword.Let h = refl
lexical_declares k h = absurd cc

pub variables_run : (p : Parameters) (xs : List Token) (k : Keyword) (b c : Bool) → is_declaring k ≡ true → DeclarationRuns (with_in p) xs → StatementRuns p (reserved k b ∷ (xs ++ token kind.Semi c ∷ []))
variables_run p xs k b c h list = record {
  runs = λ fs before over_statements.
      let a = around_of p in
      let n = nested fs a before in
      let first = declaring_row k n b h in
      let r = list.runs first.0 fs a before refl (λ _. no_for (top_of fs) over_statements) in
      record {
        pend = r.pend;
        run = goes (no_slash (at state.Statement n) (kind.Word (word.Keyword k)) refl) first.1 (joins r.run (one (no_slash (variable_ended r.finish fs a r.pend) kind.Semi refl) (variable-semi r.finish fs a r.pend c over_statements)));
        keeps = r.keeps;
      };
}

pub lexical_run : (p : Parameters) (xs : List Token) (k : Keyword) (b c : Bool) → is_lexical k ≡ true → DeclarationRuns (with_in p) xs → StatementRuns p (reserved k b ∷ (xs ++ token kind.Semi c ∷ []))
lexical_run p xs k b c h list = variables_run p xs k b c (lexical_declares k h) list

function-row : (n : Nested) (b : Bool) → stepped (at state.Statement n) (part (token (kind.Word (word.Keyword keyword.Function)) b)) ≡ at state.Head (within (function false) (pushed frame.FunctionHead n))
unfolding read_times read_once row moved changed statements.statement
function-row n b = refl

pub function_declaration_run : (p : Parameters) (w : WordKind) (xs : List Token) (g a b c : Bool) → is_identifier p w ≡ true → FunctionRuns (in_function g false) xs → StatementRuns p (reserved keyword.Function a ∷ (star g b ++ (token (kind.Word w) c ∷ xs)))
function_declaration_run p w xs g a b c named rest = record {
  runs = λ fs before h.
      let n = nested fs (around_of p) before in
      record {
        pend = no_function;
        run = goes (no_slash (at state.Statement n) (kind.Word (word.Keyword keyword.Function)) refl) (function-row n a) (function_tail_run p Declared g false b (token (kind.Word w) c ∷ []) xs fs (around_of p) before named rest);
        keeps = λ k. refl;
      };
}

async-statement-row : (n : Nested) (b : Bool) → (stepped (at state.Statement n) (part (token (kind.Word (word.Ident (ident.Known known.Async))) b)) ≡ at state.AsyncStatement n) × (stepped (at state.AsyncStatement n) (part (token (kind.Word (word.Keyword keyword.Function)) false)) ≡ at state.Head (within (function true) (pushed frame.FunctionHead n)))
unfolding read_times read_once row moved changed statements.statement
async-statement-row n b = (refl, refl)

pub async_function_declaration_run : (p : Parameters) (w : WordKind) (xs : List Token) (g a b c : Bool) → is_identifier p w ≡ true → FunctionRuns (in_function g true) xs → StatementRuns p (async a ∷ reserved keyword.Function false ∷ (star g b ++ (token (kind.Word w) c ∷ xs)))
async_function_declaration_run p w xs g a b c named rest = record {
  runs = λ fs before h.
      let n = nested fs (around_of p) before in
      record {
        pend = no_function;
        run = goes (no_slash (at state.Statement n) (kind.Word (word.Ident (ident.Known known.Async))) refl) (async-statement-row n a).0 (goes (no_slash (at state.AsyncStatement n) (kind.Word (word.Keyword keyword.Function)) refl) (async-statement-row n false).1 (function_tail_run p Declared g true b (token (kind.Word w) c ∷ []) xs fs (around_of p) before named rest));
        keeps = λ k. refl;
      };
}

class-row : (n : Nested) (b : Bool) → stepped (at state.Statement n) (part (token (kind.Word (word.Keyword keyword.Class)) b)) ≡ at state.ClassHead (pushed frame.ClassHead n)
unfolding read_times read_once row moved changed statements.statement
class-row n b = refl

pub class_declaration_run : (p : Parameters) (xs : List Token) (w : WordKind) (a b : Bool) → is_identifier p w ≡ true → TailRuns p xs → StatementRuns p (reserved keyword.Class a ∷ token (kind.Word w) b ∷ xs)
class_declaration_run p xs w a b named tail = record {
  runs = λ fs before h.
      let n = nested fs (around_of p) before in
      record {
        pend = no_function;
        run = goes (no_slash (at state.Statement n) (kind.Word (word.Keyword keyword.Class)) refl) (class-row n a) (joins (class_name_run p (pushed frame.ClassHead n) (token (kind.Word w) b ∷ []) named) (tail.runs false (around_of p) fs (around_of p) before refl));
        keeps = λ k. refl;
      };
}

-- `export` may stand before it
pub lexical_exports : (xs : List Token) (k : Keyword) (b : Bool) → is_lexical k ≡ true → begins_export (reserved k b ∷ xs) ≡ true
lexical_exports xs keyword.Const b h = refl
lexical_exports xs keyword.Let b h = refl
lexical_exports xs k b h = absurd cc
