-- Statements of the grammar run: one lemma for each form of production
use Rattle.std.proofs.Common.{◌≡◌, ◌∙◌, ap, Bool, true, false, not, List, [], ◌∷◌, ◌++◌, refl}
use Rattle.ecma_token_kind.specs.declared.kind.TokenKind.TheVariants as kind
use Rattle.ecma_role_table.specs.declared.frame.Around.{Around}
use Rattle.ecma_role_table.specs.declared.frame.Frame.{Frame}
use Rattle.ecma_role_table.specs.declared.frame.FrameKind.TheVariants as frame
use Rattle.ecma_role_table.specs.declared.frame.Kinds.TheVariants as kinds
use Rattle.ecma_role_table.specs.declared.state.State.TheVariants as state
use Rattle.ecma_role_table.specs.Table.{row}
use Rattle.ecma_role_table.specs.Statements as statements
use Rattle.ecma_role_moves.specs.Moves.{changed, fresh_of, landed, moved, semi, semi_at}
use Rattle.ecma_role_moves.specs.Nest.{Nested, dropped, dropped_from, framed, nested, no_function, pushed, top}
use Rattle.ecma_role_tracks.specs.Track.{read_once, read_times, stepped}
use Rattle.ecma_role_moves.proofs.NestLemmas.{dropped_none}
use Rattle.ecma_role_grammar.specs.Tokens.{Token, part, token}
use Rattle.ecma_role_grammar.specs.Grammar.{Parameters, is_declaration, with_in}
use Rattle.ecma_role_grammar.specs.Laws.{around_of}
use Rattle.ecma_role_grammar.proofs.Runs.{goes, joins, no_slash, one, stays}
use Rattle.ecma_role_grammar.proofs.Places.{AtStatement, Bare, Concise, Ended, InsideRuns, ListRuns, Over, Rests, StatementRuns, at, at_landed, calm_settled, ended, over, statements_marks, statements_rest, statements_separate, top_of}
use Rattle.ecma_role_grammar.proofs.Behind.{end_semi}

-- a semicolon behind an expression
pub gone_marks : (fs : List Frame) (a : Around) (m : Over) (pend : Around) → fresh_of (top_of fs) ≡ state.Statement → dropped kinds.Marks (over fs a m pend) ≡ nested fs a pend
unfolding dropped_from
gone_marks fs a Bare pend h = dropped_none kinds.Marks (nested fs a pend) (statements_marks (top_of fs) h)
gone_marks fs a (Concise b) pend h = dropped_none kinds.Marks (nested fs a pend) (statements_marks (top_of fs) h)

gone-candidates : (p : Parameters) (fs : List Frame) (a : Around) (m : Over) (pend : Around) → Rests p fs a Bare → dropped kinds.Candidates (over fs a m pend) ≡ over fs a m pend
gone-candidates p fs a Bare pend rests = calm_settled (nested fs a pend) rests.calm
gone-candidates p fs a (Concise b) pend rests = calm_settled (over fs a (Concise b) pend) refl

pub semi_moved : (n after : Nested) → dropped kinds.Marks n ≡ after → fresh_of (top after) ≡ state.Statement → semi n ≡ landed state.Statement after
semi_moved n after gone h = ap (λ m. semi_at (fresh_of (top m)) m) gone ∙ ap (λ s. semi_at s after) h

pub semi_row : (p : Parameters) (e : Ended) (fs : List Frame) (a : Around) (m : Over) (pend : Around) (b : Bool) → a ≡ around_of p → fresh_of (top_of fs) ≡ state.Statement → stepped (ended e (over fs a m pend)) (part (token kind.Semi b)) ≡ at state.Statement (nested fs a pend)
semi_row p e fs a m pend b is h =
    end_semi e (over fs a m pend) b
    ∙ ap (λ n. at_landed (semi n)) (gone-candidates p fs a m pend (statements_rest p fs a h is))
    ∙ ap at_landed (semi_moved (over fs a m pend) (nested fs a pend) (gone_marks fs a m pend h) h)

not-false : (b : Bool) → b ≡ false → not b ≡ true
not-false b h = rw h refl

pub expression_statement_runs : (p : Parameters) (xs : List Token) (b : Bool) → is_declaration xs ≡ false → ListRuns (with_in p) xs → StatementRuns p (xs ++ token kind.Semi b ∷ [])
expression_statement_runs p xs b h list = record {
  runs = λ fs before over_statements.
      let a = around_of p in
      let e = list.runs AtStatement fs a before (statements_rest (with_in p) fs a over_statements refl) (statements_separate fs over_statements) (not-false (is_declaration xs) h) in
      record {
        pend = e.pend;
        run = joins e.run (one (no_slash (ended e.state (over fs a e.mark e.pend)) kind.Semi refl) (semi_row p e.state fs a e.mark e.pend b refl over_statements));
        keeps = e.keeps;
      };
}

-- a semicolon alone
empty-row : (n : Nested) (b : Bool) → stepped (at state.Statement n) (part (token kind.Semi b)) ≡ at_landed (semi n)
unfolding read_times read_once row moved changed statements.statement
empty-row n b = refl

pub empty_runs : (p : Parameters) (b : Bool) → StatementRuns p (token kind.Semi b ∷ [])
empty_runs p b = record {
  runs = λ fs before h.
      let n = nested fs (around_of p) before in
      record {
        pend = before;
        run = one (no_slash (at state.Statement n) kind.Semi refl) (empty-row n b ∙ ap at_landed (semi_moved n n (gone_marks fs (around_of p) Bare before h) h));
        keeps = λ k. k;
      };
}

-- braces

block-row : (n : Nested) (b : Bool) → stepped (at state.Statement n) (part (token kind.LBrace b)) ≡ at state.Statement (pushed frame.Block n)
unfolding read_times read_once row moved changed statements.statement
block-row n b = refl

block-closed : (fs : List Frame) (a kept pend : Around) (b : Bool) → stepped (at state.Statement (nested (record { kind = frame.Block; kept = kept } ∷ fs) a pend)) (part (token kind.RBrace b)) ≡ at state.Statement (nested fs a no_function)
unfolding read_times read_once row moved changed statements.statement dropped_from
block-closed fs a kept pend b = refl

pub block_runs : (p : Parameters) (xs : List Token) (b c : Bool) → InsideRuns p xs → StatementRuns p (token kind.LBrace b ∷ xs ++ token kind.RBrace c ∷ [])
block_runs p xs b c list = record {
  runs = λ fs before h.
      let a = around_of p in
      let n = nested fs a before in
      let inner : List Frame = framed frame.Block a before ∷ fs in
      let l = list.runs inner before refl in
      record {
        pend = no_function;
        run = goes (no_slash (at state.Statement n) kind.LBrace refl) (block-row n b) (joins l.run (one (no_slash l.after kind.RBrace refl) (l.closes c ∙ block-closed fs a a l.pend c)));
        keeps = λ k. refl;
      };
}

-- lists

pub none_run : (p : Parameters) → StatementRuns p []
none_run p = record { runs = λ fs before h. record { pend = before; run = stays (at state.Statement (nested fs (around_of p) before)); keeps = λ k. k } }

pub both_run : (p : Parameters) (xs ys : List Token) → StatementRuns p xs → StatementRuns p ys → StatementRuns p (xs ++ ys)
both_run p xs ys first second = record {
  runs = λ fs before h.
      let l = first.runs fs before h in
      let r = second.runs fs l.pend h in
      record { pend = r.pend; run = joins l.run r.run; keeps = λ k. r.keeps (l.keeps k) };
}
