-- Literals, chains of members and calls, `await` and `yield` of the grammar run: one lemma for each form of production
use Rattle.std.proofs.Common.{subst, ◌≡◌, ◌∙◌, ap, sym, Bool, true, false, List, [], ◌∷◌, ◌++◌, refl}
use Rattle.ecma_word.specs.declared.keyword.Keyword.TheVariants as keyword
use Rattle.ecma_word.specs.declared.word.WordKind.{WordKind}
use Rattle.ecma_word.specs.declared.word.WordKind.TheVariants as word
use Rattle.ecma_word.specs.declared.operator.BinOpToken.TheVariants as binary
use Rattle.ecma_token_kind.specs.declared.kind.TokenKind.TheVariants as kind
use Rattle.ecma_role_table.specs.declared.frame.Around.{Around}
use Rattle.ecma_role_table.specs.declared.frame.Frame.{Frame}
use Rattle.ecma_role_table.specs.declared.frame.FrameKind.TheVariants as frame
use Rattle.ecma_role_table.specs.declared.frame.Kinds.TheVariants as kinds
use Rattle.ecma_role_table.specs.declared.state.State.TheVariants as state
use Rattle.ecma_role_table.specs.declared.moves.Turn.TheVariants.{Done}
use Rattle.ecma_role_table.specs.Parts.{part_of_kind}
use Rattle.ecma_role_table.specs.Table.{row}
use Rattle.ecma_role_moves.specs.Moves.{changed, comma, moved, turned_to}
use Rattle.ecma_role_moves.specs.Nest.{Nested, dropped, dropped_from, framed, nested, no_function, pending, pushed}
use Rattle.ecma_role_tracks.specs.Track.{TrackView, read_once, read_times, stepped}
use Rattle.ecma_role_grammar.specs.Tokens.{Token, part, token}
use Rattle.ecma_role_grammar.specs.Grammar.{Parameters, is_on_line, reserved, with_in}
use Rattle.ecma_role_grammar.specs.Laws.{around_of}
use Rattle.ecma_role_grammar.proofs.Runs.{goes, joins, no_slash, one, stays}
use Rattle.ecma_role_grammar.proofs.Places.{AssignmentRuns, AtOperand, AtRestricted, Bare, BehindRuns, Concise, Follows, GapRuns, ItemRuns, ListRuns, OperandRuns, Over, Plain, SpanRuns, Spans, Yielding, at, at_landed, begin, ended, fits_settled, over}
use Rattle.ecma_role_grammar.proofs.Starts.{FromOperand, FromStatement, Importing, await_from, import_from, import_state, yield_from, begun, from_start}
use Rattle.ecma_role_grammar.proofs.Behind.{behind_back_quote, end_brace, optional_name, optional_reads_on, plain_reads_on, property_hash, question_dot, behind_dot, behind_in, behind_question, end_bracket, end_paren, property_name}
use Rattle.ecma_role_grammar.proofs.Expressions.{call_closed, comma_moved, comma_row, fits_pend, followed, held, index_closed, new_row, single, spread_row}
use Rattle.ecma_role_moves.specs.Moves.{brace}

-- Words that are operands, and what stands behind them

super-row : (n : Nested) (b : Bool) → read_once (at state.Operand n) (part_of_kind (kind.Word (word.Keyword keyword.Super))) b ≡ turned_to (Done state.After) n
unfolding read_once row moved changed
super-row n b = refl

super-runs : (p : Parameters) (b : Bool) → OperandRuns p (reserved keyword.Super b ∷ [])
super-runs p b = single p (reserved keyword.Super b) (λ s n fits o. (begun s n (kind.Word (word.Keyword keyword.Super)) b [] refl o (super-row n b), no_slash (begin s n) (kind.Word (word.Keyword keyword.Super)) refl))

pub super_runs : (p : Parameters) (xs : List Token) (b : Bool) → BehindRuns p xs → OperandRuns p (reserved keyword.Super b ∷ xs)
super_runs p xs b behind = followed p (reserved keyword.Super b ∷ []) xs (super-runs p b) behind

dot-row : (n : Nested) (b : Bool) → stepped (at state.Operand n) (part (token kind.Dot b)) ≡ at state.Property n
unfolding read_times read_once row moved changed
dot-row n b = refl

pub new_target_runs : (p : Parameters) (w : WordKind) (a b c : Bool) → OperandRuns p (reserved keyword.New a ∷ token kind.Dot b ∷ token (kind.Word w) c ∷ [])
new_target_runs p w a b c = record {
  some = refl;
  runs = λ s n fits o.
      record {
        state = Plain;
        pend = n.pending;
        run = goes (no_slash (begin s n) (kind.Word (word.Keyword keyword.New)) refl) (from_start s n (kind.Word (word.Keyword keyword.New)) a (token kind.Dot b ∷ token (kind.Word w) c ∷ []) state.Operand n refl o (new_row n a)) (goes (no_slash (at state.Operand n) kind.Dot refl) (dot-row n b) (one (no_slash (at state.Property n) (kind.Word w) refl) (property_name n w c)));
        label = λ _. refl;
        keeps = λ h. h;
      };
}

import-dot : (i : Importing) (n : Nested) (b : Bool) → stepped (at (import_state i) n) (part (token kind.Dot b)) ≡ at state.Property n
unfolding read_times read_once row moved changed
import-dot FromOperand n b = refl
import-dot FromStatement n b = refl

import-paren : (i : Importing) (n : Nested) (b : Bool) → dropped kinds.Candidates n ≡ n → stepped (at (import_state i) n) (part (token kind.LParen b)) ≡ at state.Operand (pushed frame.Call n)
unfolding read_times read_once row moved changed
import-paren FromOperand n b settled = refl
import-paren FromStatement n b settled = ap (λ m. at state.Operand (pushed frame.Call m)) settled

pub import_meta_runs : (p : Parameters) (w : WordKind) (a b c : Bool) → OperandRuns p (reserved keyword.Import a ∷ token kind.Dot b ∷ token (kind.Word w) c ∷ [])
import_meta_runs p w a b c = record {
  some = refl;
  runs = λ s n fits o.
      let i = import_from s n a (token kind.Dot b ∷ token (kind.Word w) c ∷ []) o in
      record {
        state = Plain;
        pend = n.pending;
        run = goes (no_slash (begin s n) (kind.Word (word.Keyword keyword.Import)) refl) i.is (goes (no_slash (at (import_state i.place) n) kind.Dot refl) (import-dot i.place n b) (one (no_slash (at state.Property n) (kind.Word w) refl) (property_name n w c)));
        label = λ _. refl;
        keeps = λ h. h;
      };
}

pub import_call_runs : (p : Parameters) (xs : List Token) (a b c : Bool) → AssignmentRuns (with_in p) xs → OperandRuns p (reserved keyword.Import a ∷ (token kind.LParen b ∷ xs ++ token kind.RParen c ∷ []))
import_call_runs p xs a b c item = record {
  some = refl;
  runs = λ s n fits o.
      let i = import_from s n a (token kind.LParen b ∷ xs ++ token kind.RParen c ∷ []) o in
      let fs : List Frame = framed frame.Call n.around n.pending ∷ n.frames in
      let inner = item.runs AtOperand fs n.around Bare n.pending (held (with_in p) frame.Call n.around n.frames n.around refl fits.around) refl in
      let last = over fs n.around inner.mark inner.pend in
      record {
        state = Plain;
        pend = inner.pend;
        run = goes (no_slash (begin s n) (kind.Word (word.Keyword keyword.Import)) refl) i.is (goes (no_slash (at (import_state i.place) n) kind.LParen refl) (import-paren i.place n b (fits_settled p n fits)) (joins inner.run (one (no_slash (ended inner.state last) kind.RParen refl) (end_paren inner.state last c ∙ call_closed n.frames n.around n.around inner.mark inner.pend fits.plain))));
        label = λ _. refl;
        keeps = inner.keeps;
      };
}

-- Private names and optional chains

pub private_behind : (p : Parameters) (w : WordKind) (a b c : Bool) → BehindRuns p (token kind.Dot a ∷ token kind.Hash b ∷ token (kind.Word w) c ∷ [])
private_behind p w a b c = record {
  runs = λ t n on fits.
      record {
        pend = n.pending;
        run = goes (no_slash t kind.Dot refl) (behind_dot t n a on) (goes (no_slash (at state.Property n) kind.Hash refl) (property_hash n b).0 (one (no_slash (at state.Property n) (kind.Word w) refl) (property_name n w c)));
        keeps = λ h. h;
      };
}

pub both_behind : (p : Parameters) (xs ys : List Token) → BehindRuns p xs → BehindRuns p ys → BehindRuns p (xs ++ ys)
both_behind p xs ys first second = record {
  runs = λ t n on fits.
      let l = first.runs t n on fits in
      let r = second.runs (at state.After (pending l.pend n)) (pending l.pend n) (plain_reads_on (pending l.pend n)) (fits_pend p n l.pend fits) in
      record { pend = r.pend; run = joins l.run r.run; keeps = λ h. r.keeps (l.keeps h) };
}

pub chain_behind : (p : Parameters) (xs : List Token) (a b : Bool) → BehindRuns p xs → BehindRuns p (token kind.QuestionMark a ∷ token kind.Dot b ∷ xs)
chain_behind p xs a b behind = record {
  runs = λ t n on fits.
      let r = behind.runs (at state.OptionalProperty n) n (optional_reads_on n) fits in
      record {
        pend = r.pend;
        run = goes (no_slash t kind.QuestionMark refl) (behind_question t n a on (fits_settled p n fits)) (goes (no_slash (at state.Conditional (pushed frame.Conditional n)) kind.Dot refl) (question_dot n b) r.run);
        keeps = r.keeps;
      };
}

pub chain_name_behind : (p : Parameters) (w : WordKind) (a b c : Bool) → BehindRuns p (token kind.QuestionMark a ∷ token kind.Dot b ∷ token (kind.Word w) c ∷ [])
chain_name_behind p w a b c = record {
  runs = λ t n on fits.
      record {
        pend = n.pending;
        run = goes (no_slash t kind.QuestionMark refl) (behind_question t n a on (fits_settled p n fits)) (goes (no_slash (at state.Conditional (pushed frame.Conditional n)) kind.Dot refl) (question_dot n b) (one (no_slash (at state.OptionalProperty n) (kind.Word w) refl) (optional_name n w c)));
        keeps = λ h. h;
      };
}

pub chain_private_behind : (p : Parameters) (w : WordKind) (a b c d : Bool) → BehindRuns p (token kind.QuestionMark a ∷ token kind.Dot b ∷ token kind.Hash c ∷ token (kind.Word w) d ∷ [])
chain_private_behind p w a b c d = record {
  runs = λ t n on fits.
      record {
        pend = n.pending;
        run = goes (no_slash t kind.QuestionMark refl) (behind_question t n a on (fits_settled p n fits)) (goes (no_slash (at state.Conditional (pushed frame.Conditional n)) kind.Dot refl) (question_dot n b) (goes (no_slash (at state.OptionalProperty n) kind.Hash refl) (property_hash n c).1 (one (no_slash (at state.Property n) (kind.Word w) refl) (property_name n w d))));
        keeps = λ h. h;
      };
}

hash-row : (n : Nested) (b : Bool) → read_once (at state.Operand n) (part_of_kind kind.Hash) b ≡ turned_to (Done state.Property) n
unfolding read_once row moved changed
hash-row n b = refl

-- `#name in ..`
pub private_in_runs : (p : Parameters) (xs : List Token) (w : WordKind) (a b c : Bool) → p.takes_in ≡ true → OperandRuns p xs → OperandRuns p (token kind.Hash a ∷ token (kind.Word w) b ∷ reserved keyword.In c ∷ xs)
private_in_runs p xs w a b c takes right = record {
  some = refl;
  runs = λ s n fits o.
      let r = right.runs AtOperand n fits refl in
      record {
        state = r.state;
        pend = r.pend;
        run = goes (no_slash (begin s n) kind.Hash refl) (from_start s n kind.Hash a (token (kind.Word w) b ∷ reserved keyword.In c ∷ xs) state.Property n refl o (hash-row n a)) (goes (no_slash (at state.Property n) (kind.Word w) refl) (property_name n w b) (goes (no_slash (at state.After n) (kind.Word (word.Keyword keyword.In)) refl) (behind_in Plain n c (fits_settled p n fits) (fits.declared takes)) r.run));
        label = λ _. r.label refl;
        keeps = r.keeps;
      };
}

-- `await` and `yield`

is-async : (p : Parameters) (n : Nested) → n.around ≡ around_of p → p.is_async ≡ true → n.around.is_async ≡ true
is-async p n around h = ap (λ a. a.is_async) around ∙ h

is-generator : (p : Parameters) (n : Nested) → n.around ≡ around_of p → p.is_generator ≡ true → n.around.is_generator ≡ true
is-generator p n around h = ap (λ a. a.is_generator) around ∙ h

pub await_runs : (p : Parameters) (xs : List Token) (b : Bool) → p.is_async ≡ true → OperandRuns p xs → OperandRuns p (reserved keyword.Await b ∷ xs)
await_runs p xs b h operand = record {
  some = refl;
  runs = λ s n fits o.
      let r = operand.runs AtOperand n fits refl in
      record { state = r.state; pend = r.pend; run = goes (no_slash (begin s n) (kind.Word (word.Keyword keyword.Await)) refl) (await_from s n b xs (is-async p n fits.around h) o) r.run; label = λ _. r.label refl; keeps = r.keeps };
}

pub yield_alone_runs : (p : Parameters) (b : Bool) → p.is_generator ≡ true → AssignmentRuns p (reserved keyword.Yield b ∷ [])
yield_alone_runs p b h = record {
  some = refl;
  runs = λ s fs a m before rests o.
      let n = over fs a m before in
      record { state = Yielding; mark = m; pend = before; run = one (no_slash (begin s n) (kind.Word (word.Keyword keyword.Yield)) refl) (yield_from s n b [] (is-generator p n rests.around h) o); label = λ _. refl; keeps = λ k. k };
}

pub yield_runs : (p : Parameters) (xs : List Token) (b : Bool) → p.is_generator ≡ true → is_on_line xs ≡ true → AssignmentRuns p xs → AssignmentRuns p (reserved keyword.Yield b ∷ xs)
yield_runs p xs b h line item = record {
  some = refl;
  runs = λ s fs a m before rests o.
      let n = over fs a m before in
      let r = item.runs AtRestricted fs a m before rests line in
      record { state = r.state; mark = r.mark; pend = r.pend; run = goes (no_slash (begin s n) (kind.Word (word.Keyword keyword.Yield)) refl) (yield_from s n b xs (is-generator p n rests.around h) o) r.run; label = λ _. r.label refl; keeps = r.keeps };
}

star-row : (n : Nested) → stepped (at state.Restricted n) (part (token (kind.BinOp binary.Mul) false)) ≡ at state.Operand n
unfolding read_times read_once row moved changed
star-row n = refl

pub yield_from_runs : (p : Parameters) (xs : List Token) (b : Bool) → p.is_generator ≡ true → AssignmentRuns p xs → AssignmentRuns p (reserved keyword.Yield b ∷ token (kind.BinOp binary.Mul) false ∷ xs)
yield_from_runs p xs b h item = record {
  some = refl;
  runs = λ s fs a m before rests o.
      let n = over fs a m before in
      let r = item.runs AtOperand fs a m before rests refl in
      record { state = r.state; mark = r.mark; pend = r.pend; run = goes (no_slash (begin s n) (kind.Word (word.Keyword keyword.Yield)) refl) (yield_from s n b (token (kind.BinOp binary.Mul) false ∷ xs) (is-generator p n rests.around h) o) (goes (no_slash (at state.Restricted n) (kind.BinOp binary.Mul) refl) (star-row n) r.run); label = λ _. r.label refl; keeps = r.keeps };
}

-- Templates

template-row : (n : Nested) (b : Bool) → read_once (at state.Operand n) (part_of_kind kind.BackQuote) b ≡ turned_to (Done state.Quasi) (pushed frame.Template n)
unfolding read_once row moved changed
template-row n b = refl

template-closed : (fs : List Frame) (a kept pend : Around) (b : Bool) → stepped (at state.Quasi (nested (record { kind = frame.Template; kept = kept } ∷ fs) a pend)) (part (token kind.BackQuote b)) ≡ at state.After (nested fs a pend)
unfolding read_times read_once row moved changed
template-closed fs a kept pend b = refl

in-template : (p : Parameters) (xs : List Token) (b : Bool) (t : TrackView) (n : Nested) → SpanRuns p xs → n.around ≡ around_of p → Follows (at state.Quasi (pushed frame.Template n)) n (xs ++ token kind.BackQuote b ∷ [])
in-template p xs b t n spans around =
    let fs : List Frame = framed frame.Template n.around n.pending ∷ n.frames in
    let r : Spans fs n.around n.pending xs = subst (λ a. Spans (record { kind = frame.Template; kept = n.around } ∷ n.frames) a n.pending xs) (sym around) (spans.runs n.frames n.around n.pending) in
    record {
      pend = r.pend;
      run = joins r.run (one (no_slash (at state.Quasi (nested fs n.around r.pend)) kind.BackQuote refl) (template-closed n.frames n.around n.around r.pend b));
      keeps = r.keeps;
    }

pub template_runs : (p : Parameters) (xs : List Token) (a b : Bool) → SpanRuns p xs → OperandRuns p (token kind.BackQuote a ∷ xs ++ token kind.BackQuote b ∷ []) × BehindRuns p (token kind.BackQuote a ∷ xs ++ token kind.BackQuote b ∷ [])
template_runs p xs a b spans = (
  record {
    some = refl;
    runs = λ s n fits o.
        let r = in-template p xs b (begin s n) n spans fits.around in
        record { state = Plain; pend = r.pend; run = goes (no_slash (begin s n) kind.BackQuote refl) (from_start s n kind.BackQuote a (xs ++ token kind.BackQuote b ∷ []) state.Quasi (pushed frame.Template n) refl o (template-row n a)) r.run; label = λ _. refl; keeps = r.keeps };
  },
  record {
    runs = λ t n on fits.
        let r = in-template p xs b t n spans fits.around in
        record { pend = r.pend; run = goes (no_slash t kind.BackQuote refl) (behind_back_quote t n a on) r.run; keeps = r.keeps };
  },
)

text-row : (n : Nested) (b : Bool) → stepped (at state.Quasi n) (part (token kind.Template b)) ≡ at state.Quasi n
unfolding read_times read_once row moved changed
text-row n b = refl

pub template_text_runs : (p : Parameters) (b : Bool) → SpanRuns p (token kind.Template b ∷ [])
template_text_runs p b = record { runs = λ fs kept before. let n = nested (record { kind = frame.Template; kept = kept } ∷ fs) (around_of p) before in record { pend = before; run = one (no_slash (at state.Quasi n) kind.Template refl) (text-row n b); keeps = λ h. h } }

substitution-row : (fs : List Frame) (a kept pend : Around) (b : Bool) → stepped (at state.Quasi (nested (record { kind = frame.Template; kept = kept } ∷ fs) a pend)) (part (token kind.DollarLBrace b)) ≡ at state.Operand (nested (record { kind = frame.Template; kept = kept } ∷ fs) a pend)
unfolding read_times read_once row moved changed
substitution-row fs a kept pend b = refl

substitution-closed : (fs : List Frame) (a kept : Around) (m : Over) (pend : Around) → at_landed (brace (pending no_function (over (record { kind = frame.Template; kept = kept } ∷ fs) a m pend))) ≡ at state.Quasi (nested (record { kind = frame.Template; kept = kept } ∷ fs) a no_function)
unfolding dropped_from
substitution-closed fs a kept Bare pend = refl
substitution-closed fs a kept (Concise b) pend = refl

pub template_span_runs : (p : Parameters) (xs ys : List Token) (b c d : Bool) → SpanRuns p xs → ListRuns (with_in p) ys → SpanRuns p (xs ++ (token kind.DollarLBrace b ∷ ys ++ token kind.RBrace c ∷ token kind.Template d ∷ []))
template_span_runs p xs ys b c d spans list = record {
  runs = λ outer kept before.
      let a = around_of p in
      let fs : List Frame = record { kind = frame.Template; kept = kept } ∷ outer in
      let l = spans.runs outer kept before in
      let e = list.runs AtOperand fs a l.pend (held (with_in p) frame.Template kept outer a refl refl) (record { kept = refl; behind = refl }) refl in
      let last = over fs a e.mark e.pend in
      record {
        pend = no_function;
        run = joins l.run (goes (no_slash (at state.Quasi (nested fs a l.pend)) kind.DollarLBrace refl) (substitution-row outer a kept l.pend b) (joins e.run (goes (no_slash (ended e.state last) kind.RBrace refl) (end_brace e.state last c ∙ substitution-closed outer a kept e.mark e.pend) (one (no_slash (at state.Quasi (nested fs a no_function)) kind.Template refl) (text-row (nested fs a no_function) d)))));
        keeps = λ h. refl;
      };
}

-- Arrays, and patterns of them

array-row : (n : Nested) (b : Bool) → read_once (at state.Operand n) (part_of_kind kind.LBracket) b ≡ turned_to (Done state.Operand) (pushed frame.Bracket n)
unfolding read_once row moved changed
array-row n b = refl

open-closed : (fs : List Frame) (a kept pend : Around) (b : Bool) → stepped (at state.Operand (nested (record { kind = frame.Bracket; kept = kept } ∷ fs) a pend)) (part (token kind.RBracket b)) ≡ at state.After (nested fs a pend)
unfolding read_times read_once row moved changed dropped_from
open-closed fs a kept pend b = refl

pub holes_runs : (p : Parameters) (xs : List Token) (a b : Bool) → GapRuns xs → OperandRuns p (token kind.LBracket a ∷ xs ++ token kind.RBracket b ∷ [])
holes_runs p xs a b gap = record {
  some = refl;
  runs = λ s n fits o.
      let fs : List Frame = framed frame.Bracket n.around n.pending ∷ n.frames in
      let r = gap.runs fs n.around n.pending (record { kept = refl; behind = refl }) refl in
      record {
        state = Plain;
        pend = n.pending;
        run = goes (no_slash (begin s n) kind.LBracket refl) (from_start s n kind.LBracket a (xs ++ token kind.RBracket b ∷ []) state.Operand (pushed frame.Bracket n) refl o (array-row n a)) (joins r (one (no_slash (at state.Operand (nested fs n.around n.pending)) kind.RBracket refl) (open-closed n.frames n.around n.around n.pending b)));
        label = λ _. refl;
        keeps = λ h. h;
      };
}

pub array_runs : (p : Parameters) (xs : List Token) (a b : Bool) → ItemRuns (with_in p) xs → OperandRuns p (token kind.LBracket a ∷ xs ++ token kind.RBracket b ∷ [])
array_runs p xs a b items = record {
  some = refl;
  runs = λ s n fits o.
      let fs : List Frame = framed frame.Bracket n.around n.pending ∷ n.frames in
      let r = items.runs fs n.around n.pending (held (with_in p) frame.Bracket n.around n.frames n.around refl fits.around) (record { kept = refl; behind = refl }) in
      let last = over fs n.around r.mark r.pend in
      record {
        state = Plain;
        pend = r.pend;
        run = goes (no_slash (begin s n) kind.LBracket refl) (from_start s n kind.LBracket a (xs ++ token kind.RBracket b ∷ []) state.Operand (pushed frame.Bracket n) refl o (array-row n a)) (joins r.run (one (no_slash (ended r.state last) kind.RBracket refl) (end_bracket r.state last b ∙ index_closed n.frames n.around n.around r.mark r.pend)));
        label = λ _. refl;
        keeps = r.keeps;
      };
}

pub array_holes_runs : (p : Parameters) (xs ys : List Token) (a b c : Bool) → ItemRuns (with_in p) xs → GapRuns ys → OperandRuns p (token kind.LBracket a ∷ (xs ++ (token kind.Comma b ∷ ys ++ token kind.RBracket c ∷ [])))
array_holes_runs p xs ys a b c items gap = record {
  some = refl;
  runs = λ s n fits o.
      let fs : List Frame = framed frame.Bracket n.around n.pending ∷ n.frames in
      let r = items.runs fs n.around n.pending (held (with_in p) frame.Bracket n.around n.frames n.around refl fits.around) (record { kept = refl; behind = refl }) in
      let last = over fs n.around r.mark r.pend in
      let g = gap.runs fs n.around r.pend (record { kept = refl; behind = refl }) refl in
      record {
        state = Plain;
        pend = r.pend;
        run = goes (no_slash (begin s n) kind.LBracket refl) (from_start s n kind.LBracket a (xs ++ (token kind.Comma b ∷ ys ++ token kind.RBracket c ∷ [])) state.Operand (pushed frame.Bracket n) refl o (array-row n a)) (joins r.run (goes (no_slash (ended r.state last) kind.Comma refl) (comma_row r.state fs n.around r.mark r.pend b (record { kept = refl; behind = refl }) refl) (joins g (one (no_slash (at state.Operand (nested fs n.around r.pend)) kind.RBracket refl) (open-closed n.frames n.around n.around r.pend c)))));
        label = λ _. refl;
        keeps = r.keeps;
      };
}

pub no_gap : GapRuns []
no_gap = record { runs = λ fs a pend sep calm. stays (at state.Operand (nested fs a pend)) }

open-comma : (n : Nested) (b : Bool) → stepped (at state.Operand n) (part (token kind.Comma b)) ≡ at_landed (comma n)
unfolding read_times read_once row moved changed
open-comma n b = refl

pub gap_runs : (xs : List Token) (b : Bool) → GapRuns xs → GapRuns (token kind.Comma b ∷ xs)
gap_runs xs b gap = record { runs = λ fs a pend sep calm. goes (no_slash (at state.Operand (nested fs a pend)) kind.Comma refl) (open-comma (nested fs a pend) b ∙ ap at_landed (comma_moved fs a Bare pend sep calm)) (gap.runs fs a pend sep calm) }

pub item_runs : (p : Parameters) (xs : List Token) → AssignmentRuns p xs → ItemRuns p xs
item_runs p xs item = record { runs = λ fs a before rests sep. item.runs AtOperand fs a Bare before rests refl }

pub list_items : (p : Parameters) (xs : List Token) → ListRuns p xs → ItemRuns p xs
list_items p xs list = record { runs = λ fs a before rests sep. list.runs AtOperand fs a before rests sep refl }

pub gap_item_runs : (p : Parameters) (xs ys : List Token) → GapRuns xs → ItemRuns p ys → ItemRuns p (xs ++ ys)
gap_item_runs p xs ys gap items = record {
  runs = λ fs a before rests sep.
      let r = items.runs fs a before rests sep in
      record { state = r.state; mark = r.mark; pend = r.pend; run = joins (gap.runs fs a before sep rests.calm) r.run; label = r.label; keeps = r.keeps };
}

pub spread_item_runs : (p : Parameters) (xs : List Token) (b : Bool) → AssignmentRuns p xs → ItemRuns p (token kind.DotDotDot b ∷ xs)
spread_item_runs p xs b item = record {
  runs = λ fs a before rests sep.
      let n = nested fs a before in
      let r = item.runs AtOperand fs a Bare before rests refl in
      record { state = r.state; mark = r.mark; pend = r.pend; run = goes (no_slash (at state.Operand n) kind.DotDotDot refl) (spread_row n b) r.run; label = r.label; keeps = r.keeps };
}

pub more_item_runs : (p : Parameters) (xs ys : List Token) (b : Bool) → ItemRuns p xs → ItemRuns p ys → ItemRuns p (xs ++ token kind.Comma b ∷ ys)
more_item_runs p xs ys b first second = record {
  runs = λ fs a before rests sep.
      let l = first.runs fs a before rests sep in
      let r = second.runs fs a l.pend rests sep in
      record {
        state = r.state;
        mark = r.mark;
        pend = r.pend;
        run = joins l.run (goes (no_slash (ended l.state (over fs a l.mark l.pend)) kind.Comma refl) (comma_row l.state fs a l.mark l.pend b sep rests.calm) r.run);
        label = r.label;
        keeps = λ h. r.keeps (l.keeps h);
      };
}

-- a pattern stands where `in` is no operator too
pub operand_within : (p : Parameters) (xs : List Token) → OperandRuns p xs → OperandRuns (with_in p) xs
operand_within p xs operand = record {
  some = operand.some;
  runs = λ s n fits o. operand.runs s n (record { calm = fits.calm; lone = fits.lone; plain = fits.plain; declared = λ _. fits.declared refl; around = fits.around }) o;
}
