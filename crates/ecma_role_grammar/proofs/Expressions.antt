-- Expressions of the grammar run: one lemma for each form of production
use Rattle.std.proofs.Common.{◌≡◌, ◌∙◌, ap, Bool, true, false, List, [], ◌∷◌, ◌++◌, refl}
use Rattle.ecma_word.specs.declared.keyword.Keyword.TheVariants as keyword
use Rattle.ecma_word.specs.declared.word.WordKind.{WordKind}
use Rattle.ecma_word.specs.declared.word.WordKind.TheVariants as word
use Rattle.ecma_word.specs.declared.operator.BinOpToken.{BinOpToken}
use Rattle.ecma_word.specs.declared.operator.BinOpToken.TheVariants as binary
use Rattle.ecma_word.specs.declared.operator.AssignOp.{AssignOp}
use Rattle.ecma_token_kind.specs.declared.kind.TokenKind.{TokenKind}
use Rattle.ecma_token_kind.specs.declared.kind.TokenKind.TheVariants as kind
use Rattle.ecma_role_table.specs.declared.frame.Around.{Around}
use Rattle.ecma_role_table.specs.declared.frame.Frame.{Frame}
use Rattle.ecma_role_table.specs.declared.frame.FrameKind.{FrameKind}
use Rattle.ecma_role_table.specs.declared.frame.FrameKind.TheVariants as frame
use Rattle.ecma_role_table.specs.declared.frame.Kinds.TheVariants as kinds
use Rattle.ecma_role_table.specs.declared.state.State.{State}
use Rattle.ecma_role_table.specs.declared.state.State.TheVariants as state
use Rattle.ecma_role_table.specs.declared.moves.Grouping.TheVariants as grouping
use Rattle.ecma_role_table.specs.declared.moves.Turn.TheVariants.{Done}
use Rattle.ecma_role_table.specs.Frames.{over_candidate}
use Rattle.ecma_role_table.specs.Parts.{part_of_kind}
use Rattle.ecma_role_table.specs.Table.{row}
use Rattle.ecma_role_moves.specs.Moves.{bracket, changed, colon, comma, comma_in, decorating, landed, moved, paren, turned_to}
use Rattle.ecma_role_moves.specs.Nest.{Nested, dropped, dropped_from, framed, nested, pending, pushed, top}
use Rattle.ecma_role_tracks.specs.Track.{read_once, read_times, stepped}
use Rattle.ecma_role_moves.proofs.NestLemmas.{dropped_none}
use Rattle.ecma_role_grammar.specs.Tokens.{Token, part, token}
use Rattle.ecma_role_grammar.specs.Grammar.{Parameters, is_identifier, is_literal, is_postfix, is_prefix, reserved, with_in}
use Rattle.ecma_role_grammar.specs.Laws.{around_of}
use Rattle.ecma_role_grammar.proofs.Runs.{RightAt, goes, is_regex, is_slash, joins, no_slash, one, right_division, right_regex}
use Rattle.ecma_role_grammar.proofs.Places.{AssignmentRuns, AtOperand, AtQuestion, Bare, BehindRuns, Complete, Concise, Ended, Fits, Grouped, ListRuns, OperandRuns, Over, Plain, Postfix, Rests, Separates, Start, Whole, around_in, at, at_landed, begin, begin_expects, completed, completed_divides, ended, fits_settled, opens, opens_front, over, rests_fits, some_front, top_of}
use Rattle.ecma_role_grammar.proofs.Starts.{Begun, begun, from_start, identifier_begun, starts}
use Rattle.ecma_role_grammar.proofs.Behind.{behind_assign, behind_binary, behind_bracket, behind_dot, behind_in, behind_instanceof, behind_paren, behind_question, behind_update, complete_reads_on, end_bracket, end_colon, end_comma, end_paren, property_name}

-- frames that hold assignment expressions, and lists of them
abbrev pub holds : FrameKind → Bool
holds frame.Paren = true
holds frame.Call = true
holds frame.Bracket = true
holds frame.Computed = true
holds frame.Conditional = true
holds frame.Template = true
holds frame.AsyncParen = true
holds frame.Parameters = true
holds frame.Object = true
holds frame.Class = true
holds frame.ClassExpression = true
holds frame.ClassHead = true
holds frame.ClassExpressionHead = true
holds frame.Case = true
holds frame.Control = true
holds frame.For = true
holds k = false

pub held : (p : Parameters) (k : FrameKind) (kept : Around) (fs : List Frame) (a : Around) → holds k ≡ true → a ≡ around_of p → Rests p (record { kind = k; kept = kept } ∷ fs) a Bare
held p frame.Paren kept fs a h is = record { calm = refl; lone = λ u. refl; plain = λ s. refl; no_arrow = λ n. refl; declared = λ _. refl; around = is }
held p frame.Call kept fs a h is = record { calm = refl; lone = λ u. refl; plain = λ s. refl; no_arrow = λ n. refl; declared = λ _. refl; around = is }
held p frame.Bracket kept fs a h is = record { calm = refl; lone = λ u. refl; plain = λ s. refl; no_arrow = λ n. refl; declared = λ _. refl; around = is }
held p frame.Computed kept fs a h is = record { calm = refl; lone = λ u. refl; plain = λ s. refl; no_arrow = λ n. refl; declared = λ _. refl; around = is }
held p frame.Conditional kept fs a h is = record { calm = refl; lone = λ u. refl; plain = λ s. refl; no_arrow = λ n. refl; declared = λ _. refl; around = is }
held p frame.Template kept fs a h is = record { calm = refl; lone = λ u. refl; plain = λ s. refl; no_arrow = λ n. refl; declared = λ _. refl; around = is }
held p frame.AsyncParen kept fs a h is = record { calm = refl; lone = λ u. refl; plain = λ s. refl; no_arrow = λ n. refl; declared = λ _. refl; around = is }
held p frame.Parameters kept fs a h is = record { calm = refl; lone = λ u. refl; plain = λ s. refl; no_arrow = λ n. refl; declared = λ _. refl; around = is }
held p frame.Object kept fs a h is = record { calm = refl; lone = λ u. refl; plain = λ s. refl; no_arrow = λ n. refl; declared = λ _. refl; around = is }
held p frame.Class kept fs a h is = record { calm = refl; lone = λ u. refl; plain = λ s. refl; no_arrow = λ n. refl; declared = λ _. refl; around = is }
held p frame.ClassExpression kept fs a h is = record { calm = refl; lone = λ u. refl; plain = λ s. refl; no_arrow = λ n. refl; declared = λ _. refl; around = is }
held p frame.ClassHead kept fs a h is = record { calm = refl; lone = λ u. refl; plain = λ s. refl; no_arrow = λ n. refl; declared = λ _. refl; around = is }
held p frame.ClassExpressionHead kept fs a h is = record { calm = refl; lone = λ u. refl; plain = λ s. refl; no_arrow = λ n. refl; declared = λ _. refl; around = is }
held p frame.Case kept fs a h is = record { calm = refl; lone = λ u. refl; plain = λ s. refl; no_arrow = λ n. refl; declared = λ _. refl; around = is }
held p frame.Control kept fs a h is = record { calm = refl; lone = λ u. refl; plain = λ s. refl; no_arrow = λ n. refl; declared = λ _. refl; around = is }
held p frame.For kept fs a h is = record { calm = refl; lone = λ u. refl; plain = λ s. refl; no_arrow = λ n. refl; declared = λ _. refl; around = is }
held p k kept fs a h is = absurd cc

pub fits_pend : (p : Parameters) (n : Nested) (q : Around) → Fits p n → Fits p (pending q n)
fits_pend p n q f = record { calm = f.calm; lone = f.lone; plain = f.plain; declared = f.declared; around = f.around }

-- A single token

pub single : (p : Parameters) (x : Token) → ((s : Start) (n : Nested) → Fits p n → opens s (x ∷ []) ≡ true → Begun s n x × RightAt (begin s n) x.kind) → OperandRuns p (x ∷ [])
single p x begins = record { some = refl; runs = λ s n fits o. let b = begins s n fits o in record { state = b.0.state; pend = n.pending; run = one b.1 b.0.is; label = b.0.label; keeps = λ h. h } }

this-row : (n : Nested) (b : Bool) → read_once (at state.Operand n) (part_of_kind (kind.Word (word.Keyword keyword.This))) b ≡ turned_to (Done state.After) n
unfolding read_once row moved changed
this-row n b = refl

pub this_runs : (p : Parameters) (b : Bool) → OperandRuns p (reserved keyword.This b ∷ [])
this_runs p b = single p (reserved keyword.This b) (λ s n fits o. (begun s n (kind.Word (word.Keyword keyword.This)) b [] refl o (this-row n b), no_slash (begin s n) (kind.Word (word.Keyword keyword.This)) refl))

pub identifier_runs : (p : Parameters) (w : WordKind) (b : Bool) → is_identifier p w ≡ true → OperandRuns p (token (kind.Word w) b ∷ [])
identifier_runs p w b h = single p (token (kind.Word w) b) (λ s n fits o. (identifier_begun s p n w b [] fits.around h o, no_slash (begin s n) (kind.Word w) refl))

literal-row : (n : Nested) (k : TokenKind) (b : Bool) → is_literal k ≡ true → (starts k ≡ true) × (is_slash k ≡ false) × (read_once (at state.Operand n) (part_of_kind k) b ≡ turned_to (Done state.After) n)
unfolding read_once row moved changed
literal-row n kind.Num b h = (refl, refl, refl)
literal-row n kind.BigInt b h = (refl, refl, refl)
literal-row n kind.Str b h = (refl, refl, refl)
literal-row n (kind.Word word.Null) b h = (refl, refl, refl)
literal-row n (kind.Word word.True) b h = (refl, refl, refl)
literal-row n (kind.Word word.False) b h = (refl, refl, refl)
literal-row n k b h = absurd cc

pub literal_runs : (p : Parameters) (k : TokenKind) (b : Bool) → is_literal k ≡ true → OperandRuns p (token k b ∷ [])
literal_runs p k b h = single p (token k b) (λ s n fits o. let r = literal-row n k b h in (begun s n k b [] r.0 o r.2, no_slash (begin s n) k r.1))

regex-row : (n : Nested) (b : Bool) → dropped kinds.Candidates n ≡ n → read_once (at state.Operand n) (part_of_kind kind.Regex) b ≡ turned_to (Done state.After) n
unfolding read_once row moved changed
regex-row n b settled = ap (turned_to (Done state.After)) settled

pub regex_runs : (p : Parameters) (b : Bool) → OperandRuns p (token kind.Regex b ∷ [])
regex_runs p b = single p (token kind.Regex b) (λ s n fits o. (begun s n kind.Regex b [] refl o (regex-row n b (fits_settled p n fits)), right_regex (begin s n) (begin_expects s n)))

-- Parentheses

pub paren_row : (n : Nested) (b : Bool) → read_once (at state.Operand n) (part_of_kind kind.LParen) b ≡ turned_to (Done state.Operand) (pushed frame.Paren n)
unfolding read_once row moved changed
paren_row n b = refl

pub group_closed : (fs : List Frame) (a kept : Around) (m : Over) (pend : Around) → ((s : State) → decorating (top_of fs) s ≡ s) → at_landed (paren (over (record { kind = frame.Paren; kept = kept } ∷ fs) a m pend)) ≡ at state.Group (nested fs a pend)
unfolding dropped_from
group_closed fs a kept Bare pend plain = ap (λ s. at s (nested fs a pend)) (plain state.Group)
group_closed fs a kept (Concise b) pend plain = ap (λ s. at s (nested fs a pend)) (plain state.Group)

pub parenthesized_runs : (p : Parameters) (xs : List Token) (a b : Bool) → ListRuns (with_in p) xs → OperandRuns p (token kind.LParen a ∷ xs ++ token kind.RParen b ∷ [])
parenthesized_runs p xs a b list = record {
  some = refl;
  runs = λ s n fits o.
      let fs : List Frame = framed frame.Paren n.around n.pending ∷ n.frames in
      let inner = list.runs AtOperand fs n.around n.pending (held (with_in p) frame.Paren n.around n.frames n.around refl fits.around) (record { kept = refl; behind = refl }) refl in
      let last = over fs n.around inner.mark inner.pend in
      record {
        state = Grouped;
        pend = inner.pend;
        run = goes (no_slash (begin s n) kind.LParen refl) (from_start s n kind.LParen a (xs ++ token kind.RParen b ∷ []) state.Operand (pushed frame.Paren n) refl o (paren_row n a)) (joins inner.run (one (no_slash (ended inner.state last) kind.RParen refl) (end_paren inner.state last b ∙ group_closed n.frames n.around n.around inner.mark inner.pend fits.plain)));
        label = λ _. refl;
        keeps = inner.keeps;
      };
}

-- What stands behind an operand

pub followed : (p : Parameters) (xs ys : List Token) → OperandRuns p xs → BehindRuns p ys → OperandRuns p (xs ++ ys)
followed p xs ys operand behind = record {
  some = some_front xs ys operand.some;
  runs = λ s n fits o.
      let l = operand.runs s n fits (opens_front s xs ys operand.some o) in
      let r = behind.runs (completed l.state (pending l.pend n)) (pending l.pend n) (complete_reads_on l.state (pending l.pend n)) (fits_pend p n l.pend fits) in
      record { state = Plain; pend = r.pend; run = joins l.run r.run; label = λ _. refl; keeps = λ h. r.keeps (l.keeps h) };
}

pub name_behind : (p : Parameters) (w : WordKind) (a b : Bool) → BehindRuns p (token kind.Dot a ∷ token (kind.Word w) b ∷ [])
name_behind p w a b = record {
  runs = λ t n on fits.
      record {
        pend = n.pending;
        run = goes (no_slash t kind.Dot refl) (behind_dot t n a on) (one (no_slash (at state.Property n) (kind.Word w) refl) (property_name n w b));
        keeps = λ h. h;
      };
}

pub index_closed : (fs : List Frame) (a kept : Around) (m : Over) (pend : Around) → at_landed (bracket (over (record { kind = frame.Bracket; kept = kept } ∷ fs) a m pend)) ≡ at state.After (nested fs a pend)
unfolding dropped_from
index_closed fs a kept Bare pend = refl
index_closed fs a kept (Concise b) pend = refl

pub index_behind : (p : Parameters) (xs : List Token) (a b : Bool) → ListRuns (with_in p) xs → BehindRuns p (token kind.LBracket a ∷ xs ++ token kind.RBracket b ∷ [])
index_behind p xs a b list = record {
  runs = λ t n on fits.
      let fs : List Frame = framed frame.Bracket n.around n.pending ∷ n.frames in
      let inner = list.runs AtOperand fs n.around n.pending (held (with_in p) frame.Bracket n.around n.frames n.around refl fits.around) (record { kept = refl; behind = refl }) refl in
      let last = over fs n.around inner.mark inner.pend in
      record {
        pend = inner.pend;
        run = goes (no_slash t kind.LBracket refl) (behind_bracket t n a on) (joins inner.run (one (no_slash (ended inner.state last) kind.RBracket refl) (end_bracket inner.state last b ∙ index_closed n.frames n.around n.around inner.mark inner.pend)));
        keeps = inner.keeps;
      };
}

-- Arguments

pub call_closed : (fs : List Frame) (a kept : Around) (m : Over) (pend : Around) → ((s : State) → decorating (top_of fs) s ≡ s) → at_landed (paren (over (record { kind = frame.Call; kept = kept } ∷ fs) a m pend)) ≡ at state.After (nested fs a pend)
unfolding dropped_from
call_closed fs a kept Bare pend plain = ap (λ s. at s (nested fs a pend)) (plain state.After)
call_closed fs a kept (Concise b) pend plain = ap (λ s. at s (nested fs a pend)) (plain state.After)

-- a right parenthesis where an argument may begin
call-row : (n : Nested) (pend : Around) (b : Bool) → ((s : State) → decorating (top n) s ≡ s) → stepped (at state.Operand (pending pend (pushed frame.Call n))) (part (token kind.RParen b)) ≡ at state.After (pending pend n)
unfolding read_times read_once row moved changed dropped_from
call-row n pend b plain = ap (λ s. at s (pending pend n)) (plain state.After)

pub no_arguments_behind : (p : Parameters) (a b : Bool) → BehindRuns p (token kind.LParen a ∷ token kind.RParen b ∷ [])
no_arguments_behind p a b = record {
  runs = λ t n on fits.
      record {
        pend = n.pending;
        run = goes (no_slash t kind.LParen refl) (behind_paren t n a on (fits_settled p n fits)) (one (no_slash (at state.Operand (pushed frame.Call n)) kind.RParen refl) (call-row n n.pending b fits.plain));
        keeps = λ h. h;
      };
}

pub arguments_behind : (p : Parameters) (xs : List Token) (a b : Bool) → ListRuns (with_in p) xs → BehindRuns p (token kind.LParen a ∷ xs ++ token kind.RParen b ∷ [])
arguments_behind p xs a b list = record {
  runs = λ t n on fits.
      let fs : List Frame = framed frame.Call n.around n.pending ∷ n.frames in
      let inner = list.runs AtOperand fs n.around n.pending (held (with_in p) frame.Call n.around n.frames n.around refl fits.around) (record { kept = refl; behind = refl }) refl in
      let last = over fs n.around inner.mark inner.pend in
      record {
        pend = inner.pend;
        run = goes (no_slash t kind.LParen refl) (behind_paren t n a on (fits_settled p n fits)) (joins inner.run (one (no_slash (ended inner.state last) kind.RParen refl) (end_paren inner.state last b ∙ call_closed n.frames n.around n.around inner.mark inner.pend fits.plain)));
        keeps = inner.keeps;
      };
}

-- Lists

pub comma_moved : (fs : List Frame) (a : Around) (m : Over) (pend : Around) → Separates fs → over_candidate (top_of fs) ≡ false → comma (over fs a m pend) ≡ landed state.Operand (nested fs a pend)
unfolding dropped_from
comma_moved fs a m pend sep calm = ap comma_in (gone m) ∙ in-it
  where
    gone : (m : Over) → dropped kinds.Conditionals (over fs a m pend) ≡ nested fs a pend
    gone Bare = dropped_none kinds.Conditionals (nested fs a pend) sep.kept
    gone (Concise b) = dropped_none kinds.Conditionals (nested fs a pend) sep.kept

    in-it : comma_in (nested fs a pend) ≡ landed state.Operand (nested fs a pend)
    in-it = rw calm (rw sep.behind refl)

pub comma_row : (e : Ended) (fs : List Frame) (a : Around) (m : Over) (pend : Around) (b : Bool) → Separates fs → over_candidate (top_of fs) ≡ false → stepped (ended e (over fs a m pend)) (part (token kind.Comma b)) ≡ at state.Operand (nested fs a pend)
comma_row e fs a m pend b sep calm = end_comma e (over fs a m pend) b ∙ ap at_landed (comma_moved fs a m pend sep calm)

pub arguments_comma_behind : (p : Parameters) (xs : List Token) (a b c : Bool) → ListRuns (with_in p) xs → BehindRuns p (token kind.LParen a ∷ xs ++ token kind.Comma b ∷ token kind.RParen c ∷ [])
arguments_comma_behind p xs a b c list = record {
  runs = λ t n on fits.
      let fs : List Frame = framed frame.Call n.around n.pending ∷ n.frames in
      let inner = list.runs AtOperand fs n.around n.pending (held (with_in p) frame.Call n.around n.frames n.around refl fits.around) (record { kept = refl; behind = refl }) refl in
      let last = over fs n.around inner.mark inner.pend in
      record {
        pend = inner.pend;
        run = goes (no_slash t kind.LParen refl) (behind_paren t n a on (fits_settled p n fits)) (joins inner.run (goes (no_slash (ended inner.state last) kind.Comma refl) (comma_row inner.state fs n.around inner.mark inner.pend b (record { kept = refl; behind = refl }) refl) (one (no_slash (at state.Operand (pending inner.pend (pushed frame.Call n))) kind.RParen refl) (call-row n inner.pend c fits.plain))));
        keeps = inner.keeps;
      };
}

pub listed : (p : Parameters) (xs : List Token) → AssignmentRuns p xs → ListRuns p xs
listed p xs item = record { some = item.some; runs = λ s fs a before rests sep o. item.runs s fs a Bare before rests o }

pub comma_runs : (p : Parameters) (xs ys : List Token) (b : Bool) → ListRuns p xs → AssignmentRuns p ys → ListRuns p (xs ++ token kind.Comma b ∷ ys)
comma_runs p xs ys b list item = record {
  some = some_front xs (token kind.Comma b ∷ ys) list.some;
  runs = λ s fs a before rests sep o.
      let l = list.runs s fs a before rests sep (opens_front s xs (token kind.Comma b ∷ ys) list.some o) in
      let r = item.runs AtOperand fs a Bare l.pend rests refl in
      record {
        state = r.state;
        mark = r.mark;
        pend = r.pend;
        run = joins l.run (goes (no_slash (ended l.state (over fs a l.mark l.pend)) kind.Comma refl) (comma_row l.state fs a l.mark l.pend b sep rests.calm) r.run);
        label = λ _. r.label refl;
        keeps = λ h. r.keeps (l.keeps h);
      };
}

pub spread_row : (n : Nested) (b : Bool) → stepped (at state.Operand n) (part (token kind.DotDotDot b)) ≡ at state.Operand n
unfolding read_times read_once row moved changed
spread_row n b = refl

pub comma_spread_runs : (p : Parameters) (xs ys : List Token) (b c : Bool) → ListRuns p xs → AssignmentRuns p ys → ListRuns p (xs ++ token kind.Comma b ∷ token kind.DotDotDot c ∷ ys)
comma_spread_runs p xs ys b c list item = record {
  some = some_front xs (token kind.Comma b ∷ token kind.DotDotDot c ∷ ys) list.some;
  runs = λ s fs a before rests sep o.
      let l = list.runs s fs a before rests sep (opens_front s xs (token kind.Comma b ∷ token kind.DotDotDot c ∷ ys) list.some o) in
      let r = item.runs AtOperand fs a Bare l.pend rests refl in
      record {
        state = r.state;
        mark = r.mark;
        pend = r.pend;
        run = joins l.run (goes (no_slash (ended l.state (over fs a l.mark l.pend)) kind.Comma refl) (comma_row l.state fs a l.mark l.pend b sep rests.calm) (goes (no_slash (at state.Operand (nested fs a l.pend)) kind.DotDotDot refl) (spread_row (nested fs a l.pend) c) r.run));
        label = λ _. r.label refl;
        keeps = λ h. r.keeps (l.keeps h);
      };
}

spread-once : (n : Nested) (b : Bool) → read_once (at state.Operand n) (part_of_kind kind.DotDotDot) b ≡ turned_to (Done state.Operand) n
unfolding read_once row moved changed
spread-once n b = refl

pub spread_runs : (p : Parameters) (xs : List Token) (b : Bool) → AssignmentRuns p xs → ListRuns p (token kind.DotDotDot b ∷ xs)
spread_runs p xs b item = record {
  some = refl;
  runs = λ s fs a before rests sep o.
      let n = nested fs a before in
      let r = item.runs AtOperand fs a Bare before rests refl in
      record { state = r.state; mark = r.mark; pend = r.pend; run = goes (no_slash (begin s n) kind.DotDotDot refl) (from_start s n kind.DotDotDot b xs state.Operand n refl o (spread-once n b)) r.run; label = λ _. r.label refl; keeps = r.keeps };
}

-- Operators

pub prefixed : (p : Parameters) (xs : List Token) (k : TokenKind) (b : Bool) → starts k ≡ true → is_slash k ≡ false → ((n : Nested) → read_once (at state.Operand n) (part_of_kind k) b ≡ turned_to (Done state.Operand) n) → OperandRuns p xs → OperandRuns p (token k b ∷ xs)
prefixed p xs k b start plain row operand = record {
  some = refl;
  runs = λ s n fits o.
      let r = operand.runs AtOperand n fits refl in
      record { state = r.state; pend = r.pend; run = goes (no_slash (begin s n) k plain) (from_start s n k b xs state.Operand n start o (row n)) r.run; label = λ _. r.label refl; keeps = r.keeps };
}

pub new_row : (n : Nested) (b : Bool) → read_once (at state.Operand n) (part_of_kind (kind.Word (word.Keyword keyword.New))) b ≡ turned_to (Done state.Operand) n
unfolding read_once row moved changed
new_row n b = refl

pub new_runs : (p : Parameters) (xs : List Token) (b : Bool) → OperandRuns p xs → OperandRuns p (reserved keyword.New b ∷ xs)
new_runs p xs b operand = prefixed p xs (kind.Word (word.Keyword keyword.New)) b refl refl (λ n. new_row n b) operand

prefix-row : (k : TokenKind) (b : Bool) → is_prefix k ≡ true → (starts k ≡ true) × (is_slash k ≡ false) × ((n : Nested) → read_once (at state.Operand n) (part_of_kind k) b ≡ turned_to (Done state.Operand) n)
unfolding read_once row moved changed
prefix-row (kind.Word (word.Keyword keyword.Delete)) b h = (refl, refl, λ n. refl)
prefix-row (kind.Word (word.Keyword keyword.Void)) b h = (refl, refl, λ n. refl)
prefix-row (kind.Word (word.Keyword keyword.TypeOf)) b h = (refl, refl, λ n. refl)
prefix-row (kind.BinOp binary.Add) b h = (refl, refl, λ n. refl)
prefix-row (kind.BinOp binary.Sub) b h = (refl, refl, λ n. refl)
prefix-row kind.Tilde b h = (refl, refl, λ n. refl)
prefix-row kind.Bang b h = (refl, refl, λ n. refl)
prefix-row kind.PlusPlus b h = (refl, refl, λ n. refl)
prefix-row kind.MinusMinus b h = (refl, refl, λ n. refl)
prefix-row k b h = absurd cc

pub prefix_runs : (p : Parameters) (xs : List Token) (k : TokenKind) (b : Bool) → is_prefix k ≡ true → OperandRuns p xs → OperandRuns p (token k b ∷ xs)
prefix_runs p xs k b h operand = let r = prefix-row k b h in prefixed p xs k b r.0 r.1 r.2 operand

pub postfix_runs : (p : Parameters) (xs : List Token) (k : TokenKind) → is_postfix k ≡ true → OperandRuns p xs → OperandRuns p (xs ++ token k false ∷ [])
postfix_runs p xs k h operand = record {
  some = some_front xs (token k false ∷ []) operand.some;
  runs = λ s n fits o.
      let l = operand.runs s n fits (opens_front s xs (token k false ∷ []) operand.some o) in
      let r = update k h l.state (pending l.pend n) (fits_settled p (pending l.pend n) (fits_pend p n l.pend fits)) in
      record { state = Postfix; pend = l.pend; run = joins l.run (one r.0 r.1); label = λ _. refl; keeps = l.keeps };
}
  where
    update : (k : TokenKind) → is_postfix k ≡ true → (c : Complete) (n : Nested) → dropped kinds.Candidates n ≡ n → RightAt (completed c n) k × (stepped (completed c n) (part (token k false)) ≡ at state.AfterPostfix n)
    update kind.PlusPlus h c n settled = (no_slash (completed c n) kind.PlusPlus refl, behind_update c n settled)
    update kind.MinusMinus h c n settled = (no_slash (completed c n) kind.MinusMinus refl, behind_update c n settled)
    update k h c n settled = absurd cc

infixed : (p : Parameters) (xs ys : List Token) (x : Token) → is_regex x.kind ≡ false → ((c : Complete) (n : Nested) → Fits p n → stepped (completed c n) (part x) ≡ at state.Operand n) → OperandRuns p xs → OperandRuns p ys → OperandRuns p (xs ++ x ∷ ys)
infixed p xs ys x plain row left right = record {
  some = some_front xs (x ∷ ys) left.some;
  runs = λ s n fits o.
      let l = left.runs s n fits (opens_front s xs (x ∷ ys) left.some o) in
      let m = pending l.pend n in
      let fits' = fits_pend p n l.pend fits in
      let r = right.runs AtOperand m fits' refl in
      record {
        state = r.state;
        pend = r.pend;
        run = joins l.run (goes (right_division (completed l.state m) x.kind (completed_divides l.state m) plain) (row l.state m fits') r.run);
        label = λ _. r.label refl;
        keeps = λ h. r.keeps (l.keeps h);
      };
}

pub binary_runs : (p : Parameters) (xs ys : List Token) (op : BinOpToken) (b : Bool) → OperandRuns p xs → OperandRuns p ys → OperandRuns p (xs ++ token (kind.BinOp op) b ∷ ys)
binary_runs p xs ys op b left right = infixed p xs ys (token (kind.BinOp op) b) refl (λ c n fits. behind_binary c n op b (fits_settled p n fits) fits.lone) left right

pub in_runs : (p : Parameters) (xs ys : List Token) (b : Bool) → p.takes_in ≡ true → OperandRuns p xs → OperandRuns p ys → OperandRuns p (xs ++ reserved keyword.In b ∷ ys)
in_runs p xs ys b takes left right = infixed p xs ys (reserved keyword.In b) refl (λ c n fits. behind_in c n b (fits_settled p n fits) (fits.declared takes)) left right

pub instanceof_runs : (p : Parameters) (xs ys : List Token) (b : Bool) → OperandRuns p xs → OperandRuns p ys → OperandRuns p (xs ++ reserved keyword.InstanceOf b ∷ ys)
instanceof_runs p xs ys b left right = infixed p xs ys (reserved keyword.InstanceOf b) refl (λ c n fits. behind_instanceof c n b (fits_settled p n fits)) left right

-- Conditionals and assignments

pub operand_assigned : (p : Parameters) (xs : List Token) → OperandRuns p xs → AssignmentRuns p xs
operand_assigned p xs operand = record {
  some = operand.some;
  runs = λ s fs a m before rests o.
      let r = operand.runs s (over fs a m before) (rests_fits p fs a m before rests) o in
      record { state = Whole r.state; mark = m; pend = r.pend; run = r.run; label = r.label; keeps = r.keeps };
}

pub assignment_runs : (p : Parameters) (xs ys : List Token) (op : AssignOp) (b : Bool) → OperandRuns p xs → AssignmentRuns p ys → AssignmentRuns p (xs ++ token (kind.AssignOp op) b ∷ ys)
assignment_runs p xs ys op b left right = record {
  some = some_front xs (token (kind.AssignOp op) b ∷ ys) left.some;
  runs = λ s fs a m before rests o.
      let l = left.runs s (over fs a m before) (rests_fits p fs a m before rests) (opens_front s xs (token (kind.AssignOp op) b ∷ ys) left.some o) in
      let n = over fs a m l.pend in
      let fits = rests_fits p fs a m l.pend rests in
      let r = right.runs AtOperand fs a m l.pend rests refl in
      record {
        state = r.state;
        mark = r.mark;
        pend = r.pend;
        run = joins l.run (goes (right_division (completed l.state n) (kind.AssignOp op) (completed_divides l.state n) refl) (behind_assign l.state n op b (fits_settled p n fits) fits.lone) r.run);
        label = λ _. r.label refl;
        keeps = λ h. r.keeps (l.keeps h);
      };
}

conditional-colon : (fs : List Frame) (a kept : Around) (m : Over) (pend : Around) → let n = over (record { kind = frame.Conditional; kept = kept } ∷ fs) a m pend in
    (dropped kinds.Candidates n ≡ n) × (colon grouping.None n ≡ landed state.Operand (nested fs a pend)) × (colon grouping.Plain n ≡ landed state.Operand (nested fs a pend))
unfolding dropped_from
conditional-colon fs a kept Bare pend = (refl, refl, refl)
conditional-colon fs a kept (Concise b) pend = (refl, refl, refl)

pub conditional_runs : (p : Parameters) (xs ys zs : List Token) (b c : Bool) → OperandRuns p xs → AssignmentRuns (with_in p) ys → AssignmentRuns p zs → AssignmentRuns p (xs ++ (token kind.QuestionMark b ∷ ys ++ token kind.Colon c ∷ zs))
conditional_runs p xs ys zs b c test first second = record {
  some = some_front xs (token kind.QuestionMark b ∷ ys ++ token kind.Colon c ∷ zs) test.some;
  runs = λ s fs a m before rests o.
      let t = test.runs s (over fs a m before) (rests_fits p fs a m before rests) (opens_front s xs (token kind.QuestionMark b ∷ ys ++ token kind.Colon c ∷ zs) test.some o) in
      let n = over fs a m t.pend in
      let inner : List Frame = framed frame.Conditional n.around n.pending ∷ n.frames in
      let y = first.runs AtQuestion inner (around_in a m) Bare t.pend (held (with_in p) frame.Conditional n.around n.frames n.around refl rests.around) refl in
      let last = over inner (around_in a m) y.mark y.pend in
      let closed = conditional-colon n.frames n.around n.around y.mark y.pend in
      let z = second.runs AtOperand fs a m y.pend rests refl in
      record {
        state = z.state;
        mark = z.mark;
        pend = z.pend;
        run = joins t.run (goes (no_slash (completed t.state n) kind.QuestionMark refl) (behind_question (completed t.state n) n b (complete_reads_on t.state n) (fits_settled p n (rests_fits p fs a m t.pend rests))) (joins y.run (goes (no_slash (ended y.state last) kind.Colon refl) (end_colon y.state last (over fs a m y.pend) state.Operand c (y.label refl) closed.0 closed.1 closed.2) z.run)));
        label = λ _. z.label refl;
        keeps = λ h. z.keeps (y.keeps (t.keeps h));
      };
}
