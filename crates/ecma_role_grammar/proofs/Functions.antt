-- Functions of the grammar run: parameters, bodies, function expressions and arrow functions, one lemma for each form of
-- production
use Rattle.std.proofs.Common.{append_assoc, subst, ◌≡◌, ◌∙◌, ap, Bool, true, false, List, [], ◌∷◌, ◌++◌, Some, refl}
use Rattle.ecma_word.specs.declared.keyword.Keyword.TheVariants as keyword
use Rattle.ecma_word.specs.declared.word.WordKind.{WordKind}
use Rattle.ecma_word.specs.declared.word.WordKind.TheVariants as word
use Rattle.ecma_word.specs.declared.word.IdentKind.TheVariants as ident
use Rattle.ecma_word.specs.declared.known_ident.KnownIdent.TheVariants as known
use Rattle.ecma_role_table.specs.declared.part.PartKind.{PartKind}
use Rattle.ecma_role_table.specs.declared.part.PartKind.TheVariants.{Name, Reserved, Sign}
use Rattle.ecma_role_table.specs.declared.part.Sign.TheVariants as sign
use Rattle.ecma_role_table.specs.declared.part.Name as names
use Rattle.ecma_role_table.specs.declared.part.Name.TheVariants as name
use Rattle.ecma_word.specs.declared.operator.BinOpToken.TheVariants as binary
use Rattle.ecma_token_kind.specs.declared.kind.TokenKind.{TokenKind}
use Rattle.ecma_token_kind.specs.declared.kind.TokenKind.TheVariants as kind
use Rattle.ecma_role_table.specs.declared.frame.Around.{Around}
use Rattle.ecma_role_table.specs.declared.frame.Frame.{Frame}
use Rattle.ecma_role_table.specs.declared.frame.FrameKind.TheVariants as frame
use Rattle.ecma_role_table.specs.declared.state.State.{State}
use Rattle.ecma_role_table.specs.declared.state.State.TheVariants as state
use Rattle.ecma_role_table.specs.declared.moves.Turn.TheVariants.{Done}
use Rattle.ecma_role_table.specs.Parts.{part_of_kind, part_of_word}
use Rattle.ecma_role_table.specs.Statements as statements
use Rattle.ecma_role_table.specs.Table.{row}
use Rattle.ecma_role_moves.specs.Moves.{arrow, arrow_over, fresh_of, changed, decorating, moved, paren, turned_to}
use Rattle.ecma_role_moves.specs.Nest.{function, within, Nested, dropped_from, framed, nested, no_function, pushed}
use Rattle.ecma_role_tracks.specs.Track.{read_once, read_times, reading, stepped}
use Rattle.ecma_role_grammar.specs.Tokens.{Token, part, token}
use Rattle.ecma_role_grammar.specs.Grammar.{Parameters, async, begins_brace, in_arrow, in_function, is_identifier, is_identifier_kind, is_optional_name, reserved, star, with_in}
use Rattle.ecma_role_grammar.specs.Laws.{around_of}
use Rattle.ecma_role_grammar.proofs.Runs.{Run, goes, is_slash, joins, no_slash, one, stays}
use Rattle.ecma_role_grammar.proofs.Places.{AssignmentRuns, AsyncAsOne, AsyncHead, AsyncHeadRuns, AsyncList, AsyncNone, AsyncOne, AtArrowBody, AtStatement, Bare, BodyRuns, Braces, Concise, Declared, Expressed, Finish, FunctionRuns, Grouped, Head, HeadOperand, HeadParameters, HeadRuns, Heading, InsideRuns, ItemRuns, Methodic, Open, Opened, OperandRuns, Over, ParameterRuns, Plain, Rests, Shut, Start, async_state, at, at_landed, begin, body_frame, body_state, ended, finished, head_state, heading_frame, is_statement, opens, opens_front, over, rests_fits, sign_part, some_front, top_of}
use Rattle.ecma_role_grammar.proofs.Starts.{AsyncFirst, AsyncOperand, AsyncPlace, async_from, async_operand_from, async_place_state, identifier_name, name_of, from_start}
use Rattle.ecma_role_grammar.proofs.Behind.{as_after, end_paren, is_word_part, word_word}
use Rattle.ecma_role_grammar.proofs.Expressions.{comma_row, group_closed, held, paren_row}

-- Parameters

pub no_parameters_run : (p : Parameters) → ParameterRuns p []
no_parameters_run p = record { runs = λ fs a before rests sep. record { finish = Open; pend = before; run = stays (at state.Operand (nested fs a before)); keeps = λ h. h } }

pub parameters_run : (p : Parameters) (xs : List Token) → ItemRuns p xs → ParameterRuns p xs
parameters_run p xs items = record {
  runs = λ fs a before rests sep.
      let r = items.runs fs a before rests sep in
      record { finish = Shut r.state r.mark; pend = r.pend; run = r.run; keeps = r.keeps };
}

pub parameters_comma_run : (p : Parameters) (xs : List Token) (b : Bool) → ItemRuns p xs → ParameterRuns p (xs ++ token kind.Comma b ∷ [])
parameters_comma_run p xs b items = record {
  runs = λ fs a before rests sep.
      let r = items.runs fs a before rests sep in
      record { finish = Open; pend = r.pend; run = joins r.run (one (no_slash (ended r.state (over fs a r.mark r.pend)) kind.Comma refl) (comma_row r.state fs a r.mark r.pend b sep rests.calm)); keeps = r.keeps };
}

-- Parameters and body

open-parameters : (fs : List Frame) (a kept pend : Around) (b : Bool) → stepped (at state.Operand (nested (record { kind = frame.Parameters; kept = kept } ∷ fs) a pend)) (part (token kind.RParen b)) ≡ at state.HeadEnd (nested fs a pend)
unfolding read_times read_once row moved changed dropped_from
open-parameters fs a kept pend b = refl

shut-parameters : (fs : List Frame) (a kept : Around) (m : Over) (pend : Around) → at_landed (paren (over (record { kind = frame.Parameters; kept = kept } ∷ fs) a m pend)) ≡ at state.HeadEnd (nested fs a pend)
unfolding dropped_from
shut-parameters fs a kept Bare pend = refl
shut-parameters fs a kept (Concise b) pend = refl

parameters-closed : (f : Finish) (fs : List Frame) (a kept pend : Around) (b : Bool) → stepped (finished f (record { kind = frame.Parameters; kept = kept } ∷ fs) a pend) (part (token kind.RParen b)) ≡ at state.HeadEnd (nested fs a pend)
parameters-closed Open fs a kept pend b = open-parameters fs a kept pend b
parameters-closed (Shut e m) fs a kept pend b = end_paren e (over (record { kind = frame.Parameters; kept = kept } ∷ fs) a m pend) b ∙ shut-parameters fs a kept m pend

body-opened : (h : Heading) (fs : List Frame) (a kept pend : Around) (b : Bool) → stepped (at state.HeadEnd (nested (record { kind = heading_frame h; kept = kept } ∷ fs) a pend)) (part (token kind.LBrace b)) ≡ at state.Statement (nested (record { kind = body_frame h; kept = kept } ∷ fs) a pend)
unfolding read_times read_once row moved changed
body-opened Declared fs a kept pend b = refl
body-opened Expressed fs a kept pend b = refl
body-opened Methodic fs a kept pend b = refl

body-closed : (h : Heading) (fs : List Frame) (a kept pend : Around) (b : Bool) → stepped (at state.Statement (nested (record { kind = body_frame h; kept = kept } ∷ fs) a pend)) (part (token kind.RBrace b)) ≡ at (body_state h fs) (nested fs kept no_function)
unfolding read_times read_once row moved changed statements.statement dropped_from
body-closed Declared fs a kept pend b = refl
body-closed Expressed fs a kept pend b = refl
body-closed Methodic fs a kept pend b = refl

body-begins : (h : Heading) (kept : Around) (fs : List Frame) → fresh_of (top_of (record { kind = body_frame h; kept = kept } ∷ fs)) ≡ state.Statement
body-begins Declared kept fs = refl
body-begins Expressed kept fs = refl
body-begins Methodic kept fs = refl

pub parameters_and_body_run : (p : Parameters) (xs ys : List Token) (a b c d : Bool) → ParameterRuns (with_in p) xs → InsideRuns p ys → FunctionRuns p (token kind.LParen a ∷ (xs ++ (token kind.RParen b ∷ (token kind.LBrace c ∷ ys ++ token kind.RBrace d ∷ []))))
parameters_and_body_run p xs ys a b c d params body = record {
  runs = λ t h kept around fs pend opened.
      let inside = around_of p in
      let head : List Frame = record { kind = heading_frame h; kept = around } ∷ fs in
      let r = params.runs (record { kind = frame.Parameters; kept = kept } ∷ head) inside pend (held (with_in p) frame.Parameters kept head inside refl refl) (record { kept = refl; behind = refl }) in
      let inner : List Frame = record { kind = body_frame h; kept = around } ∷ fs in
      let s = body.runs inner r.pend (body-begins h around fs) in
      goes (no_slash t kind.LParen refl) (opened a) (joins r.run (goes (no_slash (finished r.finish (record { kind = frame.Parameters; kept = kept } ∷ head) inside r.pend) kind.RParen refl) (parameters-closed r.finish head inside kept r.pend b) (goes (no_slash (at state.HeadEnd (nested head inside r.pend)) kind.LBrace refl) (body-opened h fs inside around r.pend c) (joins s.run (one (no_slash s.after kind.RBrace refl) (s.closes d ∙ body-closed h fs inside around s.pend d))))));
}

-- Heads of functions

star-row : (n : Nested) (b : Bool) → stepped (at state.Head n) (part (token (kind.BinOp binary.Mul) b)) ≡ at state.Head (within (record { is_async = n.around.is_async; is_generator = true }) n)
unfolding read_times read_once row moved changed
star-row n b = refl

star-run : (g i b : Bool) (fs : List Frame) (pend : Around) → Run (at state.Head (nested fs (function i) pend)) (star g b) (at state.Head (nested fs (around_of (in_function g i)) pend))
star-run false i b fs pend = stays (at state.Head (nested fs (function i) pend))
star-run true i b fs pend = one (no_slash (at state.Head (nested fs (function i) pend)) (kind.BinOp binary.Mul) refl) (star-row (nested fs (function i) pend) b)

head-word : (n : Nested) (k : PartKind) (b : Bool) → is_word_part k ≡ true → (read_times 8 b (reading (at state.Head n) (Some k))).track ≡ at state.Head n
unfolding read_times read_once row moved changed
head-word n (Name m) b h = refl
head-word n (Reserved r) b h = refl
head-word n (Sign s) b h = absurd cc

head-name : (p : Parameters) (n : Nested) (k : TokenKind) (b : Bool) → is_identifier_kind p k ≡ true → (is_slash k ≡ false) × (stepped (at state.Head n) (part (token k b)) ≡ at state.Head n)
head-name p n (kind.Word w) b h = (refl, head-word n (part_of_word w) b (word_word w))
head-name p n k b h = absurd cc

name-run : (p : Parameters) (n : Nested) (xs : List Token) → is_optional_name p xs ≡ true → Run (at state.Head n) xs (at state.Head n)
name-run p n [] h = stays (at state.Head n)
name-run p n (x ∷ []) h = let r = head-name p n x.kind x.had_line_break h in one (no_slash (at state.Head n) x.kind r.0) r.1
name-run p n (x ∷ y ∷ xs) h = absurd cc

head-opened : (h : Heading) (fs : List Frame) (a kept pend : Around) → Opened (at state.Head (nested (record { kind = heading_frame h; kept = kept } ∷ fs) a pend)) h a kept fs a pend
unfolding read_times read_once row moved changed
head-opened h fs a kept pend b = refl

-- behind `function`: a star, a name, parameters and a body
pub function_tail_run : (p : Parameters) (h : Heading) (g i b : Bool) (name xs : List Token) (fs : List Frame) (kept pend : Around) → is_optional_name p name ≡ true → FunctionRuns (in_function g i) xs
    → Run (at state.Head (nested (record { kind = heading_frame h; kept = kept } ∷ fs) (function i) pend)) (star g b ++ (name ++ xs)) (at (body_state h fs) (nested fs kept no_function))
function_tail_run p h g i b name xs fs kept pend named rest =
    let q = in_function g i in
    let head : List Frame = record { kind = heading_frame h; kept = kept } ∷ fs in
    let n = nested head (around_of q) pend in
    joins (star-run g i b head pend) (joins (name-run p n name named) (rest.runs (at state.Head n) h (around_of q) kept fs pend (head-opened h fs (around_of q) kept pend)))

function-row : (n : Nested) (b : Bool) → read_once (at state.Operand n) (part_of_kind (kind.Word (word.Keyword keyword.Function))) b ≡ turned_to (Done state.Head) (within (function false) (pushed frame.FunctionExpressionHead n))
unfolding read_once row moved changed
function-row n b = refl

pub function_expression_runs : (p : Parameters) (name xs : List Token) (g a b : Bool) → is_optional_name (in_function g false) name ≡ true → FunctionRuns (in_function g false) xs → OperandRuns p (reserved keyword.Function a ∷ (star g b ++ (name ++ xs)))
function_expression_runs p name xs g a b named rest = record {
  some = refl;
  runs = λ s n fits o.
      record {
        state = Plain;
        pend = no_function;
        run = goes (no_slash (begin s n) (kind.Word (word.Keyword keyword.Function)) refl) (from_start s n (kind.Word (word.Keyword keyword.Function)) a (star g b ++ (name ++ xs)) state.Head (within (function false) (pushed frame.FunctionExpressionHead n)) refl o (function-row n a)) (function_tail_run (in_function g false) Expressed g false b name xs n.frames n.around n.pending named rest);
        label = λ _. refl;
        keeps = λ h. refl;
      };
}

async-function-row : (n : Nested) → stepped (at state.Async n) (part (token (kind.Word (word.Keyword keyword.Function)) false)) ≡ at state.Head (within (function true) (pushed frame.FunctionExpressionHead n))
unfolding read_times read_once row moved changed
async-function-row n = refl

-- an expression that is a statement does not begin with `async function`
no-function : (s : Start) (b : Bool) (xs : List Token) → opens s (async b ∷ reserved keyword.Function false ∷ xs) ≡ true → is_statement s ≡ true → ⊥
no-function AtStatement b xs o is = cc
no-function s b xs o is = cc

pub async_function_expression_runs : (p : Parameters) (name xs : List Token) (g a b : Bool) → is_optional_name (in_function g true) name ≡ true → FunctionRuns (in_function g true) xs → OperandRuns p (async a ∷ reserved keyword.Function false ∷ (star g b ++ (name ++ xs)))
async_function_expression_runs p name xs g a b named rest = record {
  some = refl;
  runs = λ s n fits o.
      record {
        state = Plain;
        pend = no_function;
        run = goes (no_slash (begin s n) (kind.Word (word.Ident (ident.Known known.Async))) refl) (async_operand_from s n a (reserved keyword.Function false ∷ (star g b ++ (name ++ xs))) o (no-function s a (star g b ++ (name ++ xs)) o)) (goes (no_slash (at state.Async n) (kind.Word (word.Keyword keyword.Function)) refl) (async-function-row n) (function_tail_run (in_function g true) Expressed g true b name xs n.frames n.around n.pending named rest));
        label = λ _. refl;
        keeps = λ h. refl;
      };
}

-- Parameters of arrow functions

pub operand_head : (p : Parameters) (xs : List Token) → OperandRuns p xs → HeadRuns p xs
operand_head p xs operand = record {
  some = operand.some;
  runs = λ s n fits o. let r = operand.runs s n fits o in record { head = HeadOperand r.state; pend = r.pend; run = r.run; keeps = r.keeps };
}

none-closed : (fs : List Frame) (a kept pend : Around) (b : Bool) → stepped (at state.Operand (nested (record { kind = frame.Paren; kept = kept } ∷ fs) a pend)) (part (token kind.RParen b)) ≡ at state.GroupParameters (nested fs a pend)
unfolding read_times read_once row moved changed dropped_from
none-closed fs a kept pend b = refl

group-head : (f : Finish) → Head
group-head Open = HeadParameters
group-head (Shut e m) = HeadOperand Grouped

group-end : (f : Finish) (fs : List Frame) (a kept pend : Around) (b : Bool) → ((s : State) → decorating (top_of fs) s ≡ s) → stepped (finished f (record { kind = frame.Paren; kept = kept } ∷ fs) a pend) (part (token kind.RParen b)) ≡ at (head_state (group-head f)) (nested fs a pend)
unfolding group-head
group-end Open fs a kept pend b plain = none-closed fs a kept pend b
group-end (Shut e m) fs a kept pend b plain = end_paren e (over (record { kind = frame.Paren; kept = kept } ∷ fs) a m pend) b ∙ group_closed fs a kept m pend plain

pub group_head : (p : Parameters) (xs : List Token) (a b : Bool) → ParameterRuns (with_in p) xs → HeadRuns p (token kind.LParen a ∷ xs ++ token kind.RParen b ∷ [])
group_head p xs a b params = record {
  some = refl;
  runs = λ s n fits o.
      let fs : List Frame = framed frame.Paren n.around n.pending ∷ n.frames in
      let r = params.runs fs n.around n.pending (held (with_in p) frame.Paren n.around n.frames n.around refl fits.around) (record { kept = refl; behind = refl }) in
      record {
        head = group-head r.finish;
        pend = r.pend;
        run = goes (no_slash (begin s n) kind.LParen refl) (from_start s n kind.LParen a (xs ++ token kind.RParen b ∷ []) state.Operand (pushed frame.Paren n) refl o (paren_row n a)) (joins r.run (one (no_slash (finished r.finish fs n.around r.pend) kind.RParen refl) (group-end r.finish n.frames n.around n.around r.pend b fits.plain)));
        keeps = r.keeps;
      };
}

-- and of async ones

abbrev one-place : names.Name → AsyncHead
one-place name.As = AsyncAsOne
one-place name.Satisfies = AsyncAsOne
one-place m = AsyncOne

abbrev is_name : PartKind → Bool
is_name (Name m) = true
is_name k = false

one-row : (q : AsyncPlace) (n : Nested) (m : names.Name) → (read_times 8 false (reading (at (async_place_state q) n) (Some (Name m)))).track ≡ at (async_state (one-place m)) n
unfolding read_times read_once row moved changed
one-row AsyncOperand n name.As = refl
one-row AsyncFirst n name.As = refl
one-row AsyncOperand n m = refl
one-row AsyncFirst n m = refl

pub async_one_head : (p : Parameters) (w : WordKind) (a : Bool) → is_identifier p w ≡ true → AsyncHeadRuns p (async a ∷ token (kind.Word w) false ∷ [])
async_one_head p w a h = record {
  some = refl;
  runs = λ s n fits o.
      let i = identifier_name p w h in
      let q = async_from s n a (token (kind.Word w) false ∷ []) o in
      record {
        head = one-place (name_of (part_of_word w));
        pend = n.pending;
        run = goes (no_slash (begin s n) (kind.Word (word.Ident (ident.Known known.Async))) refl) q.is (one (no_slash (at (async_place_state q.place) n) (kind.Word w) refl) (rw i.0 (one-row q.place n (name_of (part_of_word w)))));
        keeps = λ k. k;
      };
}

async-paren-row : (q : AsyncPlace) (n : Nested) (b : Bool) → stepped (at (async_place_state q) n) (part (token kind.LParen b)) ≡ at state.Operand (pushed frame.AsyncParen n)
unfolding read_times read_once row moved changed
async-paren-row AsyncOperand n b = refl
async-paren-row AsyncFirst n b = refl

async-none-closed : (fs : List Frame) (a kept pend : Around) (b : Bool) → stepped (at state.Operand (nested (record { kind = frame.AsyncParen; kept = kept } ∷ fs) a pend)) (part (token kind.RParen b)) ≡ at state.AsyncGroupParameters (nested fs a pend)
unfolding read_times read_once row moved changed dropped_from
async-none-closed fs a kept pend b = refl

async-closed : (fs : List Frame) (a kept : Around) (m : Over) (pend : Around) → at_landed (paren (over (record { kind = frame.AsyncParen; kept = kept } ∷ fs) a m pend)) ≡ at state.AsyncGroup (nested fs a pend)
unfolding dropped_from
async-closed fs a kept Bare pend = refl
async-closed fs a kept (Concise b) pend = refl

async-head : (f : Finish) → AsyncHead
async-head Open = AsyncNone
async-head (Shut e m) = AsyncList

async-end : (f : Finish) (fs : List Frame) (a kept pend : Around) (b : Bool) → stepped (finished f (record { kind = frame.AsyncParen; kept = kept } ∷ fs) a pend) (part (token kind.RParen b)) ≡ at (async_state (async-head f)) (nested fs a pend)
unfolding async-head
async-end Open fs a kept pend b = async-none-closed fs a kept pend b
async-end (Shut e m) fs a kept pend b = end_paren e (over (record { kind = frame.AsyncParen; kept = kept } ∷ fs) a m pend) b ∙ async-closed fs a kept m pend

pub async_group_head : (p : Parameters) (xs : List Token) (a b : Bool) → ParameterRuns (with_in p) xs → AsyncHeadRuns p (async a ∷ (token kind.LParen false ∷ xs ++ token kind.RParen b ∷ []))
async_group_head p xs a b params = record {
  some = refl;
  runs = λ s n fits o.
      let fs : List Frame = framed frame.AsyncParen n.around n.pending ∷ n.frames in
      let r = params.runs fs n.around n.pending (held (with_in p) frame.AsyncParen n.around n.frames n.around refl fits.around) (record { kept = refl; behind = refl }) in
      let q = async_from s n a (token kind.LParen false ∷ xs ++ token kind.RParen b ∷ []) o in
      record {
        head = async-head r.finish;
        pend = r.pend;
        run = goes (no_slash (begin s n) (kind.Word (word.Ident (ident.Known known.Async))) refl) q.is (goes (no_slash (at (async_place_state q.place) n) kind.LParen refl) (async-paren-row q.place n false) (joins r.run (one (no_slash (finished r.finish fs n.around r.pend) kind.RParen refl) (async-end r.finish n.frames n.around n.around r.pend b))));
        keeps = r.keeps;
      };
}

-- lists that end in a comma
pub group_comma_head : (p : Parameters) (xs : List Token) (a b c : Bool) → ItemRuns (with_in p) xs → HeadRuns p (token kind.LParen a ∷ xs ++ token kind.Comma b ∷ token kind.RParen c ∷ [])
group_comma_head p xs a b c items = subst (λ ys. HeadRuns p (token kind.LParen a ∷ ys)) (append_assoc xs (token kind.Comma b ∷ []) (token kind.RParen c ∷ [])) (group_head p (xs ++ token kind.Comma b ∷ []) a c (parameters_comma_run (with_in p) xs b items))

pub async_comma_head : (p : Parameters) (xs : List Token) (a b c : Bool) → ItemRuns (with_in p) xs → AsyncHeadRuns p (async a ∷ (token kind.LParen false ∷ xs ++ token kind.Comma b ∷ token kind.RParen c ∷ []))
async_comma_head p xs a b c items = subst (λ ys. AsyncHeadRuns p (async a ∷ token kind.LParen false ∷ ys)) (append_assoc xs (token kind.Comma b ∷ []) (token kind.RParen c ∷ [])) (async_group_head p (xs ++ token kind.Comma b ∷ []) a c (parameters_comma_run (with_in p) xs b items))

-- Bodies of arrow functions

pub expression_body : (p : Parameters) (xs : List Token) → begins_brace xs ≡ false → AssignmentRuns p xs → BodyRuns p xs
expression_body p xs h item = record {
  runs = λ fs a before rests.
      let r = item.runs AtArrowBody fs a (Concise (around_of p)) before rests (rw h refl) in
      record { place = r.state; mark = r.mark; pend = r.pend; run = r.run; label = r.label refl; keeps = r.keeps };
}

arrow-opened : (fs : List Frame) (a inside pend : Around) (b : Bool) → stepped (at state.ArrowBody (over fs a (Concise inside) pend)) (part (token kind.LBrace b)) ≡ at state.Statement (nested (record { kind = frame.ArrowBody; kept = a } ∷ fs) inside pend)
unfolding read_times read_once row moved changed
arrow-opened fs a inside pend b = refl

arrow-closed : (fs : List Frame) (a inside pend : Around) (b : Bool) → stepped (at state.Statement (nested (record { kind = frame.ArrowBody; kept = a } ∷ fs) inside pend)) (part (token kind.RBrace b)) ≡ at state.ArrowEnd (nested fs a no_function)
unfolding read_times read_once row moved changed statements.statement dropped_from
arrow-closed fs a inside pend b = refl

pub braces_body : (p : Parameters) (xs : List Token) (a b : Bool) → InsideRuns p xs → BodyRuns p (token kind.LBrace a ∷ xs ++ token kind.RBrace b ∷ [])
braces_body p xs a b body = record {
  runs = λ fs around before rests.
      let inside = around_of p in
      let inner : List Frame = record { kind = frame.ArrowBody; kept = around } ∷ fs in
      let r = body.runs inner before refl in
      record {
        place = Braces;
        mark = Bare;
        pend = no_function;
        run = goes (no_slash (at state.ArrowBody (over fs around (Concise inside) before)) kind.LBrace refl) (arrow-opened fs around inside before a) (joins r.run (one (no_slash r.after kind.RBrace refl) (r.closes b ∙ arrow-closed fs around inside r.pend b)));
        label = refl;
        keeps = λ h. refl;
      };
}

-- Arrow functions

arrow-set : (is_async : Bool) (fs : List Frame) (a : Around) (m : Over) (pend : Around) → ((n : Nested) → arrow_over (top_of fs) n ≡ pushed frame.Arrow n) → arrow is_async (over fs a m pend) ≡ over fs a (Concise (function is_async)) pend
arrow-set is_async fs a Bare pend none = ap (within (function is_async)) (none (nested fs a pend))
arrow-set is_async fs a (Concise b) pend none = refl

after-arrow : (n : Nested) → (stepped (at state.After n) (sign_part sign.Arrow false) ≡ at state.ArrowBody (arrow false n)) × (stepped (at state.GroupParameters n) (sign_part sign.Arrow false) ≡ at state.ArrowBody (arrow false n))
unfolding read_times read_once row moved changed
after-arrow n = (refl, refl)

arrow-row : (h : Head) (n : Nested) → stepped (at (head_state h) n) (part (token kind.Arrow false)) ≡ at state.ArrowBody (arrow false n)
arrow-row (HeadOperand c) n = as_after c n sign.Arrow false refl ∙ (after-arrow n).0
arrow-row HeadParameters n = (after-arrow n).1

async-arrow-row : (h : AsyncHead) (n : Nested) → stepped (at (async_state h) n) (part (token kind.Arrow false)) ≡ at state.ArrowBody (arrow true n)
unfolding read_times read_once row moved changed
async-arrow-row AsyncOne n = refl
async-arrow-row AsyncAsOne n = refl
async-arrow-row AsyncList n = refl
async-arrow-row AsyncNone n = refl

within-arrow : (is_async : Bool) (p : Parameters) (fs : List Frame) (a : Around) (m : Over) → Rests p fs a m → Rests (in_arrow is_async p) fs a (Concise (around_of (in_arrow is_async p)))
within-arrow is_async p fs a m r = record { calm = r.calm; lone = r.lone; plain = r.plain; no_arrow = r.no_arrow; declared = r.declared; around = refl }

pub arrow_runs : (p : Parameters) (xs ys : List Token) → HeadRuns p xs → BodyRuns (in_arrow false p) ys → AssignmentRuns p (xs ++ token kind.Arrow false ∷ ys)
arrow_runs p xs ys head body = record {
  some = some_front xs (token kind.Arrow false ∷ ys) head.some;
  runs = λ s fs a m before rests o.
      let h = head.runs s (over fs a m before) (rests_fits p fs a m before rests) (opens_front s xs (token kind.Arrow false ∷ ys) head.some o) in
      let n = over fs a m h.pend in
      let r = body.runs fs a h.pend (within-arrow false p fs a m rests) in
      record {
        state = r.place;
        mark = r.mark;
        pend = r.pend;
        run = joins h.run (goes (no_slash (at (head_state h.head) n) kind.Arrow refl) (arrow-row h.head n ∙ ap (at state.ArrowBody) (arrow-set false fs a m h.pend rests.no_arrow)) r.run);
        label = λ _. r.label;
        keeps = λ k. r.keeps (h.keeps k);
      };
}

pub async_arrow_runs : (p : Parameters) (xs ys : List Token) → AsyncHeadRuns p xs → BodyRuns (in_arrow true p) ys → AssignmentRuns p (xs ++ token kind.Arrow false ∷ ys)
async_arrow_runs p xs ys head body = record {
  some = some_front xs (token kind.Arrow false ∷ ys) head.some;
  runs = λ s fs a m before rests o.
      let h = head.runs s (over fs a m before) (rests_fits p fs a m before rests) (opens_front s xs (token kind.Arrow false ∷ ys) head.some o) in
      let n = over fs a m h.pend in
      let r = body.runs fs a h.pend (within-arrow true p fs a m rests) in
      record {
        state = r.place;
        mark = r.mark;
        pend = r.pend;
        run = joins h.run (goes (no_slash (at (async_state h.head) n) kind.Arrow refl) (async-arrow-row h.head n ∙ ap (at state.ArrowBody) (arrow-set true fs a m h.pend rests.no_arrow)) r.run);
        label = λ _. r.label;
        keeps = λ k. r.keeps (h.keeps k);
      };
}
