-- Imports and exports of the grammar run: one lemma for each form of production
use Rattle.std.proofs.Common.{Some, not, ◌&&◌, ◌||◌, ◌≡◌, ◌∙◌, ap, Bool, true, false, List, [], ◌∷◌, ◌++◌, refl, arith}
use Rattle.ecma_word.specs.declared.keyword.Keyword.TheVariants as keyword
use Rattle.ecma_word.specs.declared.operator.BinOpToken.TheVariants as binary
use Rattle.ecma_word.specs.declared.operator.AssignOp.TheVariants as assigning
use Rattle.ecma_word.specs.declared.word.WordKind.{WordKind}
use Rattle.ecma_word.specs.declared.word.WordKind.TheVariants as word
use Rattle.ecma_word.specs.declared.word.IdentKind.TheVariants as ident
use Rattle.ecma_word.specs.declared.known_ident.KnownIdent.TheVariants as known
use Rattle.ecma_role_table.specs.declared.part.PartKind.TheVariants.{Name, Reserved, Sign}
use Rattle.ecma_role_table.specs.declared.part.PartKind.{PartKind}
use Rattle.ecma_token_kind.specs.declared.kind.TokenKind.{TokenKind}
use Rattle.ecma_token_kind.specs.declared.kind.TokenKind.TheVariants as kind
use Rattle.ecma_role_table.specs.declared.frame.Around.{Around}
use Rattle.ecma_role_table.specs.declared.frame.FrameKind.TheVariants as frame
use Rattle.ecma_role_table.specs.declared.state.State.TheVariants as state
use Rattle.ecma_role_table.specs.Parts.{part_of_kind, part_of_word}
use Rattle.ecma_role_table.specs.Statements as statements
use Rattle.ecma_role_table.specs.Table.{row}
use Rattle.ecma_role_moves.specs.Moves.{changed, moved}
use Rattle.ecma_role_moves.specs.Nest.{Nested, dropped_from, function, gains_async, nested, no_function, pushed, within}
use Rattle.ecma_role_tracks.specs.Track.{TrackView, after_turn, read_once, read_times, reading, stepped}
use Rattle.ecma_role_grammar.specs.Tokens.{Token, part, token}
use Rattle.ecma_role_grammar.specs.Grammar.{Parameters, as_word, async, begins_brace, begins_declaration, begins_default, begins_function, from, in_function, is_async_word, is_default_declaration, is_export_name, is_left_brace, is_optional_name, reserved, star, with_in}
use Rattle.ecma_role_grammar.specs.Laws.{around_of}
use Rattle.ecma_role_grammar.proofs.Runs.{RightAt, Run, begins_alike, goes, joins, no_slash, one, reads_alike, stays}
use Rattle.ecma_role_grammar.proofs.Places.{AssignmentRuns, AtOperand, AtStatement, Bare, BracesRuns, Declared, EndRuns, Ended, FunctionRuns, ImportRuns, IsModule, ModuleRuns, Over, Rests, StatementRuns, TailRuns, TopEnds, WordRuns, at, at_top, begins_export, begins_export_kind, begins_import, begins_import_kind, ended, in_export, in_import, over, statements_rest}
use Rattle.ecma_role_grammar.proofs.Behind.{is_word_part, word_word}
use Rattle.ecma_role_grammar.proofs.Statements.{semi_row}
use Rattle.ecma_role_grammar.proofs.Functions.{function_tail_run}
use Rattle.ecma_role_grammar.proofs.Members.{class_name_run}

-- Names in braces

clause-word : (n : Nested) (k : PartKind) (b : Bool) → is_word_part k ≡ true → (read_times 8 b (reading (at state.Clause n) (Some k))).track ≡ at state.Clause n
unfolding read_times read_once row moved changed
clause-word n (Name m) b h = refl
clause-word n (Reserved r) b h = refl
clause-word n (Sign s) b h = absurd cc

clause-signs : (n : Nested) (b : Bool) → (stepped (at state.Clause n) (part (token kind.Str b)) ≡ at state.Clause n) × (stepped (at state.Clause n) (part (token kind.Comma b)) ≡ at state.Clause n) × (stepped (at state.Clause n) (part (token kind.Colon b)) ≡ at state.Clause n)
unfolding read_times read_once row moved changed
clause-signs n b = (refl, refl, refl)

export-name : (n : Nested) (k : TokenKind) (b : Bool) → is_export_name k ≡ true → Run (at state.Clause n) (token k b ∷ []) (at state.Clause n)
export-name n (kind.Word w) b h = one (no_slash (at state.Clause n) (kind.Word w) refl) (clause-word n (part_of_word w) b (word_word w))
export-name n kind.Str b h = one (no_slash (at state.Clause n) kind.Str refl) (clause-signs n b).0
export-name n k b h = absurd cc

pub specifier_runs : (k : TokenKind) (b : Bool) → is_export_name k ≡ true → WordRuns (token k b ∷ [])
specifier_runs k b h = record { runs = λ n. export-name n k b h }

pub renamed_runs : (k l : TokenKind) (a b c : Bool) → is_export_name k ≡ true → is_export_name l ≡ true → WordRuns (token k a ∷ as_word b ∷ token l c ∷ [])
renamed_runs k l a b c h g = record { runs = λ n. joins (export-name n k a h) (joins (export-name n (as_word b).kind b refl) (export-name n l c g)) }

pub attribute_runs : (k : TokenKind) (a b c : Bool) → is_export_name k ≡ true → WordRuns (token k a ∷ token kind.Colon b ∷ token kind.Str c ∷ [])
attribute_runs k a b c h = record { runs = λ n. joins (export-name n k a h) (goes (no_slash (at state.Clause n) kind.Colon refl) (clause-signs n b).2 (export-name n kind.Str c refl)) }

pub more_words_run : (xs ys : List Token) (b : Bool) → WordRuns xs → WordRuns ys → WordRuns (xs ++ token kind.Comma b ∷ ys)
more_words_run xs ys b first second = record { runs = λ n. joins (first.runs n) (goes (no_slash (at state.Clause n) kind.Comma refl) (clause-signs n b).1 (second.runs n)) }

pub no_specifiers_run : (a b : Bool) → BracesRuns (token kind.LBrace a ∷ token kind.RBrace b ∷ [])
no_specifiers_run a b = record { begins = refl; runs = λ t v n opened closed. goes (no_slash t kind.LBrace refl) (opened a) (one (no_slash (at state.Clause n) kind.RBrace refl) (closed b)) }

pub specifiers_run : (xs : List Token) (a b : Bool) → WordRuns xs → BracesRuns (token kind.LBrace a ∷ xs ++ token kind.RBrace b ∷ [])
specifiers_run xs a b words = record { begins = refl; runs = λ t v n opened closed. goes (no_slash t kind.LBrace refl) (opened a) (joins (words.runs n) (one (no_slash (at state.Clause n) kind.RBrace refl) (closed b))) }

pub specifiers_comma_run : (xs : List Token) (a b c : Bool) → WordRuns xs → BracesRuns (token kind.LBrace a ∷ xs ++ token kind.Comma b ∷ token kind.RBrace c ∷ [])
specifiers_comma_run xs a b c words = record { begins = refl; runs = λ t v n opened closed. goes (no_slash t kind.LBrace refl) (opened a) (joins (words.runs n) (goes (no_slash (at state.Clause n) kind.Comma refl) (clause-signs n b).1 (one (no_slash (at state.Clause n) kind.RBrace refl) (closed c)))) }

-- Ends

end-row : (a pend : Around) (b : Bool) → stepped (at state.ImportEnd (in_import a pend)) (part (token kind.Semi b)) ≡ at state.Statement (at_top (gains_async a) pend)
unfolding read_times read_once row moved changed statements.statement dropped_from
end-row a pend b = refl

pub module_end_runs : (b : Bool) → EndRuns (token kind.Semi b ∷ [])
module_end_runs b = record { runs = λ a pend same. record { pend = pend; run = one (no_slash (at state.ImportEnd (in_import a pend)) kind.Semi refl) (end-row a pend b ∙ ap (λ c. at state.Statement (at_top c pend)) same) } }

abbrev with-clause : Around → Around → Nested
with-clause a pend = nested (record { kind = frame.Clause; kept = a } ∷ []) a pend

with-rows : (a pend : Around) (b : Bool) → (stepped (at state.ImportEnd (in_import a pend)) (part (reserved keyword.With b)) ≡ at state.ImportWith (in_import a pend)) × (stepped (at state.ImportWith (in_import a pend)) (part (token kind.LBrace b)) ≡ at state.Clause (with-clause a pend)) × (stepped (at state.Clause (with-clause a pend)) (part (token kind.RBrace b)) ≡ at state.Statement (at_top a no_function)) × (stepped (at state.Statement (at_top a no_function)) (part (token kind.Semi b)) ≡ at state.Statement (at_top a no_function))
unfolding read_times read_once row moved changed statements.statement dropped_from
with-rows a pend b = (refl, refl, refl, refl)

with-run : (a pend : Around) (xs : List Token) (b c d f : Bool) → ((n : Nested) → Run (at state.Clause n) xs (at state.Clause n)) → Run (at state.ImportEnd (in_import a pend)) (reserved keyword.With b ∷ token kind.LBrace c ∷ (xs ++ token kind.RBrace d ∷ token kind.Semi f ∷ [])) (at state.Statement (at_top a no_function))
with-run a pend xs b c d f inside =
    goes (no_slash (at state.ImportEnd (in_import a pend)) (kind.Word (word.Keyword keyword.With)) refl) (with-rows a pend b).0 (goes (no_slash (at state.ImportWith (in_import a pend)) kind.LBrace refl) (with-rows a pend c).1 (joins (inside (with-clause a pend)) (goes (no_slash (at state.Clause (with-clause a pend)) kind.RBrace refl) (with-rows a pend d).2 (one (no_slash (at state.Statement (at_top a no_function)) kind.Semi refl) (with-rows a pend f).3))))

pub module_end_none_runs : (b c d f : Bool) → EndRuns (reserved keyword.With b ∷ token kind.LBrace c ∷ token kind.RBrace d ∷ token kind.Semi f ∷ [])
module_end_none_runs b c d f = record { runs = λ a pend same. record { pend = no_function; run = with-run a pend [] b c d f (λ n. stays (at state.Clause n)) } }

pub module_end_with_runs : (xs : List Token) (b c d f : Bool) → WordRuns xs → EndRuns (reserved keyword.With b ∷ token kind.LBrace c ∷ (xs ++ token kind.RBrace d ∷ token kind.Semi f ∷ []))
module_end_with_runs xs b c d f words = record { runs = λ a pend same. record { pend = no_function; run = with-run a pend xs b c d f words.runs } }

pub module_end_comma_runs : (xs : List Token) (b c d f g : Bool) → WordRuns xs → EndRuns (reserved keyword.With b ∷ token kind.LBrace c ∷ (xs ++ token kind.Comma d ∷ token kind.RBrace f ∷ token kind.Semi g ∷ []))
module_end_comma_runs xs b c d f g words = record {
  runs = λ a pend same.
      let n = with-clause a pend in
      record {
        pend = no_function;
        run = goes (no_slash (at state.ImportEnd (in_import a pend)) (kind.Word (word.Keyword keyword.With)) refl) (with-rows a pend b).0 (goes (no_slash (at state.ImportWith (in_import a pend)) kind.LBrace refl) (with-rows a pend c).1 (joins (words.runs n) (goes (no_slash (at state.Clause n) kind.Comma refl) (clause-signs n d).1 (goes (no_slash (at state.Clause n) kind.RBrace refl) (with-rows a pend f).2 (one (no_slash (at state.Statement (at_top a no_function)) kind.Semi refl) (with-rows a pend g).3)))));
      };
}

-- Imports

import-word : (n : Nested) (k : PartKind) (b : Bool) → is_word_part k ≡ true → (read_times 8 b (reading (at state.Import n) (Some k))).track ≡ at state.Import n
unfolding read_times read_once row moved changed
import-word n (Name m) b h = refl
import-word n (Reserved r) b h = refl
import-word n (Sign s) b h = absurd cc

word-run : (n : Nested) (w : WordKind) (b : Bool) → Run (at state.Import n) (token (kind.Word w) b ∷ []) (at state.Import n)
word-run n w b = one (no_slash (at state.Import n) (kind.Word w) refl) (import-word n (part_of_word w) b (word_word w))

import-signs : (n : Nested) (b : Bool) → (stepped (at state.Import n) (part (token (kind.BinOp binary.Mul) b)) ≡ at state.ImportAll n) × (stepped (at state.Import n) (part (token kind.Comma b)) ≡ at state.Import n) × (stepped (at state.Import n) (part (token kind.Str b)) ≡ at state.ImportEnd n) × (stepped (at state.Import n) (part (token kind.LBrace b)) ≡ at state.Clause (pushed frame.Clause n))
unfolding read_times read_once row moved changed
import-signs n b = (refl, refl, refl, refl)

pub import_default_runs : (w : WordKind) (b : Bool) → ImportRuns (token (kind.Word w) b ∷ [])
import_default_runs w b = record { begins = refl; runs = λ a before. record { pend = before; run = word-run (in_import a before) w b } }

-- behind `*`
all-rows : (n : Nested) (b : Bool) → (stepped (at state.ImportAll n) (part (as_word b)) ≡ at state.ImportAs n) × (stepped (at state.ImportAll n) (part (from b)) ≡ at state.Import n)
unfolding read_times read_once row moved changed
all-rows n b = (refl, refl)

as-word : (n : Nested) (k : PartKind) (b : Bool) → is_word_part k ≡ true → (read_times 8 b (reading (at state.ImportAs n) (Some k))).track ≡ at state.Import n
unfolding read_times read_once row moved changed
as-word n (Name m) b h = refl
as-word n (Reserved r) b h = refl
as-word n (Sign s) b h = absurd cc

as-text : (n : Nested) (b : Bool) → stepped (at state.ImportAs n) (part (token kind.Str b)) ≡ at state.Import n
unfolding read_times read_once row moved changed
as-text n b = refl

as-name : (n : Nested) (k : TokenKind) (b : Bool) → is_export_name k ≡ true → Run (at state.ImportAs n) (token k b ∷ []) (at state.Import n)
as-name n (kind.Word w) b h = one (no_slash (at state.ImportAs n) (kind.Word w) refl) (as-word n (part_of_word w) b (word_word w))
as-name n kind.Str b h = one (no_slash (at state.ImportAs n) kind.Str refl) (as-text n b)
as-name n k b h = absurd cc

all-as : (n : Nested) (k : TokenKind) (c d : Bool) → is_export_name k ≡ true → Run (at state.ImportAll n) (as_word c ∷ token k d ∷ []) (at state.Import n)
all-as n k c d h = goes (no_slash (at state.ImportAll n) (as_word c).kind refl) (all-rows n c).0 (as-name n k d h)

star-as : (n : Nested) (w : WordKind) (b c d : Bool) → Run (at state.Import n) (token (kind.BinOp binary.Mul) b ∷ as_word c ∷ token (kind.Word w) d ∷ []) (at state.Import n)
star-as n w b c d = goes (no_slash (at state.Import n) (kind.BinOp binary.Mul) refl) (import-signs n b).0 (all-as n (kind.Word w) c d refl)

pub import_namespace_runs : (w : WordKind) (b c d : Bool) → ImportRuns (token (kind.BinOp binary.Mul) b ∷ as_word c ∷ token (kind.Word w) d ∷ [])
import_namespace_runs w b c d = record { begins = refl; runs = λ a before. record { pend = before; run = star-as (in_import a before) w b c d } }

brace-begins : (xs : List Token) → begins_brace xs ≡ true → begins_import xs ≡ true
brace-begins [] h = cc
brace-begins (x ∷ xs) h = kind-begins x.kind h
  where
    kind-begins : (k : TokenKind) → is_left_brace k ≡ true → begins_import_kind k ≡ true
    kind-begins kind.LBrace h = refl
    kind-begins k h = absurd cc

import-closed : (a pend : Around) (b : Bool) → stepped (at state.Clause (pushed frame.Clause (in_import a pend))) (part (token kind.RBrace b)) ≡ at state.Import (in_import a no_function)
unfolding read_times read_once row moved changed dropped_from
import-closed a pend b = refl

named-run : (xs : List Token) → BracesRuns xs → (a before : Around) → Run (at state.Import (in_import a before)) xs (at state.Import (in_import a no_function))
named-run xs braces a before = braces.runs (at state.Import (in_import a before)) (at state.Import (in_import a no_function)) (pushed frame.Clause (in_import a before)) (λ b. (import-signs (in_import a before) b).3) (import-closed a before)

pub import_named_runs : (xs : List Token) → BracesRuns xs → ImportRuns xs
import_named_runs xs braces = record { begins = brace-begins xs braces.begins; runs = λ a before. record { pend = no_function; run = named-run xs braces a before } }

default-comma : (n : Nested) (w : WordKind) (b c : Bool) → Run (at state.Import n) (token (kind.Word w) b ∷ token kind.Comma c ∷ []) (at state.Import n)
default-comma n w b c = joins (word-run n w b) (one (no_slash (at state.Import n) kind.Comma refl) (import-signs n c).1)

pub import_default_namespace_runs : (w v : WordKind) (b c d f g : Bool) → ImportRuns (token (kind.Word w) b ∷ token kind.Comma c ∷ token (kind.BinOp binary.Mul) d ∷ as_word f ∷ token (kind.Word v) g ∷ [])
import_default_namespace_runs w v b c d f g = record { begins = refl; runs = λ a before. record { pend = before; run = joins (default-comma (in_import a before) w b c) (star-as (in_import a before) v d f g) } }

pub import_default_named_runs : (xs : List Token) (w : WordKind) (b c : Bool) → BracesRuns xs → ImportRuns (token (kind.Word w) b ∷ token kind.Comma c ∷ xs)
import_default_named_runs xs w b c braces = record { begins = refl; runs = λ a before. record { pend = no_function; run = joins (default-comma (in_import a before) w b c) (named-run xs braces a before) } }

-- behind `import` comes what is imported
start-word : (a pend : Around) (k : PartKind) (b : Bool) → is_word_part k ≡ true → (read_times 8 b (reading (at state.ImportStart (at_top a pend)) (Some k))).track ≡ (read_times 8 b (reading (at state.Import (in_import a pend)) (Some k))).track
unfolding read_times read_once row moved changed
start-word a pend (Name m) b h = refl
start-word a pend (Reserved r) b h = refl
start-word a pend (Sign s) b h = absurd cc

start-signs : (a pend : Around) (b : Bool) → (stepped (at state.ImportStart (at_top a pend)) (part (token (kind.BinOp binary.Mul) b)) ≡ stepped (at state.Import (in_import a pend)) (part (token (kind.BinOp binary.Mul) b))) × (stepped (at state.ImportStart (at_top a pend)) (part (token kind.LBrace b)) ≡ stepped (at state.Import (in_import a pend)) (part (token kind.LBrace b))) × (stepped (at state.ImportStart (at_top a pend)) (part (token kind.Str b)) ≡ at state.ImportEnd (in_import a pend))
unfolding read_times read_once row moved changed
start-signs a pend b = (refl, refl, refl)

start-alike : (a pend : Around) (k : TokenKind) (b : Bool) → begins_import_kind k ≡ true → RightAt (at state.ImportStart (at_top a pend)) k × (stepped (at state.ImportStart (at_top a pend)) (part (token k b)) ≡ stepped (at state.Import (in_import a pend)) (part (token k b)))
start-alike a pend (kind.Word w) b h = (no_slash (at state.ImportStart (at_top a pend)) (kind.Word w) refl, start-word a pend (part_of_word w) b (word_word w))
start-alike a pend (kind.BinOp binary.Mul) b h = (no_slash (at state.ImportStart (at_top a pend)) (kind.BinOp binary.Mul) refl, (start-signs a pend b).0)
start-alike a pend kind.LBrace b h = (no_slash (at state.ImportStart (at_top a pend)) kind.LBrace refl, (start-signs a pend b).1)
start-alike a pend k b h = absurd cc

behind-import : (xs : List Token) (a pend : Around) (v : TrackView) → begins_import xs ≡ true → Run (at state.Import (in_import a pend)) xs v → Run (at state.ImportStart (at_top a pend)) xs v
behind-import [] a pend v h run = absurd cc
behind-import (x ∷ xs) a pend v h run = let same = start-alike a pend x.kind x.had_line_break h in begins_alike same.0 same.1 run

import-row : (n : Nested) (b : Bool) → stepped (at state.Statement n) (part (reserved keyword.Import b)) ≡ at state.ImportStart n
unfolding read_times read_once row moved changed statements.statement
import-row n b = refl

-- `from` and the name of a module
from-run : (a pend : Around) (ys : List Token) (b c : Bool) → IsModule a → EndRuns ys → TopEnds (at state.Import (in_import a pend)) a (from b ∷ token kind.Str c ∷ ys)
from-run a pend ys b c same rest =
    let n = in_import a pend in
    let r = rest.runs a pend same in
    record { pend = r.pend; run = joins (word-run n (word.Ident (ident.Known known.From)) b) (goes (no_slash (at state.Import n) kind.Str refl) (import-signs n c).2 r.run) }

-- the same behind `*`
all-from-run : (a pend : Around) (ys : List Token) (b c : Bool) → IsModule a → EndRuns ys → TopEnds (at state.ImportAll (in_import a pend)) a (from b ∷ token kind.Str c ∷ ys)
all-from-run a pend ys b c same rest =
    let n = in_import a pend in
    let r = rest.runs a pend same in
    record { pend = r.pend; run = goes (no_slash (at state.ImportAll n) (from b).kind refl) (all-rows n b).1 (goes (no_slash (at state.Import n) kind.Str refl) (import-signs n c).2 r.run) }

pub import_from_runs : (p : Parameters) (xs ys : List Token) (b c d : Bool) → ImportRuns xs → EndRuns ys → ModuleRuns p (reserved keyword.Import b ∷ (xs ++ from c ∷ token kind.Str d ∷ ys))
import_from_runs p xs ys b c d clause rest = record {
  runs = λ before same.
      let a = around_of p in
      let l = clause.runs a before in
      let r = from-run a l.pend ys c d same rest in
      record { pend = r.pend; run = goes (no_slash (at state.Statement (at_top a before)) (kind.Word (word.Keyword keyword.Import)) refl) (import-row (at_top a before) b) (joins (behind-import xs a before (at state.Import (in_import a l.pend)) clause.begins l.run) r.run) };
}

pub import_module_runs : (p : Parameters) (xs : List Token) (b c : Bool) → EndRuns xs → ModuleRuns p (reserved keyword.Import b ∷ token kind.Str c ∷ xs)
import_module_runs p xs b c rest = record {
  runs = λ before same.
      let a = around_of p in
      let r = rest.runs a before same in
      record { pend = r.pend; run = goes (no_slash (at state.Statement (at_top a before)) (kind.Word (word.Keyword keyword.Import)) refl) (import-row (at_top a before) b) (goes (no_slash (at state.ImportStart (at_top a before)) kind.Str refl) (start-signs a before c).2 r.run) };
}

-- Exports

export-row : (a pend : Around) (b : Bool) → stepped (at state.Statement (at_top a pend)) (part (reserved keyword.Export b)) ≡ at state.Export (at_top (gains_async a) pend)
unfolding read_times read_once row moved changed statements.statement
export-row a pend b = refl

export-first : (a pend : Around) (b : Bool) → IsModule a → stepped (at state.Statement (at_top a pend)) (part (reserved keyword.Export b)) ≡ at state.Export (at_top a pend)
export-first a pend b same = export-row a pend b ∙ ap (λ c. at state.Export (at_top c pend)) same

exported : (p : Parameters) (xs : List Token) (b : Bool) → ((before : Around) → IsModule (around_of p) → TopEnds (at state.Export (at_top (around_of p) before)) (around_of p) xs) → ModuleRuns p (reserved keyword.Export b ∷ xs)
exported p xs b inside = record {
  runs = λ before same.
      let r = inside before same in
      record { pend = r.pend; run = goes (no_slash (at state.Statement (at_top (around_of p) before)) (kind.Word (word.Keyword keyword.Export)) refl) (export-first (around_of p) before b same) r.run };
}

export-star : (a pend : Around) (b : Bool) → stepped (at state.Export (at_top a pend)) (part (token (kind.BinOp binary.Mul) b)) ≡ at state.ImportAll (in_import a pend)
unfolding read_times read_once row moved changed
export-star a pend b = refl

pub export_all_runs : (p : Parameters) (xs : List Token) (b c d f : Bool) → EndRuns xs → ModuleRuns p (reserved keyword.Export b ∷ token (kind.BinOp binary.Mul) c ∷ from d ∷ token kind.Str f ∷ xs)
export_all_runs p xs b c d f rest = exported p (token (kind.BinOp binary.Mul) c ∷ from d ∷ token kind.Str f ∷ xs) b (λ before same.
    let a = around_of p in
    let r = all-from-run a before xs d f same rest in
    record { pend = r.pend; run = goes (no_slash (at state.Export (at_top a before)) (kind.BinOp binary.Mul) refl) (export-star a before c) r.run })

pub export_all_as_runs : (p : Parameters) (xs : List Token) (k : TokenKind) (b c d f g h : Bool) → is_export_name k ≡ true → EndRuns xs → ModuleRuns p (reserved keyword.Export b ∷ token (kind.BinOp binary.Mul) c ∷ as_word d ∷ token k f ∷ from g ∷ token kind.Str h ∷ xs)
export_all_as_runs p xs k b c d f g h named rest = exported p (token (kind.BinOp binary.Mul) c ∷ as_word d ∷ token k f ∷ from g ∷ token kind.Str h ∷ xs) b (λ before same.
    let a = around_of p in
    let n = in_import a before in
    let r = from-run a before xs g h same rest in
    record { pend = r.pend; run = goes (no_slash (at state.Export (at_top a before)) (kind.BinOp binary.Mul) refl) (export-star a before c) (joins (all-as n k d f named) r.run) })

export-braces : (a pend : Around) (b : Bool) → (stepped (at state.Export (at_top a pend)) (part (token kind.LBrace b)) ≡ at state.Clause (pushed frame.Clause (in_export a pend))) × (stepped (at state.Clause (pushed frame.Clause (in_export a pend))) (part (token kind.RBrace b)) ≡ at state.ExportEnd (in_export a no_function)) × (stepped (at state.ExportEnd (in_export a no_function)) (part (token kind.Semi b)) ≡ at state.Statement (at_top a no_function)) × (stepped (at state.ExportEnd (in_export a no_function)) (part (from b)) ≡ at state.Import (in_import a no_function))
unfolding read_times read_once row moved changed statements.statement dropped_from
export-braces a pend b = (refl, refl, refl, refl)

export-named : (xs : List Token) → BracesRuns xs → (a before : Around) → Run (at state.Export (at_top a before)) xs (at state.ExportEnd (in_export a no_function))
export-named xs braces a before = braces.runs (at state.Export (at_top a before)) (at state.ExportEnd (in_export a no_function)) (pushed frame.Clause (in_export a before)) (λ b. (export-braces a before b).0) (λ b. (export-braces a before b).1)

pub export_from_runs : (p : Parameters) (xs ys : List Token) (b c d : Bool) → BracesRuns xs → EndRuns ys → ModuleRuns p (reserved keyword.Export b ∷ (xs ++ from c ∷ token kind.Str d ∷ ys))
export_from_runs p xs ys b c d braces rest = exported p (xs ++ from c ∷ token kind.Str d ∷ ys) b (λ before same.
    let a = around_of p in
    let n = in_import a no_function in
    let r = rest.runs a no_function same in
    record { pend = r.pend; run = joins (export-named xs braces a before) (goes (no_slash (at state.ExportEnd (in_export a no_function)) (kind.Word (word.Ident (ident.Known known.From))) refl) (export-braces a before c).3 (goes (no_slash (at state.Import n) kind.Str refl) (import-signs n d).2 r.run)) })

pub export_named_runs : (p : Parameters) (xs : List Token) (b c : Bool) → BracesRuns xs → ModuleRuns p (reserved keyword.Export b ∷ (xs ++ token kind.Semi c ∷ []))
export_named_runs p xs b c braces = exported p (xs ++ token kind.Semi c ∷ []) b (λ before same.
    let a = around_of p in
    record { pend = no_function; run = joins (export-named xs braces a before) (one (no_slash (at state.ExportEnd (in_export a no_function)) kind.Semi refl) (export-braces a before c).2) })

export-alike : (k : TokenKind) (n : Nested) (b : Bool) → begins_export_kind k ≡ true → RightAt (at state.Export n) k × (stepped (at state.Export n) (part (token k b)) ≡ stepped (at state.Statement n) (part (token k b)))
unfolding read_times read_once row moved changed statements.statement
export-alike (kind.Word (word.Keyword keyword.Var)) n b h = (no_slash (at state.Export n) (kind.Word (word.Keyword keyword.Var)) refl, refl)
export-alike (kind.Word (word.Keyword keyword.Const)) n b h = (no_slash (at state.Export n) (kind.Word (word.Keyword keyword.Const)) refl, refl)
export-alike (kind.Word (word.Keyword keyword.Let)) n b h = (no_slash (at state.Export n) (kind.Word (word.Keyword keyword.Let)) refl, refl)
export-alike (kind.Word (word.Keyword keyword.Function)) n b h = (no_slash (at state.Export n) (kind.Word (word.Keyword keyword.Function)) refl, refl)
export-alike (kind.Word (word.Keyword keyword.Class)) n b h = (no_slash (at state.Export n) (kind.Word (word.Keyword keyword.Class)) refl, refl)
export-alike (kind.Word (word.Ident (ident.Known known.Async))) n b h = (no_slash (at state.Export n) (kind.Word (word.Ident (ident.Known known.Async))) refl, refl)
export-alike k n b h = absurd cc

behind-export : (xs : List Token) (n : Nested) (v : TrackView) → begins_export xs ≡ true → Run (at state.Statement n) xs v → Run (at state.Export n) xs v
behind-export [] n v h run = absurd cc
behind-export (x ∷ xs) n v h run = let same = export-alike x.kind n x.had_line_break h in begins_alike same.0 same.1 run

pub export_declaration_runs : (p : Parameters) (xs : List Token) (b : Bool) → begins_export xs ≡ true → StatementRuns p xs → ModuleRuns p (reserved keyword.Export b ∷ xs)
export_declaration_runs p xs b begins s = exported p xs b (λ before same.
    let r = s.runs [] before refl in
    record { pend = r.pend; run = behind-export xs (at_top (around_of p) before) (at state.Statement (at_top (around_of p) r.pend)) begins r.run })

-- `export default`

default-rows : (n : Nested) (b : Bool) → (stepped (at state.Export n) (part (reserved keyword.Default_ b)) ≡ at state.ExportDefault n) × (stepped (at state.ExportDefault n) (part (reserved keyword.Function b)) ≡ at state.Head (within (function false) (pushed frame.FunctionHead n))) × (stepped (at state.ExportDefault n) (part (async b)) ≡ at state.AsyncStatement n) × (stepped (at state.AsyncStatement n) (part (reserved keyword.Function false)) ≡ at state.Head (within (function true) (pushed frame.FunctionHead n))) × (stepped (at state.ExportDefault n) (part (reserved keyword.Class b)) ≡ at state.ClassHead (pushed frame.ClassHead n))
unfolding read_times read_once row moved changed statements.statement
default-rows n b = (refl, refl, refl, refl, refl)

pub export_default_function_runs : (p : Parameters) (name xs : List Token) (g a b c d : Bool) → is_optional_name p name ≡ true → FunctionRuns (in_function g false) xs → ModuleRuns p (reserved keyword.Export a ∷ reserved keyword.Default_ b ∷ reserved keyword.Function c ∷ (star g d ++ (name ++ xs)))
export_default_function_runs p name xs g a b c d named rest = exported p (reserved keyword.Default_ b ∷ reserved keyword.Function c ∷ (star g d ++ (name ++ xs))) a (λ before same.
    let n = at_top (around_of p) before in
    record { pend = no_function; run = goes (no_slash (at state.Export n) (kind.Word (word.Keyword keyword.Default_)) refl) (default-rows n b).0 (goes (no_slash (at state.ExportDefault n) (kind.Word (word.Keyword keyword.Function)) refl) (default-rows n c).1 (function_tail_run p Declared g false d name xs [] (around_of p) before named rest)) })

pub export_default_async_runs : (p : Parameters) (name xs : List Token) (g a b c d : Bool) → is_optional_name p name ≡ true → FunctionRuns (in_function g true) xs → ModuleRuns p (reserved keyword.Export a ∷ reserved keyword.Default_ b ∷ async c ∷ reserved keyword.Function false ∷ (star g d ++ (name ++ xs)))
export_default_async_runs p name xs g a b c d named rest = exported p (reserved keyword.Default_ b ∷ async c ∷ reserved keyword.Function false ∷ (star g d ++ (name ++ xs))) a (λ before same.
    let n = at_top (around_of p) before in
    record { pend = no_function; run = goes (no_slash (at state.Export n) (kind.Word (word.Keyword keyword.Default_)) refl) (default-rows n b).0 (goes (no_slash (at state.ExportDefault n) (kind.Word (word.Ident (ident.Known known.Async))) refl) (default-rows n c).2 (goes (no_slash (at state.AsyncStatement n) (kind.Word (word.Keyword keyword.Function)) refl) (default-rows n false).3 (function_tail_run p Declared g true d name xs [] (around_of p) before named rest))) })

pub export_default_class_runs : (p : Parameters) (name xs : List Token) (a b c : Bool) → is_optional_name p name ≡ true → TailRuns p xs → ModuleRuns p (reserved keyword.Export a ∷ reserved keyword.Default_ b ∷ reserved keyword.Class c ∷ (name ++ xs))
export_default_class_runs p name xs a b c named tail = exported p (reserved keyword.Default_ b ∷ reserved keyword.Class c ∷ (name ++ xs)) a (λ before same.
    let n = at_top (around_of p) before in
    record { pend = no_function; run = goes (no_slash (at state.Export n) (kind.Word (word.Keyword keyword.Default_)) refl) (default-rows n b).0 (goes (no_slash (at state.ExportDefault n) (kind.Word (word.Keyword keyword.Class)) refl) (default-rows n c).4 (joins (class_name_run p (pushed frame.ClassHead n) name named) (tail.runs false (around_of p) [] (around_of p) before refl))) })

-- what is read behind `export default` as an operand, and what as a statement
abbrev is_default_operand : TokenKind → Bool
is_default_operand kind.LBrace = true
is_default_operand (kind.Word (word.Keyword keyword.Import)) = true
is_default_operand (kind.Word (word.Ident (ident.Known known.Type_))) = true
is_default_operand kind = false

default-operand : (k : TokenKind) (n : Nested) (b : Bool) → is_default_operand k ≡ true → stepped (at state.ExportDefault n) (part (token k b)) ≡ stepped (at state.Operand n) (part (token k b))
unfolding read_times read_once row moved changed statements.statement
default-operand kind.LBrace n b h = refl
default-operand (kind.Word (word.Keyword keyword.Import)) n b h = refl
default-operand (kind.Word (word.Ident (ident.Known known.Type_))) n b h = refl
default-operand k n b h = absurd cc

default-moves : (k : TokenKind) (a : Around) → is_default_operand k ≡ false → begins_default k ≡ false → statements.export_default (part_of_kind k) a ≡ statements.statement (part_of_kind k) a
unfolding statements.statement
default-moves kind.LBrace a h g = absurd cc
default-moves (kind.Word (word.Keyword keyword.Import)) a h g = absurd cc
default-moves (kind.Word (word.Keyword keyword.Let)) a h g = absurd cc
default-moves (kind.Word (word.Ident (ident.Known known.Type_))) a h g = absurd cc
default-moves (kind.BinOp binary.Mul) a h g = refl
default-moves (kind.AssignOp assigning.Assign) a h g = refl
default-moves k a h g = refl

default-statement : (k : TokenKind) (n : Nested) (b : Bool) → is_default_operand k ≡ false → begins_default k ≡ false → stepped (at state.ExportDefault n) (part (token k b)) ≡ stepped (at state.Statement n) (part (token k b))
unfolding read_times read_once row
default-statement k n b h g = ap (λ m. (read_times 7 b (after_turn (moved m (part_of_kind k) n) false)).track) (default-moves k n.around h g)

or-left : (b c : Bool) → (b || c) ≡ false → b ≡ false
or-left b c h = grind (arith, h)

no-declaration : (k : TokenKind) (c : Bool) → is_default_operand k ≡ false → (begins_default k || c) ≡ false → not (begins_declaration k || c) ≡ true
no-declaration kind.LBrace c h g = absurd cc
no-declaration k c h g = ap not g

pub record DefaultEnds (a before : Around) (xs : List Token) : Type 0 where
  pub place : Ended
  pub mark : Over
  pub pend : Around
  pub run : Run (at state.ExportDefault (at_top a before)) xs (ended place (over [] a mark pend))

top-rests : (p : Parameters) → Rests p [] (around_of p) Bare
top-rests p = statements_rest p [] (around_of p) refl refl

by-operand : (p : Parameters) (x : Token) (xs : List Token) (before : Around) → is_default_operand x.kind ≡ true → AssignmentRuns (with_in p) (x ∷ xs) → DefaultEnds (around_of p) before (x ∷ xs)
by-operand p x xs before h item =
    let r = item.runs AtOperand [] (around_of p) Bare before (top-rests (with_in p)) refl in
    record { place = r.state; mark = r.mark; pend = r.pend; run = reads_alike (λ w. refl) (default-operand x.kind (at_top (around_of p) before) x.had_line_break h) r.run }

by-statement : (p : Parameters) (x : Token) (xs : List Token) (before : Around) → is_default_operand x.kind ≡ false → is_default_declaration (x ∷ xs) ≡ false → AssignmentRuns (with_in p) (x ∷ xs) → DefaultEnds (around_of p) before (x ∷ xs)
by-statement p x xs before h g item =
    let c = is_async_word x.kind && begins_function xs in
    let r = item.runs AtStatement [] (around_of p) Bare before (top-rests (with_in p)) (no-declaration x.kind c h g) in
    record { place = r.state; mark = r.mark; pend = r.pend; run = reads_alike (λ w. refl) (default-statement x.kind (at_top (around_of p) before) x.had_line_break h (or-left (begins_default x.kind) c g)) r.run }

either-way : (p : Parameters) (x : Token) (xs : List Token) (before : Around) (b : Bool) → is_default_operand x.kind ≡ b → is_default_declaration (x ∷ xs) ≡ false → AssignmentRuns (with_in p) (x ∷ xs) → DefaultEnds (around_of p) before (x ∷ xs)
either-way p x xs before true h g item = by-operand p x xs before h item
either-way p x xs before false h g item = by-statement p x xs before h g item

default-ends : (p : Parameters) (xs : List Token) (before : Around) → is_default_declaration xs ≡ false → AssignmentRuns (with_in p) xs → DefaultEnds (around_of p) before xs
default-ends p [] before g item = absurd cc
default-ends p (x ∷ xs) before g item = either-way p x xs before (is_default_operand x.kind) refl g item

pub export_default_runs : (p : Parameters) (xs : List Token) (a b c : Bool) → is_default_declaration xs ≡ false → AssignmentRuns (with_in p) xs → ModuleRuns p (reserved keyword.Export a ∷ reserved keyword.Default_ b ∷ (xs ++ token kind.Semi c ∷ []))
export_default_runs p xs a b c g item = exported p (reserved keyword.Default_ b ∷ (xs ++ token kind.Semi c ∷ [])) a (λ before same.
    let n = at_top (around_of p) before in
    let r = default-ends p xs before g item in
    record { pend = r.pend; run = goes (no_slash (at state.Export n) (kind.Word (word.Keyword keyword.Default_)) refl) (default-rows n b).0 (joins r.run (one (no_slash (ended r.place (over [] (around_of p) r.mark r.pend)) kind.Semi refl) (semi_row p r.place [] (around_of p) r.mark r.pend c refl refl))) })

-- Lists

pub statement_item : (p : Parameters) (xs : List Token) → StatementRuns p xs → ModuleRuns p xs
statement_item p xs s = record { runs = λ before same. let r = s.runs [] before refl in record { pend = r.pend; run = r.run } }

pub no_items_run : (p : Parameters) → ModuleRuns p []
no_items_run p = record { runs = λ before same. record { pend = before; run = stays (at state.Statement (at_top (around_of p) before)) } }

pub more_items_run : (p : Parameters) (xs ys : List Token) → ModuleRuns p xs → ModuleRuns p ys → ModuleRuns p (xs ++ ys)
more_items_run p xs ys first second = record {
  runs = λ before same.
      let l = first.runs before same in
      let r = second.runs l.pend same in
      record { pend = r.pend; run = joins l.run r.run };
}
