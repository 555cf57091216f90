-- One character is the gap before a token of code, and slashes and closers are read again.
use Rattle.std.proofs.Common.{◌≡◌, ℕ, Bool, true, false, ◌&&◌, ◌||◌, ◌==◌, List, [], ◌∷◌, ◌++◌, drop, length, Some, None, refl, ap, ◌∙◌, sym, eqb-true}
use Rattle.std.specs.Prelude.{codes}
use Rattle.ecma_place.specs.Text.{Text}
use Rattle.ecma_place.specs.Character.{is_ident_start, is_white_space, is_line_terminator}
use Rattle.ecma_syntax.specs.declared.operator.BinOpToken.TheVariants as bin
use Rattle.ecma_syntax.specs.declared.operator.AssignOp.TheVariants as assign
use Rattle.ecma_token.specs.declared.token.Token.{BinOp, AssignOp}
use Rattle.ecma_scan.specs.declared.gap_mode.GapMode.{GapMode}
use Rattle.ecma_scan.specs.Fronts.{begins_with}
use Rattle.ecma_scan.specs.Gaps.{Element, Blank, element, faults_of, gap, gap_cutter, has_line_break, is_inert}
use Rattle.ecma_joining.specs.Code.{CodeMode, code_at, lookahead_from, read_code}
use Rattle.ecma_state.specs.TokenAt.{punctuator_or_stray}
use Rattle.ecma_joining.specs.Separators.{CloserAgain, ClosersAreReadAgain, IsGap, SeparatorIsTheGap, SlashIsReadAgain, StartIsTheGap}
use Rattle.ecma_scan.specs.Numbers.{opens_number}
use Rattle.ecma_scan.specs.Pieces.{spelled}
use Rattle.ecma_scan.specs.Punctuators.{Punctuator, found_punctuator, punctuator, punctuator_in, spells}
use Rattle.ecma_scan.specs.Shebangs.{opens_shebang}
use Rattle.ecma_scan.specs.Words.{opens_word}
use Rattle.ecma_scan.proofs.ExpressionLaws.{first_slash_is_local}
use Rattle.ecma_scan.proofs.GapLaws.{line_feed_is_the_gap, no_element, nothing_is_the_gap, space_is_the_gap}
use Rattle.ecma_grammar_laws.proofs.SeparationLaws.{expression_begins_no_gap}

-- what a gap tells, by its elements
of_gap : (mode : GapMode) (text : Text) (es : List Element) (flag : Bool) (left : Text) → gap mode text ≡ es → has_line_break mode text ≡ flag → faults_of None 0 es ≡ []
    → drop (length (spelled (gap_cutter mode) es)) text ≡ left → IsGap mode text flag left
of_gap mode text es flag left e line_break none behind =
    record {
      line_break = line_break;
      faults = ap (faults_of None 0) e ∙ none;
      behind = ap (λ x. drop (length (spelled (gap_cutter mode) x)) text) e ∙ behind;
    }

not_first : (first : Bool) → (first ≡ true → false ≡ true) → first ≡ false
not_first true h = let no = h refl in cc
not_first false h = refl

pub separator_is_the_gap : SeparatorIsTheGap
separator_is_the_gap mode true text template keeps first none =
    let it = line_feed_is_the_gap mode text template keeps none in
    of_gap mode (10 ∷ text) (Blank 10 ∷ []) true text it.0 it.1 refl refl
separator_is_the_gap mode false text template keeps first none =
    let no = not_first mode.first first in
    let it = space_is_the_gap mode text template keeps (ap (λ x. element mode x text) no ∙ none) in
    of_gap mode (32 ∷ text) (Blank 32 ∷ []) false text it.0 (it.1 ∙ no) refl refl

pub start_is_the_gap : StartIsTheGap
start_is_the_gap mode text first none =
    let it = nothing_is_the_gap mode text (ap (λ x. element mode x text) first ∙ none) in
    of_gap mode text [] true text it (rw first refl) refl refl

-- Slashes

slash_no_start : is_ident_start 47 ≡ false
unfolding is_ident_start
slash_no_start = refl

abbrev slash_of : Bool → Punctuator
slash_of true = spells (codes "/=") (AssignOp assign.DivAssign)
slash_of false = spells (codes "/") (BinOp bin.Div)

slash_in : (type_mode : Bool) (cs : Text) → punctuator_in type_mode (47 ∷ cs) ≡ Some (slash_of (begins_with (61 ∷ []) cs))
slash_in type_mode cs = go type_mode (begins_with (61 ∷ []) cs) refl
  where
    go : (x y : Bool) → begins_with (61 ∷ []) cs ≡ y → punctuator_in x (47 ∷ cs) ≡ Some (slash_of y)
    go true true e = rw e refl
    go true false e = rw e refl
    go false true e = rw e refl
    go false false e = rw e refl

same_slash : (x y : Bool) → found_punctuator (Some (slash_of x)) ≡ found_punctuator (Some (slash_of y)) → x ≡ y
same_slash true true h = refl
same_slash false false h = refl
same_slash true false h = let no : codes "/=" ≡ codes "/" = ap (λ s. s.spelling) h in cc
same_slash false true h = let no : codes "/" ≡ codes "/=" = ap (λ s. s.spelling) h in cc

-- at a slash code reads a punctuator
code_slash : (mode : CodeMode) (flag : Bool) (cs : Text) → code_at mode flag (47 ∷ cs) ≡ punctuator_or_stray (Some (slash_of (begins_with (61 ∷ []) cs))) []
code_slash mode flag cs =
    ap (λ x. read_code (lookahead_from false false (x || false) (flag && false)) mode (47 ∷ cs)) slash_no_start
    ∙ ap (λ x. read_code (lookahead_from false false false x) mode (47 ∷ cs)) (never flag)
    ∙ ap (λ x. punctuator_or_stray x (47 ∷ cs)) (slash_in mode.type_mode cs)
  where
    never : (b : Bool) → (b && false) ≡ false
    never true = refl
    never false = refl

pub slash_is_read_again : SlashIsReadAgain
slash_is_read_again mode flag gap_mode stands c cs behind r opens clean written none =
    let slash : c ≡ 47 = eqb-true c 47 opens in
    let local = first_slash_is_local mode.type_mode (c ∷ cs) behind r opens clean written in
    let left : punctuator mode.type_mode (c ∷ (cs ++ r)) ≡ found_punctuator (Some (slash_of (begins_with (61 ∷ []) (cs ++ r)))) =
    ap (λ x. punctuator mode.type_mode (x ∷ (cs ++ r))) slash ∙ ap found_punctuator (slash_in mode.type_mode (cs ++ r)) in
    let right : punctuator mode.type_mode (c ∷ (cs ++ behind)) ≡ found_punctuator (Some (slash_of (begins_with (61 ∷ []) (cs ++ behind)))) =
    ap (λ x. punctuator mode.type_mode (x ∷ (cs ++ behind))) slash ∙ ap found_punctuator (slash_in mode.type_mode (cs ++ behind)) in
    let same = same_slash (begins_with (61 ∷ []) (cs ++ r)) (begins_with (61 ∷ []) (cs ++ behind)) (sym left ∙ local ∙ right) in
    record {
      token =
          ap (λ x. code_at mode flag (x ∷ (cs ++ r))) slash
          ∙ code_slash mode flag (cs ++ r)
          ∙ ap (λ x. punctuator_or_stray (Some (slash_of x)) []) same
          ∙ sym (code_slash mode flag (cs ++ behind))
          ∙ ap (λ x. code_at mode flag (x ∷ (cs ++ behind))) (sym slash);
      no_element = expression_begins_no_gap gap_mode stands (c ∷ cs) behind r opens clean written none;
      no_shebang = ap (λ x. opens_shebang (x ∷ (cs ++ r))) slash;
    }

-- Closers

no_start : (c : ℕ) → is_ident_start c ≡ false → (c == 92) ≡ false → (cs : Text) → opens_word (c ∷ cs) ≡ false
no_start c e f cs = rw (e, f) refl

back_quote_no_start : is_ident_start 96 ≡ false
unfolding is_ident_start
back_quote_no_start = refl

brace_no_start : is_ident_start 125 ≡ false
unfolding is_ident_start
brace_no_start = refl

parenthesis_no_start : is_ident_start 41 ≡ false
unfolding is_ident_start
parenthesis_no_start = refl

back_quote_inert : is_inert 96 ≡ true
unfolding is_white_space is_line_terminator
back_quote_inert = refl

brace_inert : is_inert 125 ≡ true
unfolding is_white_space is_line_terminator
brace_inert = refl

parenthesis_inert : is_inert 41 ≡ true
unfolding is_white_space is_line_terminator
parenthesis_inert = refl

never : (b : Bool) → (b && false) ≡ false
never true = refl
never false = refl

-- a character that opens nothing but a punctuator of its own
closer : (mode : CodeMode) (flag : Bool) (c : ℕ) (p : Punctuator) (behind r : Text) → is_ident_start c ≡ false → (c == 92) ≡ false → is_inert c ≡ true
    → ((cs : Text) → opens_number (c ∷ cs) ≡ false) → ((cs : Text) → code_at mode flag (c ∷ cs) ≡ read_code (lookahead_from false false (opens_word (c ∷ cs)) (flag && false)) mode (c ∷ cs))
    → ((x : Bool) (cs : Text) → punctuator_in x (c ∷ cs) ≡ Some p) → ((cs : Text) → opens_shebang (c ∷ cs) ≡ false) → CloserAgain mode flag c behind r
closer mode flag c p behind r start slash inert number opens found shebang =
    record {
      token = is r ∙ sym (is behind);
      no_element = λ gap_mode stands. no_element gap_mode stands c r inert;
      no_shebang = shebang r;
    }
  where
    is : (cs : Text) → code_at mode flag (c ∷ cs) ≡ punctuator_or_stray (Some p) []
    is cs =
        opens cs
        ∙ ap (λ x. read_code (lookahead_from false false x (flag && false)) mode (c ∷ cs)) (no_start c start slash cs)
        ∙ ap (λ x. read_code (lookahead_from false false false x) mode (c ∷ cs)) (never flag)
        ∙ ap (λ x. punctuator_or_stray x (c ∷ cs)) (found mode.type_mode cs)

found_at : (c : ℕ) (p : Punctuator) → ((cs : Text) → punctuator_in true (c ∷ cs) ≡ Some p) → ((cs : Text) → punctuator_in false (c ∷ cs) ≡ Some p) → (x : Bool) (cs : Text) → punctuator_in x (c ∷ cs) ≡ Some p
found_at c p angled plainly true cs = angled cs
found_at c p angled plainly false cs = plainly cs

pub closers_are_read_again : ClosersAreReadAgain
closers_are_read_again mode flag behind r = (
  closer mode flag 96 _ behind r back_quote_no_start refl back_quote_inert (λ cs. refl) (λ cs. refl) (found_at 96 _ (λ cs. refl) (λ cs. refl)) (λ cs. refl),
  closer mode flag 125 _ behind r brace_no_start refl brace_inert (λ cs. refl) (λ cs. refl) (found_at 125 _ (λ cs. refl) (λ cs. refl)) (λ cs. refl),
  closer mode flag 41 _ behind r parenthesis_no_start refl parenthesis_inert (λ cs. refl) (λ cs. refl) (found_at 41 _ (λ cs. refl) (λ cs. refl)) (λ cs. refl),
)
