-- No token begins an element of a gap.
use Rattle.std.proofs.Common.{◌≡◌, ℕ, Bool, true, false, cond, ◌||◌, ◌&&◌, ◌==◌, [], ◌∷◌, ◌++◌, drop, Option, Some, None, refl, ap, ◌∙◌, sym, eqb-true}
use Rattle.std.proofs.lemmas.Bool.{and_parts}
use Rattle.ecma_place.specs.Text.{Text}
use Rattle.ecma_place.specs.Atom.{AtomView}
use Rattle.ecma_place.specs.Character.{is_ident_start, is_white_space, is_line_terminator}
use Rattle.ecma_place.proofs.CharacterLemmas.{is_ident_start-is_ident_part}
use Rattle.ecma_grammar.specs.declared.gap_mode.GapMode.{GapMode}
use Rattle.ecma_grammar.specs.Expressions.{ExpressionBeginsNoGap, body_cutter, body_pieces, closed_expression, expression_behind, flags, open_expression, regular_expression, slashed}
use Rattle.ecma_grammar.specs.Found.{Scanned}
use Rattle.ecma_grammar.specs.Fronts.{begins_with, next_is, line}
use Rattle.ecma_grammar.specs.Gaps.{Element, LineComment, block_of, comment_body, element, is_inert, special_element}
use Rattle.ecma_grammar.specs.Locality.{is_clean}
use Rattle.ecma_grammar.specs.Pieces.{remainder, spelled}
use Rattle.ecma_grammar.specs.Shebangs.{ShebangBeginsNoGap}
use Rattle.ecma_grammar.specs.Strings.{StringBeginsNoGap}
use Rattle.ecma_grammar.specs.Words.{WordBeginsNoGap}
use Rattle.ecma_grammar_laws.proofs.CharacterLaws.{white-no_part}
use Rattle.ecma_grammar.proofs.GapForms.{cond_false}
use Rattle.ecma_grammar.proofs.GapLaws.{no_element, special_none}

-- a character that isn't white space and none of the five
inert_by : (white : Bool) (c : ℕ) → is_white_space c ≡ white → white ≡ false → (c == 47) ≡ false → (c == 60) ≡ false → (c == 45) ≡ false → (c == 61) ≡ false → (c == 62) ≡ false
    → is_inert c ≡ true
inert_by white c e w slash less dash equals greater = rw (e, w, slash, less, dash, equals, greater) refl

-- no start character is one of them

start_none : (c : ℕ) → is_ident_start c ≡ true → ((c == 47) ≡ false) × ((c == 60) ≡ false) × ((c == 45) ≡ false) × ((c == 61) ≡ false) × ((c == 62) ≡ false)
unfolding is_ident_start
start_none c h = (go 47 refl, go 60 refl, go 45 refl, go 61 refl, go 62 refl)
  where
    go : (x : ℕ) → is_ident_start x ≡ false → (c == x) ≡ false
    go x none = by_test (c == x) refl
      where
        by_test : (b : Bool) → (c == x) ≡ b → b ≡ false
        by_test true e = let same : is_ident_start c ≡ false = ap is_ident_start (eqb-true c x e) ∙ none in cc
        by_test false e = refl

start_white : (c : ℕ) → is_ident_start c ≡ true → is_white_space c ≡ false
start_white c h = go (is_white_space c) refl
  where
    go : (b : Bool) → is_white_space c ≡ b → b ≡ false
    go true e = let part = is_ident_start-is_ident_part c h in let no = white-no_part c e in cc
    go false e = refl

start_inert : (c : ℕ) → is_ident_start c ≡ true → is_inert c ≡ true
start_inert c h =
    let n = start_none c h in
    inert_by (is_white_space c) c refl (start_white c h) n.0 n.1 n.2 n.3 n.4

-- some characters that begin tokens

backslash_inert : is_inert 92 ≡ true
unfolding is_white_space is_line_terminator
backslash_inert = refl

double_inert : is_inert 34 ≡ true
unfolding is_white_space is_line_terminator
double_inert = refl

single_inert : is_inert 39 ≡ true
unfolding is_white_space is_line_terminator
single_inert = refl

hash_inert : is_inert 35 ≡ true
unfolding is_white_space is_line_terminator
hash_inert = refl

pub word_begins_no_gap : WordBeginsNoGap
word_begins_no_gap mode flag [] h = cc
word_begins_no_gap mode flag (c ∷ cs) h = no_element mode flag c cs (go (is_ident_start c) refl h)
  where
    go : (b : Bool) → is_ident_start c ≡ b → (b || c == 92) ≡ true → is_inert c ≡ true
    go true e h = start_inert c e
    go false e h = ap is_inert (eqb-true c 92 h) ∙ backslash_inert

pub string_begins_no_gap : StringBeginsNoGap
string_begins_no_gap mode flag [] h = cc
string_begins_no_gap mode flag (c ∷ cs) h = no_element mode flag c cs (go (c == 34) refl h)
  where
    go : (b : Bool) → (c == 34) ≡ b → (b || c == 39) ≡ true → is_inert c ≡ true
    go true e h = ap is_inert (eqb-true c 34 e) ∙ double_inert
    go false e h = ap is_inert (eqb-true c 39 h) ∙ single_inert

pub shebang_begins_no_gap : ShebangBeginsNoGap
shebang_begins_no_gap mode flag [] h = cc
shebang_begins_no_gap mode flag (c ∷ cs) h =
    no_element mode flag c cs (ap is_inert (eqb-true c 35 (and_parts (c == 35) (begins_with (33 ∷ []) cs) h).0) ∙ hash_inert)

-- A slash begins an element where a slash or a star follows, and none else

slash_white : is_white_space 47 ≡ false
unfolding is_white_space is_line_terminator
slash_white = refl

slash_none : (mode : GapMode) (flag : Bool) (c : ℕ) (cs : Text) → (c == 47) ≡ false → (c == 42) ≡ false → element mode flag (47 ∷ (c ∷ cs)) ≡ None
slash_none mode flag c cs slash star =
    cond_false _ _ _ slash_white
    ∙ cond_false _ _ _ (ap (λ b. b && true) slash)
    ∙ cond_false _ _ _ (ap (λ b. b && true) star)
    ∙ special_none mode.type_mode flag 47 (c ∷ cs) refl refl refl refl

abbrev after_slash : GapMode → Bool → ℕ → Text → Bool → Bool → Option Element
after_slash mode flag c cs slash star =
    cond (slash && true) (Some (LineComment (line cs))) (cond (star && true) (Some (block_of (comment_body cs) cs)) (special_element mode.type_mode flag (47 ∷ (c ∷ cs))))

slash_some : (mode : GapMode) (flag : Bool) (c : ℕ) (cs : Text) → element mode flag (47 ∷ (c ∷ cs)) ≡ None → ((c == 47) ≡ false) × ((c == 42) ≡ false)
slash_some mode flag c cs h = go (c == 47) (c == 42) refl refl (sym (cond_false _ _ _ slash_white) ∙ h)
  where
    go : (slash star : Bool) → (c == 47) ≡ slash → (c == 42) ≡ star → after_slash mode flag c cs slash star ≡ None → ((c == 47) ≡ false) × ((c == 42) ≡ false)
    go true star e f h = cc
    go false true e f h = cc
    go false false e f h = (e, f)

-- an expression that is read cleanly has two characters or more

abbrev HasTwo : Text → Type 0
HasTwo spelling = (c : ℕ) × (cs : Text) × (spelling ≡ 47 ∷ (c ∷ cs))

slashed_two : (body more : Text) → HasTwo (slashed body ++ more)
slashed_two [] more = (47, more, refl)
slashed_two (c ∷ cs) more = (c, (cs ++ (47 ∷ [])) ++ more, refl)

clean_two : (text : Text) → is_clean (expression_behind text) ≡ true → HasTwo (expression_behind text).spelling
clean_two text h = go (next_is 47 (remainder body_cutter tt text)) h
  where
    found : Scanned AtomView
    found = flags (drop 1 (remainder body_cutter tt text))

    go : (b : Bool) → is_clean (cond b (closed_expression (spelled body_cutter (body_pieces text)) found) (open_expression text)) ≡ true
        → HasTwo (cond b (closed_expression (spelled body_cutter (body_pieces text)) found) (open_expression text)).spelling
    go true h = slashed_two (spelled body_cutter (body_pieces text)) found.spelling
    go false h = cc

pub expression_begins_no_gap : ExpressionBeginsNoGap
expression_begins_no_gap mode flag b behind r opens clean spells none = go b (clean_two (drop 1 (b ++ behind)) clean) spells none
  where
    go : (b : Text) → HasTwo (regular_expression (b ++ behind)).spelling → (regular_expression (b ++ behind)).spelling ≡ b → element mode flag (b ++ behind) ≡ None
        → element mode flag (b ++ r) ≡ None
    go b two spells none =
        let is : b ≡ 47 ∷ (two.0 ∷ two.1) = sym spells ∙ two.2 in
        let tests = slash_some mode flag two.0 (two.1 ++ behind) (ap (λ t. element mode flag (t ++ behind)) (sym is) ∙ none) in
        ap (λ t. element mode flag (t ++ r)) is ∙ slash_none mode flag two.0 (two.1 ++ r) tests.0 tests.1
