-- A token is a front of the text that it is read from, and not empty.
use Rattle.std.proofs.Common.{◌≡◌, ℕ, ◌<◌, Bool, true, false, cond, ◌||◌, ◌&&◌, ◌==◌, List, [], ◌∷◌, drop, length, length-append, take, Option, Some, None, refl, sym, ap, ◌∙◌, arith}
use Rattle.std.proofs.Math.Seq.{take-append_seam}
use Rattle.ecma_place.specs.Text.{Text}
use Rattle.ecma_place.specs.Character.{is_ident_part, is_ident_start}
use Rattle.ecma_place.proofs.CharacterLemmas.{is_ident_start-is_ident_part}
use Rattle.ecma_syntax.specs.declared.settings.NumberRule.{NumberRule}
use Rattle.ecma_token.specs.View.{ErrorView}
use Rattle.std.proofs.lemmas.Bool.{and_parts, eqb-true}
use Rattle.ecma_scan.specs.Expressions.{opens_expression, regular_expression}
use Rattle.ecma_scan.specs.Fronts.{begins_with}
use Rattle.ecma_scan.specs.Bars.{bars_spelling, behind_bars, opens_bars}
use Rattle.ecma_scan.specs.Escapes.{Escape, Accepted, Refused, InWord, escape_behind}
use Rattle.ecma_scan.specs.Numbers.{Number, behind_number, found_number, number, number_parts, number_text, opens_number, refusal}
use Rattle.ecma_scan.specs.Pieces.{pieces, remainder, spelled}
use Rattle.ecma_scan.specs.Punctuators.{Punctuator, punctuator_in, spelling_in}
use Rattle.ecma_scan.specs.Strings as strings
use Rattle.ecma_scan.specs.Strings.{Piece, ending, found_string, opens_string, piece_text, string_cutter, string_literal, string_pieces}
use Rattle.ecma_scan.specs.Words.{BadEscape, Backslash, Ended, Part, Stop, WordEnding, WordRole, bad_escape_ending, found_name, identifier_name, named_piece, opens_word, word_cutter, word_ending, word_ending_of, word_piece, word_piece_of, word_pieces, word_role}
use Rattle.ecma_scan.proofs.BarsLaws.{bars_tile}
use Rattle.ecma_scan.proofs.EscapeLaws.{IsFrontOf, escape_size, escape_some}
use Rattle.ecma_scan.proofs.NumberLaws.{number_front}
use Rattle.ecma_scan.proofs.NumberLocal.{number_some}
use Rattle.ecma_scan.proofs.PieceLemmas.{pieces_more, pieces_none}
use Rattle.ecma_scan.proofs.ExpressionLaws.{expression_is_front}
use Rattle.ecma_scan.proofs.PunctuatorLemmas.{punctuator-front, punctuator-some}
use Rattle.ecma_scan.proofs.StringLaws.{string_front}
use Rattle.ecma_scan.proofs.TemplateLaws.{template_front}
use Rattle.ecma_scan.proofs.WordLaws.{name_front, word_is_cutter}
use Rattle.ecma_scan.specs.Found.{scanned}
use Rattle.ecma_scan.specs.Fronts.{line}
use Rattle.ecma_scan.specs.Shebangs.{found_shebang, opens_shebang, shebang}
use Rattle.ecma_scan.proofs.ShebangLemmas as shebangs
use Rattle.ecma_state.specs.Mode.{is_template, is_tpl_element, type_mode}
use Rattle.ecma_state.specs.Reading.{shebang_token}
use Rattle.ecma_state.specs.TokenAt.{token_at, ts1085, lookahead_from, read_opened, punctuator_or_stray}
use Rattle.ecma_state.specs.declared.mode.Mode.{Mode}

abbrev IsFront : Text → Text → Type 0
IsFront spelling text = take (length spelling) text ≡ spelling

other-front : (found : Option Punctuator) (text : Text) → IsFront (spelling_in found) text → IsFront (punctuator_or_stray found text).spelling text
other-front (Some p) text h = h
other-front None [] h = refl
other-front None (c ∷ cs) h = refl

-- a part of a text that is followed by the rest of it is its front
front-of : (part text : Text) → IsFrontOf part text → IsFront part text
front-of part text f = ap (take (length part)) (sym f.1) ∙ take-append_seam part f.0

number-spelling : (ts1085 : Bool) (rule : NumberRule) (parts : Number) (refusal : Option ErrorView) → (found_number ts1085 rule parts refusal).spelling ≡ number_text parts
number-spelling ts1085 rule parts (Some error) = refl
number-spelling ts1085 rule parts None = refl

number-front : (ts1085 : Bool) (rule : NumberRule) (text : Text) → IsFront (number ts1085 rule text).spelling text
number-front ts1085 rule text =
    let parts = number_parts text in
    rw (number-spelling ts1085 rule parts (refusal rule parts (behind_number parts text))) (front-of (number_text parts) text (number_front text))

-- a marker of bars is a front where it stands
pub bars-front : (text : Text) → opens_bars text ≡ true → IsFront (bars_spelling text) text
bars-front text opens = front-of (bars_spelling text) text (behind_bars text, (bars_tile text opens).0)

bars-stand : (flag : Bool) (text : Text) → (flag && opens_bars text) ≡ true → opens_bars text ≡ true
bars-stand true text h = h
bars-stand false text h = cc

-- a token is a front of the text
pub token_at-front : (mode : Mode) (flag : Bool) (text : Text) → IsFront (token_at mode flag text).spelling text
token_at-front mode flag text =
    go (is_template mode.top) (opens_number text) (opens_string text) (opens_word text) (flag && opens_bars text) refl
  where
    go : (template number' string word bars : Bool) → (flag && opens_bars text) ≡ bars → IsFront (read_opened (lookahead_from template number' string word bars) mode text).spelling text
    go true number' string word bars e = front-of _ text (template_front (is_tpl_element mode.previous) text)
    go false true string word bars e = number-front (ts1085 mode) mode.settings.numbers text
    go false false true word bars e = front-of _ text (string_front text)
    go false false false true bars e = front-of _ text (name_front text)
    go false false false false true e = bars-front text (bars-stand flag text e)
    go false false false false false e = other-front (punctuator_in (type_mode mode) text) text (punctuator-front (type_mode mode) text)

-- a word is not empty: it has a piece, or a refused escape begins it

found-some : (ps : List Piece) (e : WordEnding) → 0 < length (spelled word_cutter ps) → 0 < length (found_name ps e).spelling
found-some ps Ended some = some
found-some ps (BadEscape spelling error) some = omega (arith, some, length-append (spelled word_cutter ps) spelling)

refused-some : (is_first : Bool) (e : Escape) → 0 < escape_size e → named_piece is_first e ≡ None → 0 < length (found_name [] (bad_escape_ending e)).spelling
refused-some is_first (Refused spelling error) some none = some
refused-some is_first (Accepted spelling [] faults) some none = cc
refused-some is_first (Accepted spelling (c ∷ []) faults) some none = cc
refused-some is_first (Accepted spelling (c ∷ d ∷ cs) faults) some none = cc

stop-opens : (c : ℕ) → word_role c ≡ Stop → (is_ident_start c || c == 92) ≡ true → ⊥
stop-opens c e opens = go (is_ident_start c) (is_ident_part c) (c == 92) refl refl refl
  where
    go : (start part backslash : Bool) → is_ident_start c ≡ start → is_ident_part c ≡ part → (c == 92) ≡ backslash → ⊥
    go start true backslash s p b = let role : Part ≡ Stop = sym (ap (λ x. cond x Part (cond (c == 92) Backslash Stop)) p) ∙ e in cc
    go start false true s p b =
        let role : Backslash ≡ Stop = sym (ap (λ x. cond x Part (cond (c == 92) Backslash Stop)) p ∙ ap (λ x. cond x Backslash Stop) b) ∙ e in cc
    go true false false s p b = let part : true ≡ false = sym (is_ident_start-is_ident_part c s) ∙ p in cc
    go false false false s p b =
        let none : false ≡ true = sym (ap (λ x. x || c == 92) s ∙ b) ∙ opens in cc

word-some : (c : ℕ) (cs : Text) → opens_word (c ∷ cs) ≡ true → 0 < length (identifier_name (c ∷ cs)).spelling
word-some c cs opens = go (word_piece true (c ∷ cs)) refl
  where
    ends : (r : WordRole) → word_role c ≡ r → word_piece_of true r (c ∷ cs) ≡ None → 0 < length (found_name [] (word_ending_of r (c ∷ cs))).spelling
    ends Part e none = cc
    ends Backslash e none = refused-some true (escape_behind InWord cs) (escape_some InWord cs) none
    ends Stop e none = absurd (stop-opens c e opens)

    go : (o : Option Piece) → word_piece true (c ∷ cs) ≡ o → 0 < length (identifier_name (c ∷ cs)).spelling
    go (Some piece) e =
        let all = pieces_more word_cutter word_is_cutter true (c ∷ cs) piece e in
        let more = pieces word_cutter false (drop (length (piece_text piece)) (c ∷ cs)) in
        let long : 0 < length (spelled word_cutter (piece ∷ more)) =
        omega (arith, word_is_cutter.some true (c ∷ cs) piece e, length-append (piece_text piece) (spelled word_cutter more)) in
        found-some (word_pieces (c ∷ cs)) (word_ending (remainder word_cutter true (c ∷ cs))) (rw all long)
    go None e =
        let none : word_pieces (c ∷ cs) ≡ [] = pieces_none word_cutter true (c ∷ cs) e in
        let name : identifier_name (c ∷ cs) ≡ found_name [] (word_ending (c ∷ cs)) =
        ap (λ ps. found_name ps (word_ending (drop (length (spelled word_cutter ps)) (c ∷ cs)))) none in
        rw name (ends (word_role c) refl e)

-- nor is a string, which holds its quote, nor a marker of bars, which holds its bars, nor what else is read

found_string-some : (quote : ℕ) (opened : Text) (ps : List Piece) (e : strings.Ending) → 0 < length opened → 0 < length (found_string quote opened ps e).spelling
found_string-some quote opened ps strings.Closed some = omega (arith, some, length-append opened (quote ∷ []))
found_string-some quote opened ps strings.Unclosed some = some
found_string-some quote opened ps (strings.BadEscape spelling error) some = omega (arith, some, length-append opened spelling)

string-some : (quote : ℕ) (text : Text) → 0 < length (string_literal (quote ∷ text)).spelling
string-some quote text =
    let opened = quote ∷ spelled (string_cutter quote) (string_pieces quote text) in
    found_string-some quote opened (string_pieces quote text) (ending quote (remainder (string_cutter quote) tt text)) (omega arith)

other-some : (found : Option Punctuator) (c : ℕ) (cs : Text) → ((p : Punctuator) → found ≡ Some p → 0 < length p.spelling) → 0 < length (punctuator_or_stray found (c ∷ cs)).spelling
other-some (Some p) c cs some = some p refl
other-some None c cs some = omega arith

-- and, outside of templates, not empty
pub token_at-some : (mode : Mode) (flag : Bool) (c : ℕ) (cs : Text) → is_template mode.top ≡ false → 0 < length (token_at mode flag (c ∷ cs)).spelling
token_at-some mode flag c cs code =
    go (is_template mode.top) (opens_number (c ∷ cs)) (opens_string (c ∷ cs)) (opens_word (c ∷ cs)) (flag && opens_bars (c ∷ cs)) code refl refl
  where
    go : (template number' string word bars : Bool) → template ≡ false → opens_number (c ∷ cs) ≡ number' → opens_word (c ∷ cs) ≡ word
        → 0 < length (read_opened (lookahead_from template number' string word bars) mode (c ∷ cs)).spelling
    go true number' string word bars t n w = cc
    go false true string word bars t n w = number_some (ts1085 mode) mode.settings.numbers (c ∷ cs) n
    go false false true word bars t n w = string-some c cs
    go false false false true bars t n w = word-some c cs w
    go false false false false true t n w = omega arith
    go false false false false false t n w = other-some (punctuator_in (type_mode mode) (c ∷ cs)) c cs (punctuator-some (type_mode mode) (c ∷ cs))

begins-front : (spelling text : Text) → begins_with spelling text ≡ true → IsFront spelling text
begins-front [] text e = refl
begins-front (x ∷ xs) [] e = cc
begins-front (x ∷ xs) (c ∷ cs) e =
    let both = and_parts (c == x) (begins_with xs cs) e in
    rw (eqb-true c x both.0) (ap (λ l. x ∷ l) (begins-front xs cs both.1))

-- an expression is a front of the text that it opens
pub expression-front : (text : Text) → opens_expression text ≡ true → IsFront (regular_expression text).spelling text
expression-front text opens = begins-front (regular_expression text).spelling text (expression_is_front text opens)

-- a shebang is a front of the text that it opens
pub shebang-front : (text : Text) → opens_shebang text ≡ true → IsFront (shebang_token text).spelling text
shebang-front text opens =
    let same : (shebang text).spelling ≡ (shebang_token text).spelling =
    ap (λ b. (cond b (found_shebang (line (drop 2 text))) (scanned None [])).spelling) opens in
    ap (λ s. take (length s) text) (sym same) ∙ shebangs.shebang-front text ∙ same
