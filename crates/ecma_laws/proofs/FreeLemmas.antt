-- Reads of tokens that mean what is written of them do not allocate.
use Rattle.std.proofs.Common.{◌≡◌, ◌∙◌, ℕ, ◌<◌, ◌==◌, Bool, true, false, not, cond, ◌||◌, ◌&&◌, List, [], ◌∷◌, ◌++◌, length, drop, Option, Some, None, Result, Ok, Err, refl, sym, subst, ap, arith}
use Rattle.std.specs.List.{list_all, list_any}
use Rattle.std.specs.Prelude.{is_ok}
use Rattle.std.proofs.lemmas.Bool.{or_parts}
use Rattle.std.proofs.lemmas.List.Folds.{list_any-append}
use Rattle.ecma_place.specs.Atom.{AtomView}
use Rattle.ecma_place.specs.Character.{is_ident_part, is_ident_start, is_line_break, is_line_terminator}
use Rattle.ecma_place.specs.Text.{Text}
use Rattle.ecma_place.specs.Cursor.{Cursor, rest, place}
use Rattle.ecma_place.specs.declared.place.BytePos.{BytePos}
use Rattle.ecma_syntax.specs.declared.word.Word.{Word}
use Rattle.ecma_syntax.specs.declared.settings.NumberRule.{NumberRule}
use Rattle.ecma_token.specs.Kinds.{kind_of}
use Rattle.ecma_token.specs.View.{ErrorView, TokenView}
use Rattle.ecma_scan.specs.Expressions.{body_cutter, body_pieces, closed_expression, flags, no_flags, open_expression, regex_value, regular_expression, slashed}
use Rattle.ecma_scan.specs.Found.{Scanned, fault_behind}
use Rattle.ecma_scan.specs.Fronts.{next_is, next_passes}
use Rattle.ecma_scan.specs.Gaps.{has_line_break}
use Rattle.ecma_scan.specs.GapViews.{GapView}
use Rattle.ecma_scan.specs.Numbers as numbers
use Rattle.ecma_scan.specs.Numbers.{Number, found_number, is_big_number, is_separator, number, number_parts, refusal, behind_number}
use Rattle.ecma_scan.specs.Pieces.{Cutter, pieces, remainder, spelled}
use Rattle.ecma_scan.specs.Cutters.{IsCutter, ReadsInOrder}
use Rattle.ecma_scan.proofs.EmptyLists.{append-none, map-none}
use Rattle.ecma_scan.proofs.PieceLemmas.{cut}
use Rattle.ecma_scan.specs.Strings as strings
use Rattle.ecma_scan.specs.Strings.{Piece, Plain, Escaped, Ending, Closed, Unclosed, BadEscape, atom_of, ending, found_string, is_escaped, string_cutter, string_pieces}
use Rattle.ecma_scan.specs.Templates as templates
use Rattle.ecma_scan.specs.Templates.{TemplateEnd, TemplatePiece, AtEnd, AtBackQuote, AtDollarBrace, is_verbatim, last_refusal, template_cutter, template_end, template_of, text_of, token_of_refusal}
use Rattle.ecma_scan.specs.Escapes.{line_end}
use Rattle.ecma_scan.specs.Words as words
use Rattle.ecma_scan.specs.Words.{found_name, identifier_name, word_cutter, word_pieces}
use Rattle.ecma_scan.proofs.StringLaws.{string_is_cutter}
use Rattle.ecma_scan.proofs.WordLaws.{word_is_cutter}
use Rattle.ecma_scan.proofs.TemplateLaws.{template_is_cutter}
use Rattle.ecma_state.specs.Mode.{gap_mode, is_tpl_element}
use Rattle.ecma_state.specs.Reading.{behind_gap, gap_in, is_free, is_free_again, is_free_behind, is_free_code, reading, reading_again, reading_behind, reading_code, reading_if, stands_shebang}
use Rattle.ecma_state.specs.Run.{at_place, is_free_from, mode_of, reading_from}
use Rattle.ecma_state.specs.State.{is_error}
use Rattle.ecma_state.specs.TokenAt.{asks_for_none, is_borrowed, is_borrowed_name, is_empty, is_free_at, lookahead, read_opened, token_at, token_found, token_of, ts1085, word_token, word_value}
use Rattle.ecma_state.specs.declared.mode.Mode.{Mode}
use Rattle.ecma_state.specs.declared.lookahead.Lookahead.{Lookahead}
use Rattle.ecma_state.specs.declared.lookahead.Lookahead.TheVariants as opens
use Rattle.ecma_reads.proofs.PlacedKinds.{placed-kind, value-kind}
use Rattle.ecma_reads.proofs.ReadingLemmas.{placed-faults}
use Rattle.ecma_laws.specs.FreeReads.{MeansItself, ReadsAreFree, spelling_at, spelling_from, turns_meaning}
use Rattle.ecma_laws.specs.FreeTexts.{ExpressionIsFree, NumberIsFree, StringIsFree, TemplateIsFree, WordIsFree, is_backslash, is_turned_in, turned_in}

-- Pieces without such a character

-- what is read with no such character is as it should be, if that holds of what begins with another character
pub record Keeps {S A : Type 0} (cutter : Cutter S A) (bad : ℕ → Bool) (fine : A → Bool) : Type 0 where
  pub keeps : (s : S) (c : ℕ) (cs : Text) (piece : A) → cutter.read s (c ∷ cs) ≡ Some piece → bad c ≡ false → fine piece ≡ true

none-in : (bad : ℕ → Bool) (a b : Text) → list_any bad (a ++ b) ≡ false → (list_any bad a ≡ false) × (list_any bad b ≡ false)
none-in bad a b h = or_parts (list_any bad a) (list_any bad b) (sym (list_any-append bad a b) ∙ h)

first-of : (bad : ℕ → Bool) (spelling behind text : Text) → spelling ++ behind ≡ text → 0 < length spelling → list_any bad spelling ≡ false
    → (c : ℕ) × (cs : Text) × (text ≡ c ∷ cs) × (bad c ≡ false)
first-of bad [] behind text e some h = absurd (omega (arith, some))
first-of bad (c ∷ cs) behind text e some h = (c, cs ++ behind, sym e, (or_parts (bad c) (list_any bad cs) h).0)

one-fine : {S A : Type 0} (cutter : Cutter S A) (bad : ℕ → Bool) (fine : A → Bool) → IsCutter cutter → Keeps cutter bad fine
    → (s : S) (text : Text) (piece : A) → cutter.read s text ≡ Some piece → list_any bad (cutter.spelling piece) ≡ false → fine piece ≡ true
one-fine cutter bad fine is keeps s text piece e h =
    let f = is.front s text piece e in
    let first = first-of bad (cutter.spelling piece) f.0 text f.1 (is.some s text piece e) h in
    keeps.keeps s first.0 first.1 piece (ap (cutter.read s) (sym first.2) ∙ e) first.3

all-fine : {S A : Type 0} (cutter : Cutter S A) (bad : ℕ → Bool) (fine : A → Bool) → IsCutter cutter → Keeps cutter bad fine
    → (s : S) (ps : List A) (rest : Text) → ReadsInOrder cutter s ps rest → list_any bad (spelled cutter ps) ≡ false → list_all fine ps ≡ true
all-fine cutter bad fine is keeps s [] rest order h = refl
all-fine cutter bad fine is keeps s (piece ∷ more) rest order h =
    let parts = none-in bad (cutter.spelling piece) (spelled cutter more) h in
    let one = one-fine cutter bad fine is keeps s (cutter.spelling piece ++ (spelled cutter more ++ rest)) piece order.0 parts.0 in
    ap (λ b. b && list_all fine more) one ∙ all-fine cutter bad fine is keeps (cutter.next s piece) more rest order.1 parts.1

pieces-fine : {S A : Type 0} (cutter : Cutter S A) (bad : ℕ → Bool) (fine : A → Bool) → IsCutter cutter → Keeps cutter bad fine
    → (s : S) (text : Text) → list_any bad (spelled cutter (pieces cutter s text)) ≡ false → list_all fine (pieces cutter s text) ≡ true
pieces-fine cutter bad fine is keeps s text h =
    let c = cut cutter is s text in
    all-fine cutter bad fine is keeps s (pieces cutter s text) c.0 c.2 h

-- Strings and words: a piece is no escape

abbrev is_plain : Piece → Bool
is_plain piece = not (is_escaped piece)

string-keeps : (quote : ℕ) → Keeps (string_cutter quote) is_backslash is_plain
string-keeps quote = record { keeps = λ s c cs piece e h. go c cs piece (c == quote) (c == 92) (is_line_break c) h e }
  where
    go : (c : ℕ) (cs : Text) (piece : Piece) (q b l : Bool) → b ≡ false
        → strings.piece_of (cond q strings.Quote (cond b strings.Backslash (cond l strings.Break strings.Itself))) (c ∷ cs) ≡ Some piece → is_plain piece ≡ true
    go c cs piece true b l h e = cc
    go c cs piece false true l h e = cc
    go c cs piece false false true h e = cc
    go c cs piece false false false h e = let same : Plain c ≡ piece = cc in ap is_plain (sym same)

word-keeps : Keeps word_cutter is_backslash is_plain
word-keeps = record { keeps = λ is_first c cs piece e h. go is_first c cs piece (is_ident_part c) (c == 92) h e }
  where
    go : (is_first : Bool) (c : ℕ) (cs : Text) (piece : Piece) (p b : Bool) → b ≡ false
        → words.word_piece_of is_first (cond p words.Part (cond b words.Backslash words.Stop)) (c ∷ cs) ≡ Some piece → is_plain piece ≡ true
    go is_first c cs piece true b h e = let same : Plain c ≡ piece = cc in ap is_plain (sym same)
    go is_first c cs piece false true h e = cc
    go is_first c cs piece false false h e = cc

plain-any : (ps : List Piece) → list_all is_plain ps ≡ true → list_any is_escaped ps ≡ false
plain-any [] h = refl
plain-any (Plain c ∷ ps) h = plain-any ps h
plain-any (Escaped spelling value faults ∷ ps) h = cc

borrowed-atom : (ps : List Piece) → list_all is_plain ps ≡ true → (atom_of ps).is_borrowed ≡ true
borrowed-atom ps h = rw (plain-any ps h) refl

-- a string
pub string_is_free : StringIsFree
string_is_free [] ok h = refl
string_is_free (quote ∷ text) ok h = go (ending quote (remainder (string_cutter quote) tt text)) ok h
  where
    ps : List Piece
    ps = string_pieces quote text

    opened : Text
    opened = quote ∷ spelled (string_cutter quote) ps

    borrowed : list_any is_backslash opened ≡ false → (atom_of ps).is_borrowed ≡ true
    borrowed h = borrowed-atom ps (pieces-fine (string_cutter quote) is_backslash is_plain (string_is_cutter quote) (string-keeps quote) tt text (or_parts (is_backslash quote) _ h).1)

    go : (end : Ending) → is_ok (found_string quote opened ps end).value ≡ true → is_turned_in (found_string quote opened ps end) ≡ false
        → is_borrowed (found_string quote opened ps end).value ≡ true
    go Closed ok h = ap (λ b. b && true) (borrowed (none-in is_backslash opened (quote ∷ []) h).0)
    go Unclosed ok h = ap (λ b. b && true) (borrowed h)
    go (BadEscape spelling error) ok h = cc

-- a name
pub name_is_free : WordIsFree
name_is_free text ok h = go (words.word_ending (remainder word_cutter true text)) ok h
  where
    go : (end : words.WordEnding) → is_ok (found_name (word_pieces text) end).value ≡ true → list_any is_backslash (found_name (word_pieces text) end).spelling ≡ false
        → is_borrowed_name (found_name (word_pieces text) end).value ≡ true
    go words.Ended ok h = borrowed-atom (word_pieces text) (pieces-fine word_cutter is_backslash is_plain word_is_cutter word-keeps true text h)
    go (words.BadEscape spelling error) ok h = cc

word-turned : (value : Result Word ErrorView) (spelling : Text) → is_ok (word_value value) ≡ true → turned_in (word_value value) spelling ≡ false → list_any is_backslash spelling ≡ false
word-turned (Ok word) spelling ok h = h
word-turned (Err error) spelling ok h = cc

name-ok : (mode : Mode) (text : Text) → is_ok (word_token mode text).value ≡ true → is_ok (identifier_name text).value ≡ true
name-ok mode text h = go (identifier_name text).value h
  where
    go : (value : Result AtomView ErrorView) → is_ok (word_value (words.word_value mode.context (identifier_name text).spelling value)) ≡ true → is_ok value ≡ true
    go (Ok name) h = refl
    go (Err error) h = cc

-- Template text: a piece means what is written

abbrev is_turned : ℕ → Bool
is_turned c = c == 92 || c == 13

template-keeps : Keeps template_cutter is_turned is_verbatim
template-keeps = record { keeps = λ s c cs piece e h. go c cs piece (c == 96 || (c == 36 && next_is 123 cs)) (c == 92) (is_line_terminator c) (or_parts (c == 92) (c == 13) h) e }
  where
    go : (c : ℕ) (cs : Text) (piece : TemplatePiece) (q b l : Bool) → (b ≡ false) × ((c == 13) ≡ false)
        → templates.template_piece_of (cond q templates.Stop (cond b templates.Backslash (cond l templates.LineEnd templates.Itself))) c cs ≡ Some piece → is_verbatim piece ≡ true
    go c cs piece true b l h e = cc
    go c cs piece false true l h e = cc
    go c cs piece false false true h e =
        let same : templates.Break (line_end c cs) ≡ piece = cc in
        ap is_verbatim (sym same) ∙ ends (c == 13) refl h.1
      where
        ends : (r : Bool) → (c == 13) ≡ r → r ≡ false → not (next_is 13 (line_end c cs)) ≡ true
        ends true e h = cc
        ends false e h = rw e (ap not e)
    go c cs piece false false false h e = let same : templates.Plain c ≡ piece = cc in ap is_verbatim (sym same)

-- the text of a template
pub template_is_free : TemplateIsFree
template_is_free after text ok h = go after (pieces template_cutter tt text) (template_end (remainder template_cutter tt text)) refl ok h
  where
    fine : (ps : List TemplatePiece) → pieces template_cutter tt text ≡ ps → list_any is_turned (spelled template_cutter ps) ≡ false → list_all is_verbatim ps ≡ true
    fine ps e h =
        subst (λ qs. list_all is_verbatim qs ≡ true) e
        (pieces-fine template_cutter is_turned is_verbatim template_is_cutter template-keeps tt text (ap (λ qs. list_any is_turned (spelled template_cutter qs)) e ∙ h))

    token : (ps : List TemplatePiece) (refused : Option ErrorView) → is_turned_in (templates.found_text (Ok (token_of_refusal refused ps)) ps) ≡ false → list_any is_turned (spelled template_cutter ps) ≡ false
    token ps None h = h
    token ps (Some error) h = h

    read : (ps : List TemplatePiece) (end : TemplateEnd) → pieces template_cutter tt text ≡ ps → is_ok (text_of ps end).value ≡ true → is_turned_in (text_of ps end) ≡ false → list_all is_verbatim ps ≡ true
    read ps AtEnd e ok h = cc
    read ps AtBackQuote e ok h = fine ps e (token ps (last_refusal 0 None ps) h)
    read ps AtDollarBrace e ok h = fine ps e (token ps (last_refusal 0 None ps) h)

    go : (after : Bool) (ps : List TemplatePiece) (end : TemplateEnd) → pieces template_cutter tt text ≡ ps → is_ok (template_of after ps end).value ≡ true → is_turned_in (template_of after ps end) ≡ false
        → list_all is_verbatim ps ≡ true
    go false ps end e ok h = read ps end e ok h
    go true [] end e ok h = refl
    go true (piece ∷ more) end e ok h = read (piece ∷ more) end e ok h

-- Numbers

number-free : (legacy : Bool) (rule : NumberRule) (text : Text) → is_ok (number legacy rule text).value ≡ true → is_turned_in (number legacy rule text) ≡ false
    → not (list_any is_separator (number legacy rule text).spelling) ≡ true
number-free legacy rule text ok h = go (refusal rule parts (behind_number parts text)) ok h
  where
    parts : Number
    parts = number_parts text

    kinds : (big : Bool) → turned_in (Ok (numbers.token_of big parts)) (numbers.number_text parts) ≡ false → not (list_any is_separator (numbers.number_text parts)) ≡ true
    kinds true h = ap not h
    kinds false h = ap not h

    go : (refused : Option ErrorView) → is_ok (found_number legacy rule parts refused).value ≡ true → is_turned_in (found_number legacy rule parts refused) ≡ false
        → not (list_any is_separator (found_number legacy rule parts refused).spelling) ≡ true
    go (Some error) ok h = cc
    go None ok h = kinds (is_big_number parts) h

unsaid : (b : Bool) → not b ≡ true → b ≡ false
unsaid true h = cc
unsaid false h = refl

pub number_is_free : NumberIsFree
number_is_free legacy rule text ok h = unsaid (list_any is_separator (number legacy rule text).spelling) (number-free legacy rule text ok h)

-- Regular expressions

pub expression_is_free : ExpressionIsFree
expression_is_free text ok h = go (next_is 47 behind) ok h
  where
    inner : Text
    inner = drop 1 text

    behind : Text
    behind = remainder body_cutter tt inner

    body : Text
    body = spelled body_cutter (body_pieces inner)

    borrowed : (found : Scanned AtomView) → (is_ok found.value ≡ true → list_any is_backslash found.spelling ≡ false → is_borrowed_name found.value ≡ true)
        → is_ok (closed_expression body found).value ≡ true → is_turned_in (closed_expression body found) ≡ false → is_borrowed (closed_expression body found).value ≡ true
    borrowed found free ok h = by found.value free ok h
      where
        by : (value : Result AtomView ErrorView) → (is_ok value ≡ true → list_any is_backslash found.spelling ≡ false → is_borrowed_name value ≡ true)
            → is_ok (regex_value body value) ≡ true → turned_in (regex_value body value) (slashed body ++ found.spelling) ≡ false → is_borrowed (regex_value body value) ≡ true
        by (Ok name) free ok h = free refl (none-in is_backslash (slashed body) found.spelling h).1
        by (Err error) free ok h = cc

    flagged : (b : Bool) → is_ok (closed_expression body (cond b (identifier_name (drop 1 behind)) no_flags)).value ≡ true
        → is_turned_in (closed_expression body (cond b (identifier_name (drop 1 behind)) no_flags)) ≡ false
        → is_borrowed (closed_expression body (cond b (identifier_name (drop 1 behind)) no_flags)).value ≡ true
    flagged true ok h = borrowed (identifier_name (drop 1 behind)) (name_is_free (drop 1 behind)) ok h
    flagged false ok h = refl

    go : (b : Bool) → is_ok (cond b (closed_expression body (flags (drop 1 behind))) (open_expression inner)).value ≡ true
        → is_turned_in (cond b (closed_expression body (flags (drop 1 behind))) (open_expression inner)) ≡ false
        → is_borrowed (cond b (closed_expression body (flags (drop 1 behind))) (open_expression inner)).value ≡ true
    go true ok h = flagged (next_passes is_ident_start (drop 1 behind)) ok h
    go false ok h = cc

-- Tokens

asks-none : (o : Lookahead) (mode : Mode) (text : Text) → is_ok (read_opened o mode text).value ≡ true → is_turned_in (read_opened o mode text) ≡ false
    → asks_for_none o text (read_opened o mode text) ≡ true
asks-none opens.Template mode text ok h = template_is_free (is_tpl_element mode.previous) text ok h
asks-none opens.Number mode text ok h = number-free (ts1085 mode) mode.settings.numbers text ok h
asks-none opens.String mode text ok h = string_is_free text ok h
asks-none opens.Word mode text ok h = name_is_free text (name-ok mode text ok) (word-turned (words.word mode.context text).value (words.word mode.context text).spelling ok h)
asks-none opens.Bars mode text ok h = cc
asks-none opens.Other mode text ok h = refl

is-free-at : (mode : Mode) (flag : Bool) (text : Text) → is_ok (token_at mode flag text).value ≡ true → (token_at mode flag text).faults ≡ []
    → is_turned_in (token_at mode flag text) ≡ false → is_free_at mode flag text ≡ true
is-free-at mode flag text ok none h =
    let o = lookahead mode flag text in
    let s = token_at mode flag text in
    ap (λ b. b && (is_empty s.faults && asks_for_none o text s)) ok
    ∙ ap (λ faults. is_empty faults && asks_for_none o text s) none
    ∙ asks-none o mode text ok h

no-error : (value : Result TokenView ErrorView) → is_error (kind_of (token_of value)) ≡ false → is_ok value ≡ true
no-error (Ok token) h = refl
no-error (Err error) h = cc

not-turned : (value : Result TokenView ErrorView) (spelling : Text) → list_any (turns_meaning (kind_of (token_of value))) spelling ≡ false → turned_in value spelling ≡ false
not-turned (Ok token) spelling h = h
not-turned (Err error) spelling h = refl

-- Reads

code-free : (mode : Mode) (input : Cursor) → (reading_code mode input).faults ≡ [] → (reading_code mode input).comments ≡ []
    → MeansItself (reading_code mode input).found (spelling_at mode input) → is_free_code mode input ≡ true
unfolding reading_code
code-free mode input = go (rest here)
  where
    gap : GapView
    gap = gap_in mode (place input) (rest input)

    here : Cursor
    here = behind_gap mode input

    flag : Bool
    flag = has_line_break (gap_mode mode) (rest input)

    empty : {A : Type 0} (items : List A) (b : Bool) → items ≡ [] → b ≡ true → (is_empty items && b) ≡ true
    empty items b none h = ap (λ x. is_empty x && b) none ∙ h

    token : (text : Text) → (token_found mode flag (place here) text).faults ≡ [] → is_error (kind_of (token_of (token_found mode flag (place here) text).value)) ≡ false
        → list_any (turns_meaning (kind_of (token_of (token_found mode flag (place here) text).value))) (token_at mode flag text).spelling ≡ false → is_free_at mode flag text ≡ true
    token text faults ok turned =
        let s = token_at mode flag text in
        let kind = placed-kind (lookahead mode flag text) mode (place here) s in
        is-free-at mode flag text
        (no-error s.value (ap is_error (sym kind) ∙ ok))
        (map-none (fault_behind (place here)) s.faults (sym (placed-faults (lookahead mode flag text) mode (place here) s) ∙ faults))
        (not-turned s.value s.spelling (ap (λ k. list_any (turns_meaning k) s.spelling) (sym kind) ∙ turned))

    go : (text : Text) → (reading_behind mode gap here text).faults ≡ [] → (reading_behind mode gap here text).comments ≡ []
        → MeansItself (reading_behind mode gap here text).found (token_at mode flag text).spelling → (is_empty gap.faults && (is_empty gap.comments && is_free_behind mode flag text)) ≡ true
    go [] faults comments means = empty gap.faults _ faults (empty gap.comments true comments refl)
    go (c ∷ cs) faults comments means =
        let of_gap = append-none gap.faults _ faults in
        empty gap.faults _ of_gap.0 (empty gap.comments _ (append-none gap.comments _ comments).0 (token (c ∷ cs) of_gap.1 means.0 means.1))

reading-free : (mode : Mode) (input : Cursor) → (reading mode input).faults ≡ [] → (reading mode input).comments ≡ []
    → MeansItself (reading mode input).found (spelling_at mode input) → is_free mode input ≡ true
reading-free mode input = go (stands_shebang mode (rest input))
  where
    go : (b : Bool) → (reading_if b mode input).faults ≡ [] → (reading_if b mode input).comments ≡ []
        → MeansItself (reading_if b mode input).found (spelling_at mode input) → (b || is_free_code mode input) ≡ true
    go true faults comments means = refl
    go false faults comments means = code-free mode input faults comments means

again-free : (flag : Bool) (here : Cursor) → (reading_again flag here).faults ≡ [] → MeansItself (reading_again flag here).found (regular_expression (rest here)).spelling
    → is_free_again (rest here) ≡ true
again-free flag here faults means =
    let s = regular_expression (rest here) in
    let kind = value-kind (place here) s.value in
    let ok = no-error s.value (ap is_error (sym kind) ∙ means.0) in
    let turned = not-turned s.value s.spelling (ap (λ k. list_any (turns_meaning k) s.spelling) (sym kind) ∙ means.1) in
    ap (λ b. b && is_empty s.faults) (expression_is_free (rest here) ok turned)
    ∙ ap is_empty (map-none (fault_behind (place here)) s.faults faults)

pub reads_are_free : ReadsAreFree
reads_are_free l = go l.reread
  where
    go : (r : Option BytePos) → (reading_from r l).faults ≡ [] → (reading_from r l).comments ≡ [] → MeansItself (reading_from r l).found (spelling_from r l) → is_free_from r l ≡ true
    go None faults comments means = reading-free (mode_of l) l.input faults comments means
    go (Some slash) faults comments means = again-free l.state.seen.flag (at_place slash l.input) faults means
