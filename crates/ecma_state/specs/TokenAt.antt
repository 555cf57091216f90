-- The token at a place (ECMA-262 InputElementDiv, 12): which reader reads it, by its first characters.
use Rattle.std.specs.Prelude.{◌≡◌, ⊤, ℕ, Bool, true, false, not, ◌&&◌, List, [], ◌∷◌, Option, Some, None, Result, Ok, Err, is_ok}
use Rattle.std.specs.List.{list_all, list_any}
use Rattle.ecma_place.specs.Atom.{AtomView}
use Rattle.ecma_place.specs.Text.{Text}
use Rattle.ecma_place.specs.declared.comment.Comment.{Comment}
use Rattle.ecma_syntax.specs.declared.word.Word.{Word}
use Rattle.ecma_token.specs.declared.token.Token as token
use Rattle.ecma_token.specs.declared.error.SyntaxError.{UnexpectedChar}
use Rattle.ecma_token.specs.View.{TokenView, ErrorView, plain_kind, plain_token, error_token, owns_nothing}
use Rattle.ecma_grammar.specs.Bars as bars
use Rattle.ecma_grammar.specs.Found.{FoundView, Scanned, error_at, found_at, token_behind}
use Rattle.ecma_grammar.specs.Numbers as numbers
use Rattle.ecma_grammar.specs.Words as words
use Rattle.ecma_grammar.specs.Punctuators as punctuators
use Rattle.ecma_grammar.specs.Pieces.{pieces}
use Rattle.ecma_grammar.specs.Strings as strings
use Rattle.ecma_grammar.specs.Templates as templates
use Rattle.ecma_state.specs.Mode.{gap_mode, type_mode, is_since_es5, is_template, is_tpl_element, is_typescript}
use Rattle.ecma_state.specs.declared.mode.Mode.{Mode}
use Rattle.ecma_state.specs.declared.lookahead.Lookahead.{Lookahead}
use Rattle.ecma_state.specs.declared.lookahead.Lookahead.TheVariants as opens

abbrev pub word_value : Result Word ErrorView → Result TokenView ErrorView
word_value (Ok word) = Ok (plain_token (token.Word word))
word_value (Err error) = Err error

abbrev pub as_token : Scanned Word → Scanned TokenView
as_token s = record { value = word_value s.value; faults = s.faults; spelling = s.spelling; line_break = s.line_break }

abbrev pub word_token : Mode → Text → Scanned TokenView
word_token mode text = as_token (words.word mode.context text)

-- a character with which nothing begins: our own choice, as ECMA-262 has no token for it
abbrev pub stray : Text → Scanned TokenView
stray [] = record { value = Err (error_at (plain_kind (UnexpectedChar 0)) 0); faults = []; spelling = []; line_break = false }
stray (c ∷ cs) = record { value = Err (error_at (plain_kind (UnexpectedChar c)) 0); faults = []; spelling = c ∷ []; line_break = false }

abbrev pub punctuator_or_stray : Option punctuators.Punctuator → Text → Scanned TokenView
punctuator_or_stray (Some p) text = record { value = Ok (plain_token p.token); faults = []; spelling = p.spelling; line_break = false }
punctuator_or_stray None text = stray text

abbrev pub other_token : Mode → Text → Scanned TokenView
other_token mode text = punctuator_or_stray (punctuators.punctuator_in (type_mode mode) text) text

-- what the first characters of a text open, by the first question that is answered so
abbrev pub lookahead_from : Bool → Bool → Bool → Bool → Bool → Lookahead
lookahead_from true number string word bars = opens.Template
lookahead_from false true string word bars = opens.Number
lookahead_from false false true word bars = opens.String
lookahead_from false false false true bars = opens.Word
lookahead_from false false false false true = opens.Bars
lookahead_from false false false false false = opens.Other

-- in a template whatever stands there is its text, and bars open a marker only where the flag stands
abbrev pub lookahead : Mode → Bool → Text → Lookahead
lookahead mode flag text =
    lookahead_from
    (is_template mode.top)
    (numbers.opens_number text)
    (strings.opens_string text)
    (words.opens_word text)
    (flag && bars.opens_bars text)

-- what each reader asks of the text: that it opens what is read, and the bars' reader is another's
abbrev pub Opens : Lookahead → Text → Type 0
Opens opens.Template text = ⊤
Opens opens.Number text = numbers.opens_number text ≡ true
Opens opens.String text = strings.opens_string text ≡ true
Opens opens.Word text = words.opens_word text ≡ true
Opens opens.Bars text = ⊥
Opens opens.Other text = ⊤

-- legacy octals are told of as TypeScript does, for targets from the fifth edition on
abbrev pub ts1085 : Mode → Bool
ts1085 mode = is_typescript mode.settings.syntax && is_since_es5 mode.settings.target

abbrev pub read_opened : Lookahead → Mode → Text → Scanned TokenView
read_opened opens.Template mode text = templates.template_text (is_tpl_element mode.previous) text
read_opened opens.Number mode text = numbers.number (ts1085 mode) mode.settings.numbers text
read_opened opens.String mode text = strings.string_literal text
read_opened opens.Word mode text = word_token mode text
read_opened opens.Bars mode text = bars.bars_token text
read_opened opens.Other mode text = other_token mode text

-- the token at a text that isn't empty, where the flag of the gap before stands or not
abbrev pub token_at : Mode → Bool → Text → Scanned TokenView
token_at mode flag text = read_opened (lookahead mode flag text) mode text

-- what is found where it is read at the place n: template text that meets the end is in error from where its template
-- was opened
abbrev pub placed : Lookahead → Mode → ℕ → Scanned TokenView → FoundView TokenView
placed opens.Template mode n s = templates.template_found mode.opened.0 n s
placed opens.Number mode n s = found_at token_behind n s
placed opens.String mode n s = found_at token_behind n s
placed opens.Word mode n s = found_at token_behind n s
placed opens.Bars mode n s = found_at token_behind n s
placed opens.Other mode n s = found_at token_behind n s

-- the token of a text that isn't empty and stands at the place n
abbrev pub token_found : Mode → Bool → ℕ → Text → FoundView TokenView
token_found mode flag n text = placed (lookahead mode flag text) mode n (token_at mode flag text)

-- the comments of a token: a marker of bars holds some
abbrev pub comments_in : Lookahead → Mode → ℕ → Text → List (Comment × Bool)
comments_in opens.Bars mode n text = bars.bars_comments_at n (gap_mode mode) text
comments_in _ mode n text = []

abbrev pub token_comments : Mode → Bool → ℕ → Text → List (Comment × Bool)
token_comments mode flag n text = comments_in (lookahead mode flag text) mode n text

-- all texts of the token are slices
abbrev pub is_borrowed : Result TokenView ErrorView → Bool
is_borrowed (Ok token) = owns_nothing token
is_borrowed (Err error) = false

abbrev pub is_borrowed_name : Result AtomView ErrorView → Bool
is_borrowed_name (Ok text) = text.is_borrowed
is_borrowed_name (Err error) = false

-- nothing in a token asks for memory: no escape or CR in a template's text, no separator in a number, no escape in a
-- string or a word
abbrev pub asks_for_none : Lookahead → Text → Scanned TokenView → Bool
asks_for_none opens.Template text s = list_all templates.is_verbatim (pieces templates.template_cutter tt text)
asks_for_none opens.Number text s = not (list_any numbers.is_separator s.spelling)
asks_for_none opens.String text s = is_borrowed s.value
asks_for_none opens.Word text s = is_borrowed_name (words.identifier_name text).value
asks_for_none opens.Bars text s = false
asks_for_none opens.Other text s = true

abbrev pub is_empty : {A : Type 0} → List A → Bool
is_empty [] = true
is_empty (item ∷ items) = false

-- what is read does not allocate where nothing is wrong with it and it asks for none
abbrev pub is_free_token : Lookahead → Text → Scanned TokenView → Bool
is_free_token opened text s = is_ok s.value && (is_empty s.faults && asks_for_none opened text s)

abbrev pub is_free_at : Mode → Bool → Text → Bool
is_free_at mode flag text = is_free_token (lookahead mode flag text) text (token_at mode flag text)

-- a refused text is a token too
abbrev pub token_of : Result TokenView ErrorView → TokenView
token_of (Ok token) = token
token_of (Err error) = error_token error.kind error.span
