-- Words that were read by hand.
use Rattle.std.proofs.Common.{◌≡◌, ℕ, Bool, true, false, List, [], ◌∷◌, Ok, Err, refl, ap, ◌∙◌}
use Rattle.std.specs.Prelude.{codes, encode_utf8_all}
use lib.Utf8.{encode}
use Rattle.ecma_place.specs.Text.{Text}
use Rattle.ecma_place.specs.Atom.{borrowed_atom, owned_atom}
use Rattle.ecma_place.specs.Character.{is_ident_start, is_ident_part, is_line_terminator}
use Rattle.ecma_syntax.specs.Keyword.{keyword_of}
use Rattle.ecma_syntax.specs.KnownIdent.{known_of}
use Rattle.ecma_syntax.specs.Word.{word_of}
use Rattle.ecma_syntax.specs.Defaults.{no_context}
use Rattle.ecma_syntax.specs.declared.context.Context.{Context}
use Rattle.ecma_syntax.specs.declared.keyword.Keyword.TheVariants.{Let}
use Rattle.ecma_syntax.specs.declared.known_ident.KnownIdent.TheVariants.{Type_}
use Rattle.ecma_syntax.specs.declared.word.IdentLike.TheVariants.{Known, Other}
use Rattle.ecma_syntax.specs.declared.word.Word.{Word}
use Rattle.ecma_syntax.specs.declared.word.Word.TheVariants.{Keyword, Ident}
use Rattle.ecma_token.specs.View.{ErrorView, KindView, plain_kind, bad_escape}
use Rattle.ecma_token.specs.declared.error.SyntaxError.{EscapeInReservedWord, ExpectedUnicodeEscape, InvalidIdentChar, InvalidUnicodeEscape}
use Rattle.ecma_grammar.specs.declared.found.Blame.TheVariants.{Always}
use Rattle.ecma_grammar.specs.Found.{Fault, Scanned, scanned, span_of}
use Rattle.ecma_grammar.specs.Fronts.{front, after, next_is}
use Rattle.ecma_grammar.specs.Words.{identifier_name, word}
use Rattle.ecma_name.proofs.WordLaws.{plain_word_is_its_row}

abbrev error : KindView → ℕ → ℕ → ErrorView
error kind low high = record { kind = kind; span = span_of low high }

abbrev bad_character : ℕ → ℕ → Fault
bad_character low high = record { blame = Always; error = error (plain_kind InvalidIdentChar) low high }

-- no context flag is set, apart from `strict`
abbrev under : Bool → Context
under strict = record no_context { strict = strict }

abbrev read : Text → Scanned Word
read text = word (under false) text

-- a word, what is said of it, and its spelling
abbrev found : Word → List Fault → Text → Scanned Word
found w faults spelling = record { value = Ok w; faults = faults; spelling = spelling; line_break = false }

-- a refusal and its spelling
abbrev refused : ErrorView → List Fault → Text → Scanned Word
refused e faults spelling = record { value = Err e; faults = faults; spelling = spelling; line_break = false }

-- `let x`
keyword : read (codes "let x") ≡ scanned (Keyword Let) (codes "let")
unfolding is_ident_part is_line_terminator encode keyword_of known_of
keyword = refl

-- `x = 1`
name : read (codes "x = 1") ≡ scanned (Ident (Other (borrowed_atom (codes "x")))) (codes "x")
unfolding is_ident_part is_line_terminator encode keyword_of known_of
name = refl

-- `a\u{62}c`
braced : read (codes "a\\u{62}c") ≡ scanned (Ident (Other (owned_atom (codes "abc")))) (codes "a\\u{62}c")
unfolding is_ident_start is_ident_part is_line_terminator encode keyword_of known_of
braced = refl

-- `\u0062reak`
reserved : read (codes "\\u0062reak") ≡ refused (error (plain_kind (EscapeInReservedWord (owned_atom (codes "break")))) 0 10) [] (codes "\\u0062reak")
unfolding is_ident_start is_ident_part is_line_terminator encode keyword_of known_of
reserved = refl

-- `l\u0065t`, and under strict mode
escaped_let : read (codes "l\\u0065t") ≡ scanned (Keyword Let) (codes "l\\u0065t")
unfolding is_ident_start is_ident_part is_line_terminator encode keyword_of known_of
escaped_let = refl

strict_let : word (under true) (codes "l\\u0065t") ≡ refused (error (plain_kind (EscapeInReservedWord (owned_atom (codes "let")))) 0 8) [] (codes "l\\u0065t")
unfolding is_ident_start is_ident_part is_line_terminator encode keyword_of known_of
strict_let = refl

-- `t\u0079pe`: a known name holds no text
known : read (codes "t\\u0079pe") ≡ scanned (Ident (Known Type_)) (codes "t\\u0079pe")
unfolding is_ident_start is_ident_part is_line_terminator encode keyword_of known_of
known = refl

-- `\u0065num` and `nul\u006c`
reserved_name : read (codes "\\u0065num") ≡ refused (error (plain_kind (EscapeInReservedWord (owned_atom (codes "enum")))) 0 9) [] (codes "\\u0065num")
unfolding is_ident_start is_ident_part is_line_terminator encode keyword_of known_of
reserved_name = refl

reserved_literal : read (codes "nul\\u006c") ≡ refused (error (plain_kind (EscapeInReservedWord (owned_atom (codes "null")))) 0 9) [] (codes "nul\\u006c")
unfolding is_ident_start is_ident_part is_line_terminator encode keyword_of known_of
reserved_literal = refl

-- `\u0061`
first_escaped : read (codes "\\u0061") ≡ scanned (Ident (Other (owned_atom (codes "a")))) (codes "\\u0061")
unfolding is_ident_start is_ident_part is_line_terminator encode keyword_of known_of
first_escaped = refl

-- `\u0031a`: a digit does not begin a word, and stays
digit_first : read (codes "\\u0031a") ≡ found (Ident (Other (owned_atom (codes "1a")))) (bad_character 0 6 ∷ []) (codes "\\u0031a")
unfolding is_ident_start is_ident_part is_line_terminator encode keyword_of known_of
digit_first = refl

-- `a\u0031`: it may stand later
digit_later : read (codes "a\\u0031") ≡ found (Ident (Other (owned_atom (codes "a1")))) [] (codes "a\\u0031")
unfolding is_ident_start is_ident_part is_line_terminator encode keyword_of known_of
digit_later = refl

-- `a\ud800 `: a surrogate is its spelling
surrogate : read (codes "a\\ud800 ") ≡ found (Ident (Other (owned_atom (codes "a\\ud800")))) (bad_character 1 7 ∷ []) (codes "a\\ud800")
unfolding is_ident_start is_ident_part is_line_terminator encode keyword_of known_of
surrogate = refl

-- `a\x`: the text goes on at `x`
no_letter : read (codes "a\\x") ≡ refused (error (plain_kind ExpectedUnicodeEscape) 1 1) [] (codes "a\\")
unfolding is_ident_start is_ident_part is_line_terminator encode keyword_of known_of
no_letter = refl

-- a backslash alone
lone_backslash : read (codes "\\") ≡ refused (error (plain_kind ExpectedUnicodeEscape) 0 0) [] (codes "\\")
unfolding is_ident_start is_ident_part is_line_terminator encode keyword_of known_of
lone_backslash = refl

-- `\u0031\u12`: the fault before the refusal stays
short : read (codes "\\u0031\\u12") ≡ refused (error (bad_escape (codes "4 hex characters")) 10 10) (bad_character 0 6 ∷ []) (codes "\\u0031\\u12")
unfolding is_ident_start is_ident_part is_line_terminator encode keyword_of known_of
short = refl

-- `a\u{}`
empty_braces : read (codes "a\\u{}") ≡ refused (error (bad_escape (codes "1-6 hex characters")) 4 4) [] (codes "a\\u{")
unfolding is_ident_start is_ident_part is_line_terminator encode keyword_of known_of
empty_braces = refl

-- `a\u{110000}`
out_of_range : read (codes "a\\u{110000}") ≡ refused (error (bad_escape (codes "1-6 hex characters in the range 0 to 10FFFF.")) 10 10) [] (codes "a\\u{110000")
unfolding is_ident_start is_ident_part is_line_terminator encode keyword_of known_of
out_of_range = refl

-- `a\u{41 `: no closing brace
open_brace : read (codes "a\\u{41 ") ≡ refused (error (plain_kind InvalidUnicodeEscape) 4 6) [] (codes "a\\u{41")
unfolding is_ident_start is_ident_part is_line_terminator encode keyword_of known_of
open_brace = refl

letter : is_ident_part 97 ≡ true
unfolding is_ident_part
letter = refl

space : is_ident_part 32 ≡ false
unfolding is_ident_part
space = refl

past_ascii_row : scanned (word_of (encode_utf8_all (97 ∷ 0xE9 ∷ []))) (97 ∷ 0xE9 ∷ []) ≡ scanned (Ident (Other (borrowed_atom (97 ∷ 0xC3 ∷ 0xA9 ∷ [])))) (97 ∷ 0xE9 ∷ [])
unfolding encode keyword_of known_of
past_ascii_row = refl

-- `aé b`: a character of two bytes, which Unicode names
past_ascii : is_ident_part 0xE9 ≡ true → read (codes "aé b") ≡ scanned (Ident (Other (borrowed_atom (97 ∷ 0xC3 ∷ 0xA9 ∷ [])))) (97 ∷ 0xE9 ∷ [])
past_ascii named =
    let behind : after is_ident_part (codes "aé b") ≡ codes " b" = simp (letter, named, space) in
    let run : front is_ident_part (codes "aé b") ≡ 97 ∷ 0xE9 ∷ [] = simp (letter, named, space) in
    plain_word_is_its_row (under false) (codes "aé b") (ap (next_is 92) behind) ∙ ap (λ l. scanned (word_of (encode_utf8_all l)) l) run ∙ past_ascii_row

-- the flags `g\u0069`, and a reserved word, which is not asked for here
flags : identifier_name (codes "g\\u0069") ≡ scanned (owned_atom (codes "gi")) (codes "g\\u0069")
unfolding is_ident_start is_ident_part is_line_terminator encode keyword_of known_of
flags = refl

reserved_flags : identifier_name (codes "\\u0062reak") ≡ scanned (owned_atom (codes "break")) (codes "\\u0062reak")
unfolding is_ident_start is_ident_part is_line_terminator encode keyword_of known_of
reserved_flags = refl
