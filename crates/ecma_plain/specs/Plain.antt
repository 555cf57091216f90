-- Reads of tokens of which nothing is to be told besides.
use Rattle.std.specs.Prelude.{◌≡◌, ℕ, Bool, true, false, ◌||◌, ◌==◌, Some, [], length, slice_get, encode_utf8_all, Ok}
use Rattle.std.specs.Char.{is_ascii_alphabetic}
use Rattle.std.specs.List.{prefix_len, take_while}
use Rattle.ecma_place.specs.Character.{is_ident_part}
use Rattle.ecma_place.specs.Cursor.{Cursor, rest, place, passed}
use Rattle.ecma_token.specs.View.{SpannedView, TokenView, spanned_view}
use Rattle.ecma_syntax.specs.Word.{word_kind, word_of}
use Rattle.ecma_syntax.specs.declared.context.Context.{Context}
use Rattle.ecma_syntax.specs.declared.word.WordKind.{WordKind}
use Rattle.ecma_reads.specs.Found.{FoundView, scanned}
use Rattle.ecma_reads.specs.Words.{word}
use Rattle.ecma_reads.specs.BlankGaps.{IsBlankGap}
use Rattle.ecma_reads.specs.declared.blank_gap.BlankGap.{BlankGap}
use Rattle.ecma_state.specs.Mode.{gap_mode, is_template}
use Rattle.ecma_state.specs.Reading.{Reading}
use Rattle.ecma_state.specs.Session.{kept_of}
use Rattle.ecma_state.specs.TokenAt.{token_at, token_comments, token_found}
use Rattle.ecma_state.specs.declared.mode.Mode.{Mode}
use Rattle.ecma_plain.specs.declared.plain.Plain.{Plain}

-- a read that finds this token, and nothing besides
abbrev pub plain_reading : SpannedView → Cursor → Reading
plain_reading t behind = record { found = Some t; end_flag = t.had_line_break; faults = []; comments = []; input = behind }

-- the same in a template, where the flag before the token doesn't stand, and text holds line terminators
abbrev pub text_reading : SpannedView → Cursor → Reading
text_reading t behind = record { found = Some t; end_flag = false; faults = []; comments = []; input = behind }

-- what stands in a template is read, and a token came before
abbrev pub ReadsText : Mode → Type 0
ReadsText mode = (mode.shebang_allowed ≡ false) × (mode.first ≡ false) × (is_template mode.top ≡ true)

-- such a text
abbrev pub text_view : SpannedView → FoundView TokenView
text_view t = record { value = Ok t.token; faults = []; extent = t.span; line_break = t.had_line_break }

-- a token without a fault that holds no line terminator
abbrev pub plain_view : SpannedView → FoundView TokenView
plain_view t = record { value = Ok t.token; faults = []; extent = t.span; line_break = false }

-- it stands between two cursors, and holds no comment
pub record IsPlain (mode : Mode) (t : SpannedView) (old now : Cursor) : Type 0 where
  pub found : token_found mode t.had_line_break (place old) (rest old) ≡ plain_view t
  pub comments : token_comments mode t.had_line_break (place old) (rest old) ≡ []
  pub moved : now ≡ passed (length (token_at mode t.had_line_break (rest old)).spelling) old

-- what is kept of it is that of the token
abbrev pub IsKept : Plain → Type 0
IsKept plain = plain.kept ≡ kept_of (spanned_view plain.token)

-- a word begins with the character, which is ASCII and no backslash
abbrev pub begins_word : ℕ → Bool
begins_word c = (c == 36 || c == 95) || is_ascii_alphabetic c

-- a word with no escape, which is of this kind, stands between two cursors
pub record PassesWord (old now : Cursor) (kind : WordKind) : Type 0 where
  pub of_kind : kind ≡ word_kind (word_of (encode_utf8_all (take_while is_ident_part (rest old))))
  pub word : (context : Context) → word context (rest old) ≡ scanned (word_of (encode_utf8_all (take_while is_ident_part (rest old)))) (take_while is_ident_part (rest old))
  pub moved : now ≡ passed (prefix_len is_ident_part (rest old)) old

-- some characters stand between two cursors of a text
abbrev pub IsAhead : Cursor → Cursor → Type 0
IsAhead old now = (n : ℕ) × (now ≡ passed n old)

-- behind the first token, white space alone stands between two cursors, and this character behind it
pub record StandsPlain (mode : Mode) (old now : Cursor) (gap : BlankGap) : Type 0 where
  pub given : mode.shebang_allowed ≡ false
  pub in_code : is_template mode.top ≡ false
  pub next : slice_get (rest now) 0 ≡ Some gap.next
  pub blank : IsBlankGap (gap_mode mode) old now gap.line_break
