-- The sets of characters that the lexical grammar names. Sections are those of ECMA-262.
use Rattle.std.specs.Prelude.{ℕ, Bool, ◌||◌, ◌&&◌, ◌==◌, not, nat_lt, if◌then◌else◌}
use Rattle.std.specs.Char.{is_whitespace, is_ascii_alphabetic, is_ascii_alphanumeric}
use Rattle.unicode.specs.Ident.{is_xid_start, is_xid_continue}

-- 12.7 Names and Keywords, IdentifierStartChar: `$`, `_`, an ASCII letter, or XID_Start past ASCII.
-- The standard has ID_Start; its letters that are not XID_Start are left out by our own choice.
unfoldable pub is_ident_start : ℕ → Bool
is_ident_start c = if nat_lt c 128 then (c == 36 || c == 95) || is_ascii_alphabetic c else is_xid_start c

-- 12.7 Names and Keywords, IdentifierPartChar: `$`, `_`, an ASCII letter or digit, U+200C, U+200D, or XID_Continue past ASCII.
-- The standard has ID_Continue; what is not XID_Continue is left out by our own choice.
unfoldable pub is_ident_part : ℕ → Bool
is_ident_part c = if nat_lt c 128 then (c == 36 || c == 95) || is_ascii_alphanumeric c else (c == 0x200C || c == 0x200D) || is_xid_continue c

-- 12.9.4 String Literals: CR or LF, the line terminators that no string literal holds
unfoldable pub is_line_break : ℕ → Bool
is_line_break c = c == 13 || c == 10

-- 12.3 Line Terminators, LineTerminator: CR, LF, U+2028 or U+2029
unfoldable pub is_line_terminator : ℕ → Bool
is_line_terminator c = ((c == 13 || c == 10) || c == 0x2028) || c == 0x2029

-- 12.2 White Space and 12.3 Line Terminators together: TAB, VT, FF, SPACE, U+FEFF, a line terminator, or what `char::is_whitespace` names.
-- That is Space_Separator, as the standard has it, and U+0085, which is white space here by our own choice.
unfoldable pub is_white_space : ℕ → Bool
is_white_space c = (((((c == 9 || c == 11) || c == 12) || c == 32) || c == 0xFEFF) || is_whitespace c) || is_line_terminator c

-- 12.2 White Space, WhiteSpace, and U+0085: white space that is no line terminator
unfoldable pub is_ws : ℕ → Bool
is_ws c = is_white_space c && not (is_line_terminator c)
