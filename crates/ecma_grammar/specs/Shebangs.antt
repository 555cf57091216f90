-- Shebangs (ECMA-262 Hashbang Comment, 12.5): `#!` at the very start, and the line behind it.
use Rattle.std.specs.Prelude.{◌≡◌, Bool, true, [], ◌++◌, codes, drop, Option, Some, None, encode_utf8_all, if◌then◌else◌}
use Rattle.ecma_place.specs.Text.{Text}
use Rattle.ecma_place.specs.Atom.{borrowed_atom}
use Rattle.ecma_token.specs.View.{TokenView, plain_token}
use Rattle.ecma_token.specs.declared.token.Token.{Token, Shebang}
use Rattle.ecma_grammar.specs.declared.gap_mode.GapMode.{GapMode}
use Rattle.ecma_grammar.specs.Found.{Scanned, scanned}
use Rattle.ecma_grammar.specs.Fronts.{line, begins_with}
use Rattle.ecma_grammar.specs.Gaps.{element}
use Rattle.ecma_grammar.specs.Locality.{IsLocal, ends_line}

abbrev pub opens_shebang : Text → Bool
opens_shebang text = begins_with (codes "#!") text

-- the shebang with this line, and what is written of it

abbrev pub shebang_of : Text → Token
shebang_of line = Shebang (borrowed_atom (encode_utf8_all line))

abbrev pub shebang_spelling : Text → Text
shebang_spelling line = codes "#!" ++ line

abbrev pub found_shebang : Text → Scanned (Option TokenView)
found_shebang line = scanned (Some (plain_token (shebang_of line))) (shebang_spelling line)

-- the shebang with which a text begins, or nothing
abbrev pub shebang : Text → Scanned (Option TokenView)
shebang text = if opens_shebang text then found_shebang (line (drop 2 text)) else scanned None []

-- Laws

-- A shebang is read the same in front of a line feed and at the end.
abbrev pub ShebangIsLocal : Type 0
ShebangIsLocal = IsLocal opens_shebang shebang ends_line

-- No shebang begins an element of a gap.
abbrev pub ShebangBeginsNoGap : Type 0
ShebangBeginsNoGap = (mode : GapMode) (flag : Bool) (text : Text) → opens_shebang text ≡ true → element mode flag text ≡ None
