-- What stands behind a gap, and a shebang in front of a line feed.
use Rattle.std.specs.Prelude.{◌≡◌, true, false, ◌++◌, codes, drop, None}
use Rattle.ecma_place.specs.Text.{Text}
use Rattle.ecma_scan.specs.declared.gap_mode.GapMode.{GapMode}
use Rattle.ecma_scan.specs.Fronts.{line}
use Rattle.ecma_scan.specs.Gaps.{behind_gap, element, has_line_break}
use Rattle.ecma_scan.specs.Locality.{ends_line}
use Rattle.ecma_scan.specs.Shebangs.{opens_shebang}

-- Laws

-- Behind a gap no element begins, under the flag that stands there.
abbrev pub NothingBehindTheGap : Type 0
NothingBehindTheGap =
    (mode : GapMode) (text : Text) → mode.template ≡ false → mode.keeps_space ≡ false → element mode (has_line_break mode text) (behind_gap mode text) ≡ None

-- A shebang is one with the same line at the end of the text and in front of a line feed.
abbrev pub ShebangStandsAlone : Type 0
ShebangStandsAlone =
    (text r : Text) → ends_line r ≡ true
    → (opens_shebang ((codes "#!" ++ line (drop 2 text)) ++ r) ≡ true) × (line (drop 2 ((codes "#!" ++ line (drop 2 text)) ++ r)) ≡ line (drop 2 text))
