-- What is read of code behind a gap, and of the same token behind one character, or none.
use Rattle.std.specs.Prelude.{◌≡◌, ℕ, Bool, true, false, [], ◌∷◌, ◌++◌, None}
use Rattle.ecma_place.specs.Text.{Text}
use Rattle.ecma_scan.specs.declared.gap_mode.GapMode.{GapMode}
use Rattle.ecma_scan.specs.Expressions.{opens_expression, regular_expression}
use Rattle.ecma_scan.specs.Gaps.{behind_gap, element, gap_faults, has_line_break}
use Rattle.ecma_joining.specs.Code.{CodeMode, code_at}
use Rattle.ecma_scan.specs.Locality.{is_clean}
use Rattle.ecma_scan.specs.Shebangs.{opens_shebang}

-- a line feed where the flag stands, else a space
abbrev pub separator : Bool → Text
separator true = 10 ∷ []
separator false = 32 ∷ []

-- the gap of the text has this flag and no fault, and before this it ends
pub record IsGap (mode : GapMode) (text : Text) (flag : Bool) (left : Text) : Type 0 where
  pub line_break : has_line_break mode text ≡ flag
  pub faults : gap_faults mode text ≡ []
  pub behind : behind_gap mode text ≡ left

-- Laws

-- Before a text that begins no element the separator is the whole gap, and its flag is the one it stands for,
abbrev pub SeparatorIsTheGap : Type 0
SeparatorIsTheGap =
    (mode : GapMode) (flag : Bool) (text : Text) → mode.template ≡ false → mode.keeps_space ≡ false → (mode.first ≡ true → flag ≡ true) → element mode flag text ≡ None
    → IsGap mode (separator flag ++ text) flag text

-- and at the start none is needed.
abbrev pub StartIsTheGap : Type 0
StartIsTheGap = (mode : GapMode) (text : Text) → mode.first ≡ true → element mode true text ≡ None → IsGap mode text true text

-- A slash behind which a regular expression is read cleanly is the same slash in front of every text, and begins nothing else.
pub record SlashAgain (mode : CodeMode) (flag : Bool) (gap_mode : GapMode) (stands : Bool) (c : ℕ) (b behind r : Text) : Type 0 where
  pub token : code_at mode flag (c ∷ (b ++ r)) ≡ code_at mode flag (c ∷ (b ++ behind))
  pub no_element : element gap_mode stands (c ∷ (b ++ r)) ≡ None
  pub no_shebang : opens_shebang (c ∷ (b ++ r)) ≡ false

abbrev pub SlashIsReadAgain : Type 0
SlashIsReadAgain =
    (mode : CodeMode) (flag : Bool) (gap_mode : GapMode) (stands : Bool) (c : ℕ) (b behind r : Text) → opens_expression (c ∷ (b ++ behind)) ≡ true → is_clean (regular_expression (c ∷ (b ++ behind))) ≡ true
    → (regular_expression (c ∷ (b ++ behind))).spelling ≡ c ∷ b → element gap_mode stands (c ∷ (b ++ behind)) ≡ None → SlashAgain mode flag gap_mode stands c b behind r

-- A back quote, `}` and `)` are read the same in front of every text, and begin nothing else.
pub record CloserAgain (mode : CodeMode) (flag : Bool) (c : ℕ) (behind r : Text) : Type 0 where
  pub token : code_at mode flag (c ∷ r) ≡ code_at mode flag (c ∷ behind)
  pub no_element : (gap_mode : GapMode) (stands : Bool) → element gap_mode stands (c ∷ r) ≡ None
  pub no_shebang : opens_shebang (c ∷ r) ≡ false

abbrev pub ClosersAreReadAgain : Type 0
ClosersAreReadAgain = (mode : CodeMode) (flag : Bool) (behind r : Text) → CloserAgain mode flag 96 behind r × CloserAgain mode flag 125 behind r × CloserAgain mode flag 41 behind r
