-- The token with which code begins, where no template's text is read, and where it stands by itself.
use Rattle.std.specs.Prelude.{◌≡◌, ℕ, Bool, true, false, ◌&&◌, ◌∷◌, ◌++◌, None}
use Rattle.ecma_place.specs.Text.{Text}
use Rattle.ecma_syntax.specs.declared.context.Context.{Context}
use Rattle.ecma_syntax.specs.declared.settings.NumberRule.{NumberRule}
use Rattle.ecma_token.specs.View.{TokenView}
use Rattle.ecma_scan.specs.declared.gap_mode.GapMode.{GapMode}
use Rattle.ecma_scan.specs.Bars as bars
use Rattle.ecma_scan.specs.Found.{Scanned}
use Rattle.ecma_scan.specs.Gaps.{element}
use Rattle.ecma_scan.specs.Locality.{is_clean, separates}
use Rattle.ecma_scan.specs.Numbers as numbers
use Rattle.ecma_scan.specs.Punctuators as punctuators
use Rattle.ecma_scan.specs.Shebangs.{opens_shebang}
use Rattle.ecma_scan.specs.Strings as strings
use Rattle.ecma_scan.specs.Words as words
use Rattle.ecma_state.specs.Mode.{is_template, type_mode}
use Rattle.ecma_state.specs.TokenAt.{as_token, punctuator_or_stray, token_at, ts1085}
use Rattle.ecma_state.specs.declared.mode.Mode.{Mode}

-- what a read of code goes by besides the text
pub record CodeMode : Type 0 where
  pub type_mode : Bool
  pub ts1085 : Bool
  pub numbers : NumberRule
  pub context : Context

pub data CodeLookahead : Type 0 where
  Number : CodeLookahead
  String : CodeLookahead
  Word' : CodeLookahead
  Bars : CodeLookahead
  Other : CodeLookahead

abbrev pub lookahead_from : Bool → Bool → Bool → Bool → CodeLookahead
lookahead_from true string word bars = Number
lookahead_from false true word bars = String
lookahead_from false false true bars = Word'
lookahead_from false false false true = Bars
lookahead_from false false false false = Other

abbrev pub code_lookahead : Bool → Text → CodeLookahead
code_lookahead flag text = lookahead_from (numbers.opens_number text) (strings.opens_string text) (words.opens_word text) (flag && bars.opens_bars text)

abbrev pub read_code : CodeLookahead → CodeMode → Text → Scanned TokenView
read_code Number mode text = numbers.number mode.ts1085 mode.numbers text
read_code String mode text = strings.string_literal text
read_code Word' mode text = as_token (words.word mode.context text)
read_code Bars mode text = bars.bars_token text
read_code Other mode text = punctuator_or_stray (punctuators.punctuator_in mode.type_mode text) text

abbrev pub code_at : CodeMode → Bool → Text → Scanned TokenView
code_at mode flag text = read_code (code_lookahead flag text) mode text

-- what a read goes by, where it reads code
abbrev pub code_mode : Mode → CodeMode
code_mode mode = record { type_mode = type_mode mode; ts1085 = ts1085 mode; numbers = mode.settings.numbers; context = mode.context }

-- Laws

-- Outside of templates this is the token at a place.
abbrev pub CodeIsToken : Type 0
CodeIsToken = (mode : Mode) (flag : Bool) (text : Text) → is_template mode.top ≡ false → token_at mode flag text ≡ code_at (code_mode mode) flag text

-- what is asked of a token that is read cleanly, and of what may follow it
abbrev pub StandsAlone : (CodeMode → Bool → ℕ → Text → Text → Text → Type 0) → Type 0
StandsAlone P =
    (mode : CodeMode) (flag : Bool) (c : ℕ) (b behind r : Text) → is_clean (code_at mode flag (c ∷ (b ++ behind))) ≡ true → (code_at mode flag (c ∷ (b ++ behind))).spelling ≡ c ∷ b
    → separates r ≡ true → P mode flag c b behind r

-- A token of code that is read cleanly is read the same at the end of the text and in front of a space or a line feed,
abbrev pub CodeIsLocal : Type 0
CodeIsLocal = StandsAlone (λ mode flag c b behind r. code_at mode flag (c ∷ (b ++ r)) ≡ code_at mode flag (c ∷ (b ++ behind)))

-- begins no element of a gap there,
abbrev pub CodeBeginsNoGap : Type 0
CodeBeginsNoGap = StandsAlone (λ mode flag c b behind r. (gap_mode : GapMode) (stands : Bool) → element gap_mode stands (c ∷ (b ++ r)) ≡ None)

-- and no shebang.
abbrev pub CodeOpensNoShebang : Type 0
CodeOpensNoShebang = StandsAlone (λ mode flag c b behind r. opens_shebang (c ∷ (b ++ r)) ≡ false)
