-- Which texts each reader of the grammar reads with nothing allocated, told by what is written.
use Rattle.std.specs.Prelude.{◌≡◌, ℕ, Bool, true, false, not, ◌==◌, [], Result, Ok, Err, is_ok}
use Rattle.std.specs.List.{list_all, list_any}
use Rattle.ecma_place.specs.Text.{Text}
use Rattle.ecma_syntax.specs.declared.settings.NumberRule.{NumberRule}
use Rattle.ecma_token.specs.Kinds.{kind_of}
use Rattle.ecma_token.specs.View.{ErrorView, TokenView}
use Rattle.ecma_scan.specs.Comments.{comments_at}
use Rattle.ecma_scan.specs.Expressions.{regular_expression}
use Rattle.ecma_scan.specs.Found.{Scanned}
use Rattle.ecma_scan.specs.Gaps.{Element, Blank, LineComment, BlockComment, OpenComment, HtmlOpening, HtmlClosing, Marker, gap, gap_faults_at}
use Rattle.ecma_scan.specs.Numbers.{is_separator, number}
use Rattle.ecma_scan.specs.Pieces.{pieces}
use Rattle.ecma_scan.specs.Strings.{string_literal}
use Rattle.ecma_scan.specs.Templates.{is_verbatim, template_cutter, template_text}
use Rattle.ecma_scan.specs.Words.{identifier_name}
use Rattle.ecma_scan.specs.declared.gap_mode.GapMode.{GapMode}
use Rattle.ecma_state.specs.TokenAt.{is_borrowed, is_borrowed_name}
use Rattle.ecma_laws.specs.FreeReads.{turns_meaning}

-- what is written of a token that is no error has a character that turns its meaning

abbrev pub turned_in : Result TokenView ErrorView → Text → Bool
turned_in (Ok token) spelling = list_any (turns_meaning (kind_of token)) spelling
turned_in (Err error) spelling = false

abbrev pub is_turned_in : Scanned TokenView → Bool
is_turned_in s = turned_in s.value s.spelling

abbrev pub is_backslash : ℕ → Bool
is_backslash c = c == 92

-- an element of a gap has no fault, and no comment that is collected
abbrev pub is_quiet : Bool → Element → Bool
is_quiet collect (Blank c) = true
is_quiet collect (LineComment line) = not collect
is_quiet collect (BlockComment body) = not collect
is_quiet collect (OpenComment body) = false
is_quiet collect (HtmlOpening line) = false
is_quiet collect (HtmlClosing line) = false
is_quiet collect (Marker c line) = false

-- Laws: each says of a text what the reader's contract asks for, so that nothing is allocated (where there is no fault either)

-- A string that is not refused and has no backslash borrows its value.
abbrev pub StringIsFree : Type 0
StringIsFree = (text : Text) → is_ok (string_literal text).value ≡ true → is_turned_in (string_literal text) ≡ false → is_borrowed (string_literal text).value ≡ true

-- So does a word.
abbrev pub WordIsFree : Type 0
WordIsFree =
    (text : Text) → is_ok (identifier_name text).value ≡ true → list_any is_backslash (identifier_name text).spelling ≡ false
    → is_borrowed_name (identifier_name text).value ≡ true

-- The text of a template that is not refused and has no backslash and no CR stands for itself.
abbrev pub TemplateIsFree : Type 0
TemplateIsFree =
    (after : Bool) (text : Text) → is_ok (template_text after text).value ≡ true → is_turned_in (template_text after text) ≡ false
    → list_all is_verbatim (pieces template_cutter tt text) ≡ true

-- A number that is not refused and means what is written has no separator.
abbrev pub NumberIsFree : Type 0
NumberIsFree =
    (legacy : Bool) (rule : NumberRule) (text : Text) → is_ok (number legacy rule text).value ≡ true → is_turned_in (number legacy rule text) ≡ false
    → list_any is_separator (number legacy rule text).spelling ≡ false

-- A regular expression that is not refused and has no backslash borrows its body and flags.
abbrev pub ExpressionIsFree : Type 0
ExpressionIsFree = (text : Text) → is_ok (regular_expression text).value ≡ true → is_turned_in (regular_expression text) ≡ false → is_borrowed (regular_expression text).value ≡ true

-- A gap of white space, and of closed comments where none is collected, has no fault and tells of no comment.
pub record IsQuietGap (n : ℕ) (mode : GapMode) (text : Text) : Type 0 where
  pub comments : comments_at n mode text ≡ []
  pub faults : gap_faults_at n mode text ≡ []

abbrev pub GapIsFree : Type 0
GapIsFree = (n : ℕ) (mode : GapMode) (text : Text) → list_all (is_quiet mode.collect) (gap mode text) ≡ true → IsQuietGap n mode text
