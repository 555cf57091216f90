-- What kinds tokens of code have, and how closers are written.
use Rattle.std.specs.Prelude.{◌≡◌, Bool, true, false, ◌||◌, ◌==◌, [], ◌∷◌, Ok}
use Rattle.ecma_place.specs.Text.{Text}
use Rattle.ecma_token.specs.Kinds.{kind_of}
use Rattle.ecma_token.specs.View.{TokenView}
use Rattle.ecma_token.specs.declared.kind.TokenKind.{TokenKind}
use Rattle.ecma_token.specs.declared.kind.TokenKind.TheVariants as kind
use Rattle.ecma_joining.specs.Code.{CodeMode, code_at}

-- template text, or a shebang
abbrev pub is_text_or_line : TokenKind → Bool
is_text_or_line kind.Template = true
is_text_or_line kind.Shebang = true
is_text_or_line other = false

-- behind these template text may follow
abbrev pub is_closer : TokenKind → Bool
is_closer kind.BackQuote = true
is_closer kind.RBrace = true
is_closer kind.RParen = true
is_closer other = false

abbrev pub is_closer_text : Text → Bool
is_closer_text [] = false
is_closer_text (c ∷ []) = c == 96 || (c == 125 || c == 41)
is_closer_text (c ∷ (d ∷ cs)) = false

-- Laws

-- No token of code is template text or a shebang,
abbrev pub CodeIsNeither : Type 0
CodeIsNeither = (mode : CodeMode) (flag : Bool) (text : Text) (t : TokenView) → (code_at mode flag text).value ≡ Ok t → is_text_or_line (kind_of t) ≡ false

-- none holds a line terminator that counts,
abbrev pub CodeHoldsNoBreak : Type 0
CodeHoldsNoBreak = (mode : CodeMode) (flag : Bool) (text : Text) → (code_at mode flag text).line_break ≡ false

-- and one that is a closer is written so.
abbrev pub CloserIsWritten : Type 0
CloserIsWritten =
    (mode : CodeMode) (flag : Bool) (text : Text) (t : TokenView) → (code_at mode flag text).value ≡ Ok t → is_closer (kind_of t) ≡ true → is_closer_text (code_at mode flag text).spelling ≡ true
