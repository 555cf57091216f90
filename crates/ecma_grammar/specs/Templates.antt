-- Template text (ECMA-262 TemplateCharacters, 12.9.6): pieces, up to a back quote, `${` or the end. Which refusal of an
-- escape stays, and what is said of text that meets the end, is our own choice.
use Rattle.std.specs.Prelude.{◌≡◌, ◌<◌, ℕ, ◌+◌, Bool, true, false, not, ◌&&◌, ◌||◌, ◌==◌, List, [], ◌∷◌, ◌++◌, codes, Option, Some, None, Result, Ok, Err, encode_utf8_all, if◌then◌else◌}
use Rattle.std.specs.List.{list_all, list_any}
use Rattle.ecma_place.specs.Text.{Text, byte_len}
use Rattle.ecma_place.specs.Atom.{AtomView, borrowed_atom, owned_atom}
use Rattle.ecma_place.specs.Character.{is_line_terminator}
use Rattle.ecma_token.specs.Kinds.{kind_of}
use Rattle.ecma_token.specs.View.{TokenView, ErrorView, plain_kind, plain_token, refused_template}
use Rattle.ecma_token.specs.declared.error.SyntaxError.{UnterminatedTpl}
use Rattle.ecma_token.specs.declared.kind.TokenKind.TheVariants.{Template}
use Rattle.ecma_token.specs.declared.token.Token.{BackQuote, DollarLBrace, Template', Ok'}
use Rattle.ecma_grammar.specs.Found.{Scanned, FoundView, scanned, error_over, error_behind, pos_behind, token_behind, found_at}
use Rattle.ecma_grammar.specs.Fronts.{next_is, begins_with}
use Rattle.ecma_grammar.specs.Locality.{IsLocal, ends_template}
use Rattle.ecma_grammar.specs.Pieces.{Cutter, pieces, spelled, remainder, Tiled}
use Rattle.ecma_grammar.specs.Escapes.{Escape, InTemplate, escape_spelling, escape_value, escape_refusal, escape_behind, line_end}

pub data TemplatePiece : Type 0 where
  -- a character that stands for itself
  Plain : ℕ → TemplatePiece
  -- a line terminator, CR LF as one
  Break : Text → TemplatePiece
  -- an escape, accepted or refused: behind a refused one the text goes on
  Escaped : Escape → TemplatePiece

abbrev pub piece_text : TemplatePiece → Text
piece_text (Plain c) = c ∷ []
piece_text (Break spelling) = spelling
piece_text (Escaped e) = escape_spelling e

-- CR and CR LF are cooked to LF
abbrev pub cooked_break : Text → Text
cooked_break spelling = if next_is 13 spelling then 10 ∷ [] else spelling

abbrev pub cooked_piece : TemplatePiece → Text
cooked_piece (Plain c) = c ∷ []
cooked_piece (Break spelling) = cooked_break spelling
cooked_piece (Escaped e) = escape_value e

abbrev pub piece_refusal : TemplatePiece → Option ErrorView
piece_refusal (Plain c) = None
piece_refusal (Break spelling) = None
piece_refusal (Escaped e) = escape_refusal e

abbrev pub is_break : TemplatePiece → Bool
is_break (Plain c) = false
is_break (Break spelling) = true
is_break (Escaped e) = false

-- the piece means what is written of it: it is no escape and has no CR
abbrev pub is_verbatim : TemplatePiece → Bool
is_verbatim (Plain c) = true
is_verbatim (Break spelling) = not (next_is 13 spelling)
is_verbatim (Escaped e) = false

-- what a character does in template text
pub data TemplateRole : Type 0 where
  Stop : TemplateRole
  Backslash : TemplateRole
  LineEnd : TemplateRole
  Itself : TemplateRole

-- a back quote stops the text, and `$` does before `{`
abbrev pub template_role : ℕ → Text → TemplateRole
template_role c cs =
    if c == 96 || (c == 36 && next_is 123 cs) then Stop
    else (if c == 92 then Backslash
    else (if is_line_terminator c then LineEnd
    else Itself))

abbrev pub template_piece_of : TemplateRole → ℕ → Text → Option TemplatePiece
template_piece_of Stop c cs = None
template_piece_of Backslash c cs = Some (Escaped (escape_behind InTemplate cs))
template_piece_of LineEnd c cs = Some (Break (line_end c cs))
template_piece_of Itself c cs = Some (Plain c)

abbrev pub template_piece : Text → Option TemplatePiece
template_piece [] = None
template_piece (c ∷ cs) = template_piece_of (template_role c cs) c cs

abbrev pub template_cutter : Cutter (Unit {0}) TemplatePiece
template_cutter = record { read = λ _ text. template_piece text; spelling = piece_text; next = λ s _. s }

-- what is written of the pieces, CR as it stands (the standard's TRV has LF for it)
abbrev pub raw_text : List TemplatePiece → Text
raw_text ps = spelled template_cutter ps

-- what they mean, in a row (the standard's TV)
abbrev pub cooked_text : List TemplatePiece → Text
cooked_text [] = []
cooked_text (piece ∷ more) = cooked_piece piece ++ cooked_text more

-- the refusal of a piece behind n bytes, or the one before it
abbrev pub newer : ℕ → Option ErrorView → Option ErrorView → Option ErrorView
newer n before None = before
newer n before (Some error) = Some (error_behind n error)

-- the last refusal of pieces that stand behind n bytes, or the one before them
abbrev pub last_refusal : ℕ → Option ErrorView → List TemplatePiece → Option ErrorView
last_refusal n before [] = before
last_refusal n before (piece ∷ more) = last_refusal (n + byte_len (piece_text piece)) (newer n before (piece_refusal piece)) more

abbrev pub raw_atom : List TemplatePiece → AtomView
raw_atom ps = borrowed_atom (encode_utf8_all (raw_text ps))

-- an owned text comes only where an escape or CR stands
abbrev pub cooked_atom : List TemplatePiece → AtomView
cooked_atom ps = if list_all is_verbatim ps then borrowed_atom (encode_utf8_all (cooked_text ps)) else owned_atom (encode_utf8_all (cooked_text ps))

abbrev pub token_of_refusal : Option ErrorView → List TemplatePiece → TokenView
token_of_refusal None ps = plain_token (Template' (raw_atom ps) (Ok' (cooked_atom ps)))
token_of_refusal (Some error) ps = refused_template (raw_atom ps) error.kind error.span

-- the text as it is written, and what it means or why it has no meaning; places are counted from its first byte
abbrev pub template_token : List TemplatePiece → TokenView
template_token ps = token_of_refusal (last_refusal 0 None ps) ps

-- what follows template text
pub data TemplateEnd : Type 0 where
  AtEnd : TemplateEnd
  AtBackQuote : TemplateEnd
  AtDollarBrace : TemplateEnd

abbrev pub template_end : Text → TemplateEnd
template_end [] = AtEnd
template_end (c ∷ cs) = if c == 96 then AtBackQuote else AtDollarBrace

-- a piece that is a bare line terminator makes a line break, whether the text is refused or not
abbrev pub found_text : Result TokenView ErrorView → List TemplatePiece → Scanned TokenView
found_text value ps = record { value = value; faults = []; spelling = raw_text ps; line_break = list_any is_break ps }

-- text that meets the end is refused, with an escape in it that is refused or without
abbrev pub text_of : List TemplatePiece → TemplateEnd → Scanned TokenView
text_of ps AtEnd = found_text (Err (error_over (plain_kind UnterminatedTpl) (byte_len (raw_text ps)))) ps
text_of ps AtBackQuote = found_text (Ok (template_token ps)) ps
text_of ps AtDollarBrace = found_text (Ok (template_token ps)) ps

abbrev pub mark_of : TemplateEnd → Scanned TokenView
mark_of AtEnd = text_of [] AtEnd
mark_of AtBackQuote = scanned (plain_token BackQuote) (codes "`")
mark_of AtDollarBrace = scanned (plain_token DollarLBrace) (codes "${")

-- behind template text, where no text stands, its end is read
abbrev pub template_of : Bool → List TemplatePiece → TemplateEnd → Scanned TokenView
template_of false ps end = text_of ps end
template_of true [] end = mark_of end
template_of true (piece ∷ more) end = text_of (piece ∷ more) end

-- what a text begins with in a template, where the token before is template text or not
abbrev pub template_text : Bool → Text → Scanned TokenView
template_text after_template text =
    template_of after_template (pieces template_cutter tt text) (template_end (remainder template_cutter tt text))

-- an error that ends behind the place n, and begins at the place where its template was opened
abbrev pub error_from : ℕ → ℕ → ErrorView → ErrorView
error_from opened n error = record { kind = error.kind; span = record { lo = record { 0 = opened }; hi = pos_behind n error.span.hi } }

abbrev pub template_value : ℕ → ℕ → Result TokenView ErrorView → Result TokenView ErrorView
template_value opened n (Ok token) = Ok (token_behind n token)
template_value opened n (Err error) = Err (error_from opened n error)

-- What is found at the place n in a template that was opened at the place `opened`: text that meets the end is in error
-- from there on. Our own choice.
abbrev pub template_found : ℕ → ℕ → Scanned TokenView → FoundView TokenView
template_found opened n s = record (found_at token_behind n s) { value = template_value opened n s.value }

-- Laws

-- The pieces of template text and what follows them are the text, and no piece begins what follows.
abbrev pub TemplateTiles : Type 0
TemplateTiles = (text : Text) → Tiled template_cutter tt text

-- Template text is its pieces in a row.
abbrev pub TemplateIsPieces : Type 0
TemplateIsPieces =
    (after_template : Bool) (text : Text) (token : TokenView) → (template_text after_template text).value ≡ Ok token → kind_of token ≡ Template
    → (template_text after_template text).spelling ≡ raw_text (pieces template_cutter tt text)

-- What is read in a template is a front of the text.
abbrev pub TemplateIsFront : Type 0
TemplateIsFront = (after_template : Bool) (text : Text) → begins_with (template_text after_template text).spelling text ≡ true

-- What is read in a template without refusal is read the same in front of every back quote and `${`.
abbrev pub TemplateIsLocal : Type 0
TemplateIsLocal = (after_template : Bool) → IsLocal (λ text. true) (template_text after_template) ends_template

-- A back quote or `${` follows template text.
abbrev pub TemplateIsEnded : Type 0
TemplateIsEnded =
    (after_template : Bool) (b behind : Text) (token : TokenView) → (template_text after_template (b ++ behind)).value ≡ Ok token → kind_of token ≡ Template
    → (template_text after_template (b ++ behind)).spelling ≡ b → ends_template behind ≡ true

-- Behind template text, a back quote and `${` are read whatever follows.
abbrev pub TemplateMarksAreLocal : Type 0
TemplateMarksAreLocal =
    (r : Text)
    → (template_text true (codes "`" ++ r) ≡ scanned (plain_token BackQuote) (codes "`"))
    × (template_text true (codes "${" ++ r) ≡ scanned (plain_token DollarLBrace) (codes "${"))

-- Behind template text something is read, so no two empty tokens follow one another.
abbrev pub TemplateGoesOn : Type 0
TemplateGoesOn = (c : ℕ) (cs : Text) → 0 < byte_len (template_text true (c ∷ cs)).spelling

-- Template text without escapes and CR means what is written, and borrows it.
abbrev pub CookedIsRaw : Type 0
CookedIsRaw = (ps : List TemplatePiece) → list_all is_verbatim ps ≡ true → template_token ps ≡ plain_token (Template' (raw_atom ps) (Ok' (raw_atom ps)))
