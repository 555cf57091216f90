-- Tokens and errors as callers see them: what owns memory is seen as what it holds.
use Rattle.std.specs.Prelude.{◌≡◌, Option, Some, None, ℕ, Bool, true, false, not, ◌&&◌, List, [], ◌∷◌, map, string_bytes}
use Rattle.ecma_span.specs.Atom.{AtomView}
use Rattle.ecma_span.specs.declared.place.Span.{Span}
use Rattle.ecma_token_kind.specs.Word.{word_owns_nothing}
use Rattle.ecma_token.specs.declared.token.Token.{Token, Word, Template', Str, Regex, Num, BigInt, JSXName, JSXText, Shebang, Error', Ok', Err'}
use Rattle.ecma_token.specs.declared.token.TokenAndSpan.{TokenAndSpan}
use Rattle.ecma_token.specs.declared.error.SyntaxError.{SyntaxError, EscapeInReservedWord, InvalidIdentInStrict, DuplicateLabel, JSXExpectedClosingTag, PrivateNameModifier, ExportExpectFrom, ImportBindingIsString, TS1030, TS1089, TS1273, TS1274, TS1277, TsNonNullAssertionNotAllowed, TS1029, TS1243, BadCharacterEscapeSequence, UnaryInExp, Unexpected, UnexpectedTokenWithSuggestions, Expected', WithLabel'}
use Rattle.ecma_token.specs.declared.error.Error.{Error}

mutual
  -- what is wrong; a kind that owns nothing but atoms is seen as itself
  pub data KindView : Type 0 where
    plain_kind : SyntaxError → KindView
    bad_escape : List ℕ → KindView
    unary : List ℕ → Span → KindView
    unexpected : List ℕ → List ℕ → KindView
    suggestions : List (List ℕ) → KindView
    expected : TokenView → List ℕ → KindView
    with_label : KindView → Span → Span → List ℕ → KindView

  -- a token; one that holds no error is seen as itself
  pub data TokenView : Type 0 where
    plain_token : Token → TokenView
    refused_template : AtomView → KindView → Span → TokenView
    error_token : KindView → Span → TokenView

abbrev mutual
  pub kind_view : SyntaxError → KindView
  kind_view (BadCharacterEscapeSequence text) = bad_escape text.now
  kind_view (UnaryInExp left at) = unary (string_bytes left) at
  kind_view (Unexpected got wanted) = unexpected (string_bytes got) wanted.now
  kind_view (UnexpectedTokenWithSuggestions all) = suggestions (map (λ x. x.now) all.items)
  kind_view (Expected' p token got) = expected (token_view token) (string_bytes got)
  kind_view (WithLabel' p q kind at span note) = with_label (kind_view kind) at span note.now
  kind_view kind = plain_kind kind

  pub token_view : Token → TokenView
  token_view (Template' raw (Err' p kind span)) = refused_template raw (kind_view kind) span
  token_view (Error' p kind span) = error_token (kind_view kind) span
  token_view token = plain_token token

-- an error: what is wrong, and where
pub record ErrorView : Type 0 where
  pub kind : KindView
  pub span : Span

-- the error of a token that is one
abbrev pub refusal_of : TokenView → List ErrorView
refusal_of (error_token kind span) = record { kind = kind; span = span } ∷ []
refusal_of _ = []

abbrev pub error_kind : Error → SyntaxError
error_kind e = e.inner.value

abbrev pub error_span : Error → Span
error_span e = e.span

abbrev pub error_view : Error → ErrorView
error_view e = record { kind = kind_view (error_kind e); span = error_span e }

-- the error is this one, and lies there
pub record IsErrorAt (e : Error) (kind : SyntaxError) (span : Span) : Type 0 where
  pub kind_is : error_kind e ≡ kind
  pub span_is : error_span e ≡ span

-- a token, where it stands, and whether a line terminator stands before it
pub record SpannedView : Type 0 where
  pub token : TokenView
  pub had_line_break : Bool
  pub span : Span

abbrev pub spanned_view : TokenAndSpan → SpannedView
spanned_view t = record { token = token_view t.token; had_line_break = t.had_line_break; span = t.span }

-- each text of the token is a slice of the source, and it holds no error
abbrev pub token_owns_nothing : Token → Bool
token_owns_nothing (Word word) = word_owns_nothing word
token_owns_nothing (Template' raw (Ok' cooked)) = raw.is_borrowed && cooked.is_borrowed
token_owns_nothing (Template' raw (Err' p kind span)) = false
token_owns_nothing (Str value raw) = value.is_borrowed && raw.is_borrowed
token_owns_nothing (Regex body flags) = body.is_borrowed && flags.is_borrowed
token_owns_nothing (Num raw radix digits whole) = raw.is_borrowed && digits.is_borrowed
token_owns_nothing (BigInt raw radix digits) = raw.is_borrowed && digits.is_borrowed
token_owns_nothing (JSXName name) = name.is_borrowed
token_owns_nothing (JSXText value raw) = value.is_borrowed && raw.is_borrowed
token_owns_nothing (Shebang text) = text.is_borrowed
token_owns_nothing (Error' p kind span) = false
token_owns_nothing _ = true

-- the same, of a token that is seen so
abbrev pub owns_nothing : TokenView → Bool
owns_nothing (plain_token token) = token_owns_nothing token
owns_nothing (refused_template raw kind span) = false
owns_nothing (error_token kind span) = false

-- each text that the kind holds is a slice of the source, and it holds no token, error or list
abbrev pub kind_owns_nothing : SyntaxError → Bool
kind_owns_nothing (EscapeInReservedWord word) = word.is_borrowed
kind_owns_nothing (InvalidIdentInStrict word) = word.is_borrowed
kind_owns_nothing (DuplicateLabel word) = word.is_borrowed
kind_owns_nothing (JSXExpectedClosingTag word) = word.is_borrowed
kind_owns_nothing (PrivateNameModifier word) = word.is_borrowed
kind_owns_nothing (ExportExpectFrom word) = word.is_borrowed
kind_owns_nothing (ImportBindingIsString word) = word.is_borrowed
kind_owns_nothing (TS1030 word) = word.is_borrowed
kind_owns_nothing (TS1089 word) = word.is_borrowed
kind_owns_nothing (TS1273 word) = word.is_borrowed
kind_owns_nothing (TS1274 word) = word.is_borrowed
kind_owns_nothing (TS1277 word) = word.is_borrowed
kind_owns_nothing (TsNonNullAssertionNotAllowed word) = word.is_borrowed
kind_owns_nothing (TS1029 left right) = left.is_borrowed && right.is_borrowed
kind_owns_nothing (TS1243 left right) = left.is_borrowed && right.is_borrowed
kind_owns_nothing (UnaryInExp left at) = false
kind_owns_nothing (Unexpected got wanted) = false
kind_owns_nothing (UnexpectedTokenWithSuggestions all) = false
kind_owns_nothing (Expected' p token got) = false
kind_owns_nothing (WithLabel' p q kind at span note) = false
kind_owns_nothing _ = true

-- it holds texts and no error
abbrev pub has_texts : Token → Bool
has_texts (Word word) = true
has_texts (Template' raw (Ok' cooked)) = true
has_texts (Str value raw) = true
has_texts (Regex body flags) = true
has_texts (Num raw radix digits whole) = true
has_texts (BigInt raw radix digits) = true
has_texts (JSXName name) = true
has_texts (JSXText value raw) = true
has_texts (Shebang text) = true
has_texts _ = false

-- its two texts, of a token that holds two
abbrev pub texts_of : Token → Option (AtomView × AtomView)
texts_of (Template' raw (Ok' cooked)) = Some (raw, cooked)
texts_of (Str value raw) = Some (value, raw)
texts_of (Regex body flags) = Some (body, flags)
texts_of (Num raw radix digits whole) = Some (raw, digits)
texts_of (BigInt raw radix digits) = Some (raw, digits)
texts_of (JSXText value raw) = Some (value, raw)
texts_of _ = None

-- it holds neither a text nor an error
abbrev pub is_sign : Token → Bool
is_sign (Template' raw cooked) = false
is_sign (Error' p kind span) = false
is_sign token = not (has_texts token)

-- it holds texts that are words, and nothing else that owns memory
abbrev pub holds_words : SyntaxError → Bool
holds_words (EscapeInReservedWord word) = true
holds_words (InvalidIdentInStrict word) = true
holds_words (DuplicateLabel word) = true
holds_words (JSXExpectedClosingTag word) = true
holds_words (PrivateNameModifier word) = true
holds_words (ExportExpectFrom word) = true
holds_words (ImportBindingIsString word) = true
holds_words (TS1030 word) = true
holds_words (TS1089 word) = true
holds_words (TS1273 word) = true
holds_words (TS1274 word) = true
holds_words (TS1277 word) = true
holds_words (TsNonNullAssertionNotAllowed word) = true
holds_words (TS1029 left right) = true
holds_words (TS1243 left right) = true
holds_words _ = false

-- it holds a text, or a list of texts, that is always owned, and no word, token or error
abbrev pub holds_owned : SyntaxError → Bool
holds_owned (UnaryInExp left at) = true
holds_owned (Unexpected got wanted) = true
holds_owned (UnexpectedTokenWithSuggestions all) = true
holds_owned _ = false

-- it holds nothing that owns memory
abbrev pub can_own_nothing : SyntaxError → Bool
can_own_nothing (UnaryInExp left at) = false
can_own_nothing (Unexpected got wanted) = false
can_own_nothing (UnexpectedTokenWithSuggestions all) = false
can_own_nothing (Expected' p token got) = false
can_own_nothing (WithLabel' p q kind at span note) = false
can_own_nothing kind = not (holds_words kind)

-- its one word, of a kind that holds one
abbrev pub word_of : SyntaxError → Option AtomView
word_of (EscapeInReservedWord word) = Some word
word_of (InvalidIdentInStrict word) = Some word
word_of (DuplicateLabel word) = Some word
word_of (JSXExpectedClosingTag word) = Some word
word_of (PrivateNameModifier word) = Some word
word_of (ExportExpectFrom word) = Some word
word_of (ImportBindingIsString word) = Some word
word_of (TS1030 word) = Some word
word_of (TS1089 word) = Some word
word_of (TS1273 word) = Some word
word_of (TS1274 word) = Some word
word_of (TS1277 word) = Some word
word_of (TsNonNullAssertionNotAllowed word) = Some word
word_of _ = None
