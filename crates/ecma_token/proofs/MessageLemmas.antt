-- The message of an error is that of its view.
use Rattle.std.proofs.Common.{◌≡◌, ℕ, ◌-◌, List, [], ◌∷◌, ◌++◌, Option, Some, None, length, take, drop, map, string_bytes, refl, ap, ◌∙◌}
use Rattle.std.specs.Prelude.{codes, flat_map, if◌then◌else◌, nat_le, unwrap_or}
use Rattle.std.specs.List.{join_by}
use Rattle.std.proofs.lemmas.List.{drop-map, length-map, take-map}
use Rattle.ecma_token.specs.Messages.{alternatives, fixed_text, made_text, message, token_text}
use Rattle.ecma_token.specs.View.{kind_view, token_view}
use Rattle.ecma_token.specs.declared.error.SyntaxError.{SyntaxError, LegacyDecimal, LegacyOctal, InvalidIdentChar, UnterminatedBlockComment, UnterminatedStrLit, ExpectedUnicodeEscape, UnterminatedRegExp, UnterminatedTpl, IdentAfterNum, InvalidStrEscape, InvalidUnicodeEscape, NumLitTerminatedWithExp, LegacyCommentInModule, NumericSeparatorIsAllowedOnlyBetweenTwoDigits, TS1085, TS1185, Fixed, ExpectedDigit, EscapeInReservedWord, UnexpectedChar, BadCharacterEscapeSequence, InvalidIdentInStrict, UnaryInExp, Unexpected, UnexpectedTokenWithSuggestions, ExpectedSemiForExprStmt, MultipleDefault, DuplicateLabel, JSXExpectedClosingTag, PrivateNameModifier, ExportExpectFrom, ImportBindingIsString, DuplicatedRegExpFlags, TS1029, TS1030, TS1089, TS1243, TS1273, TS1274, TS1277, TsNonNullAssertionNotAllowed, Expected', WithLabel'}
use Rattle.ecma_token.specs.declared.token.Token.{Token, Word, Arrow, Hash, At, Dot, DotDotDot, Bang, LParen, RParen, LBracket, RBracket, LBrace, RBrace, Semi, Comma, BackQuote, Template', Colon, BinOp, AssignOp, DollarLBrace, QuestionMark, PlusPlus, MinusMinus, Tilde, Str, Regex, Num, BigInt, JSXName, JSXText, JSXTagStart, JSXTagEnd, Shebang, Error', Ok', Err'}
use Rattle.ecma_token.specs.MessageView.{view_message, view_text}

twice-or : (o : Option (List ℕ)) (other : List ℕ) → unwrap_or o other ≡ unwrap_or o (unwrap_or o other)
twice-or None other = refl
twice-or (Some text) other = refl

-- Texts that are seen

flat-of-map : {X : Type 0} (text : X → List ℕ) (between : List ℕ) (all : List X) → flat_map (λ t. between ++ t) (map text all) ≡ flat_map (λ x. between ++ text x) all
flat-of-map text between [] = refl
flat-of-map text between (x ∷ all) = ap (λ more. (between ++ text x) ++ more) (flat-of-map text between all)

joined-of-map : {X : Type 0} (text : X → List ℕ) (between : List ℕ) (all : List X) → join_by (λ t. t) between (map text all) ≡ join_by text between all
joined-of-map text between [] = refl
joined-of-map text between (x ∷ all) = ap (λ more. text x ++ more) (flat-of-map text between all)

alternatives-of-map : {X : Type 0} (text : X → List ℕ) (all : List X) → alternatives (λ t. t) (map text all) ≡ alternatives text all
alternatives-of-map {X} text all =
    ap (λ n. choice n (join_by (λ t. t) (codes " or ") seen) (join_by (λ t. t) (codes " , ") (take (n - 1) seen)) (join_by (λ t. t) [] (drop (n - 1) seen))) (length-map all text)
    ∙ ap (λ short. choice count short (join_by (λ t. t) (codes " , ") (take (count - 1) seen)) (join_by (λ t. t) [] (drop (count - 1) seen))) (joined-of-map text (codes " or ") all)
    ∙ ap (λ front. choice count (join_by text (codes " or ") all) front (join_by (λ t. t) [] (drop (count - 1) seen)))
    (ap (join_by (λ t. t) (codes " , ")) (take-map text (count - 1) all) ∙ joined-of-map text (codes " , ") (take (count - 1) all))
    ∙ ap (λ last. choice count (join_by text (codes " or ") all) (join_by text (codes " , ") (take (count - 1) all)) last)
    (ap (join_by (λ t. t) []) (drop-map text (count - 1) all) ∙ joined-of-map text [] (drop (count - 1) all))
  where
    seen : List (List ℕ)
    seen = map text all

    count : ℕ
    count = length all

    choice : ℕ → List ℕ → List ℕ → List ℕ → List ℕ
    choice n short front last = if nat_le n 2 then short else front ++ (codes "or " ++ last)

-- Kinds and tokens

mutual
  pub message_of_view : (kind : SyntaxError) → view_message (kind_view kind) ≡ message kind
  message_of_view LegacyDecimal = refl
  message_of_view LegacyOctal = refl
  message_of_view InvalidIdentChar = refl
  message_of_view UnterminatedBlockComment = refl
  message_of_view UnterminatedStrLit = refl
  message_of_view ExpectedUnicodeEscape = refl
  message_of_view UnterminatedRegExp = refl
  message_of_view UnterminatedTpl = refl
  message_of_view IdentAfterNum = refl
  message_of_view InvalidStrEscape = refl
  message_of_view InvalidUnicodeEscape = refl
  message_of_view NumLitTerminatedWithExp = refl
  message_of_view LegacyCommentInModule = refl
  message_of_view NumericSeparatorIsAllowedOnlyBetweenTwoDigits = refl
  message_of_view TS1085 = refl
  message_of_view TS1185 = refl
  message_of_view (Fixed error) = refl
  message_of_view (ExpectedDigit radix) = refl
  message_of_view (EscapeInReservedWord word) = refl
  message_of_view (UnexpectedChar c) = refl
  message_of_view (BadCharacterEscapeSequence wanted) = refl
  message_of_view (InvalidIdentInStrict word) = refl
  message_of_view (UnaryInExp left at) = refl
  message_of_view (Unexpected got wanted) = refl
  message_of_view (UnexpectedTokenWithSuggestions all) = ap (λ text. codes "Unexpected token. Did you mean " ++ text ++ codes "?") (alternatives-of-map (λ x. x.now) all.items)
  message_of_view (ExpectedSemiForExprStmt at) = refl
  message_of_view (MultipleDefault previous) = refl
  message_of_view (DuplicateLabel word) = refl
  message_of_view (JSXExpectedClosingTag word) = refl
  message_of_view (PrivateNameModifier word) = refl
  message_of_view (ExportExpectFrom word) = refl
  message_of_view (ImportBindingIsString word) = refl
  message_of_view (DuplicatedRegExpFlags c) = refl
  message_of_view (TS1029 left right) = refl
  message_of_view (TS1030 word) = refl
  message_of_view (TS1089 word) = refl
  message_of_view (TS1243 left right) = refl
  message_of_view (TS1273 word) = refl
  message_of_view (TS1274 word) = refl
  message_of_view (TS1277 word) = refl
  message_of_view (TsNonNullAssertionNotAllowed word) = refl
  message_of_view (Expected' p token got) = ap (λ text. codes "Expected '" ++ text ++ codes "', got '" ++ string_bytes got ++ codes "'") (text_of_view token)
  message_of_view (WithLabel' p q kind at span note) = message_of_view kind ∙ twice-or (fixed_text kind) (made_text kind)

  pub text_of_view : (token : Token) → view_text (token_view token) ≡ token_text token
  text_of_view (Word word) = refl
  text_of_view Arrow = refl
  text_of_view Hash = refl
  text_of_view At = refl
  text_of_view Dot = refl
  text_of_view DotDotDot = refl
  text_of_view Bang = refl
  text_of_view LParen = refl
  text_of_view RParen = refl
  text_of_view LBracket = refl
  text_of_view RBracket = refl
  text_of_view LBrace = refl
  text_of_view RBrace = refl
  text_of_view Semi = refl
  text_of_view Comma = refl
  text_of_view BackQuote = refl
  text_of_view (Template' raw (Ok' cooked)) = refl
  text_of_view (Template' raw (Err' p kind span)) = refl
  text_of_view Colon = refl
  text_of_view (BinOp op) = refl
  text_of_view (AssignOp op) = refl
  text_of_view DollarLBrace = refl
  text_of_view QuestionMark = refl
  text_of_view PlusPlus = refl
  text_of_view MinusMinus = refl
  text_of_view Tilde = refl
  text_of_view (Str value raw) = refl
  text_of_view (Regex body flags) = refl
  text_of_view (Num raw radix digits whole) = refl
  text_of_view (BigInt raw radix digits) = refl
  text_of_view (JSXName name) = refl
  text_of_view (JSXText value raw) = refl
  text_of_view JSXTagStart = refl
  text_of_view JSXTagEnd = refl
  text_of_view (Shebang text) = refl
  text_of_view (Error' p kind span) = ap (λ text. codes "<lexing error: " ++ text ++ codes ">") (message_of_view kind)
