-- The message of each error, and the debug text of each token.
use Rattle.std.specs.Prelude.{ℕ, Bool, true, false, List, [], ◌++◌, ◌-◌, codes, length, take, drop, nat_le, if◌then◌else◌, Option, Some, None, unwrap_or, string_bytes, encode_utf8}
use Rattle.std.specs.List.{join_by}
use Rattle.ecma_token_kind.specs.Word.{word_text}
use Rattle.ecma_token_kind.specs.Operators.{bin_op_text, assign_op_text}
use Rattle.ecma_fixed.specs.Fixed.{fixed_error_text}
use Rattle.ecma_token.specs.Quoted.{quoted_char}
use Rattle.ecma_token.specs.declared.token.Radix.{Radix}
use Rattle.ecma_token.specs.declared.token.Radix.TheVariants.{Binary, Octal, Decimal, Hex}
use Rattle.ecma_token.specs.declared.token.Token.{Token, Word, Arrow, Hash, At, Dot, DotDotDot, Bang, LParen, RParen, LBracket, RBracket, LBrace, RBrace, Semi, Comma, BackQuote, Template', Colon, BinOp, AssignOp, DollarLBrace, QuestionMark, PlusPlus, MinusMinus, Tilde, Str, Regex, Num, BigInt, JSXName, JSXText, JSXTagStart, JSXTagEnd, Shebang, Error'}
use Rattle.ecma_token.specs.declared.error.SyntaxError.{SyntaxError, LegacyDecimal, LegacyOctal, InvalidIdentChar, UnterminatedBlockComment, UnterminatedStrLit, ExpectedUnicodeEscape, UnterminatedRegExp, UnterminatedTpl, IdentAfterNum, InvalidStrEscape, InvalidUnicodeEscape, NumLitTerminatedWithExp, LegacyCommentInModule, NumericSeparatorIsAllowedOnlyBetweenTwoDigits, TS1085, TS1185, Fixed, ExpectedDigit, UnexpectedChar, BadCharacterEscapeSequence, UnaryInExp, Unexpected, UnexpectedTokenWithSuggestions, ExpectedSemiForExprStmt, MultipleDefault, ImportBindingIsString, DuplicatedRegExpFlags, TS1029, TS1243, EscapeInReservedWord, InvalidIdentInStrict, DuplicateLabel, JSXExpectedClosingTag, PrivateNameModifier, ExportExpectFrom, TS1030, TS1089, TS1273, TS1274, TS1277, TsNonNullAssertionNotAllowed, Expected', WithLabel'}

-- what is said of a digit that is missing
abbrev pub digit_text : Radix → List ℕ
digit_text Binary = codes "Expected a binary digit"
digit_text Octal = codes "Expected an octal digit"
digit_text Decimal = codes "Expected a decimal digit"
digit_text Hex = codes "Expected a hexadecimal digit"

-- the message of an error whose message holds nothing that the error holds
abbrev pub fixed_text : SyntaxError → Option (List ℕ)
fixed_text LegacyDecimal = Some (codes "Legacy decimal escape is not permitted in strict mode")
fixed_text LegacyOctal = Some (codes "Legacy octal escape is not permitted in strict mode")
fixed_text InvalidIdentChar = Some (codes "Invalid character in identifier")
fixed_text UnterminatedBlockComment = Some (codes "Unterminated block comment")
fixed_text UnterminatedStrLit = Some (codes "Unterminated string constant")
fixed_text ExpectedUnicodeEscape = Some (codes "Expected unicode escape")
fixed_text UnterminatedRegExp = Some (codes "Unterminated regexp literal")
fixed_text UnterminatedTpl = Some (codes "Unterminated template")
fixed_text IdentAfterNum = Some (codes "Identifier cannot follow number")
fixed_text InvalidStrEscape = Some (codes "Invalid string escape")
fixed_text InvalidUnicodeEscape = Some (codes "Invalid unicode escape")
fixed_text NumLitTerminatedWithExp = Some (codes "Expected +, - or decimal digit after e")
fixed_text LegacyCommentInModule = Some (codes "Legacy comments cannot be used in module code")
fixed_text NumericSeparatorIsAllowedOnlyBetweenTwoDigits = Some (codes "A numeric separator is only allowed between two digits")
fixed_text TS1085 = Some (codes "Legacy octal literals are not available when targeting ECMAScript 5 and higher")
fixed_text TS1185 = Some (codes "Merge conflict marker encountered.")
fixed_text (Fixed error) = Some (fixed_error_text error)
fixed_text (ExpectedDigit radix) = Some (digit_text radix)
fixed_text (UnaryInExp left at) = Some (codes "'**' cannot be applied to unary/await expression.")
fixed_text (ExpectedSemiForExprStmt at) = Some (codes "Expected ';', '}' or <eof>")
fixed_text (MultipleDefault previous) = Some (codes "A switch block cannot have multiple defaults")
fixed_text (WithLabel' p q kind at span note) = fixed_text kind
fixed_text _ = None

-- what may be meant: up to two are joined by " or "; of more, all but the last are joined by " , ", and "or " and the
-- last follow
abbrev pub alternatives : {X : Type 0} → (X → List ℕ) → List X → List ℕ
alternatives text all =
    if nat_le (length all) 2 then join_by text (codes " or ") all
    else join_by text (codes " , ") (take (length all - 1) all) ++ (codes "or " ++ join_by text [] (drop (length all - 1) all))

-- the debug text of a token that is no literal and no error
abbrev pub spelling : Token → Option (List ℕ)
spelling (Word word) = Some (word_text word)
spelling (BinOp op) = Some (bin_op_text op)
spelling (AssignOp op) = Some (assign_op_text op)
spelling Arrow = Some (codes "=>")
spelling Hash = Some (codes "#")
spelling At = Some (codes "@")
spelling Dot = Some (codes ".")
spelling DotDotDot = Some (codes "...")
spelling Bang = Some (codes "!")
spelling LParen = Some (codes "(")
spelling RParen = Some (codes ")")
spelling LBracket = Some (codes "[")
spelling RBracket = Some (codes "]")
spelling LBrace = Some (codes "{")
spelling RBrace = Some (codes "}")
spelling Semi = Some (codes ";")
spelling Comma = Some (codes ",")
spelling BackQuote = Some (codes "`")
spelling Colon = Some (codes ":")
spelling DollarLBrace = Some (codes "${")
spelling QuestionMark = Some (codes "?")
spelling PlusPlus = Some (codes "++")
spelling MinusMinus = Some (codes "--")
spelling Tilde = Some (codes "~")
spelling JSXTagStart = Some (codes "< (jsx tag start)")
spelling JSXTagEnd = Some (codes "> (jsx tag end)")
spelling (Shebang text) = Some (codes "#!")
spelling _ = None

abbrev mutual
  -- the message of an error whose message holds what the error holds
  pub made_text : SyntaxError → List ℕ
  made_text (UnexpectedChar c) = codes "Unexpected character " ++ quoted_char c
  made_text (BadCharacterEscapeSequence wanted) = codes "Bad character escape sequence, expected " ++ wanted.now
  made_text (DuplicatedRegExpFlags c) = codes "Duplicated regular expression flag '" ++ encode_utf8 c ++ codes "'."
  made_text (Unexpected got wanted) = codes "Unexpected token `" ++ (string_bytes got ++ (codes "`. Expected " ++ wanted.now))
  made_text (UnexpectedTokenWithSuggestions all) = codes "Unexpected token. Did you mean " ++ alternatives (λ x. x.now) all.items ++ codes "?"
  made_text (Expected' p token got) = codes "Expected '" ++ unwrap_or (spelling token) (literal_text token) ++ codes "', got '" ++ string_bytes got ++ codes "'"
  made_text (ImportBindingIsString word) = codes "A string literal cannot be used as an imported binding.\n- Did you mean `import { \"" ++ word.bytes ++ codes "\" as foo }`?"
  made_text (TS1029 left right) = codes "'" ++ left.bytes ++ codes "' modifier must precede '" ++ right.bytes ++ codes "' modifier."
  made_text (TS1243 left right) = codes "'" ++ left.bytes ++ codes "' modifier cannot be used with '" ++ right.bytes ++ codes "' modifier."
  made_text (EscapeInReservedWord word) = codes "Unexpected escape sequence in reserved word: " ++ word.bytes
  made_text (InvalidIdentInStrict word) = codes "`" ++ word.bytes ++ codes "` cannot be used as an identifier in strict mode"
  made_text (DuplicateLabel word) = codes "Label " ++ word.bytes ++ codes " is already declared"
  made_text (JSXExpectedClosingTag word) = codes "Expected corresponding JSX closing tag for <" ++ word.bytes ++ codes ">"
  made_text (PrivateNameModifier word) = codes "'" ++ word.bytes ++ codes "' modifier cannot be used with a private identifier"
  made_text (ExportExpectFrom word) = codes "`" ++ word.bytes ++ codes "` cannot be used without `from` clause"
  made_text (TS1030 word) = codes "'" ++ word.bytes ++ codes "' modifier already seen."
  made_text (TS1089 word) = codes "'" ++ word.bytes ++ codes "' modifier cannot appear on a constructor declaration"
  made_text (TS1273 word) = codes "'" ++ word.bytes ++ codes "' modifier cannot appear on a type parameter"
  made_text (TS1274 word) = codes "'" ++ word.bytes ++ codes "' modifier can only appear on a type parameter of a class, interface or type alias"
  made_text (TS1277 word) = codes "'" ++ word.bytes ++ codes "' modifier can only appear on a type parameter of a function, method or class"
  made_text (TsNonNullAssertionNotAllowed word) = codes "Typescript non-null assertion operator is not allowed with '" ++ word.bytes ++ codes "'"
  made_text (WithLabel' p q kind at span note) = unwrap_or (fixed_text kind) (made_text kind)
  made_text kind = []

  -- the debug text of a literal, and of a text that is no token
  pub literal_text : Token → List ℕ
  literal_text (Template' raw cooked) = codes "template token (" ++ raw.bytes ++ codes ")"
  literal_text (Str value raw) = codes "string literal (" ++ (value.bytes ++ (codes ", " ++ (raw.bytes ++ codes ")")))
  literal_text (Regex body flags) = codes "regexp literal (" ++ (body.bytes ++ (codes ", " ++ (flags.bytes ++ codes ")")))
  literal_text (Num raw radix digits whole) = codes "numeric literal (" ++ raw.bytes ++ codes ")"
  literal_text (BigInt raw radix digits) = codes "bigint literal (" ++ (digits.bytes ++ (codes ", " ++ (raw.bytes ++ codes ")")))
  literal_text (JSXName name) = codes "jsx name (" ++ name.bytes ++ codes ")"
  literal_text (JSXText value raw) = codes "jsx text (" ++ raw.bytes ++ codes ")"
  literal_text (Error' p kind at) = codes "<lexing error: " ++ unwrap_or (fixed_text kind) (made_text kind) ++ codes ">"
  literal_text token = []

-- its message holds the text of a token or of another error
abbrev pub quotes_another : SyntaxError → Bool
quotes_another (Expected' p token got) = true
quotes_another (WithLabel' p q kind at span note) = true
quotes_another _ = false

-- its debug text is that of an error
abbrev pub quotes_error : Token → Bool
quotes_error (Error' p kind at) = true
quotes_error _ = false

-- the debug text of a token
abbrev pub token_text : Token → List ℕ
token_text token = unwrap_or (spelling token) (literal_text token)

-- the message of an error
abbrev pub message : SyntaxError → List ℕ
message kind = unwrap_or (fixed_text kind) (made_text kind)
