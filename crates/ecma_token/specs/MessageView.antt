-- The message of an error as it is seen.
use Rattle.std.specs.Prelude.{ℕ, List, ◌++◌, codes}
use Rattle.ecma_token.specs.Messages.{alternatives, message, token_text}
use Rattle.ecma_token.specs.View.{KindView, plain_kind, bad_escape, unary, unexpected, suggestions, expected, with_label, TokenView, plain_token, refused_template, error_token}

abbrev mutual
  pub view_message : KindView → List ℕ
  view_message (plain_kind kind) = message kind
  view_message (bad_escape wanted) = codes "Bad character escape sequence, expected " ++ wanted
  view_message (unary left at) = codes "'**' cannot be applied to unary/await expression."
  view_message (unexpected got wanted) = codes "Unexpected token `" ++ (got ++ (codes "`. Expected " ++ wanted))
  view_message (suggestions all) = codes "Unexpected token. Did you mean " ++ alternatives (λ x. x) all ++ codes "?"
  view_message (expected token got) = codes "Expected '" ++ view_text token ++ codes "', got '" ++ got ++ codes "'"
  view_message (with_label kind at span note) = view_message kind

  -- the debug text of a token
  pub view_text : TokenView → List ℕ
  view_text (plain_token token) = token_text token
  view_text (refused_template raw kind span) = codes "template token (" ++ raw.bytes ++ codes ")"
  view_text (error_token kind span) = codes "<lexing error: " ++ view_message kind ++ codes ">"
