-- What is made of a text.
use Rattle.std.specs.Prelude.{ℕ, List, length}
use Rattle.std.specs.Str.{chars}
use Rattle.ecma_syntax.specs.declared.context.Context.{Context}
use Rattle.ecma_reader.specs.ByFlag.{text_steps}
use Rattle.ecma_classes.specs.Classes.{begin, classes_of}
use Rattle.ecma_state.specs.Run.{session}
use Rattle.ecma_state.specs.Session.{Session, kept_tokens}
use Rattle.ecma_comments.specs.declared.comments_buffer.BufferedComment.{BufferedComment}
use Rattle.ecma_state.specs.declared.kept.Kept.{Kept}
use Rattle.ecma_state.specs.declared.settings.Settings.{Settings}
use Rattle.ecma_state.specs.declared.step.Step.{Step}
use Rattle.ecma_span.specs.declared.place.BytePos.{BytePos}
use Rattle.ecma_html.specs.Marked.{marked}
use Rattle.ecma_html.specs.Markup.{html_of}
use Rattle.ecma_styles.specs.Styles.{styled}
use Rattle.ecma_styles.specs.Tokens.{token_classes}

-- of these tokens and comments of a text
abbrev pub html_kept : List ℕ → List Kept → List BufferedComment → List ℕ
html_kept bytes kept comments = html_of bytes (styled (token_classes kept) (classes_of 0 (length bytes) kept comments))

-- the same, in which the pieces where errors lie are shown as errors
abbrev pub html_marked_kept : List ℕ → List Kept → List BufferedComment → List BytePos → List ℕ
html_marked_kept bytes kept comments places = html_of bytes (marked places (styled (token_classes kept) (classes_of 0 (length bytes) kept comments)))

-- of what a run keeps and collects of a text
abbrev pub html_from : List ℕ → Session → List ℕ
html_from bytes s = html_of bytes (styled (token_classes (kept_tokens s)) (classes_of 0 (length bytes) (kept_tokens s) s.comments))

-- of a text that starts at the place 0, by what steps come to
abbrev pub html_of_steps : Settings → List ℕ → List Step → List ℕ
html_of_steps settings bytes steps = html_from bytes (session settings (begin 0 (chars bytes)) steps)

-- the same, read by the flag in a context
abbrev pub html_text_of : Settings → Context → List ℕ → List ℕ
html_text_of settings context bytes = html_of_steps settings bytes (text_steps settings context (begin 0 (chars bytes)))
