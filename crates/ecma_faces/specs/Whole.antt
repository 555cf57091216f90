-- Texts that are written whole: the canonical text, HTML, and a text as a terminal shows it.
use Rattle.std.specs.Prelude.{ℕ, ◌≡◌, List, [], ◌∷◌, ◌++◌, ◌&&◌, Bool, true, false, if◌then◌else◌, map, not}
use Rattle.ecma_place.specs.Text.{Text}
use Rattle.ecma_place.specs.declared.place.BytePos.{BytePos}
use Rattle.ecma_comments.specs.declared.comments_buffer.BufferedComment.{BufferedComment}
use Rattle.ecma_state.specs.Session.{Session, kept_tokens}
use Rattle.ecma_state.specs.declared.kept.Kept.{Kept}
use Rattle.ecma_state.specs.declared.settings.Settings.{Settings}
use Rattle.ecma_state.specs.declared.step.Step.{Step}
use Rattle.ecma_canonical.specs.Canonical.{IsCanonicalText, IsTooLong}
use Rattle.ecma_joined.specs.Clean.{is_clean}
use Rattle.ecma_joined.specs.Sharing.{begin}
use Rattle.ecma_options.specs.Begin.{context, settings, whole}
use Rattle.ecma_reader.specs.Rereads.{SlashRule, text_steps_by}
use Rattle.ecma_faults.specs.Faults.{FoundView, IsByPlace, all_of}
use Rattle.ecma_html.specs.Page.{page_of}
use Rattle.ecma_html.specs.Text.{html_marked_kept}
use Rattle.ecma_looks.specs.Shown.{IsShown}
use Rattle.ecma_reader.specs.Outputs.{error_tokens}
use Rattle.ecma_report.specs.Rows.{Look, whole_text}
use Rattle.ecma_report.specs.Runs.{read_to}
use Rattle.ecma_messages.specs.Visible.{name_text}
use Rattle.ecma_command.specs.declared.words.Named.{Named}

-- The canonical text

-- its bytes, or why there is none
pub data CanonTold : Type 0 where
  Bytes : List ℕ → CanonTold
  NotClean : CanonTold
  TooLong : CanonTold

-- this is so of a text and steps
abbrev pub IsTold : Settings → Text → List Step → CanonTold → Type 0
IsTold how text steps (Bytes bytes) = IsCanonicalText how 0 text steps bytes
IsTold how text steps NotClean = is_clean how (begin 0 text) steps ≡ false
IsTold how text steps TooLong = IsTooLong how 0 text steps

-- what is written of it, and nothing where there is none
abbrev pub canon_written : Look → List ℕ → CanonTold → List ℕ
canon_written l file (Bytes bytes) = whole_text l file bytes
canon_written l file NotClean = []
canon_written l file TooLong = []

-- whether it is left out for its length, or was before
abbrev pub is_too_long_behind : Bool → CanonTold → Bool
is_too_long_behind before TooLong = true
is_too_long_behind before _ = before

-- this holds of what is written of the canonical text that a text has by these steps; whether it is left out for its length is
-- said by the flags
pub record OfCanon (l : Look) (file : List ℕ) (how : Settings) (text : Text) (steps : List Step) (before after : Bool) (P : List ℕ → Type 0) : Type 0 where
  pub told : CanonTold
  pub is_told : IsTold how text steps told
  pub too_long : after ≡ is_too_long_behind before told
  pub holds : P (canon_written l file told)

-- how a text is read, of which nothing but its tokens is asked for
abbrev pub plainly : Look → Settings
plainly l = settings false l.asked.options

-- the steps by which it is read, its slashes by this rule
abbrev pub steps_by : SlashRule → Look → List ℕ → List Step
steps_by rule l text = text_steps_by rule (plainly l) (context l.asked.options) (whole text)

-- HTML

-- the place at which an error begins
abbrev pub begins_at : FoundView → BytePos
begins_at found = found.error.span.lo

abbrev pub places_of : List FoundView → List BytePos
places_of errors = map begins_at errors

-- of these tokens and comments of a file's text, with these errors: a whole page, or its element alone
abbrev pub html_by : Bool → List ℕ → List ℕ → List Kept → List BufferedComment → List BytePos → List ℕ
html_by true file text kept comments places = page_of file text (html_marked_kept text kept comments places)
html_by false file text kept comments places = html_marked_kept text kept comments places

abbrev pub html_written : Look → List ℕ → List ℕ → List Kept → List BufferedComment → List FoundView → List ℕ
html_written l file text kept comments errors = whole_text l file (html_by l.asked.page file text kept comments (places_of errors))

-- the errors of a session but for those that count in module code alone
abbrev pub errors_told : Session → List FoundView
errors_told s = all_of (error_tokens s) s.errors.recorded []

-- this holds of the HTML of a session over that text, with its errors in order of place
pub record OfHtmlBehind (l : Look) (file text : List ℕ) (s : Session) (P : List ℕ → Type 0) : Type 0 where
  pub ordered : List FoundView
  pub by_place : IsByPlace (errors_told s) ordered
  pub holds : P (html_written l file text (kept_tokens s) s.comments ordered)

-- of a text, read as it is asked for
abbrev pub OfHtml : Named → Look → List ℕ → List ℕ → (List ℕ → Type 0) → Type 0
OfHtml named l file text P = OfHtmlBehind l file text (read_to true named l text) P

-- As a terminal shows it

-- the name of the file, as messages have it, in a line of its own, where lines name their file
abbrev pub shown_head : Look → List ℕ → List ℕ
shown_head l file = if l.among.names && not l.asked.json then name_text file ++ 58 ∷ 10 ∷ [] else []

-- this holds of the lines that show a text with these tokens, comments and errors
pub record OfLines (l : Look) (file text : List ℕ) (kept : List Kept) (comments : List BufferedComment) (errors : List FoundView) (P : List ℕ → Type 0) : Type 0 where
  pub lines : List ℕ
  pub is_shown : IsShown text kept comments errors l.asked.colours lines
  pub holds : P (shown_head l file ++ whole_text l file lines)

-- this holds of the lines that show the text of a session, with its errors in order of place
pub record OfShownBehind (l : Look) (file text : List ℕ) (s : Session) (P : List ℕ → Type 0) : Type 0 where
  pub ordered : List FoundView
  pub by_place : IsByPlace (errors_told s) ordered
  pub of_lines : OfLines l file text (kept_tokens s) s.comments ordered P

-- of a text, read as it is asked for
abbrev pub OfShown : Named → Look → List ℕ → List ℕ → (List ℕ → Type 0) → Type 0
OfShown named l file text P = OfShownBehind l file text (read_to true named l text) P
