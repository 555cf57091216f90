-- What the canonical text of a list of steps over a text is.
use Rattle.std.specs.Prelude.{◌≡◌, ◌≤◌, ◌<◌, ◌+◌, ◌^◌, ℕ, false, List, encode_utf8_all, string_bytes}
use Rattle.ecma_place.specs.Cursor.{Cursor}
use Rattle.ecma_place.specs.Text.{Text, byte_len}
use Rattle.ecma_state.specs.Run.{session, start_of}
use Rattle.ecma_state.specs.declared.settings.Settings.{Settings}
use Rattle.ecma_state.specs.declared.step.Step.{Step}
use Rattle.ecma_joined.specs.Clean.{ends_clean, is_clean}
use Rattle.ecma_joined.specs.Sharing.{IsCanonical, IsReadCleanly, begin, canonical_text_of, owned}
use Rattle.ecma_replay.specs.Replay.{Gathers}
use Rattle.ecma_replay.specs.declared.gathered.Gathered.{Gathered}
use Rattle.ecma_canonical.specs.declared.clean_text.Canon.{Canon}
use Rattle.ecma_canonical.specs.declared.clean_text.Canon.TheVariants as canon

-- the text is read cleanly, and its canonical text is longer than any that starts at this place
pub record IsTooLong (settings : Settings) (start : ℕ) (text : Text) (steps : List Step) : Type 0 where
  pub clean : IsReadCleanly settings start text steps
  pub too_long : 2 ^ 32 ≤ start + byte_len (canonical_text_of settings start text steps)

-- The text is read cleanly, and these are the bytes of its canonical text, which is read cleanly by the same steps, to tokens
-- that agree, and is its own canonical text.
pub record IsCanonicalText (settings : Settings) (start : ℕ) (text : Text) (steps : List Step) (bytes : List ℕ) : Type 0 where
  pub clean : IsReadCleanly settings start text steps
  pub bytes_are : bytes ≡ encode_utf8_all (canonical_text_of settings start text steps)
  pub fits : start + byte_len (canonical_text_of settings start text steps) < 2 ^ 32
  pub read_again : IsCanonical settings start steps (canonical_text_of settings start text steps) (owned settings start text steps)

-- All was gathered of the text of a cursor by these steps, whose run is clean where it comes to the end and leaves nothing
-- wrong, as is that of plain steps that take no error.
pub record GathersPlainly (settings : Settings) (input : Cursor) (steps : List Step) (r : Gathered) : Type 0 where
  pub gathers : Gathers (start_of settings input) steps r
  pub clean : is_clean settings input steps ≡ ends_clean (session settings input steps)

abbrev pub IsCanon : Settings → ℕ → Text → List Step → Canon → Type 0
IsCanon settings start text steps (canon.Text t) = IsCanonicalText settings start text steps (string_bytes t)
IsCanon settings start text steps canon.NotClean = is_clean settings (begin start text) steps ≡ false
IsCanon settings start text steps canon.TooLong = IsTooLong settings start text steps
