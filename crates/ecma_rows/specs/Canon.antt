-- The canonical text that is told of a text.
use Rattle.std.specs.Prelude.{ℕ, Bool, true, false, List, Result, Ok, Err, encode_utf8_all, if◌then◌else◌, length, nat_lt}
use Rattle.std.specs.Str.{chars}
use Rattle.ecma_state.specs.declared.step.Step.{Step}
use Rattle.ecma_reader.specs.Rereads.{text_steps_by}
use Rattle.ecma_canonical.specs.Clean.{is_clean}
use Rattle.ecma_canonical.specs.Sharing.{canonical_text_of}
use Rattle.ecma_options.specs.Begin.{context, settings, whole}
use Rattle.ecma_rows.specs.Asked.{AskedView}
use Rattle.ecma_rows.specs.Told.{Told, Nothing, Rows, are_met}
use Rattle.ecma_rows.specs.declared.outcome.Status.{Status}
use Rattle.ecma_rows.specs.declared.outcome.Status.TheVariants.{NoSlash, NotClean, TooLong}

-- the steps by which it is read
abbrev pub steps_of : AskedView → List Step
steps_of asked = text_steps_by asked.rule (settings false asked.options) (context asked.options) (whole asked.bytes)

abbrev pub canon_bytes : AskedView → List ℕ
canon_bytes asked = encode_utf8_all (canonical_text_of (settings false asked.options) 0 (chars asked.bytes) (steps_of asked))

abbrev pub canon_clean : Bool → AskedView → Told ℕ
canon_clean false asked = Nothing NotClean
canon_clean true asked = if nat_lt (length (canon_bytes asked)) 4_294_967_296 then Rows true (canon_bytes asked) else Nothing TooLong

abbrev pub canon_met : Bool → AskedView → Told ℕ
canon_met false asked = Nothing NoSlash
canon_met true asked = canon_clean (is_clean (settings false asked.options) (whole asked.bytes) (steps_of asked)) asked

-- its bytes, where each place that was named is that of a slash, the run is clean, and they are no more than places
abbrev pub canon_told : Result AskedView Status → Told ℕ
canon_told (Err status) = Nothing status
canon_told (Ok asked) = canon_met (are_met asked.rule (steps_of asked)) asked
