-- What is written of the canonical text of a text's tokens: its bytes, and nothing behind them.
use Rattle.std.specs.Prelude.{◌≡◌, ℕ, true, false, List, Some, Result, Ok, Err, encode_utf8_all, if◌then◌else◌, length, map, nat_lt}
use Rattle.std.specs.Str.{IsUtf8}
use Rattle.ecma_joined.specs.Canonical.{Agree, Own, canonical_of, own_in}
use Rattle.ecma_state.specs.Clean.{ends_clean}
use Rattle.ecma_state.specs.Ending.{read_out}
use Rattle.ecma_state.specs.Session.{Session, kept_tokens}
use Rattle.ecma_state.specs.declared.kept.Kept.{Kept}
use Rattle.ecma_options.specs.Begin.{whole}
use Rattle.ecma_program.specs.Rereads.{session_behind, unless_no_slash}
use Rattle.ecma_options.specs.declared.options.Options.{Options}
use Rattle.ecma_stdio.specs.declared.fault.Fault.{Fault}
use Rattle.ecma_stdio.specs.declared.fault.Fault.TheVariants.{NotClean, TooLong}

-- the tokens that a session keeps of the text with these bytes, without their places
abbrev pub owned : List ℕ → Session → List Own
owned bytes s = map (own_in (whole bytes)) (kept_tokens s)

abbrev pub canonical_bytes : List ℕ → Session → List ℕ
canonical_bytes bytes s = encode_utf8_all (canonical_of (owned bytes s))

-- nothing is wrong where the reads of a text have come to the end, and these tokens are kept there
pub record KeepsCleanly (options : Options) (rereads bytes : List ℕ) (kept : List Kept) : Type 0 where
  pub session : Session
  pub opened : session_behind false options rereads bytes ≡ Some session
  pub clean : ends_clean (read_out session) ≡ true
  pub kept_there : kept ≡ kept_tokens (read_out session)

-- places count the bytes of a text from 0
abbrev pub unless_too_long : List ℕ → Result (List ℕ) Fault
unless_too_long text = if nat_lt (length text) 4_294_967_296 then Ok text else Err TooLong

-- where the reads have come to the end; the length is judged last
abbrev pub canon_at : List ℕ → Session → Result (List ℕ) Fault
canon_at bytes s = if ends_clean s then unless_too_long (canonical_bytes bytes s) else Err NotClean

-- where the text is read on from a session
abbrev pub canon_from : List ℕ → Result Session Fault → Result (List ℕ) Fault
canon_from bytes (Ok s) = canon_at bytes (read_out s)
canon_from bytes (Err fault) = Err fault

abbrev pub canon_text : Options → List ℕ → List ℕ → Result (List ℕ) Fault
canon_text options rereads bytes = canon_from bytes (unless_no_slash (session_behind false options rereads bytes))

-- What is written of the canonical text of a text with these bytes is read by the same words, to tokens that agree with those
-- of the text, and is its own canonical text.
pub record IsReadAgain (options : Options) (rereads bytes out : List ℕ) : Type 0 where
  pub before : Session
  pub opened : session_behind false options rereads bytes ≡ Some before
  pub behind : Session
  pub again : session_behind false options rereads out ≡ Some behind
  pub agrees : Agree (owned out (read_out behind)) (owned bytes (read_out before))
  pub itself : canon_text options rereads out ≡ Ok out

-- Laws

-- So is all that is written.
abbrev pub CanonIsRead : Type 0
CanonIsRead = (options : Options) (rereads bytes out : List ℕ) → IsUtf8 bytes → canon_text options rereads bytes ≡ Ok out → IsReadAgain options rereads bytes out
