-- The canonical text that is told, case by case.
use Rattle.std.proofs.Common.{◌≡◌, ◌∙◌, ℕ, ◌+◌, ◌<◌, ◌≤◌, ◌^◌, true, false, List, arith, length, ap, sym}
use Rattle.std.specs.Prelude.{if◌then◌else◌, nat_lt}
use Rattle.std.specs.Str.{chars}
use Rattle.ecma_canonical.specs.Canonical.{IsCanonicalText, IsTooLong}
use Rattle.ecma_canonical.specs.Clean.{is_clean}
use Rattle.ecma_options.specs.Begin.{settings, whole}
use Rattle.ecma_rows.specs.Asked.{AskedView}
use Rattle.ecma_rows.specs.Canon.{canon_bytes, canon_clean, canon_met, steps_of}
use Rattle.ecma_rows.specs.Told.{Told, Nothing, Rows}
use Rattle.ecma_rows.specs.declared.outcome.Status.TheVariants.{NotClean, TooLong}

-- by the number of bytes
unless_long : List ℕ → Told ℕ
unless_long bytes = if nat_lt (length bytes) 4_294_967_296 then Rows true bytes else Nothing TooLong

short-told : (bytes : List ℕ) → 0 + length bytes < 2 ^ 32 → unless_long bytes ≡ Rows true bytes
unfolding unless_long
short-told bytes fits = grind arith

long-told : (bytes : List ℕ) → 2 ^ 32 ≤ 0 + length bytes → unless_long bytes ≡ Nothing TooLong
unfolding unless_long
long-told bytes long = grind arith

pub canon_text : (asked : AskedView) (bytes : List ℕ) → IsCanonicalText (settings false asked.options) 0 (chars asked.bytes) (steps_of asked) bytes → canon_met true asked ≡ Rows true bytes
unfolding unless_long
canon_text asked bytes is = ap (λ b. canon_clean b asked) is.clean ∙ short-told (canon_bytes asked) is.fits ∙ ap (λ b. Rows true b) (sym is.bytes_are)

pub canon_too_long : (asked : AskedView) → IsTooLong (settings false asked.options) 0 (chars asked.bytes) (steps_of asked) → canon_met true asked ≡ Nothing TooLong
unfolding unless_long
canon_too_long asked is = ap (λ b. canon_clean b asked) is.clean ∙ long-told (canon_bytes asked) is.too_long

pub canon_not_clean : (asked : AskedView) → is_clean (settings false asked.options) (whole asked.bytes) (steps_of asked) ≡ false → canon_met true asked ≡ Nothing NotClean
canon_not_clean asked unclean = ap (λ b. canon_clean b asked) unclean
