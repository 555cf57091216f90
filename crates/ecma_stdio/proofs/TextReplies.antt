-- The text of an input, case by case.
use Rattle.std.proofs.Common.{◌≡◌, ℕ, ◌<◌, ◌≤◌, List, Ok, Err, IsUtf8, arith, length}
use Rattle.std.proofs.lemmas.Str.{is_utf8-from_IsUtf8, IsUtf8-from_is_utf8}
use Rattle.ecma_stdio.specs.declared.fault.Fault.TheVariants.{NotUtf8, TooLong}
use Rattle.ecma_stdio.specs.Faults.{text_reply}

pub reply_not_utf8 : (input : List ℕ) → ¬ (IsUtf8 input) → text_reply input ≡ Err NotUtf8
reply_not_utf8 input bad = grind (arith, IsUtf8-from_is_utf8)

pub reply_too_long : (input : List ℕ) → IsUtf8 input → 4_294_967_295 < length input → text_reply input ≡ Err TooLong
reply_too_long input text long = grind (arith, is_utf8-from_IsUtf8)

pub reply_whole : (input : List ℕ) → IsUtf8 input → length input ≤ 4_294_967_295 → text_reply input ≡ Ok input
reply_whole input text short = grind (arith, is_utf8-from_IsUtf8)
