-- Whether bytes are a text, case by case.
use Rattle.std.proofs.Common.{◌≡◌, ℕ, ◌<◌, ◌≤◌, List, Ok, Err, IsUtf8, arith, length}
use Rattle.std.proofs.lemmas.Str.{is_utf8-from_IsUtf8, IsUtf8-from_is_utf8}
use Rattle.ecma_reader.specs.Rereads.{SlashRule}
use Rattle.ecma_rows.specs.Asked.{judged_text}
use Rattle.ecma_options.specs.declared.options.Options.{Options}
use Rattle.ecma_rows.specs.declared.outcome.Status.TheVariants.{NotUtf8, TooLong}

pub not_utf8 : (o : Options) (rule : SlashRule) (bytes : List ℕ) → ¬ (IsUtf8 bytes) → judged_text o rule bytes ≡ Err NotUtf8
not_utf8 o rule bytes bad = grind (arith, IsUtf8-from_is_utf8)

pub too_long : (o : Options) (rule : SlashRule) (bytes : List ℕ) → IsUtf8 bytes → 4_294_967_295 < length bytes → judged_text o rule bytes ≡ Err TooLong
too_long o rule bytes text long = grind (arith, is_utf8-from_IsUtf8)

pub whole_text : (o : Options) (rule : SlashRule) (bytes : List ℕ) → IsUtf8 bytes → length bytes ≤ 4_294_967_295 → judged_text o rule bytes ≡ Ok (record { options = o; rule = rule; bytes = bytes })
whole_text o rule bytes text short = grind (arith, is_utf8-from_IsUtf8)
