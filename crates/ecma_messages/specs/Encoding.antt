-- What is told of bytes that are no UTF-8.
use Rattle.std.specs.Prelude.{ℕ, Bool, ◌==◌, ◌||◌, List, [], ◌∷◌, codes, if◌then◌else◌}
use Rattle.std.specs.List.{starts_with}
use Rattle.ecma_messages.specs.declared.encoding.NotText.{NotText}

-- a byte order mark of UTF-16 comes first
abbrev pub begins_as_utf16 : List ℕ → Bool
begins_as_utf16 bytes = starts_with (λ a b. a == b) bytes (255 ∷ (254 ∷ [])) || starts_with (λ a b. a == b) bytes (254 ∷ (255 ∷ []))

abbrev pub message : NotText → List ℕ
message why = if why.is_utf16 then codes "is UTF-16, not UTF-8, at the place" else codes "is not UTF-8 at the place"
