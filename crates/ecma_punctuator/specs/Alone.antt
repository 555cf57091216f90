-- Punctuators of one character. All of this page is our own choice.
use Rattle.std.specs.Prelude.{◌≡◌, ℕ, Bool, [], ◌∷◌, Some, take}
use Rattle.ecma_place.specs.Text.{Text}
use Rattle.ecma_grammar.specs.Punctuators.{punctuator_in, spells}
use Rattle.ecma_punctuator.specs.PunctuatorKinds.{kind_token}
use Rattle.ecma_punctuator.specs.declared.punctuator_kind.PunctuatorKind.{PunctuatorKind}

-- the character alone spells the punctuator
abbrev pub IsSpelledBy : ℕ → PunctuatorKind → Type 0
IsSpelledBy c kind = (type_mode : Bool) → punctuator_in type_mode (c ∷ []) ≡ Some (spells (c ∷ []) (kind_token kind))

-- what the text begins with is what its first character alone spells
abbrev pub StandsAlone : Text → Type 0
StandsAlone text = (type_mode : Bool) → punctuator_in type_mode text ≡ punctuator_in type_mode (take 1 text)
