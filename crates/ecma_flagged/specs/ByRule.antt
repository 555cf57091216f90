-- Texts that are read to their end by a rule that says which slashes begin regular expressions, and what their canonical texts are to obey.
use Rattle.std.specs.Prelude.{◌≡◌, ◌↔◌, ℕ, List}
use Rattle.ecma_place.specs.Text.{Text}
use Rattle.ecma_syntax.specs.declared.context.Context.{Context}
use Rattle.ecma_state.specs.declared.settings.Settings.{Settings}
use Rattle.ecma_state.specs.declared.step.Step.{Step}
use Rattle.ecma_slashes.specs.Rereads.{SlashRule, text_steps_by}
use Rattle.ecma_clean.specs.Canonical.{Agree, Own}
use Rattle.ecma_clean.specs.Sharing.{IsCanonical, IsReadCleanly, begin, canonical_text_of, owned}

-- the steps by which a text is read to its end
abbrev pub rule_steps : SlashRule → Settings → Context → ℕ → Text → List Step
rule_steps rule settings context start text = text_steps_by rule settings context (begin start text)

abbrev pub owned_by : SlashRule → Settings → Context → ℕ → Text → List Own
owned_by rule settings context start text = owned settings start text (rule_steps rule settings context start text)

abbrev pub canonical_by : SlashRule → Settings → Context → ℕ → Text → Text
canonical_by rule settings context start text = canonical_text_of settings start text (rule_steps rule settings context start text)

abbrev pub IsCleanBy : SlashRule → Settings → Context → ℕ → Text → Type 0
IsCleanBy rule settings context start text = IsReadCleanly settings start text (rule_steps rule settings context start text)

-- Laws of a rule

-- The canonical text of a text that is read cleanly is read by the same steps.
abbrev pub ReadsAlike : SlashRule → Type 0
ReadsAlike rule =
    (settings : Settings) (context : Context) (start : ℕ) (text : Text) → IsCleanBy rule settings context start text
    → rule_steps rule settings context start (canonical_by rule settings context start text) ≡ rule_steps rule settings context start text

-- So it is read cleanly, to tokens that agree, and is its own canonical text.
abbrev pub CanonicalByRuleIsRead : SlashRule → Type 0
CanonicalByRuleIsRead rule =
    (settings : Settings) (context : Context) (start : ℕ) (text : Text) → IsCleanBy rule settings context start text
    → IsCanonical settings start (rule_steps rule settings context start (canonical_by rule settings context start text)) (canonical_by rule settings context start text) (owned_by rule settings context start text)

-- Two texts that are read cleanly share their canonical text exactly where their tokens agree.
abbrev pub CanonicalByRuleIsShared : SlashRule → Type 0
CanonicalByRuleIsShared rule =
    (settings : Settings) (context : Context) (start : ℕ) (a b : Text) → IsCleanBy rule settings context start a → IsCleanBy rule settings context start b
    → (canonical_by rule settings context start a ≡ canonical_by rule settings context start b) ↔ Agree (owned_by rule settings context start a) (owned_by rule settings context start b)
