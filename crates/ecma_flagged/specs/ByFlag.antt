-- What holds of canonical texts where the lexer's own flag says which slashes begin regular expressions.
use Rattle.std.specs.Prelude.{ℕ, List}
use Rattle.ecma_place.specs.Text.{Text}
use Rattle.ecma_syntax.specs.declared.context.Context.{Context}
use Rattle.ecma_state.specs.declared.settings.Settings.{Settings}
use Rattle.ecma_state.specs.declared.step.Step.{Step}
use Rattle.ecma_slashes.specs.Rereads.{by_flag}
use Rattle.ecma_clean.specs.Canonical.{Own}
use Rattle.ecma_flagged.specs.ByRule.{CanonicalByRuleIsRead, CanonicalByRuleIsShared, IsCleanBy, ReadsAlike, canonical_by, owned_by, rule_steps}

-- the steps by which a text is read to its end
abbrev pub flag_steps : Settings → Context → ℕ → Text → List Step
flag_steps = rule_steps by_flag

abbrev pub owned_by_flag : Settings → Context → ℕ → Text → List Own
owned_by_flag = owned_by by_flag

abbrev pub canonical_by_flag : Settings → Context → ℕ → Text → Text
canonical_by_flag = canonical_by by_flag

abbrev pub IsCleanByFlag : Settings → Context → ℕ → Text → Type 0
IsCleanByFlag = IsCleanBy by_flag

-- Laws

-- The canonical text of a text that is read cleanly is read by the same steps.
abbrev pub FlagReadsAlike : Type 0
FlagReadsAlike = ReadsAlike by_flag

-- So it is read cleanly, to tokens that agree, and is its own canonical text.
abbrev pub CanonicalByFlagIsRead : Type 0
CanonicalByFlagIsRead = CanonicalByRuleIsRead by_flag

-- Two texts that are read cleanly share their canonical text exactly where their tokens agree.
abbrev pub CanonicalByFlagIsShared : Type 0
CanonicalByFlagIsShared = CanonicalByRuleIsShared by_flag
