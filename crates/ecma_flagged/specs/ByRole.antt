-- What holds of canonical texts where what the tokens before expect says which slashes begin regular expressions.
use Rattle.std.specs.Prelude.{ℕ, List}
use Rattle.ecma_place.specs.Text.{Text}
use Rattle.ecma_syntax.specs.declared.context.Context.{Context}
use Rattle.ecma_state.specs.declared.settings.Settings.{Settings}
use Rattle.ecma_state.specs.declared.step.Step.{Step}
use Rattle.ecma_slashes.specs.Rereads.{by_role}
use Rattle.ecma_clean.specs.Canonical.{Own}
use Rattle.ecma_flagged.specs.ByRule.{CanonicalByRuleIsRead, CanonicalByRuleIsShared, IsCleanBy, ReadsAlike, canonical_by, owned_by, rule_steps}

-- the steps by which a text is read to its end
abbrev pub role_steps : Settings → Context → ℕ → Text → List Step
role_steps = rule_steps by_role

abbrev pub owned_by_role : Settings → Context → ℕ → Text → List Own
owned_by_role = owned_by by_role

abbrev pub canonical_by_role : Settings → Context → ℕ → Text → Text
canonical_by_role = canonical_by by_role

abbrev pub IsCleanByRole : Settings → Context → ℕ → Text → Type 0
IsCleanByRole = IsCleanBy by_role

-- Laws

-- The canonical text of a text that is read cleanly is read by the same steps.
abbrev pub RoleReadsAlike : Type 0
RoleReadsAlike = ReadsAlike by_role

-- So it is read cleanly, to tokens that agree, and is its own canonical text.
abbrev pub CanonicalByRoleIsRead : Type 0
CanonicalByRoleIsRead = CanonicalByRuleIsRead by_role

-- Two texts that are read cleanly share their canonical text exactly where their tokens agree.
abbrev pub CanonicalByRoleIsShared : Type 0
CanonicalByRoleIsShared = CanonicalByRuleIsShared by_role
