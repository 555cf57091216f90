-- Reading with the tokens before not at hand, as one token is read of a lexer that others read before.
use Rattle.std.specs.Prelude.{[]}
use Rattle.ecma_slashes.specs.Rereads as rules
use Rattle.ecma_slashes.specs.Rereads.{SlashRule, at_places, by_flag, by_role, numbered}
use Rattle.ecma_slashes.specs.declared.slashes.Slashes.{Slashes}

-- a rule that asks for the tokens before names no slash then
abbrev pub alone : SlashRule → SlashRule
alone by_flag = by_flag
alone (at_places places) = at_places places
alone by_role = at_places []
alone (numbered numbers) = at_places []

abbrev pub rule_of : Slashes → SlashRule
rule_of slashes = alone (rules.rule_of slashes)
