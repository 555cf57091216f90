-- Which slashes begin regular expressions.
use Rattle.std.specs.Prelude.{Bool, true, false, List, [], ◌∷◌, if◌then◌else◌}
use Rattle.ecma_span.specs.declared.place.BytePos.{BytePos}
use Rattle.ecma_reader.specs.Rereads.{SlashRule, ascend, at_places, by_flag, by_role}
use Rattle.ecma_command.specs.declared.words.Named.{Named}

-- those that the lexer's own flag says, or those where the tokens before expect an operand
abbrev pub rule_without_places : Bool → SlashRule
rule_without_places true = by_flag
rule_without_places false = by_role

-- those at these places, each behind the one before it
abbrev pub rule_with_places : List BytePos → SlashRule → SlashRule
rule_with_places [] other = other
rule_with_places (p ∷ ps) other = if ascend (p ∷ ps) then at_places (p ∷ ps) else other

abbrev pub rule_at : Named → SlashRule
rule_at named = rule_with_places named.places.now (rule_without_places named.by_flag)
