-- What holds of canonical texts where the numbers of their tokens say which slashes begin regular expressions.
use Rattle.std.specs.Prelude.{ℕ, List}
use Rattle.ecma_slashes.specs.Rereads.{numbered}
use Rattle.ecma_flagged.specs.ByRule.{CanonicalByRuleIsRead, CanonicalByRuleIsShared, ReadsAlike}

-- The canonical text of a text that is read cleanly is read by the same steps.
abbrev pub NumberReadsAlike : Type 0
NumberReadsAlike = (numbers : List ℕ) → ReadsAlike (numbered numbers)

-- So it is read cleanly, to tokens that agree, and is its own canonical text.
abbrev pub CanonicalByNumberIsRead : Type 0
CanonicalByNumberIsRead = (numbers : List ℕ) → CanonicalByRuleIsRead (numbered numbers)

-- Two texts that are read cleanly share their canonical text exactly where their tokens agree.
abbrev pub CanonicalByNumberIsShared : Type 0
CanonicalByNumberIsShared = (numbers : List ℕ) → CanonicalByRuleIsShared (numbered numbers)
