-- What is gathered, with what the words that are left ask for, is what all words ask for.
use Rattle.std.proofs.Common.{◌≡◌, Some, drop, map, string_bytes}
use Rattle.ecma_program.specs.Command.{Particulars, behind, no_particulars}
use Rattle.ecma_program.specs.Gathered.{Holds}
use Rattle.ecma_program.proofs.particulars.Particulars.from_words.Given as goal

abbrev pub invariant-loop-word : goal.invariant-loop-word
invariant-loop-word l =
    (p : Particulars) × (behind (Some no_particulars) (map string_bytes l.words) ≡ behind (Some p) (map string_bytes (drop l.word-index l.words))) × Holds p l.particulars
