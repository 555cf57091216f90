-- What is told of bad words.
use Rattle.std.proofs.Common.{◌≡◌, inl, ℕ, List, [], Option, None, sym, ap}
use Rattle.std.specs.Option.{unwrap_or}
use Rattle.ecma_program.specs.Command.{request_of}
use Rattle.ecma_program.specs.Reply.{reply_of, reply_to}
use Rattle.ecma_stdio.specs.declared.fault.Fault.TheVariants.{BadWords}
use Rattle.ecma_stdio.specs.declared.fault.Halt.TheVariants.{Fault as FaultHalt}
use Rattle.ecma_stdio.specs.Sending.{IsInput, Halts}
use Rattle.ecma_stdio.proofs.Halting.{some_input}

-- bad words are told of whatever the reader has left
pub halts_at_words : (told : Option (List ℕ)) (words : List (List ℕ)) → None ≡ request_of words
    → (input : List ℕ) × IsInput told input × Halts (reply_of words input) (FaultHalt BadWords)
halts_at_words told words bad = (unwrap_or told [], some_input told, inl (ap (λ request. reply_to request (unwrap_or told [])) (sym bad)))
