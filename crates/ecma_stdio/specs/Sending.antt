-- What a run does to the bytes that its writer holds.
use Rattle.std.specs.Prelude.{◌≡◌, ℕ, ◌<◌, ◌⊎◌, List, Option, Result, Err, IfSome, ⊤, length, take}
use Rattle.std.specs.Io.KnownBytes.{Keeps, Appends}
use Rattle.ecma_stdio.specs.declared.fault.Fault.{Fault}
use Rattle.ecma_stdio.specs.declared.fault.Fault.TheVariants.{OutOfMemory}
use Rattle.ecma_stdio.specs.declared.fault.Halt.{Halt}
use Rattle.ecma_stdio.specs.declared.fault.Halt.TheVariants.{ReadFailed, Fault as FaultHalt}
use Rattle.ecma_stdio.specs.Faults.{reply_status, reply_text, fault_status, fault_line}

-- the whole text went out and the answer is `status`, or a beginning that is not the whole went out and it is 1
abbrev pub Sends : ℕ → List ℕ → Option (List ℕ) → Option (List ℕ) → ℕ → Type 0
Sends status text old new result =
    ((result ≡ status) × Appends old new text)
    ⊎ ((result ≡ 1) × ((count : ℕ) × (count < length text) × Appends old new (take count text)))

-- the reply was sent, or an allocation was refused, or the input could not be read and nothing went out
abbrev pub Answers : Result (List ℕ) Fault → Option (List ℕ) → Option (List ℕ) → ℕ → Type 0
Answers reply old new result =
    Sends (reply_status reply) (reply_text reply) old new result
    ⊎ (Sends (fault_status OutOfMemory) (fault_line OutOfMemory) old new result
    ⊎ ((result ≡ 1) × Keeps old new))

-- the bytes that the reader has left, where it tells them; else any
abbrev pub IsInput : Option (List ℕ) → List ℕ → Type 0
IsInput told input = IfSome told (λ bytes. bytes ≡ input)

-- why there is no text: the reply is that fault, or memory was wanted, or a read failed
abbrev pub Halts : Result (List ℕ) Fault → Halt → Type 0
Halts reply ReadFailed = ⊤
Halts reply (FaultHalt fault) = (reply ≡ Err fault) ⊎ (fault ≡ OutOfMemory)

-- the line of the fault was sent, or a read failed and nothing went out
abbrev pub TellsOf : Halt → Option (List ℕ) → Option (List ℕ) → ℕ → Type 0
TellsOf ReadFailed old new result = (result ≡ 1) × Keeps old new
TellsOf (FaultHalt fault) old new result = Sends (fault_status fault) (fault_line fault) old new result
