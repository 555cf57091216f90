-- What is told of a fault, and of an input that is no text. The lines and the statuses are our own choice.
use Rattle.std.specs.Prelude.{ℕ, List, [], ◌∷◌, ◌++◌, Result, Ok, Err, nat_lt, if◌then◌else◌, length, codes}
use Rattle.std.specs.Str.{is_utf8}
use Rattle.ecma_stdio.specs.declared.fault.Fault.{Fault}
use Rattle.ecma_stdio.specs.declared.fault.Fault.TheVariants.{BadWords, NotUtf8, TooLong, NoSlash, NotClean, OutOfMemory}

-- the one line that a fault writes
abbrev pub fault_line : Fault → List ℕ
fault_line BadWords = codes "bad words" ++ 10 ∷ []
fault_line NotUtf8 = codes "not UTF-8" ++ 10 ∷ []
fault_line TooLong = codes "too long" ++ 10 ∷ []
fault_line NoSlash = codes "no slash" ++ 10 ∷ []
fault_line NotClean = codes "not clean" ++ 10 ∷ []
fault_line OutOfMemory = codes "out of memory" ++ 10 ∷ []

abbrev pub fault_status : Fault → ℕ
fault_status BadWords = 2
fault_status NotUtf8 = 3
fault_status TooLong = 3
fault_status NoSlash = 2
fault_status NotClean = 4
fault_status OutOfMemory = 5

-- the text of an input; UTF-8 is judged before the length
abbrev pub text_reply : List ℕ → Result (List ℕ) Fault
text_reply input =
    if is_utf8 input then (if nat_lt (length input) 4_294_967_296 then Ok input else Err TooLong)
    else Err NotUtf8

-- the status for what is replied
abbrev pub reply_status : Result (List ℕ) Fault → ℕ
reply_status (Ok text) = 0
reply_status (Err fault) = fault_status fault

-- what goes out for what is replied
abbrev pub reply_text : Result (List ℕ) Fault → List ℕ
reply_text (Ok text) = text
reply_text (Err fault) = fault_line fault
