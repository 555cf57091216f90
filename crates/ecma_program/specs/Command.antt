-- What the words of the command line ask for. The words are our own choice.
use Rattle.std.specs.Prelude.{ℕ, Bool, true, false, List, [], ◌∷◌, ◌++◌, Option, Some, None, if◌then◌else◌, codes, nat_eq, nat_lt}
use Rattle.std.specs.Cmp.Lexicographic.{pointwise}
use Rattle.ecma_stdio.specs.Numbers.{number_of}
use Rattle.ecma_program.specs.declared.command.Command.{Command}
use Rattle.ecma_program.specs.declared.command.Command.TheVariants.{Tokens, Errors, Comments, Canon, Classes}
use Rattle.ecma_options.specs.declared.options.Options.{Options}
use Rattle.ecma_program.specs.declared.command.Request.{Request}

-- the command that one word names
abbrev pub named_command : List ℕ → Option Command
named_command word =
    if pointwise nat_eq word (codes "tokens") then Some Tokens
    else (if pointwise nat_eq word (codes "errors") then Some Errors
    else (if pointwise nat_eq word (codes "comments") then Some Comments
    else (if pointwise nat_eq word (codes "canon") then Some Canon
    else (if pointwise nat_eq word (codes "classes") then Some Classes
    else None))))

-- options that were given before are bad
abbrev pub once : Bool → Options → Option Options
once true options = None
once false options = Some options

-- the options with one more, which one word names
abbrev pub with_option : Options → List ℕ → Option Options
with_option o word =
    if pointwise nat_eq word (codes "ts") then once o.typescript (record o { typescript = true })
    else (if pointwise nat_eq word (codes "module") then once o.«module» (record o { «module» = true })
    else (if pointwise nat_eq word (codes "strict") then once o.strict (record o { strict = true })
    else (if pointwise nat_eq word (codes "standard") then once o.standard (record o { standard = true })
    else None)))

abbrev pub no_options : Options
no_options = record { typescript = false; «module» = false; strict = false; standard = false }

-- what the words behind the command ask for so far: options, the numbers of the tokens that are read again, in order, the
-- last of them, or 0 where there is none, and whether the next word has to be one
pub record Particulars : Type 0 where
  pub options : Options
  pub rereads : List ℕ
  pub last : ℕ
  pub awaits : Bool

abbrev pub no_particulars : Particulars
no_particulars = record { options = no_options; rereads = []; last = 0; awaits = false }

abbrev pub with_options : Particulars → Option Options → Option Particulars
with_options p None = None
with_options p (Some options) = Some (record p { options = options })

-- each number is greater than the one before
abbrev pub with_number : Particulars → Option ℕ → Option Particulars
with_number p None = None
with_number p (Some n) = if nat_lt p.last n then Some (record p { rereads = p.rereads ++ n ∷ []; last = n; awaits = false }) else None

abbrev pub with_word : Particulars → List ℕ → Option Particulars
with_word p word =
    if p.awaits then with_number p (number_of word)
    else (if pointwise nat_eq word (codes "reread") then Some (record p { awaits = true }) else with_options p (with_option p.options word))

abbrev pub behind : Option Particulars → List (List ℕ) → Option Particulars
behind None words = None
behind (Some p) [] = if p.awaits then None else Some p
behind (Some p) (word ∷ words) = behind (with_word p word) words

-- what the words ask for
pub record Asked : Type 0 where
  pub command : Command
  pub options : Options
  pub rereads : List ℕ

abbrev pub of_particulars : Command → Particulars → Asked
of_particulars command p = record { command = command; options = p.options; rereads = p.rereads }

abbrev pub asked : Option Command → Option Particulars → Option Asked
asked None particulars = None
asked (Some command) None = None
asked (Some command) (Some p) = Some (of_particulars command p)

-- first a command, and then options, each once at most, and numbers of tokens behind the word `reread`; no word at all
-- asks for the tokens
abbrev pub request_of : List (List ℕ) → Option Asked
request_of [] = Some record { command = Tokens; options = no_options; rereads = [] }
request_of (word ∷ words) = asked (named_command word) (behind (Some no_particulars) words)

-- how a request is seen
abbrev pub request_view : Request → Asked
request_view r = record { command = r.command; options = r.options; rereads = r.rereads.items }
