-- Where the reading of a text ends.
use Rattle.std.specs.Prelude.{ℕ, Bool, List}
use Rattle.ecma_state.specs.Session.{Session}
use Rattle.ecma_options.specs.Begin.{begin}
use Rattle.ecma_reader.specs.Readers.{end_by}
use Rattle.ecma_report.specs.Rows.{Look}
use Rattle.ecma_report.specs.Slashes.{rule_at}
use Rattle.ecma_command.specs.declared.words.Named.{Named}

-- the session that a text is read to, as it is asked for; the first part says whether comments are collected
abbrev pub read_to : Bool → Named → Look → List ℕ → Session
read_to comments named l text = end_by (rule_at named) (begin comments l.asked.options text)
