-- What a report is of, and what was written and is held of it.
use Rattle.std.specs.Prelude.{◌≡◌, ◌++◌, Bool, true, false, ℕ, List, Option}
use Rattle.std.specs.Io.KnownBytes.{Appends}
use Rattle.ecma_print.specs.Lines.{Counts}
use Rattle.ecma_report.specs.declared.report.Report.{Report}
use Rattle.ecma_report.specs.Rows.{Look, look}
use Rattle.ecma_command.specs.declared.words.Face.{Face}
use Rattle.ecma_command.specs.declared.words.Face.TheVariants.{Errors}

abbrev pub look_of : Report → Look
look_of report = look report.asked report.among

-- of a text with these bytes, under this name, as it is asked for, and its count of lines stands in that text
pub record IsOf (l : Look) (file bytes : List ℕ) (report : Report) : Type 0 where
  pub look : look_of report ≡ l
  pub name : report.name.now ≡ file
  pub text : report.text.now ≡ bytes
  pub counts : Counts bytes report.lines

-- errors are told in rows, and not as faults of the file
abbrev pub writes_errors : Face → Bool
writes_errors Errors = true
writes_errors _ = false

-- of the same as before
pub record IsStill (old new : Report) : Type 0 where
  pub asked : new.asked ≡ old.asked
  pub among : new.among ≡ old.among
  pub name : new.name.now ≡ old.name.now
  pub text : new.text.now ≡ old.text.now
  pub counts : Counts old.text.now old.lines → Counts old.text.now new.lines
  pub too_long : new.is_too_long ≡ old.is_too_long

-- with the same lines of faults, and as faulty
pub record KeepsFaults (old new : Report) : Type 0 where
  pub faults : new.faults.items ≡ old.faults.items
  pub faulty : new.is_faulty ≡ old.is_faulty

-- both
pub record Stays (old new : Report) : Type 0 where
  pub asked : new.asked ≡ old.asked
  pub among : new.among ≡ old.among
  pub name : new.name.now ≡ old.name.now
  pub text : new.text.now ≡ old.text.now
  pub counts : Counts old.text.now old.lines → Counts old.text.now new.lines
  pub too_long : new.is_too_long ≡ old.is_too_long
  pub faults : new.faults.items ≡ old.faults.items
  pub faulty : new.is_faulty ≡ old.is_faulty

-- This was added to the bytes that were written, where these are known, and to those that are held behind them: some of it all
-- was written, and the rest is held.
pub record Adds (before after : Option (List ℕ)) (held now added : List ℕ) : Type 0 where
  pub sent : List ℕ
  pub written : Appends before after sent
  pub left : sent ++ now ≡ held ++ added
