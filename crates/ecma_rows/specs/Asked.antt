-- How a text is asked to be read, by numbers. The numbers are our own choice.
use Rattle.std.specs.Prelude.{ℕ, ◌/◌, ◌%◌, ◌==◌, Bool, true, false, List, [], ◌∷◌, Option, Some, None, Result, Ok, Err, if◌then◌else◌, length, nat_lt}
use Rattle.std.specs.Str.{is_utf8}
use Rattle.ecma_span.specs.declared.place.BytePos.{BytePos}
use Rattle.ecma_options.specs.Begin as reading
use Rattle.ecma_options.specs.declared.options.Options.{Options}
use Rattle.ecma_state.specs.Session.{Session}
use Rattle.ecma_reader.specs.Rereads.{SlashRule, at_places, by_flag, by_role, ascend, rule_of}
use Rattle.ecma_rows.specs.declared.request.Asked.{Asked}
use Rattle.ecma_rows.specs.declared.outcome.Status.{Status}
use Rattle.ecma_rows.specs.declared.outcome.Status.TheVariants.{NotUtf8, Refused, TooLong}

-- Options

-- the sum has this power of two in it
abbrev pub has : ℕ → ℕ → Bool
has power bits = ((bits / power) % 2) == 1

abbrev pub options_of : ℕ → Option Options
options_of bits =
    if nat_lt bits 32
    then Some (record { typescript = has 1 bits; «module» = has 2 bits; strict = has 4 bits; standard = false })
    else None

-- the lexer's own flag is to tell which slashes begin regular expressions
abbrev pub is_by_flag : ℕ → Bool
is_by_flag bits = has 8 bits

-- the tokens before them are
abbrev pub is_by_role : ℕ → Bool
is_by_role bits = has 16 bits

-- Slashes

abbrev pub place_at : ℕ → BytePos
place_at n = record { 0 = n }

-- a rule that goes by no places, where none are given
abbrev pub without_places : SlashRule → List BytePos → Option SlashRule
without_places rule [] = Some rule
without_places rule (p ∷ places) = None

-- the slashes that are read again
abbrev pub rule_asked : Bool → Bool → List BytePos → Option SlashRule
rule_asked true true places = None
rule_asked true false places = without_places by_flag places
rule_asked false true places = without_places by_role places
rule_asked false false places = if ascend places then Some (at_places places) else None

-- Requests

-- a text with these bytes, and how it is read
pub record AskedView : Type 0 where
  pub options : Options
  pub rule : SlashRule
  pub bytes : List ℕ

abbrev pub asked_view : Asked → AskedView
asked_view asked = record { options = asked.options; rule = rule_of asked.slashes; bytes = asked.text.now }

-- UTF-8 is judged before the length
abbrev pub judged_text : Options → SlashRule → List ℕ → Result AskedView Status
judged_text o rule bytes =
    if is_utf8 bytes
    then (if nat_lt (length bytes) 4_294_967_296 then Ok (record { options = o; rule = rule; bytes = bytes }) else Err TooLong)
    else Err NotUtf8

abbrev pub judged_rule : Options → Option SlashRule → List ℕ → Result AskedView Status
judged_rule o None bytes = Err Refused
judged_rule o (Some rule) bytes = judged_text o rule bytes

abbrev pub judged_options : Option Options → Option SlashRule → List ℕ → Result AskedView Status
judged_options None rule bytes = Err Refused
judged_options (Some o) rule bytes = judged_rule o rule bytes

-- the options and the places are judged first
abbrev pub judged : ℕ → List BytePos → List ℕ → Result AskedView Status
judged bits places bytes = judged_options (options_of bits) (rule_asked (is_by_flag bits) (is_by_role bits) places) bytes

-- Runs

-- where the reading of a text begins; comments are collected or not
abbrev pub begin : Bool → AskedView → Session
begin comments asked = reading.begin comments asked.options asked.bytes
