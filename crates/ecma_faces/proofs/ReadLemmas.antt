-- What was gathered of a text.
use Rattle.std.proofs.Common.{◌≡◌, ◌∙◌, ℕ, Bool, List, ap, map, length, subst, true}
use Rattle.ecma_syntax.specs.declared.context.Context.{Context}
use Rattle.ecma_token.specs.View.{error_view}
use Rattle.ecma_state.specs.Run.{start_of}
use Rattle.ecma_state.specs.Session.{kept_tokens}
use Rattle.ecma_state.specs.declared.settings.Settings.{Settings}
use Rattle.ecma_classes.specs.Classes.{classes_of}
use Rattle.ecma_options.specs.Begin.{begin, context, settings, whole}
use Rattle.ecma_reader.specs.Rereads.{SlashRule, rereads, steps_to_end_by, text_steps_by}
use Rattle.ecma_reader.specs.Outputs.{IsReadOut, error_tokens}
use Rattle.ecma_reader.specs.declared.error_tokens.ReadOut.{ReadOut}
use Rattle.ecma_reader.proofs.TextLemmas.{text-run}
use Rattle.ecma_faces.specs.Pieces.{pieces_by}
use Rattle.ecma_report.specs.Rows.{Look}
use Rattle.ecma_report.specs.Runs.{read_to}
use Rattle.ecma_report.specs.Slashes.{rule_at}
use Rattle.ecma_command.specs.declared.words.Named.{Named}

-- what is read of a text, by a rule in a context
abbrev Of : SlashRule → Settings → Context → List ℕ → ReadOut → Type 0
Of rule how where_from text read = IsReadOut (start_of how (whole text)) (text_steps_by rule how where_from (whole text)) read

-- as it is asked for
abbrev pub IsAsked : Bool → Named → Look → List ℕ → ReadOut → Type 0
IsAsked comments named ask text read = Of (rule_at named) (settings comments ask.asked.options) (context ask.asked.options) text read

pub read-as-asked : (comments : Bool) (named : Named) (ask : Look) (text source : List ℕ) (rule : SlashRule) (how : Settings) (where_from : Context) (read : ReadOut)
    → rule ≡ rule_at named → how ≡ settings comments ask.asked.options → where_from ≡ context ask.asked.options → source ≡ text → Of rule how where_from source read
    → IsAsked comments named ask text read
read-as-asked comments named ask text source rule how where_from read by set placed same is =
    let how_asked = settings comments ask.asked.options in
    let of_rule = subst (λ r. Of r how where_from source read) by is in
    let of_settings = subst (λ h. Of (rule_at named) h where_from source read) set of_rule in
    let of_context = subst (λ w. Of (rule_at named) how_asked w source read) placed of_settings in
    subst (λ t. Of (rule_at named) how_asked (context ask.asked.options) t read) same of_context

pub kept-asked : (named : Named) (ask : Look) (text : List ℕ) (read : ReadOut) → IsAsked true named ask text read → read.gathered.kept.items ≡ kept_tokens (read_to true named ask text)
kept-asked named ask text read is = is.gathers.kept ∙ ap kept_tokens (text-run (rule_at named) (settings true ask.asked.options) (context ask.asked.options) (whole text))

pub comments-asked : (named : Named) (ask : Look) (text : List ℕ) (read : ReadOut) → IsAsked true named ask text read → read.gathered.comments.items ≡ (read_to true named ask text).comments
comments-asked named ask text read is = is.gathers.comments ∙ ap (λ s. s.comments) (text-run (rule_at named) (settings true ask.asked.options) (context ask.asked.options) (whole text))

pub recorded-asked : (named : Named) (ask : Look) (text : List ℕ) (read : ReadOut) → IsAsked true named ask text read → map error_view read.gathered.errors ≡ (read_to true named ask text).errors.recorded
recorded-asked named ask text read is = is.gathers.errors ∙ ap (λ s. s.errors.recorded) (text-run (rule_at named) (settings true ask.asked.options) (context ask.asked.options) (whole text))

pub refusals-asked : (named : Named) (ask : Look) (text : List ℕ) (read : ReadOut) → IsAsked true named ask text read → map error_view read.refusals.items ≡ error_tokens (read_to true named ask text)
refusals-asked named ask text read is = is.refusals ∙ ap error_tokens (text-run (rule_at named) (settings true ask.asked.options) (context ask.asked.options) (whole text))

pub pieces-asked : (named : Named) (ask : Look) (text : List ℕ) (read : ReadOut) → IsAsked true named ask text read
    → classes_of 0 (length text) read.gathered.kept.items read.gathered.comments.items ≡ pieces_by named ask text
pieces-asked named ask text read is =
    ap (λ kept. classes_of 0 (length text) kept read.gathered.comments.items) (kept-asked named ask text read is)
    ∙ ap (λ comments. classes_of 0 (length text) (kept_tokens (read_to true named ask text)) comments) (comments-asked named ask text read is)

-- as many slashes are read again as in the whole run
pub rereads-asked : (named : Named) (ask : Look) (text : List ℕ) (read : ReadOut) → IsAsked true named ask text read
    → read.rereads ≡ rereads (steps_to_end_by (rule_at named) (begin true ask.asked.options text))
rereads-asked named ask text read is = is.rereads
