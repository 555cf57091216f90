-- Whole texts.
use Rattle.std.proofs.Common.{◌≡◌, ◌∙◌, map, refl, sym, ap}
use Rattle.ecma_place.specs.Cursor.{Cursor}
use Rattle.ecma_syntax.specs.declared.context.Context.{Context}
use Rattle.ecma_token.specs.View.{error_view}
use Rattle.ecma_state.specs.Counting.{counting}
use Rattle.ecma_state.specs.Run.{act_all, start_of}
use Rattle.ecma_state.specs.Session.{has_ended, kept_back, kept_of, kept_tokens}
use Rattle.ecma_state.specs.declared.settings.Settings.{Settings}
use Rattle.ecma_replay.specs.Replay.{Gathers}
use Rattle.ecma_replay.specs.declared.gathered.Gathered.{Gathered}
use Rattle.ecma_slashes.specs.Rereads.{SlashRule, entered, rereads, steps_to_end_by, text_steps_by}
use Rattle.ecma_slashes.proofs.RunLemmas.{text-counts}
use Rattle.ecma_reader.specs.Outputs.{IsLexed}
use Rattle.ecma_reader.specs.Readers.{Leaves, end_by, tokens_by}
use Rattle.ecma_reader.specs.declared.reader.Outcome.{Outcome}
use Rattle.ecma_reader.specs.declared.tokens.LexOutput.{LexOutput}
use Rattle.ecma_reader.proofs.FoldLemmas.{mapped-back}

-- the steps by which a text is read come to where it is read from its context on
pub text-run : (rule : SlashRule) (settings : Settings) (context : Context) (input : Cursor)
    → act_all (start_of settings input) (counting (text_steps_by rule settings context input)) ≡ act_all (entered settings context input) (steps_to_end_by rule (entered settings context input))
text-run rule settings context input = ap (act_all (start_of settings input)) (text-counts rule settings context input)

-- the step that sets the context reads nothing again
pub text-rereads : (rule : SlashRule) (settings : Settings) (context : Context) (input : Cursor) → rereads (text_steps_by rule settings context input) ≡ rereads (steps_to_end_by rule (entered settings context input))
text-rereads rule settings context input = refl

-- what a reader left, with the tokens that were kept, is what the steps come to
pub gathers-all : (rule : SlashRule) (settings : Settings) (context : Context) (input : Cursor) (gathered : Gathered) (outcome : Outcome) → Leaves (end_by rule (entered settings context input)) outcome
    → gathered.kept.items ≡ map kept_of (tokens_by rule (entered settings context input)) → gathered.errors ≡ outcome.errors → gathered.waiting ≡ outcome.waiting → gathered.comments ≡ outcome.comments → gathered.ended ≡ outcome.ended
    → Gathers (start_of settings input) (text_steps_by rule settings context input) gathered
gathers-all rule settings context input gathered outcome left kept errors waiting comments ended =
    let first = entered settings context input in
    let run = sym (text-run rule settings context input) in
    record {
      kept = kept ∙ mapped-back kept_of (kept_back (end_by rule first).past) ∙ ap kept_tokens run;
      errors = ap (map error_view) errors ∙ left.errors ∙ ap (λ s. s.errors.recorded) run;
      waiting = ap (map error_view) waiting ∙ left.waiting ∙ ap (λ s. s.errors.waiting) run;
      comments = ap (λ c. c.items) comments ∙ left.comments ∙ ap (λ s. s.comments) run;
      ended = ended ∙ left.ended ∙ ap (λ s. has_ended s.past) run;
    }

pub lexed : (rule : SlashRule) (settings : Settings) (context : Context) (input : Cursor) (r : LexOutput) → Gathers (start_of settings input) (text_steps_by rule settings context input) r.gathered
    → r.rereads ≡ rereads (steps_to_end_by rule (entered settings context input)) → IsLexed (start_of settings input) (text_steps_by rule settings context input) r
lexed rule settings context input r gathers counted = record { gathers = gathers; rereads = counted ∙ sym (text-rereads rule settings context input) }
