use Rattle.std.proofs.Common.{◌∙◌, Bool, List, [], false, ap, subst, sym}
use Rattle.ecma_span.specs.declared.place.BytePos.{BytePos}
use Rattle.ecma_reader.specs.Rereads.{steps_to_end_by}
use Rattle.ecma_reader.specs.Readers.{end_by}
use Rattle.ecma_rows.specs.Asked.{asked_view, begin, judged}
use Rattle.ecma_rows.specs.ErrorRows.{IsGathered, Sourced, TellsErrors, all_errors}
use Rattle.ecma_rows.specs.Told.{Rows, Told, told_by}
use Rattle.ecma_rows.proofs.errors.write_errors.Goals as goal

pub returns-clause-told : goal.returns-clause-told
returns-clause-told c =
    let asked = asked_view c.in-Ok.asked in
    let s = begin false asked in
    let there = end_by asked.rule s in
    let none : IsGathered [] (record { rows = c.new.result; messages = c.new-2.result }) = record { rows = c.new.ensures.items; messages = c.new-2.ensures.items } in
    let read = c.in_ok-push_tokens.ensures.read asked.rule s c.in_ok-reader.ensures.shows none in
    let tokens = c.in_ok-push_tokens.ensures.gathered asked.rule s c.in_ok-reader.ensures.shows none in
    let left = c.finish-outcome.ensures.left there read.at in
    let es = all_errors there in
    let tells = c.write.ensures es (c.in_ok-push_outcome.ensures there left tokens) in
    let met = c.is_met-is_met.ensures (steps_to_end_by asked.rule s) (c.finish-outcome.ensures.rereads ∙ read.counted) in
    let places = c.deref.ensures.value ∙ c.in_ok-places.ensures in
    let judges = ap (λ (ps : List BytePos). judged c.args.bits ps c.args.text.now) (sym places) ∙ c.in-Ok.ensures.judged in
    let told = ap (told_by false all_errors) judges ∙ ap (λ (b : Bool). Rows b es) (sym met) in
    subst (λ (t : Told Sourced). TellsErrors t c.args.out.now c.write.new.out c.args.messages.now c.write.new.messages c.write.result) (sym told) tells
