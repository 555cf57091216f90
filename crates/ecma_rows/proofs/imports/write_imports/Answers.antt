use Rattle.std.proofs.Common.{◌∙◌, ℕ, List, [], Ok, false, ap, subst, sym}
use Rattle.ecma_span.specs.declared.place.BytePos.{BytePos}
use Rattle.ecma_modules.specs.Modules.{gathered}
use Rattle.ecma_module_table.specs.declared.rows.ModuleOptions.{ModuleOptions}
use Rattle.ecma_reader.specs.Rereads.{steps_to_end_by}
use Rattle.ecma_rows.specs.Asked.{asked_view, begin, judged}
use Rattle.ecma_rows.specs.ModuleRows.{ModuleView, TellsModule, is_commonjs, module_options, module_told, reading_bits, tokens_of}
use Rattle.ecma_rows.proofs.ModuleLemmas.{module-gathered}
use Rattle.ecma_rows.proofs.imports.write_imports.Goals as goal

pub returns-clause-told : goal.returns-clause-told
returns-clause-told c =
    let asked = asked_view c.in-Ok.asked in
    let s = begin false asked in
    let commonjs = is_commonjs c.args.bits in
    let options = module_options commonjs asked in
    let shows = c.in_ok-reader.ensures.shows in
    let none = c.new-gathering.ensures ∙ ap (λ (o : ModuleOptions). gathered o []) c.module_options.ensures in
    let gathers = c.in_ok-gather_tokens.ensures.gathered asked.rule s options shows none in
    let read = c.in_ok-gather_tokens.ensures.read asked.rule s options shows none in
    let met = c.is_met-is_met.ensures (steps_to_end_by asked.rule s) (c.rereads.ensures ∙ read.counted) in
    let finished = c.in_ok-module.ensures in
    let view = module-gathered _ _ options (tokens_of asked) _ asked.bytes c.gather_tokens.new.gathering _ _ _ _ met c.as_bytes.ensures.value gathers finished.imports finished.exports finished.facade finished.syntax in
    let places = c.deref.ensures.value ∙ c.in_ok-places.ensures in
    let judges = ap (λ (ps : List BytePos). judged (reading_bits c.args.bits) ps c.args.text.now) (sym places) ∙ ap (λ (n : ℕ). judged n c.deref.result.now c.args.text.now) (sym c.reading_bits.ensures) ∙ c.in-Ok.ensures.judged in
    let told = ap (module_told commonjs) judges ∙ ap (λ (m : ModuleView). Ok m) (sym view) in
    subst (λ t. TellsModule t c.args.imports.now c.write.new.imports c.args.exports.now c.write.new.exports c.write.result) (sym told) c.write.ensures
