use Rattle.std.proofs.Common.{◌≡◌, ap, refl, sym, ◌∙◌, encode_utf8_all, length, take}
use Rattle.std.specs.List.{take_while}
use Rattle.ecma_place.specs.Character.{is_ident_part}
use Rattle.ecma_place.specs.Cursor.{passed, place, rest}
use Rattle.ecma_place.proofs.MoveLemmas.{span-passed}
use Rattle.ecma_place.proofs.RunLemmas.{text-passed}
use Rattle.ecma_syntax.specs.Word.{word_of_kind}
use Rattle.ecma_syntax.proofs.Words.{word_of-kind}
use Rattle.ecma_reads.specs.Found.{scanned}
use Rattle.ecma_reads.proofs.Fronts.{length-take_while, take_while-front}
use Rattle.ecma_plain.proofs.PlainLemmas.{plain-of-word, word-plain}
use Rattle.ecma_plain.proofs.plain.word_between.Goals as goal

pub returns-clause-token : goal.returns-clause-token
returns-clause-token c = λ mode old opened there passes.
    let now = c.args.input.now in
    let spelling = take_while is_ident_part (rest old) in
    let moved : now ≡ passed (length spelling) old = passes.moved ∙ ap (λ n. passed n old) (sym (length-take_while is_ident_part (rest old))) in
    let extent = c.new-span.ensures ∙ span-passed old now spelling _ _ (take_while-front is_ident_part (rest old)) moved there c.cur_pos-end.ensures in
    let text : c.slice.result.now ≡ encode_utf8_all spelling =
    c.slice.ensures ∙ text-passed old now _ _ _ passes.moved there c.cur_pos-end.ensures
    ∙ ap encode_utf8_all (ap (λ n. take n (rest old)) (sym (length-take_while is_ident_part (rest old))) ∙ take_while-front is_ident_part (rest old)) in
    let same = c.of_kind-word.ensures ∙ ap (λ k. word_of_kind k c.slice.result.now) passes.of_kind ∙ ap (word_of_kind _) text ∙ word_of-kind _ in
    let found = word-plain mode (place old) (rest old) spelling c.of_kind-word.result c.args.flag c.new-span.result (passes.word mode.context ∙ ap (λ w. scanned w spelling) (sym same)) extent in
    plain-of-word mode c.args.flag old now _ opened found refl
    (moved ∙ ap (λ s. passed (length s) old) (sym (ap (λ s. s.spelling) (passes.word mode.context))))
