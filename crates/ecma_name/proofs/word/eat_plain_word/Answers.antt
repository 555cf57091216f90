use Rattle.std.proofs.Common.{◌≡◌, ap, sym, ◌∙◌, take, encode_utf8_all, arith}
use Rattle.std.specs.List.{take_while}
use Rattle.ecma_place.specs.Character.{is_ident_part}
use Rattle.ecma_place.specs.Cursor.{rest}
use Rattle.ecma_place.proofs.MoveLemmas.{place-passed-le}
use Rattle.ecma_place.proofs.RunLemmas.{text-passed}
use Rattle.ecma_syntax.specs.Word.{word_of_kind}
use Rattle.ecma_syntax.proofs.Words.{word_of-kind}
use Rattle.ecma_grammar.specs.Found.{scanned}
use Rattle.ecma_grammar.proofs.Fronts.{length-take_while, take_while-front}
use Rattle.ecma_name.proofs.word.eat_plain_word.Goals as goal

pub slice-requires-clause-in_order : goal.slice-requires-clause-in_order
slice-requires-clause-in_order c =
    let le = place-passed-le c.args.input.now c.eat_plain_kind.new.input _ c.in_ok-kind.ensures.moved in
    omega (arith, le, c.cur_pos-start.ensures, c.cur_pos.ensures)

pub returns-clause-word : goal.returns-clause-word
returns-clause-word c = λ context.
    let cs = rest c.args.input.now in
    let text : c.slice.result.now ≡ encode_utf8_all (take_while is_ident_part cs) =
    c.slice.ensures ∙ text-passed c.args.input.now c.eat_plain_kind.new.input _ _ _ c.in_ok-kind.ensures.moved c.cur_pos-start.ensures c.cur_pos.ensures
    ∙ ap encode_utf8_all (ap (λ n. take n cs) (sym (length-take_while is_ident_part cs)) ∙ take_while-front is_ident_part cs) in
    let word = c.of_kind.ensures ∙ ap (λ k. word_of_kind k c.slice.result.now) c.in_ok-kind.ensures.kind ∙ ap (word_of_kind _) text ∙ word_of-kind _ in
    c.in_ok-kind.ensures.word context ∙ ap (λ w. scanned w (take_while is_ident_part cs)) (sym word)
