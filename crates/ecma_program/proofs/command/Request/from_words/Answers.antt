use Rattle.std.proofs.Common.{◌≡◌, ◌∙◌, ◌-◌, ◌∷◌, Some, sym, ap, arith, drop, take, length, map, string_bytes}
use Rattle.std.proofs.lemmas.List.{drop_more, take_rest}
use Rattle.ecma_program.specs.Command.{asked, behind, named_command, no_particulars, request_of}
use Rattle.ecma_program.proofs.command.Request.from_words.Goals as goal

pub returns-in_ok-with_command-in-Some-from_words : goal.returns-in_ok-with_command-in-Some-from_words
returns-in_ok-with_command-in-Some-from_words c =
    let words = c.args.words.now in
    let word = c.word-item.result in
    let (p, all, holds) = c.in-Some-from_words.ensures in
    let view = c.in_ok-with_command-in-Some-from_words.ensures p holds in
    let parts : words ≡ word ∷ take (length words - 1) (drop 1 words) =
    drop_more words 0 word (omega (arith, c.in-len1-up.len_at_least)) ∙ ap (λ first. first ∷ drop 1 words) (sym c.word-item.is) ∙ ap (λ rest. word ∷ rest) (sym (take_rest words 1)) in
    let named = c.in-Some.ensures ∙ ap named_command c.as_str.ensures.value in
    ap (λ r. Some r) view
    ∙ ap (asked (Some c.in-Some.command)) (sym all)
    ∙ ap (λ command. asked command (behind (Some no_particulars) (map string_bytes (take (length words - 1) (drop 1 words))))) named
    ∙ sym (ap (λ ws. request_of (map string_bytes ws)) parts)
