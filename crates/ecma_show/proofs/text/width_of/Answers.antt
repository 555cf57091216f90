use Rattle.std.proofs.Common.{◌≡◌, ◌∙◌, ◌+◌, ◌++◌, ◌==◌, ap, arith, count_by, length}
use Rattle.std.specs.Prelude.{decimal}
use Rattle.std.proofs.lemmas.Grind.{common_steps}
use Rattle.std.proofs.lemmas.List.Sums.{count_by-le-length}
use Rattle.memchr.specs.Find.{is_byte}
use Rattle.memchr.proofs.lemmas.CallerLemmas.{length-places}
use Rattle.ecma_show.proofs.text.width_of.Goals as goal

pub returns : goal.returns
returns c =
    let text = c.args.text.now in
    let counted : c.count.result ≡ count_by (is_byte 10) text = c.count.ensures ∙ ap length c.memchr_iter.ensures.value ∙ length-places (is_byte 10) text in
    let more : c.saturating_add.result ≡ count_by (λ b. b == 10) text + 1 = omega (arith, c.saturating_add.ensures, counted, count_by-le-length (is_byte 10) text, c.requires) in
    let items : c.push_number.new.out.items ≡ decimal (count_by (λ b. b == 10) text + 1) =
    c.in_ok-push_number.ensures ∙ ap (λ l. l ++ decimal c.saturating_add.result) c.new-digits.ensures.items ∙ ap decimal more in
    grind (arith, common_steps, items)
