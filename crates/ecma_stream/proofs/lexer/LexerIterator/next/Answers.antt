use Rattle.std.proofs.Common.{◌∙◌, ap, sym}
use Rattle.std.specs.Prelude.{option_map}
use Rattle.ecma_token.specs.View.{spanned_view}
use Rattle.ecma_reads.proofs.ItemLemmas.{item-less}
use Rattle.ecma_stream.proofs.lexer.LexerIterator.next.Goals as goal

pub returns-in-Ok-Some-clause-goes : goal.returns-in-Ok-Some-clause-goes
returns-in-Ok-Some-clause-goes c =
    record {
      on = λ finite. let less = item-less c.args.self.now c.read.new.self (spanned_view c.in-Ok-Some.token) (sym (ap (λ l. l.refused) c.self.view_is) ∙ c.if-self.false) (sym c.in-Ok-Some.ensures.answer ∙ ap (option_map spanned_view) c.in-Ok-Some.field-0-is) c.in-Ok-Some.ensures.after finite in (tt, less.0, less.1);
      keeps = tt;
      rests = λ finite. tt;
    }
