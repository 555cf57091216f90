use Rattle.ecma_place.specs.Cursor.{rest, place}
use Rattle.ecma_grammar.specs.Found.{found_view}
use Rattle.ecma_name.specs.NameParts.{cow_atom}
use Rattle.ecma_grammar.specs.Words.{identifier_name}
use Rattle.ecma_name.proofs.NameReading.{no-break}
use Rattle.ecma_name.proofs.WordReading.{word-found}
use Rattle.ecma_name.proofs.word.word_at.Goals as goal

pub returns-clause-found : goal.returns-clause-found
returns-clause-found c =
    word-found c.args.context.now (identifier_name (rest c.args.input.now)) (place c.args.input.now) (found_view cow_atom c.in_ok-value.field-0) _ c.in_ok-value.ensures.found (no-break c.args.input.now) c.in_ok-value-2.ensures.word
