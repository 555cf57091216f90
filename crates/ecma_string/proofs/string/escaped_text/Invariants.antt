use Rattle.std.proofs.Common.{◌≡◌, length, map}
use Rattle.std.specs.Prelude.{string_bytes}
use Rattle.std.specs.List.{prefix_len}
use Rattle.ecma_place.specs.Cursor.{rest}
use Rattle.ecma_place.specs.Run.{is_in_class}
use Rattle.ecma_place.specs.declared.run.ByteClass.TheVariants.{Plain}
use Rattle.ecma_grammar.specs.Found.{fault_view}
use Rattle.ecma_escape.proofs.StringReading.{IsOnString}
use Rattle.ecma_string.proofs.string.escaped_text.Given as goal

abbrev pub invariant-pieces : goal.invariant-pieces
invariant-pieces l = record {
  on : IsOnString l.quote l.fn.input l.input l.before (string_bytes l.text) (map fault_view l.fn.faults.items) (map fault_view l.faults.items);
  stopped : prefix_len (is_in_class (Plain l.quote)) (rest l.input) ≡ 0;
}

abbrev pub decreases-pieces : goal.decreases-pieces
decreases-pieces l = length (rest l.input)
