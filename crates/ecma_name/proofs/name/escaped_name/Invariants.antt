use Rattle.std.proofs.Common.{◌≡◌, length, map}
use Rattle.std.specs.Prelude.{string_bytes}
use Rattle.std.specs.List.{prefix_len}
use Rattle.ecma_place.specs.Character.{is_ident_part}
use Rattle.ecma_place.specs.Cursor.{rest}
use Rattle.ecma_grammar.specs.Found.{fault_view}
use Rattle.ecma_name.proofs.NameReading.{IsOnName}
use Rattle.ecma_name.proofs.name.escaped_name.Given as goal

abbrev pub invariant-pieces : goal.invariant-pieces
invariant-pieces l = record {
  on : IsOnName l.is_first l.at_first l.fn.input l.input l.before (string_bytes l.text) (map fault_view l.fn.faults.items) (map fault_view l.faults.items);
  stopped : prefix_len is_ident_part (rest l.input) ≡ 0;
}

abbrev pub decreases-pieces : goal.decreases-pieces
decreases-pieces l = length (rest l.input)
