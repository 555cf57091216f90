-- What the tokens so far tell was gathered.
use Rattle.std.proofs.Common.{◌≡◌, []}
use Rattle.ecma_module_table.specs.declared.rows.ModuleOptions.{ModuleOptions}
use Rattle.ecma_modules.specs.Modules.{gathered}
use Rattle.ecma_module_reader.specs.Readings.{Gathers}
use Rattle.ecma_state.specs.Session.{Session, lexer_state}
use Rattle.ecma_state.specs.Ending.{most_tokens}
use Rattle.ecma_reader.specs.Rereads.{SlashRule}
use Rattle.ecma_reader.specs.Readers.{IsReady, Shows, Tells}
use Rattle.ecma_rows.proofs.imports.gather_tokens.Given as goal

abbrev pub invariant-tokens : goal.invariant-tokens
invariant-tokens l =
    IsReady l.reader
    × ((rule : SlashRule) (begin : Session) (options : ModuleOptions) → Shows rule begin [] l.initial.reader → l.initial.gathering ≡ gathered options []
    → Tells rule begin (Gathers rule begin options l.gathering) l.reader)

abbrev pub decreases-tokens : goal.decreases-tokens
decreases-tokens l = most_tokens (lexer_state l.reader.lexer)
