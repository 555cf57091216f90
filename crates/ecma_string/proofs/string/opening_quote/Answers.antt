use Rattle.ecma_place.specs.Cursor.{rest}
use Rattle.ecma_string.proofs.PlainStrings.{behind-ascii, opens-low, past-ascii}
use Rattle.ecma_string.proofs.string.opening_quote.Goals as goal

pub bump_bytes-requires : goal.bump_bytes-requires
bump_bytes-requires c =
    let low = opens-low (rest c.args.input.now) c.requires in
    behind-ascii c.args.input.now low.0 low.1 low.2

pub returns-clause-moved : goal.returns-clause-moved
returns-clause-moved c =
    let low = opens-low (rest c.args.input.now) c.requires in
    past-ascii c.args.input.now c.bump_bytes.new.self low.0 low.1 low.2 c.bump_bytes.ensures
