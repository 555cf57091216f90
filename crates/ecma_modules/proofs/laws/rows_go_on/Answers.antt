use Rattle.ecma_modules.proofs.GoOnLemmas.{exports-go-on, gathered-on, imports-go-on}
use Rattle.ecma_modules.proofs.laws.rows_go_on.Goals as goal

pub returns-clause-imports : goal.returns-clause-imports
returns-clause-imports c = imports-go-on

pub returns-clause-exports : goal.returns-clause-exports
returns-clause-exports c = exports-go-on

pub returns-clause-gathered : goal.returns-clause-gathered
returns-clause-gathered c = gathered-on
