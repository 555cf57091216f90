use Rattle.ecma_laws.proofs.GapTiling.{no_gap_in_templates}
use Rattle.ecma_laws.proofs.laws.no_gap_in_templates.Goals as goal

pub returns : goal.returns
returns c = no_gap_in_templates
