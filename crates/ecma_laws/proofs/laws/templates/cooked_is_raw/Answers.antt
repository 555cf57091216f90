use Rattle.ecma_scan.proofs.TemplateLaws.{cooked_is_raw}
use Rattle.ecma_laws.proofs.laws.templates.cooked_is_raw.Goals as goal

pub returns : goal.returns
returns c = cooked_is_raw
