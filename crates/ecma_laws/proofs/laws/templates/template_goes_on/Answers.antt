use Rattle.ecma_scan.proofs.TemplateLaws.{template_goes_on}
use Rattle.ecma_laws.proofs.laws.templates.template_goes_on.Goals as goal

pub returns : goal.returns
returns c = template_goes_on
