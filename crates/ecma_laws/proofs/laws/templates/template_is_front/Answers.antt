use Rattle.ecma_scan.proofs.TemplateLaws.{template_is_front}
use Rattle.ecma_laws.proofs.laws.templates.template_is_front.Goals as goal

pub returns : goal.returns
returns c = template_is_front
