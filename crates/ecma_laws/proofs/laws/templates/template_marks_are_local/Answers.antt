use Rattle.ecma_scan.proofs.TemplateLaws.{template_marks_are_local}
use Rattle.ecma_laws.proofs.laws.templates.template_marks_are_local.Goals as goal

pub returns : goal.returns
returns c = template_marks_are_local
