use Rattle.ecma_scan.proofs.TemplateLaws.{template_tiles}
use Rattle.ecma_laws.proofs.laws.templates.template_tiles.Goals as goal

pub returns : goal.returns
returns c = template_tiles
