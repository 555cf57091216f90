use Rattle.ecma_laws.proofs.FreeLemmas.{template_is_free}
use Rattle.ecma_laws.proofs.laws.templates.template_is_free.Goals as goal

pub returns : goal.returns
returns c = template_is_free
