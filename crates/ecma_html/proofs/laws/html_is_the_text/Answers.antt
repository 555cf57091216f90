use Rattle.std.proofs.Common.{ap}
use Rattle.ecma_html.proofs.MarkedLemmas.{marked-read}
use Rattle.ecma_html.proofs.laws.html_is_the_text.Goals as goal

pub returns : goal.returns
returns c text pieces styles places whole = ap (λ u. u.text) (marked-read text pieces styles places whole)
