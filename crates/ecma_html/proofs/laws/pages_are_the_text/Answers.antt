use Rattle.ecma_styles.specs.Styles.{styled}
use Rattle.ecma_html.specs.Marked.{marked}
use Rattle.ecma_html.specs.Markup.{html_of}
use Rattle.ecma_html.specs.Unmark.{shown}
use Rattle.ecma_html.proofs.MarkedLemmas.{marked-read}
use Rattle.ecma_html.proofs.PageLemmas.{page-back}
use Rattle.ecma_html.proofs.laws.pages_are_the_text.Goals as goal

pub returns : goal.returns
returns c title text pieces styles places whole = page-back title text (html_of text (marked places (styled styles pieces))) (shown text) (marked-read text pieces styles places whole)
