use Rattle.std.proofs.Common.{sym, ap, ◌∙◌}
use Rattle.ecma_place.specs.Atom.{borrowed_atom}
use Rattle.ecma_template.proofs.TemplateFound.{verbatim-atom}
use Rattle.ecma_template.proofs.TemplatePieces.{pieces_at}
use Rattle.ecma_template.proofs.template.token.cooked_atom.Goals as goal

pub returns-then-is_verbatim-clause-value : goal.returns-then-is_verbatim-clause-value
returns-then-is_verbatim-clause-value c =
    c.from.ensures ∙ ap borrowed_atom c.requires.raw ∙ verbatim-atom (pieces_at c.args.text.now) (sym c.requires.verbatim ∙ c.if-is_verbatim.true)
