use Rattle.ecma_imports.specs.declared.stage.Stage.TheVariants.{Nothing}
use Rattle.ecma_imports.proofs.WithinLemmas.{told-within}
use Rattle.std.proofs.Common.{◌∙◌}
use Rattle.ecma_imports.proofs.lines.imports_of_kept.Goals as goal

pub specifier_lines-requires : goal.specifier_lines-requires
specifier_lines-requires c =
    let bytes = c.args.source.now in
    rw (c.as_bytes.ensures.value, c.deref.ensures.value ∙ c.in_ok-found.ensures) (told-within bytes Nothing 0 c.args.kept.now c.utf8.source c.requires)
