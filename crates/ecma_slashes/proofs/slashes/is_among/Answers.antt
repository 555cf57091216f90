use Rattle.std.proofs.Common.{◌∙◌}
use Rattle.ecma_slashes.proofs.SlashLemmas.{found-among}
use Rattle.ecma_slashes.proofs.slashes.is_among.Goals as goal

pub returns : goal.returns
returns c =
    c.is_ok.ensures.value ∙ found-among c.args.places.now c.args.slash c.binary_search.result c.binary_search.ensures.bound c.binary_search.ensures.position c.requires
