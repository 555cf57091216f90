use Rattle.std.proofs.Common.{refl, arith}
use Rattle.std.proofs.lemmas.Simd.{zip2_splat}
use Rattle.ecma_place.specs.Run.{is_outside}
use Rattle.ecma_place.specs.declared.run.ByteClass.TheVariants.{Template}
use Rattle.ecma_lanes.proofs.LaneLemmas.{joined, masked}
use Rattle.ecma_place.proofs.run.template_stops_16.Goals as goal

pub returns : goal.returns
returns c =
    let v = c.args.v in
    let long = c.fits-v.0 in
    masked _ (is_outside Template) v _ (omega arith) c.fits-v.1
    (joined _ _ _ v (joined _ _ _ v (joined _ _ _ v (joined _ _ _ v (joined _ _ _ v (zip2_splat _ v 16 96 long) (zip2_splat _ v 16 36 long)) (zip2_splat _ v 16 92 long)) (zip2_splat _ v 16 13 long)) (zip2_splat _ v 16 10 long)) (zip2_splat _ v 16 226 long)) refl
