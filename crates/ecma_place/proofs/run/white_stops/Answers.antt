use Rattle.std.proofs.Common.{ℕ, leb, cond, bit_and, not, refl, arith}
use Rattle.std.proofs.lemmas.Simd.{zip2_splat}
use Rattle.ecma_place.specs.Run.{is_white_byte}
use Rattle.ecma_lanes.proofs.LaneLemmas.{joined, masked, splat_is}
use Rattle.ecma_place.proofs.run.white_stops.Goals as goal

pub returns : goal.returns
returns c =
    let v = c.args.v in
    let long = c.fits-v.0 in
    let tabs = joined (λ a b. cond (leb a b) 255 0) _ _ v (splat_is v 16 5 long) (zip2_splat {Y = ℕ} _ v 16 9 long) in
    masked _ (λ b. not (is_white_byte b)) v _ (omega arith) c.fits-v.1
    (joined bit_and _ _ v tabs (zip2_splat {Y = ℕ} _ v 16 32 long)) refl
