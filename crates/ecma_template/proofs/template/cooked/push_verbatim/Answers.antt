use Rattle.std.proofs.Common.{◌≡◌, List, ℕ, Result, Ok, Err, arith, refl}
use Rattle.std.specs.Prelude.{if◌then◌else◌, OnOk}
use Rattle.std.specs.Result.{is_ok}
use Rattle.std.proofs.lemmas.Result.{on_ok_weaker}
use Rattle.ecma_place.proofs.MoveLemmas.{place-passed-le}
use Rattle.ecma_template.proofs.VerbatimPieces.{cooked-over}
use Rattle.ecma_template.proofs.template.cooked.push_verbatim.Goals as goal

-- what was added where there is memory for it
pushed : {T E : Type 0} (r : Result T E) (now more same : List ℕ) → now ≡ (if is_ok r then more else same) → OnOk r (now ≡ more)
pushed (Ok value) now more same e = e
pushed (Err error) now more same e = tt

pub slice-requires-clause-in_order : goal.slice-requires-clause-in_order
slice-requires-clause-in_order c =
    omega (arith, place-passed-le _ _ _ c.pass_verbatim.ensures.passed.moved, c.cur_pos-start.ensures, c.cur_pos.ensures)

pub returns-clause-cooked : goal.returns-clause-cooked
returns-clause-cooked c =
    on_ok_weaker c.push_str.result
    (λ added. cooked-over _ _ _ _ c.pass_verbatim.result c.args.input.now c.pass_verbatim.new.input _ _ c.pass_verbatim.ensures.passed added c.slice.ensures c.cur_pos-start.ensures c.cur_pos.ensures refl)
    (pushed c.push_str.result _ _ _ c.push_str.ensures.bytes)
