use Rattle.std.proofs.Common.{◌∙◌, ap, subst}
use Rattle.std.specs.Prelude.{IsOk, option_map}
use Rattle.ecma_token.specs.View.{spanned_view}
use Rattle.ecma_slashes.proofs.RoleLemmas.{decides-behind, decides-caught-up, decides-names, in-error}
use Rattle.ecma_slashes.proofs.TokenLemmas.{never}
use Rattle.ecma_slashes.proofs.reads.read_knowing.Goals as goal

pub returns-clause-steps : goal.returns-clause-steps
returns-clause-steps c = λ rule s at decides.
    let caught = decides-caught-up rule s c.args.decider.now c.catch_up.new.self decides c.catch_up.ensures.slashes c.catch_up.ensures.follows in
    c.in_ok-again.ensures.steps rule s at (decides-names rule s c.catch_up.new.self caught)

pub returns-clause-decides : goal.returns-clause-decides
returns-clause-decides c = λ rule s at decides.
    let caught = decides-caught-up rule s c.args.decider.now c.catch_up.new.self decides c.catch_up.ensures.slashes c.catch_up.ensures.follows in
    let reads = c.in_ok-again.ensures.steps rule s at (decides-names rule s c.catch_up.new.self caught) in
    decides-behind rule s c.catch_up.new.self c.pass.new.self c.in_ok-again.again (option_map spanned_view c.read_naming.new.slot) (ap (λ l. l.reread) at ∙ c.requires.no_reread) caught reads.1 reads.0.finds
    c.pass.ensures.slashes c.pass.ensures.follows

pub returns-in_err-again-clause-decides_still : goal.returns-in_err-again-clause-decides_still
returns-in_err-again-clause-decides_still c = λ rule s decides.
    in-error c.from_residual-in_err-again.result (decides-caught-up rule s c.args.decider.now c.catch_up.new.self decides c.catch_up.ensures.slashes c.catch_up.ensures.follows)

pub returns-in_err-again-clause-free : goal.returns-in_err-again-clause-free
returns-in_err-again-clause-free c = λ rule s at decides room going free.
    let caught = decides-caught-up rule s c.args.decider.now c.catch_up.new.self decides c.catch_up.ensures.slashes c.catch_up.ensures.follows in
    absurd (never (subst IsOk c.in_err-again.was (c.read_naming.ensures.free rule s at (decides-names rule s c.catch_up.new.self caught) going free)))
