use Rattle.std.proofs.Common.{drop, refl, ap, ◌∙◌, arith, length-append, length-drop}
use Rattle.ecma_place.specs.Cursor.{rest}
use Rattle.ecma_grammar.specs.Numbers.{run_of, behind_run, suffix_of, is_big}
use Rattle.ecma_number.proofs.NumberReading.{moved-on, rest-run, prefix-long}
use Rattle.ecma_number.proofs.number.parts.read_radixed.Goals as goal
use Rattle.ecma_grammar.proofs.SignLemmas.{rest-behind}

pub bump-requires-2 : goal.bump-requires-2
bump-requires-2 c =
    let text = rest c.args.input.now in
    rw (rest-behind _ _ 1 c.bump.ensures) (omega (arith, length-drop 1 text, prefix-long text _ c.requires))

pub returns-clause-value : goal.returns-clause-value
returns-clause-value c =
    let two = rest-behind _ _ 2 (moved-on _ _ _ 1 1 2 c.bump.ensures c.bump-2.ensures refl) in
    let run = c.read_run-run.ensures.text ∙ ap (run_of c.args.radix) two in
    let behind = rest-run c.args.radix _ _ c.read_run-run.ensures.moved ∙ ap (behind_run c.args.radix) two in
    rw (c.read_suffix-big.ensures.value, run, behind) refl

pub returns-clause-moved : goal.returns-clause-moved
returns-clause-moved c =
    let text = drop 2 (rest c.args.input.now) in
    let both = moved-on _ _ _ 1 1 2 c.bump.ensures c.bump-2.ensures refl in
    let two = rest-behind _ _ 2 both in
    let run = c.read_run-run.ensures.text ∙ ap (run_of c.args.radix) two in
    let behind = rest-run c.args.radix _ _ c.read_run-run.ensures.moved ∙ ap (behind_run c.args.radix) two in
    let first = moved-on _ _ _ 2 _ _ both (rw two at c.read_run-run.ensures.moved) refl in
    let sum = length-append (run_of c.args.radix text) (suffix_of (is_big c.args.radix (run_of c.args.radix text) (behind_run c.args.radix text))) in
    moved-on _ _ _ _ _ _ first (rw (run, behind) at c.read_suffix-big.ensures.moved) (omega (arith, sum))
