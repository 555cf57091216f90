use Rattle.std.proofs.Common.{length, drop, refl, ap, ◌∙◌, arith}
use Rattle.std.proofs.lemmas.Bool.{false≢true}
use Rattle.ecma_place.specs.Atom.{AtomView, borrowed_atom}
use Rattle.ecma_place.specs.Cursor.{rest, passed}
use Rattle.ecma_place.proofs.MoveLemmas.{place-passed-le}
use Rattle.ecma_grammar.specs.Expressions.{flags}
use Rattle.ecma_grammar.specs.Found.{FoundView}
use Rattle.ecma_escape.proofs.EscapeForms.{passed-both}
use Rattle.ecma_grammar.proofs.SignLemmas.{rest-behind}
use Rattle.ecma_regexp.proofs.ExpressionFound.{closed_found, slash_place}
use Rattle.ecma_regexp.proofs.expression.scan_closed.Goals as goal

pub returns-in_err-flags-clause-free : goal.returns-in_err-flags-clause-free
returns-in_err-flags-clause-free c =
    λ text value borrowed.
    let there = ap (λ t. (flags t).value) (rest-behind _ _ 1 c.bump.ensures) ∙ value in
    absurd (false≢true (c.in_err-flags.ensures.free text there borrowed))

pub new-requires : goal.new-requires
new-requires c =
    omega (arith, ap (λ (w : FoundView AtomView). w.extent.hi.0) c.in_ok-flags.ensures.found, place-passed-le _ _ 1 c.bump.ensures, c.requires.order)

pub returns-clause-found : goal.returns-clause-found
returns-clause-found c =
    λ text body sum.
    let behind = rest-behind _ _ 1 c.bump.ensures in
    let found = rw behind at c.in_ok-flags.ensures.found in
    closed_found c.args.start.0 _ text (flags (drop 1 (rest c.args.input.now))) _ _ _ c.new.result
    (slash_place c.args.input.now _ c.args.start.0 text c.requires.slash c.bump.ensures sum) found (ap borrowed_atom body) c.regex_token.ensures c.new.ensures

pub returns-clause-moved : goal.returns-clause-moved
returns-clause-moved c =
    let behind = rest-behind _ _ 1 c.bump.ensures in
    passed-both _ _ _ 1 _ _ c.bump.ensures (c.in_ok-flags.ensures.moved ∙ ap (λ t. passed (length (flags t).spelling) c.bump.new.self) behind) refl
