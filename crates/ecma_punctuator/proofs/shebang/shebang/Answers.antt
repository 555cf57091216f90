use Rattle.std.proofs.Common.{Some, sym, ap, ◌∙◌}
use Rattle.ecma_place.specs.Atom.{borrowed_atom}
use Rattle.ecma_token.specs.declared.token.Token.{Shebang}
use Rattle.ecma_punctuator.proofs.ShebangLemmas.{shebang-opened, shebang-passed}
use Rattle.ecma_punctuator.proofs.shebang.shebang.Goals as goal

pub returns-then-eat_two-clause-token : goal.returns-then-eat_two-clause-token
returns-then-eat_two-clause-token c =
    let opens = sym c.eat_two.ensures.value ∙ c.if-eat_two.true in
    let two = rw c.if-eat_two.true at c.eat_two.ensures.moved in
    ap (λ a. Some (Shebang a)) (c.from.ensures ∙ ap borrowed_atom c.read_line.ensures.text) ∙ shebang-opened _ _ opens two

pub returns-then-eat_two-clause-moved : goal.returns-then-eat_two-clause-moved
returns-then-eat_two-clause-moved c =
    let opens = sym c.eat_two.ensures.value ∙ c.if-eat_two.true in
    let two = rw c.if-eat_two.true at c.eat_two.ensures.moved in
    shebang-passed _ _ _ opens two c.read_line.ensures.moved
