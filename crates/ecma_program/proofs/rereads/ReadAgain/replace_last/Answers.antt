use Rattle.std.proofs.Common.{◌≡◌, ◌∙◌, None, arith, length, [], ◌∷◌, ◌++◌, sym, ap, drop, map}
use Rattle.std.proofs.lemmas.Grind.{reverse_onto}
use Rattle.std.proofs.lemmas.List.{map-append}
use Rattle.ecma_token.specs.View.{spanned_view}
use Rattle.ecma_program.proofs.RereadLemmas.{emptied, without-last}
use Rattle.ecma_program.proofs.rereads.ReadAgain.replace_last.Goals as goal

pub returns-clause-tokens : goal.returns-clause-tokens
returns-clause-tokens c ks same =
    let fits = c.args.self.now.tokens.ok in
    let empty : c.pop.result ≡ None → length c.args.self.now.tokens.items ≡ 0 = λ e. let none = emptied _ _ _ c.pop.result c.pop.ensures.cases e in omega (arith, fits, none) in
    let left = without-last c.args.self.now.tokens.items c.pop.new.self.items c.pop.result ks c.pop.ensures.items empty same in
    ap (map spanned_view) c.in_ok-push.ensures.items
    ∙ map-append spanned_view c.pop.new.self.items (c.args.token ∷ [])
    ∙ ap (λ front. front ++ spanned_view c.args.token ∷ []) left
    ∙ sym (reverse_onto (drop 1 ks) (spanned_view c.args.token) [])
