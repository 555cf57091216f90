use Rattle.std.proofs.Common.{◌≡◌, ◌∙◌, ◌∷◌, ◌+◌, ap, arith, drop, map, rules, subst, suc, sym}
use Rattle.std.specs.Prelude.{Some, slice_get}
use Rattle.std.proofs.lemmas.Option.{slice_get_within}
use Rattle.ecma_classes.specs.Classes.{over, token_spans}
use Rattle.ecma_classes.specs.Marks.{NoTokenFirst, merged, token_marks}
use Rattle.ecma_classes.specs.declared.piece.Class.TheVariants.{Token}
use Rattle.ecma_classes.proofs.MergeLemmas.{takes_comment, takes_none, takes_token}
use Rattle.ecma_classes.proofs.marks.Marks.next.Goals as goal

pub returns-in-Some : goal.returns-in-Some
returns-in-Some c =
    let comments = c.args.self.now.comments.items in
    let passed = c.args.self.now.passed in
    ap (λ spans. merged (map (over Token) spans) (drop passed comments)) c.in-Some.ensures.0
    ∙ takes_token c.in-Some.span (token_marks c.in-Some.behind.now) passed comments c.comment-comment.result (sym c.comment-comment.ensures) c.in-Some.ensures.1

pub returns-in_default-comment : goal.returns-in_default-comment
returns-in_default-comment c =
    let spans = token_spans c.args.self.now.tokens.now in
    let other = subst (NoTokenFirst spans) c.in_default-comment.is c.in_default.ensures in
    let none = takes_none spans c.args.self.now.passed c.args.self.now.comments.items other (sym c.comment-comment.ensures ∙ c.in_default-comment.is) in
    (none, none)

pub overflow_add-self : goal.overflow_add-self
overflow_add-self c =
    let got : slice_get c.args.self.now.comments.items c.args.self.now.passed ≡ Some c.in-Some-comment.comment = sym c.comment-comment.ensures ∙ c.in-Some-comment.is in
    let within = slice_get_within c.args.self.now.comments.items c.args.self.now.passed c.in-Some-comment.comment got in
    search (rules, within)

pub returns : goal.returns
returns c =
    let spans = token_spans c.args.self.now.tokens.now in
    let comments = c.args.self.now.comments.items in
    let passed = c.args.self.now.passed in
    let comment = c.in-Some-comment.comment in
    let other = subst (NoTokenFirst spans) c.in-Some-comment.is c.in_default.ensures in
    let next : suc passed ≡ passed + 1 = omega arith in
    takes_comment spans passed comments comment other (sym c.comment-comment.ensures ∙ c.in-Some-comment.is)
    ∙ ap (λ n. comment ∷ merged (map (over Token) spans) (drop n comments)) next
