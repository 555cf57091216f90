use Rattle.std.proofs.Common.{◌≡◌, ◌∙◌, ◌++◌, [], sym, ap, subst}
use Rattle.std.proofs.lemmas.List.{nil_from_length}
use Rattle.std.specs.List.{All}
use Rattle.ecma_comments.specs.SharedComments.{IsBorrowed, of_blocks}
use Rattle.ecma_comments.proofs.SharedCommentsLemmas.{adding-end, adding-next, adding-start, all-before, where-ok}
use Rattle.ecma_comments.proofs.shared_comments.add_blocks.Goals as goal

pub every-init : goal.every-init
every-init c =
    let all : c.into_iter-block-iterator.result.rest.items ≡ c.args.blocks.items = search in
    adding-start c.args.to.now.items _ _ _ (ap of_blocks all) c.requires.borrowed (rw (← c.args.to.now.ok.0) c.requires.room)

pub every-preserved : goal.every-preserved
every-preserved c =
    let parts : of_blocks c.every.block-iterator.rest.items ≡ c.in-Some.block.value.items ++ of_blocks c.next.new.self.rest.items = ap of_blocks c.in-Some.ensures.steps.0 in
    let borrowed : All IsBorrowed c.in-Some.block.value.items = all-before IsBorrowed _ _ (subst (All IsBorrowed) parts c.every.invariant.borrowed) in
    let same : c.as_slice.result.now ≡ c.in-Some.block.value.items = rw (← c.deref.ensures) c.as_slice.ensures.value in
    let copied = where-ok c.add_copies.result c.add_copies.ensures.items (c.add_copies.ensures.free (subst (All IsBorrowed) (sym same) borrowed)) in
    let put = copied ∙ ap (λ list. c.every.to.items ++ list) same in
    rw c.add_copies.ensures.capacity (adding-next _ _ _ _ _ _ _ _ c.every.invariant parts put)

pub returns : goal.returns
returns c =
    let none : c.every.block-iterator.rest.items ≡ [] = nil_from_length c.every.block-iterator.rest.items (sym c.every.block-iterator.rest.ok.0 ∙ c.in-None.ensures.steps.0) in
    adding-end _ _ _ _ _ c.every.invariant (ap of_blocks none)
