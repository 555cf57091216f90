use Rattle.std.proofs.Common.{◌∙◌, ◌++◌, ap, sym}
use Rattle.ecma_print.specs.Rows.{attributes_text}
use Rattle.ecma_print.proofs.ObjectLemmas.{behind}
use Rattle.ecma_print.proofs.written.push_attributes.Goals as goal

pub returns : goal.returns
returns c =
    let last = c.push_number_member-2.new.out.items in
    behind c.args.out.now.items c.push_number_member.new.out.items last _ _ c.in_ok-push_number_member.ensures c.in_ok-push_number_member-2.ensures
    ∙ ap (λ a. c.args.out.now.items ++ attributes_text a) (sym c.in-Some.is)
