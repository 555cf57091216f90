use Rattle.std.proofs.Common.{◌∙◌, ◌++◌, ap}
use Rattle.std.specs.Prelude.{codes}
use Rattle.json.specs.Print.{quoted}
use Rattle.ecma_print.proofs.ObjectLemmas.{behind}
use Rattle.ecma_print.proofs.written.push_statement.Goals as goal

pub returns : goal.returns
returns c =
    let named = c.in_ok-push_text_member.ensures ∙ ap (λ phase. c.args.out.now.items ++ (codes ",\"phase\":" ++ quoted phase)) c.phase_name.ensures in
    behind c.args.out.now.items c.push_text_member.new.out.items c.push_number_member-2.new.out.items _ _ named
    (behind c.push_text_member.new.out.items c.push_number_member.new.out.items c.push_number_member-2.new.out.items _ _ c.in_ok-push_number_member.ensures c.in_ok-push_number_member-2.ensures)
