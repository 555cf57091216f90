use Rattle.std.proofs.Common.{◌≡◌, ◌∙◌, ◌++◌, ap}
use Rattle.ecma_print.specs.Rows.{more_view}
use Rattle.ecma_print.specs.Values.{digits_text, flags_text}
use Rattle.ecma_print.proofs.ObjectLemmas.{behind, parts, parts-object}
use Rattle.ecma_print.proofs.written.push_object.Goals as goal

pub returns : goal.returns
returns c =
    let digits = c.in_ok-push_digits.ensures ∙ ap (λ v. c.push_number_member.new.out.items ++ digits_text v) c.value_in-value.ensures in
    let flags = c.in_ok-push_flags.ensures ∙ ap (λ v. c.push_text_member.new.out.items ++ flags_text v) c.value_in-value.ensures in
    let added : c.push.new.self.items ≡ c.args.out.now.items ++ parts c.args.file.now c.args.position c.args.row.span c.args.row.kind.now c.args.row.text.now (more_view c.args.row.more) =
    (behind c.args.out.now.items c.push_number_member.new.out.items c.push.new.self.items _ _ c.in_ok-push_number_member.ensures
    (behind c.push_number_member.new.out.items c.push_digits.new.out.items c.push.new.self.items _ _ digits
    (behind c.push_digits.new.out.items c.push_text_member.new.out.items c.push.new.self.items _ _ c.in_ok-push_text_member.ensures
    (behind c.push_text_member.new.out.items c.push_flags.new.out.items c.push.new.self.items _ _ flags
    (behind c.push_flags.new.out.items c.push_number_member-2.new.out.items c.push.new.self.items _ _ c.in_ok-push_number_member-2.ensures
    (behind c.push_number_member-2.new.out.items c.push_text_member-2.new.out.items c.push.new.self.items _ _ c.in_ok-push_text_member-2.ensures
    (behind c.push_text_member-2.new.out.items c.push_number_member-3.new.out.items c.push.new.self.items _ _ c.in_ok-push_number_member-3.ensures
    (behind c.push_number_member-3.new.out.items c.push_line_break.new.out.items c.push.new.self.items _ _ c.in_ok-push_line_break.ensures
    (behind c.push_line_break.new.out.items c.push_number_member-4.new.out.items c.push.new.self.items _ _ c.in_ok-push_number_member-4.ensures
    (behind c.push_number_member-4.new.out.items c.push_before_text.new.out.items c.push.new.self.items _ _ c.in_ok-push_before_text.ensures
    (behind c.push_before_text.new.out.items c.push_text_member-3.new.out.items c.push.new.self.items _ _ c.in_ok-push_text_member-3.ensures
    (behind c.push_text_member-3.new.out.items c.push_behind_text.new.out.items c.push.new.self.items _ _ c.in_ok-push_behind_text.ensures c.in_ok-push.ensures.items)))))))))))) in
    added ∙ ap (λ text. c.args.out.now.items ++ text) (parts-object c.args.file.now c.args.position c.args.row.span c.args.row.kind.now c.args.row.text.now (more_view c.args.row.more))
