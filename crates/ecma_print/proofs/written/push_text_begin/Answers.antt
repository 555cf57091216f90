use Rattle.std.proofs.Common.{◌++◌}
use Rattle.std.specs.Prelude.{codes}
use Rattle.json.specs.Print.{quoted}
use Rattle.ecma_print.proofs.ObjectLemmas.{behind}
use Rattle.ecma_print.proofs.written.push_text_begin.Goals as goal

pub returns : goal.returns
returns c =
    behind c.args.out.now.items c.push_text_member.new.out.items c.extend_from_slice.new.self.items (codes "{\"file\":" ++ quoted c.args.file.now) (codes ",\"text\":\"")
    c.in_ok-push_text_member.ensures c.in_ok-extend_from_slice.ensures.items
