use Rattle.std.proofs.Common.{length, ◌<◌, arith, sym, ◌∙◌}
use Rattle.ecma_place.proofs.CursorLemmas.{ascii_of-seen}
use Rattle.ecma_place.proofs.input.StringInput.cur_as_ascii.Goals as goal

pub returns-then-is_ascii : goal.returns-then-is_ascii
returns-then-is_ascii c =
    let there : c.self.inside.offset < length c.self.inside.text.now = omega (arith, c.if-self-bytes.false, c.self.invariant.cut.0, c.as_bytes-bytes.ensures.len) in
    let first = ascii_of-seen _ _ _ _ c.self.view_is c.self.invariant there in
    let test = rw c.as_bytes-bytes.ensures.value at (sym c.is_ascii.ensures ∙ c.if-is_ascii.true) in
    rw c.as_bytes-bytes.ensures.value (rw test at first)

pub returns-else-is_ascii : goal.returns-else-is_ascii
returns-else-is_ascii c =
    let there : c.self.inside.offset < length c.self.inside.text.now = omega (arith, c.if-self-bytes.false, c.self.invariant.cut.0, c.as_bytes-bytes.ensures.len) in
    let first = ascii_of-seen _ _ _ _ c.self.view_is c.self.invariant there in
    let test = rw c.as_bytes-bytes.ensures.value at (sym c.is_ascii.ensures ∙ c.if-is_ascii.false) in
    rw test at first
