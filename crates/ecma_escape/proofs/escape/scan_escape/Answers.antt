use Rattle.std.proofs.Common.{◌≡◌, ◌++◌, ap, sym, ◌∙◌, arith, length, encode_utf8_all, map}
use Rattle.std.specs.Prelude.{string_bytes, option_map}
use Rattle.ecma_token.specs.View.{error_view}
use Rattle.ecma_place.specs.Cursor.{rest, place, passed}
use Rattle.ecma_place.proofs.MoveLemmas.{place-passed-le, span-passed}
use Rattle.ecma_grammar.specs.Found.{fault_behind, fault_view, value_view, value_behind, placeless}
use Rattle.ecma_grammar.specs.Escapes.{escape, escape_value, escape_faults, found_escape}
use Rattle.ecma_escape.specs.EscapeParts.{use_in}
use Rattle.ecma_escape.proofs.EscapeSpans.{escape-take, found-nothing, found-spelling, accepted-value, refused-value, escape-found}
use Rattle.ecma_escape.proofs.escape.scan_escape.Goals as goal
use Rattle.ecma_escape.proofs.escape.scan_escape.Goals.{in-None, in-Some}

pub returns-in_default-clause-free : goal.returns-in_default-clause-free
returns-in_default-clause-free c = λ h.
    let w = use_in c.args.in_template in
    let parts = found-nothing (escape w (rest c.args.input.now)) h in
    let free = rw c.use_in.ensures.place at c.in_default.ensures.free in
    let bad = free parts.0 parts.1 in
    cc

pub new-requires : goal.new-requires
new-requires c =
    let le = place-passed-le c.args.input.now c.push_escape.new.input _ c.in-Ok.ensures.moved in
    omega (arith, le, c.cur_pos-start.ensures, c.cur_pos.ensures)

pub returns-clause-found : goal.returns-clause-found
returns-clause-found c =
    let w = use_in c.args.in_template in
    let e = escape w (rest c.args.input.now) in
    let p = place c.args.input.now in
    let moved = rw c.use_in.ensures.place at c.in-Ok.ensures.moved in
    let said = rw c.use_in.ensures.place at c.in-Ok.ensures.faults in
    let text = rw c.use_in.ensures.place at c.in-Ok.ensures.text in
    let refusal = rw c.use_in.ensures.place at c.in-Ok.ensures.refusal in
    let written : string_bytes c.push_escape.new.text ≡ encode_utf8_all (escape_value e) = text ∙ ap (λ l. l ++ encode_utf8_all (escape_value e)) c.new-text.ensures.bytes in
    let faults : map fault_view c.push_escape.new.faults.items ≡ map (fault_behind p) (escape_faults e) =
    said ∙ ap (λ l. map fault_view l ++ map (fault_behind p) (escape_faults e)) c.new-faults.ensures.items in
    let span = c.new.ensures ∙ span-passed _ _ _ _ _ (escape-take w (rest c.args.input.now) c.requires) moved c.cur_pos-start.ensures c.cur_pos.ensures in
    let value : value_view (λ v. v) c.match-refusal.value ≡ value_behind placeless p (found_escape e).value =
    elim c.match-refusal.branch [
      | in-None a ↦ ap (value_view (λ v. v)) a.value-is ∙ accepted-value e p _ (sym (ap (option_map error_view) a.in-None.is) ∙ refusal) (a.value_atom.ensures (escape_value e) written)
      | in-Some a ↦ ap (value_view (λ v. v)) a.value-is ∙ refused-value e p _ (sym (ap (option_map error_view) a.in-Some.is) ∙ refusal)
    ] in
    escape-found e p _ _ _ value faults span

pub returns-clause-moved : goal.returns-clause-moved
returns-clause-moved c =
    let w = use_in c.args.in_template in
    let moved = rw c.use_in.ensures.place at c.in-Ok.ensures.moved in
    moved ∙ ap (λ s. passed (length s) c.args.input.now) (found-spelling (escape w (rest c.args.input.now)))
