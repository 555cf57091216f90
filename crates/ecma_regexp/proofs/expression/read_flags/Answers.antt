use Rattle.std.proofs.Common.{ℕ, map, sym, ap, ◌∙◌}
use Rattle.ecma_place.specs.Cursor.{place}
use Rattle.ecma_grammar.specs.Found.{fault_view, span_of}
use Rattle.ecma_regexp.proofs.ExpressionFound.{no_flags_found}
use Rattle.ecma_regexp.proofs.expression.read_flags.Goals as goal

pub returns-then-begins_name : goal.returns-then-begins_name
returns-then-begins_name c = rw (sym c.begins_name.ensures ∙ c.if-begins_name.true) c.read_name.ensures

pub returns-clause-found : goal.returns-clause-found
returns-clause-found c =
    rw (sym c.begins_name.ensures ∙ c.if-begins_name.false)
    (no_flags_found (place c.args.input.now) _ _ (ap (map fault_view) c.new.ensures.items) (c.new-2.ensures ∙ ap (λ (n : ℕ). span_of n n) c.cur_pos-here.ensures))
