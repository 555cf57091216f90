use Rattle.std.proofs.Common.{◌++◌, ap, sym, ◌∙◌, map}
use Rattle.std.specs.Prelude.{string_bytes, option_map}
use Rattle.ecma_place.specs.Run.{is_in_class}
use Rattle.ecma_place.specs.declared.run.ByteClass.TheVariants.{Plain}
use Rattle.ecma_token.specs.View.{error_view}
use Rattle.ecma_grammar.specs.Found.{fault_view}
use Rattle.ecma_escape.proofs.StringReading.{string-turn, turn-less, text-ended, text-refused}
use Rattle.ecma_escape.proofs.PieceReading.{run-stops}
use Rattle.ecma_string.proofs.string.escaped_text.Goals as goal

pub returns-in-Some : goal.returns-in-Some
returns-in-Some c =
    let opens = sym c.at_escape.ensures ∙ c.pieces-test.true in
    let refusal = sym (ap (option_map error_view) c.in-Some.is) ∙ c.in_ok-error.ensures.refusal in
    let all = text-refused c.args.quote c.args.input.now c.pieces.input c.push_escape.new.input c.args.before.now (string_bytes c.pieces.text) (map fault_view c.args.faults.now.items) (map fault_view c.pieces.faults.items) _ _
    c.pieces.invariant.on opens refusal c.in_ok-error.ensures.moved c.in_ok-error.ensures.faults in
    record { value = all.value; faults = all.faults; moved = all.moved }

pub pieces-smaller : goal.pieces-smaller
pieces-smaller c =
    turn-less (is_in_class (Plain c.args.quote)) c.pieces.input c.push_escape.new.input c.plain_text.new.input (sym c.at_escape.ensures ∙ c.pieces-test.true) c.in_ok-error.ensures.moved c.plain_text.ensures.moved

pub pieces-preserved : goal.pieces-preserved
pieces-preserved c =
    let opens = sym c.at_escape.ensures ∙ c.pieces-test.true in
    let accepted = sym (ap (option_map error_view) c.in-None.is) ∙ c.in_ok-error.ensures.refusal in
    let run = c.in_ok-push_str.ensures.bytes ∙ ap (λ l. string_bytes c.push_escape.new.text ++ l) c.plain_text.ensures.text in
    record {
      on = string-turn c.args.quote c.args.input.now c.pieces.input c.push_escape.new.input c.plain_text.new.input c.args.before.now (string_bytes c.pieces.text) _ _ (map fault_view c.args.faults.now.items) (map fault_view c.pieces.faults.items) _
          c.pieces.invariant.on opens accepted c.in_ok-error.ensures.moved c.in_ok-error.ensures.text c.in_ok-error.ensures.faults c.plain_text.ensures.moved run;
      stopped = run-stops (is_in_class (Plain c.args.quote)) c.push_escape.new.input c.plain_text.new.input c.plain_text.ensures.moved;
    }

pub returns : goal.returns
returns c =
    let all = text-ended c.args.quote c.args.input.now c.pieces.input c.args.before.now (string_bytes c.pieces.text) (map fault_view c.args.faults.now.items) (map fault_view c.pieces.faults.items) c.pieces.invariant.on c.pieces.invariant.stopped (sym c.at_escape.ensures ∙ c.pieces-test.false) in
    record { value = all.value; faults = all.faults; moved = all.moved }
