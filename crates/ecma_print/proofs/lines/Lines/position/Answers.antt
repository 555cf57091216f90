use Rattle.std.proofs.Common.{◌≡◌, ◌∙◌, ◌+◌, ◌<◌, ◌^◌, ℕ, ap, arith, drop, sym, take}
use Rattle.std.specs.Prelude.{slice_range}
use Rattle.ecma_positions.specs.Columns.{position_by}
use Rattle.ecma_positions.specs.Positions.{last_line}
use Rattle.ecma_positions.specs.Units.{utf16_length}
use Rattle.ecma_positions.specs.declared.position.Position.{Position}
use Rattle.ecma_print.proofs.LineLemmas.{few-units, line-front, slice-long}
use Rattle.ecma_print.proofs.lines.Lines.position.Goals as goal

abbrev in_column : ℕ → ℕ → Position
in_column line column = record { line = line; column = column }

pub returns-in-Utf16 : goal.returns-in-Utf16
returns-in-Utf16 c =
    let bytes = c.args.bytes.now in
    let at = c.args.place.0 in
    let lines = c.byte_position-position.new.self in
    let small : at < 2 ^ 32 = omega arith in
    record {
      position = λ counts.
          let here = c.byte_position-position.ensures.counts counts in
          let in_line = here.in_line in
          let order = in_line.order in
          let within = here.within in
          let units : c.count-before.result ≡ utf16_length (slice_range bytes lines.start lines.place) = c.count-before.ensures.units here.units order within in
          let few = few-units (slice_range bytes lines.start lines.place) in
          let long = slice-long bytes lines.start lines.place order within in
          let front = line-front bytes lines.start lines.place at c.byte_position-position.ensures.at in_line in
          let column : c.saturating_add.result ≡ utf16_length (drop (last_line (take at bytes)) (take at bytes)) + 1 =
          (let sum : c.saturating_add.result ≡ c.count-before.result + 1 = omega (arith, c.saturating_add.ensures, units, few, long, within, c.byte_position-position.ensures.at, small) in sum ∙ ap (λ n. n + 1) (units ∙ ap utf16_length front)) in
          ap (λ p. in_column p.line c.saturating_add.result) (c.byte_position-position.ensures.position counts) ∙ ap (in_column _) column ∙ sym (ap (λ k. position_by k bytes c.args.place) c.in-Utf16.is);
      counts = λ counts.
          let here = c.byte_position-position.ensures.counts counts in
          record { within = here.within; line = here.line; in_line = here.in_line; units = c.count-before.ensures.counts here.units here.in_line.order here.within };
    }
