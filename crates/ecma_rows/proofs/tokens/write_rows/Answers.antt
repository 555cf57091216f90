use Rattle.std.proofs.Common.{arith, refl}
use Rattle.std.specs.Prelude.{option_map}
use Rattle.ecma_token.specs.View.{spanned_view}
use Rattle.ecma_reader.proofs.FoldLemmas.{told-end, told-start}
use Rattle.ecma_rows.proofs.RowLemmas.{IsWritten, written-next}
use Rattle.ecma_rows.proofs.tokens.write_rows.Goals as goal

pub read_into-requires : goal.read_into-requires
read_into-requires c = record { ready = c.tokens.invariant.0 }

pub tokens-init : goal.tokens-init
tokens-init c =
    let few = c.requires.ready.few in (
      c.requires.ready,
      (omega (arith, few), λ rule begin shows. told-start rule begin (IsWritten c.args.out.now c.args.out.now 0) c.args.reader.now shows (record { count_is = refl; room_is = refl })),
    )

pub tokens-preserved : goal.tokens-preserved
tokens-preserved c =
    let ok = c.in_ok-read_into.ensures in
    let less = ok.fewer c.if-branch.true in
    let few = c.tokens.invariant.1.0 in (
      ok.ready c.if-branch.true,
      (
        omega (arith, less, few),
        λ rule begin shows.
            let tells = c.tokens.invariant.1.1 rule begin shows in
            written-next rule begin c.args.out.now c.tokens.out c.put_token.new.out c.tokens.count c.tokens.reader c.read_into.new.self (option_map spanned_view c.read_into.new.slot) _ tells
            (ok.reads rule begin tells.tokens tells.shows) c.if-branch.true c.put_token.ensures,
      ),
    )

pub returns : goal.returns
returns c = record {
  told = λ rule begin shows.
      let tells = c.tokens.invariant.1.1 rule begin shows in
      let all = told-end rule begin (IsWritten c.args.out.now c.tokens.out c.tokens.count) c.tokens.reader c.read_into.new.self (option_map spanned_view c.read_into.new.slot) _ tells
      (c.in_ok-read_into.ensures.reads rule begin tells.tokens tells.shows) c.if-branch.false in
      record { tokens = all.0.count_is; rows = all.0.room_is; read = all.1 };
}
