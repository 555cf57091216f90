use Rattle.std.proofs.Common.{◌≡◌, ◌∙◌, ◌+◌, ◌-◌, ◌<◌, suc, [], ◌∷◌, ◌++◌, Some, None, arith, sym, ap, map}
use Rattle.std.specs.Prelude.{option_map}
use Rattle.std.proofs.lemmas.List.{map-append}
use Rattle.ecma_token.specs.View.{spanned_view}
use Rattle.ecma_state.specs.declared.step.Step.TheVariants.{Read}
use Rattle.ecma_state.specs.Ending.{behind_reads}
use Rattle.ecma_state.specs.Run.{act_on, reading_of}
use Rattle.ecma_state.specs.Session.{lexer_state, state_of}
use Rattle.ecma_state.specs.Slashes.{slash_answered}
use Rattle.ecma_program.proofs.RereadLemmas.{no-slash-behind, token-behind}
use Rattle.ecma_program.proofs.rereads.ReadAgain.read_on.Goals as goal

pub returns-in-None : goal.returns-in-None
returns-in-None c s at =
    let (r, same, stands) = c.reads.invariant s at in
    let ended : (reading_of (lexer_state c.reads.self.lexer)).found ≡ None = sym c.in_ok-token.ensures.answer ∙ ap (option_map spanned_view) c.in-None.is in
    let test = c.reads-test.true in
    let some : 0 < c.args.count - c.reads.counter = omega (arith, test) in
    ap (λ x. slash_answered (state_of x)) same
    ∙ no-slash-behind r (lexer_state c.reads.self.lexer) (c.args.count - c.reads.counter) stands.plain stands.state ended some

pub reads-preserved : goal.reads-preserved
reads-preserved c s at =
    let (r, same, stands) = c.reads.invariant s at in
    let found : (reading_of (lexer_state c.reads.self.lexer)).found ≡ Some (spanned_view c.in-Some.token) =
    sym c.in_ok-token.ensures.answer ∙ ap (option_map spanned_view) c.in-Some.is in
    let more = token-behind r (lexer_state c.reads.self.lexer) (lexer_state c.read.new.self) (spanned_view c.in-Some.token) stands.plain stands.state found c.in_ok-token.ensures.after in
    let test = c.reads-test.true in
    let count : c.args.count - c.reads.counter ≡ suc (c.args.count - (c.reads.counter + 1)) = omega (arith, test) in (
      act_on r Read,
      same ∙ ap (λ n. behind_reads n r) count,
      record {
        state = more.0;
        plain = stands.plain;
        kept =
            ap (map spanned_view) c.in_ok-push-in-Some.ensures.items
            ∙ map-append spanned_view c.reads.self.tokens.items (c.in-Some.token ∷ [])
            ∙ ap (λ front. front ++ spanned_view c.in-Some.token ∷ []) stands.kept
            ∙ sym more.1;
      },
    )
