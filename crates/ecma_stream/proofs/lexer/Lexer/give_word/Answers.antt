use Rattle.std.proofs.Common.{◌≡◌, ◌∙◌, rules, sym}
use Rattle.ecma_syntax.specs.declared.word.IdentKind.TheVariants as idents
use Rattle.ecma_syntax.specs.declared.word.WordKind.TheVariants as kinds
use Rattle.ecma_place.proofs.MoveLemmas.{place-passed-le}
use Rattle.ecma_stream.proofs.ArmLemmas.{moved-lexer, word-read}
use Rattle.ecma_stream.proofs.lexer.Lexer.give_word.Goals as goal

pub invariant_of-self : goal.invariant_of-self
invariant_of-self c = moved-lexer c.self.inside c.eat_plain_kind.new.input _ c.self.invariant c.eat_plain_kind.ensures.moved

pub word_behind-plain-requires-clause-before : goal.word_behind-plain-requires-clause-before
word_behind-plain-requires-clause-before c = rw c.cur_pos-start.ensures (place-passed-le _ _ _ c.eat_plain_kind.ensures.moved)

pub invariant_of-self-then-eq : goal.invariant_of-self-then-eq
invariant_of-self-then-eq c = moved-lexer c.self.inside c.eat_plain_kind.new.input _ c.self.invariant c.eat_plain_kind.ensures.moved

pub give-requires-clause-found : goal.give-requires-clause-found
give-requires-clause-found c =
    let name : c.in-Some.kind ≡ kinds.Ident idents.Other = search rules in
    word-read c.args.before c.self.inside c.args.self.now c.args.gap c.word_behind-plain.result.token c.cur_pos-start.result _ c.eat_plain_kind.new.input c.self.view_is c.requires.behind c.requires.begins
    c.cur_pos-start.ensures (record { of_kind = sym name ∙ c.in-Some.ensures.kind; word = c.in-Some.ensures.word; moved = c.eat_plain_kind.ensures.moved })
    c.word_behind-plain.ensures.token c.word_behind-plain.ensures.flag

pub word_behind-plain-requires-else-eq-clause-before : goal.word_behind-plain-requires-else-eq-clause-before
word_behind-plain-requires-else-eq-clause-before c = rw c.cur_pos-start.ensures (place-passed-le _ _ _ c.eat_plain_kind.ensures.moved)

pub invariant_of-self-else-eq : goal.invariant_of-self-else-eq
invariant_of-self-else-eq c = moved-lexer c.self.inside c.eat_plain_kind.new.input _ c.self.invariant c.eat_plain_kind.ensures.moved

pub give-requires-else-eq-clause-found : goal.give-requires-else-eq-clause-found
give-requires-else-eq-clause-found c =
    word-read c.args.before c.self.inside c.args.self.now c.args.gap c.word_behind-plain-else-eq.result.token c.cur_pos-start.result _ c.eat_plain_kind.new.input c.self.view_is c.requires.behind c.requires.begins
    c.cur_pos-start.ensures (record { of_kind = c.in-Some.ensures.kind; word = c.in-Some.ensures.word; moved = c.eat_plain_kind.ensures.moved })
    c.word_behind-plain-else-eq.ensures.token c.word_behind-plain-else-eq.ensures.flag
