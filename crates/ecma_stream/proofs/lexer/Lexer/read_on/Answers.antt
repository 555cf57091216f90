use Rattle.std.proofs.Common.{◌∙◌, ap, subst, sym}
use Rattle.ecma_place.specs.Cursor.{Cursor, HasPlace}
use Rattle.ecma_stream.proofs.lexer.Lexer.read_on.Goals as goal

pub reset_to-requires : goal.reset_to-requires
reset_to-requires c =
    subst (λ (input : Cursor). HasPlace input c.in-Some.slash.0) (ap (λ l. l.input) c.self.view_is ∙ sym c.requires)
    (c.self.invariant.reread c.in-Some.slash (ap (λ a. a.reread) (sym c.self-inside.view_is) ∙ c.in-Some.is)).has_place
