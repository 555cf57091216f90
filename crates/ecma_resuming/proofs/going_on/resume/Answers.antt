use Rattle.std.specs.Prelude.{IfOk, IfSome, IsTrue, is_some, length}
use Rattle.std.specs.Str.{chars}
use Rattle.std.proofs.Common.{◌≡◌, ◌∙◌, ◌↔◌, ◌+◌, ◌<◌, ◌^◌, ap, sym, subst}
use Rattle.ecma_place.specs.Cursor.{Cursor}
use Rattle.ecma_place.specs.declared.place.BytePos.{BytePos}
use Rattle.ecma_state.specs.Session.{lexer_state}
use Rattle.ecma_checkpoint.specs.Checkpoints.{Fits, resumed}
use Rattle.ecma_resuming.specs.Resuming.{IsResumed, begin_of, text_from, text_over}
use Rattle.ecma_resuming.proofs.GoingOnLemmas.{if-ok}
use Rattle.ecma_resuming.proofs.going_on.resume.Goals as goal

-- the cursor that is given is before the rest of the text
given : (c : goal.After-resume) → c.new.result ≡ text_over c.args.from.now c.args.rest.now
given c = c.new.ensures ∙ ap (λ (b : BytePos). text_from b (chars c.args.rest.now)) c.begin_of-begin.ensures

places : (c : goal.After-resume) → (begin_of c.args.from.now).0 + length c.args.rest.now < 2 ^ 32
places c = subst (λ (b : BytePos). b.0 + length c.args.rest.now < 2 ^ 32) c.begin_of-begin.ensures (c.fits.ensures.0 c.if-not-fits.false)

pub returns-clause-goes : goal.returns-clause-goes
returns-clause-goes c =
    let from = c.args.from.now in
    if-ok
    (λ l. IsTrue (is_some l) ↔ Fits from c.new.result)
    (λ l. IsTrue (is_some l) ↔ IsResumed from c.args.rest.now)
    c.resume.result
    (λ l h. (
      (λ some. record { places = places c; fits = subst (Fits from) (given c) (h.0 some) }),
      (λ is. h.1 (subst (Fits from) (sym (given c)) is.fits)),
    ))
    c.resume.ensures.goes

pub returns-clause-goes_on : goal.returns-clause-goes_on
returns-clause-goes_on c =
    subst
    (λ (there : Cursor). IfOk c.resume.result (λ l. IfSome l (λ l. lexer_state l ≡ resumed c.args.settings.now c.args.from.now there)))
    (given c)
    c.resume.ensures.goes_on
