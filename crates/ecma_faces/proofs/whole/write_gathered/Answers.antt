use Rattle.std.proofs.Common.{◌∙◌, ap}
use Rattle.ecma_faces.proofs.whole.write_gathered.Goals as goal

pub returns-in_default : goal.returns-in_default
returns-in_default g c = record {
  classes = λ ask file bytes of face. absurd (c.in_default.not-Classes (ap (λ l. l.asked.face) of.look ∙ face));
  html = λ ask file bytes of face. absurd (c.in_default.not-Html (ap (λ l. l.asked.face) of.look ∙ face));
  shown = λ ask file bytes of face. c.write_shown.ensures.adds ask file bytes of;
  stays = c.write_shown.ensures.stays;
}
