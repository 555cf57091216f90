-- What a token does in the text of a template
use Rattle.std.proofs.Common.{◌≡◌, ◌∙◌, ap, subst, sym, Bool, true, false, List, [], ◌∷◌, Option, Some, None, refl, arith}
use Rattle.ecma_role_table.specs.declared.part.Part.{Part}
use Rattle.ecma_role_table.specs.declared.part.PartKind.{PartKind}
use Rattle.ecma_role_table.specs.declared.part.PartKind.TheVariants.{Sign}
use Rattle.ecma_role_table.specs.declared.part.Sign.TheVariants as sign
use Rattle.ecma_role_table.specs.declared.frame.Around.{Around}
use Rattle.ecma_role_table.specs.declared.frame.Frame.{Frame}
use Rattle.ecma_role_table.specs.declared.frame.FrameKind.{FrameKind}
use Rattle.ecma_role_table.specs.declared.state.State.{State}
use Rattle.ecma_role_table.specs.declared.state.State.TheVariants as state
use Rattle.ecma_role_table.specs.declared.moves.Turn.TheVariants.{Done}
use Rattle.ecma_role_table.specs.Operands.{template_text}
use Rattle.ecma_role_table.specs.Table.{row}
use Rattle.ecma_role_moves.specs.Moves.{changed, moved, substitution_in, template_over, turned_to}
use Rattle.ecma_role_moves.specs.Nest.{Nested, popped, popped_from, top}
use Rattle.ecma_role_tracks.specs.Track.{TrackView, read_once, read_times, reading, stepped, track}
use Rattle.ecma_role_tracks.proofs.TrackLemmas.{nothing_left, one_more}
use Rattle.ecma_role_laws.specs.Brackets.{Enclosed, Template, bracket_of, enclosed, enclosing, in_text}
use Rattle.ecma_role_laws.proofs.Right.{ATemplate, is_bracket, meets, need}
use Rattle.ecma_role_laws.proofs.Frames.{bracket_opened, top_of}
use Rattle.ecma_role_laws.proofs.Steps.{IsSound}
use Rattle.ecma_role_laws.proofs.Taken.{Closed}

abbrev pub TextTaken : PartKind → Option Enclosed → List Frame → State → Type 0
TextTaken (Sign sign.Template) was after s = (enclosing after ≡ was) × (in_text s ≡ true)
TextTaken (Sign sign.DollarLBrace) was after s = (enclosing after ≡ was) × (in_text s ≡ false)
TextTaken (Sign sign.BackQuote) was after s = Closed Template was after s
TextTaken kind was after s = Unit {0}

-- a token that is taken into account at once
done-step : (t : TrackView) (kind : PartKind) (had_line_break : Bool) (s : State) (nest : Nested) → read_once t kind had_line_break ≡ turned_to (Done s) nest → (read_times 8 had_line_break (reading t (Some kind))).track ≡ track s nest t.typescript
done-step t kind had_line_break s nest is =
    let whole : read_times 8 had_line_break (reading t (Some kind)) ≡ reading (track s nest t.typescript) None = one_more 7 had_line_break t kind ∙ rw is (nothing_left 7 had_line_break (track s nest t.typescript)) in
    ap (λ r. r.track) whole

text-once : (kind : PartKind) (nest : Nested) (typescript had_line_break : Bool) → read_once (track state.Quasi nest typescript) kind had_line_break ≡ moved (template_text kind) kind nest
unfolding read_once row
text-once kind nest typescript had_line_break = refl

substitution-text : (over : Option FrameKind) → in_text (substitution_in over) ≡ false
substitution-text over = grind arith

template-frames : (over : Option FrameKind) (nest : Nested) → meets ATemplate over ≡ true → ((template_over over nest).nest.frames ≡ (popped nest).frames) × (in_text (template_over over nest).state ≡ false)
template-frames over nest met = grind (arith, met)

template-bracket : (kind : FrameKind) → meets ATemplate (Some kind) ≡ true → is_bracket Template (bracket_of kind) ≡ true
template-bracket kind met = grind (arith, met)

outer-same : (fs outer : List Frame) → Some (enclosed Template fs) ≡ Some (enclosed Template outer) → fs ≡ outer
outer-same fs outer is = grind (arith, is)

template-outer : (fs outer : List Frame) (around pending : Around) → meets ATemplate (top_of fs) ≡ true → enclosing fs ≡ Some (enclosed Template outer) → (popped_from fs around pending).frames ≡ outer
template-outer [] outer around pending met is = absurd cc
template-outer (f ∷ fs) outer around pending met is = outer-same fs outer (sym (bracket_opened Template f fs (template-bracket f.kind met)) ∙ is)

abbrev TextDone : PartKind → Bool → Nested → TrackView → Type 0
TextDone kind had_line_break nest t = TextTaken kind (enclosing nest.frames) t.nest.frames t.state

text-of : (kind : PartKind) (nest : Nested) (typescript had_line_break : Bool) → meets ATemplate (top nest) ≡ true → TextDone kind had_line_break nest (read_times 8 had_line_break (reading (track state.Quasi nest typescript) (Some kind))).track
unfolding moved changed
text-of (Sign sign.Template) nest typescript had_line_break met =
    let e = done-step (track state.Quasi nest typescript) (Sign sign.Template) had_line_break state.Quasi nest (text-once (Sign sign.Template) nest typescript had_line_break) in
    subst (TextDone (Sign sign.Template) had_line_break nest) (sym e) (refl, refl)
text-of (Sign sign.DollarLBrace) nest typescript had_line_break met =
    let e = done-step (track state.Quasi nest typescript) (Sign sign.DollarLBrace) had_line_break (substitution_in (top nest)) nest (text-once (Sign sign.DollarLBrace) nest typescript had_line_break) in
    subst (TextDone (Sign sign.DollarLBrace) had_line_break nest) (sym e) (refl, substitution-text (top nest))
text-of (Sign sign.BackQuote) nest typescript had_line_break met =
    let l = template_over (top nest) nest in
    let p = template-frames (top nest) nest met in
    let e = done-step (track state.Quasi nest typescript) (Sign sign.BackQuote) had_line_break l.state l.nest (text-once (Sign sign.BackQuote) nest typescript had_line_break) in
    subst (TextDone (Sign sign.BackQuote) had_line_break nest) (sym e) (λ outer is. (p.0 ∙ template-outer nest.frames outer nest.around nest.pending met is, p.1))
text-of kind nest typescript had_line_break met = tt

text-state : (s : State) → in_text s ≡ true → s ≡ state.Quasi
text-state s text = grind (arith, text)

pub text_taken : (t : TrackView) (part : Part) → IsSound t → in_text t.state ≡ true → TextTaken part.kind (enclosing t.nest.frames) (stepped t part).nest.frames (stepped t part).state
text_taken t part sound text =
    let e : t.state ≡ state.Quasi = text-state t.state text in
    let met : meets ATemplate (top t.nest) ≡ true = subst (λ s. meets (need s) (top t.nest) ≡ true) e sound.1 in
    subst (λ s. TextDone part.kind part.had_line_break t.nest (read_times 8 part.had_line_break (reading (track s t.nest t.typescript) (Some part.kind))).track) (sym e) (text-of part.kind t.nest t.typescript part.had_line_break met)
