-- Template text is read again in front of a back quote and `${`.
use Rattle.std.proofs.Common.{◌≡◌, ℕ, Bool, true, false, List, [], ◌∷◌, ◌++◌, drop, length, Option, Some, None, refl, ap, ◌∙◌, sym}
use Rattle.ecma_place.specs.Text.{Text}
use Rattle.ecma_joining.specs.Texts.{TextsStandAlone, text_at, text_in}
use Rattle.ecma_scan.specs.Locality.{ends_template, is_clean}
use Rattle.ecma_scan.specs.Pieces.{pieces, remainder, spelled}
use Rattle.ecma_scan.specs.Templates.{AtBackQuote, AtDollarBrace, AtEnd, TemplateEnd, TemplatePiece, mark_of, raw_text, template_cutter, template_end, template_of, template_piece, template_text, text_of}
use Rattle.ecma_scan.proofs.PieceLemmas.{pieces_in_order}
use Rattle.ecma_scan.proofs.TemplateLaws.{ends_on, is_at_end, stops_at_mark, template_is_cutter, template_is_local, template_tiles}

-- what accepted text is

record Accepted (ps : List TemplatePiece) (e : TemplateEnd) (x : Text) : Type 0 where
  on : is_at_end e ≡ false
  raw : raw_text ps ≡ x
  clean : is_clean (text_of ps e) ≡ true
  written : (text_of ps e).spelling ≡ x

accepted_by : (ps : List TemplatePiece) (e : TemplateEnd) (x : Text) → text_in (text_of ps e).value (text_of ps e).spelling ≡ Some x → Accepted ps e x
accepted_by ps AtEnd x h = cc
accepted_by ps AtBackQuote x h = let same : raw_text ps ≡ x = cc in record { on = refl; raw = same; clean = refl; written = same }
accepted_by ps AtDollarBrace x h = let same : raw_text ps ≡ x = cc in record { on = refl; raw = same; clean = refl; written = same }

accepted : (r x : Text) → text_at r ≡ Some x → Accepted (pieces template_cutter tt r) (template_end (remainder template_cutter tt r)) x
accepted r x h = accepted_by (pieces template_cutter tt r) (template_end (remainder template_cutter tt r)) x h

left : (r x : Text) → text_at r ≡ Some x → ends_template (drop (length x) r) ≡ true
left r x h =
    let a = accepted r x h in
    ap (λ l. ends_template (drop (length l) r)) (sym a.raw) ∙ stops_at_mark r a.on

-- where the text is closed there is none

closed_none : (tail : Text) → ends_template tail ≡ true → template_piece tail ≡ None
closed_none [] h = cc
closed_none (c ∷ cs) h = rw h refl

no_pieces : (tail : Text) → ends_template tail ≡ true → pieces template_cutter tt tail ≡ []
no_pieces tail h = pieces_in_order template_cutter template_is_cutter tt [] tail (closed_none tail h)

empty_accepted : (e : TemplateEnd) → is_at_end e ≡ false → text_in (text_of [] e).value (text_of [] e).spelling ≡ Some []
empty_accepted AtEnd h = cc
empty_accepted AtBackQuote h = refl
empty_accepted AtDollarBrace h = refl

abbrev text_by : Text → List TemplatePiece → Option Text
text_by tail ps =
    text_in (text_of ps (template_end (drop (length (spelled template_cutter ps)) tail))).value (text_of ps (template_end (drop (length (spelled template_cutter ps)) tail))).spelling

closed : (tail : Text) → ends_template tail ≡ true → text_at tail ≡ Some []
closed tail h = ap (text_by tail) (no_pieces tail h) ∙ empty_accepted (template_end tail) (ends_on tail h)

full : (r : Text) (c : ℕ) (x : Text) → text_at r ≡ Some (c ∷ x) → ends_template r ≡ false
full r c x h = go (ends_template r) refl
  where
    go : (b : Bool) → ends_template r ≡ b → b ≡ false
    go true e = let no : Some [] ≡ Some (c ∷ x) = sym (closed r e) ∙ h in cc
    go false e = refl

same : (r x tail : Text) → text_at r ≡ Some x → ends_template tail ≡ true → template_text false (x ++ tail) ≡ template_text false r
same r x tail h ends =
    let a = accepted r x h in
    let rest = remainder template_cutter tt r in
    let whole : x ++ rest ≡ r = ap (λ l. l ++ rest) (sym a.raw) ∙ (template_tiles r).0 in
    let clean : is_clean (template_text false (x ++ rest)) ≡ true = ap (λ l. is_clean (template_text false l)) whole ∙ a.clean in
    let written : (template_text false (x ++ rest)).spelling ≡ x = ap (λ l. (template_text false l).spelling) whole ∙ a.written in
    template_is_local false x rest tail refl clean written ends ∙ ap (template_text false) whole

within : (r : Text) (c : ℕ) (x : Text) → text_at r ≡ Some (c ∷ x) → template_text true r ≡ template_text false r
within r c x h = go (pieces template_cutter tt r) (accepted r (c ∷ x) h).raw
  where
    go : (ps : List TemplatePiece) → raw_text ps ≡ c ∷ x → template_of true ps (template_end (remainder template_cutter tt r)) ≡ template_of false ps (template_end (remainder template_cutter tt r))
    go [] e = cc
    go (piece ∷ more) e = refl

mark : (r : Text) → text_at r ≡ Some [] → template_text true r ≡ mark_of (template_end r)
mark r h = ap (λ ps. template_of true ps (template_end (drop (length (spelled template_cutter ps)) r))) (no_pieces r (left r [] h))

pub texts_stand_alone : TextsStandAlone
texts_stand_alone =
    record {
      closed = closed;
      empty = λ r h. left r [] h;
      full = full;
      same = same;
      again = λ r x tail h ends. ap (λ s. text_in s.value s.spelling) (same r x tail h ends) ∙ h;
      left = left;
      within = within;
      mark = mark;
    }
