-- HTML in parts.
use Rattle.std.proofs.Common.{◌≡◌, ◌∙◌, ℕ, List, ◌++◌, Bool, true, false, Option, append_assoc, ap, length, refl, sym}
use Rattle.ecma_place.specs.declared.place.BytePos.{BytePos}
use Rattle.ecma_comments.specs.declared.comments_buffer.BufferedComment.{BufferedComment}
use Rattle.ecma_state.specs.declared.kept.Kept.{Kept}
use Rattle.ecma_classes.specs.Classes.{classes_of}
use Rattle.ecma_classes.specs.declared.piece.Piece.{Piece}
use Rattle.ecma_styles.specs.declared.«class».Class.{Class}
use Rattle.ecma_styles.specs.Styles.{styled}
use Rattle.ecma_styles.specs.Tokens.{token_classes}
use Rattle.ecma_html.specs.Marked.{marked}
use Rattle.ecma_html.specs.Markup.{close_tag, open_tag, pieces_html}
use Rattle.ecma_html.specs.Page.{front_of}
use Rattle.ecma_html.specs.Parts.{MarkupLeft, begin_of, end_of, left_html}
use Rattle.ecma_html.specs.declared.page.TheConstants.{TAIL}
use Rattle.ecma_report.specs.Rows.{Look, whole_part}
use Rattle.ecma_report.proofs.PartLemmas.{part-append}
use Rattle.ecma_faces.specs.Whole.{html_by}

pub left-is : (m : MarkupLeft) (text : List ℕ) (styles : List (Option Class)) (pieces : List Piece) (places : List BytePos) → m.text ≡ text → m.styles ≡ styles → m.pieces ≡ pieces → m.places ≡ places
    → left_html m ≡ pieces_html text (marked places (styled styles pieces))
left-is m text styles pieces places of_text of_styles of_pieces of_places =
    ap (λ t. pieces_html t (marked m.places (styled m.styles m.pieces))) of_text
    ∙ ap (λ s. pieces_html text (marked m.places (styled s m.pieces))) of_styles
    ∙ ap (λ p. pieces_html text (marked m.places (styled styles p))) of_pieces
    ∙ ap (λ p. pieces_html text (marked p (styled styles pieces))) of_places

in-four : (front opens body closes tail : List ℕ) → (front ++ opens) ++ (body ++ (closes ++ tail)) ≡ front ++ ((opens ++ (body ++ closes)) ++ tail)
in-four front opens body closes tail = simp append_assoc

-- what begins it, its pieces, and what ends it
pub in-parts : (page : Bool) (file text : List ℕ) (kept : List Kept) (comments : List BufferedComment) (places : List BytePos)
    → begin_of page file text ++ (pieces_html text (marked places (styled (token_classes kept) (classes_of 0 (length text) kept comments))) ++ end_of page) ≡ html_by page file text kept comments places
in-parts true file text kept comments places =
    in-four (front_of file text) open_tag (pieces_html text (marked places (styled (token_classes kept) (classes_of 0 (length text) kept comments)))) close_tag TAIL.now
in-parts false file text kept comments places = refl

-- three parts are that of all three
pub part-three : (l : Look) (xs ys zs : List ℕ) → whole_part l xs ++ (whole_part l ys ++ whole_part l zs) ≡ whole_part l (xs ++ (ys ++ zs))
part-three l xs ys zs = ap (λ t. whole_part l xs ++ t) (sym (part-append l ys zs)) ∙ sym (part-append l xs (ys ++ zs))
