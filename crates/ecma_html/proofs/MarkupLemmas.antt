-- Markup is taken away again; and pieces that cover a text lie in it.
use Rattle.std.proofs.Common.{◌≡◌, ◌∙◌, ℕ, ◌+◌, ◌<◌, ◌≤◌, Bool, true, false, cond, ◌==◌, List, [], ◌∷◌, ◌++◌, add-one, append_assoc, append-nil, Option, Some, None, length, drop, drop-cons, refl, sym, subst, ap, arith}
use Rattle.std.specs.Prelude.{codes, flat_map, fold, get_or, slice_range}
use Rattle.std.proofs.lemmas.Bool.{eqb-true}
use Rattle.std.proofs.lemmas.List.Sums.{fold-append}
use Rattle.ecma_classes.specs.Classes.{Tile}
use Rattle.ecma_classes.specs.declared.piece.Class.TheVariants as pieces
use Rattle.ecma_classes.specs.declared.piece.Piece.{Piece}
use Rattle.ecma_styles.specs.declared.«class».Class.{Class}
use Rattle.ecma_styles.specs.declared.«class».Class.TheVariants.{Keyword, Literal, Name, Property, Function, ClassName, TypeName, Decorator, Meta, BuiltIn, Text, Template, Number, Expression, Comment, Wrong}
use Rattle.ecma_html.specs.Markup.{close_tag, escaped, escaped_byte, html_of, open_tag, piece_html, pieces_html, styled_html}
use Rattle.ecma_html.specs.Parts.{Covers}
use Rattle.ecma_styles.specs.Styles.{Styled, class_name}
use Rattle.ecma_html.specs.Unmark.{Inside, Outside, Reference, Tag, Unmarked, at, in_text, read_byte, shown, shown_byte}

-- Places

pub tile-le : (low : ℕ) (ps : List Piece) (high : ℕ) → Tile low ps high → low ≤ high
tile-le low [] high t = omega (arith, t)
tile-le low (p ∷ ps) high t =
    let more = tile-le p.span.hi.0 ps high t.2 in
    let first = t.1 in
    omega (arith, more, first)

pub first-within : (p : Piece) (ps : List Piece) (high : ℕ) → Covers (p ∷ ps) high → (p.span.lo.0 ≤ p.span.hi.0) × (p.span.hi.0 ≤ high) × Covers ps high
first-within p ps high (low, t) =
    let begins = t.0 in
    let holds = t.1 in (omega (arith, begins, holds), tile-le p.span.hi.0 ps high t.2, (p.span.hi.0, t.2))

-- what a loop over pieces reads out of range
abbrev pub no_piece : Piece
no_piece = record { span = record { lo = record { 0 = 0 }; hi = record { 0 = 0 } }; class = pieces.Token }

-- a piece of those that are left

pub left-of : (ps : List Piece) (i : ℕ) (d : Piece) → i < length ps → drop i ps ≡ get_or ps i d ∷ drop (i + 1) ps
left-of ps i d h = rw (add-one, drop-cons ps i d) refl

pub item-within : (ps : List Piece) (i : ℕ) (d : Piece) (high : ℕ) → i < length ps → Covers (drop i ps) high
    → ((get_or ps i d).span.lo.0 ≤ (get_or ps i d).span.hi.0) × ((get_or ps i d).span.hi.0 ≤ high) × Covers (drop (i + 1) ps) high
item-within ps i d high h covers = first-within (get_or ps i d) (drop (i + 1) ps) high (subst (λ qs. Covers qs high) (left-of ps i d h) covers)

-- Bytes

-- a byte that is written as itself
plain-byte : (text : List ℕ) (b : ℕ) → (b == 60) ≡ false → (b == 38) ≡ false → in_text text b ≡ at Inside (text ++ b ∷ [])
plain-byte text b less amp =
    let quoted : Unmarked = at (Reference []) text in
    let itself : Unmarked = at Inside (text ++ b ∷ []) in
    ap (λ x. cond x (at (Tag true []) text) (cond (b == 38) quoted itself)) less ∙ ap (λ x. cond x quoted itself) amp

byte-back : (text : List ℕ) (b : ℕ) → fold read_byte (at Inside text) (escaped_byte b) ≡ at Inside (text ++ shown_byte b)
byte-back text b = amp (b == 38) refl
  where
    Back : ℕ → Type 0
    Back c = fold read_byte (at Inside text) (escaped_byte c) ≡ at Inside (text ++ shown_byte c)

    nul : (x : Bool) → (b == 0) ≡ x → (b == 13) ≡ false → (b == 62) ≡ false → (b == 60) ≡ false → (b == 38) ≡ false → Back b
    nul true e cr more less amp = subst Back (sym (eqb-true b 0 e)) (ap (at Inside) (simp append_assoc))
    nul false e cr more less amp =
        let written : escaped_byte b ≡ b ∷ [] = rw (amp, less, more, cr, e) refl in
        let kept : shown_byte b ≡ b ∷ [] = rw e refl in
        ap (fold read_byte (at Inside text)) written ∙ plain-byte text b less amp ∙ ap (λ bytes. at Inside (text ++ bytes)) (sym kept)

    cr : (x : Bool) → (b == 13) ≡ x → (b == 62) ≡ false → (b == 60) ≡ false → (b == 38) ≡ false → Back b
    cr true e more less amp = subst Back (sym (eqb-true b 13 e)) refl
    cr false e more less amp = nul (b == 0) refl e more less amp

    more : (x : Bool) → (b == 62) ≡ x → (b == 60) ≡ false → (b == 38) ≡ false → Back b
    more true e less amp = subst Back (sym (eqb-true b 62 e)) refl
    more false e less amp = cr (b == 13) refl e less amp

    less : (x : Bool) → (b == 60) ≡ x → (b == 38) ≡ false → Back b
    less true e amp = subst Back (sym (eqb-true b 60 e)) refl
    less false e amp = more (b == 62) refl e amp

    amp : (x : Bool) → (b == 38) ≡ x → Back b
    amp true e = subst Back (sym (eqb-true b 38 e)) refl
    amp false e = less (b == 60) refl e

escaped-back : (text bytes : List ℕ) → fold read_byte (at Inside text) (escaped bytes) ≡ at Inside (text ++ shown bytes)
escaped-back text [] = ap (at Inside) (sym (append-nil text))
escaped-back text (b ∷ bs) =
    fold-append read_byte (at Inside text) (escaped_byte b) (escaped bs)
    ∙ ap (λ u. fold read_byte u (escaped bs)) (byte-back text b)
    ∙ escaped-back (text ++ shown_byte b) bs
    ∙ ap (at Inside) (append_assoc text (shown_byte b) (shown bs))

-- Spans

open-back : (text : List ℕ) (c : Class) → fold read_byte (at Inside text) (codes "<span class=\"" ++ (class_name c ++ codes "\">")) ≡ at Inside text
open-back text Keyword = refl
open-back text Literal = refl
open-back text Name = refl
open-back text Property = refl
open-back text Function = refl
open-back text ClassName = refl
open-back text TypeName = refl
open-back text Decorator = refl
open-back text Meta = refl
open-back text BuiltIn = refl
open-back text Text = refl
open-back text Template = refl
open-back text Number = refl
open-back text Expression = refl
open-back text Comment = refl
open-back text Wrong = refl

styled-back : (text : List ℕ) (style : Option Class) (bytes : List ℕ) → fold read_byte (at Inside text) (styled_html style bytes) ≡ at Inside (text ++ shown bytes)
styled-back text None bytes = escaped-back text bytes
styled-back text (Some c) bytes =
    let front : List ℕ = codes "<span class=\"" ++ (class_name c ++ codes "\">") in
    let parts : styled_html (Some c) bytes ≡ front ++ (escaped bytes ++ codes "</span>") = simp append_assoc in
    ap (fold read_byte (at Inside text)) parts
    ∙ fold-append read_byte (at Inside text) front (escaped bytes ++ codes "</span>")
    ∙ ap (λ u. fold read_byte u (escaped bytes ++ codes "</span>")) (open-back text c)
    ∙ fold-append read_byte (at Inside text) (escaped bytes) (codes "</span>")
    ∙ ap (λ u. fold read_byte u (codes "</span>")) (escaped-back text bytes)

-- the bytes of the parts of a text
abbrev pub bytes_of : List ℕ → List Styled → List ℕ
bytes_of text pieces = flat_map (λ s. slice_range text s.span.lo.0 s.span.hi.0) pieces

shown-append : (a b : List ℕ) → shown (a ++ b) ≡ shown a ++ shown b
shown-append [] b = refl
shown-append (x ∷ xs) b = ap (λ more. shown_byte x ++ more) (shown-append xs b) ∙ sym (append_assoc (shown_byte x) (shown xs) (shown b))

pieces-back : (before source : List ℕ) (pieces : List Styled) → fold read_byte (at Inside before) (pieces_html source pieces) ≡ at Inside (before ++ shown (bytes_of source pieces))
pieces-back before source [] = ap (at Inside) (sym (append-nil before))
pieces-back before source (s ∷ ss) =
    let own : List ℕ = slice_range source s.span.lo.0 s.span.hi.0 in
    fold-append read_byte (at Inside before) (piece_html source s) (pieces_html source ss)
    ∙ ap (λ u. fold read_byte u (pieces_html source ss)) (styled-back before s.style own)
    ∙ pieces-back (before ++ shown own) source ss
    ∙ ap (at Inside) (append_assoc before (shown own) (shown (bytes_of source ss)) ∙ ap (λ more. before ++ more) (sym (shown-append own (bytes_of source ss))))

-- right behind the tag that opens the element a line feed is passed
pub html-read : (source : List ℕ) (pieces : List Styled) → fold read_byte (at Outside []) (html_of source pieces) ≡ at Outside (shown (bytes_of source pieces))
html-read source pieces =
    fold-append read_byte (at Outside []) open_tag (pieces_html source pieces ++ close_tag)
    ∙ fold-append read_byte (at Inside []) (pieces_html source pieces) close_tag
    ∙ ap (λ u. fold read_byte u close_tag) (pieces-back [] source pieces)
