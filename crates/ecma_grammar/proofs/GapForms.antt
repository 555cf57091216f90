-- The elements of a gap by rules: what is read is as they say, and what they say is read.
use Rattle.std.proofs.Common.{◌≡◌, ◌≤◌, ◌<◌, ℕ, Bool, true, false, not, cond, ◌&&◌, ◌||◌, ◌==◌, List, [], ◌∷◌, ◌++◌, drop, length, Option, Some, None, refl, ap, ◌∙◌, sym, subst, append_assoc, append-nil, length-append, arith, eqb-true}
use Rattle.std.specs.Prelude.{⊤, codes, replicate, option_map}
use Rattle.std.proofs.lemmas.Bool.{and_parts, not-true}
use Rattle.ecma_place.specs.Text.{Text}
use Rattle.ecma_place.specs.Character.{is_white_space, is_line_terminator}
use Rattle.ecma_grammar.specs.declared.gap_mode.GapMode.{GapMode}
use Rattle.ecma_grammar.specs.Cutters.{IsCutter, ReadsInOrder}
use Rattle.ecma_grammar.specs.Fronts.{front, after, in_line, line, behind_line, begins_with, next_is, next_passes}
use Rattle.ecma_grammar.specs.Pieces.{pieces, spelled}
use Rattle.ecma_grammar.specs.Gaps.{Element, Blank, LineComment, BlockComment, OpenComment, HtmlOpening, HtmlClosing, Marker, element_text, comment_body, block_of, marks, is_marker, marker, special_element, common_or, element, flag_behind, gap_cutter, IsLine, HoldsEndAtEnd, HoldsNoEnd, IsElement, AreElements, CommentBodyIsFirst, ElementsAreRuled}
use Rattle.ecma_grammar.proofs.Fronts.{front_after, front_all, front_run, begins_with-front}
use Rattle.ecma_grammar.proofs.PieceLemmas.{FrontIf, is_cutter, pieces_in_order, cut, remainder_is}

pub cond_false : {A : Type 0} (b : Bool) (x y : A) → b ≡ false → cond b x y ≡ y
cond_false b x y e = rw e

pub cond_true : {A : Type 0} (b : Bool) (x y : A) → b ≡ true → cond b x y ≡ x
cond_true b x y e = rw e

-- Lines

pub line_front : (text : Text) → line text ++ behind_line text ≡ text
line_front text = front_after in_line text

line_ends : (text : Text) → next_passes in_line (behind_line text) ≡ false
line_ends [] = refl
line_ends (c ∷ cs) = go (in_line c) refl (line_ends cs)
  where
    go : (x : Bool) → in_line c ≡ x → next_passes in_line (behind_line cs) ≡ false → next_passes in_line (behind_line (c ∷ cs)) ≡ false
    go true e more = rw (e, after) more
    go false e more = rw (e, after) e

line_is : (text : Text) → IsLine (line text) (behind_line text)
line_is text = (front_all in_line text, line_ends text)

line_again : (text rest : Text) → IsLine text rest → line (text ++ rest) ≡ text
line_again text rest is = front_run in_line text rest is.0 is.1

-- a spelling and a line, at a text that begins with the spelling
pub spelled_line : (needle text : Text) → begins_with needle text ≡ true
    → ((needle ++ line (drop (length needle) text)) ++ behind_line (drop (length needle) text) ≡ text)
spelled_line needle text e = rw append_assoc (ap (λ l. needle ++ l) (line_front (drop (length needle) text)) ∙ begins_with-front needle text e)

space_is_in_line : in_line 32 ≡ true
unfolding is_line_terminator
space_is_in_line = refl

-- a space at the front of a line
space_in_line : (text : Text) → next_is 32 (line text) ≡ next_is 32 text
space_in_line [] = refl
space_in_line (c ∷ cs) = go (in_line c) (c == 32) refl refl
  where
    go : (x y : Bool) → in_line c ≡ x → (c == 32) ≡ y → next_is 32 (line (c ∷ cs)) ≡ (c == 32)
    go true y e f = rw (e, front)
    go false true e f = let no : true ≡ false = sym space_is_in_line ∙ ap in_line (sym (eqb-true c 32 f)) ∙ e in cc
    go false false e f = rw (e, front) (sym f)

marks_line : (type_mode : Bool) (c : ℕ) (text : Text) → marks type_mode c (line text) ≡ marks type_mode c text
marks_line type_mode c text = ap (λ b. c == 61 || (((c == 60 || c == 62) && not type_mode) && b)) (space_in_line text)

-- Block comments

-- the body of a comment that ends, and what follows
abbrev BodyFront : Option Text → Text → Type 0
BodyFront None text = ⊤
BodyFront (Some body) text = (rest : Text) × (body ++ (codes "*/" ++ rest) ≡ text)

body_front : (text : Text) → BodyFront (comment_body text) text
body_front [] = tt
body_front (c ∷ cs) = go (begins_with (codes "*/") (c ∷ cs)) (comment_body cs) refl (body_front cs)
  where
    go : (x : Bool) (o : Option Text) → begins_with (codes "*/") (c ∷ cs) ≡ x → BodyFront o cs
        → BodyFront (cond x (Some []) (option_map (λ body. c ∷ body) o)) (c ∷ cs)
    go true o e h = (drop 2 (c ∷ cs), begins_with-front (codes "*/") (c ∷ cs) e)
    go false (Some body) e h = (h.0, ap (λ l. c ∷ l) h.1)
    go false None e h = tt

-- the first `*/`
pub comment_body_is_first : CommentBodyIsFirst
comment_body_is_first [] behind = ([], behind, refl, refl, omega arith)
comment_body_is_first (c ∷ cs) behind = go (begins_with (codes "*/") text) refl (comment_body_is_first cs behind)
  where
    more : Text
    more = cs ++ (codes "*/" ++ behind)

    text : Text
    text = c ∷ more

    go : (x : Bool) → begins_with (codes "*/") text ≡ x
        → ((body rest : Text) × (comment_body more ≡ Some body) × (body ++ (codes "*/" ++ rest) ≡ more) × (length body ≤ length cs))
        → (body rest : Text)
        × (cond x (Some []) (option_map (λ body. c ∷ body) (comment_body more)) ≡ Some body)
        × (body ++ (codes "*/" ++ rest) ≡ text)
        × (length body ≤ length (c ∷ cs))
    go true e h = ([], drop 2 text, refl, begins_with-front (codes "*/") text e, omega arith)
    go false e (body, rest, is, spells, less) = (c ∷ body, rest, ap (option_map (λ body. c ∷ body)) is, ap (λ l. c ∷ l) spells, omega (arith, less))

nothing_left : (text : Text) → length text ≡ 0 → text ≡ []
nothing_left [] e = refl
nothing_left (c ∷ cs) e = absurd (omega (arith, e))

-- a body that is read holds no `*/` but the one behind it
body_ends : (body rest : Text) → comment_body (body ++ (codes "*/" ++ rest)) ≡ Some body → HoldsEndAtEnd (body ++ codes "*/")
body_ends body rest is before behind e =
    let text : body ++ (codes "*/" ++ rest) ≡ before ++ (codes "*/" ++ (behind ++ rest)) =
    sym (append_assoc body (codes "*/") rest) ∙ ap (λ l. l ++ rest) e ∙ append_assoc before (codes "*/" ++ behind) rest in
    let (first, more, read, spells, less) = comment_body_is_first before (behind ++ rest) in
    let same : Some body ≡ Some first = sym is ∙ ap comment_body text ∙ read in
    let it : body ≡ first = cc in
    nothing_left behind
    (omega (arith, less, ap length it, ap length e, length-append body (codes "*/"), length-append before (codes "*/" ++ behind), length-append (codes "*/") behind))

no_body : (body : Text) → comment_body body ≡ None → HoldsNoEnd body
no_body body is before behind e =
    let (first, more, read, spells, less) = comment_body_is_first before behind in
    let no : Some first ≡ None = sym read ∙ ap comment_body (sym e) ∙ is in
    cc

-- of two fronts of a text the shorter is a front of the other
shorter : (a b x y : Text) → a ++ x ≡ b ++ y → length a ≤ length b → (z : Text) × (a ++ z ≡ b)
shorter [] b x y e l = (b, refl)
shorter (c ∷ cs) [] x y e l = absurd (omega (arith, l))
shorter (c ∷ cs) (d ∷ ds) x y e l =
    let first : c ≡ d = cc in
    let behind : cs ++ x ≡ ds ++ y = cc in
    let (z, same) = shorter cs ds x y behind (omega (arith, l)) in
    (z, ap (λ l. c ∷ l) same ∙ ap (λ k. k ∷ ds) first)

-- a body whose only `*/` stands behind it is read
body_read : (body rest : Text) → HoldsEndAtEnd (body ++ codes "*/") → comment_body (body ++ (codes "*/" ++ rest)) ≡ Some body
body_read body rest ends =
    let (first, more, read, spells, less) = comment_body_is_first body rest in
    let fronts : (first ++ codes "*/") ++ more ≡ (body ++ codes "*/") ++ rest =
    append_assoc first (codes "*/") more ∙ spells ∙ sym (append_assoc body (codes "*/") rest) in
    let (z, same) = shorter (first ++ codes "*/") (body ++ codes "*/") more rest fronts (omega (arith, less, length-append first (codes "*/"), length-append body (codes "*/"))) in
    let none : z ≡ [] = ends first z (sym same ∙ append_assoc first (codes "*/") z) in
    let whole : first ++ codes "*/" ≡ body ++ codes "*/" = sym (append-nil (first ++ codes "*/")) ∙ ap (λ l. (first ++ codes "*/") ++ l) (sym none) ∙ same in
    read ∙ ap Some (same_body first body whole)
  where
    same_body : (a b : Text) → a ++ codes "*/" ≡ b ++ codes "*/" → a ≡ b
    same_body [] [] e = refl
    same_body [] (d ∷ ds) e = absurd (omega (arith, ap length e, length-append (d ∷ ds) (codes "*/")))
    same_body (c ∷ cs) [] e = absurd (omega (arith, ap length e, length-append (c ∷ cs) (codes "*/")))
    same_body (c ∷ cs) (d ∷ ds) e =
        let first : c ≡ d = cc in
        let behind : cs ++ codes "*/" ≡ ds ++ codes "*/" = cc in
        ap (λ k. k ∷ cs) first ∙ ap (λ l. d ∷ l) (same_body cs ds behind)

none_read : (body : Text) → HoldsNoEnd body → comment_body body ≡ None
none_read body holds = go (comment_body body) (body_front body)
  where
    go : (o : Option Text) → BodyFront o body → o ≡ None
    go None h = refl
    go (Some first) h = absurd (holds first h.0 (sym h.1))

-- What is read is as the rules say

-- an element, if there is one, is a front of the text, by the rules
abbrev pub RuledIf : Bool → Bool → Option Element → Text → Type 0
RuledIf type_mode flag None text = ⊤
RuledIf type_mode flag (Some e) text = (rest : Text) × (element_text e ++ rest ≡ text) × IsElement type_mode flag e rest

pub block_ruled : (type_mode flag : Bool) (text : Text) → begins_with (codes "/*") text ≡ true → RuledIf type_mode flag (Some (block_of (comment_body (drop 2 text)) (drop 2 text))) text
block_ruled type_mode flag text e = go (comment_body (drop 2 text)) refl (body_front (drop 2 text))
  where
    whole : codes "/*" ++ drop 2 text ≡ text
    whole = begins_with-front (codes "/*") text e

    go : (o : Option Text) → comment_body (drop 2 text) ≡ o → BodyFront o (drop 2 text) → RuledIf type_mode flag (Some (block_of o (drop 2 text))) text
    go (Some body) is h = (
      h.0,
      ap (λ l. codes "/*" ++ l) (append_assoc body (codes "*/") h.0 ∙ h.1) ∙ whole,
      body_ends body h.0 (ap comment_body h.1 ∙ is),
    )
    go None is h = ([], ap (λ l. codes "/*" ++ l) (append-nil (drop 2 text)) ∙ whole, (no_body (drop 2 text) is, refl))

marker_ruled : (type_mode : Bool) (text : Text) → RuledIf type_mode true (marker type_mode text) text
marker_ruled type_mode [] = tt
marker_ruled type_mode (c ∷ cs) = go (is_marker type_mode c (c ∷ cs)) refl
  where
    go : (x : Bool) → is_marker type_mode c (c ∷ cs) ≡ x → RuledIf type_mode true (marker type_mode (c ∷ cs)) (c ∷ cs)
    go true e =
        let (begins, marked) = and_parts (begins_with (replicate 7 c) (c ∷ cs)) (marks type_mode c (drop 6 cs)) e in
        rw e (behind_line (drop 6 cs), spelled_line (replicate 7 c) (c ∷ cs) begins, (refl, marks_line type_mode c (drop 6 cs) ∙ marked, line_is (drop 6 cs)))
    go false e = rw e tt

special_ruled : (type_mode flag : Bool) (text : Text) → RuledIf type_mode flag (special_element type_mode flag text) text
special_ruled type_mode flag text = go (begins_with (codes "<!--") text && not type_mode) flag (begins_with (codes "-->") text) refl refl (marker_ruled type_mode text)
  where
    go : (x flag z : Bool) → (begins_with (codes "<!--") text && not type_mode) ≡ x → begins_with (codes "-->") text ≡ z → RuledIf type_mode true (marker type_mode text) text
        → RuledIf type_mode flag (cond x (Some (HtmlOpening (line (drop 4 text)))) (cond flag (cond z (Some (HtmlClosing (line (drop 3 text)))) (marker type_mode text)) None)) text
    go true flag z e f h =
        let (begins, code) = and_parts (begins_with (codes "<!--") text) (not type_mode) e in
        (behind_line (drop 4 text), spelled_line (codes "<!--") text begins, (not-true type_mode code, line_is (drop 4 text)))
    go false true true e f h = (behind_line (drop 3 text), spelled_line (codes "-->") text f, (refl, line_is (drop 3 text)))
    go false true false e f h = h
    go false false z e f h = tt

-- white space and comments, and what is read else
pub common_ruled : (type_mode flag : Bool) (c : ℕ) (cs : Text) (otherwise : Option Element) → RuledIf type_mode flag otherwise (c ∷ cs)
    → RuledIf type_mode flag (common_or c cs otherwise) (c ∷ cs)
common_ruled type_mode flag c cs otherwise h = go (is_white_space c) (begins_with (codes "//") (c ∷ cs)) (begins_with (codes "/*") (c ∷ cs)) refl refl refl
  where
    go : (x y z : Bool) → is_white_space c ≡ x → begins_with (codes "//") (c ∷ cs) ≡ y → begins_with (codes "/*") (c ∷ cs) ≡ z
        → RuledIf type_mode flag (cond x (Some (Blank c)) (cond y (Some (LineComment (line (drop 1 cs)))) (cond z (Some (block_of (comment_body (drop 1 cs)) (drop 1 cs))) otherwise))) (c ∷ cs)
    go true y z w e f = (cs, refl, w)
    go false true z w e f = (behind_line (drop 1 cs), spelled_line (codes "//") (c ∷ cs) e, line_is (drop 1 cs))
    go false false true w e f = block_ruled type_mode flag (c ∷ cs) f
    go false false false w e f = h

element_ruled : (mode : GapMode) (flag : Bool) (text : Text) → RuledIf mode.type_mode flag (element mode flag text) text
element_ruled mode flag [] = tt
element_ruled mode flag (c ∷ cs) = common_ruled mode.type_mode flag c cs (special_element mode.type_mode flag (c ∷ cs)) (special_ruled mode.type_mode flag (c ∷ cs))

pub never_empty : (e : Element) → 0 < length (element_text e)
never_empty (Blank c) = omega arith
never_empty (LineComment line) = omega arith
never_empty (BlockComment body) = omega arith
never_empty (OpenComment body) = omega arith
never_empty (HtmlOpening line) = omega arith
never_empty (HtmlClosing line) = omega arith
never_empty (Marker c line) = omega arith

ruled_front : (mode : GapMode) (flag : Bool) (o : Option Element) (text : Text) → RuledIf mode.type_mode flag o text → FrontIf (gap_cutter mode) o text
ruled_front mode flag None text h = tt
ruled_front mode flag (Some e) text h = ((h.0, h.1), never_empty e)

pub gap_is_cutter : (mode : GapMode) → IsCutter (gap_cutter mode)
gap_is_cutter mode = is_cutter (gap_cutter mode) (λ flag text. ruled_front mode flag (element mode flag text) text (element_ruled mode flag text))

-- What the rules say is read

slash_is_no_white : is_white_space 47 ≡ false
unfolding is_white_space is_line_terminator
slash_is_no_white = refl

less_is_no_white : is_white_space 60 ≡ false
unfolding is_white_space is_line_terminator
less_is_no_white = refl

dash_is_no_white : is_white_space 45 ≡ false
unfolding is_white_space is_line_terminator
dash_is_no_white = refl

equals_is_no_white : is_white_space 61 ≡ false
unfolding is_white_space is_line_terminator
equals_is_no_white = refl

greater_is_no_white : is_white_space 62 ≡ false
unfolding is_white_space is_line_terminator
greater_is_no_white = refl

abbrev IsRead : GapMode → Bool → Element → Text → Type 0
IsRead mode flag e rest = element mode flag (element_text e ++ rest) ≡ Some e

-- behind seven of the character
marked : (mode : GapMode) (c : ℕ) (line rest : Text) → is_white_space c ≡ false
    → element mode true (replicate 7 c ++ (line ++ rest)) ≡ cond (is_white_space c) (Some (Blank c)) (marker mode.type_mode (replicate 7 c ++ (line ++ rest)))
    → begins_with (replicate 7 c) (replicate 7 c ++ (line ++ rest)) ≡ true
    → marks mode.type_mode c line ≡ true → IsLine line rest → IsRead mode true (Marker c line) rest
marked mode c text rest white reads begins is lined =
    let again : line (text ++ rest) ≡ text = line_again text rest lined in
    let whole : marks mode.type_mode c (text ++ rest) ≡ true = sym (marks_line mode.type_mode c (text ++ rest)) ∙ ap (marks mode.type_mode c) again ∙ is in
    reads
    ∙ cond_false _ _ _ white
    ∙ cond_true _ _ _ (ap (λ b. b && marks mode.type_mode c (text ++ rest)) begins ∙ whole)
    ∙ ap (λ l. Some (Marker c l)) again

marker_read : (mode : GapMode) (c : ℕ) (line rest : Text) → marks mode.type_mode c line ≡ true → IsLine line rest → IsRead mode true (Marker c line) rest
marker_read mode c text rest is lined = go (c == 61) (c == 60) (c == 62) refl refl refl
  where
    at : (d : ℕ) → c ≡ d → (marks mode.type_mode d text ≡ true → IsRead mode true (Marker d text) rest) → IsRead mode true (Marker c text) rest
    at d same read = subst (λ x. IsRead mode true (Marker x text) rest) (sym same) (read (ap (λ x. marks mode.type_mode x text) (sym same) ∙ is))

    go : (x y z : Bool) → (c == 61) ≡ x → (c == 60) ≡ y → (c == 62) ≡ z → IsRead mode true (Marker c text) rest
    go true y z e f g = at 61 (eqb-true c 61 e) (λ m. marked mode 61 text rest equals_is_no_white refl refl m lined)
    go false true z e f g = at 60 (eqb-true c 60 f) (λ m. marked mode 60 text rest less_is_no_white refl refl m lined)
    go false false true e f g = at 62 (eqb-true c 62 g) (λ m. marked mode 62 text rest greater_is_no_white refl refl m lined)
    go false false false e f g = let no : false ≡ true = rw (e, f, g) at is in cc

element_read : (mode : GapMode) (flag : Bool) (e : Element) (rest : Text) → IsElement mode.type_mode flag e rest → IsRead mode flag e rest
element_read mode flag (Blank c) rest is = cond_true _ _ _ is
element_read mode flag (LineComment text) rest is = cond_false _ _ _ slash_is_no_white ∙ ap (λ l. Some (LineComment l)) (line_again text rest is)
element_read mode flag (BlockComment body) rest is =
    cond_false _ _ _ slash_is_no_white
    ∙ ap (λ l. Some (block_of (comment_body l) l)) (append_assoc body (codes "*/") rest)
    ∙ ap (λ o. Some (block_of o (body ++ (codes "*/" ++ rest)))) (body_read body rest is)
element_read mode flag (OpenComment body) rest is =
    ap (λ l. element mode flag (element_text (OpenComment body) ++ l)) is.1
    ∙ ap (λ l. element mode flag (codes "/*" ++ l)) (append-nil body)
    ∙ cond_false _ _ _ slash_is_no_white
    ∙ ap (λ o. Some (block_of o body)) (none_read body is.0)
element_read mode flag (HtmlOpening text) rest is =
    cond_false _ _ _ less_is_no_white
    ∙ cond_true _ _ _ (ap not is.0)
    ∙ ap (λ l. Some (HtmlOpening l)) (line_again text rest is.1)
element_read mode flag (HtmlClosing text) rest is =
    cond_false _ _ _ dash_is_no_white
    ∙ cond_true _ _ _ is.0
    ∙ ap (λ l. Some (HtmlClosing l)) (line_again text rest is.1)
element_read mode flag (Marker c text) rest is =
    subst (λ b. IsRead mode b (Marker c text) rest) (sym is.0) (marker_read mode c text rest is.1 is.2)

-- The elements of a gap

some_is : (type_mode flag : Bool) (o : Option Element) (e : Element) (text : Text) → o ≡ Some e → RuledIf type_mode flag o text → RuledIf type_mode flag (Some e) text
some_is type_mode flag o e text same h = subst (λ o. RuledIf type_mode flag o text) same h

-- what stands behind an element is what is left of the text
same_rest : (front a b : Text) → front ++ a ≡ front ++ b → a ≡ b
same_rest [] a b e = e
same_rest (c ∷ cs) a b e = let more : cs ++ a ≡ cs ++ b = cc in same_rest cs a b more

read_is_ruled : (mode : GapMode) (flag : Bool) (e : Element) (rest : Text) → IsRead mode flag e rest → IsElement mode.type_mode flag e rest
read_is_ruled mode flag e rest is =
    let (behind, spells, ruled) = some_is mode.type_mode flag (element mode flag (element_text e ++ rest)) e (element_text e ++ rest) is (element_ruled mode flag (element_text e ++ rest)) in
    subst (IsElement mode.type_mode flag e) (same_rest (element_text e) behind rest spells) ruled

some_none : {e : Element} → None ≡ Some e → ⊥
some_none h = cc

in_order_ruled : (mode : GapMode) (flag : Bool) (es : List Element) (rest : Text) → ReadsInOrder (gap_cutter mode) flag es rest → AreElements mode flag es rest
in_order_ruled mode flag [] rest none = λ e more spells is. some_none (sym none ∙ ap (element mode flag) spells ∙ element_read mode flag e more is)
in_order_ruled mode flag (e ∷ es) rest (is, more) =
    (read_is_ruled mode flag e (spelled (gap_cutter mode) es ++ rest) is, in_order_ruled mode (flag_behind flag e) es rest more)

nothing_read : (mode : GapMode) (flag : Bool) (rest : Text) → AreElements mode flag [] rest → element mode flag rest ≡ None
nothing_read mode flag rest none = go (element mode flag rest) (element_ruled mode flag rest)
  where
    go : (o : Option Element) → RuledIf mode.type_mode flag o rest → o ≡ None
    go None h = refl
    go (Some e) (more, spells, is) = absurd (none e more (sym spells) is)

ruled_in_order : (mode : GapMode) (flag : Bool) (es : List Element) (rest : Text) → AreElements mode flag es rest → ReadsInOrder (gap_cutter mode) flag es rest
ruled_in_order mode flag [] rest none = nothing_read mode flag rest none
ruled_in_order mode flag (e ∷ es) rest (is, more) =
    (element_read mode flag e (spelled (gap_cutter mode) es ++ rest) is, ruled_in_order mode (flag_behind flag e) es rest more)

pub elements_are_ruled : ElementsAreRuled
elements_are_ruled mode text =
    let cutter = gap_cutter mode in
    let whole = cut cutter (gap_is_cutter mode) mode.first text in (
      subst (AreElements mode mode.first (pieces cutter mode.first text)) (sym (remainder_is cutter (gap_is_cutter mode) mode.first text)) (in_order_ruled mode mode.first (pieces cutter mode.first text) whole.0 whole.2),
      λ es rest are. pieces_in_order cutter (gap_is_cutter mode) mode.first es rest (ruled_in_order mode mode.first es rest are),
    )
