-- Regular expressions are what their letters and pieces are by themselves.
use Rattle.std.proofs.Common.{◌≡◌, ℕ, Bool, true, false, not, cond, ◌||◌, ◌==◌, List, [], ◌∷◌, ◌++◌, Option, Some, None, refl, ap, ◌∙◌, sym, append_assoc}
use Rattle.std.specs.List.{list_all, list_any}
use Rattle.std.proofs.lemmas.Bool.{and_parts}
use Rattle.ecma_place.specs.Text.{Text}
use Rattle.ecma_place.specs.Character.{is_line_terminator}
use Rattle.ecma_grammar.specs.Pieces.{pieces, spelled}
use Rattle.ecma_grammar.specs.Cutters.{ReadsInOrder}
use Rattle.ecma_grammar.specs.Expressions.{Letter, Bare, Quoted, letter_text, quoted, ClassStop, ClassBackslash, ClassItself, class_letter_of, class_letter, class_cutter, BodyPiece, Single, Class, body_piece_text, single, class_behind, BodyStop, BodyBackslash, Bracket, BodyItself, body_piece_of, body_piece, body_cutter, body_pieces, expression_behind, is_class_letter, is_body_piece, ExpressionIsRead, ExpressionIsPieces}
use Rattle.ecma_grammar.proofs.PieceLemmas.{cut}
use Rattle.ecma_regexp.proofs.ExpressionLaws.{not_bare, class_found, class_closed, body_is_cutter, closed}

-- a letter of its form is read, and what is read has its form

class_reads : (letter : Letter) (r : Text) → is_class_letter letter ≡ true → class_letter (letter_text letter ++ r) ≡ Some letter
class_reads (Bare c) r h = go (c == 93) (c == 92) (is_line_terminator c) h
  where
    go : (x y z : Bool) → not ((x || y) || z) ≡ true → class_letter_of (cond x ClassStop (cond y ClassBackslash (cond z ClassStop ClassItself))) c r ≡ Some (Bare c)
    go true y z h = cc
    go false true z h = cc
    go false false true h = cc
    go false false false h = refl
class_reads (Quoted c) r h = go (is_line_terminator c) h
  where
    go : (x : Bool) → not x ≡ true → cond x None (Some (Quoted c)) ≡ Some (Quoted c)
    go true h = cc
    go false h = refl

class_order : (ls : List Letter) (x : Text) → list_all is_class_letter ls ≡ true → ReadsInOrder class_cutter tt ls (93 ∷ x)
class_order [] x h = refl
class_order (letter ∷ more) x h =
    let (here, behind) = and_parts (is_class_letter letter) (list_all is_class_letter more) h in
    (class_reads letter (spelled class_cutter more ++ (93 ∷ x)) here, class_order more x behind)

not_quoted : (c : ℕ) → Some (Quoted c) ≡ None → ⊥
not_quoted c h = cc

class_form : (letter : Letter) (r : Text) → class_letter (letter_text letter ++ r) ≡ Some letter → is_class_letter letter ≡ true
class_form (Bare c) r h = go (c == 93) (c == 92) (is_line_terminator c) h
  where
    go : (x y z : Bool) → class_letter_of (cond x ClassStop (cond y ClassBackslash (cond z ClassStop ClassItself))) c r ≡ Some (Bare c) → not ((x || y) || z) ≡ true
    go true y z h = cc
    go false true z h = absurd (not_bare r c h)
    go false false true h = cc
    go false false false h = refl
class_form (Quoted c) r h = go (is_line_terminator c) h
  where
    go : (x : Bool) → cond x None (Some (Quoted c)) ≡ Some (Quoted c) → not x ≡ true
    go true h = cc
    go false h = refl

pub class_forms : (ls : List Letter) (rest : Text) → ReadsInOrder class_cutter tt ls rest → list_all is_class_letter ls ≡ true
class_forms [] x h = refl
class_forms (letter ∷ more) x h = rw (class_form letter (spelled class_cutter more ++ x) h.0) (class_forms more x h.1)

-- so it is with pieces

body_reads : (piece : BodyPiece) (r : Text) → is_body_piece piece ≡ true → body_piece (body_piece_text piece ++ r) ≡ Some piece
body_reads (Single (Bare c)) r h = go (c == 47) (c == 92) (c == 91) (is_line_terminator c) h
  where
    go : (x y z w : Bool) → not (((x || y) || z) || w) ≡ true
        → body_piece_of (cond x BodyStop (cond y BodyBackslash (cond z Bracket (cond w BodyStop BodyItself)))) c r ≡ Some (Single (Bare c))
    go true y z w h = cc
    go false true z w h = cc
    go false false true w h = cc
    go false false false true h = cc
    go false false false false h = refl
body_reads (Single (Quoted c)) r h = go (is_line_terminator c) h
  where
    go : (x : Bool) → not x ≡ true → single (cond x None (Some (Quoted c))) ≡ Some (Single (Quoted c))
    go true h = cc
    go false h = refl
body_reads (Class ls) r h = ap class_behind (append_assoc (spelled class_cutter ls) (93 ∷ []) r) ∙ class_closed ls r (class_order ls r h)

body_order : (ps : List BodyPiece) (x : Text) → list_all is_body_piece ps ≡ true → ReadsInOrder body_cutter tt ps (47 ∷ x)
body_order [] x h = refl
body_order (piece ∷ more) x h =
    let (here, behind) = and_parts (is_body_piece piece) (list_all is_body_piece more) h in
    (body_reads piece (spelled body_cutter more ++ (47 ∷ x)) here, body_order more x behind)

pub expression_is_read : ExpressionIsRead
expression_is_read ps text h =
    ap expression_behind (append_assoc (spelled body_cutter ps) (47 ∷ []) text) ∙ closed ps text (body_order ps text h)

body_form : (piece : BodyPiece) (r : Text) → body_piece (body_piece_text piece ++ r) ≡ Some piece → is_body_piece piece ≡ true
body_form (Single (Bare c)) r h = go (c == 47) (c == 92) (c == 91) (is_line_terminator c) h
  where
    no_quote : (o : Option Letter) → quoted r ≡ o → single o ≡ Some (Single (Bare c)) → ⊥
    no_quote None e h = cc
    no_quote (Some letter) e h = let same : Single letter ≡ Single (Bare c) = cc in let plain : letter ≡ Bare c = cc in not_bare r c (e ∙ ap Some plain)

    go : (x y z w : Bool) → body_piece_of (cond x BodyStop (cond y BodyBackslash (cond z Bracket (cond w BodyStop BodyItself)))) c r ≡ Some (Single (Bare c))
        → not (((x || y) || z) || w) ≡ true
    go true y z w h = cc
    go false true z w h = absurd (no_quote (quoted r) refl h)
    go false false true w h = let (ls, e, found) = class_found r (Single (Bare c)) h in cc
    go false false false true h = cc
    go false false false false h = refl
body_form (Single (Quoted c)) r h = go (is_line_terminator c) h
  where
    go : (x : Bool) → single (cond x None (Some (Quoted c))) ≡ Some (Single (Quoted c)) → not x ≡ true
    go true h = cc
    go false h = refl
body_form (Class ls) r h =
    let (ms, e, found) = class_found ((spelled class_cutter ls ++ (93 ∷ [])) ++ r) (Class ls) h in
    let same : ms ≡ ls = cc in
    ap (list_all is_class_letter) (sym same) ∙ class_forms ms (93 ∷ found.0) found.2

body_forms : (ps : List BodyPiece) (rest : Text) → ReadsInOrder body_cutter tt ps rest → list_all is_body_piece ps ≡ true
body_forms [] rest h = refl
body_forms (piece ∷ more) rest h = rw (body_form piece (spelled body_cutter more ++ rest) h.0) (body_forms more rest h.1)

expression_forms : (text : Text) → list_all is_body_piece (pieces body_cutter tt text) ≡ true
expression_forms text = body_forms (pieces body_cutter tt text) (cut body_cutter body_is_cutter tt text).0 (cut body_cutter body_is_cutter tt text).2

-- no line terminators

abbrev breaks : Text → Bool
breaks text = list_any is_line_terminator text

has_append : (a b : Text) → breaks a ≡ false → breaks b ≡ false → breaks (a ++ b) ≡ false
has_append [] b h k = k
has_append (c ∷ cs) b h k = go (is_line_terminator c) h (λ e. has_append cs b e k)
  where
    go : (x : Bool) → (x || breaks cs) ≡ false → (breaks cs ≡ false → breaks (cs ++ b) ≡ false) → (x || breaks (cs ++ b)) ≡ false
    go true h more = cc
    go false h more = more h

last_false : (x y : Bool) → not (x || y) ≡ true → y ≡ false
last_false true y h = cc
last_false false true h = cc
last_false false false h = refl

not_false : (x : Bool) → not x ≡ true → (x || false) ≡ false
not_false true h = cc
not_false false h = refl

quoted_line : (c : ℕ) → not (is_line_terminator c) ≡ true → breaks (letter_text (Quoted c)) ≡ false
unfolding is_line_terminator
quoted_line c h = not_false (is_line_terminator c) h

bracketed_lines : (text : Text) → breaks text ≡ false → breaks (91 ∷ (text ++ (93 ∷ []))) ≡ false
unfolding is_line_terminator
bracketed_lines text h = has_append text (93 ∷ []) h refl

pub class_lines : (ls : List Letter) → list_all is_class_letter ls ≡ true → breaks (spelled class_cutter ls) ≡ false
class_lines [] h = refl
class_lines (letter ∷ more) h =
    let (here, behind) = and_parts (is_class_letter letter) (list_all is_class_letter more) h in
    has_append (letter_text letter) (spelled class_cutter more) (one letter here) (class_lines more behind)
  where
    one : (letter : Letter) → is_class_letter letter ≡ true → breaks (letter_text letter) ≡ false
    one (Bare c) h = rw (last_false (c == 93 || c == 92) (is_line_terminator c) h)
    one (Quoted c) h = quoted_line c h

body_lines : (ps : List BodyPiece) → list_all is_body_piece ps ≡ true → breaks (spelled body_cutter ps) ≡ false
body_lines [] h = refl
body_lines (piece ∷ more) h =
    let (here, behind) = and_parts (is_body_piece piece) (list_all is_body_piece more) h in
    has_append (body_piece_text piece) (spelled body_cutter more) (one piece here) (body_lines more behind)
  where
    one : (piece : BodyPiece) → is_body_piece piece ≡ true → breaks (body_piece_text piece) ≡ false
    one (Single (Bare c)) h = rw (last_false ((c == 47 || c == 92) || c == 91) (is_line_terminator c) h)
    one (Single (Quoted c)) h = quoted_line c h
    one (Class ls) h = bracketed_lines (spelled class_cutter ls) (class_lines ls h)

pub expression_is_pieces : ExpressionIsPieces
expression_is_pieces text = (expression_forms text, body_lines (body_pieces text) (expression_forms text))
