-- Classes that are taken, one for each token.
use Rattle.std.proofs.Common.{◌≡◌, ◌∙◌, ℕ, ◌+◌, ◌<◌, ◌≤◌, List, Option, add-one, length, drop, drop-cons, drop-drop, drop_of_length-le, get_or, map, ◌∷◌, refl, sym, ap}
use Rattle.ecma_classes.specs.declared.piece.Class as piece
use Rattle.ecma_classes.specs.declared.piece.Class.TheVariants as pieces
use Rattle.ecma_classes.specs.declared.piece.Piece.{Piece}
use Rattle.ecma_styles.specs.declared.«class».Class.{Class}
use Rattle.ecma_styles.specs.Styles.{left_classes, piece_class, style_of, styled}

-- one class more is taken, while there is one

pub one-taken : (cs : List (Option Class)) (n : ℕ) → drop (n + 1) cs ≡ drop 1 (drop n cs)
one-taken cs n = sym (drop-drop 1 n cs)

pub none-taken : (kind : piece.Class) (cs : List (Option Class)) (n : ℕ) → length cs ≤ n → drop n cs ≡ left_classes kind (drop n cs)
none-taken pieces.Token cs n h = let none = drop_of_length-le cs h in none ∙ ap (drop 1) (sym none)
none-taken pieces.Comment cs n h = refl
none-taken pieces.Trivia cs n h = refl

-- one piece more

left-of : (ps : List Piece) (i : ℕ) (d : Piece) → i < length ps → drop i ps ≡ get_or ps i d ∷ drop (i + 1) ps
left-of ps i d h = rw (add-one, drop-cons ps i d) refl

pub item-style : (classes left : List (Option Class)) (ps : List Piece) (i : ℕ) (d : Piece) → i < length ps → left ≡ left_classes (get_or ps i d).class classes
    → map style_of (styled classes (drop i ps)) ≡ piece_class (get_or ps i d).class classes ∷ map style_of (styled left (drop (i + 1) ps))
item-style classes left ps i d h is =
    let p : Piece = get_or ps i d in
    ap (λ qs. map style_of (styled classes qs)) (left-of ps i d h) ∙ ap (λ cs. piece_class p.class classes ∷ map style_of (styled cs (drop (i + 1) ps))) (sym is)
