-- Pieces with trivia between them tile a text.
use Rattle.std.proofs.Common.{◌≡◌, ◌∙◌, ℕ, ◌+◌, ◌-◌, ◌<◌, ◌≤◌, false, List, [], ◌∷◌, ◌++◌, inl, inr, ⊎_elim, refl, sym, subst, ap, arith, drop, length, lt-ltb, le-ltb, take}
use Rattle.std.specs.Prelude.{nat_lt, slice_range}
use Rattle.std.specs.List.{All}
use Rattle.std.proofs.lemmas.Bool.{and_left, cases_lt, cond-false, cond-true}
use Rattle.std.proofs.lemmas.List.{append-nil, drop-drop, take_all}
use Rattle.std.proofs.lemmas.List.Elements.{All-cons, All-nil}
use Rattle.std.proofs.Math.Seq.{take-add}
use Rattle.ecma_place.specs.Cursor.{Cursor, HasPlace}
use Rattle.ecma_classes.specs.Classes.{StandsIn, Tile, TriviaStandsAlone, is_trivia, joined, over, pieces_over, span_between, with_trivia}
use Rattle.ecma_classes.specs.declared.piece.Class.TheVariants.{Trivia}
use Rattle.ecma_classes.specs.declared.piece.Piece.{Piece}
use Rattle.ecma_classes.proofs.MemberLemmas.{IsIn}
use Rattle.ecma_classes.proofs.WalkLemmas.{LieBetween}

-- trivia from one place up to another is one piece, or none
trivia-is : (low high : ℕ) → low < high → pieces_over Trivia (span_between low high) ≡ over Trivia (span_between low high) ∷ []
trivia-is low high h = cond-true (nat_lt low high) (over Trivia (span_between low high) ∷ []) [] (lt-ltb low high h)

trivia-none : (low high : ℕ) → high ≤ low → pieces_over Trivia (span_between low high) ≡ []
trivia-none low high h = cond-false (nat_lt low high) (over Trivia (span_between low high) ∷ []) [] (le-ltb low high h)

-- trivia in front of pieces that tile what is behind it
pub tile-behind : (low mid : ℕ) (ps : List Piece) (high : ℕ) → low ≤ mid → Tile mid ps high → Tile low (pieces_over Trivia (span_between low mid) ++ ps) high
tile-behind low mid ps high le tiles = ⊎_elim
    (λ less. subst (λ l. Tile low (l ++ ps) high) (sym (trivia-is low mid less)) (refl, less, tiles))
    (λ more. let same : mid ≡ low = omega arith in subst (λ l. Tile low (l ++ ps) high) (sym (trivia-none low mid more)) (subst (λ n. Tile n ps high) same tiles))
    (cases_lt low mid)

pub tiles : (low : ℕ) (zs : List Piece) (high : ℕ) → LieBetween low zs high → Tile low (with_trivia low zs high) high
tiles low [] high lie = subst (λ l. Tile low l high) (append-nil (pieces_over Trivia (span_between low high))) (tile-behind low high [] high lie refl)
tiles low (z ∷ zs) high lie = tile-behind low z.span.lo.0 (z ∷ with_trivia z.span.hi.0 zs high) high lie.0 (refl, lie.1, tiles z.span.hi.0 zs high lie.2)

pub tile-le : (low : ℕ) (ps : List Piece) (high : ℕ) → Tile low ps high → low ≤ high
tile-le low [] high e = omega arith
tile-le low (p ∷ ps) high t = let behind = tile-le p.span.hi.0 ps high t.2 in let own = t.1 in omega arith

-- no piece tiles nothing
pub tile-none : (low : ℕ) (ps : List Piece) → Tile low ps low → ps ≡ []
tile-none low [] t = refl
tile-none low (p ∷ ps) t = let behind = tile-le p.span.hi.0 ps low t.2 in let own = t.1 in absurd (omega arith)

-- two parts of a list, one behind the other
two-parts : (t : List ℕ) (a b c : ℕ) → a ≤ b → b ≤ c → slice_range t a b ++ slice_range t b c ≡ slice_range t a c
two-parts t a b c first second =
    let at : a + (b - a) ≡ b = omega arith in
    let long : (b - a) + (c - b) ≡ c - a = omega arith in
    ap (λ l. take (b - a) (drop a t) ++ take (c - b) l) (ap (λ n. drop n t) (sym at) ∙ sym (drop-drop (b - a) a t))
    ∙ sym (take-add (b - a) (c - b) (drop a t)) ∙ ap (λ n. take n (drop a t)) long

nothing-at : (t : List ℕ) (a b : ℕ) → a ≡ b → [] ≡ slice_range t a b
nothing-at t a b e = let none : b - a ≡ 0 = omega arith in sym (ap (λ n. take n (drop a t)) none)

pub joined-is : (start : ℕ) (text : List ℕ) (low : ℕ) (ps : List Piece) (high : ℕ) → start ≤ low → Tile low ps high → joined start text ps ≡ slice_range text (low - start) (high - start)
joined-is start text low [] high le e = nothing-at text (low - start) (high - start) (ap (λ n. n - start) e)
joined-is start text low (p ∷ ps) high le t =
    let from : p.span.lo.0 - start ≡ low - start = ap (λ n. n - start) t.0 in
    let own = t.1 in
    let behind = tile-le p.span.hi.0 ps high t.2 in
    ap (λ l. slice_range text (p.span.lo.0 - start) (p.span.hi.0 - start) ++ l) (joined-is start text p.span.hi.0 ps high (omega arith) t.2)
    ∙ ap (λ n. slice_range text n (p.span.hi.0 - start) ++ slice_range text (p.span.hi.0 - start) (high - start)) from
    ∙ two-parts text (low - start) (p.span.hi.0 - start) (high - start) (omega arith) (omega arith)

-- pieces that tile a text are all of it
pub joined_whole : (start : ℕ) (text : List ℕ) (ps : List Piece) → Tile start ps (start + length text) → joined start text ps ≡ text
joined_whole start text ps t =
    let none : start - start ≡ 0 = omega arith in
    let all : (start + length text) - start ≡ length text = omega arith in
    joined-is start text start ps (start + length text) (omega arith) t
    ∙ ap (λ n. slice_range text n ((start + length text) - start)) none
    ∙ ap (λ n. take (n - 0) text) all ∙ take_all (length text - 0) text (omega arith)

-- where pieces stand in a text, trivia between them does

trivia-stands : (c : Cursor) (low high : ℕ) (ps : List Piece) → low ≤ high → HasPlace c low → HasPlace c high → All (λ (p : Piece). StandsIn c p.span) ps
    → All (λ (p : Piece). StandsIn c p.span) (pieces_over Trivia (span_between low high) ++ ps)
trivia-stands c low high ps le from to behind = ⊎_elim
    (λ less. subst
    (λ l. All (λ (p : Piece). StandsIn c p.span) (l ++ ps))
    (sym (trivia-is low high less))
    (All-cons (λ (p : Piece). StandsIn c p.span) (over Trivia (span_between low high)) ps (record { from = from; to = to; in_order = le }) behind))
    (λ more. subst (λ l. All (λ (p : Piece). StandsIn c p.span) (l ++ ps)) (sym (trivia-none low high more)) behind)
    (cases_lt low high)

pub pieces_stand : (c : Cursor) (low : ℕ) (zs : List Piece) (high : ℕ) → HasPlace c low → HasPlace c high → LieBetween low zs high → ((z : Piece) → IsIn z zs → StandsIn c z.span)
    → All (λ (p : Piece). StandsIn c p.span) (with_trivia low zs high)
pieces_stand c low [] high from to lie stand =
    subst (All (λ (p : Piece). StandsIn c p.span)) (append-nil (pieces_over Trivia (span_between low high))) (trivia-stands c low high [] lie from to (All-nil (λ (p : Piece). StandsIn c p.span)))
pieces_stand c low (z ∷ zs) high from to lie stand =
    let own = stand z (inl refl) in
    trivia-stands c low z.span.lo.0 (z ∷ with_trivia z.span.hi.0 zs high) lie.0 from own.from
    (All-cons (λ (p : Piece). StandsIn c p.span) z (with_trivia z.span.hi.0 zs high) own (pieces_stand c z.span.hi.0 zs high own.to to lie.2 (λ w i. stand w (inr i))))

-- trivia stands alone between other pieces

alone-behind : (z : Piece) (ps : List Piece) → is_trivia z.class ≡ false → TriviaStandsAlone ps → TriviaStandsAlone (z ∷ ps)
alone-behind z [] marked rest = tt
alone-behind z (p ∷ ps) marked rest = (and_left (is_trivia z.class) (is_trivia p.class) marked, rest)

alone-before : (low high : ℕ) (z : Piece) (ps : List Piece) → is_trivia z.class ≡ false → TriviaStandsAlone (z ∷ ps) → TriviaStandsAlone (pieces_over Trivia (span_between low high) ++ (z ∷ ps))
alone-before low high z ps marked rest = ⊎_elim
    (λ less. subst (λ l. TriviaStandsAlone (l ++ (z ∷ ps))) (sym (trivia-is low high less)) (marked, rest))
    (λ more. subst (λ l. TriviaStandsAlone (l ++ (z ∷ ps))) (sym (trivia-none low high more)) rest)
    (cases_lt low high)

alone-itself : (low high : ℕ) → TriviaStandsAlone (pieces_over Trivia (span_between low high))
alone-itself low high = ⊎_elim (λ less. subst TriviaStandsAlone (sym (trivia-is low high less)) tt) (λ more. subst TriviaStandsAlone (sym (trivia-none low high more)) tt) (cases_lt low high)

pub trivia_alone : (low : ℕ) (zs : List Piece) (high : ℕ) → ((z : Piece) → IsIn z zs → is_trivia z.class ≡ false) → TriviaStandsAlone (with_trivia low zs high)
trivia_alone low [] high marked = alone-itself low high
trivia_alone low (z ∷ zs) high marked =
    alone-before low z.span.lo.0 z (with_trivia z.span.hi.0 zs high) (marked z (inl refl))
    (alone-behind z (with_trivia z.span.hi.0 zs high) (marked z (inl refl)) (trivia_alone z.span.hi.0 zs high (λ w i. marked w (inr i))))
