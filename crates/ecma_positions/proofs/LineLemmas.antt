-- The lines of a text, and of what stands before a place.
use Rattle.std.proofs.Common.{◌≡◌, ◌∙◌, ◌+◌, ◌-◌, ◌<◌, ◌≤◌, ℕ, zero, suc, Bool, true, false, List, [], ◌∷◌, ◌++◌, length, take, drop, nat_le, nat_eq, refl, ap, sym, subst, if◌then◌else◌, get_or, not, count_by, arith}
use Rattle.std.specs.List.{prefix_len, suffix_len}
use Rattle.std.specs.List.Sorted.{IsNonDecreasingBy}
use Rattle.std.proofs.lemmas.Bool.Decides.{nat_tests}
use Rattle.std.proofs.lemmas.List.{append-nil, get_or_append_left, length-append, length-take, take-append-drop, take_all, take_more}
use Rattle.std.proofs.lemmas.List.Sums.{count_by_more_no, count_by_more_yes, prefix_len_is, suffix_len-take_no, suffix_len-take_yes}
use Rattle.ecma_positions.specs.Positions.{is_line_feed, last_line, line_starts, line_starts_behind, position_behind}
use Rattle.ecma_positions.specs.declared.position.Position.{Position}

-- Texts one behind the other

joined : (b : Bool) (place : ℕ) (front back whole : List ℕ) → whole ≡ front ++ back → (if b then place ∷ whole else whole) ≡ (if b then place ∷ front else front) ++ back
joined true place front back whole e = ap (λ l. place ∷ l) e
joined false place front back whole e = e

pub starts-joined : (before : ℕ) (xs ys : List ℕ) → line_starts_behind before (xs ++ ys) ≡ line_starts_behind before xs ++ line_starts_behind (before + length xs) ys
starts-joined before [] ys = let same : before ≡ before + 0 = omega arith in ap (λ n. line_starts_behind n ys) same
starts-joined before (x ∷ xs) ys =
    let on : before + 1 + length xs ≡ before + length (x ∷ xs) = omega arith in
    joined (nat_eq x 10) (before + 1) (line_starts_behind (before + 1) xs) (line_starts_behind (before + length (x ∷ xs)) ys) (line_starts_behind (before + 1) (xs ++ ys))
    (starts-joined (before + 1) xs ys ∙ ap (λ n. line_starts_behind (before + 1) xs ++ line_starts_behind n ys) on)

-- one byte more
pub next-start : (bytes : List ℕ) (i d : ℕ) (b : Bool) → i < length bytes → nat_eq (get_or bytes i d) 10 ≡ b → line_starts (take (i + 1) bytes) ≡ line_starts (take i bytes) ++ (if b then (i + 1) ∷ [] else [])
next-start bytes i d b inside e =
    let long : 0 + length (take i bytes) ≡ i = omega (arith, length-take i bytes) in
    ap (λ l. line_starts_behind 0 l) (take_more bytes i d inside)
    ∙ starts-joined 0 (take i bytes) (get_or bytes i d ∷ [])
    ∙ ap (λ n. line_starts (take i bytes) ++ line_starts_behind n (get_or bytes i d ∷ [])) long
    ∙ ap (λ t. line_starts (take i bytes) ++ (if t then (i + 1) ∷ [] else [])) e

-- In order

abbrev Above : ℕ → List ℕ → Type 0
Above n xs = (j d : ℕ) → j < length xs → n < get_or xs j d

above-fork : (b : Bool) (n : ℕ) (xs : List ℕ) → Above (n + 1) xs → Above n (if b then (n + 1) ∷ xs else xs)
above-fork true n xs above zero d inside = omega arith
above-fork true n xs above (suc j) d inside = omega (arith, above j d (omega arith))
above-fork false n xs above j d inside = omega (arith, above j d inside)

above : (before : ℕ) (bytes : List ℕ) → Above before (line_starts_behind before bytes)
above before [] j d inside = omega arith
above before (byte ∷ bytes) j d inside = above-fork (nat_eq byte 10) before (line_starts_behind (before + 1) bytes) (above (before + 1) bytes) j d inside

rising-fork : (b : Bool) (n : ℕ) (xs : List ℕ) → Above n xs → IsNonDecreasingBy (λ x. x) xs → IsNonDecreasingBy (λ x. x) (if b then n ∷ xs else xs)
rising-fork true n xs over up zero zero d le inside = omega arith
rising-fork true n xs over up zero (suc j) d le inside = omega (arith, over j d (omega arith))
rising-fork true n xs over up (suc i) zero d le inside = omega arith
rising-fork true n xs over up (suc i) (suc j) d le inside = up i j d (omega arith) (omega arith)
rising-fork false n xs over up i j d le inside = up i j d le inside

pub rising : (before : ℕ) (bytes : List ℕ) → IsNonDecreasingBy (λ x. x) (line_starts_behind before bytes)
rising before [] i j d le inside = omega arith
rising before (byte ∷ bytes) i j d le inside = rising-fork (nat_eq byte 10) (before + 1) (line_starts_behind (before + 1) bytes) (above (before + 1) bytes) (rising (before + 1) bytes) i j d le inside

-- Those up to a place

none-fork : (b : Bool) (most n : ℕ) (xs : List ℕ) → most ≤ n → prefix_len (λ s. nat_le s most) xs ≡ 0 → prefix_len (λ s. nat_le s most) (if b then (n + 1) ∷ xs else xs) ≡ 0
none-fork true most n xs le none = let past : nat_le (n + 1) most ≡ false = grind (arith, nat_tests) in rw past refl
none-fork false most n xs le none = none

none-up-to : (most before : ℕ) (bytes : List ℕ) → most ≤ before → prefix_len (λ s. nat_le s most) (line_starts_behind before bytes) ≡ 0
none-up-to most before [] le = refl
none-up-to most before (byte ∷ bytes) le = none-fork (nat_eq byte 10) most before (line_starts_behind (before + 1) bytes) le (none-up-to most (before + 1) bytes (omega arith))

up-to-fork : (b : Bool) (most n : ℕ) (xs ys : List ℕ) → n ≤ most → prefix_len (λ s. nat_le s most) xs ≡ length ys → prefix_len (λ s. nat_le s most) (if b then n ∷ xs else xs) ≡ length (if b then n ∷ ys else ys)
up-to-fork true most n xs ys le same = let within : nat_le n most ≡ true = grind (arith, nat_tests) in rw (within, same) (omega arith)
up-to-fork false most n xs ys le same = same

pub up-to : (before k : ℕ) (bytes : List ℕ) → prefix_len (λ s. nat_le s (before + k)) (line_starts_behind before bytes) ≡ length (line_starts_behind before (take k bytes))
up-to before zero [] = refl
up-to before (suc k) [] = refl
up-to before zero (byte ∷ bytes) = none-up-to (before + 0) before (byte ∷ bytes) (omega arith)
up-to before (suc k) (byte ∷ bytes) =
    let on : before + 1 + k ≡ before + suc k = omega arith in
    up-to-fork (nat_eq byte 10) (before + suc k) (before + 1) (line_starts_behind (before + 1) bytes) (line_starts_behind (before + 1) (take k bytes)) (omega arith)
    (ap (λ n. prefix_len (λ s. nat_le s n) (line_starts_behind (before + 1) bytes)) (sym on) ∙ up-to (before + 1) k bytes)

is_le : (a b : ℕ) → a ≤ b → nat_le a b ≡ true
is_le a b le = grind (arith, nat_tests)

-- a line that begins at or before the place, where the next one begins behind it
pub counted-near : (bytes starts : List ℕ) (place near : ℕ) → starts ≡ line_starts bytes → 0 < near → near < length starts → get_or starts (near - 1) 0 ≤ place → place < get_or starts near 0
    → near ≡ length (line_starts (take place bytes))
counted-near bytes starts place near shows some within begun later =
    let up : IsNonDecreasingBy (λ x. x) starts = subst (IsNonDecreasingBy (λ x. x)) (sym shows) (rising 0 bytes) in
    let before : (k : ℕ) → k < near → nat_le (get_or starts k 0) place ≡ true = λ k l. is_le (get_or starts k 0) place (omega (arith, up k (near - 1) 0 (omega arith) (omega arith))) in
    let behind : nat_le (get_or starts near 0) place ≡ false = grind (arith, nat_tests) in
    let place_is : place ≡ 0 + place = omega arith in
    sym (prefix_len_is (λ s. nat_le s place) starts near 0 (omega arith) before (λ _. behind))
    ∙ ap (prefix_len (λ s. nat_le s place)) shows
    ∙ ap (λ n. prefix_len (λ s. nat_le s n) (line_starts bytes)) place_is
    ∙ up-to 0 place bytes

-- The last of them

abbrev pub last_start : List ℕ → ℕ
last_start [] = 0
last_start (start ∷ []) = start
last_start (start ∷ next ∷ starts) = last_start (next ∷ starts)

last-push : (xs : List ℕ) (x : ℕ) → last_start (xs ++ x ∷ []) ≡ x
last-push [] x = refl
last-push (y ∷ []) x = refl
last-push (y ∷ z ∷ xs) x = last-push (z ∷ xs) x

last-is : (xs : List ℕ) (d : ℕ) → 0 < length xs → get_or xs (length xs - 1) d ≡ last_start xs
last-is [] d some = omega arith
last-is (x ∷ []) d some = refl
last-is (x ∷ y ∷ xs) d some =
    let on : suc (length (y ∷ xs) - 1) ≡ length (x ∷ y ∷ xs) - 1 = omega arith in
    ap (λ n. get_or (x ∷ y ∷ xs) n d) (sym on) ∙ last-is (y ∷ xs) d (omega arith)

pub last-before : (bytes : List ℕ) (k d : ℕ) → 0 < length (line_starts (take k bytes)) → get_or (line_starts bytes) (length (line_starts (take k bytes)) - 1) d ≡ last_start (line_starts (take k bytes))
last-before bytes k d some =
    let front = line_starts (take k bytes) in
    let back = line_starts_behind (0 + length (take k bytes)) (drop k bytes) in
    ap (λ l. get_or l (length front - 1) d) (ap (λ l. line_starts_behind 0 l) (sym (take-append-drop k bytes)) ∙ starts-joined 0 (take k bytes) (drop k bytes))
    ∙ get_or_append_left front back d (length front - 1) (omega arith)
    ∙ last-is front d some

-- no line begins behind the first one
pub last-none : (xs : List ℕ) → length xs ≡ 0 → last_start xs ≡ 0
last-none [] none = refl
last-none (x ∷ xs) none = omega (arith, none)

-- As many as there are line feeds, and where the last line begins

abbrev Tells : List ℕ → Type 0
Tells bytes = (length (line_starts bytes) ≡ count_by is_line_feed bytes) × (last_start (line_starts bytes) ≤ length bytes) × (suffix_len (λ byte. not (is_line_feed byte)) bytes ≡ length bytes - last_start (line_starts bytes))

next-tells : (bytes : List ℕ) (i d : ℕ) (b : Bool) → i < length bytes → is_line_feed (get_or bytes i d) ≡ b → Tells (take i bytes) → Tells (take (i + 1) bytes)
next-tells bytes i d true inside e (counted, within, behind) =
    let next = next-start bytes i d true inside e in
    let last : last_start (line_starts (take (i + 1) bytes)) ≡ i + 1 = ap last_start next ∙ last-push (line_starts (take i bytes)) (i + 1) in
    let long = length-take (i + 1) bytes in
    let same : i + 1 - 1 ≡ i = omega arith in
    let fails : not (is_line_feed (get_or bytes (i + 1 - 1) d)) ≡ false = ap (λ n. not (is_line_feed (get_or bytes n d))) same ∙ ap not e in (
      omega (arith, ap length next, length-append (line_starts (take i bytes)) ((i + 1) ∷ []), counted, count_by_more_yes is_line_feed bytes i d inside e),
      omega (arith, last, long, inside),
      omega (arith, suffix_len-take_no (λ byte. not (is_line_feed byte)) bytes (i + 1) d (omega arith) (omega arith) fails, last, long, inside),
    )
next-tells bytes i d false inside e (counted, within, behind) =
    let next = next-start bytes i d false inside e ∙ append-nil (line_starts (take i bytes)) in
    let last : last_start (line_starts (take (i + 1) bytes)) ≡ last_start (line_starts (take i bytes)) = ap last_start next in
    let long = length-take (i + 1) bytes in
    let short = length-take i bytes in
    let same : i + 1 - 1 ≡ i = omega arith in
    let passes : not (is_line_feed (get_or bytes (i + 1 - 1) d)) ≡ true = ap (λ n. not (is_line_feed (get_or bytes n d))) same ∙ ap not e in
    let one = suffix_len-take_yes (λ byte. not (is_line_feed byte)) bytes (i + 1) d (omega arith) (omega arith) passes ∙ ap (λ n. 1 + suffix_len (λ byte. not (is_line_feed byte)) (take n bytes)) same in (
      ap length next ∙ counted ∙ sym (count_by_more_no is_line_feed bytes i d inside e),
      omega (arith, last, long, short, within, inside),
      omega (arith, one, behind, last, long, short, within, inside),
    )

first-tell : (bytes : List ℕ) (k : ℕ) → k ≤ length bytes → Tells (take k bytes)
first-tell bytes zero le = (refl, omega arith, refl)
first-tell bytes (suc k) le =
    let on : k + 1 ≡ suc k = omega arith in
    subst (λ n. Tells (take n bytes)) on (next-tells bytes k 0 (is_line_feed (get_or bytes k 0)) (omega arith) refl (first-tell bytes k (omega arith)))

starts-tell : (bytes : List ℕ) → Tells bytes
starts-tell bytes = subst Tells (take_all (length bytes) bytes (omega arith)) (first-tell bytes (length bytes) (omega arith))

abbrev made : ℕ → ℕ → Position
made count column = record { line = count + 1; column = column + 1 }

pub position-is : (before : List ℕ) (place count start column : ℕ) → count ≡ length (line_starts before) → start ≡ last_start (line_starts before) → column ≡ place - start → record { line = count + 1; column = column + 1 } ≡ position_behind before place
position-is before place count start column counted begins reckoned =
    let told = starts-tell before in
    let line : start ≡ last_line before = omega (arith, begins, told.1, told.2) in
    ap (λ n. made n column) (counted ∙ told.0) ∙ ap (made (count_by is_line_feed before)) (reckoned ∙ ap (λ s. place - s) line)
