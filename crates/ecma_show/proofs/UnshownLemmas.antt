-- What is no text is taken away again.
use Rattle.std.proofs.Common.{◌≡◌, ◌∙◌, ℕ, zero, suc, ◌+◌, ◌-◌, ◌<◌, ◌≤◌, ◌^◌, Bool, true, false, cond, ◌==◌, ◌&&◌, List, [], ◌∷◌, ◌++◌, append_assoc, append-nil, Option, Some, None, length, refl, sym, subst, ap, arith}
use Rattle.std.specs.Prelude.{codes, decimal, flat_map, fold, nat_le, nat_lt, replicate, slice_index, slice_range}
use Rattle.std.specs.Str.Parse.{AllDigits}
use Rattle.std.proofs.lemmas.Fmt.{decimal_is_IsNumeral}
use Rattle.std.proofs.lemmas.Str.Parse.{digit_from_value}
use Rattle.std.specs.String.{string_bytes}
use Rattle.std.proofs.lemmas.Bool.{eqb-true, ne_eqb}
use Rattle.std.proofs.lemmas.Bool.Decides.{nat_tests}
use Rattle.std.proofs.lemmas.List.Sums.{fold-append}
use Rattle.ecma_show.specs.declared.colour.Colour.{Colour}
use Rattle.ecma_show.specs.declared.colour.Colour.TheVariants.{Red, Green, Yellow, Blue, Magenta, Cyan, Grey}
use Rattle.ecma_show.specs.declared.frame.Frame.{Frame}
use Rattle.ecma_show.specs.declared.mark.Mark.{Mark}
use Rattle.ecma_show.specs.declared.paint.Part.{Part}
use Rattle.ecma_show.specs.Colours.{set, set_any, unset, unset_any}
use Rattle.ecma_show.specs.Painted.{colour_of, each_behind, goes_on, joined, last_of, lead, painted, painted_behind, painted_byte, painted_bytes, painted_part, part_of, shown, shown_alone, shown_byte, shown_led}
use Rattle.ecma_show.specs.Shown.{all_marks, bar, before, below_span, blank, caret_byte, carets, column_text, line_part, lines_of, margin, mark_colour, mark_line, marks_at, marks_behind, message_byte, message_text, most, numbered, pad, pad_byte, pointer}
use Rattle.ecma_show.specs.Unshown.{Begin, Number, Bar, Inside, Sequence, Marks, Place, Unshown, at, read_byte, unshown}

-- Lines of marks

-- bytes of such a line that are passed over
abbrev Silent : List ℕ → Type 0
Silent xs = (t : List ℕ) → fold read_byte (at Marks t) xs ≡ at Marks t

silent-append : (xs ys : List ℕ) → Silent xs → Silent ys → Silent (xs ++ ys)
silent-append xs ys hx hy t = fold-append read_byte (at Marks t) xs ys ∙ ap (λ u. fold read_byte u ys) (hx t) ∙ hy t

silent-byte : (b : ℕ) → (b == 10) ≡ false → Silent (b ∷ [])
silent-byte b other t = ap (λ x. cond x (at Begin t) (at Marks t)) other

silent-cons : (b : ℕ) (bs : List ℕ) → (b == 10) ≡ false → Silent bs → Silent (b ∷ bs)
silent-cons b bs other rest = silent-append (b ∷ []) bs (silent-byte b other) rest

silent-map : (f : ℕ → List ℕ) → ((b : ℕ) → Silent (f b)) → (bs : List ℕ) → Silent (flat_map f bs)
silent-map f each [] t = refl
silent-map f each (b ∷ bs) t = silent-append (f b) (flat_map f bs) (each b) (silent-map f each bs) t

silent-each : (f : ℕ → ℕ → List ℕ) → ((a b : ℕ) → Silent (f a b)) → (a : ℕ) (bs : List ℕ) → Silent (each_behind f a bs)
silent-each f each a [] t = refl
silent-each f each a (b ∷ bs) t = silent-append (f a b) (each_behind f b bs) (each a b) (silent-each f each b bs) t

silent-spaces : (n : ℕ) → Silent (replicate n 32)
silent-spaces zero t = refl
silent-spaces (suc n) t = silent-spaces n t

silent-set : (c : Colour) → Silent (set c)
silent-set Red t = refl
silent-set Green t = refl
silent-set Yellow t = refl
silent-set Blue t = refl
silent-set Magenta t = refl
silent-set Cyan t = refl
silent-set Grey t = refl

silent-colour : (x : Bool) → Silent (set_any (mark_colour x)) × Silent (unset_any (mark_colour x))
silent-colour true = (λ t. refl, λ t. refl)
silent-colour false = (λ t. refl, λ t. refl)

silent-pad : (b : ℕ) → Silent (pad_byte b)
silent-pad b = go (b == 9) (goes_on b)
  where
    go : (x y : Bool) → Silent (cond x (9 ∷ []) (cond y [] (32 ∷ [])))
    go true y t = refl
    go false true t = refl
    go false false t = refl

silent-caret : (b : ℕ) → Silent (caret_byte b)
silent-caret b = go (goes_on b)
  where
    go : (x : Bool) → Silent (cond x [] (94 ∷ []))
    go true t = refl
    go false t = refl

-- Bytes that end no line and begin no sequence

abbrev Plain : List ℕ → Type 0
Plain [] = Unit {0}
Plain (b ∷ bs) = ((b == 10) ≡ false) × ((b == 27) ≡ false) × Plain bs

plain-byte : (b : ℕ) → ¬ (b ≡ 10) → ¬ (b ≡ 27) → ((b == 10) ≡ false) × ((b == 27) ≡ false)
plain-byte b feed escape = (ne_eqb b 10 feed, ne_eqb b 27 escape)

plain-alone : (b : ℕ) → (b == 10) ≡ false → Plain (shown_alone b)
plain-alone b other = rw other (go (b == 9) (nat_lt b 32) refl (b == 127) (b == lead))
  where
    go : (x y : Bool) → nat_lt b 32 ≡ y → (z w : Bool) → Plain (cond x (9 ∷ []) (cond y (226 ∷ (144 ∷ ((128 + b) ∷ []))) (cond z (226 ∷ (144 ∷ (161 ∷ []))) (cond w [] (b ∷ [])))))
    go true y e z w = (refl, refl, tt)
    go false true e z w = let last = plain-byte (128 + b) (λ h. absurd (omega (arith, h))) (λ h. absurd (omega (arith, h))) in (refl, refl, (refl, refl, (last.0, last.1, tt)))
    go false false e true w = (refl, refl, (refl, refl, (refl, refl, tt)))
    go false false e false true = tt
    go false false e false false = (other, ne_eqb b 27 (λ h. absurd (grind (arith, nat_tests, h, e))), tt)

plain-led : (b : ℕ) → goes_on b ≡ true → Plain (shown_led b)
plain-led b high = go (nat_lt b 160)
  where
    go : (x : Bool) → Plain (cond x (239 ∷ (191 ∷ (189 ∷ []))) (lead ∷ (b ∷ [])))
    go true = (refl, refl, (refl, refl, (refl, refl, tt)))
    go false = let last = plain-byte b (λ h. absurd (grind (arith, nat_tests, h, high))) (λ h. absurd (grind (arith, nat_tests, h, high))) in (refl, refl, (last.0, last.1, tt))

plain-shown : (a b : ℕ) → (b == 10) ≡ false → Plain (shown_byte a b)
plain-shown a b other = go (a == lead) (goes_on b) refl
  where
    go : (x y : Bool) → goes_on b ≡ y → Plain (cond (x && y) (shown_led b) (shown_alone b))
    go true true high = plain-led b high
    go true false high = plain-alone b other
    go false y high = plain-alone b other

-- a line feed is shown as itself
feed-shown : (a : ℕ) → shown_byte a 10 ≡ 10 ∷ []
feed-shown a = go (a == lead)
  where
    go : (x : Bool) → cond (x && false) (shown_led 10) (10 ∷ []) ≡ 10 ∷ []
    go true = refl
    go false = refl

silent-plain : (xs : List ℕ) → Plain xs → Silent xs
silent-plain [] plain t = refl
silent-plain (b ∷ bs) plain t = silent-cons b bs plain.0 (silent-plain bs plain.2) t

silent-message : (a b : ℕ) → Silent (message_byte a b)
silent-message a b = go (b == 10) refl
  where
    go : (x : Bool) → (b == 10) ≡ x → Silent (cond x (32 ∷ []) (shown_byte a b))
    go true e t = refl
    go false e t = silent-plain (shown_byte a b) (plain-shown a b e) t

-- digits

digit-at : (xs : List ℕ) → AllDigits 10 xs → (k : ℕ) → k < length xs → (48 ≤ slice_index xs k) × (slice_index xs k ≤ 57)
digit-at [] digits k lt = absurd (omega arith)
digit-at (x ∷ xs) digits zero lt = let digit = digit_from_value x digits.0 in (omega (arith, digit), omega (arith, digit))
digit-at (x ∷ xs) digits (suc k) lt = digit-at xs digits.1 k (omega arith)

silent-list : (xs : List ℕ) → ((k : ℕ) → k < length xs → (slice_index xs k == 10) ≡ false) → Silent xs
silent-list [] each = λ t. refl
silent-list (x ∷ xs) each = silent-cons x xs (each 0 (omega arith)) (silent-list xs (λ k lt. each (suc k) (omega arith)))

silent-decimal : (n : ℕ) → n < 2 ^ 64 → Silent (decimal n)
silent-decimal n fits = silent-list (decimal n) (λ k lt. let digit = (digit-at (decimal n) (decimal_is_IsNumeral n fits).0.1 k lt).0 in ne_eqb (slice_index (decimal n) k) 10 (λ e. absurd (omega (arith, e, digit))))

-- a mark

silent-below : (bytes : List ℕ) → Silent (carets bytes)
silent-below bytes t = silent-map caret_byte silent-caret (slice_range (line_part bytes) 1 most) t

silent-pointer : (text : List ℕ) (m : Mark) → Silent (pointer text m)
silent-pointer text m = go (nat_le m.column most)
  where
    near : List ℕ
    near = pad (before text m) ++ below_span text m

    go : (x : Bool) → Silent (cond x near (column_text m.column))
    go true = silent-append (pad (before text m)) (below_span text m) (silent-map pad_byte silent-pad (before text m)) (silent-below (slice_range text m.span.lo.0 m.span.hi.0))
    go false = silent-append (codes "column ") (decimal m.column ++ 58 ∷ []) (λ t. refl) (silent-append (decimal m.column) (58 ∷ []) (silent-decimal m.column m.fits) (λ t. refl))

begun-blank : (width : ℕ) (t : List ℕ) → fold read_byte (at Begin t) (blank width) ≡ at Marks t
begun-blank zero t = refl
begun-blank (suc n) t = silent-append (replicate n 32) bar (silent-spaces n) (λ s. refl) t

-- nothing of a line of a mark is text
mark-passed : (text : List ℕ) (frame : Frame) (m : Mark) (t : List ℕ) → fold read_byte (at Begin t) (mark_line text frame m) ≡ at Begin t
mark-passed text frame m t =
    let colour = mark_colour frame.colours in
    let message = message_text (string_bytes m.message) in
    let around = silent-colour frame.colours in
    let parts : mark_line text frame m ≡ blank frame.width ++ ((set_any colour ++ (pointer text m ++ (32 ∷ (message ++ unset_any colour)))) ++ 10 ∷ []) = simp append_assoc in
    let content : Silent (set_any colour ++ (pointer text m ++ (32 ∷ (message ++ unset_any colour)))) =
    silent-append (set_any colour) (pointer text m ++ (32 ∷ (message ++ unset_any colour))) around.0
    (silent-append (pointer text m) (32 ∷ (message ++ unset_any colour)) (silent-pointer text m)
    (silent-cons 32 (message ++ unset_any colour) refl (silent-append message (unset_any colour) (silent-each message_byte silent-message 0 (string_bytes m.message)) around.1))) in
    ap (fold read_byte (at Begin t)) parts
    ∙ fold-append read_byte (at Begin t) (blank frame.width) ((set_any colour ++ (pointer text m ++ (32 ∷ (message ++ unset_any colour)))) ++ 10 ∷ [])
    ∙ ap (λ u. fold read_byte u ((set_any colour ++ (pointer text m ++ (32 ∷ (message ++ unset_any colour)))) ++ 10 ∷ [])) (begun-blank frame.width t)
    ∙ fold-append read_byte (at Marks t) (set_any colour ++ (pointer text m ++ (32 ∷ (message ++ unset_any colour)))) (10 ∷ [])
    ∙ ap (λ u. fold read_byte u (10 ∷ [])) (content t)

all-passed : (text : List ℕ) (frame : Frame) (ms : List Mark) (t : List ℕ) → fold read_byte (at Begin t) (all_marks text frame ms) ≡ at Begin t
all-passed text frame [] t = refl
all-passed text frame (m ∷ ms) t =
    fold-append read_byte (at Begin t) (mark_line text frame m) (all_marks text frame ms) ∙ ap (λ u. fold read_byte u (all_marks text frame ms)) (mark-passed text frame m t) ∙ all-passed text frame ms t

those-passed : (text : List ℕ) (frame : Frame) (n : ℕ) (ms : List Mark) (t : List ℕ) → fold read_byte (at Begin t) (marks_at text frame n ms) ≡ at Begin t
those-passed text frame n [] t = refl
those-passed text frame n (m ∷ ms) t = go (nat_le m.line n) (those-passed text frame n ms t)
  where
    go : (x : Bool) → fold read_byte (at Begin t) (marks_at text frame n ms) ≡ at Begin t → fold read_byte (at Begin t) (cond x (mark_line text frame m ++ marks_at text frame n ms) []) ≡ at Begin t
    go true rest = fold-append read_byte (at Begin t) (mark_line text frame m) (marks_at text frame n ms) ∙ ap (λ u. fold read_byte u (marks_at text frame n ms)) (mark-passed text frame m t) ∙ rest
    go false rest = refl

-- Margins

-- bytes of a number
number-passed : (xs : List ℕ) (t : List ℕ) → ((k : ℕ) → k < length xs → slice_index xs k ≤ 57) → fold read_byte (at Number t) xs ≡ at Number t
number-passed [] t digits = refl
number-passed (x ∷ xs) t digits =
    let first : x ≤ 57 = digits 0 (omega arith) in
    ap (λ y. fold read_byte (cond y (at Bar t) (at Number t)) xs) (ne_eqb x 124 (λ e. absurd (omega (arith, e, first)))) ∙ number-passed xs t (λ k lt. digits (suc k) (omega arith))

digits-passed : (xs : List ℕ) (t : List ℕ) → 0 < length xs → ((k : ℕ) → k < length xs → (48 ≤ slice_index xs k) × (slice_index xs k ≤ 57)) → fold read_byte (at Begin t) xs ≡ at Number t
digits-passed [] t some digits = absurd (omega arith)
digits-passed (x ∷ xs) t some digits =
    let first : 48 ≤ x = (digits 0 (omega arith)).0 in
    ap (λ y. fold read_byte (cond y (at Marks t) (at Number t)) xs) (ne_eqb x 32 (λ e. absurd (omega (arith, e, first)))) ∙ number-passed xs t (λ k lt. (digits (suc k) (omega arith)).1)

spaces-passed : (n : ℕ) (t : List ℕ) → fold read_byte (at Number t) (replicate n 32) ≡ at Number t
spaces-passed zero t = refl
spaces-passed (suc n) t = spaces-passed n t

margin-passed : (width n : ℕ) (t : List ℕ) → n < 2 ^ 64 → fold read_byte (at Begin t) (margin width n) ≡ at Inside t
margin-passed width n t fits =
    let bound = (decimal_is_IsNumeral n fits).0 in
    let spaces = replicate (width - length (decimal n)) 32 in
    fold-append read_byte (at Begin t) (decimal n) (spaces ++ bar)
    ∙ ap (λ u. fold read_byte u (spaces ++ bar)) (digits-passed (decimal n) t bound.0 (digit-at (decimal n) bound.1))
    ∙ fold-append read_byte (at Number t) spaces bar
    ∙ ap (λ u. fold read_byte u bar) (spaces-passed (width - length (decimal n)) t)

-- Lines

-- where a reader of a line's text is, in a sequence or not
abbrev place_of : Bool → Place
place_of true = Sequence
place_of false = Inside

-- a reader that comes to no margin
abbrev bare : Unshown → ℕ → Unshown
bare u b = cond (b == 10) (at Inside (u.text ++ 10 ∷ [])) (read_byte u b)

line-ended : (s : Bool) (t : List ℕ) → read_byte (at (place_of s) t) 10 ≡ at Begin (t ++ 10 ∷ [])
line-ended true t = refl
line-ended false t = refl

line-goes-on : (s : Bool) (t : List ℕ) (b : ℕ) → (b == 10) ≡ false → (r : Bool) × (v : List ℕ) × (read_byte (at (place_of s) t) b ≡ at (place_of r) v)
line-goes-on true t b other = go (b == 109)
  where
    go : (x : Bool) → (r : Bool) × (v : List ℕ) × (cond (b == 10) (at Begin (t ++ 10 ∷ [])) (cond x (at Inside t) (at Sequence t)) ≡ at (place_of r) v)
    go true = (false, t, ap (λ y. cond y (at Begin (t ++ 10 ∷ [])) (at Inside t)) other)
    go false = (true, t, ap (λ y. cond y (at Begin (t ++ 10 ∷ [])) (at Sequence t)) other)
line-goes-on false t b other = go (b == 27)
  where
    go : (x : Bool) → (r : Bool) × (v : List ℕ) × (cond (b == 10) (at Begin (t ++ 10 ∷ [])) (cond x (at Sequence t) (at Inside (t ++ b ∷ []))) ≡ at (place_of r) v)
    go true = (true, t, ap (λ y. cond y (at Begin (t ++ 10 ∷ [])) (at Sequence t)) other)
    go false = (false, t ++ b ∷ [], ap (λ y. cond y (at Begin (t ++ 10 ∷ [])) (at Inside (t ++ b ∷ []))) other)

-- with numbers and marks the same is read as without
numbered-read : (text : List ℕ) (frame : Frame) (n : ℕ) (ms : List Mark) (xs : List ℕ) (s : Bool) (t : List ℕ) → n + length xs < 2 ^ 64
    → fold read_byte (at (place_of s) t) (numbered text frame n ms xs) ≡ at Begin ((fold bare (at (place_of s) t) xs).text ++ 10 ∷ [])
numbered-read text frame n ms [] s t fits =
    let end : at Begin (t ++ 10 ∷ []) ≡ at Begin ((at (place_of s) t).text ++ 10 ∷ []) = refl in
    ap (λ u. fold read_byte u (all_marks text frame ms)) (line-ended s t) ∙ all-passed text frame ms (t ++ 10 ∷ []) ∙ end
numbered-read text frame n ms (b ∷ bs) s t fits =
    go (λ r v. numbered-read text frame n ms bs r v (omega arith)) (numbered-read text frame (n + 1) (marks_behind n ms) bs false (t ++ 10 ∷ []) (omega arith)) (b == 10) refl
  where
    Reads : ℕ → Type 0
    Reads c = fold read_byte (at (place_of s) t) (numbered text frame n ms (c ∷ bs)) ≡ at Begin ((fold bare (at (place_of s) t) (c ∷ bs)).text ++ 10 ∷ [])

    rest : List ℕ
    rest = numbered text frame (n + 1) (marks_behind n ms) bs

    -- what is read behind the end of the line
    Behind : Type 0
    Behind = fold read_byte (at Inside (t ++ 10 ∷ [])) rest ≡ at Begin ((fold bare (at Inside (t ++ 10 ∷ [])) bs).text ++ 10 ∷ [])

    -- and in the line
    Along : Type 0
    Along = (r : Bool) (v : List ℕ) → fold read_byte (at (place_of r) v) (numbered text frame n ms bs) ≡ at Begin ((fold bare (at (place_of r) v) bs).text ++ 10 ∷ [])

    feed : Behind → Reads 10
    feed behind =
        let next : List ℕ = margin frame.width (n + 1) ++ rest in
        ap (λ u. fold read_byte u (marks_at text frame n ms ++ next)) (line-ended s t)
        ∙ fold-append read_byte (at Begin (t ++ 10 ∷ [])) (marks_at text frame n ms) next
        ∙ ap (λ u. fold read_byte u next) (those-passed text frame n ms (t ++ 10 ∷ []))
        ∙ fold-append read_byte (at Begin (t ++ 10 ∷ [])) (margin frame.width (n + 1)) rest
        ∙ ap (λ u. fold read_byte u rest) (margin-passed frame.width (n + 1) (t ++ 10 ∷ []) (omega arith))
        ∙ behind

    go : Along → Behind → (x : Bool) → (b == 10) ≡ x → Reads b
    go along behind true e = subst Reads (sym (eqb-true b 10 e)) (feed behind)
    go along behind false e =
        let on = line-goes-on s t b e in
        let r = on.0 in
        let v = on.1 in
        let moved : read_byte (at (place_of s) t) b ≡ at (place_of r) v = on.2 in
        let written : numbered text frame n ms (b ∷ bs) ≡ b ∷ numbered text frame n ms bs = rw e refl in
        let same : bare (at (place_of s) t) b ≡ read_byte (at (place_of s) t) b = rw e refl in
        ap (fold read_byte (at (place_of s) t)) written
        ∙ ap (λ u. fold read_byte u (numbered text frame n ms bs)) moved
        ∙ along r v
        ∙ ap (λ u. at Begin ((fold bare u bs).text ++ 10 ∷ [])) (sym (same ∙ moved))

-- Colours

-- bytes that stand for text, read without margins
abbrev Back : List ℕ → List ℕ → Type 0
Back xs meant = (t : List ℕ) → fold bare (at Inside t) xs ≡ at Inside (t ++ meant)

back-append : (xs ys mx my : List ℕ) → Back xs mx → Back ys my → Back (xs ++ ys) (mx ++ my)
back-append xs ys mx my hx hy t =
    fold-append bare (at Inside t) xs ys ∙ ap (λ u. fold bare u ys) (hx t) ∙ hy (t ++ mx) ∙ ap (at Inside) (append_assoc t mx my)

back-none : (xs : List ℕ) → ((t : List ℕ) → fold bare (at Inside t) xs ≡ at Inside t) → Back xs []
back-none xs same t = same t ∙ ap (at Inside) (sym (append-nil t))

back-set : (c : Colour) → Back (set c) []
back-set Red = back-none (set Red) (λ t. refl)
back-set Green = back-none (set Green) (λ t. refl)
back-set Yellow = back-none (set Yellow) (λ t. refl)
back-set Blue = back-none (set Blue) (λ t. refl)
back-set Magenta = back-none (set Magenta) (λ t. refl)
back-set Cyan = back-none (set Cyan) (λ t. refl)
back-set Grey = back-none (set Grey) (λ t. refl)

back-set-any : (c : Option Colour) → Back (set_any c) []
back-set-any None = back-none [] (λ t. refl)
back-set-any (Some c) = back-set c

back-unset-any : (c : Option Colour) → Back (unset_any c) []
back-unset-any None = back-none [] (λ t. refl)
back-unset-any (Some c) = back-none unset (λ t. refl)

-- bytes that are written as themselves, as pictures are
back-plain : (xs : List ℕ) → Plain xs → Back xs xs
back-plain [] plain t = ap (at Inside) (sym (append-nil t))
back-plain (b ∷ bs) plain t = back-append (b ∷ []) bs (b ∷ []) bs (λ s. rw (plain.0, plain.1) refl) (back-plain bs plain.2) t

back-shown : (a b : ℕ) → Back (shown_byte a b) (shown_byte a b)
back-shown a b = go (b == 10) refl
  where
    go : (x : Bool) → (b == 10) ≡ x → Back (shown_byte a b) (shown_byte a b)
    go true e = subst (λ n. Back (shown_byte a n) (shown_byte a n)) (sym (eqb-true b 10 e)) (subst (λ l. Back l l) (sym (feed-shown a)) (λ t. refl))
    go false e = back-plain (shown_byte a b) (plain-shown a b e)

back-painted : (c : Option Colour) (a b : ℕ) → Back (painted_byte c a b) (shown_byte a b)
back-painted None a b = back-shown a b
back-painted (Some c) a b = go (b == 10) refl
  where
    feed : Back (painted_byte (Some c) a 10) (10 ∷ [])
    feed = back-append (unset ++ 10 ∷ []) (set c) (10 ∷ []) [] (λ t. refl) (back-set c)

    go : (x : Bool) → (b == 10) ≡ x → Back (painted_byte (Some c) a b) (shown_byte a b)
    go true e = subst (λ n. Back (painted_byte (Some c) a n) (shown_byte a n)) (sym (eqb-true b 10 e)) (subst (λ l. Back (painted_byte (Some c) a 10) l) (sym (feed-shown a)) feed)
    go false e =
        let is : painted_byte (Some c) a b ≡ shown_byte a b = rw e refl in
        subst (λ l. Back l (shown_byte a b)) (sym is) (back-shown a b)

back-bytes : (c : Option Colour) (a : ℕ) (bs : List ℕ) → Back (each_behind (painted_byte c) a bs) (each_behind shown_byte a bs)
back-bytes c a [] t = ap (at Inside) (sym (append-nil t))
back-bytes c a (b ∷ bs) t = back-append (painted_byte c a b) (each_behind (painted_byte c) b bs) (shown_byte a b) (each_behind shown_byte b bs) (back-painted c a b) (back-bytes c b bs) t

back-part : (c : Option Colour) (a : ℕ) (bs : List ℕ) → Back (painted_bytes c a bs) (each_behind shown_byte a bs)
back-part c a bs t =
    let bytes = each_behind (painted_byte c) a bs in
    let own = each_behind shown_byte a bs in
    back-append (set_any c) (bytes ++ unset_any c) [] (own ++ []) (back-set-any c) (back-append bytes (unset_any c) own [] (back-bytes c a bs) (back-unset-any c)) t
    ∙ ap (λ l. at Inside (t ++ l)) (append-nil own)

shown-append : (a : ℕ) (xs ys : List ℕ) → each_behind shown_byte a (xs ++ ys) ≡ each_behind shown_byte a xs ++ each_behind shown_byte (last_of a xs) ys
shown-append a [] ys = refl
shown-append a (x ∷ xs) ys =
    ap (λ more. shown_byte a x ++ more) (shown-append x xs ys) ∙ sym (append_assoc (shown_byte a x) (each_behind shown_byte x xs) (each_behind shown_byte (last_of x xs) ys))

back-parts : (colours : Bool) (text : List ℕ) (a : ℕ) (ps : List Part) → Back (painted_behind colours text a ps) (each_behind shown_byte a (joined text ps))
back-parts colours text a [] t = ap (at Inside) (sym (append-nil t))
back-parts colours text a (p ∷ ps) t =
    let own = part_of text p in
    let last = last_of a own in
    back-append (painted_part colours text a p) (painted_behind colours text last ps) (each_behind shown_byte a own) (each_behind shown_byte last (joined text ps))
    (back-part (colour_of colours p) a own) (back-parts colours text last ps) t
    ∙ ap (λ l. at Inside (t ++ l)) (sym (shown-append a own (joined text ps)))

-- where the parts are the text, the text is what is left of what is shown
pub unshown-text : (text : List ℕ) (ps : List Part) (ms : List Mark) (frame : Frame) → joined text ps ≡ text → 1 + length (painted frame.colours text ps) < 2 ^ 64
    → unshown (lines_of text frame ps ms) ≡ shown text ++ 10 ∷ []
unshown-text text ps ms frame whole fits =
    let colours = frame.colours in
    let lines = numbered text frame 1 ms (painted colours text ps) in
    ap (λ u. u.text)
    (fold-append read_byte (at Begin []) (margin frame.width 1) lines
    ∙ ap (λ u. fold read_byte u lines) (margin-passed frame.width 1 [] (omega arith))
    ∙ numbered-read text frame 1 ms (painted colours text ps) false [] fits
    ∙ ap (λ u. at Begin (u.text ++ 10 ∷ [])) (back-parts colours text 0 ps []))
    ∙ ap (λ l. shown l ++ 10 ∷ []) whole
