-- Bytes up to a line feed.
use Rattle.std.proofs.Common.{append_assoc, ◌≡◌, ◌∙◌, ℕ, zero, suc, ◌+◌, ◌-◌, ◌<◌, ◌≤◌, List, [], ◌∷◌, ◌++◌, ◌==◌, true, false, length, take, drop, refl, sym, ap, arith, slice_index, ⊎_elim}
use Rattle.std.proofs.lemmas.Bool.{cases_Bool}
use Rattle.std.proofs.lemmas.List.{drop_more, take_rest}
use Rattle.std.proofs.Math.Seq.{take-length, drop-length}
use Rattle.memchr.specs.Find.{NoneBefore, Nowhere, Passes, is_byte}
use Rattle.ecma_show.specs.Shown.{all_marks, line_part, numbered, margin, marks_at, marks_behind}
use Rattle.ecma_show.specs.declared.frame.Frame.{Frame}
use Rattle.ecma_show.specs.declared.mark.Mark.{Mark}

-- none of the first bytes is a line feed
abbrev pub Plain : List ℕ → ℕ → Type 0
Plain xs k = (j : ℕ) → j < k → (slice_index xs j == 10) ≡ false

pub plain-below : (xs : List ℕ) (k : ℕ) → Nowhere (Passes (is_byte 10) xs) 0 k → Plain xs k
plain-below xs k none j lt = ⊎_elim (λ yes. absurd (none j (omega arith) lt yes)) (λ no. no) (cases_Bool (slice_index xs j == 10))

plain-rest : (x : ℕ) (xs : List ℕ) (k : ℕ) → Plain (x ∷ xs) (suc k) → Plain xs k
plain-rest x xs k plain j lt = plain (suc j) (omega arith)

pub line-run : (xs : List ℕ) (k : ℕ) → k ≤ length xs → Plain xs k → line_part xs ≡ take k xs ++ line_part (drop k xs)
line-run xs zero le plain = refl
line-run [] (suc k) le plain = absurd (omega arith)
line-run (x ∷ xs) (suc k) le plain =
    let first : (x == 10) ≡ false = plain 0 (omega arith) in
    rw first (ap (λ l. x ∷ l) (line-run xs k (omega arith) (plain-rest x xs k plain)))

pub numbered-run : (text : List ℕ) (frame : Frame) (number : ℕ) (marks : List Mark) (xs : List ℕ) (k : ℕ) → k ≤ length xs → Plain xs k
    → numbered text frame number marks xs ≡ take k xs ++ numbered text frame number marks (drop k xs)
numbered-run text frame number marks xs zero le plain = refl
numbered-run text frame number marks [] (suc k) le plain = absurd (omega arith)
numbered-run text frame number marks (x ∷ xs) (suc k) le plain =
    let first : (x == 10) ≡ false = plain 0 (omega arith) in
    rw first (ap (λ l. x ∷ l) (numbered-run text frame number marks xs k (omega arith) (plain-rest x xs k plain)))

-- A line is added with its end, and what stands before the next one

pub lines-on : (text : List ℕ) (frame : Frame) (number : ℕ) (marks : List Mark) (left : List ℕ) (end : ℕ) (out all : List ℕ)
    → NoneBefore (Passes (is_byte 10) left) 0 (length left) end × Passes (is_byte 10) left end → out ++ numbered text frame number marks left ≡ all
    → ((((out ++ take end left) ++ 10 ∷ []) ++ marks_at text frame number marks) ++ margin frame.width (number + 1)) ++ numbered text frame (number + 1) (marks_behind number marks) (take (length left - (end + 1)) (drop (end + 1) left)) ≡ all
lines-on text frame number marks left end out all found so =
    let high : end < length left = found.0.high in
    let passes : (slice_index left end == 10) ≡ true = found.1 in
    let behind : List ℕ = numbered text frame (number + 1) (marks_behind number marks) (drop (end + 1) left) in
    let rest : numbered text frame number marks (drop end left) ≡ 10 ∷ (marks_at text frame number marks ++ (margin frame.width (number + 1) ++ behind)) = rw (drop_more left end 0 high, passes) refl in
    let whole : numbered text frame number marks left ≡ take end left ++ (10 ∷ (marks_at text frame number marks ++ (margin frame.width (number + 1) ++ behind))) =
    numbered-run text frame number marks left end (omega arith) (plain-below left end found.0.before) ∙ ap (λ l. take end left ++ l) rest in
    rw (take_rest left (end + 1), append_assoc, append_assoc, append_assoc, append_assoc) (ap (λ l. out ++ l) (sym whole) ∙ so)

pub lines-end : (text : List ℕ) (frame : Frame) (number : ℕ) (marks : List Mark) (behind : ℕ) (left out all : List ℕ)
    → Nowhere (Passes (is_byte 10) left) 0 (length left) → out ++ numbered text frame number (drop behind marks) left ≡ all
    → ((out ++ left) ++ 10 ∷ []) ++ all_marks text frame (take (length marks - behind) (drop behind marks)) ≡ all
lines-end text frame number marks behind left out all none so =
    let over : List ℕ = 10 ∷ all_marks text frame (drop behind marks) in
    let whole : numbered text frame number (drop behind marks) left ≡ left ++ over =
    numbered-run text frame number (drop behind marks) left (length left) (omega arith) (plain-below left (length left) none) ∙ rw (take-length left, drop-length left) refl in
    rw (take_rest marks behind, append_assoc, append_assoc) (ap (λ l. out ++ l) (sym whole) ∙ so)
