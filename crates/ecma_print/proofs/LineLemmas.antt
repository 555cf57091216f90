-- Lines that are counted from one place of a text to another.
use Rattle.std.proofs.Common.{◌≡◌, ◌∙◌, ◌+◌, ◌-◌, ◌<◌, ◌≤◌, ◌*◌, ℕ, List, ◌++◌, Bool, true, false, cond, nat_lt, Option, Some, None, not, length, take, drop, drop-drop, get_or, min, ap, sym, subst, arith, slice_index, count_by, ⊎_elim}
use Rattle.std.specs.Prelude.{slice_range}
use Rattle.std.specs.List.{suffix_len}
use Rattle.std.proofs.lemmas.Bool.{cases_Bool, cases_lt, false≢true}
use Rattle.std.proofs.lemmas.List.{drop-take, get_or-drop, get_or-take, length-take, length-drop, take-append-drop, take_min}
use Rattle.std.proofs.lemmas.List.Sums.{suffix_len_is, sum_by-append, sum_by-le, count_by-le-length}
use Rattle.std.proofs.lemmas.Grind.{common_steps}
use Rattle.memchr.specs.Find.{IsLastByte, is_byte, places}
use Rattle.memchr.proofs.lemmas.CallerLemmas.{length-places}
use Rattle.memchr.proofs.lemmas.PlaceLemmas.{places_between-none}
use Rattle.ecma_positions.specs.Units.{utf16_byte, utf16_length}
use Rattle.ecma_positions.specs.Positions.{is_line_feed, last_line, position_in}
use Rattle.ecma_positions.specs.declared.position.Position.{Position}
use Rattle.ecma_print.specs.Lines.{IsInLine}

module _ (bytes : List ℕ) (p q : ℕ) (le : p ≤ q) (within : q ≤ length bytes) where
  -- the bytes from one place up to another

  joined : take q bytes ≡ take p bytes ++ slice_range bytes p q
  joined =
      let on : q ≡ p + (q - p) = omega arith in
      sym (take-append-drop p (take q bytes)) ∙ (let front : take p (take q bytes) ≡ take p bytes = grind (arith, common_steps) in ap (λ l. l ++ drop p (take q bytes)) front)
      ∙ ap (λ n. take p bytes ++ drop p (take n bytes)) on ∙ ap (λ l. take p bytes ++ l) (drop-take p (q - p) bytes)

  pub counted-on : count_by is_line_feed (take q bytes) ≡ count_by is_line_feed (take p bytes) + count_by is_line_feed (slice_range bytes p q)
  counted-on = ap (count_by is_line_feed) joined ∙ sum_by-append _ (take p bytes) (slice_range bytes p q)

  pub long : length (slice_range bytes p q) ≡ q - p
  long = omega (arith, length-take (q - p) (drop p bytes), length-drop p bytes)

  pub part-at : (k : ℕ) → p ≤ k → k < q → slice_index (slice_range bytes p q) (k - p) ≡ slice_index bytes k
  part-at k from to = let on : p + (k - p) ≡ k = omega arith in get_or-take (q - p) (drop p bytes) (k - p) 0 (omega arith) ∙ get_or-drop p bytes (k - p) 0 ∙ ap (slice_index bytes) on

  -- none of them is a line feed

  fails : IsLastByte (is_byte 10) (slice_range bytes p q) None → (k : ℕ) → p ≤ k → k < q → is_line_feed (slice_index bytes k) ≡ false
  fails none k from to =
      ap is_line_feed (sym (part-at k from to)) ∙ ⊎_elim (λ yes. absurd (none (k - p) (omega arith) (omega (arith, long)) yes)) (λ no. no) (cases_Bool (is_line_feed (slice_index (slice_range bytes p q) (k - p))))

  pub none-counted : IsLastByte (is_byte 10) (slice_range bytes p q) None → count_by is_line_feed (take q bytes) ≡ count_by is_line_feed (take p bytes)
  none-counted none =
      let part = slice_range bytes p q in
      let zero : count_by is_line_feed part ≡ 0 = sym (length-places (is_byte 10) part) ∙ ap length (places_between-none (is_byte 10) part 0 (length part) (omega arith) none) in
      omega (arith, counted-on, zero)

  pub none-in-line : (start : ℕ) → IsInLine bytes start p → IsLastByte (is_byte 10) (slice_range bytes p q) None → IsInLine bytes start q
  none-in-line start here none =
      let order = here.order in
      record {
        order = omega (arith, order);
        unbroken = λ k from to. ⊎_elim (λ before. here.unbroken k from before) (λ behind. fails none k behind to) (cases_lt k p);
        begins = here.begins;
      }

  -- the last line feed among them

  pub line-behind : (last : ℕ) → IsLastByte (is_byte 10) (slice_range bytes p q) (Some last) → IsInLine bytes (p + last + 1) q
  line-behind last (none_after, passes) =
      let high = none_after.high in
      let same : p + last - p ≡ last = omega arith in
      let at : p + last + 1 - 1 ≡ p + last = omega arith in
      record {
        order = omega (arith, high, long);
        unbroken = λ k from to. ap is_line_feed (sym (part-at k (omega arith) to))
            ∙ ⊎_elim (λ yes. absurd (none_after.after (k - p) (omega arith) (omega (arith, long)) yes)) (λ no. no) (cases_Bool (is_line_feed (slice_index (slice_range bytes p q) (k - p))));
        begins = λ some. ap (λ n. is_line_feed (slice_index bytes n)) at ∙ ap is_line_feed (sym (part-at (p + last) (omega arith) (omega (arith, high, long)))) ∙ ap (λ n. is_line_feed (slice_index (slice_range bytes p q) n)) same ∙ passes;
      }

-- a place of the same line, before one
pub same-line : (bytes : List ℕ) (start place before : ℕ) → IsInLine bytes start place → start ≤ before → before ≤ place → place ≤ length bytes
    → IsInLine bytes start before × (count_by is_line_feed (take place bytes) ≡ count_by is_line_feed (take before bytes))
same-line bytes start place before here from to within =
    let none : IsLastByte (is_byte 10) (slice_range bytes before place) None =
    λ k low high yes. false≢true (sym (here.unbroken (before + k) (omega arith) (omega (arith, high, long bytes before place to within))) ∙ ap is_line_feed (sym (part-at bytes before place to within (before + k) (omega arith) (omega (arith, high, long bytes before place to within)))) ∙ (let same : before + k - before ≡ k = omega arith in ap (λ n. is_line_feed (slice_index (slice_range bytes before place) n)) same) ∙ yes) in (
      record { order = from; unbroken = λ k low high. here.unbroken k low (omega arith); begins = here.begins },
      none-counted bytes before place to within none,
    )

-- by the last line feed before a place, where there is one

abbrev pub start_behind : Option ℕ → ℕ
start_behind None = 0
start_behind (Some last) = last + 1

from-start : (bytes : List ℕ) (place : ℕ) (r : Option ℕ) → place ≤ length bytes → IsLastByte (is_byte 10) (slice_range bytes 0 place) r → IsInLine bytes (start_behind r) place
from-start bytes place None within none =
    let start : IsInLine bytes 0 0 = record { order = omega arith; unbroken = λ k from to. absurd (omega arith); begins = λ some. absurd (omega arith) } in
    none-in-line bytes 0 place (omega arith) within 0 start none
from-start bytes place (Some last) within is =
    let same : 0 + last + 1 ≡ last + 1 = omega arith in
    subst (λ n. IsInLine bytes n place) same (line-behind bytes 0 place (omega arith) within last is)

pub line-of : (bytes : List ℕ) (place : ℕ) (r : Option ℕ) → place ≤ length bytes → IsLastByte (is_byte 10) (take place bytes) r → IsInLine bytes (start_behind r) place
line-of bytes place r within is =
    let same : place ≡ place - 0 = omega arith in
    from-start bytes place r within (subst (λ n. IsLastByte (is_byte 10) (take n bytes) r) same is)

-- how many lines back, and on

pub lines-back : (bytes : List ℕ) (before place line back : ℕ) → before ≤ place → place ≤ length bytes → line ≡ count_by is_line_feed (take place bytes) + 1 → back ≡ length (places (is_byte 10) (slice_range bytes before place))
    → line - back ≡ count_by is_line_feed (take before bytes) + 1
lines-back bytes before place line back le within counted passed =
    omega (arith, counted, passed, length-places (is_byte 10) (slice_range bytes before place), counted-on bytes before place le within)

pub lines-on : (bytes : List ℕ) (place behind line on : ℕ) → place ≤ behind → behind ≤ length bytes → line ≡ count_by is_line_feed (take place bytes) + 1 → on ≡ length (places (is_byte 10) (slice_range bytes place behind))
    → (line + on ≡ count_by is_line_feed (take behind bytes) + 1) × (line + on ≤ behind + 1)
lines-on bytes place behind line on le within counted passed =
    let same : line + on ≡ count_by is_line_feed (take behind bytes) + 1 = omega (arith, counted, passed, length-places (is_byte 10) (slice_range bytes place behind), counted-on bytes place behind le within) in
    (same, omega (arith, same, count_by-le-length is_line_feed (take behind bytes), length-take behind bytes))

-- what a count says is the position

abbrev at_column : ℕ → ℕ → ℕ → Position
at_column at line start = record { line = line; column = at - start + 1 }

-- where the line of a place begins
pub line-start : (bytes : List ℕ) (start place at : ℕ) → place ≡ min (length bytes) at → IsInLine bytes start place → start ≡ last_line (take at bytes)
line-start bytes start place at is here =
    let order = here.order in
    let turned : place ≡ min at (length bytes) = omega (arith, is) in
    let within : place ≤ length bytes = omega (arith, is) in
    let same : take place bytes ≡ take at bytes = ap (λ n. take n bytes) turned ∙ take_min at bytes in
    let size : length (take place bytes) ≡ place = omega (arith, length-take place bytes, within) in
    let suffix : suffix_len (λ b. not (is_line_feed b)) (take place bytes) ≡ length (take place bytes) - start =
    suffix_len_is (λ b. not (is_line_feed b)) (take place bytes) start 0 (omega (arith, size, order)) (λ k from to. ap (λ b. not (is_line_feed b)) (get_or-take place bytes k 0 (omega (arith, size))) ∙ ap not (here.unbroken k from (omega (arith, size))))
    (λ some. ap (λ b. not (is_line_feed b)) (get_or-take place bytes (start - 1) 0 (omega (arith, order))) ∙ ap not (here.begins some)) in
    let last : start ≡ last_line (take place bytes) = omega (arith, suffix, size, order) in
    last ∙ ap last_line same

pub position-is : (bytes : List ℕ) (start place at line : ℕ) → place ≡ min (length bytes) at → line ≡ count_by is_line_feed (take place bytes) + 1 → IsInLine bytes start place
    → record { line = line; column = at - start + 1 } ≡ position_in bytes (record { 0 = at })
position-is bytes start place at line is counted here =
    let turned : place ≡ min at (length bytes) = omega (arith, is) in
    let same : take place bytes ≡ take at bytes = ap (λ n. take n bytes) turned ∙ take_min at bytes in
    ap (λ l. at_column at l start) (counted ∙ ap (λ l. count_by is_line_feed l + 1) same)
    ∙ ap (at_column at (count_by is_line_feed (take at bytes) + 1)) (line-start bytes start place at is here)

-- the bytes of the line before a place
pub line-front : (bytes : List ℕ) (start place at : ℕ) → place ≡ min (length bytes) at → IsInLine bytes start place → slice_range bytes start place ≡ drop (last_line (take at bytes)) (take at bytes)
line-front bytes start place at is here =
    let order = here.order in
    let turned : place ≡ min at (length bytes) = omega (arith, is) in
    let same : take place bytes ≡ take at bytes = ap (λ n. take n bytes) turned ∙ take_min at bytes in
    let on : start + (place - start) ≡ place = omega (arith, order) in
    sym (drop-take start (place - start) bytes) ∙ ap (λ n. drop start (take n bytes)) on ∙ ap (drop start) same ∙ ap (λ n. drop n (take at bytes)) (line-start bytes start place at is here)

-- units so far, and those behind
pub more-units : (bytes : List ℕ) (start place behind : ℕ) → start ≤ place → place ≤ behind → behind ≤ length bytes
    → utf16_length (slice_range bytes start behind) ≡ utf16_length (slice_range bytes start place) + utf16_length (slice_range bytes place behind)
more-units bytes start place behind order le within =
    let rest : List ℕ = drop start bytes in
    let fits : behind - start ≤ length rest = omega (arith, length-drop start bytes) in
    let count : behind - start - (place - start) ≡ behind - place = omega arith in
    let from : start + (place - start) ≡ place = omega arith in
    let seam : slice_range rest (place - start) (behind - start) ≡ slice_range bytes place behind =
    ap (λ n. take n (drop (place - start) rest)) count ∙ ap (take (behind - place)) (drop-drop (place - start) start bytes ∙ ap (λ n. drop n bytes) from) in
    let parts : slice_range bytes start behind ≡ slice_range bytes start place ++ slice_range bytes place behind =
    joined rest (place - start) (behind - start) (omega arith) fits ∙ ap (λ l. slice_range bytes start place ++ l) seam in
    ap utf16_length parts ∙ sum_by-append utf16_byte (slice_range bytes start place) (slice_range bytes place behind)

pub slice-long : (bytes : List ℕ) (p q : ℕ) → p ≤ q → q ≤ length bytes → length (slice_range bytes p q) ≡ q - p
slice-long bytes p q le within = long bytes p q le within

few-byte : (b : ℕ) → utf16_byte b ≤ 2
few-byte b = go (nat_lt b 128) (nat_lt b 192) (nat_lt b 240)
  where
    go : (x y z : Bool) → cond x 1 (cond y 0 (cond z 1 2)) ≤ 2
    go true y z = omega arith
    go false true z = omega arith
    go false false true = omega arith
    go false false false = omega arith

pub few-units : (bytes : List ℕ) → utf16_length bytes ≤ length bytes * 2
few-units bytes = sum_by-le utf16_byte 2 bytes (λ k d lt. few-byte (get_or bytes k d))
