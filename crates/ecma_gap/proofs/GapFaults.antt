-- Faults of a gap are counted from a place, wherever it is.
use Rattle.std.proofs.Common.{◌≡◌, ℕ, ◌+◌, List, [], ◌∷◌, ◌++◌, map, Option, Some, None, refl, ap, ◌∙◌, arith}
use Rattle.std.specs.Prelude.{option_map}
use Rattle.ecma_token.specs.declared.error.SyntaxError.{UnterminatedBlockComment, TS1185}
use Rattle.ecma_grammar.specs.declared.found.Blame.TheVariants.{Always}
use Rattle.ecma_grammar.specs.Found.{Fault, fault_behind}
use Rattle.ecma_grammar.specs.Bars.{bars_elements, bars_faults, bars_faults_at}
use Rattle.ecma_place.specs.Text.{Text, byte_len}
use Rattle.ecma_grammar.specs.Gaps.{Element, Blank, LineComment, BlockComment, OpenComment, HtmlOpening, HtmlClosing, Marker, element_text, end_of, fault_between, legacy_comment, pending_fault, faults_of, gap, GapFaultsMove}

abbrev behind : ℕ → Option ℕ → Option ℕ
behind m pending = option_map (λ low. m + low) pending

abbrev marker_fault : ℕ → ℕ → Fault
marker_fault low high = fault_between Always TS1185 low high

-- what stands before further faults
before_more : (m : ℕ) (pending : Option ℕ) (n : ℕ) (more : List Fault) → map (fault_behind m) (pending_fault pending n ++ more) ≡ pending_fault (behind m pending) (m + n) ++ map (fault_behind m) more
before_more m None n more = refl
before_more m (Some low) n more = refl

further : (m n k : ℕ) → m + (n + k) ≡ (m + n) + k
further m n k = omega arith

pub faults_move : (m : ℕ) (pending : Option ℕ) (n : ℕ) (es : List Element) → map (fault_behind m) (faults_of pending n es) ≡ faults_of (behind m pending) (m + n) es
faults_move m None n [] = refl
faults_move m (Some low) n [] = refl
faults_move m pending n (e ∷ es) = go e (λ p. faults_move m p (end_of n e) es ∙ ap (λ k. faults_of (behind m p) k es) (further m n (byte_len (element_text e))))
  where
    go : (e : Element) → ((p : Option ℕ) → map (fault_behind m) (faults_of p (end_of n e) es) ≡ faults_of (behind m p) (end_of (m + n) e) es)
        → map (fault_behind m) (faults_of pending n (e ∷ es)) ≡ faults_of (behind m pending) (m + n) (e ∷ es)
    go (Blank c) more = more pending
    go (LineComment line) more = more pending
    go (BlockComment body) more = more pending
    go (OpenComment body) more =
        let e = OpenComment body in
        ap (λ l. fault_between Always UnterminatedBlockComment (m + n) (m + end_of n e) ∷ l) (more pending)
        ∙ ap (λ k. fault_between Always UnterminatedBlockComment (m + n) k ∷ faults_of (behind m pending) (end_of (m + n) e) es) (further m n (byte_len (element_text e)))
    go (HtmlOpening line) more = before_more m pending n (faults_of (Some n) (end_of n (HtmlOpening line)) es) ∙ ap (λ l. pending_fault (behind m pending) (m + n) ++ l) (more (Some n))
    go (HtmlClosing line) more =
        let rest = faults_of None (end_of n (HtmlClosing line)) es in
        before_more m pending n (legacy_comment n (n + 3) ++ rest)
        ∙ ap (λ l. pending_fault (behind m pending) (m + n) ++ (legacy_comment (m + n) (m + (n + 3)) ++ l)) (more None)
        ∙ ap (λ k. pending_fault (behind m pending) (m + n) ++ (legacy_comment (m + n) k ++ faults_of None (end_of (m + n) (HtmlClosing line)) es)) (further m n 3)
    go (Marker c line) more =
        let rest = faults_of None (end_of n (Marker c line)) es in
        before_more m pending n (marker_fault n (n + 7) ∷ rest)
        ∙ ap (λ l. pending_fault (behind m pending) (m + n) ++ (marker_fault (m + n) (m + (n + 7)) ∷ l)) (more None)
        ∙ ap (λ k. pending_fault (behind m pending) (m + n) ++ (marker_fault (m + n) k ∷ faults_of None (end_of (m + n) (Marker c line)) es)) (further m n 7)

from_start : (m : ℕ) (es : List Element) → map (fault_behind m) (faults_of None 0 es) ≡ faults_of None m es
from_start m es = faults_move m None 0 es ∙ ap (λ k. faults_of None k es) (omega arith)

pub gap_faults_move : GapFaultsMove
gap_faults_move n mode text = from_start n (gap mode text)

pub bars_faults_move : (n : ℕ) (text : Text) → map (fault_behind n) (bars_faults text) ≡ bars_faults_at n text
bars_faults_move n text = from_start n (bars_elements text)
