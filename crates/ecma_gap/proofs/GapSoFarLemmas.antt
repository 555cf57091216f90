-- The elements of a gap, one after the other.
use Rattle.std.proofs.Common.{◌≡◌, ℕ, ◌+◌, ◌≤◌, cond, Bool, true, false, ◌||◌, List, [], ◌∷◌, ◌++◌, length, take, drop, Option, Some, None, refl, sym, ap, ◌∙◌, arith, zero, suc, subst, length-append, length-drop, append_assoc, append-nil}
use Rattle.std.specs.Prelude.{is_some, Result, Ok, Err, IfOk}
use Rattle.std.specs.List.{list_any, prefix_len, take_while}
use Rattle.std.proofs.lemmas.List.Folds.{list_any-append}
use Rattle.ecma_place.specs.Text.{Text}
use Rattle.ecma_place.specs.Character.{is_white_space, is_line_terminator}
use Rattle.ecma_place.specs.Cursor.{Cursor, rest, place, passed}
use Rattle.ecma_place.specs.declared.comment.Comment.{Comment}
use Rattle.ecma_place.proofs.RunLemmas.{passed-later-by}
use Rattle.ecma_grammar.specs.declared.gap_mode.GapMode.{GapMode}
use Rattle.ecma_grammar.specs.Bars.{common_cutter}
use Rattle.ecma_grammar.specs.Comments.{comments_of, collected, paired, behind_element, comment_of}
use Rattle.ecma_grammar.specs.Cutters.{IsCutter}
use Rattle.ecma_grammar.specs.Found.{Fault}
use Rattle.ecma_grammar.specs.Fronts.{after, next_passes}
use Rattle.ecma_grammar.specs.Gaps.{Element, Blank, element_faults, element_text, end_of, flag_behind, faults_of, gap_cutter, is_common, pending_behind, pending_fault}
use Rattle.ecma_grammar.specs.Pieces.{Cutter, pieces, spelled}
use Rattle.ecma_grammar.specs.GapViews.{GapView}
use Rattle.ecma_gap.specs.GapRecords.{GapSoFarView, found_with, with_element, with_flag, with_next, next_text, element_comments, NextAddsNothing, IsEmpty}
use Rattle.ecma_grammar.proofs.ForNextLemmas.{after-white}
use Rattle.ecma_gap.proofs.BarsLaws.{common_is_cutter}
use Rattle.ecma_gap.proofs.ElementLemmas.{none-collected}
use Rattle.ecma_grammar.proofs.EmptyLists.{append-none}
use Rattle.ecma_grammar.proofs.Fronts.{length-take_while, take_while-front}
use Rattle.ecma_grammar.proofs.GapForms.{cond_true, gap_is_cutter, never_empty}
use Rattle.ecma_grammar.proofs.PieceLemmas.{pieces_more, pieces_none}
use Rattle.ecma_grammar.proofs.SignLemmas.{rest-behind, place-behind}
use Rattle.std.proofs.Math.Bool.{or-false, or_assoc}

-- what a cutter of elements has to keep: its states are those of the flag, and it reads white space as such
pub record ReadsElements {S : Type 0} (cutter : Cutter S Element) (state : Bool → S) : Type 0 where
  pub is : IsCutter cutter
  pub spelling : (e : Element) → cutter.spelling e ≡ element_text e
  pub next : (flag : Bool) (e : Element) → cutter.next (state flag) e ≡ state (flag_behind flag e)
  pub blank : (flag : Bool) (c : ℕ) (cs : Text) → is_white_space c ≡ true → cutter.read (state flag) (c ∷ cs) ≡ Some (Blank c)

-- the elements from a cursor on, where it stands behind them, and what is found of them and of what was read
pub record Whole : Type 0 where
  pub ends : Cursor
  pub found : GapView

abbrev pub whole_of : GapMode → Cursor → GapSoFarView → List Element → Whole
whole_of mode now r es = record { ends = passed (length (spelled (gap_cutter mode) es)) now; found = found_with mode (place now) (rest now) es r }

unfoldable pub whole : {S : Type 0} → Cutter S Element → (Bool → S) → GapMode → Cursor → GapSoFarView → Whole
whole cutter state mode now r = whole_of mode now r (pieces cutter (state r.flag) (rest now))

-- One element

collected-append : {A : Type 0} (b : Bool) (xs ys : List A) → collected b (xs ++ ys) ≡ collected b xs ++ collected b ys
collected-append true xs ys = refl
collected-append false xs ys = refl

view : Bool → List (Comment × Bool) → List Fault → GapView
view flag comments faults = record { line_break = flag; comments = comments; faults = faults }

pub found-step : (mode : GapMode) (n : ℕ) (text : Text) (e : Element) (es : List Element) (r : GapSoFarView)
    → found_with mode (end_of n e) (behind_element e text) es (with_element mode n text e r) ≡ found_with mode n text (e ∷ es) r
unfolding view
found-step mode n text e es r =
    let more = comments_of mode.prev (flag_behind r.flag e) (end_of n e) es (behind_element e text) in
    let left = faults_of (pending_behind r.pending n e) (end_of n e) es in
    let flag : (flag_behind r.flag e || list_any is_line_terminator (spelled (gap_cutter mode) es)) ≡ (r.flag || list_any is_line_terminator (element_text e ++ spelled (gap_cutter mode) es)) =
    or_assoc r.flag (list_any is_line_terminator (element_text e)) (list_any is_line_terminator (spelled (gap_cutter mode) es))
    ∙ ap (λ b. r.flag || b) (sym (list_any-append is_line_terminator (element_text e) (spelled (gap_cutter mode) es))) in
    let comments : (r.comments ++ element_comments mode r.flag n text e) ++ collected mode.collect more
    ≡ r.comments ++ collected mode.collect (paired mode.prev r.flag (behind_element e text) (comment_of n e) ++ more) =
    append_assoc r.comments (element_comments mode r.flag n text e) (collected mode.collect more)
    ∙ ap (λ l. r.comments ++ l) (sym (collected-append mode.collect (paired mode.prev r.flag (behind_element e text) (comment_of n e)) more)) in
    let before : List Fault = cond (is_common e) [] (pending_fault r.pending n) in
    let faults : (r.faults ++ (before ++ element_faults n e)) ++ left ≡ r.faults ++ (before ++ (element_faults n e ++ left)) =
    append_assoc r.faults (before ++ element_faults n e) left ∙ ap (λ l. r.faults ++ l) (append_assoc before (element_faults n e) left) in
    ap (λ b. view b ((r.comments ++ element_comments mode r.flag n text e) ++ collected mode.collect more) ((r.faults ++ (before ++ element_faults n e)) ++ left)) flag
    ∙ ap (λ cs. view (r.flag || list_any is_line_terminator (element_text e ++ spelled (gap_cutter mode) es)) cs ((r.faults ++ (before ++ element_faults n e)) ++ left)) comments
    ∙ ap (λ fs. view (r.flag || list_any is_line_terminator (element_text e ++ spelled (gap_cutter mode) es)) (r.comments ++ collected mode.collect (paired mode.prev r.flag (behind_element e text) (comment_of n e) ++ more)) fs) faults

-- what stands behind the element with which a rest begins
pub record Behind (now : Cursor) (e : Element) (next : Cursor) : Type 0 where
  pub place_is : place next ≡ end_of (place now) e
  pub rest_is : rest next ≡ behind_element e (rest now)

behind_is : {S : Type 0} (cutter : Cutter S Element) (state : Bool → S) → ReadsElements cutter state → (flag : Bool) (now next : Cursor) (e : Element) → cutter.read (state flag) (rest now) ≡ Some e
    → next ≡ passed (length (element_text e)) now → Behind now e next
behind_is cutter state reads flag now next e is moved =
    let front = reads.is.front (state flag) (rest now) e is in
    let text : element_text e ++ front.0 ≡ rest now = ap (λ t. t ++ front.0) (sym (reads.spelling e)) ∙ front.1 in
    record { place_is = place-behind (element_text e) front.0 now next text moved; rest_is = rest-behind now next (length (element_text e)) moved }

elements-more : {S : Type 0} (cutter : Cutter S Element) (state : Bool → S) → ReadsElements cutter state → (flag : Bool) (text : Text) (e : Element) → cutter.read (state flag) text ≡ Some e
    → pieces cutter (state flag) text ≡ e ∷ pieces cutter (state (flag_behind flag e)) (behind_element e text)
elements-more cutter state reads flag text e is =
    pieces_more cutter reads.is (state flag) text e is
    ∙ ap (λ t. e ∷ pieces cutter (cutter.next (state flag) e) (drop (length t) text)) (reads.spelling e)
    ∙ ap (λ s. e ∷ pieces cutter s (behind_element e text)) (reads.next flag e)

pub whole-step : {S : Type 0} (cutter : Cutter S Element) (state : Bool → S) → ReadsElements cutter state → (mode : GapMode) (now next : Cursor) (r after : GapSoFarView) (e : Element)
    → cutter.read (state r.flag) (rest now) ≡ Some e → next ≡ passed (length (element_text e)) now → after ≡ with_element mode (place now) (rest now) e r
    → whole cutter state mode next after ≡ whole cutter state mode now r
unfolding whole
whole-step cutter state reads mode now next r after e is moved said =
    let b = behind_is cutter state reads r.flag now next e is moved in
    let it = with_element mode (place now) (rest now) e r in
    let es = pieces cutter (state (flag_behind r.flag e)) (behind_element e (rest now)) in
    let ends : passed (length (spelled (gap_cutter mode) es)) next ≡ passed (length (element_text e ++ spelled (gap_cutter mode) es)) now =
    ap (λ (c : Cursor). passed (length (spelled (gap_cutter mode) es)) c) moved ∙ sym (passed-later-by now _ _ _ (length-append (element_text e) (spelled (gap_cutter mode) es))) in
    ap (λ (v : GapSoFarView). whole_of mode next v (pieces cutter (state v.flag) (rest next))) said
    ∙ ap (λ t. whole_of mode next it (pieces cutter (state (flag_behind r.flag e)) t)) b.rest_is
    ∙ ap (λ n. let w : Whole = record { ends = passed (length (spelled (gap_cutter mode) es)) next; found = found_with mode n (rest next) es it } in w) b.place_is
    ∙ ap (λ t. let w : Whole = record { ends = passed (length (spelled (gap_cutter mode) es)) next; found = found_with mode (end_of (place now) e) t es it } in w) b.rest_is
    ∙ ap (λ c. let w : Whole = record { ends = c; found = found_with mode (end_of (place now) e) (behind_element e (rest now)) es it } in w) ends
    ∙ ap (λ g. let w : Whole = record { ends = passed (length (element_text e ++ spelled (gap_cutter mode) es)) now; found = g } in w) (found-step mode (place now) (rest now) e es r)
    ∙ ap (λ l. whole_of mode now r l) (sym (elements-more cutter state reads r.flag (rest now) e is))

passed-nothing : (c : Cursor) → passed 0 c ≡ c
passed-nothing c = ap (λ (n : ℕ). let moved : Cursor = record { start = c.start; text = c.text; at = n } in moved) (let same : c.at + 0 ≡ c.at = omega arith in same)

pub whole-next : {S : Type 0} (cutter : Cutter S Element) (state : Bool → S) → ReadsElements cutter state → (mode : GapMode) (now next : Cursor) (r after : GapSoFarView)
    → next ≡ passed (length (next_text (cutter.read (state r.flag) (rest now)))) now → after ≡ with_next mode (place now) (rest now) (cutter.read (state r.flag) (rest now)) r
    → whole cutter state mode next after ≡ whole cutter state mode now r
whole-next {S} cutter state reads mode now next r after moved said = go (cutter.read (state r.flag) (rest now)) refl moved said
  where
    go : (o : Option Element) → cutter.read (state r.flag) (rest now) ≡ o → next ≡ passed (length (next_text o)) now → after ≡ with_next mode (place now) (rest now) o r
        → whole cutter state mode next after ≡ whole cutter state mode now r
    go None is m s = ap (λ (c : Cursor). whole cutter state mode c after) (m ∙ passed-nothing now) ∙ ap (λ (v : GapSoFarView). whole cutter state mode now v) s
    go (Some e) is m s = whole-step cutter state reads mode now next r after e is m s

-- where nothing is read nothing changes
pub next-ended : {S : Type 0} (cutter : Cutter S Element) (state : Bool → S) (mode : GapMode) (now next : Cursor) (r after : GapSoFarView) (more : Bool)
    → next ≡ passed (length (next_text (cutter.read (state r.flag) (rest now)))) now → after ≡ with_next mode (place now) (rest now) (cutter.read (state r.flag) (rest now)) r
    → more ≡ is_some (cutter.read (state r.flag) (rest now)) → more ≡ false → cutter.read (state after.flag) (rest next) ≡ None
next-ended {S} cutter state mode now next r after more moved said some last = go (cutter.read (state r.flag) (rest now)) refl moved said (sym some ∙ last)
  where
    go : (o : Option Element) → cutter.read (state r.flag) (rest now) ≡ o → next ≡ passed (length (next_text o)) now → after ≡ with_next mode (place now) (rest now) o r → is_some o ≡ false
        → cutter.read (state after.flag) (rest next) ≡ None
    go None is m s n = ap (λ (c : Cursor). cutter.read (state after.flag) (rest c)) (m ∙ passed-nothing now) ∙ ap (λ (v : GapSoFarView). cutter.read (state v.flag) (rest now)) s ∙ is
    go (Some e) is m s n = cc

pub next-smaller : {S : Type 0} (cutter : Cutter S Element) (state : Bool → S) → ReadsElements cutter state → (flag : Bool) (now next : Cursor) (more : Bool)
    → next ≡ passed (length (next_text (cutter.read (state flag) (rest now)))) now → more ≡ is_some (cutter.read (state flag) (rest now)) → length (rest next) + cond more 1 0 ≤ length (rest now)
next-smaller {S} cutter state reads flag now next more moved some = go (cutter.read (state flag) (rest now)) refl moved some
  where
    go : (o : Option Element) → cutter.read (state flag) (rest now) ≡ o → next ≡ passed (length (next_text o)) now → more ≡ is_some o → length (rest next) + cond more 1 0 ≤ length (rest now)
    go None is m s = let same = ap (λ (c : Cursor). length (rest c)) (m ∙ passed-nothing now) in rw s (omega (arith, same))
    go (Some e) is m s =
        let front = reads.is.front (state flag) (rest now) e is in
        let text : element_text e ++ front.0 ≡ rest now = ap (λ t. t ++ front.0) (sym (reads.spelling e)) ∙ front.1 in
        let left = ap length (rest-behind now next (length (element_text e)) m) ∙ length-drop (length (element_text e)) (rest now) in
        rw s (omega (arith, left, ap length text, length-append (element_text e) front.0, never_empty e))

pub test-counts : (b : Bool) → b ≡ true → let one : ℕ = 1 in cond b 1 0 ≡ one
test-counts b e = rw e

-- Runs of white space

blank-said : (mode : GapMode) (n : ℕ) (text : Text) (c : ℕ) (r : GapSoFarView) → with_flag (r.flag || is_line_terminator c) r ≡ with_element mode n text (Blank c) r
blank-said mode n text c r =
    let said : Bool → List (Comment × Bool) → List Fault → GapSoFarView = λ flag comments faults. record { flag = flag; pending = r.pending; comments = comments; faults = faults } in
    ap (λ b. said (r.flag || b) r.comments r.faults) (sym (or-false (is_line_terminator c)))
    ∙ ap (λ cs. said (r.flag || (is_line_terminator c || false)) cs r.faults) (sym (append-nil r.comments) ∙ ap (λ l. r.comments ++ l) (sym (none-collected mode.collect)))
    ∙ ap (λ fs. said (r.flag || (is_line_terminator c || false)) (r.comments ++ collected mode.collect []) fs) (sym (append-nil r.faults))

white-run : {S : Type 0} (cutter : Cutter S Element) (state : Bool → S) → ReadsElements cutter state → (mode : GapMode) (k : ℕ) (now next : Cursor) (r : GapSoFarView) (flag : Bool)
    → k ≤ prefix_len is_white_space (rest now) → next ≡ passed k now → flag ≡ (r.flag || list_any is_line_terminator (take k (rest now)))
    → whole cutter state mode next (with_flag flag r) ≡ whole cutter state mode now r
white-run cutter state reads mode zero now next r flag l moved e =
    ap (λ (c : Cursor). whole cutter state mode c (with_flag flag r)) (moved ∙ passed-nothing now)
    ∙ ap (λ b. whole cutter state mode now (with_flag b r)) (e ∙ ap (λ t. r.flag || list_any is_line_terminator t) (take-none (rest now)) ∙ or-false r.flag)
  where
    take-none : (text : Text) → take 0 text ≡ []
    take-none [] = refl
    take-none (c ∷ cs) = refl
white-run {S} cutter state reads mode (suc k) now next r flag l moved e =
    first (rest now) refl l e (λ mid after. white-run cutter state reads mode k mid next after flag)
  where
    Turn : Type 0
    Turn = (mid : Cursor) (after : GapSoFarView) → k ≤ prefix_len is_white_space (rest mid) → next ≡ passed k mid → flag ≡ (after.flag || list_any is_line_terminator (take k (rest mid)))
        → whole cutter state mode next (with_flag flag after) ≡ whole cutter state mode mid after

    first : (text : Text) → rest now ≡ text → suc k ≤ prefix_len is_white_space text → flag ≡ (r.flag || list_any is_line_terminator (take (suc k) text)) → Turn
        → whole cutter state mode next (with_flag flag r) ≡ whole cutter state mode now r
    first [] is l e more = absurd (omega (arith, l))
    first (c ∷ cs) is l e more = here (is_white_space c) refl l
      where
        here : (x : Bool) → is_white_space c ≡ x → suc k ≤ cond x (1 + prefix_len is_white_space cs) 0 → whole cutter state mode next (with_flag flag r) ≡ whole cutter state mode now r
        here false w l = absurd (omega (arith, l))
        here true w l =
            let mid : Cursor = passed 1 now in
            let after : GapSoFarView = with_flag (r.flag || is_line_terminator c) r in
            let left : rest mid ≡ cs = rest-behind now mid 1 refl ∙ ap (drop 1) is in
            let less : k ≤ prefix_len is_white_space (rest mid) = rw left (omega (arith, l)) in
            let sum : 1 + k ≡ suc k = omega arith in
            let on : next ≡ passed k mid = moved ∙ passed-later-by now (suc k) k 1 (sym sum) in
            let said : flag ≡ (after.flag || list_any is_line_terminator (take k (rest mid))) =
            e ∙ sym (or_assoc r.flag (is_line_terminator c) (list_any is_line_terminator (take k cs))) ∙ ap (λ t. (r.flag || is_line_terminator c) || list_any is_line_terminator (take k t)) (sym left) in
            more mid after less on said
            ∙ whole-step cutter state reads mode now mid r after (Blank c) (ap (cutter.read (state r.flag)) is ∙ reads.blank r.flag c cs w) refl (blank-said mode (place now) (rest now) c r)

pub white-passed : {S : Type 0} (cutter : Cutter S Element) (state : Bool → S) → ReadsElements cutter state → (mode : GapMode) (now next : Cursor) (r : GapSoFarView) (terminator : Bool)
    → next ≡ passed (prefix_len is_white_space (rest now)) now → terminator ≡ list_any is_line_terminator (take_while is_white_space (rest now))
    → whole cutter state mode next (with_flag (r.flag || terminator) r) ≡ whole cutter state mode now r
white-passed cutter state reads mode now next r terminator moved e =
    let front : take (prefix_len is_white_space (rest now)) (rest now) ≡ take_while is_white_space (rest now) =
    ap (λ n. take n (rest now)) (sym (length-take_while is_white_space (rest now))) ∙ take_while-front is_white_space (rest now) in
    white-run cutter state reads mode (prefix_len is_white_space (rest now)) now next r (r.flag || terminator) (omega arith) moved
    (ap (λ b. r.flag || b) (e ∙ ap (list_any is_line_terminator) (sym front)))

stops : (text : Text) → next_passes is_white_space (after is_white_space text) ≡ false
stops [] = refl
stops (c ∷ cs) = go (is_white_space c) refl (stops cs)
  where
    go : (x : Bool) → is_white_space c ≡ x → next_passes is_white_space (after is_white_space cs) ≡ false → next_passes is_white_space (after is_white_space (c ∷ cs)) ≡ false
    go true e more = rw (e, after) more
    go false e more = rw (e, after) e

-- no white space follows
pub white-stops : (now next : Cursor) → next ≡ passed (prefix_len is_white_space (rest now)) now → next_passes is_white_space (rest next) ≡ false
white-stops now next moved = ap (next_passes is_white_space) (after-white now next moved) ∙ stops (rest now)

pub white-left : (now next : Cursor) → next ≡ passed (prefix_len is_white_space (rest now)) now → length (rest next) ≤ length (rest now)
white-left now next moved = omega (arith, ap length (rest-behind now next _ moved), length-drop (prefix_len is_white_space (rest now)) (rest now))

-- Where nothing is left to be read

pub record Ended (mode : GapMode) (now : Cursor) (r : GapSoFarView) (w : Whole) : Type 0 where
  pub ends : w.ends ≡ now
  pub flag : r.flag ≡ w.found.line_break
  pub comments : r.comments ≡ w.found.comments
  pub faults : (r.faults ++ pending_fault r.pending (place now)) ≡ w.found.faults

pub whole-ended : {S : Type 0} (cutter : Cutter S Element) (state : Bool → S) (mode : GapMode) (now : Cursor) (r : GapSoFarView) → cutter.read (state r.flag) (rest now) ≡ None
    → Ended mode now r (whole cutter state mode now r)
unfolding whole
whole-ended cutter state mode now r none = rw (pieces_none cutter (state r.flag) (rest now) none) record {
  ends = passed-nothing now;
  flag = sym (or-false r.flag);
  comments = sym (append-nil r.comments) ∙ ap (λ l. r.comments ++ l) (sym (none-collected mode.collect));
  faults = refl;
}

pub ended-at : (mode : GapMode) (now : Cursor) (r : GapSoFarView) (v w : Whole) → v ≡ w → Ended mode now r v → Ended mode now r w
ended-at mode now r v w same e = subst (Ended mode now r) same e

pub three-ok : {T E : Type 0} (r : Result T E) (P Q R S : T → Type 0) → IfOk r P → IfOk r Q → IfOk r R → ((x : T) → P x → Q x → R x → S x) → IfOk r S
three-ok (Ok x) P Q R S p q t f = f x p q t
three-ok (Err x) P Q R S p q t f = tt

pub ended-found : (mode : GapMode) (now : Cursor) (r : GapSoFarView) (w : Whole) (g : GapView) → Ended mode now r w → g.line_break ≡ r.flag → g.comments ≡ r.comments
    → g.faults ≡ r.faults ++ pending_fault r.pending (place now) → g ≡ w.found
unfolding view
ended-found mode now r w g e a b c =
    ap (λ x. view x g.comments g.faults) (a ∙ e.flag) ∙ ap (λ x. view w.found.line_break x g.faults) (b ∙ e.comments) ∙ ap (λ x. view w.found.line_break w.found.comments x) (c ∙ e.faults)

-- Where nothing is found

pub whole-empty : {S : Type 0} (cutter : Cutter S Element) (state : Bool → S) → ReadsElements cutter state → (mode : GapMode) (now : Cursor) (r : GapSoFarView)
    → IsEmpty (whole cutter state mode now r).found → NextAddsNothing mode (place now) (rest now) r (cutter.read (state r.flag) (rest now))
unfolding whole
whole-empty {S} cutter state reads mode now r empty = go (cutter.read (state r.flag) (rest now)) refl
  where
    go : (o : Option Element) → cutter.read (state r.flag) (rest now) ≡ o → NextAddsNothing mode (place now) (rest now) r o
    go None is = tt
    go (Some e) is =
        let es = pieces cutter (state (flag_behind r.flag e)) (behind_element e (rest now)) in
        let it = with_element mode (place now) (rest now) e r in
        let found : found_with mode (place now) (rest now) (pieces cutter (state r.flag) (rest now)) r ≡ found_with mode (end_of (place now) e) (behind_element e (rest now)) es it =
        ap (λ l. found_with mode (place now) (rest now) l r) (elements-more cutter state reads r.flag (rest now) e is) ∙ sym (found-step mode (place now) (rest now) e es r) in
        let here = subst IsEmpty found empty in
        let comments = append-none it.comments _ here.0 in
        let faults = append-none it.faults _ here.1 in
        ((append-none r.comments _ comments.0).1, (append-none r.faults _ faults.0).1)

pub ended-empty : (mode : GapMode) (now : Cursor) (r : GapSoFarView) (w : Whole) → Ended mode now r w → IsEmpty w.found → pending_fault r.pending (place now) ≡ []
ended-empty mode now r w e empty = (append-none r.faults (pending_fault r.pending (place now)) (e.faults ∙ empty.1)).1

-- The two cutters

pub gap-reads : (mode : GapMode) → ReadsElements (gap_cutter mode) (λ flag. flag)
gap-reads mode = record {
  is = gap_is_cutter mode;
  spelling = λ e. refl;
  next = λ flag e. refl;
  blank = λ flag c cs w. cond_true _ _ _ w;
}

pub common-reads : ReadsElements common_cutter (λ flag. tt)
common-reads = record {
  is = common_is_cutter;
  spelling = λ e. refl;
  next = λ flag e. refl;
  blank = λ flag c cs w. cond_true _ _ _ w;
}

-- what is found from a cursor on, by the elements from there on
pub whole-is : {S : Type 0} (cutter : Cutter S Element) (state : Bool → S) (mode : GapMode) (now : Cursor) (r : GapSoFarView)
    → whole cutter state mode now r ≡ whole_of mode now r (pieces cutter (state r.flag) (rest now))
unfolding whole
whole-is cutter state mode now r = refl
