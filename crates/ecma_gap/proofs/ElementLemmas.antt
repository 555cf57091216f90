-- One element of a gap, as its reader goes over it.
use Rattle.std.proofs.Common.{◌≡◌, ℕ, ◌+◌, ◌-◌, ◌≤◌, ◌<◌, cond, Bool, true, false, not, ◌||◌, ◌==◌, List, [], ◌∷◌, ◌++◌, length, drop, Option, Some, None, refl, sym, ap, ◌∙◌, arith, zero, suc, replicate, length-drop, length-append, append_assoc, append-nil, eqb-true, codes, encode_utf8_all, nat_lt}
use Rattle.std.specs.Prelude.{Result, Ok, Err, OnOk, is_some, unwrap_or}
use Rattle.std.specs.List.{list_any, list_all}
use Rattle.std.proofs.lemmas.Bool.Decides.{nat_tests}
use Rattle.std.proofs.lemmas.List.Folds.{list_any-append}
use Rattle.ecma_place.specs.Atom.{borrowed_atom}
use Rattle.ecma_place.specs.Text.{Text, byte_len}
use Rattle.ecma_place.specs.Character.{is_line_terminator}
use Rattle.ecma_place.specs.Cursor.{Cursor, rest, place, passed}
use Rattle.ecma_place.specs.declared.comment.Comment.{Comment}
use Rattle.ecma_place.specs.declared.comment.CommentKind.TheVariants.{Line, Block}
use Rattle.ecma_place.proofs.RunLemmas.{passed-later-by}
use Rattle.ecma_token.specs.declared.error.SyntaxError.{UnterminatedBlockComment, TS1185, LegacyCommentInModule}
use Rattle.ecma_grammar.specs.declared.found.Blame.TheVariants.{Always, Module}
use Rattle.ecma_grammar.specs.declared.gap_mode.GapMode.{GapMode}
use Rattle.ecma_grammar.specs.Comments.{collected, paired, behind_element, can_trail_line, marker_margin, marker_text}
use Rattle.ecma_grammar.specs.Found.{Fault, span_of}
use Rattle.ecma_grammar.specs.Fronts.{begins_with, front, line, behind_line, in_line, next_is}
use Rattle.ecma_grammar.specs.Gaps.{Element, LineComment, BlockComment, OpenComment, HtmlOpening, HtmlClosing, Marker, element_text, end_of, flag_behind, block_of, body_before, comment_body, fault_between, legacy_comment, pending_fault}
use Rattle.ecma_gap.specs.GapRecords.{GapSoFarView, with_element, with_comment, with_fault, with_flag, with_opening, element_comments, AddsNothing}
use Rattle.ecma_grammar.proofs.GapForms.{spelled_line, block_ruled}
use Rattle.ecma_grammar.proofs.SignLemmas.{rest-behind, place-behind, place-within, signs-within, ascii}
use Rattle.std.proofs.Math.Bool.{or-false}

pub always-ok : {T E : Type 0} (r : Result T E) (P : Type 0) → P → OnOk r P
always-ok (Ok x) P p = p
always-ok (Err x) P p = tt

pub when-ok : {T E : Type 0} (r : Result T E) (P Q : Type 0) → OnOk r P → (P → Q) → OnOk r Q
when-ok (Ok x) P Q h f = f h
when-ok (Err x) P Q h f = tt

-- a character stands behind fewer characters than there are
pub stands-behind : (old now : Cursor) (i n : ℕ) → now ≡ passed i old → n ≤ length (rest old) → i < n → 0 < length (rest now)
stands-behind old now i n moved l less =
    rw moved (omega (arith, length-drop (old.at + i) old.text, length-drop old.at old.text))

pub ruleset passing = (stands-behind)

-- Lines

no-end-in-line : (text : Text) → list_any is_line_terminator (line text) ≡ false
no-end-in-line [] = refl
no-end-in-line (c ∷ cs) = go (is_line_terminator c) refl (no-end-in-line cs)
  where
    go : (x : Bool) → is_line_terminator c ≡ x → list_any is_line_terminator (line cs) ≡ false → list_any is_line_terminator (line (c ∷ cs)) ≡ false
    go true e more = rw (e, front) refl
    go false e more = rw (e, front) (rw e more)

-- signs and a line hold no line terminator
pub flag-stays : (flag : Bool) (signs text : Text) → list_any is_line_terminator signs ≡ false → flag ≡ (flag || list_any is_line_terminator (signs ++ line text))
flag-stays flag signs text e =
    let none : list_any is_line_terminator (signs ++ line text) ≡ false =
    list_any-append is_line_terminator signs (line text) ∙ ap (λ b. b || list_any is_line_terminator (line text)) e ∙ no-end-in-line text in
    sym (or-false flag) ∙ ap (λ b. flag || b) (sym none)

pub line-moved : (signs : Text) (old behind new : Cursor) → behind ≡ passed (length signs) old → new ≡ passed (length (line (rest behind))) behind
    → new ≡ passed (length (signs ++ line (drop (length signs) (rest old)))) old
line-moved signs old behind new b n =
    let text : rest behind ≡ drop (length signs) (rest old) = rest-behind old behind (length signs) b in
    let sum : length (signs ++ line (drop (length signs) (rest old))) ≡ length signs + length (line (rest behind)) =
    length-append signs (line (drop (length signs) (rest old))) ∙ ap (λ t. length signs + length (line t)) (sym text) in
    n ∙ ap (λ (c : Cursor). passed (length (line (rest behind))) c) b ∙ sym (passed-later-by old _ _ (length signs) sum)

pub line-place : (signs : Text) (old new : Cursor) → begins_with signs (rest old) ≡ true → new ≡ passed (length (signs ++ line (drop (length signs) (rest old)))) old
    → place new ≡ place old + byte_len (signs ++ line (drop (length signs) (rest old)))
line-place signs old new h moved = place-behind (signs ++ line (drop (length signs) (rest old))) (behind_line (drop (length signs) (rest old))) old new (spelled_line signs (rest old) h) moved

abbrev pub line_comment : ℕ → ℕ → Text → Comment
line_comment low high text = record { kind = Line; span = span_of low high; text = borrowed_atom (encode_utf8_all text) }

-- what was read, with a line comment
abbrev pub line_view : GapMode → GapSoFarView → ℕ → Bool → Option ℕ → List Fault → ℕ → Text → GapSoFarView
line_view mode r low flag pending faults high text =
    record {
      flag = flag;
      pending = pending;
      comments = r.comments ++ collected mode.collect ((line_comment low high text, r.flag || not (can_trail_line mode.prev)) ∷ []);
      faults = faults;
    }

pub line-said : (mode : GapMode) (r now : GapSoFarView) (signs : Text) (old new : Cursor) (low low' : ℕ) (pending : Option ℕ) (faults faults' : List Fault) (text text' : Text)
    → begins_with signs (rest old) ≡ true → list_any is_line_terminator signs ≡ false → new ≡ passed (length (signs ++ line (drop (length signs) (rest old)))) old
    → low ≡ low' → faults ≡ faults' → text ≡ text'
    → now ≡ line_view mode r low r.flag pending faults (place new) text
    → now ≡ line_view mode r low' (r.flag || list_any is_line_terminator (signs ++ line (drop (length signs) (rest old)))) pending faults' (place old + byte_len (signs ++ line (drop (length signs) (rest old)))) text'
line-said mode r now signs old new low low' pending faults faults' text text' h plain moved l f t e =
    let d = drop (length signs) (rest old) in
    let flag : Bool = r.flag || list_any is_line_terminator (signs ++ line d) in
    let high : ℕ = place old + byte_len (signs ++ line d) in
    e
    ∙ ap (λ n. line_view mode r n r.flag pending faults (place new) text) l
    ∙ ap (λ b. line_view mode r low' b pending faults (place new) text) (flag-stays r.flag signs d plain)
    ∙ ap (λ fs. line_view mode r low' flag pending fs (place new) text) f
    ∙ ap (λ n. line_view mode r low' flag pending faults' n text) (line-place signs old new h moved)
    ∙ ap (λ cs. line_view mode r low' flag pending faults' high cs) t

slashes-plain : list_any is_line_terminator (codes "//") ≡ false
unfolding is_line_terminator
slashes-plain = refl

pub slashes-said : (mode : GapMode) (r now : GapSoFarView) (old behind new : Cursor) (start : ℕ) → begins_with (codes "//") (rest old) ≡ true
    → start ≡ place old → behind ≡ passed 2 old → new ≡ passed (length (line (rest behind))) behind
    → now ≡ with_comment mode (rest new) (line_comment start (place new) (line (rest behind))) r
    → now ≡ with_element mode (place old) (rest old) (LineComment (line (drop 2 (rest old)))) r
slashes-said mode r now old behind new start h s b n e =
    line-said mode r now (codes "//") old new start (place old) r.pending r.faults (r.faults ++ []) (line (rest behind)) (line (drop 2 (rest old)))
    h slashes-plain (line-moved (codes "//") old behind new b n) s (sym (append-nil r.faults)) (ap line (rest-behind old behind 2 b)) e

html-opening-plain : list_any is_line_terminator (codes "<!--") ≡ false
unfolding is_line_terminator
html-opening-plain = refl

pub html-opening-said : (mode : GapMode) (r opened now : GapSoFarView) (old mid behind new : Cursor) (start low : ℕ) → begins_with (codes "<!--") (rest old) ≡ true
    → start ≡ place old → mid ≡ passed 1 old → low ≡ place mid → behind ≡ passed 3 mid → new ≡ passed (length (line (rest behind))) behind
    → opened ≡ with_opening start (Some start) r → now ≡ with_comment mode (rest new) (line_comment low (place new) (line (rest behind))) opened
    → now ≡ with_element mode (place old) (rest old) (HtmlOpening (line (drop 4 (rest old)))) r
html-opening-said mode r opened now old mid behind new start low h s m l b n o e =
    let four : behind ≡ passed 4 old = b ∙ ap (λ (c : Cursor). passed 3 c) m ∙ sym (passed-later-by old 4 3 1 (omega arith)) in
    let first : low ≡ place old + 1 = l ∙ place-within (codes "<!--") old mid 1 h refl (omega arith) m in
    line-said mode r now (codes "<!--") old new low (place old + 1) (Some (place old)) (r.faults ++ pending_fault r.pending (place old)) (r.faults ++ (pending_fault r.pending (place old) ++ []))
    (line (rest behind)) (line (drop 4 (rest old)))
    h html-opening-plain (line-moved (codes "<!--") old behind new four n) first (ap (λ l. r.faults ++ l) (sym (append-nil (pending_fault r.pending (place old))))) (ap line (rest-behind old behind 4 four))
    (e
    ∙ ap (with_comment mode (rest new) (line_comment low (place new) (line (rest behind)))) o
    ∙ ap (λ s. line_view mode r low r.flag (Some s) (r.faults ++ pending_fault r.pending s) (place new) (line (rest behind))) s)

html-closing-plain : list_any is_line_terminator (codes "-->") ≡ false
unfolding is_line_terminator
html-closing-plain = refl

pub html-closing-said : (mode : GapMode) (r opened said now : GapSoFarView) (old behind new : Cursor) (start low : ℕ) → begins_with (codes "-->") (rest old) ≡ true
    → start ≡ place old → behind ≡ passed 3 old → low ≡ place behind → new ≡ passed (length (line (rest behind))) behind
    → opened ≡ with_opening start None r → said ≡ with_fault (fault_between Module LegacyCommentInModule start low) opened
    → now ≡ with_comment mode (rest new) (line_comment low (place new) (line (rest behind))) said
    → now ≡ with_element mode (place old) (rest old) (HtmlClosing (line (drop 3 (rest old)))) r
html-closing-said mode r opened said now old behind new start low h s b l n o f e =
    let third : low ≡ place old + 3 = l ∙ place-within (codes "-->") old behind 3 h refl (omega arith) b in
    line-said mode r now (codes "-->") old new (place old + 3) (place old + 3) None
    ((r.faults ++ pending_fault r.pending (place old)) ++ legacy_comment (place old) (place old + 3)) (r.faults ++ (pending_fault r.pending (place old) ++ legacy_comment (place old) (place old + 3)))
    (line (rest behind)) (line (drop 3 (rest old)))
    h html-closing-plain (line-moved (codes "-->") old behind new b n) refl (append_assoc r.faults (pending_fault r.pending (place old)) (legacy_comment (place old) (place old + 3))) (ap line (rest-behind old behind 3 b))
    (e
    ∙ ap (with_comment mode (rest new) (line_comment low (place new) (line (rest behind)))) (f ∙ ap (with_fault (fault_between Module LegacyCommentInModule start low)) o)
    ∙ ap (λ s. line_view mode r low r.flag None ((r.faults ++ pending_fault r.pending s) ++ legacy_comment s low) (place new) (line (rest behind))) s
    ∙ ap (λ t. line_view mode r t r.flag None ((r.faults ++ pending_fault r.pending (place old)) ++ legacy_comment (place old) t) (place new) (line (rest behind))) third)

-- Markers

space_is_in_line : in_line 32 ≡ true
unfolding is_line_terminator
space_is_in_line = refl

-- a line that begins with a space
space-line : (text : Text) → next_is 32 text ≡ true → line text ≡ 32 ∷ line (drop 1 text)
space-line [] e = cc
space-line (c ∷ cs) e =
    let same : c ≡ 32 = eqb-true c 32 e in
    rw (same, front) (rw space_is_in_line refl)

-- how many characters of a marker's line stand before its comment's text
pub marker-line : (c k : ℕ) (behind there new : Cursor) → (c ≡ 62 → next_is 32 (rest behind) ≡ true) → k ≡ cond (c == 62) 1 0 → there ≡ passed k behind → new ≡ passed (length (line (rest there))) there
    → (new ≡ passed (length (line (rest behind))) behind) × (line (rest there) ≡ marker_text c (line (rest behind)))
marker-line c k behind there new space e t n = go (c == 62) refl e
  where
    text : rest there ≡ drop k (rest behind)
    text = rest-behind behind there k t

    moved : length (line (rest behind)) ≡ k + length (line (rest there)) → new ≡ passed (length (line (rest behind))) behind
    moved sum = n ∙ ap (λ (c : Cursor). passed (length (line (rest there))) c) t ∙ sym (passed-later-by behind _ _ k sum)

    go : (x : Bool) → (c == 62) ≡ x → k ≡ cond x 1 0 → (new ≡ passed (length (line (rest behind))) behind) × (line (rest there) ≡ cond x (drop 1 (line (rest behind))) (line (rest behind)))
    go true h one =
        let line_is = space-line (rest behind) (space (eqb-true c 62 h)) in
        let rest_is : rest there ≡ drop 1 (rest behind) = text ∙ ap (λ n. drop n (rest behind)) one in (
          moved (let same = ap (λ t. length (line t)) (sym rest_is) in omega (arith, ap length line_is, same, one)),
          ap line rest_is ∙ ap (drop 1) (sym line_is),
        )
    go false h none =
        let rest_is : rest there ≡ rest behind = text ∙ ap (λ n. drop n (rest behind)) none in
        let same = ap (λ t. length (line t)) (sym rest_is) in
        (moved (omega (arith, same, none)), ap line rest_is)

all-signs : (c n : ℕ) → c < 128 → list_all ascii (replicate n c) ≡ true
all-signs c zero l = refl
all-signs c (suc n) l = let low : nat_lt c 128 ≡ true = grind (arith, nat_tests) in rw low (all-signs c n l)

plain-signs : (c n : ℕ) → is_line_terminator c ≡ false → list_any is_line_terminator (replicate n c) ≡ false
plain-signs c zero e = refl
plain-signs c (suc n) e = rw e (plain-signs c n e)

pub marker-places : (c : ℕ) (old now : Cursor) (n : ℕ) → begins_with (replicate 7 c) (rest old) ≡ true → c < 128 → n ≤ 7 → now ≡ passed n old → place now ≡ place old + n
marker-places c old now n h l less moved = place-within (replicate 7 c) old now n h (all-signs c 7 l) less moved

pub two-moves : (old mid now : Cursor) (m n k : ℕ) → mid ≡ passed m old → now ≡ passed n mid → m + n ≡ k → now ≡ passed k old
two-moves old mid now m n k a b sum = b ∙ ap (λ (c : Cursor). passed n c) a ∙ sym (passed-later-by old k n m (sym sum))

pub margin-within : (c : ℕ) → marker_margin c ≤ 7
margin-within c = go (c == 61 || c == 62)
  where
    go : (x : Bool) → cond x 3 2 ≤ 7
    go true = omega arith
    go false = omega arith

pub signs-left : (signs : Text) (old now : Cursor) (n : ℕ) → begins_with signs (rest old) ≡ true → now ≡ passed n old → length signs - n ≤ length (rest now)
signs-left signs old now n h moved = omega (arith, signs-within signs (rest old) h, ap length (rest-behind old now n moved), length-drop n (rest old))

pub space-left : (c k : ℕ) (text : Text) → k ≡ cond (c == 62) 1 0 → (c ≡ 62 → next_is 32 text ≡ true) → k ≤ length text
space-left c k text e space = go (c == 62) refl e
  where
    some : (text : Text) → next_is 32 text ≡ true → 1 ≤ length text
    some [] h = cc
    some (d ∷ ds) h = omega arith

    go : (x : Bool) → (c == 62) ≡ x → k ≡ cond x 1 0 → k ≤ length text
    go true h one = let there = some text (space (eqb-true c 62 h)) in omega (arith, there, one)
    go false h none = omega (arith, none)

pub marker-said : (mode : GapMode) (r opened said now : GapSoFarView) (c k : ℕ) (old mid behind there new : Cursor) (start low high : ℕ) → begins_with (replicate 7 c) (rest old) ≡ true
    → c < 128 → is_line_terminator c ≡ false → (c ≡ 62 → next_is 32 (drop 7 (rest old)) ≡ true)
    → start ≡ place old → mid ≡ passed (marker_margin c) old → marker_margin c ≤ 7 → low ≡ place mid → behind ≡ passed 7 old → high ≡ place behind
    → k ≡ cond (c == 62) 1 0 → there ≡ passed k behind → new ≡ passed (length (line (rest there))) there
    → opened ≡ with_opening start None r → said ≡ with_fault (fault_between Always TS1185 start high) opened
    → now ≡ with_comment mode (rest new) (line_comment low (place new) (line (rest there))) said
    → now ≡ with_element mode (place old) (rest old) (Marker c (line (drop 7 (rest old)))) r
marker-said mode r opened said now c k old mid behind there new start low high h ascii plain space s m margin l b hi ke t n o f e =
    let text : rest behind ≡ drop 7 (rest old) = rest-behind old behind 7 b in
    let parts = marker-line c k behind there new (λ is. rw text (space is)) ke t n in
    let first : low ≡ place old + marker_margin c = l ∙ marker-places c old mid (marker_margin c) h ascii margin m in
    let seventh : high ≡ place old + 7 = hi ∙ marker-places c old behind 7 h ascii (omega arith) b in
    line-said mode r now (replicate 7 c) old new low (place old + marker_margin c) None
    ((r.faults ++ pending_fault r.pending (place old)) ++ (fault_between Always TS1185 (place old) (place old + 7) ∷ [])) (r.faults ++ (pending_fault r.pending (place old) ++ (fault_between Always TS1185 (place old) (place old + 7) ∷ [])))
    (line (rest there)) (marker_text c (line (drop 7 (rest old))))
    h (plain-signs c 7 plain) (line-moved (replicate 7 c) old behind new b parts.0) first
    (append_assoc r.faults (pending_fault r.pending (place old)) (fault_between Always TS1185 (place old) (place old + 7) ∷ []))
    (parts.1 ∙ ap (λ t. marker_text c (line t)) text)
    (e
    ∙ ap (with_comment mode (rest new) (line_comment low (place new) (line (rest there)))) (f ∙ ap (with_fault (fault_between Always TS1185 start high)) o)
    ∙ ap (λ s. line_view mode r low r.flag None ((r.faults ++ pending_fault r.pending s) ++ (fault_between Always TS1185 s high ∷ [])) (place new) (line (rest there))) s
    ∙ ap (λ hi. line_view mode r low r.flag None ((r.faults ++ pending_fault r.pending (place old)) ++ (fault_between Always TS1185 (place old) hi ∷ [])) (place new) (line (rest there))) seventh)

pub marker-moved : (c k : ℕ) (old behind there new : Cursor) → (c ≡ 62 → next_is 32 (drop 7 (rest old)) ≡ true) → behind ≡ passed 7 old → k ≡ cond (c == 62) 1 0
    → there ≡ passed k behind → new ≡ passed (length (line (rest there))) there → new ≡ passed (length (element_text (Marker c (line (drop 7 (rest old)))))) old
marker-moved c k old behind there new space b ke t n =
    let text : rest behind ≡ drop 7 (rest old) = rest-behind old behind 7 b in
    line-moved (replicate 7 c) old behind new b (marker-line c k behind there new (λ is. rw text (space is)) ke t n).0

-- Block comments

pub closed-length : (o : Option Text) (text : Text) → is_some o ≡ true → length (element_text (block_of o text)) ≡ 2 + length (unwrap_or o text) + 2
closed-length (Some body) text h = omega (arith, length-append body (codes "*/"))
closed-length None text h = cc

pub open-length : (o : Option Text) (text : Text) → is_some o ≡ false → length (element_text (block_of o text)) ≡ 2 + length (unwrap_or o text)
open-length (Some body) text h = cc
open-length None text h = omega arith

opening-plain : (text : Text) → list_any is_line_terminator (codes "/*" ++ text) ≡ list_any is_line_terminator text
unfolding is_line_terminator
opening-plain text = refl

ending-plain : list_any is_line_terminator (codes "*/") ≡ false
unfolding is_line_terminator
ending-plain = refl

-- a line terminator stands in the comment where one stands in its body
pub block-flag : (o : Option Text) (text : Text) → list_any is_line_terminator (element_text (block_of o text)) ≡ list_any is_line_terminator (unwrap_or o text)
block-flag (Some body) text =
    opening-plain (body ++ codes "*/") ∙ list_any-append is_line_terminator body (codes "*/") ∙ ap (λ b. list_any is_line_terminator body || b) ending-plain
    ∙ or-false (list_any is_line_terminator body)
block-flag None text = opening-plain text

abbrev pub block_comment : ℕ → ℕ → List ℕ → Comment
block_comment low high bytes = record { kind = Block; span = span_of low high; text = borrowed_atom bytes }

abbrev block_view : GapMode → GapSoFarView → Bool → Text → Comment → GapSoFarView
block_view mode r flag behind comment =
    record { flag = flag; pending = r.pending; comments = r.comments ++ collected mode.collect (paired mode.prev r.flag behind (comment ∷ [])); faults = r.faults }

closed-view : (mode : GapMode) (r : GapSoFarView) (n : ℕ) (text : Text) (o : Option Text) (d : Text) → is_some o ≡ true
    → with_element mode n text (block_of o d) r
    ≡ block_view mode r (flag_behind r.flag (block_of o d)) (behind_element (block_of o d) text) (block_comment n (end_of n (block_of o d)) (encode_utf8_all (unwrap_or o d)))
closed-view mode r n text (Some body) d h =
    let e = BlockComment body in
    ap (λ fs. let view : GapSoFarView = record { flag = flag_behind r.flag e; pending = r.pending; comments = r.comments ++ element_comments mode r.flag n text e; faults = fs } in view) (append-nil r.faults)
closed-view mode r n text None d h = cc

pub none-collected : {A : Type 0} (b : Bool) → collected {A = A} b [] ≡ []
none-collected true = refl
none-collected false = refl

open-view : (mode : GapMode) (r : GapSoFarView) (n : ℕ) (text : Text) (o : Option Text) (d : Text) → is_some o ≡ false
    → with_element mode n text (block_of o d) r
    ≡ with_flag (flag_behind r.flag (block_of o d)) (with_fault (fault_between Always UnterminatedBlockComment n (end_of n (block_of o d))) r)
open-view mode r n text (Some body) d h = cc
open-view mode r n text None d h =
    let e = OpenComment d in
    ap (λ cs. let view : GapSoFarView = record { flag = flag_behind r.flag e; pending = r.pending; comments = cs; faults = r.faults ++ (fault_between Always UnterminatedBlockComment n (end_of n e) ∷ []) } in view)
    (ap (λ cs. r.comments ++ cs) (none-collected {A = Comment × Bool} mode.collect) ∙ append-nil r.comments)

-- where the reader stands behind a block comment, and what it has read
pub record Blocks (old : Cursor) (e : Element) (new : Cursor) : Type 0 where
  pub moved : new ≡ passed (length (element_text e)) old
  pub ends : place new ≡ end_of (place old) e
  pub behind : rest new ≡ behind_element e (rest old)

blocks : (old new : Cursor) (d : Text) → begins_with (codes "/*") (rest old) ≡ true → d ≡ drop 2 (rest old) → new ≡ passed (length (element_text (block_of (comment_body d) d))) old
    → Blocks old (block_of (comment_body d) d) new
blocks old new d h is moved =
    let ruled = rw (sym is) at (block_ruled true true (rest old) h) in
    record {
      moved = moved;
      ends = place-behind (element_text (block_of (comment_body d) d)) ruled.0 old new ruled.1 moved;
      behind = rest-behind old new _ moved;
    }

pub block-closed : (old behind there new : Cursor) → begins_with (codes "/*") (rest old) ≡ true → behind ≡ passed 2 old → there ≡ passed (length (body_before (rest behind))) behind
    → is_some (comment_body (rest behind)) ≡ true → new ≡ passed 2 there → Blocks old (block_of (comment_body (rest behind)) (rest behind)) new
block-closed old behind there new h b t some n =
    let d = rest behind in
    let moved : new ≡ passed (length (element_text (block_of (comment_body d) d))) old =
    two-moves old there new (2 + length (body_before d)) 2 _ (two-moves old behind there 2 _ _ b t refl) n (sym (closed-length (comment_body d) d some)) in
    blocks old new d h (rest-behind old behind 2 b) moved

pub block-open : (old behind there : Cursor) → begins_with (codes "/*") (rest old) ≡ true → behind ≡ passed 2 old → there ≡ passed (length (body_before (rest behind))) behind
    → is_some (comment_body (rest behind)) ≡ false → Blocks old (block_of (comment_body (rest behind)) (rest behind)) there
block-open old behind there h b t none =
    let d = rest behind in
    blocks old there d h (rest-behind old behind 2 b) (two-moves old behind there 2 _ _ b t (sym (open-length (comment_body d) d none)))

pub closed-said : (mode : GapMode) (r said now : GapSoFarView) (old behind new : Cursor) (start high : ℕ) (bytes : List ℕ) (terminator : Bool) → is_some (comment_body (rest behind)) ≡ true
    → Blocks old (block_of (comment_body (rest behind)) (rest behind)) new → start ≡ place old → high ≡ place new → bytes ≡ encode_utf8_all (body_before (rest behind))
    → terminator ≡ list_any is_line_terminator (body_before (rest behind))
    → said ≡ with_comment mode (rest new) (block_comment start high bytes) r → now ≡ with_flag (said.flag || terminator) said
    → now ≡ with_element mode (place old) (rest old) (block_of (comment_body (rest behind)) (rest behind)) r
closed-said mode r said now old behind new start high bytes terminator some is s hi by te e f =
    let d = rest behind in
    let o = comment_body d in
    let it = block_of o d in
    let flag : (r.flag || terminator) ≡ flag_behind r.flag it = ap (λ b. r.flag || b) (te ∙ sym (block-flag o d)) in
    let comment : block_comment start high bytes ≡ block_comment (place old) (end_of (place old) it) (encode_utf8_all (body_before d)) =
    ap (λ n. block_comment n high bytes) s ∙ ap (λ n. block_comment (place old) n bytes) (hi ∙ is.ends) ∙ ap (λ (l : List ℕ). block_comment (place old) (end_of (place old) it) l) by in
    f ∙ ap (λ (v : GapSoFarView). with_flag (v.flag || terminator) v) e
    ∙ ap (λ b. block_view mode r b (rest new) (block_comment start high bytes)) flag
    ∙ ap (λ t. block_view mode r (flag_behind r.flag it) t (block_comment start high bytes)) is.behind
    ∙ ap (λ c. block_view mode r (flag_behind r.flag it) (behind_element it (rest old)) c) comment
    ∙ sym (closed-view mode r (place old) (rest old) o d some)

pub open-said : (mode : GapMode) (r said now : GapSoFarView) (old behind new : Cursor) (start high : ℕ) (terminator : Bool) → is_some (comment_body (rest behind)) ≡ false
    → Blocks old (block_of (comment_body (rest behind)) (rest behind)) new → start ≡ place old → high ≡ place new
    → terminator ≡ list_any is_line_terminator (body_before (rest behind))
    → said ≡ with_fault (fault_between Always UnterminatedBlockComment start high) r → now ≡ with_flag (said.flag || terminator) said
    → now ≡ with_element mode (place old) (rest old) (block_of (comment_body (rest behind)) (rest behind)) r
open-said mode r said now old behind new start high terminator none is s hi te e f =
    let d = rest behind in
    let o = comment_body d in
    let it = block_of o d in
    let flag : (r.flag || terminator) ≡ flag_behind r.flag it = ap (λ b. r.flag || b) (te ∙ sym (block-flag o d)) in
    f ∙ ap (λ (v : GapSoFarView). with_flag (v.flag || terminator) v) e
    ∙ ap (λ b. with_flag b (with_fault (fault_between Always UnterminatedBlockComment start high) r)) flag
    ∙ ap (λ n. with_flag (flag_behind r.flag it) (with_fault (fault_between Always UnterminatedBlockComment n high) r)) s
    ∙ ap (λ n. with_flag (flag_behind r.flag it) (with_fault (fault_between Always UnterminatedBlockComment (place old) n) r)) (hi ∙ is.ends)
    ∙ sym (open-view mode r (place old) (rest old) o d none)

-- what is added is nothing
pub open-free : (mode : GapMode) (r : GapSoFarView) (n : ℕ) (text : Text) (o : Option Text) (d : Text) → is_some o ≡ false → AddsNothing mode n text r (block_of o d) → ⊥
open-free mode r n text (Some body) d none h = cc
open-free mode r n text None d none h = let no = h.1 in cc
