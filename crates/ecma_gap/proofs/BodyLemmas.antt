-- The body of a block comment, as its reader goes over it.
use Rattle.std.proofs.Common.{◌≡◌, ℕ, ◌+◌, ◌≤◌, cond, Bool, true, false, [], ◌∷◌, ◌++◌, length, take, drop, slice_get, slice_range, Option, Some, None, refl, sym, ap, ◌∙◌, arith, zero, suc, true≢false, encode_utf8, encode_utf8_all, drop-drop, ◌||◌, ◌==◌, not, eqb-true, codes}
use Rattle.std.specs.Prelude.{option_map, unwrap_or, is_some}
use Rattle.std.specs.List.{prefix_len, list_any}
use Rattle.ecma_place.specs.Text.{Text, count_within}
use Rattle.ecma_place.specs.Cursor.{Cursor, rest, place, passed, index_of}
use Rattle.ecma_place.specs.Character.{is_line_terminator}
use Rattle.ecma_place.specs.Run.{is_in_class}
use Rattle.ecma_place.specs.declared.run.ByteClass.TheVariants.{Block}
use Rattle.ecma_place.proofs.RunLemmas.{passed-later-by, text-passed, runs}
use Rattle.ecma_place.proofs.MoveLemmas.{place-passed-le}
use Rattle.ecma_grammar.specs.Fronts.{begins_with}
use Rattle.ecma_grammar.specs.Gaps.{comment_body, body_before}
use Rattle.ecma_grammar.proofs.LineLemmas.{Stops, within-run}
use Rattle.std.proofs.Math.Bool.{or-false, or_assoc}

body-cons : (c : ℕ) (cs : Text) → begins_with (codes "*/") (c ∷ cs) ≡ false → body_before (c ∷ cs) ≡ c ∷ body_before cs
body-cons c cs e = rw e (go (comment_body cs))
  where
    go : (o : Option Text) → unwrap_or (option_map (λ body. c ∷ body) o) (c ∷ cs) ≡ c ∷ unwrap_or o cs
    go (Some body) = refl
    go None = refl

body-none : (text : Text) → begins_with (codes "*/") text ≡ true → body_before text ≡ []
body-none [] e = refl
body-none (c ∷ cs) e = rw e refl

body-first : (text : Text) (c : ℕ) → slice_get text 0 ≡ Some c → begins_with (codes "*/") text ≡ false → body_before text ≡ c ∷ body_before (drop 1 text)
body-first [] c e stop = cc
body-first (d ∷ cs) c e stop = let same : d ≡ c = cc in body-cons d cs stop ∙ ap (λ x. x ∷ body_before cs) same

body-last : (text : Text) → slice_get text 0 ≡ None → body_before text ≡ []
body-last [] e = refl
body-last (d ∷ cs) e = cc

-- what the bytes of the class are
abbrev plain : ℕ → Bool
plain c = not (c == 42 || is_line_terminator c)

plain-stops : Stops (is_in_class Block) plain
unfolding is_line_terminator lib.Utf8.encode
plain-stops c ys e = go (c == 42) (c == 13) (c == 10) (c == 0x2028) (c == 0x2029) refl refl refl refl refl e
  where
    go : (v x y z w : Bool) → (c == 42) ≡ v → (c == 13) ≡ x → (c == 10) ≡ y → (c == 0x2028) ≡ z → (c == 0x2029) ≡ w → not (v || (((x || y) || z) || w)) ≡ false
        → prefix_len (is_in_class Block) (encode_utf8 c ++ ys) ≡ 0
    go true x y z w s a b d f e = rw (eqb-true c 42 s) refl
    go false true y z w s a b d f e = rw (eqb-true c 13 a) refl
    go false false true z w s a b d f e = rw (eqb-true c 10 b) refl
    go false false false true w s a b d f e = rw (eqb-true c 0x2028 d) refl
    go false false false false true s a b d f e = rw (eqb-true c 0x2029 f) refl
    go false false false false false s a b d f e = absurd (true≢false e)

-- plain characters are of the body, and hold no line terminator
record Jumps (k : ℕ) (text : Text) : Type 0 where
  pub longer : length (body_before text) ≡ k + length (body_before (drop k text))
  pub same : list_any is_line_terminator (body_before text) ≡ list_any is_line_terminator (body_before (drop k text))

jumps : (k : ℕ) (text : Text) → k ≤ prefix_len plain text → Jumps k text
jumps zero text l = record { longer = omega arith; same = refl }
jumps (suc k) [] l = absurd (omega (arith, l))
jumps (suc k) (c ∷ cs) l = go (c == 42) (is_line_terminator c) refl refl l (jumps k cs)
  where
    go : (x y : Bool) → (c == 42) ≡ x → is_line_terminator c ≡ y → suc k ≤ cond (not (x || y)) (1 + prefix_len plain cs) 0 → (k ≤ prefix_len plain cs → Jumps k cs) → Jumps (suc k) (c ∷ cs)
    go true y e f less more = absurd (omega (arith, less))
    go false true e f less more = absurd (omega (arith, less))
    go false false e f less more =
        let rest_of = more (omega (arith, less)) in
        let no_end : begins_with (codes "*/") (c ∷ cs) ≡ false = rw e refl in
        let body = body-cons c cs no_end in
        record {
          longer = ap length body ∙ (let it = rest_of.longer in omega (arith, it));
          same = ap (list_any is_line_terminator) body ∙ ap (λ b. b || list_any is_line_terminator (body_before cs)) f ∙ rest_of.same;
        }

-- the body from `now` on ends where that from `old` on does, and the flag says whether a line terminator stands between
pub record IsInBody (flag : Bool) (old now : Cursor) : Type 0 where
  pub same_end : passed (length (body_before (rest now))) now ≡ passed (length (body_before (rest old))) old
  pub same_flag : (flag || list_any is_line_terminator (body_before (rest now))) ≡ list_any is_line_terminator (body_before (rest old))

pub body-start : (c : Cursor) → IsInBody false c c
body-start c = record { same_end = refl; same_flag = refl }

behind : (c : Cursor) (k : ℕ) → rest (passed k c) ≡ drop k (rest c)
behind c k = sym (drop-drop k c.at c.text)

pub body-step : (flag is : Bool) (old now next : Cursor) (c : ℕ) → IsInBody flag old now → slice_get (rest now) 0 ≡ Some c → begins_with (42 ∷ 47 ∷ []) (rest now) ≡ false
    → is ≡ is_line_terminator c → next ≡ passed 1 now → IsInBody (flag || is) old next
body-step flag is old now next c on e stop test moved =
    let body = body-first (rest now) c e stop in
    let sum : length (body_before (rest now)) ≡ 1 + length (body_before (rest (passed 1 now))) = rw (behind now 1) (ap length body ∙ omega arith) in
    let any : list_any is_line_terminator (body_before (rest now)) ≡ (is_line_terminator c || list_any is_line_terminator (body_before (rest (passed 1 now)))) =
    rw (behind now 1) (ap (list_any is_line_terminator) body) in
    rw (moved, test) record {
      same_end = sym (passed-later-by now _ _ 1 sum) ∙ on.same_end;
      same_flag = or_assoc flag (is_line_terminator c) _ ∙ ap (λ b. flag || b) (sym any) ∙ on.same_flag;
    }

pub body-jump : (flag : Bool) (old now next : Cursor) (n : ℕ) → IsInBody flag old now → n ≡ prefix_len (is_in_class Block) (encode_utf8_all (rest now)) → next ≡ passed (count_within n (rest now)) now
    → IsInBody flag old next
body-jump flag old now next n on e moved =
    let k : ℕ = count_within n (rest now) in
    let jump = jumps k (rest now) (within-run (is_in_class Block) plain plain-stops (rest now) n (omega (arith, e))) in
    let sum : length (body_before (rest now)) ≡ k + length (body_before (rest (passed k now))) = rw (behind now k) jump.longer in
    let any : list_any is_line_terminator (body_before (rest now)) ≡ list_any is_line_terminator (body_before (rest (passed k now))) = rw (behind now k) jump.same in
    rw moved record { same_end = sym (passed-later-by now _ _ k sum) ∙ on.same_end; same_flag = ap (λ b. flag || b) (sym any) ∙ on.same_flag }

passed-none : (c : Cursor) (text : Text) → text ≡ [] → c ≡ passed (length text) c
passed-none c text e = rw e (let same : c.at ≡ c.at + 0 = omega arith in ap (λ (n : ℕ). let moved : Cursor = record { start = c.start; text = c.text; at = n } in moved) same)

pub body-stop : (flag : Bool) (old now : Cursor) → IsInBody flag old now → begins_with (42 ∷ 47 ∷ []) (rest now) ≡ true → now ≡ passed (length (body_before (rest old))) old
body-stop flag old now on e = passed-none now _ (body-none (rest now) e) ∙ on.same_end

pub body-stop-flag : (flag : Bool) (old now : Cursor) → IsInBody flag old now → begins_with (42 ∷ 47 ∷ []) (rest now) ≡ true → flag ≡ list_any is_line_terminator (body_before (rest old))
body-stop-flag flag old now on e = sym (or-false flag) ∙ ap (λ l. flag || list_any is_line_terminator l) (sym (body-none (rest now) e)) ∙ on.same_flag

pub body-end : (flag : Bool) (old now : Cursor) → IsInBody flag old now → slice_get (rest now) 0 ≡ None → now ≡ passed (length (body_before (rest old))) old
body-end flag old now on e = passed-none now _ (body-last (rest now) e) ∙ on.same_end

pub body-end-flag : (flag : Bool) (old now : Cursor) → IsInBody flag old now → slice_get (rest now) 0 ≡ None → flag ≡ list_any is_line_terminator (body_before (rest old))
body-end-flag flag old now on e = sym (or-false flag) ∙ ap (λ l. flag || list_any is_line_terminator l) (sym (body-last (rest now) e)) ∙ on.same_flag

-- the body is a front of the text
body-front : (text : Text) → take (length (body_before text)) text ≡ body_before text
body-front [] = refl
body-front (c ∷ cs) = go (begins_with (codes "*/") (c ∷ cs)) refl (body-front cs)
  where
    go : (x : Bool) → begins_with (codes "*/") (c ∷ cs) ≡ x → take (length (body_before cs)) cs ≡ body_before cs → take (length (body_before (c ∷ cs))) (c ∷ cs) ≡ body_before (c ∷ cs)
    go true e more = ap (λ l. take (length l) (c ∷ cs)) (body-none (c ∷ cs) e) ∙ sym (body-none (c ∷ cs) e)
    go false e more = ap (λ l. take (length l) (c ∷ cs)) (body-cons c cs e) ∙ ap (λ l. c ∷ l) more ∙ sym (body-cons c cs e)

-- an end stands behind the body where the comment has one
ended : (text : Text) → begins_with (codes "*/") (drop (length (body_before text)) text) ≡ is_some (comment_body text)
ended [] = refl
ended (c ∷ cs) = go (begins_with (codes "*/") (c ∷ cs)) refl (ended cs)
  where
    some : (o : Option Text) → is_some o ≡ is_some (option_map (λ body. c ∷ body) o)
    some (Some body) = refl
    some None = refl

    go : (x : Bool) → begins_with (codes "*/") (c ∷ cs) ≡ x → begins_with (codes "*/") (drop (length (body_before cs)) cs) ≡ is_some (comment_body cs)
        → begins_with (codes "*/") (drop (length (body_before (c ∷ cs))) (c ∷ cs)) ≡ is_some (comment_body (c ∷ cs))
    go true e more = ap (λ l. begins_with (codes "*/") (drop (length l) (c ∷ cs))) (body-none (c ∷ cs) e) ∙ e ∙ (rw e refl)
    go false e more = ap (λ l. begins_with (codes "*/") (drop (length l) (c ∷ cs))) (body-cons c cs e) ∙ more ∙ some (comment_body cs) ∙ (rw e refl)

pub body-ended : (old now : Cursor) → now ≡ passed (length (body_before (rest old))) old → begins_with (42 ∷ 47 ∷ []) (rest now) ≡ is_some (comment_body (rest old))
body-ended old now moved = rw (moved, behind old (length (body_before (rest old)))) (ended (rest old))

pub body-text : (old now : Cursor) (from to : ℕ) → now ≡ passed (length (body_before (rest old))) old → from ≡ place old → to ≡ place now
    → encode_utf8_all (slice_range now.text (index_of now from) (index_of now to)) ≡ encode_utf8_all (body_before (rest old))
body-text old now from to moved f t = text-passed old now _ from to moved f t ∙ ap encode_utf8_all (body-front (rest old))

pub ruleset bodies = (runs, body-start, body-step, body-jump, body-stop, body-stop-flag, body-end, body-end-flag)

pub ruleset body_texts = (runs, place-passed-le, body-text, body-ended)
