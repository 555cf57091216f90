-- Pieces of template text that mean what is written: runs of bytes are such pieces, and what holds of those behind them holds
-- of all.
use Rattle.std.proofs.Common.{◌≡◌, ℕ, zero, suc, ◌+◌, ◌≤◌, ◌<◌, Bool, true, false, not, cond, ◌&&◌, ◌||◌, ◌==◌, List, [], ◌∷◌, ◌++◌, length, take, drop, Option, Some, None, refl, sym, ap, ◌∙◌, arith, append_assoc, append-nil, length-append, length-drop, subst, true≢false, eqb-true, encode_utf8, encode_utf8_all, slice_get}
use Rattle.std.specs.List.{list_all, list_any, prefix_len}
use Rattle.std.proofs.Math.Bool.{or-false, or_assoc}
use Rattle.std.proofs.lemmas.Bool.{and_parts}
use Rattle.std.proofs.lemmas.List.{take_at}
use Rattle.std.proofs.lemmas.List.Folds.{list_all-append, list_any-append}
use Rattle.std.proofs.lemmas.Str.{encodes-append}
use Rattle.ecma_place.specs.Text.{Text, byte_len, count_within, slice_between}
use Rattle.ecma_place.specs.Cursor.{Cursor, HasPlace, rest, place, passed}
use Rattle.ecma_place.specs.Character.{is_line_terminator}
use Rattle.ecma_place.specs.Run.{is_in_class}
use Rattle.ecma_place.specs.declared.run.ByteClass.{ByteClass}
use Rattle.ecma_place.specs.declared.run.ByteClass.TheVariants.{Template}
use Rattle.ecma_place.proofs.ChunkLemmas.{chunk-run}
use Rattle.ecma_place.proofs.MoveLemmas.{byte_len-append, place-passed}
use Rattle.ecma_place.proofs.RunLemmas.{passed-later-by, text-passed}
use Rattle.ecma_token.specs.View.{ErrorView}
use Rattle.ecma_grammar.specs.Fronts.{next_is}
use Rattle.ecma_grammar.specs.Pieces.{pieces, remainder, spelled}
use Rattle.ecma_grammar.specs.Templates as templates
use Rattle.ecma_grammar.specs.Templates.{TemplatePiece, Break, Escaped, piece_text, is_verbatim, is_break, cooked_piece, cooked_text, newer, piece_refusal, last_refusal, template_piece, template_cutter}
use Rattle.ecma_grammar.proofs.LineLemmas.{Stops, within-run}
use Rattle.ecma_grammar.proofs.SignLemmas.{rest-behind}
use Rattle.ecma_grammar.proofs.PieceLemmas.{pieces_more, tiling}
use Rattle.ecma_template.specs.VerbatimTexts.{PassesVerbatim, break_if_verbatim, run_length, verbatim_text}
use Rattle.ecma_template.proofs.TemplateLaws.{template_is_cutter, same_text}
use Rattle.ecma_template.proofs.TemplatePieces.{pieces_at, behind_at}

-- the characters of the run

abbrev itself : ℕ → Bool
itself c = not (((c == 96 || c == 36) || c == 92) || is_line_terminator c)

itself-stops : Stops (is_in_class Template) itself
unfolding is_line_terminator lib.Utf8.encode
itself-stops c ys e = go (c == 96) (c == 36) (c == 92) (c == 13) (c == 10) (c == 0x2028) (c == 0x2029) refl refl refl refl refl refl refl e
  where
    go : (u v t x y z w : Bool) → (c == 96) ≡ u → (c == 36) ≡ v → (c == 92) ≡ t → (c == 13) ≡ x → (c == 10) ≡ y → (c == 0x2028) ≡ z → (c == 0x2029) ≡ w
        → not (((u || v) || t) || (((x || y) || z) || w)) ≡ false → prefix_len (is_in_class Template) (encode_utf8 c ++ ys) ≡ 0
    go true v t x y z w r s q a b d f e = rw (eqb-true c 96 r) refl
    go false true t x y z w r s q a b d f e = rw (eqb-true c 36 s) refl
    go false false true x y z w r s q a b d f e = rw (eqb-true c 92 q) refl
    go false false false true y z w r s q a b d f e = rw (eqb-true c 13 a) refl
    go false false false false true z w r s q a b d f e = rw (eqb-true c 10 b) refl
    go false false false false false true w r s q a b d f e = rw (eqb-true c 0x2028 d) refl
    go false false false false false false true r s q a b d f e = rw (eqb-true c 0x2029 f) refl
    go false false false false false false false r s q a b d f e = absurd (true≢false e)

-- k such characters are as many pieces, before those that follow
record Itself (k : ℕ) (text : Text) : Type 0 where
  between : List TemplatePiece
  all : pieces template_cutter tt text ≡ between ++ pieces template_cutter tt (drop k text)
  verbatim : list_all is_verbatim between ≡ true
  line_break : list_any is_break between ≡ false
  size : length (spelled template_cutter between) ≡ k

itself-more : (k c : ℕ) (cs : Text) → (c == 96) ≡ false → (c == 36) ≡ false → (c == 92) ≡ false → is_line_terminator c ≡ false → Itself k cs → Itself (suc k) (c ∷ cs)
itself-more k c cs a b d f behind = record {
  between = templates.Plain c ∷ behind.between;
  all = rw (a, b, d, f) (ap (λ ps. templates.Plain c ∷ ps) behind.all);
  verbatim = behind.verbatim;
  line_break = behind.line_break;
  size = let it = behind.size in omega (arith, it);
}

run-pieces : (k : ℕ) (text : Text) → k ≤ prefix_len itself text → Itself k text
run-pieces zero text l = record { between = []; all = refl; verbatim = refl; line_break = refl; size = refl }
run-pieces (suc k) [] l = absurd (omega (arith, l))
run-pieces (suc k) (c ∷ cs) l = go (c == 96) (c == 36) (c == 92) (is_line_terminator c) refl refl refl refl l (run-pieces k cs)
  where
    go : (x y z w : Bool) → (c == 96) ≡ x → (c == 36) ≡ y → (c == 92) ≡ z → is_line_terminator c ≡ w → suc k ≤ cond (not (((x || y) || z) || w)) (1 + prefix_len itself cs) 0
        → (k ≤ prefix_len itself cs → Itself k cs) → Itself (suc k) (c ∷ cs)
    go true y z w a b d f less more = absurd (omega (arith, less))
    go false true z w a b d f less more = absurd (omega (arith, less))
    go false false true w a b d f less more = absurd (omega (arith, less))
    go false false false true a b d f less more = absurd (omega (arith, less))
    go false false false false a b d f less more = itself-more k c cs a b d f (more (omega (arith, less)))

pub run-passes : (old now : Cursor) → now ≡ passed (run_length (rest old)) old → PassesVerbatim false old now
run-passes old now moved =
    let k : ℕ = run_length (rest old) in
    let run = run-pieces k (rest old) (within-run (is_in_class Template) itself itself-stops (rest old) _ (omega arith)) in
    record {
      between = run.between;
      all = run.all ∙ ap (λ t. run.between ++ pieces template_cutter tt t) (sym (rest-behind old now k moved));
      verbatim = run.verbatim;
      line_break = sym run.line_break;
      moved = moved ∙ ap (λ (n : ℕ). passed n old) (sym run.size);
    }

-- as far as the lanes of the 16 bytes at the cursor show

lanes-run : (c : Cursor) (chunk : List ℕ) (n : ℕ) → chunk ≡ take 16 (encode_utf8_all (rest c)) → n ≡ prefix_len (is_in_class Template) chunk → n < 16
    → n ≡ prefix_len (is_in_class Template) (encode_utf8_all (rest c))
lanes-run c chunk n is e short = chunk-run (is_in_class Template) 16 n (encode_utf8_all (rest c)) (e ∙ ap (prefix_len (is_in_class Template)) is) short

pub lanes-HasPlace : (c : Cursor) (chunk : List ℕ) (n : ℕ) → chunk ≡ take 16 (encode_utf8_all (rest c)) → n ≡ prefix_len (is_in_class Template) chunk → n < 16
    → ((class : ByteClass) → HasPlace c (place c + prefix_len (is_in_class class) (encode_utf8_all (rest c)))) → HasPlace c (place c + n)
lanes-HasPlace c chunk n is e short places =
    let all = lanes-run c chunk n is e short in
    rw all (places Template)

pub lanes-passed : (c new : Cursor) (chunk : List ℕ) (n : ℕ) → chunk ≡ take 16 (encode_utf8_all (rest c)) → n ≡ prefix_len (is_in_class Template) chunk → n < 16
    → new ≡ passed (count_within n (rest c)) c → new ≡ passed (run_length (rest c)) c
lanes-passed c new chunk n is e short moved = moved ∙ ap (λ (m : ℕ). passed (count_within m (rest c)) c) (lanes-run c chunk n is e short)

-- where no piece begins that means what is written

pub record NoneVerbatim (text : Text) : Type 0 where
  pub value : break_if_verbatim (template_piece text) ≡ None
  pub empty : verbatim_text (template_piece text) ≡ []

pub stop-none : (text : Text) (c : ℕ) → slice_get text 0 ≡ Some c → (c == 96 || (c == 36 && next_is 123 (drop 1 text))) ≡ true → NoneVerbatim text
stop-none [] c e stop = cc
stop-none (d ∷ ds) c e stop =
    let same : d ≡ c = cc in
    let here : (d == 96 || (d == 36 && next_is 123 ds)) ≡ true = rw same stop in
    record { value = rw here refl; empty = rw here refl }

pub backslash-none : (text : Text) → slice_get text 0 ≡ Some 92 → NoneVerbatim text
backslash-none [] e = cc
backslash-none (d ∷ ds) e = let same : d ≡ 92 = cc in rw same (record { value = refl; empty = refl })

pub return-none : (text : Text) → slice_get text 0 ≡ Some 13 → NoneVerbatim text
unfolding is_line_terminator
return-none [] e = cc
return-none (d ∷ ds) e = let same : d ≡ 13 = cc in rw same (go (next_is 10 ds) refl)
  where
    go : (x : Bool) → next_is 10 ds ≡ x → NoneVerbatim (13 ∷ ds)
    go true f = record { value = rw f refl; empty = rw f refl }
    go false f = record { value = rw f refl; empty = rw f refl }

pub stays : (text : Text) (c : Cursor) → NoneVerbatim text → c ≡ passed (length (verbatim_text (template_piece text))) c
stays text c none =
    let same : c.at ≡ c.at + length (verbatim_text (template_piece text)) = omega (arith, ap length none.empty) in
    ap (λ (n : ℕ). let moved : Cursor = record { start = c.start; text = c.text; at = n } in moved) same

-- pieces in a row

spelled-append : (xs ys : List TemplatePiece) → spelled template_cutter (xs ++ ys) ≡ spelled template_cutter xs ++ spelled template_cutter ys
spelled-append [] ys = refl
spelled-append (x ∷ xs) ys = ap (λ t. piece_text x ++ t) (spelled-append xs ys) ∙ sym (append_assoc (piece_text x) (spelled template_cutter xs) (spelled template_cutter ys))

pub passes-on : (f g : Bool) (old now next : Cursor) → PassesVerbatim f old now → PassesVerbatim g now next → PassesVerbatim (f || g) old next
passes-on f g old now next a b =
    let size : length (spelled template_cutter (a.between ++ b.between)) ≡ length (spelled template_cutter a.between) + length (spelled template_cutter b.between) =
    ap length (spelled-append a.between b.between) ∙ length-append (spelled template_cutter a.between) (spelled template_cutter b.between) in
    record {
      between = a.between ++ b.between;
      all = a.all ∙ ap (λ ps. a.between ++ ps) b.all ∙ sym (append_assoc a.between b.between (pieces_at next));
      verbatim = list_all-append is_verbatim a.between b.between ∙ (rw (a.verbatim, b.verbatim) refl);
      line_break = rw (a.line_break, b.line_break) (sym (list_any-append is_break a.between b.between));
      moved = b.moved ∙ ap (passed (length (spelled template_cutter b.between))) a.moved ∙ sym (passed-later-by old _ _ _ size);
    }

pub passes-run : (f : Bool) (old now next : Cursor) → PassesVerbatim f old now → PassesVerbatim false now next → PassesVerbatim f old next
passes-run f old now next a b = subst (λ g. PassesVerbatim g old next) (or-false f) (passes-on f false old now next a b)

-- a piece that is eaten
pub eaten-passes : (flag : Bool) (old now : Cursor) → Some flag ≡ break_if_verbatim (template_piece (rest old)) → now ≡ passed (length (verbatim_text (template_piece (rest old)))) old
    → PassesVerbatim flag old now
eaten-passes flag old now e moved = go (template_piece (rest old)) refl e moved
  where
    here : (piece : TemplatePiece) (x : Bool) → template_piece (rest old) ≡ Some piece → is_verbatim piece ≡ x → Some flag ≡ cond x (Some (is_break piece)) None
        → now ≡ passed (length (cond x (piece_text piece) [])) old → PassesVerbatim flag old now
    here piece false read v e moved = cc
    here piece true read v e moved =
        let text = piece_text piece in
        let same : flag ≡ is_break piece = cc in record {
          between = piece ∷ [];
          all = pieces_more template_cutter template_is_cutter tt (rest old) piece read ∙ ap (λ t. piece ∷ pieces template_cutter tt t) (sym (rest-behind old now (length text) moved));
          verbatim = rw v refl;
          line_break = same ∙ sym (or-false (is_break piece));
          moved = moved ∙ ap (λ t. passed (length t) old) (sym (append-nil text));
        }

    go : (o : Option TemplatePiece) → template_piece (rest old) ≡ o → Some flag ≡ break_if_verbatim o → now ≡ passed (length (verbatim_text o)) old → PassesVerbatim flag old now
    go None read e moved = cc
    go (Some piece) read e moved = here piece (is_verbatim piece) read refl e moved

-- what is left is less
pub passes-shorter : (flag : Bool) (old now : Cursor) → PassesVerbatim flag old now → length (rest now) ≤ length (rest old)
passes-shorter flag old now is = omega (arith, ap length (rest-behind old now _ is.moved), length-drop (length (spelled template_cutter is.between)) (rest old))

-- what holds of the pieces that are left holds of all

pub passes-taken : (flag : Bool) (old now : Cursor) → (is : PassesVerbatim flag old now) → take (length (spelled template_cutter is.between)) (rest old) ≡ spelled template_cutter is.between
passes-taken flag old now is =
    let front = spelled template_cutter is.between in
    let more = spelled template_cutter (pieces_at now) ++ remainder template_cutter tt (rest old) in
    let whole : front ++ more ≡ rest old =
    sym (append_assoc front (spelled template_cutter (pieces_at now)) (remainder template_cutter tt (rest old)))
    ∙ ap (λ t. t ++ remainder template_cutter tt (rest old)) (sym (ap (spelled template_cutter) is.all ∙ spelled-append is.between (pieces_at now)))
    ∙ tiling template_cutter template_is_cutter tt (rest old) in
    ap (take (length front)) (sym whole) ∙ take_at front more (length front) refl

pub passes-place : (flag : Bool) (old now : Cursor) → (is : PassesVerbatim flag old now) → place now ≡ place old + byte_len (spelled template_cutter is.between)
passes-place flag old now is = place-passed old now _ is.moved ∙ ap (λ t. place old + byte_len t) (passes-taken flag old now is)

pub and-over : (was flag : Bool) (old now : Cursor) (all : Bool) → PassesVerbatim flag old now → (was && list_all is_verbatim (pieces_at old)) ≡ all → (was && list_all is_verbatim (pieces_at now)) ≡ all
and-over was flag old now all is before =
    let same : list_all is_verbatim (pieces_at old) ≡ list_all is_verbatim (pieces_at now) =
    ap (list_all is_verbatim) is.all ∙ list_all-append is_verbatim is.between (pieces_at now) ∙ ap (λ b. b && list_all is_verbatim (pieces_at now)) is.verbatim in
    ap (λ b. was && b) (sym same) ∙ before

pub or-over : (was flag : Bool) (old now : Cursor) (any : Bool) → PassesVerbatim flag old now → (was || list_any is_break (pieces_at old)) ≡ any → ((was || flag) || list_any is_break (pieces_at now)) ≡ any
or-over was flag old now any is before =
    let same : list_any is_break (pieces_at old) ≡ (flag || list_any is_break (pieces_at now)) =
    ap (list_any is_break) is.all ∙ list_any-append is_break is.between (pieces_at now) ∙ ap (λ b. b || list_any is_break (pieces_at now)) (sym is.line_break) in
    or_assoc was flag (list_any is_break (pieces_at now)) ∙ ap (λ b. was || b) (sym same) ∙ before

last-over : (n : ℕ) (was : Option ErrorView) (ps qs : List TemplatePiece) → list_all is_verbatim ps ≡ true
    → last_refusal n was (ps ++ qs) ≡ last_refusal (n + byte_len (spelled template_cutter ps)) was qs
last-over n was [] qs h = let same : n ≡ n + 0 = omega arith in ap (λ (i : ℕ). last_refusal i was qs) same
last-over n was (piece ∷ more) qs h =
    let (here, behind) = and_parts (is_verbatim piece) (list_all is_verbatim more) h in
    let k : ℕ = byte_len (piece_text piece) in
    let sum : n + k + byte_len (spelled template_cutter more) ≡ n + byte_len (piece_text piece ++ spelled template_cutter more) =
    omega (arith, byte_len-append (piece_text piece) (spelled template_cutter more)) in
    ap (λ o. last_refusal (n + k) (newer n was o) (more ++ qs)) (unrefused piece here) ∙ last-over (n + k) was more qs behind ∙ ap (λ (i : ℕ). last_refusal i was qs) sum
  where
    unrefused : (piece : TemplatePiece) → is_verbatim piece ≡ true → piece_refusal piece ≡ None
    unrefused (templates.Plain c) h = refl
    unrefused (Break spelling) h = refl
    unrefused (Escaped e) h = cc

pub refusal-over : (was : Option ErrorView) (flag : Bool) (old now : Cursor) (last : Option ErrorView) → PassesVerbatim flag old now
    → last_refusal (place old) was (pieces_at old) ≡ last → last_refusal (place now) was (pieces_at now) ≡ last
refusal-over was flag old now last is before =
    ap (λ (i : ℕ). last_refusal i was (pieces_at now)) (passes-place flag old now is) ∙ sym (last-over (place old) was is.between (pieces_at now) is.verbatim)
    ∙ ap (last_refusal (place old) was) (sym is.all) ∙ before

pub behind-over : (flag : Bool) (old now : Cursor) → PassesVerbatim flag old now → behind_at now ≡ behind_at old
behind-over flag old now is =
    let size : length (spelled template_cutter (pieces_at old)) ≡ length (spelled template_cutter is.between) + length (spelled template_cutter (pieces_at now)) =
    ap (λ ps. length (spelled template_cutter ps)) is.all ∙ ap length (spelled-append is.between (pieces_at now)) ∙ length-append (spelled template_cutter is.between) (spelled template_cutter (pieces_at now)) in
    sym (passed-later-by old _ _ _ size ∙ ap (passed (length (spelled template_cutter (pieces_at now)))) (sym is.moved))

cooked-append : (xs ys : List TemplatePiece) → cooked_text (xs ++ ys) ≡ cooked_text xs ++ cooked_text ys
cooked-append [] ys = refl
cooked-append (x ∷ xs) ys = ap (λ t. cooked_piece x ++ t) (cooked-append xs ys) ∙ sym (append_assoc (cooked_piece x) (cooked_text xs) (cooked_text ys))

-- with the text between two cursors added, what was added and what is left means what all means
pub cooked-over : (was now_cooked slice all : List ℕ) (flag : Bool) (old now : Cursor) (from to : ℕ) → PassesVerbatim flag old now
    → now_cooked ≡ was ++ slice → slice ≡ encode_utf8_all (slice_between now.start now.text from to) → from ≡ place old → to ≡ place now
    → was ++ encode_utf8_all (cooked_text (pieces_at old)) ≡ all → now_cooked ++ encode_utf8_all (cooked_text (pieces_at now)) ≡ all
cooked-over was now_cooked slice all flag old now from to is e s f t before =
    let front = spelled template_cutter is.between in
    let text : slice ≡ encode_utf8_all front = s ∙ text-passed old now (length front) from to is.moved f t ∙ ap encode_utf8_all (passes-taken flag old now is) in
    let split : encode_utf8_all (cooked_text (pieces_at old)) ≡ encode_utf8_all front ++ encode_utf8_all (cooked_text (pieces_at now)) =
    ap (λ ps. encode_utf8_all (cooked_text ps)) is.all ∙ ap encode_utf8_all (cooked-append is.between (pieces_at now) ∙ ap (λ l. l ++ cooked_text (pieces_at now)) (same_text is.between is.verbatim))
    ∙ encodes-append front (cooked_text (pieces_at now)) in
    rw (e, text, append_assoc) (ap (λ l. was ++ l) (sym split) ∙ before)
