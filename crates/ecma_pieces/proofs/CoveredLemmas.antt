-- The tokens and comments of a run lie so that pieces can cover its text.
use Rattle.std.proofs.Common.{◌≡◌, ◌∙◌, ℕ, ◌<◌, ◌≤◌, true, List, [], ◌∷◌, inl, inr, ⊎_elim, refl, sym, subst, ap, arith, lt-ltb, ltb-true, le-leb, map}
use Rattle.std.specs.Prelude.{◌⊎◌}
use Rattle.std.specs.List.{list_all, list_any}
use mathlib.Core.List.{reverse_aux}
use Rattle.std.proofs.lemmas.Bool.{and_from, or_left, or_right}
use Rattle.ecma_place.specs.Cursor.{Cursor, place}
use Rattle.ecma_place.specs.declared.place.Span.{Span}
use Rattle.ecma_token.specs.View.{SpannedView}
use Rattle.ecma_state.specs.Counting.{counting}
use Rattle.ecma_state.specs.Run.{act_all, session, start_of}
use Rattle.ecma_state.specs.Session.{Session, kept_back, kept_of, kept_tokens}
use Rattle.ecma_comments.specs.declared.comments_buffer.BufferedComment.{BufferedComment}
use Rattle.ecma_state.specs.declared.kept.Kept.{Kept}
use Rattle.ecma_state.specs.declared.settings.Settings.{Settings}
use Rattle.ecma_state.specs.declared.step.Step.{Step}
use Rattle.ecma_laws.specs.Order.{InOrder}
use Rattle.ecma_laws.proofs.KeptSpans.{AllLie, kept_lie}
use Rattle.ecma_laws.proofs.TilingLemmas.{begins_standing, fold_standing}
use Rattle.ecma_replay.specs.Replay.{Gathers, Replays}
use Rattle.ecma_replay.specs.declared.gathered.Gathered.{Gathered}
use Rattle.ecma_replay.specs.declared.replayed.Replay.{Replay}
use Rattle.ecma_classes.specs.Classes.{LieInOrder, LiesWell, StandsIn, comment_spans, holds_byte, is_apart, is_inside, spans_of_comments, spans_of_kept, token_spans}
use Rattle.ecma_classes.proofs.ApartLemmas.{apart_filter, before-apart, behind-apart}
use Rattle.ecma_classes.proofs.MemberLemmas.{IsIn, all_of, in_filter, of_filter}
use Rattle.ecma_pieces.specs.Covered.{MayBeCovered, ReplaysMayBeCovered, RunsMayBeCovered}
use Rattle.ecma_pieces.proofs.CollectedLemmas.{LiesAmong, has_collected}
use Rattle.ecma_pieces.proofs.ListLemmas.{all_made, any_of, in_map, in_onto, of_map, of_onto}

-- The order of the tokens

lower : (low from : ℕ) (ss : List Span) → low ≤ from → LieInOrder from ss → LieInOrder low ss
lower low from [] h lie = tt
lower low from (s ∷ ss) h lie = let begins = lie.0 in (omega (arith, h, begins), lie.1)

-- tokens that lie in order, the newest first, are turned round onto others
order_onto : (begin end : ℕ) (ts : List SpannedView) (ks : List Kept) → InOrder begin ts end → LieInOrder end (spans_of_kept ks) → LieInOrder begin (spans_of_kept (reverse_aux (map kept_of ts) ks))
order_onto begin end [] ks order behind = lower begin end (spans_of_kept ks) order behind
order_onto begin end (t ∷ ts) ks order behind =
    order_onto begin t.span.lo.0 ts (kept_of t ∷ ks) order.2 (omega arith, lower t.span.hi.0 end (spans_of_kept ks) order.1 behind)

-- Their spans

of_kept : (s : Session) (z : Span) → IsIn z (spans_of_kept (kept_tokens s)) → (t : SpannedView) × (IsIn t (kept_back s.past)) × (z ≡ t.span)
of_kept s z i =
    let (k, there, is) = of_map (λ (k : Kept). k.span) z (kept_tokens s) i in
    let turned : IsIn k (map kept_of (kept_back s.past)) = ⊎_elim (λ h. h) (λ h. absurd h) (of_onto k (map kept_of (kept_back s.past)) [] there) in
    let (t, among, same) = of_map kept_of k (kept_back s.past) turned in
    (t, among, is ∙ ap (λ (k : Kept). k.span) same)

in_kept : (s : Session) (t : SpannedView) → IsIn t (kept_back s.past) → IsIn t.span (spans_of_kept (kept_tokens s))
in_kept s t i = in_map (λ (k : Kept). k.span) (kept_of t) (kept_tokens s) (in_onto (kept_of t) (map kept_of (kept_back s.past)) [] (in_map kept_of t (kept_back s.past) i))

-- each lies in the text
one_stands : (input : Cursor) (ts : List SpannedView) → AllLie input ts → (t : SpannedView) → IsIn t ts → StandsIn input t.span
one_stands input [] all t i = absurd i
one_stands input (u ∷ ts) all t (inl e) =
    let lies = all.0 in subst (λ (v : SpannedView). StandsIn input v.span) (sym e) (record { from = lies.from; to = lies.to; in_order = lies.in_order })
one_stands input (u ∷ ts) all t (inr i) = one_stands input ts all.1 t i

-- Where a comment lies among them

-- each token ends before where they all end
ends_before : (begin end : ℕ) (ts : List SpannedView) → InOrder begin ts end → (t : SpannedView) → IsIn t ts → t.span.hi.0 ≤ end
ends_before begin end [] order t i = absurd i
ends_before begin end (u ∷ ts) order t (inl e) = subst (λ (v : SpannedView). v.span.hi.0 ≤ end) (sym e) order.1
ends_before begin end (u ∷ ts) order t (inr i) =
    let others = ends_before begin u.span.lo.0 ts order.2 t i in
    let held = order.0 in
    let within = order.1 in
    omega (arith, others, held, within)

-- it lies in one, or outside all
record InOne (ts : List SpannedView) (z : Span) : Type 0 where
  token : SpannedView
  is_in : IsIn token ts
  from : token.span.lo.0 ≤ z.lo.0
  to : z.hi.0 ≤ token.span.hi.0

abbrev OutsideAll : List SpannedView → Span → Type 0
OutsideAll ts z = (t : SpannedView) → IsIn t ts → is_apart z t.span ≡ true

settled : (begin end : ℕ) (ts : List SpannedView) (z : Span) → InOrder begin ts end → LiesAmong ts z → InOne ts z ⊎ OutsideAll ts z
settled begin end [] z order among = inr (λ t i. absurd i)
settled begin end (u ∷ ts) z order (inl behind) = inr (λ t i. behind-apart z t.span (last t i))
  where
    last : (t : SpannedView) → IsIn t (u ∷ ts) → t.span.hi.0 ≤ z.lo.0
    last t i =
        let held = order.0 in
        let here : InOrder begin (u ∷ ts) u.span.hi.0 = (held, omega arith, order.2) in
        let ends = ends_before begin u.span.hi.0 (u ∷ ts) here t i in
        omega (arith, ends, behind)
settled begin end (u ∷ ts) z order (inr (inl inside)) = inl record { token = u; is_in = inl refl; from = inside.0; to = inside.1 }
settled begin end (u ∷ ts) z order (inr (inr before)) = ⊎_elim more outside (settled begin u.span.lo.0 ts z order.2 before.1)
  where
    more : InOne ts z → InOne (u ∷ ts) z ⊎ OutsideAll (u ∷ ts) z
    more one = inl record { token = one.token; is_in = inr one.is_in; from = one.from; to = one.to }

    apart : OutsideAll ts z → OutsideAll (u ∷ ts) z
    apart all t (inl e) = subst (λ (v : SpannedView). is_apart z v.span ≡ true) (sym e) (before-apart z u.span before.0)
    apart all t (inr i) = all t i

    outside : OutsideAll ts z → InOne (u ∷ ts) z ⊎ OutsideAll (u ∷ ts) z
    outside all = inr (apart all)

-- one that holds a byte lies well among the tokens that do
well : (s : Session) (z : Span) → holds_byte z ≡ true → InOne (kept_back s.past) z ⊎ OutsideAll (kept_back s.past) z → LiesWell (token_spans (kept_tokens s)) z
well s z holds (inl one) =
    let spans = token_spans (kept_tokens s) in
    let own = one.token.span in
    let from = one.from in
    let to = one.to in
    let some : z.lo.0 < z.hi.0 = ltb-true z.lo.0 z.hi.0 holds in
    let wide : holds_byte own ≡ true = lt-ltb own.lo.0 own.hi.0 (omega (arith, from, to, some)) in
    let there : IsIn own spans = in_filter holds_byte own (spans_of_kept (kept_tokens s)) (in_kept s one.token one.is_in) wide in
    let inside : is_inside z own ≡ true = and_from _ _ (le-leb own.lo.0 z.lo.0 from) (le-leb z.hi.0 own.hi.0 to) in
    or_left (list_any (is_inside z) spans) (list_all (is_apart z) spans) (any_of (is_inside z) own spans there inside)
well s z holds (inr outside) =
    let spans = token_spans (kept_tokens s) in
    or_right (list_any (is_inside z) spans) (list_all (is_apart z) spans)
    (all_of (is_apart z) spans (λ own i.
    let (t, there, is) = of_kept s own (of_filter holds_byte own (spans_of_kept (kept_tokens s)) i).0 in
    subst (λ v. is_apart z v ≡ true) (sym is) (outside t there)))

-- Laws

-- where steps lead, all of which count
pub steps_may_be_covered : (settings : Settings) (input : Cursor) (steps : List Step)
    → MayBeCovered input (kept_tokens (act_all (start_of settings input) steps)) (act_all (start_of settings input) steps).comments
steps_may_be_covered settings input steps =
    let s = act_all (start_of settings input) steps in
    let k = fold_standing input (start_of settings input) steps (begins_standing settings input) in
    let c = has_collected settings input steps in
    let spans = spans_of_comments s.comments in
    record {
      tokens_stand = all_made (StandsIn input) (spans_of_kept (kept_tokens s)) (λ z i.
          let (t, there, is) = of_kept s z i in
          subst (StandsIn input) (sym is) (one_stands input (kept_back s.past) (kept_lie settings input steps) t there));
      in_order = lower input.start (place input) (spans_of_kept (kept_tokens s)) (omega arith) (order_onto (place input) (place s.input) (kept_back s.past) [] k.order tt);
      comments_stand = all_made (StandsIn input) spans (λ z i. let l = c.each z i in record { from = l.places.0; to = l.places.1; in_order = l.own });
      apart = apart_filter holds_byte spans c.apart;
      inside_or_outside = all_made (LiesWell (token_spans (kept_tokens s))) (comment_spans s.comments) (λ z i.
          let (there, holds) = of_filter holds_byte z spans i in
          well s z holds (settled (place input) (place s.input) (kept_back s.past) z k.order (c.each z there).among));
    }

pub runs_may_be_covered : RunsMayBeCovered
runs_may_be_covered settings input steps = steps_may_be_covered settings input (counting steps)

pub replays_may_be_covered : ReplaysMayBeCovered
replays_may_be_covered settings input steps r replays =
    let run = runs_may_be_covered settings input steps in
    let s = session settings input steps in
    subst (λ kept. MayBeCovered input kept r.comments.items) (sym replays.kept) (subst (λ comments. MayBeCovered input (kept_tokens s) comments) (sym replays.comments) run)

-- so does what is seen of it in slices
pub slices_may_be_covered : (settings : Settings) (input : Cursor) (steps : List Step) (r : Replay) (kept : List Kept) (comments : List BufferedComment)
    → Replays (start_of settings input) steps r → kept ≡ r.kept.items → comments ≡ r.comments.items → MayBeCovered input kept comments
slices_may_be_covered settings input steps r kept comments replays same_kept same_comments =
    let all = replays_may_be_covered settings input steps r replays in
    subst (λ ks. MayBeCovered input ks comments) (sym same_kept) (subst (λ cs. MayBeCovered input r.kept.items cs) (sym same_comments) all)

-- so does what is gathered of them
pub gathered_may_be_covered : (settings : Settings) (input : Cursor) (steps : List Step) (r : Gathered) (kept : List Kept) (comments : List BufferedComment)
    → Gathers (start_of settings input) steps r → kept ≡ r.kept.items → comments ≡ r.comments.items → MayBeCovered input kept comments
gathered_may_be_covered settings input steps r kept comments gathers same_kept same_comments =
    subst (λ ks. MayBeCovered input ks comments) (sym (same_kept ∙ gathers.kept))
    (subst (λ cs. MayBeCovered input (kept_tokens (session settings input steps)) cs) (sym (same_comments ∙ gathers.comments)) (runs_may_be_covered settings input steps))
