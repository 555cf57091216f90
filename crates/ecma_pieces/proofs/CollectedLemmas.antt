-- What a run collects: its comments are apart, and each lies in one kept token or outside all, also where a slash is read
-- again, as no comment lies behind the slash that was answered last or in it.
use Rattle.std.proofs.Common.{◌≡◌, ◌∙◌, ℕ, ◌+◌, ◌≤◌, Bool, true, false, List, [], ◌∷◌, ◌++◌, append-nil, drop, Option, Some, None, inl, inr, ⊎_elim, refl, sym, subst, ap, arith}
use Rattle.std.specs.Prelude.{◌⊎◌, fold, is_some}
use Rattle.ecma_place.specs.Cursor.{Cursor, place, rest}
use Rattle.ecma_place.specs.Text.{byte_len}
use Rattle.ecma_place.specs.declared.place.BytePos.{BytePos}
use Rattle.ecma_place.specs.declared.place.Span.{Span}
use Rattle.ecma_token.specs.Kinds.{kind_of}
use Rattle.ecma_token.specs.View.{SpannedView}
use Rattle.ecma_reads.specs.Expressions.{regular_expression}
use Rattle.ecma_reads.specs.Found.{found_at, token_behind}
use Rattle.ecma_state.specs.Contexts.{Contexts}
use Rattle.ecma_state.specs.Reading.{Reading, reading, reading_again, spanned}
use Rattle.ecma_state.specs.Run.{act_all, act_on, acted_on, at_place, given_in, mode_of, popped_from, reading_from, reread_from, start_of}
use Rattle.ecma_state.specs.Session.{Again, Past, Session, kept_back, kept_in, kept_of, state_value, last_flag, seen_of, state_of}
use Rattle.ecma_state.specs.State.{around_of, is_slash, last_slash, slash_in}
use Rattle.ecma_state.specs.declared.settings.Settings.{Settings}
use Rattle.ecma_state.specs.declared.step.Step.{Step}
use Rattle.ecma_state.specs.declared.step.Step.TheVariants.{Read, SetCtx, SetExprAllowed, SetContexts, PopContext, Reread, Withdraw, Save, Back, TakeErrors}
use Rattle.ecma_reads.proofs.EndLemmas.{ReadsOn, reading-on}
use Rattle.ecma_reads.proofs.SlashLemmas.{again-kind, expression-no-slash, place-there, slash-is}
use Rattle.ecma_laws.specs.Order.{InOrder}
use Rattle.ecma_laws.proofs.TilingLemmas.{LastBegins, Standing, act_standing, again-ends, begins_standing}
use Rattle.ecma_classes.specs.Classes.{AreApart, spans_of_comments}
use Rattle.ecma_classes.proofs.ApartLemmas.{before-apart}
use Rattle.ecma_classes.proofs.MemberLemmas.{IsIn, in_either}
use Rattle.ecma_pieces.proofs.AttachedLemmas.{apart_append, apart_between, apart_regrouped, of_regrouped, one_between, regrouped, spans_more}
use Rattle.ecma_laws.proofs.KeptSpans.{moved_place}
use Rattle.ecma_pieces.proofs.ReadLemmas.{CommentsLie, HasPlaces, IsBeside, reading_lies}

-- A comment among tokens, the newest first: behind the newest, in it, or before it and so among the others
abbrev pub LiesAmong : List SpannedView → Span → Type 0
LiesAmong [] z = Unit {0}
LiesAmong (t ∷ ts) z = (t.span.hi.0 ≤ z.lo.0) ⊎ (((t.span.lo.0 ≤ z.lo.0) × (z.hi.0 ≤ t.span.hi.0)) ⊎ ((z.hi.0 ≤ t.span.lo.0) × LiesAmong ts z))

behind_all : (begin end : ℕ) (ts : List SpannedView) (z : Span) → InOrder begin ts end → end ≤ z.lo.0 → LiesAmong ts z
behind_all begin end [] z order behind = tt
behind_all begin end (t ∷ ts) z order behind = let within = order.1 in inl (omega (arith, within, behind))

-- one that ends before the newest token lies among the others without it
before_newest : (begin end : ℕ) (t : SpannedView) (ts : List SpannedView) (z : Span) → InOrder begin (t ∷ ts) end → z.lo.0 ≤ z.hi.0 → z.hi.0 ≤ t.span.lo.0 → LiesAmong (t ∷ ts) z → LiesAmong ts z
before_newest begin end t ts z order own before (inl behind) =
    let held = order.0 in behind_all begin t.span.lo.0 ts z order.2 (omega (arith, held, behind))
before_newest begin end t ts z order own before (inr (inl inside)) =
    let from = inside.0 in behind_all begin t.span.lo.0 ts z order.2 from
before_newest begin end t ts z order own before (inr (inr among)) = among.1

-- A comment lies in the text, up to a place, and well among tokens
pub record Lies (input : Cursor) (ts : List SpannedView) (high : ℕ) (z : Span) : Type 0 where
  pub places : HasPlaces input z
  pub own : z.lo.0 ≤ z.hi.0
  pub below : z.hi.0 ≤ high
  pub among : LiesAmong ts z

-- What holds of the spans of the comments that a run collected, where it stands at a place: none ends behind where the slash
-- begins that was answered last, or that is read again
pub record Collected (input : Cursor) (spans : List Span) (past : Past) (reread : Option BytePos) (high : ℕ) : Type 0 where
  pub each : (z : Span) → IsIn z spans → Lies input (kept_back past) high z
  pub apart : AreApart spans
  pub answered : (p : BytePos) → last_slash (seen_of past) ≡ Some p → (z : Span) → IsIn z spans → z.hi.0 ≤ p.0
  pub again : (p : BytePos) → reread ≡ Some p → (z : Span) → IsIn z spans → z.hi.0 ≤ p.0

abbrev pub HasCollected : Cursor → Session → Type 0
HasCollected input s = Collected input (spans_of_comments s.comments) s.past s.reread (place s.input)

-- a read behind what was read last
read_collected : (input : Cursor) (s : Session) → s.reread ≡ None → Standing input s → HasCollected input s → HasCollected input (acted_on s (reading (mode_of (state_of s)) s.input)).after
read_collected input s plain k c =
    subst
    (λ spans. Collected input spans (given_in (is_some s.reread) r.end_flag r.found ∷ s.past) s.reread (place r.input))
    (sym (spans_more s.comments (around_of (state_value s) (kept_in r.found)) r.comments))
    (go r.found refl (is_some s.reread) (ap is_some plain))
  where
    r : Reading
    r = reading (mode_of (state_of s)) s.input

    on : ReadsOn s.input r
    on = reading-on (mode_of (state_of s)) s.input

    lie : CommentsLie s.input r
    lie = reading_lies (mode_of (state_of s)) s.input

    old : List Span
    old = spans_of_comments s.comments

    new : List Span
    new = regrouped r.comments

    within : (z : Span) → IsIn z new → (place s.input ≤ z.lo.0) × (z.lo.0 ≤ z.hi.0) × (z.hi.0 ≤ place r.input)
    within z i = one_between (place s.input) (place r.input) r.comments lie.order z (of_regrouped r.comments z i)

    places : (z : Span) → IsIn z new → HasPlaces input z
    places z i =
        let there = lie.places z (of_regrouped r.comments z i) in
        (moved_place input s.input z.lo.0 k.start k.text there.0, moved_place input s.input z.hi.0 k.start k.text there.1)

    apart : AreApart (old ++ new)
    apart =
        apart_append old new c.apart (apart_regrouped r.comments (apart_between (place s.input) (place r.input) r.comments lie.order)) (λ x y i j.
        let ends = (c.each x i).below in
        let begins = (within y j).0 in
        before-apart x y (omega (arith, ends, begins)))

    -- one that lies behind all tokens that were kept before
    later : (z : Span) → IsIn z new → LiesAmong (kept_back s.past) z
    later z i = behind_all (place input) (place s.input) (kept_back s.past) z k.order (within z i).0

    never : (p : BytePos) → s.reread ≡ Some p → (z : Span) → IsIn z (old ++ new) → z.hi.0 ≤ p.0
    never p h z i = let none : None ≡ Some p = sym plain ∙ h in cc

    go : (found : Option SpannedView) → r.found ≡ found → (again : Bool) → again ≡ false → Collected input (old ++ new) (given_in again r.end_flag found ∷ s.past) s.reread (place r.input)
    go None e again same = record {
      each = λ z i. ⊎_elim
          (λ h. let l = c.each z h in let below = l.below in let further = on.further in
          record { places = l.places; own = l.own; below = omega (arith, below, further); among = l.among })
          (λ h. record { places = places z h; own = (within z h).1; below = (within z h).2; among = later z h })
          (in_either z old new i);
      apart = apart;
      answered = λ p h z i. cc;
      again = never;
    }
    go (Some t) e true same = cc
    go (Some t) e false same = record {
      each = λ z i. ⊎_elim (old_one z) (new_one z) (in_either z old new i);
      apart = apart;
      answered = λ p h z i. ⊎_elim (old_before p h z) (new_before p h z) (in_either z old new i);
      again = never;
    }
      where
        begins : place s.input ≤ t.span.lo.0
        begins = (on.token t e).0

        old_one : (z : Span) → IsIn z old → Lies input (t ∷ kept_back s.past) (place r.input) z
        old_one z h =
            let l = c.each z h in
            let below = l.below in
            let further = on.further in
            record { places = l.places; own = l.own; below = omega (arith, below, further); among = inr (inr (omega (arith, below, begins), l.among)) }

        new_among : (z : Span) → IsIn z new → IsBeside z t.span → LiesAmong (t ∷ kept_back s.past) z
        new_among z h (inl before) = inr (inr (before, later z h))
        new_among z h (inr inside) = inr (inl inside)

        new_one : (z : Span) → IsIn z new → Lies input (t ∷ kept_back s.past) (place r.input) z
        new_one z h = record {
          places = places z h;
          own = (within z h).1;
          below = (within z h).2;
          among = new_among z h (lie.beside t e z (of_regrouped r.comments z h));
        }

        old_before : (p : BytePos) → slash_in (Some (kept_of t)) ≡ Some p → (z : Span) → IsIn z old → z.hi.0 ≤ p.0
        old_before p h z i =
            let low : t.span.lo.0 ≡ p.0 = ap (λ (q : BytePos). q.0) (slash-is t p h).1 in
            let below = (c.each z i).below in
            omega (arith, low, below, begins)

        new_before : (p : BytePos) → slash_in (Some (kept_of t)) ≡ Some p → (z : Span) → IsIn z new → z.hi.0 ≤ p.0
        new_before p h z i =
            let slash = slash-is t p h in
            let low : t.span.lo.0 ≡ p.0 = ap (λ (q : BytePos). q.0) slash.1 in
            let before = lie.slash t e slash.0 z (of_regrouped r.comments z i) in
            omega (arith, low, before)

-- a read from the slash that was read last finds no comment, and its token stands in the slash's place
again_collected : (input : Cursor) (s : Session) (p : BytePos) → s.reread ≡ Some p → Standing input s → HasCollected input s
    → HasCollected input (acted_on s (reading_again (last_flag s.past) (at_place p s.input))).after
again_collected input s p rereads k c =
    subst (λ spans. Collected input spans (given_in (is_some s.reread) r.end_flag r.found ∷ s.past) s.reread (place r.input)) (sym same) (go (is_some s.reread) (ap is_some rereads))
  where
    here : Cursor
    here = at_place p s.input

    r : Reading
    r = reading_again (last_flag s.past) here

    t : SpannedView
    t = spanned (last_flag s.past) (found_at token_behind (place here) (regular_expression (rest here)))

    old : List Span
    old = spans_of_comments s.comments

    same : spans_of_comments (acted_on s r).after.comments ≡ old
    same = spans_more s.comments (around_of (state_value s) (kept_in r.found)) [] ∙ append-nil old

    slash : LastBegins s.input s.past p
    slash = k.reread p rereads

    there : place here ≡ p.0
    there = place-there s.input p slash.has_place

    ends : place here + byte_len (regular_expression (rest here)).spelling ≡ place r.input
    ends = again-ends (last_flag s.past) here slash.opens

    order : InOrder (place input) (slash.last ∷ slash.before) (place s.input)
    order = subst (λ ts. InOrder (place input) ts (place s.input)) slash.kept k.order

    kept : t ∷ slash.before ≡ kept_back (Again t ∷ s.past)
    kept = sym (ap (λ ts. t ∷ drop 1 ts) slash.kept)

    one : (z : Span) → IsIn z old → Lies input (kept_back (Again t ∷ s.past)) (place r.input) z
    one z i =
        let l = c.each z i in
        let before : z.hi.0 ≤ p.0 = c.again p rereads z i in
        let begins : slash.last.span.lo.0 ≡ p.0 = ap (λ (q : BytePos). q.0) slash.begins in
        let among : LiesAmong (slash.last ∷ slash.before) z = subst (λ ts. LiesAmong ts z) slash.kept l.among in
        let rest_among = before_newest (place input) (place s.input) slash.last slash.before z order l.own (omega (arith, before, begins)) among in
        let first : z.hi.0 ≤ place here = omega (arith, before, there) in
        record {
          places = l.places;
          own = l.own;
          below = omega (arith, first, ends);
          among = subst (λ ts. LiesAmong ts z) kept (inr (inr (first, rest_among)));
        }

    no_slash : (q : BytePos) → slash_in (Some (kept_of t)) ≡ Some q → (z : Span) → IsIn z old → z.hi.0 ≤ q.0
    no_slash q h z i =
        let is : is_slash (kind_of t.token) ≡ true = (slash-is t q h).0 in
        let never : is_slash (kind_of t.token) ≡ false = expression-no-slash t.token (again-kind (place here) (rest here)) in
        contradict (is_slash (kind_of t.token)) is never
      where
        contradict : (b : Bool) → b ≡ true → b ≡ false → z.hi.0 ≤ q.0
        contradict b is never = cc

    go : (again : Bool) → again ≡ true → Collected input old (given_in again r.end_flag r.found ∷ s.past) s.reread (place r.input)
    go false e = cc
    go true e = record { each = one; apart = c.apart; answered = no_slash; again = c.again }

read_either : (input : Cursor) (s : Session) → Standing input s → HasCollected input s → HasCollected input (act_on s Read)
read_either input s k c = go s.reread refl
  where
    go : (r : Option BytePos) → s.reread ≡ r → HasCollected input (acted_on s (reading_from r (state_of s))).after
    go None e = read_collected input s e k c
    go (Some p) e = again_collected input s p e k c

reread_collected : (input : Cursor) (s : Session) → HasCollected input s → HasCollected input (act_on s Reread)
reread_collected input s c = go (last_slash (seen_of s.past)) refl
  where
    go : (slash : Option BytePos) → last_slash (seen_of s.past) ≡ slash → HasCollected input (reread_from s slash).after
    go None e = c
    go (Some p) e = record { each = c.each; apart = c.apart; answered = c.answered; again = λ q h. c.answered q (e ∙ h) }

popped_collected : (input : Cursor) (s : Session) (contexts : Contexts) → HasCollected input s → HasCollected input (popped_from s contexts).after
popped_collected input s [] c = c
popped_collected input s (top ∷ below) c = c

act_collected : (input : Cursor) (s : Session) (step : Step) → Standing input s → HasCollected input s → HasCollected input (act_on s step)
act_collected input s Read k c = read_either input s k c
act_collected input s (SetCtx context) k c = c
act_collected input s (SetExprAllowed allowed) k c = c
act_collected input s (SetContexts contexts) k c = c
act_collected input s PopContext k c = popped_collected input s s.contexts c
act_collected input s Reread k c = reread_collected input s c
act_collected input s Withdraw k c = record { each = c.each; apart = c.apart; answered = c.answered; again = λ p h. cc }
act_collected input s TakeErrors k c = c
act_collected input s Save k c = c
act_collected input s (Back n) k c = c

fold_collected : (input : Cursor) (s : Session) (steps : List Step) → Standing input s → HasCollected input s → HasCollected input (fold act_on s steps)
fold_collected input s [] k c = c
fold_collected input s (step ∷ steps) k c = fold_collected input (act_on s step) steps (act_standing input s step k) (act_collected input s step k c)

-- what is collected where steps lead, all of which count
pub has_collected : (settings : Settings) (input : Cursor) (steps : List Step) → HasCollected input (act_all (start_of settings input) steps)
has_collected settings input steps =
    fold_collected input (start_of settings input) steps (begins_standing settings input)
    record { each = λ z i. absurd i; apart = tt; answered = λ p h. cc; again = λ p h. cc }
