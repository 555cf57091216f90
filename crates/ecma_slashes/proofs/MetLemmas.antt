-- The slashes that are read again, with those at places named.
use Rattle.std.proofs.Common.{◌≡◌, ◌∙◌, ℕ, zero, suc, ◌+◌, ◌<◌, ◌≤◌, Bool, true, false, cond, ◌&&◌, ◌||◌, List, [], ◌∷◌, ◌++◌, Option, Some, None, length, length-append, refl, sym, subst, ap, arith}
use Rattle.std.specs.Prelude.{◌==◌, ⊤, nat_lt, is_some}
use Rattle.std.specs.List.{list_all}
use Rattle.std.proofs.lemmas.List.Sums.{sum_by-append}
use Rattle.std.proofs.lemmas.Bool.{and_parts, eqb-true, ltb-true, ne_eqb}
use Rattle.ecma_place.specs.Cursor.{place}
use Rattle.ecma_place.specs.declared.place.BytePos.{BytePos}
use Rattle.ecma_state.specs.Run.{act_all, act_on, mode_of, reading_of, reread_from, state_rereading}
use Rattle.ecma_state.specs.Session.{Session, has_ended, seen_of, state_of}
use Rattle.ecma_state.specs.State.{last_slash}
use Rattle.ecma_state.specs.declared.step.Step.{Step}
use Rattle.ecma_state.specs.declared.step.Step.TheVariants.{Read}
use Rattle.ecma_state.specs.Ending.{enough}
use Rattle.ecma_stream.proofs.EndLemmas.{reading-on}
use Rattle.ecma_stream.proofs.EndingLemmas.{plain-reading, state-behind}
use Rattle.ecma_slashes.specs.Rereads.{RereadsCountMet, SlashRule, all_by, all_met, ascend, ascend_behind, at_places, behind_by, entered, is_among, is_reread, last_read, meets_expression, met_by, met_in, met_to_end, names_answer, read_steps, rereads, steps_by, steps_to_end_by, text_met, text_steps_by, unless_ended}
use Rattle.ecma_slashes.proofs.FewerLemmas.{asking, beyond-slash, slash-met}
use Rattle.ecma_slashes.proofs.TokenLemmas.{behind-plain, met-slash}

-- As many as the steps read again

rereads-append : (a b : List Step) → rereads (a ++ b) ≡ rereads a + rereads b
rereads-append a b = sum_by-append (λ x. cond (is_reread x) 1 0) a b

token-rereads : (b : Bool) (o : Option BytePos) → (b ≡ true → is_some o ≡ true) → rereads (read_steps b) ≡ length (met_in b o)
token-rereads false o some = refl
token-rereads true None some = let h = some refl in cc
token-rereads true (Some p) some = refl

unless-rereads : (b : Bool) (steps : List Step) (ps : List BytePos) → rereads steps ≡ length ps → rereads (unless_ended b steps) ≡ length (unless_ended b ps)
unless-rereads true steps ps h = refl
unless-rereads false steps ps h = h

all-rereads : (rule : SlashRule) (n : ℕ) (s : Session) → rereads (all_by rule n s) ≡ length (all_met rule n s)
all-rereads rule zero s = refl
all-rereads rule (suc n) s =
    let next : Session = behind_by rule s in
    let steps : List Step = unless_ended (has_ended next.past) (all_by rule n next) in
    let met : List BytePos = unless_ended (has_ended next.past) (all_met rule n next) in
    let one : rereads (steps_by rule s) ≡ length (met_by rule s) = token-rereads (meets_expression rule s) (last_slash (seen_of (act_on s Read).past)) (met-slash rule s) in
    let more : rereads steps ≡ length met = unless-rereads (has_ended next.past) (all_by rule n next) (all_met rule n next) (all-rereads rule n next) in
    let left = rereads-append (steps_by rule s) steps in
    let right = length-append (met_by rule s) met in
    omega (arith, one, more, left, right)

-- They are among the places

all-append : (f : BytePos → Bool) (xs ys : List BytePos) → list_all f xs ≡ true → list_all f ys ≡ true → list_all f (xs ++ ys) ≡ true
all-append f [] ys a b = b
all-append f (x ∷ xs) ys a b =
    let parts = and_parts (f x) (list_all f xs) a in
    ap (λ h. h && list_all f (xs ++ ys)) parts.0 ∙ all-append f xs ys parts.1 b

all-unless : (f : BytePos → Bool) (b : Bool) (xs : List BytePos) → list_all f xs ≡ true → list_all f (unless_ended b xs) ≡ true
all-unless f true xs h = refl
all-unless f false xs h = h

token-among : (places : List BytePos) (allowed b : Bool) (o : Option BytePos) → names_answer (at_places places) allowed false o ≡ b → list_all (is_among places) (met_in b o) ≡ true
token-among places allowed false o e = refl
token-among places allowed true None e = refl
token-among places allowed true (Some p) e = ap (λ h. h && true) e

all-among : (places : List BytePos) (n : ℕ) (s : Session) → list_all (is_among places) (all_met (at_places places) n s) ≡ true
all-among places zero s = refl
all-among places (suc n) s =
    let rule : SlashRule = at_places places in
    let next : Session = behind_by rule s in
    all-append (is_among places) (met_by rule s) (unless_ended (has_ended next.past) (all_met rule n next))
    (token-among places s.expr_allowed (meets_expression rule s) (last_slash (seen_of (act_on s Read).past)) refl)
    (all-unless (is_among places) (has_ended next.past) (all_met rule n next) (all-among places n next))

-- They ascend

-- from a place on each is behind the one before it
abbrev Rises : ℕ → List BytePos → Type 0
Rises least [] = ⊤
Rises least (p ∷ ps) = (least ≤ p.0) × Rises (suc p.0) ps

rises-from : (a b : ℕ) (ps : List BytePos) → a ≤ b → Rises b ps → Rises a ps
rises-from a b [] le h = tt
rises-from a b (p ∷ ps) le h = (let least = h.0 in omega (arith, le, least), h.1)

rises-unless : (a : ℕ) (b : Bool) (ps : List BytePos) → Rises a ps → Rises a (unless_ended b ps)
rises-unless a true ps h = tt
rises-unless a false ps h = h

-- a read that begins at no slash goes on
read-further : (s : Session) → s.reread ≡ None → place s.input ≤ place (act_on s Read).input
read-further s plain =
    subst (λ r. place s.input ≤ place r.input) (sym (plain-reading (state_of s) plain)) (reading-on (mode_of (state_of s)) s.input).further

token-rises : (s : Session) (b : Bool) (o : Option BytePos) (ps : List BytePos) → s.reread ≡ None → last_slash (seen_of (act_on s Read).past) ≡ o → (b ≡ true → is_some o ≡ true)
    → Rises (place (act_all s (read_steps b)).input) ps → Rises (place s.input) (met_in b o ++ ps)
token-rises s false o ps plain e some h = rises-from (place s.input) (place (act_on s Read).input) ps (read-further s plain) h
token-rises s true None ps plain e some h = let no = some refl in cc
token-rises s true (Some p) ps plain e some h =
    let l = state_of s in
    let slash : last_slash (seen_of (act_on s Read).past) ≡ Some p = e in
    let moved = state-behind s in
    let told = ap (λ x. last_slash x.state.seen) (sym moved) ∙ slash in
    let asked : state_of (last_read true s) ≡ asking l p = ap (λ o. state_of (reread_from (act_on s Read) o).after) slash ∙ ap (state_rereading (Some p)) moved in
    let beyond = beyond-slash l p plain told in
    let ends : place (act_all s (read_steps true)).input ≡ place (reading_of (asking l p)).input = ap (λ x. place (reading_of x).input) asked in
    ((slash-met l p plain told).before, rises-from (suc p.0) (place (act_all s (read_steps true)).input) ps (omega (arith, beyond, ends)) h)

all-rise : (rule : SlashRule) (n : ℕ) (s : Session) → s.reread ≡ None → Rises (place s.input) (all_met rule n s)
all-rise rule zero s plain = tt
all-rise rule (suc n) s plain =
    let next : Session = behind_by rule s in
    token-rises s (meets_expression rule s) (last_slash (seen_of (act_on s Read).past)) (unless_ended (has_ended next.past) (all_met rule n next)) plain refl (met-slash rule s)
    (rises-unless (place next.input) (has_ended next.past) (all_met rule n next) (all-rise rule n next (behind-plain rule s plain)))

-- As many as there are places are all of them

among-behind : (y : BytePos) (ys : List BytePos) (x : BytePos) → ascend_behind y ys ≡ true → is_among ys x ≡ true → y.0 < x.0
among-behind y [] x up h = cc
among-behind y (z ∷ zs) x up h = go (z.0 == x.0) refl h
    (among-behind z zs x (and_parts (nat_lt y.0 z.0) (ascend_behind z zs) up).1)
  where
    below : y.0 < z.0
    below = ltb-true y.0 z.0 (and_parts (nat_lt y.0 z.0) (ascend_behind z zs) up).0

    go : (b : Bool) → (z.0 == x.0) ≡ b → (b || is_among zs x) ≡ true → (is_among zs x ≡ true → z.0 < x.0) → y.0 < x.0
    go true e h more = let same = eqb-true z.0 x.0 e in let low = below in omega (arith, same, low)
    go false e h more = let further = more h in let low = below in omega (arith, further, low)

-- what lies behind the first place is among the others
among-others : (y : BytePos) (ys xs : List BytePos) (least : ℕ) → y.0 < least → Rises least xs → list_all (is_among (y ∷ ys)) xs ≡ true → list_all (is_among ys) xs ≡ true
among-others y ys [] least low up h = refl
among-others y ys (x ∷ xs) least low up h =
    let parts = and_parts (is_among (y ∷ ys) x) (list_all (is_among (y ∷ ys)) xs) h in
    let first = up.0 in
    let other : (y.0 == x.0) ≡ false = ne_eqb y.0 x.0 (λ same. omega (arith, low, first, same)) in
    let among : is_among ys x ≡ true = ap (λ b. b || is_among ys x) (sym other) ∙ parts.0 in
    ap (λ b. b && list_all (is_among ys) xs) among ∙ among-others y ys xs (suc x.0) (omega (arith, low, first)) up.1 parts.1

-- the first is the first of the places, and the others are among the others; or all are among the others
data First (y : BytePos) (ys : List BytePos) (x : BytePos) (xs : List BytePos) : Type 0 where
  same : x ≡ y → list_all (is_among ys) xs ≡ true → First y ys x xs
  later : y.0 < x.0 → list_all (is_among ys) (x ∷ xs) ≡ true → First y ys x xs

first-of : (y : BytePos) (ys : List BytePos) (x : BytePos) (xs : List BytePos) → ascend_behind y ys ≡ true → Rises (suc x.0) xs → list_all (is_among (y ∷ ys)) (x ∷ xs) ≡ true → First y ys x xs
first-of y ys x xs up rises h = go (y.0 == x.0) refl parts.0
  where
    parts : (is_among (y ∷ ys) x ≡ true) × (list_all (is_among (y ∷ ys)) xs ≡ true)
    parts = and_parts (is_among (y ∷ ys) x) (list_all (is_among (y ∷ ys)) xs) h

    go : (b : Bool) → (y.0 == x.0) ≡ b → (b || is_among ys x) ≡ true → First y ys x xs
    go true e among =
        let same = eqb-true y.0 x.0 e in
        First.same (ap (λ n. record { 0 = n }) (sym same)) (among-others y ys xs (suc x.0) (omega (arith, same)) rises parts.1)
    go false e among =
        let low = among-behind y ys x up among in
        First.later low (ap (λ b. b && list_all (is_among ys) xs) among ∙ among-others y ys xs (suc x.0) (omega (arith, low)) rises parts.1)

tail-up : (y : BytePos) (ys : List BytePos) → ascend_behind y ys ≡ true → ascend ys ≡ true
tail-up y [] up = refl
tail-up y (z ∷ zs) up = (and_parts (nat_lt y.0 z.0) (ascend_behind z zs) up).1

no-more : (ys xs : List BytePos) (least : ℕ) → ascend ys ≡ true → Rises least xs → list_all (is_among ys) xs ≡ true → length xs ≤ length ys
no-more ys [] least up rises h = omega arith
no-more [] (x ∷ xs) least up rises h = cc
no-more (y ∷ ys) (x ∷ xs) least up rises h =
    go (first-of y ys x xs up rises.1 h) (no-more ys xs (suc x.0) (tail-up y ys up) rises.1) (no-more ys (x ∷ xs) least (tail-up y ys up) rises)
  where
    go : First y ys x xs → (list_all (is_among ys) xs ≡ true → length xs ≤ length ys) → (list_all (is_among ys) (x ∷ xs) ≡ true → length (x ∷ xs) ≤ length ys)
        → length (x ∷ xs) ≤ length (y ∷ ys)
    go (First.same e others) rest all = let le = rest others in omega (arith, le)
    go (First.later low others) rest all = let le = all others in omega (arith, le)

all-of-them : (ys xs : List BytePos) (least : ℕ) → ascend ys ≡ true → Rises least xs → list_all (is_among ys) xs ≡ true → length xs ≡ length ys → xs ≡ ys
all-of-them [] [] least up rises h many = refl
all-of-them [] (x ∷ xs) least up rises h many = cc
all-of-them (y ∷ ys) [] least up rises h many = absurd (omega (arith, many))
all-of-them (y ∷ ys) (x ∷ xs) least up rises h many =
    go (first-of y ys x xs up rises.1 h) (λ others. all-of-them ys xs (suc x.0) (tail-up y ys up) rises.1 others (omega (arith, many))) (no-more ys (x ∷ xs) least (tail-up y ys up) rises)
  where
    go : First y ys x xs → (list_all (is_among ys) xs ≡ true → xs ≡ ys) → (list_all (is_among ys) (x ∷ xs) ≡ true → length (x ∷ xs) ≤ length ys) → x ∷ xs ≡ y ∷ ys
    go (First.same e others) rest all = ap (λ p. p ∷ xs) e ∙ ap (λ ps. y ∷ ps) (rest others)
    go (First.later low others) rest all = let le = all others in absurd (omega (arith, le, many))

pub rereads_count_met : RereadsCountMet
unfolding steps_to_end_by met_to_end
rereads_count_met places settings context input up =
    let rule : SlashRule = at_places places in
    let first : Session = entered settings context input in
    let n : ℕ = enough first.input in
    let counted : rereads (text_steps_by rule settings context input) ≡ length (text_met rule settings context input) = all-rereads rule n first in
    let among = all-among places n first in
    record {
      counted = counted;
      among = among;
      all = λ many. all-of-them places (all_met rule n first) (place first.input) up (all-rise rule n first refl) among (sym counted ∙ many);
    }
