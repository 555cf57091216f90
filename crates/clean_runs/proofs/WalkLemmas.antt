-- What is walked is a clean run, and each clean run is walked.
use Rattle.std.proofs.Common.{ℕ, Bool, true, false, not, cond, ◌&&◌, ◌||◌, List, [], ◌∷◌, Option, Some, None, ◌≡◌, ◌∙◌, ap, subst, refl}
use Rattle.clean_runs.specs.Grammar.{Token, Found, token, ended, faulty, Counting, read, set, reread, withdraw, Slot, first, at, Standing, nothing, asked, answered, Grammar, behind}
use Rattle.clean_runs.specs.Clean.{Calm, calm_none, calm_read, calm_set, calm_reread, calm_withdraw, Clean, end_first, end_next, read_first, read_next, read_again, set_mode, ask, refuse_first, refuse_next, take_back}
use Rattle.clean_runs.specs.Moments.{Moment, calm_moments, moment, moments}
use Rattle.clean_runs.specs.Walk.{IsClean, Walked, is_calm, walk, walk_again, walk_first, walk_found, walked_if, with_moment, with_token}

module _ {M S K : Type 0} (G : Grammar M S K) where
  -- Steps behind the end

  unrecorded : (r w : Bool) → not (r && w) ≡ true → r ≡ true → w ≡ false
  unrecorded true true e h = cc
  unrecorded true false e h = refl
  unrecorded false w e h = cc

  recorded-not : (r w : Bool) → (r ≡ true → w ≡ false) → not (r && w) ≡ true
  recorded-not true w g = ap not (g refl)
  recorded-not false w g = refl

  and-both : (p q : Bool) → p && q ≡ true → (p ≡ true) × (q ≡ true)
  and-both true q e = (refl, e)
  and-both false q e = cc

  calm-is : (w : Bool) (cs : List (Counting S)) → is_calm G w cs ≡ true → Calm G w cs
  calm-is w [] e = calm_none
  calm-is w (read ∷ cs) e = calm_read (calm-is w cs e)
  calm-is w (set x ∷ cs) e =
      let both = and-both (not (G.records x && w)) (is_calm G w cs) e in
      calm_set (unrecorded (G.records x) w both.0) (calm-is w cs both.1)
  calm-is w (reread ∷ cs) e = calm_reread (calm-is w cs e)
  calm-is w (withdraw ∷ cs) e = calm_withdraw (calm-is w cs e)

  is-calm : {w : Bool} {cs : List (Counting S)} → Calm G w cs → is_calm G w cs ≡ true
  is-calm calm_none = refl
  is-calm (calm_read c) = is-calm c
  is-calm {w} (calm_set {cs = cs} {x = x} g c) =
      ap (λ b. b && is_calm G w cs) (recorded-not (G.records x) w g) ∙ is-calm c
  is-calm (calm_reread c) = is-calm c
  is-calm (calm_withdraw c) = is-calm c

  -- What is walked is a clean run

  abbrev Sound : M → Slot K → Standing → Bool → List ℕ → List (Counting S) → Option (Walked M K) → Type 0
  Sound m p a w here cs None = Unit {0}
  Sound m p a w here cs (Some x) = (d : Clean G m p a w here cs x.kept) × (moments G d ≡ x.moments)

  sound-found : (m : M) (w : Bool) (here : List ℕ) (cs : List (Counting S)) (onward : M → Token K → Bool → List ℕ → Option (Walked M K)) (f : Found K) → G.scan m here ≡ f
      → ((m2 : M) (t : Token K) (w2 : Bool) (there : List ℕ) → Sound m2 (at t) nothing w2 there cs (onward m2 t w2 there)) → Sound m first nothing w here (read ∷ cs) (walk_found G m w cs onward f)
  sound-found m w here cs onward faulty e ih = tt
  sound-found m w here cs onward (ended v) e ih = go (is_calm G (w || v) cs) refl
    where
      go : (b : Bool) → is_calm G (w || v) cs ≡ b → Sound m first nothing w here (read ∷ cs) (with_moment (moment m nothing None) (walked_if b (Some (record { kept = []; moments = calm_moments G m cs }))))
      go true c = (end_first v e (calm-is (w || v) cs c), refl)
      go false c = tt
  sound-found m w here cs onward (token t there v) e ih = go (onward (G.after m t) t (w || v) there) (ih (G.after m t) t (w || v) there)
    where
      go : (o : Option (Walked M K)) → Sound (G.after m t) (at t) nothing (w || v) there cs o → Sound m first nothing w here (read ∷ cs) (with_moment (moment m nothing (Some t)) o)
      go None s = tt
      go (Some x) (d, is) = (read_first t there v e d, ap (λ ms. moment m nothing (Some t) ∷ ms) is)

  sound-next : (m : M) (p : Token K) (w : Bool) (here : List ℕ) (cs : List (Counting S)) (onward : M → Token K → Bool → List ℕ → Option (Walked M K)) (f : Found K) → G.scan m (behind p here) ≡ f
      → ((m2 : M) (t : Token K) (w2 : Bool) (there : List ℕ) → Sound m2 (at t) nothing w2 there cs (onward m2 t w2 there)) → Sound m (at p) nothing w here (read ∷ cs) (with_token p (walk_found G m w cs onward f))
  sound-next m p w here cs onward faulty e ih = tt
  sound-next m p w here cs onward (ended v) e ih = go (is_calm G (w || v) cs) refl
    where
      go : (b : Bool) → is_calm G (w || v) cs ≡ b → Sound m (at p) nothing w here (read ∷ cs) (with_token p (with_moment (moment m nothing None) (walked_if b (Some (record { kept = []; moments = calm_moments G m cs })))))
      go true c = (end_next v e (calm-is (w || v) cs c), refl)
      go false c = tt
  sound-next m p w here cs onward (token t there v) e ih = go (onward (G.after m t) t (w || v) there) (ih (G.after m t) t (w || v) there)
    where
      go : (o : Option (Walked M K)) → Sound (G.after m t) (at t) nothing (w || v) there cs o → Sound m (at p) nothing w here (read ∷ cs) (with_token p (with_moment (moment m nothing (Some t)) o))
      go None s = tt
      go (Some x) (d, is) = (read_next t there v e d, ap (λ ms. moment m nothing (Some t) ∷ ms) is)

  sound-again : (m : M) (p : Token K) (w : Bool) (here : List ℕ) (cs : List (Counting S)) (onward : M → Token K → Option (Walked M K)) (slash : Bool) (found : Option (Token K)) → G.is_slash p.kind ≡ slash
      → G.regex m p here ≡ found → ((m2 : M) (u : Token K) → Sound m2 (at u) answered w here cs (onward m2 u)) → Sound m (at p) asked w here (read ∷ cs) (walk_again G m onward slash found)
  sound-again m p w here cs onward false found s e ih = tt
  sound-again m p w here cs onward true None s e ih = tt
  sound-again m p w here cs onward true (Some u) s e ih = go (onward (G.after m u) u) (ih (G.after m u) u)
    where
      go : (o : Option (Walked M K)) → Sound (G.after m u) (at u) answered w here cs o → Sound m (at p) asked w here (read ∷ cs) (with_moment (moment m asked (Some u)) o)
      go None h = tt
      go (Some x) (d, is) = (read_again u s e d, ap (λ ms. moment m asked (Some u) ∷ ms) is)

  sound-set : (m : M) (p : Slot K) (a : Standing) (w : Bool) (here : List ℕ) (x : S) (cs : List (Counting S)) (b : Bool) (o : Option (Walked M K)) → not (G.records x && w) ≡ b
      → Sound (G.change x m) p a w here cs o → Sound m p a w here (set x ∷ cs) (walked_if b (with_moment (moment m a None) o))
  sound-set m p a w here x cs false o e s = tt
  sound-set m p a w here x cs true None e s = tt
  sound-set m p a w here x cs true (Some y) e (d, is) =
      (set_mode (unrecorded (G.records x) w e) d, ap (λ ms. moment m a None ∷ ms) is)

  sound-asked : (m : M) (p : Token K) (a : Standing) (w : Bool) (here : List ℕ) (cs : List (Counting S)) (slash : Bool) (o : Option (Walked M K)) → G.is_slash p.kind ≡ slash
      → Sound m (at p) (cond slash asked a) w here cs o → Sound m (at p) a w here (reread ∷ cs) (with_moment (moment m a None) o)
  sound-asked m p a w here cs slash None e s = tt
  sound-asked m p a w here cs true (Some y) e (d, is) = (ask e d, ap (λ ms. moment m a None ∷ ms) is)
  sound-asked m p a w here cs false (Some y) e (d, is) = (refuse_next e d, ap (λ ms. moment m a None ∷ ms) is)

  sound-withdrawn : (m : M) (p : Slot K) (a : Standing) (w : Bool) (here : List ℕ) (cs : List (Counting S)) (o : Option (Walked M K)) → Sound m p nothing w here cs o
      → Sound m p a w here (withdraw ∷ cs) (with_moment (moment m a None) o)
  sound-withdrawn m p a w here cs None s = tt
  sound-withdrawn m p a w here cs (Some y) (d, is) = (take_back d, ap (λ ms. moment m a None ∷ ms) is)

  sound-refused : (m : M) (w : Bool) (here : List ℕ) (cs : List (Counting S)) (o : Option (Walked M K)) → Sound m first nothing w here cs o
      → Sound m first nothing w here (reread ∷ cs) (with_moment (moment m nothing None) o)
  sound-refused m w here cs None s = tt
  sound-refused m w here cs (Some y) (d, is) = (refuse_first d, ap (λ ms. moment m nothing None ∷ ms) is)

  walk-sound : (m : M) (p : Token K) (a : Standing) (w : Bool) (here : List ℕ) (cs : List (Counting S)) → Sound m (at p) a w here cs (walk G m p a w here cs)
  walk-sound m p a w here [] = tt
  walk-sound m p nothing w here (read ∷ cs) =
      sound-next m p w here cs _ (G.scan m (behind p here)) refl (λ m2 t w2 there. walk-sound m2 t nothing w2 there cs)
  walk-sound m p asked w here (read ∷ cs) =
      sound-again m p w here cs _ (G.is_slash p.kind) (G.regex m p here) refl refl (λ m2 u. walk-sound m2 u answered w here cs)
  walk-sound m p answered w here (read ∷ cs) = tt
  walk-sound m p a w here (set x ∷ cs) =
      sound-set m (at p) a w here x cs _ _ refl (walk-sound (G.change x m) p a w here cs)
  walk-sound m p a w here (reread ∷ cs) =
      sound-asked m p a w here cs (G.is_slash p.kind) _ refl (walk-sound m p (cond (G.is_slash p.kind) asked a) w here cs)
  walk-sound m p a w here (withdraw ∷ cs) = sound-withdrawn m (at p) a w here cs _ (walk-sound m p nothing w here cs)

  walk_first-sound : (m : M) (w : Bool) (here : List ℕ) (cs : List (Counting S)) → Sound m first nothing w here cs (walk_first G m w here cs)
  walk_first-sound m w here [] = tt
  walk_first-sound m w here (read ∷ cs) =
      sound-found m w here cs _ (G.scan m here) refl (λ m2 t w2 there. walk-sound m2 t nothing w2 there cs)
  walk_first-sound m w here (set x ∷ cs) =
      sound-set m first nothing w here x cs _ _ refl (walk_first-sound (G.change x m) w here cs)
  walk_first-sound m w here (reread ∷ cs) = sound-refused m w here cs _ (walk_first-sound m w here cs)
  walk_first-sound m w here (withdraw ∷ cs) =
      sound-withdrawn m first nothing w here cs _ (walk_first-sound m w here cs)

  pub walk_first-clean : (m : M) (w : Bool) (here : List ℕ) (cs : List (Counting S)) (x : Walked M K) → walk_first G m w here cs ≡ Some x → IsClean G m w here cs x
  walk_first-clean m w here cs x e = go (walk_first G m w here cs) e (walk_first-sound m w here cs)
    where
      go : (o : Option (Walked M K)) → o ≡ Some x → Sound m first nothing w here cs o → IsClean G m w here cs x
      go None e h = cc
      go (Some y) e h = let same : y ≡ x = cc in subst (IsClean G m w here cs) same h

  -- Each clean run is walked

  abbrev walked : List (Token K) → List (Moment M K) → Option (Walked M K)
  walked ks ms = Some (record { kept = ks; moments = ms })

  walk-complete : {m : M} {p : Token K} {a : Standing} {w : Bool} {here : List ℕ} {cs : List (Counting S)} {ks : List (Token K)} (d : Clean G m (at p) a w here cs ks) → walk G m p a w here cs ≡ walked ks (moments G d)
  walk-complete {m} {p} {w = w} (end_next {cs = cs} v e c) = rw (e, is-calm c) refl
  walk-complete {m} {p} {w = w} (read_next t th v e d) = rw (e, walk-complete d) refl
  walk-complete {m} {p} {w = w} (read_again u s e d) = rw (s, e, walk-complete d) refl
  walk-complete {m} {p} {w = w} (set_mode {x = x} g d) = rw (recorded-not (G.records x) w g, walk-complete d) refl
  walk-complete (ask s d) = rw (s, walk-complete d) refl
  walk-complete (refuse_next s d) = rw (s, walk-complete d) refl
  walk-complete (take_back d) = rw (walk-complete d) refl

  pub walk_first-complete : {m : M} {w : Bool} {here : List ℕ} {cs : List (Counting S)} {ks : List (Token K)} (d : Clean G m first nothing w here cs ks) → walk_first G m w here cs ≡ walked ks (moments G d)
  walk_first-complete {w = w} (end_first v e c) = rw (e, is-calm c) refl
  walk_first-complete (read_first t th v e d) = rw (e, walk-complete d) refl
  walk_first-complete {w = w} (set_mode {x = x} g d) = rw (recorded-not (G.records x) w g, walk_first-complete d) refl
  walk_first-complete (refuse_first d) = rw (walk_first-complete d) refl
  walk_first-complete (take_back d) = rw (walk_first-complete d) refl
