-- One text, one list of steps: one kept list. So two clean texts share a canonical text where they keep the same.
use Rattle.std.proofs.Common.{ℕ, Bool, List, ◌∷◌, ◌≡◌, ap, sym, subst, refl}
use Rattle.clean_runs.specs.Grammar.{Token, Counting, Slot, first, at, Standing, Grammar, Laws}
use Rattle.clean_runs.specs.Clean.{Clean, end_first, end_next, read_first, read_next, read_again, set_mode, ask, refuse_first, refuse_next, take_back, canon}
use Rattle.clean_runs.proofs.Alike.{run_alike}

module _ {M S K : Type 0} (G : Grammar M S K) where
  pub moved : {a : Standing} {w : Bool} {cs : List (Counting S)} {ks : List (Token K)} (m : M) (t t2 : Token K) (here here2 : List ℕ) → t2 ≡ t → here2 ≡ here → Clean G (G.after m t2) (at t2) a w here2 cs ks → Clean G (G.after m t) (at t) a w here cs ks
  moved {a} {w} {cs} {ks} m t t2 here here2 e f d =
      let d2 = subst (λ x. Clean G (G.after m x) (at x) a w here2 cs ks) e d in
      subst (λ x. Clean G (G.after m t) (at t) a w x cs ks) f d2

  pub same_kept : {m : M} {p : Slot K} {a : Standing} {w w2 : Bool} {here : List ℕ} {cs : List (Counting S)} {ks ks2 : List (Token K)} → Clean G m p a w here cs ks → Clean G m p a w2 here cs ks2 → ks ≡ ks2
  same_kept (end_first v e c) (end_first v2 e2 c2) = refl
  same_kept (end_first v e c) (read_first t2 th2 v2 e2 d2) = cc
  same_kept (end_next v e c) (end_next v2 e2 c2) = refl
  same_kept (end_next v e c) (read_next t2 th2 v2 e2 d2) = cc
  same_kept (read_first t th v e d) (end_first v2 e2 c2) = cc
  same_kept {m} (read_first t th v e d) (read_first t2 th2 v2 e2 d2) =
      same_kept d (moved m t t2 th th2 (cc) (cc) d2)
  same_kept (read_next t th v e d) (end_next v2 e2 c2) = cc
  same_kept {m} {p} (read_next {p = q} t th v e d) (read_next t2 th2 v2 e2 d2) =
      ap (λ x. q ∷ x) (same_kept d (moved m t t2 th th2 (cc) (cc) d2))
  same_kept {m} {here = here} (read_again u s e d) (read_again u2 s2 e2 d2) =
      same_kept d (moved m u u2 here here (cc) refl d2)
  same_kept (set_mode g d) (set_mode g2 d2) = same_kept d d2
  same_kept (ask s d) (ask s2 d2) = same_kept d d2
  same_kept (ask s d) (refuse_next s2 d2) = cc
  same_kept (refuse_first d) (refuse_first d2) = same_kept d d2
  same_kept (refuse_next s d) (refuse_next s2 d2) = same_kept d d2
  same_kept (refuse_next s d) (ask s2 d2) = cc
  same_kept (take_back d) (take_back d2) = same_kept d d2

-- two clean texts with one canonical text keep the same tokens
pub shared : {M S K : Type 0} (G : Grammar M S K) (L : Laws M S K G) {m : M} {a : Standing} {w w2 : Bool} {here here2 : List ℕ} {cs : List (Counting S)} {ks ks2 : List (Token K)} → L.Inv first m here → L.Inv first m here2 → Clean G m first a w here cs ks → Clean G m first a w2 here2 cs ks2 → canon G ks ≡ canon G ks2 → ks ≡ ks2
shared G L {m} {a} {w} {w2} {here} {here2} {cs} {ks} {ks2} i j d d2 e =
    let c = (run_alike G L (λ x. x) i d).0 in
    let c2 = (run_alike G L (λ x. x) j d2).0 in
    same_kept G c (subst (λ x. Clean G m first a w2 x cs ks2) (sym e) c2)
