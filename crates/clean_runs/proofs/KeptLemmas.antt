-- What a clean run keeps from each token on, and that each of its reads finds the same in the canonical text of that.
use Rattle.std.proofs.Common.{ℕ, Bool, true, false, ◌||◌, List, [], ◌∷◌, ◌++◌, Some, ◌≡◌, refl}
use Rattle.std.proofs.Math.Seq.{drop-append_seam}
use Rattle.clean_runs.specs.Grammar.{Token, token, Counting, first, at, Standing, Grammar, Final, same, again, Laws, Rescan, WaitsWithin, behind}
use Rattle.clean_runs.specs.Clean.{Calm, calm_none, calm_read, calm_set, calm_reread, calm_withdraw, Clean, end_next, read_next, read_again, set_mode, ask, refuse_next, take_back, canon_behind, canon}

pub or_within : (w w2 v v2 : Bool) → WaitsWithin w2 w → WaitsWithin v2 v → WaitsWithin (w2 || v2) (w || v)
or_within false w2 false v2 f g e = rw (f refl) (g refl)
or_within false w2 true v2 f g e = cc
or_within true w2 v v2 f g e = cc

-- what a clean run keeps from the place of its last token on
pub record Kept {M S K : Type 0} (G : Grammar M S K) (L : Laws M S K G) (t : Token K) (here : List ℕ) (ks : List (Token K)) : Type 0 where
  pub u : Token K
  pub us : List (Token K)
  pub is : ks ≡ u ∷ us
  pub final : Final G t here u
  pub follows : L.Follows u (canon_behind G u us)

final_through : {M S K : Type 0} (G : Grammar M S K) (t v : Token K) (here : List ℕ) (m : M) (u : Token K) → G.is_slash t.kind ≡ true → G.regex m t here ≡ Some v → G.is_slash v.kind ≡ false → Final G v here u → Final G t here u
final_through G t v here m u s e n same = again m s e
final_through G t v here m u s e n (again m2 s2 e2) = cc

module _ {M S K : Type 0} (G : Grammar M S K) (L : Laws M S K G) where
  pub calm_within : {w w2 : Bool} {cs : List (Counting S)} → WaitsWithin w2 w → Calm G w cs → Calm G w2 cs
  calm_within f calm_none = calm_none
  calm_within f (calm_read d) = calm_read (calm_within f d)
  calm_within f (calm_set g d) = calm_set (λ e. f (g e)) (calm_within f d)
  calm_within f (calm_reread d) = calm_reread (calm_within f d)
  calm_within f (calm_withdraw d) = calm_withdraw (calm_within f d)

  kept_next : (p : Token K) (m : M) (r : List ℕ) (t : Token K) (there : List ℕ) (v : Bool) (ks : List (Token K)) → L.Inv (at p) m r → G.scan m (behind p r) ≡ token t there v → Kept G L t there ks → Kept G L p r (p ∷ ks)
  kept_next p m r t there v ks i e k =
      record {
        u = p;
        us = ks;
        is = refl;
        final = same;
        follows = rw k.is (L.follows_next p m r t there v k.u (canon_behind G k.u k.us) i e k.final);
      }

  pub kept : {m : M} {t : Token K} {a : Standing} {w : Bool} {here : List ℕ} {cs : List (Counting S)} {ks : List (Token K)} → L.Inv (at t) m here → Clean G m (at t) a w here cs ks → Kept G L t here ks
  kept {m} {t} {a} {w} {here} i (end_next v e c) =
      record { u = t; us = []; is = refl; final = same; follows = L.follows_end t m here v i e }
  kept {m} {t} {a} {w} {here} i (read_next x there v e d) =
      kept_next t m here x there v _ i e (kept (L.inv_next t m here x there v i e) d)
  kept {m} {t} {a} {w} {here} i (read_again v s e d) =
      let k = kept (L.inv_regex t m here v i s e) d in
      record {
        u = k.u;
        us = k.us;
        is = k.is;
        final = final_through G t v here m k.u s e (L.regex_no_slash t m here v e) k.final;
        follows = k.follows;
      }
  kept {m} {t} {a} {w} {here} i (set_mode {x = x} g d) = kept (L.inv_change (at t) m here x i) d
  kept i (ask s d) = kept i d
  kept i (refuse_next s d) = kept i d
  kept i (take_back d) = kept i d

  pub scans_first : (m : M) (r : List ℕ) (t : Token K) (there : List ℕ) (v : Bool) (ks : List (Token K)) → L.Inv first m r → G.scan m r ≡ token t there v → Kept G L t there ks → Rescan G m (canon G ks) t (canon G ks) v
  scans_first m r t there v ks i e k =
      rw k.is (L.scan_first m r t there v k.u (canon_behind G k.u k.us) i e k.final k.follows)

  pub scans_next : (m : M) (p : Token K) (r : List ℕ) (t : Token K) (there : List ℕ) (v : Bool) (ks : List (Token K)) → L.Inv (at p) m r → G.scan m (behind p r) ≡ token t there v → Kept G L t there ks → Rescan G m (behind p (canon G (p ∷ ks))) t (canon G ks) v
  scans_next m p r t there v ks i e k =
      rw k.is (rw (drop-append_seam p.bytes (canon_behind G p (k.u ∷ k.us))) (L.scan_next p m r t there v k.u (canon_behind G k.u k.us) i e k.final k.follows))

  rereads_at : (m : M) (t : Token K) (here : List ℕ) (v u : Token K) (tail : List ℕ) → L.Inv (at t) m here → G.is_slash t.kind ≡ true → G.regex m t here ≡ Some v → Final G v here u → L.Follows u tail → G.regex m t (u.bytes ++ tail) ≡ Some v
  rereads_at m t here v u tail i s e same f = L.regex_again t m here v tail i s e f
  rereads_at m t here v u tail i s e (again m2 s2 e2) f =
      let n = L.regex_no_slash t m here v e in
      cc

  -- behind a reread the place of the last token holds what was reread
  pub rereads : (m : M) (t : Token K) (here : List ℕ) (v : Token K) (ks : List (Token K)) → L.Inv (at t) m here → G.is_slash t.kind ≡ true → G.regex m t here ≡ Some v → Kept G L v here ks → G.regex m t (canon G ks) ≡ Some v
  rereads m t here v ks i s e k =
      rw k.is (rereads_at m t here v k.u (canon_behind G k.u k.us) i s e k.final k.follows)
