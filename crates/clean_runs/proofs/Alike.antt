-- A clean run over a text and the one over its canonical text go through the same modes and answer the same tokens.
use Rattle.std.proofs.Common.{ℕ, Bool, false, List, [], ◌∷◌, Some, None, ap, refl}
use Rattle.std.proofs.Math.Seq.{drop-append_seam}
use Rattle.clean_runs.specs.Grammar.{Token, Counting, first, at, Standing, nothing, asked, Grammar, Laws, WaitsWithin}
use Rattle.clean_runs.specs.Clean.{Clean, end_first, end_next, read_first, read_next, read_again, set_mode, ask, refuse_first, refuse_next, take_back, canon}
use Rattle.clean_runs.specs.Moments.{moment, Twin}
use Rattle.clean_runs.proofs.KeptLemmas.{calm_within, kept, or_within, rereads, scans_first, scans_next}

module _ {M S K : Type 0} (G : Grammar M S K) (L : Laws M S K G) where
  slot_alike : {m : M} {t : Token K} {a : Standing} {w w2 : Bool} {here : List ℕ} {cs : List (Counting S)} {ks : List (Token K)} → WaitsWithin w2 w → L.Inv (at t) m here → (d : Clean G m (at t) a w here cs ks) → Twin G w2 (canon G ks) d
  slot_alike {m} {t} {a} {w} {w2} {here} f i (end_next v e c) =
      (end_next false (rw (drop-append_seam t.bytes []) (L.scan_end m)) (calm_within G L (or_within w w2 v false f (λ _. refl)) c), refl)
  slot_alike {m} {t} {a} {w} {w2} {here} f i (read_next x there v e d) =
      let j = L.inv_next t m here x there v i e in
      let s = scans_next G L m t here x there v _ i e (kept G L j d) in
      let r = slot_alike (or_within w w2 v s.waits f s.within) j d in
      (read_next x _ s.waits s.found r.0, ap (λ y. moment m nothing (Some x) ∷ y) r.1)
  slot_alike {m} {t} {a} {w} {w2} {here} f i (read_again v s e d) =
      let j = L.inv_regex t m here v i s e in
      let r = slot_alike f j d in
      (read_again v s (rereads G L m t here v _ i s e (kept G L j d)) r.0, ap (λ y. moment m asked (Some v) ∷ y) r.1)
  slot_alike {m} {t} {a} {w} {w2} {here} f i (set_mode {x = x} g d) =
      let r = slot_alike f (L.inv_change (at t) m here x i) d in
      (set_mode (λ e. f (g e)) r.0, ap (λ y. moment m a None ∷ y) r.1)
  slot_alike {m} {a = a} f i (ask s d) =
      let r = slot_alike f i d in
      (ask s r.0, ap (λ y. moment m a None ∷ y) r.1)
  slot_alike {m} {a = a} f i (refuse_next s d) =
      let r = slot_alike f i d in
      (refuse_next s r.0, ap (λ y. moment m a None ∷ y) r.1)
  slot_alike {m} {a = a} f i (take_back d) =
      let r = slot_alike f i d in
      (take_back r.0, ap (λ y. moment m a None ∷ y) r.1)

  -- the canonical text of a clean run is read cleanly, through the same moments
  pub run_alike : {m : M} {a : Standing} {w w2 : Bool} {here : List ℕ} {cs : List (Counting S)} {ks : List (Token K)} → WaitsWithin w2 w → L.Inv first m here → (d : Clean G m first a w here cs ks) → Twin G w2 (canon G ks) d
  run_alike {m} {a} {w} {w2} f i (end_first v e c) =
      (end_first false (L.scan_end m) (calm_within G L (or_within w w2 v false f (λ _. refl)) c), refl)
  run_alike {m} {a} {w} {w2} {here} f i (read_first x there v e d) =
      let j = L.inv_first m here x there v i e in
      let s = scans_first G L m here x there v _ i e (kept G L j d) in
      let r = slot_alike (or_within w w2 v s.waits f s.within) j d in
      (read_first x _ s.waits s.found r.0, ap (λ y. moment m nothing (Some x) ∷ y) r.1)
  run_alike {m} {a} {w} {w2} {here} f i (set_mode {x = x} g d) =
      let r = run_alike f (L.inv_change first m here x i) d in
      (set_mode (λ e. f (g e)) r.0, ap (λ y. moment m a None ∷ y) r.1)
  run_alike {m} {a} f i (refuse_first d) =
      let r = run_alike f i d in
      (refuse_first r.0, ap (λ y. moment m a None ∷ y) r.1)
  run_alike {m} {a} f i (take_back d) =
      let r = run_alike f i d in
      (take_back r.0, ap (λ y. moment m a None ∷ y) r.1)
