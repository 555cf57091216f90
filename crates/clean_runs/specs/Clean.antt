-- Clean runs of plain steps, and the canonical text of what they keep.
use Rattle.std.specs.Prelude.{ℕ, Bool, true, false, ◌||◌, List, [], ◌∷◌, ◌++◌, Some, ◌≡◌}
use Rattle.clean_runs.specs.Grammar.{Token, token, ended, Counting, read, set, reread, withdraw, Slot, first, at, Standing, nothing, asked, answered, Grammar, behind}

-- steps behind the end, where w says whether an error waits: none of them records one
pub data Calm {M S K : Type 0} (G : Grammar M S K) (w : Bool) : List (Counting S) → Type 0 where
  calm_none : Calm G w []
  calm_read : {cs : List (Counting S)} → Calm G w cs → Calm G w (read ∷ cs)
  calm_set : {cs : List (Counting S)} {x : S} → (G.records x ≡ true → w ≡ false) → Calm G w cs → Calm G w (set x ∷ cs)
  calm_reread : {cs : List (Counting S)} → Calm G w cs → Calm G w (reread ∷ cs)
  calm_withdraw : {cs : List (Counting S)} → Calm G w cs → Calm G w (withdraw ∷ cs)

-- From a mode, the last token, whether a reread stands, whether an error waits, and the text from the last
-- token's first byte on (all of the text, where there is none), a list of counting steps reads cleanly to the
-- end, and these are the tokens that it keeps, from what the place of the last token holds in the end.
pub data Clean {M S K : Type 0} (G : Grammar M S K) : M → Slot K → Standing → Bool → List ℕ → List (Counting S) → List (Token K) → Type 0 where
  end_first : {m : M} {w : Bool} {here : List ℕ} {cs : List (Counting S)} (v : Bool) → G.scan m here ≡ ended v → Calm G (w || v) cs → Clean G m first nothing w here (read ∷ cs) []
  end_next : {m : M} {p : Token K} {w : Bool} {here : List ℕ} {cs : List (Counting S)} (v : Bool) → G.scan m (behind p here) ≡ ended v → Calm G (w || v) cs → Clean G m (at p) nothing w here (read ∷ cs) (p ∷ [])
  read_first : {m : M} {w : Bool} {here : List ℕ} {cs : List (Counting S)} {ks : List (Token K)} (t : Token K) (there : List ℕ) (v : Bool) → G.scan m here ≡ token t there v → Clean G (G.after m t) (at t) nothing (w || v) there cs ks → Clean G m first nothing w here (read ∷ cs) ks
  read_next : {m : M} {p : Token K} {w : Bool} {here : List ℕ} {cs : List (Counting S)} {ks : List (Token K)} (t : Token K) (there : List ℕ) (v : Bool) → G.scan m (behind p here) ≡ token t there v → Clean G (G.after m t) (at t) nothing (w || v) there cs ks → Clean G m (at p) nothing w here (read ∷ cs) (p ∷ ks)
  read_again : {m : M} {p : Token K} {w : Bool} {here : List ℕ} {cs : List (Counting S)} {ks : List (Token K)} (u : Token K) → G.is_slash p.kind ≡ true → G.regex m p here ≡ Some u → Clean G (G.after m u) (at u) answered w here cs ks → Clean G m (at p) asked w here (read ∷ cs) ks
  set_mode : {m : M} {p : Slot K} {a : Standing} {w : Bool} {here : List ℕ} {cs : List (Counting S)} {ks : List (Token K)} {x : S} → (G.records x ≡ true → w ≡ false) → Clean G (G.change x m) p a w here cs ks → Clean G m p a w here (set x ∷ cs) ks
  ask : {m : M} {p : Token K} {a : Standing} {w : Bool} {here : List ℕ} {cs : List (Counting S)} {ks : List (Token K)} → G.is_slash p.kind ≡ true → Clean G m (at p) asked w here cs ks → Clean G m (at p) a w here (reread ∷ cs) ks
  refuse_first : {m : M} {a : Standing} {w : Bool} {here : List ℕ} {cs : List (Counting S)} {ks : List (Token K)} → Clean G m first a w here cs ks → Clean G m first a w here (reread ∷ cs) ks
  refuse_next : {m : M} {p : Token K} {a : Standing} {w : Bool} {here : List ℕ} {cs : List (Counting S)} {ks : List (Token K)} → G.is_slash p.kind ≡ false → Clean G m (at p) a w here cs ks → Clean G m (at p) a w here (reread ∷ cs) ks
  take_back : {m : M} {p : Slot K} {a : Standing} {w : Bool} {here : List ℕ} {cs : List (Counting S)} {ks : List (Token K)} → Clean G m p nothing w here cs ks → Clean G m p a w here (withdraw ∷ cs) ks

-- the canonical text behind a token, and of a whole kept list
abbrev pub canon_behind : {M S K : Type 0} → Grammar M S K → Token K → List (Token K) → List ℕ
canon_behind G p [] = []
canon_behind G p (u ∷ us) = G.between p u ++ (u.bytes ++ canon_behind G u us)

abbrev pub canon : {M S K : Type 0} → Grammar M S K → List (Token K) → List ℕ
canon G [] = []
canon G (u ∷ us) = u.bytes ++ canon_behind G u us
