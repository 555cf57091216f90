-- A grammar whose parts keep their laws keeps the laws that the canonical text needs.
use Rattle.std.proofs.Common.{ℕ, Bool, true, false, ◌&&◌, ◌||◌, List, [], ◌∷◌, ◌++◌, Option, Some, None, ◌≡◌, ◌∙◌, sym, ap, refl, drop, length}
use Rattle.std.proofs.lemmas.Bool.{false≢true}
use Rattle.clean_runs.specs.Grammar.{Token, token, ended, Slot, first, at, Final, same, again, Laws, Rescan, behind}
use Rattle.clean_runs.specs.Parts.{Role, Text, Opener, Line, Plain, is_text, is_line, may_open, StartsGap, StartsLine, joint, Parts, tpl_found, scan_tpl, code_found, scan_in, between_parts, grammar, Follows, Again, PartLaws}

follows_code : (closes : List ℕ → Bool) (k : Role) (tail : List ℕ) → is_text k ≡ false → StartsGap tail → (is_line k ≡ true → StartsLine tail) → Follows closes k tail
follows_code closes Text tail n s l = cc
follows_code closes Opener tail n s l = tt
follows_code closes Line tail n s l = l refl
follows_code closes Plain tail n s l = s

follows_text : (closes : List ℕ → Bool) (k : Role) (tail : List ℕ) → may_open k ≡ true → (is_text k ≡ true → closes tail ≡ true) → Follows closes k tail
follows_text closes Text tail o t = t refl
follows_text closes Opener tail o t = tt
follows_text closes Line tail o t = cc
follows_text closes Plain tail o t = cc

text_opens : (k : Role) → k ≡ Text → may_open k ≡ true
text_opens k e = rw e refl

joint_gap : (f : Bool) (tail : List ℕ) → StartsGap (joint false f ++ tail)
joint_gap true tail = refl
joint_gap false tail = refl

joint_line : (f : Bool) (tail : List ℕ) → f ≡ true → StartsLine (joint false f ++ tail)
joint_line true tail e = refl
joint_line false tail e = cc

or_true : (b c : Bool) → c ≡ true → (b || c) ≡ true
or_true true c e = refl
or_true false c e = e

module _ {M S K : Type 0} (P : Parts M S K) (L : PartLaws M S K P) where
  -- at token p, with the text from p on
  pub record At (p : Token K) (m : M) (here : List ℕ) : Type 0 where
    pub plain : L.Plainly m
    pub start : P.is_start m ≡ false
    pub behind_text : P.was_text m ≡ is_text (P.role p.kind)
    pub behind_line : P.was_line m ≡ is_line (P.role p.kind)
    pub opens : P.in_text m ≡ true → may_open (P.role p.kind) ≡ true
    pub on_top : is_text (P.role p.kind) ≡ true → P.in_text m ≡ true
    pub closed : is_text (P.role p.kind) ≡ true → P.closes (behind p here) ≡ true

  pub record Start (m : M) : Type 0 where
    pub plain : L.Plainly m
    pub start : P.is_start m ≡ true
    pub outside : P.in_text m ≡ false

  abbrev pub Holds : Slot K → M → List ℕ → Type 0
  Holds first m here = Start m
  Holds (at p) m here = At p m here

  data TplRead (m : M) : Token K → List ℕ → Type 0 where
    read_text : (rest x : List ℕ) → P.text_at rest ≡ Some x → (P.was_text m ≡ true → P.closes rest ≡ false) → TplRead m (P.text m x) rest
    read_closing : (rest : List ℕ) → P.text_at rest ≡ Some [] → P.was_text m ≡ true → TplRead m (P.closing m rest) rest

  by_text : (m : M) (rest : List ℕ) (b : Bool) (o : Option (List ℕ)) (t : Token K) (here : List ℕ) (v : Bool) → P.was_text m ≡ b → P.text_at rest ≡ o → tpl_found P m b o rest ≡ token t here v → TplRead m t rest × (here ≡ rest)
  by_text m rest true None t here v h k e = cc
  by_text m rest false None t here v h k e = cc
  by_text m rest true (Some []) t here v h k e =
      let q : t ≡ P.closing m rest = cc in
      (rw q (read_closing rest k h), cc)
  by_text m rest false (Some []) t here v h k e =
      let q : t ≡ P.text m [] = cc in
      (rw q (read_text rest [] k (λ z. absurd (false≢true (sym h ∙ z)))), cc)
  by_text m rest true (Some (c ∷ x)) t here v h k e =
      let q : t ≡ P.text m (c ∷ x) = cc in
      (rw q (read_text rest (c ∷ x) k (λ z. L.text_full rest c x k)), cc)
  by_text m rest false (Some (c ∷ x)) t here v h k e =
      let q : t ≡ P.text m (c ∷ x) = cc in
      (rw q (read_text rest (c ∷ x) k (λ z. L.text_full rest c x k)), cc)

  tpl_read : (m : M) (rest : List ℕ) (t : Token K) (here : List ℕ) (v : Bool) → scan_tpl P m rest ≡ token t here v → TplRead m t rest × (here ≡ rest)
  tpl_read m [] t here v e = cc
  tpl_read m (c ∷ cs) t here v e = by_text m (c ∷ cs) (P.was_text m) (P.text_at (c ∷ cs)) t here v refl refl e

  no_end : (m : M) (rest : List ℕ) (b : Bool) (o : Option (List ℕ)) (v : Bool) → tpl_found P m b o rest ≡ ended v → rest ≡ []
  no_end m rest true None v e = cc
  no_end m rest false None v e = cc
  no_end m rest true (Some []) v e = cc
  no_end m rest false (Some []) v e = cc
  no_end m rest true (Some (c ∷ x)) v e = cc
  no_end m rest false (Some (c ∷ x)) v e = cc

  tpl_end : (m : M) (rest : List ℕ) (v : Bool) → scan_tpl P m rest ≡ ended v → rest ≡ []
  tpl_end m [] v e = refl
  tpl_end m (c ∷ cs) v e = no_end m (c ∷ cs) (P.was_text m) (P.text_at (c ∷ cs)) v e

  scan_by : (m : M) (y x : List ℕ) → P.text_at y ≡ Some x → scan_tpl P m y ≡ tpl_found P m (P.was_text m) (Some x) y
  scan_by m [] x e =
      let n = L.text_none in
      cc
  scan_by m (c ∷ cs) x e = rw e refl

  found_text : (m : M) (b : Bool) (x y : List ℕ) → (b ≡ true → x ≡ [] → ⊥) → tpl_found P m b (Some x) y ≡ token (P.text m x) y false
  found_text m true [] y n = absurd (n refl refl)
  found_text m false [] y n = refl
  found_text m true (c ∷ x) y n = refl
  found_text m false (c ∷ x) y n = refl

  no_empty : (m : M) (rest x : List ℕ) → P.text_at rest ≡ Some x → (P.was_text m ≡ true → P.closes rest ≡ false) → P.was_text m ≡ true → x ≡ [] → ⊥
  no_empty m rest x k n h e =
      let k2 : P.text_at rest ≡ Some [] = k ∙ ap (λ z. Some z) e in
      false≢true (sym (n h) ∙ L.text_empty rest k2)

  text_scan : (m : M) (b : List ℕ) (rest x tail : List ℕ) → b ≡ x → P.text_at rest ≡ Some x → (P.was_text m ≡ true → P.closes rest ≡ false) → P.closes tail ≡ true → scan_tpl P m (b ++ tail) ≡ token (P.text m x) (b ++ tail) false
  text_scan m b rest x tail q k n f =
      rw q (scan_by m (x ++ tail) x (L.text_again rest x tail k f) ∙ found_text m (P.was_text m) x (x ++ tail) (no_empty m rest x k n))

  closing_scan : (m : M) (y : List ℕ) (t : Token K) → P.closes y ≡ true → P.was_text m ≡ true → P.closing m y ≡ t → scan_tpl P m y ≡ token t y false
  closing_scan m y t k h q =
      scan_by m y [] (L.text_closed y k) ∙ (rw h (ap (λ z. token z y false) q))

  tpl_again : {m : M} {t : Token K} {rest : List ℕ} (tail : List ℕ) → TplRead m t rest → Follows P.closes (P.role t.kind) tail → scan_tpl P m (t.bytes ++ tail) ≡ token t (t.bytes ++ tail) false
  tpl_again {m} tail (read_text rest x k n) f =
      let g : P.closes tail ≡ true = rw (L.text_role m x) at f in
      text_scan m (P.text m x).bytes rest x tail (L.text_bytes m x) k n g
  tpl_again {m} tail (read_closing rest k h) f =
      let c = L.text_empty rest k in
      closing_scan m ((P.closing m rest).bytes ++ tail) (P.closing m rest) (L.closing_closes m rest tail c) h (L.closing_again m rest tail c)

  tpl_final : {m : M} {t : Token K} {rest : List ℕ} (here : List ℕ) (u : Token K) → TplRead m t rest → Final (grammar P) t here u → u ≡ t
  tpl_final here u d same = refl
  tpl_final {m} here u (read_text rest x k n) (again m2 s e) = absurd (false≢true (sym (L.text_slash m x) ∙ s))
  tpl_final {m} here u (read_closing rest k h) (again m2 s e) = absurd (false≢true (sym (L.closing_slash m rest) ∙ s))

  tpl_joint : {m : M} {t : Token K} {rest : List ℕ} (b : Bool) → P.was_text m ≡ b → TplRead m t rest → (b || is_text (P.role t.kind)) ≡ true
  tpl_joint {m} b q (read_text rest x k n) = or_true b _ (rw (L.text_role m x) refl)
  tpl_joint {m} b q (read_closing rest k h) = rw (sym q ∙ h) refl

  tpl_closes : {m : M} {t : Token K} {rest : List ℕ} (tail : List ℕ) → P.was_text m ≡ true → P.closes rest ≡ true → TplRead m t rest → P.closes (t.bytes ++ tail) ≡ true
  tpl_closes tail h k (read_text rest x e n) = absurd (false≢true (sym (n h) ∙ k))
  tpl_closes {m} tail h k (read_closing rest e g) = L.closing_closes m rest tail k

  -- The invariant

  text_closed_at : (m : M) (b rest x : List ℕ) → b ≡ x → P.text_at rest ≡ Some x → P.closes (drop (length b) rest) ≡ true
  text_closed_at m b rest x q k = rw q (L.text_behind rest x k)

  at_text : {m : M} {t : Token K} {rest : List ℕ} → L.Plainly m → P.in_text m ≡ true → TplRead m t rest → At t (P.after m t) rest
  at_text {m} p o (read_text rest x k n) =
      record {
        plain = L.text_plain m x p;
        start = L.after_start m _;
        behind_text = L.after_text m _;
        behind_line = L.after_line m _;
        opens = λ h. text_opens _ (L.text_role m x);
        on_top = λ h. L.text_inside m x ∙ o;
        closed = λ h. text_closed_at m _ rest x (L.text_bytes m x) k;
      }
  at_text {m} p o (read_closing rest k h) =
      record {
        plain = L.closing_plain m rest o p;
        start = L.after_start m _;
        behind_text = L.after_text m _;
        behind_line = L.after_line m _;
        opens = L.closing_opens m rest;
        on_top = λ z. absurd (false≢true (sym (L.closing_role m rest) ∙ z));
        closed = λ z. absurd (false≢true (sym (L.closing_role m rest) ∙ z));
      }

  at_code : (m : M) (r : List ℕ) (t : Token K) (here : List ℕ) (v : Bool) → L.Plainly m → P.in_text m ≡ false → P.code m r ≡ token t here v → At t (P.after m t) here
  at_code m r t here v p o e =
      let n = L.code_role m r t here v p o e in
      record {
        plain = L.code_plain m r t here v p o e;
        start = L.after_start m t;
        behind_text = L.after_text m t;
        behind_line = L.after_line m t;
        opens = L.code_opens m r t here v p o e;
        on_top = λ h. absurd (false≢true (sym n ∙ h));
        closed = λ h. absurd (false≢true (sym n ∙ h));
      }

  at_line : (m : M) (r here : List ℕ) → L.Plainly m → P.is_start m ≡ true → P.in_text m ≡ false → At (P.shebang r) (P.after m (P.shebang r)) here
  at_line m r here p s o =
      let k = L.shebang_role r in
      record {
        plain = L.shebang_plain m r s p;
        start = L.after_start m _;
        behind_text = L.after_text m _;
        behind_line = L.after_line m _;
        opens = λ h. absurd (false≢true (sym (L.shebang_inside m r ∙ o) ∙ h));
        on_top = λ h. absurd (false≢true (rw k at h));
        closed = λ h. absurd (false≢true (rw k at h));
      }

  next_at : (p : Token K) (m : M) (r : List ℕ) (t : Token K) (here : List ℕ) (v b : Bool) → At p m r → P.in_text m ≡ b → scan_in P b m (behind p r) ≡ token t here v → At t (P.after m t) here
  next_at p m r t here v true i o e =
      let d = tpl_read m (behind p r) t here v e in
      rw d.1 (at_text i.plain o d.0)
  next_at p m r t here v false i o e =
      let f = rw i.start at e in
      at_code m (behind p r) t here v i.plain o f

  first_found : (m : M) (r : List ℕ) (t : Token K) (here : List ℕ) (v b : Bool) → L.Plainly m → P.is_start m ≡ true → P.in_text m ≡ false → code_found P b m r ≡ token t here v → At t (P.after m t) here
  first_found m r t here v true p s o e =
      let q : t ≡ P.shebang r = cc in
      rw q (at_line m r here p s o)
  first_found m r t here v false p s o e = at_code m r t here v p o e

  first_at : (m : M) (r : List ℕ) (t : Token K) (here : List ℕ) (v : Bool) → Start m → scan_in P (P.in_text m) m r ≡ token t here v → At t (P.after m t) here
  first_at m r t here v i e =
      let f = rw (i.outside, i.start) at e in
      first_found m r t here v (P.begins_shebang r) i.plain i.start i.outside f

  regex_at : (p : Token K) (m : M) (here : List ℕ) (u : Token K) → At p m here → P.is_slash p.kind ≡ true → P.regex m p here ≡ Some u → At u (P.after m u) here
  regex_at p m here u i s e =
      let k = L.regex_role m p here u e in
      let n = L.slash_role p.kind s in
      record {
        plain = L.regex_plain m p here u e i.plain;
        start = L.after_start m u;
        behind_text = L.after_text m u;
        behind_line = L.after_line m u;
        opens = λ h. absurd (false≢true (sym n ∙ i.opens (sym (L.regex_inside m p here u e) ∙ h)));
        on_top = λ h. absurd (false≢true (rw k at h));
        closed = λ h. absurd (false≢true (rw k at h));
      }

  change_holds : (p : Slot K) (m : M) (here : List ℕ) (x : S) → Holds p m here → Holds p (P.change x m) here
  change_holds first m here x i =
      let k = L.change_keeps m x in
      record { plain = L.change_plain m x i.plain; start = k.start ∙ i.start; outside = k.inside ∙ i.outside }
  change_holds (at p) m here x i =
      let k = L.change_keeps m x in
      record {
        plain = L.change_plain m x i.plain;
        start = k.start ∙ i.start;
        behind_text = k.behind_text ∙ i.behind_text;
        behind_line = k.behind_line ∙ i.behind_line;
        opens = λ h. i.opens (sym k.inside ∙ h);
        on_top = λ h. k.inside ∙ i.on_top h;
        closed = i.closed;
      }

  -- What follows

  no_text : (p : Token K) (m : M) (r : List ℕ) → At p m r → P.in_text m ≡ false → is_text (P.role p.kind) ≡ false
  no_text p m r i o =
      elim (is_text (P.role p.kind)) as (λ v. is_text (P.role p.kind) ≡ v → v ≡ false) [ true ↦ (λ h. absurd (false≢true (sym o ∙ i.on_top h))) | false ↦ (λ h. refl) ] refl

  end_follows : (p : Token K) (m : M) (r : List ℕ) (v b : Bool) → At p m r → P.in_text m ≡ b → scan_in P b m (behind p r) ≡ ended v → Follows P.closes (P.role p.kind) []
  end_follows p m r v true i o e =
      let z = tpl_end m (behind p r) v e in
      follows_text P.closes (P.role p.kind) [] (i.opens o) (λ h. rw z at (i.closed h))
  end_follows p m r v false i o e =
      follows_code P.closes (P.role p.kind) [] (no_text p m r i o) tt (λ h. tt)

  code_final : (m : M) (r : List ℕ) (t : Token K) (here : List ℕ) (v : Bool) (u : Token K) → L.Plainly m → P.in_text m ≡ false → P.code m r ≡ token t here v → Final (grammar P) t here u → (is_text (P.role u.kind) ≡ false) × (u.flag ≡ t.flag)
  code_final m r t here v u p o e same = (L.code_role m r t here v p o e, refl)
  code_final m r t here v u p o e (again m2 s g) =
      let k = L.regex_role m2 t here u g in
      (rw k refl, L.regex_flag m2 t here u g)

  next_follows : (p : Token K) (m : M) (r : List ℕ) (t : Token K) (here : List ℕ) (v b : Bool) (u : Token K) (tail : List ℕ) → At p m r → P.in_text m ≡ b → scan_in P b m (behind p r) ≡ token t here v → Final (grammar P) t here u → Follows P.closes (P.role p.kind) (between_parts P p u ++ (u.bytes ++ tail))
  next_follows p m r t here v true u tail i o e l =
      let d = tpl_read m (behind p r) t here v e in
      let q = tpl_final here u d.0 l in
      let j = tpl_joint (is_text (P.role p.kind)) i.behind_text d.0 in
      rw q (rw j (follows_text P.closes (P.role p.kind) (t.bytes ++ tail) (i.opens o) (λ h. tpl_closes tail (i.behind_text ∙ h) (i.closed h) d.0)))
  next_follows p m r t here v false u tail i o e l =
      let f = rw i.start at e in
      let n = no_text p m r i o in
      let k = code_final m (behind p r) t here v u i.plain o f l in
      rw (n, k.0) (follows_code P.closes (P.role p.kind) _ n (joint_gap u.flag (u.bytes ++ tail)) (λ h. joint_line u.flag (u.bytes ++ tail) (k.1 ∙ L.code_line m (behind p r) t here v i.plain o (i.behind_line ∙ h) f)))

  -- Reading again

  next_scan : (p : Token K) (m : M) (r : List ℕ) (t : Token K) (here : List ℕ) (v b : Bool) (u : Token K) (tail : List ℕ) → At p m r → P.in_text m ≡ b → scan_in P b m (behind p r) ≡ token t here v → Final (grammar P) t here u → Follows P.closes (P.role u.kind) tail → Again (scan_in P b m (between_parts P p u ++ (u.bytes ++ tail))) t (u.bytes ++ tail) v
  next_scan p m r t here v true u tail i o e l w =
      let d = tpl_read m (behind p r) t here v e in
      let q = tpl_final here u d.0 l in
      let x : Follows P.closes (P.role t.kind) tail = rw q at w in
      let j = tpl_joint (is_text (P.role p.kind)) i.behind_text d.0 in
      record { waits = false; is = rw q (rw j (tpl_again tail d.0 x)); within = λ h. refl }
  next_scan p m r t here v false u tail i o e l w =
      let f = rw i.start at e in
      let n = no_text p m r i o in
      let k = code_final m (behind p r) t here v u i.plain o f l in
      let a = L.code_next m (behind p r) t here v u tail i.plain o i.start f l w in
      record { waits = a.waits; is = rw (i.start, n, k.0) a.is; within = a.within }

  line_final : (r here : List ℕ) (u : Token K) → Final (grammar P) (P.shebang r) here u → u ≡ P.shebang r
  line_final r here u same = refl
  line_final r here u (again m s e) = absurd (false≢true (sym (L.shebang_slash r) ∙ s))

  first_scan : (m : M) (r : List ℕ) (t : Token K) (here : List ℕ) (v b : Bool) (u : Token K) (tail : List ℕ) → Start m → P.begins_shebang r ≡ b → code_found P b m r ≡ token t here v → Final (grammar P) t here u → Follows P.closes (P.role u.kind) tail → Again (code_found P (P.begins_shebang (u.bytes ++ tail)) m (u.bytes ++ tail)) t (u.bytes ++ tail) v
  first_scan m r t here v true u tail i k e l w =
      let q : t ≡ P.shebang r = cc in
      let l2 : Final (grammar P) (P.shebang r) here u = rw q at l in
      let z = line_final r here u l2 in
      let x : StartsLine tail = rw (z, L.shebang_role r) at w in
      record { waits = false; is = rw (z, q) (rw (L.shebang_begins r tail k x) (ap (λ y. token y ((P.shebang r).bytes ++ tail) false) (L.shebang_again r tail k x))); within = λ h. refl }
  first_scan m r t here v false u tail i k e l w =
      let n = L.code_no_shebang m r t here v u tail i.plain i.outside e l w in
      let a = L.code_first m r t here v u tail i.plain i.outside i.start e l w in
      record { waits = a.waits; is = rw n a.is; within = a.within }

  first_again : (m : M) (r : List ℕ) (t : Token K) (here : List ℕ) (v b s : Bool) (u : Token K) (tail : List ℕ) → Start m → P.in_text m ≡ b → P.is_start m ≡ s → scan_in P b m r ≡ token t here v → Final (grammar P) t here u → Follows P.closes (P.role u.kind) tail → Again (scan_in P b m (u.bytes ++ tail)) t (u.bytes ++ tail) v
  first_again m r t here v true s u tail i o q e l w = absurd (false≢true (sym i.outside ∙ o))
  first_again m r t here v false s u tail i o q e l w =
      let f = rw i.start at e in
      let a = first_scan m r t here v (P.begins_shebang r) u tail i refl f l w in
      record { waits = a.waits; is = rw i.start a.is; within = a.within }

  end_code : (m : M) (b : Bool) → b ≡ false → code_found P b m [] ≡ ended false
  end_code m true e = cc
  end_code m false e = L.code_end m

  and_none : (b : Bool) → (b && P.begins_shebang []) ≡ false
  and_none true = L.no_shebang
  and_none false = refl

  end_scan : (m : M) (b : Bool) → scan_in P b m [] ≡ ended false
  end_scan m true = refl
  end_scan m false = end_code m (P.is_start m && P.begins_shebang []) (and_none (P.is_start m))

  regex_follows : (m : M) (p : Token K) (here : List ℕ) (u : Token K) (tail : List ℕ) → P.regex m p here ≡ Some u → Follows P.closes (P.role u.kind) tail → P.regex m p (u.bytes ++ tail) ≡ Some u
  regex_follows m p here u tail e w =
      let x : StartsGap tail = rw (L.regex_role m p here u e) at w in
      L.regex_again m p here u tail e x

  rescan : (m : M) (text : List ℕ) (t : Token K) (here : List ℕ) (v : Bool) → Again (scan_in P (P.in_text m) m text) t here v → Rescan (grammar P) m text t here v
  rescan m text t here v a =
      record { waits = a.waits; found = a.is; within = a.within }

  pub part_laws : Laws M S K (grammar P)
  part_laws =
      record {
        Follows = λ p tail. Follows P.closes (P.role p.kind) tail;
        Inv = Holds;
        inv_change = λ p m here x i. change_holds p m here x i;
        inv_first = λ m r t here v i e. first_at m r t here v i e;
        inv_next = λ p m r t here v i e. next_at p m r t here v (P.in_text m) i refl e;
        inv_regex = λ p m here u i s e. regex_at p m here u i s e;
        regex_no_slash = λ p m here u e. L.regex_slash m p here u e;
        follows_end = λ p m r v i e. end_follows p m r v (P.in_text m) i refl e;
        follows_next = λ p m r t here v u tail i e l. next_follows p m r t here v (P.in_text m) u tail i refl e l;
        scan_end = λ m. end_scan m (P.in_text m);
        scan_first = λ m r t here v u tail i e l w. rescan m _ t _ v (first_again m r t here v (P.in_text m) (P.is_start m) u tail i refl refl e l w);
        scan_next = λ p m r t here v u tail i e l w. rescan m _ t _ v (next_scan p m r t here v (P.in_text m) u tail i refl e l w);
        regex_again = λ p m here u tail i s e w. regex_follows m p here u tail e w;
      }

  pub start_holds : (m : M) (text : List ℕ) → Start m → part_laws.Inv first m text
  unfolding part_laws
  start_holds m text i = i
