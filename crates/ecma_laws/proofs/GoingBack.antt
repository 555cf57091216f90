-- Going back leaves nothing of the excursion.
use Rattle.std.proofs.Common.{◌≡◌, ◌∙◌, ℕ, ◌+◌, ◌<◌, ◌≤◌, Bool, true, false, ◌&&◌, List, [], ◌∷◌, ◌++◌, Option, Some, None, length, slice_get, refl, sym, ap, arith, append_assoc}
use Rattle.std.specs.List.{list_all}
use Rattle.std.proofs.lemmas.List.{append-nil, length-append, get_or_append_left}
use Rattle.std.proofs.lemmas.List.Sums.{fold-append}
use Rattle.std.proofs.Math.Seq.{get_or-append_seam}
use Rattle.std.proofs.lemmas.Option.{slice_get-get_or}
use Rattle.ecma_state.specs.declared.step.Step.{Step}
use Rattle.ecma_state.specs.declared.step.Step.TheVariants.{Read, SetCtx, SetExprAllowed, SetContexts, PopContext, Reread, Withdraw, Save, Back, TakeErrors}
use Rattle.ecma_state.specs.Counting.{Counted, none_yet, counted, gone_back, count_step, count_all, counting}
use Rattle.ecma_state.specs.Session.{Session}
use Rattle.ecma_state.specs.Run.{act, act_all, answer_behind, answers_behind}
use Rattle.ecma_laws.specs.Excursion.{saves_of, stays_within, there_and_back, without, GoingBackUndoes}

get_left : {A : Type 0} (d : A) (xs ys : List A) (m : ℕ) → m < length xs → slice_get (xs ++ ys) m ≡ slice_get xs m
get_left d xs ys m h =
    let long : m < length (xs ++ ys) = rw (length-append xs ys) (omega (arith, h)) in
    slice_get-get_or (xs ++ ys) m d long ∙ (ap (λ x. Some x) (get_or_append_left xs ys d m h) ∙ sym (slice_get-get_or xs m d h))

get_seam : {A : Type 0} (d : A) (xs : List A) (y : A) (ys : List A) → slice_get (xs ++ y ∷ ys) (length xs) ≡ Some y
get_seam d xs y ys =
    let long : length xs < length (xs ++ y ∷ ys) = rw (length-append xs (y ∷ ys)) (omega arith) in
    slice_get-get_or (xs ++ y ∷ ys) (length xs) d long ∙ ap (λ x. Some x) (get_or-append_seam xs y ys d)

-- Saves are only added

pub record Longer (c d : Counted) : Type 0 where
  pub more : List (List Step)
  pub saves : d.saves ≡ c.saves ++ more

same_saves : (c d : Counted) → d.saves ≡ c.saves → Longer c d
same_saves c d e = record { more = []; saves = e ∙ sym (append-nil c.saves) }

back_longer : (c : Counted) (o : Option (List Step)) → Longer c (gone_back c o)
back_longer c None = same_saves c c refl
back_longer c (Some steps) = same_saves c (gone_back c (Some steps)) refl

step_longer : (c : Counted) (x : Step) → Longer c (count_step c x)
unfolding count_step
step_longer c Save = record { more = c.steps ∷ []; saves = refl }
step_longer c (Back n) = back_longer c (slice_get c.saves n)
step_longer c Read = same_saves c (counted c Read) refl
step_longer c (SetCtx ctx) = same_saves c (counted c (SetCtx ctx)) refl
step_longer c (SetExprAllowed b) = same_saves c (counted c (SetExprAllowed b)) refl
step_longer c (SetContexts cs) = same_saves c (counted c (SetContexts cs)) refl
step_longer c PopContext = same_saves c (counted c PopContext) refl
step_longer c Reread = same_saves c (counted c Reread) refl
step_longer c Withdraw = same_saves c (counted c Withdraw) refl
step_longer c TakeErrors = same_saves c (counted c TakeErrors) refl

longer_trans : {a b c : Counted} → Longer a b → Longer b c → Longer a c
longer_trans {a} {b} {c} f g =
    record {
      more = f.more ++ g.more;
      saves = g.saves ∙ (ap (λ xs. xs ++ g.more) f.saves ∙ append_assoc a.saves f.more g.more);
    }

pub all_longer : (c : Counted) (steps : List Step) → Longer c (count_all c steps)
all_longer c [] = same_saves c c refl
all_longer c (x ∷ steps) = longer_trans (step_longer c x) (all_longer (count_step c x) steps)

-- Two places in a run that count the same steps, and agree on the first k saves

pub record SameBelow (k : ℕ) (c d : Counted) : Type 0 where
  pub steps : c.steps ≡ d.steps
  pub left : k ≤ length c.saves
  pub right : k ≤ length d.saves
  pub saves : (m : ℕ) → m < k → slice_get c.saves m ≡ slice_get d.saves m

counted_same : (k : ℕ) (c d : Counted) (x : Step) → SameBelow k c d → SameBelow k (counted c x) (counted d x)
counted_same k c d x s =
    record { steps = ap (λ xs. xs ++ x ∷ []) s.steps; left = s.left; right = s.right; saves = s.saves }

saved_same : (k : ℕ) (c d : Counted) → SameBelow k c d → SameBelow k (record c { saves = c.saves ++ c.steps ∷ [] }) (record d { saves = d.saves ++ d.steps ∷ [] })
saved_same k c d s =
    record {
      steps = s.steps;
      left = rw (length-append c.saves (c.steps ∷ [])) (omega (arith, s.left));
      right = rw (length-append d.saves (d.steps ∷ [])) (omega (arith, s.right));
      saves = λ m h. get_left [] c.saves (c.steps ∷ []) m (omega (arith, s.left, h)) ∙ (s.saves m h ∙ sym (get_left [] d.saves (d.steps ∷ []) m (omega (arith, s.right, h))));
    }

back_same : (k : ℕ) (c d : Counted) (o : Option (List Step)) → SameBelow k c d → SameBelow k (gone_back c o) (gone_back d o)
back_same k c d None s = s
back_same k c d (Some steps) s =
    record { steps = refl; left = s.left; right = s.right; saves = s.saves }

step_same : (k : ℕ) (c d : Counted) (x : Step) → stays_within k x ≡ true → SameBelow k c d → SameBelow k (count_step c x) (count_step d x)
unfolding count_step
step_same k c d Save e s = saved_same k c d s
step_same k c d (Back n) e s =
    rw (s.saves n (grind (arith, e))) (back_same k c d (slice_get d.saves n) s)
step_same k c d Read e s = counted_same k c d Read s
step_same k c d (SetCtx ctx) e s = counted_same k c d (SetCtx ctx) s
step_same k c d (SetExprAllowed b) e s = counted_same k c d (SetExprAllowed b) s
step_same k c d (SetContexts cs) e s = counted_same k c d (SetContexts cs) s
step_same k c d PopContext e s = counted_same k c d PopContext s
step_same k c d Reread e s = counted_same k c d Reread s
step_same k c d Withdraw e s = counted_same k c d Withdraw s
step_same k c d TakeErrors e s = counted_same k c d TakeErrors s

pub and_left : (a b : Bool) → (a && b) ≡ true → a ≡ true
and_left true b e = refl
and_left false b e = e

pub and_right : (a b : Bool) → (a && b) ≡ true → b ≡ true
and_right true b e = e
and_right false b e = absurd (grind (arith, e))

all_same : (k : ℕ) (c d : Counted) (steps : List Step) → list_all (stays_within k) steps ≡ true → SameBelow k c d → SameBelow k (count_all c steps) (count_all d steps)
all_same k c d [] e s = s
all_same k c d (x ∷ xs) e s =
    all_same k (count_step c x) (count_step d x) xs (and_right _ _ e) (step_same k c d x (and_left _ _ e) s)

answer_same : (begin : Session) (k : ℕ) (c d : Counted) (x : Step) → stays_within k x ≡ true → SameBelow k c d → answer_behind begin c x ≡ answer_behind begin d x
answer_same begin k c d Save e s = refl
answer_same begin k c d (Back n) e s = rw (s.saves n (grind (arith, e))) refl
answer_same begin k c d Read e s = ap (λ steps. (act (act_all begin steps) Read).answer) s.steps
answer_same begin k c d (SetCtx ctx) e s = ap (λ steps. (act (act_all begin steps) (SetCtx ctx)).answer) s.steps
answer_same begin k c d (SetExprAllowed b) e s = ap (λ steps. (act (act_all begin steps) (SetExprAllowed b)).answer) s.steps
answer_same begin k c d (SetContexts cs) e s = ap (λ steps. (act (act_all begin steps) (SetContexts cs)).answer) s.steps
answer_same begin k c d PopContext e s = ap (λ steps. (act (act_all begin steps) PopContext).answer) s.steps
answer_same begin k c d Reread e s = ap (λ steps. (act (act_all begin steps) Reread).answer) s.steps
answer_same begin k c d Withdraw e s = ap (λ steps. (act (act_all begin steps) Withdraw).answer) s.steps
answer_same begin k c d TakeErrors e s = ap (λ steps. (act (act_all begin steps) TakeErrors).answer) s.steps

answers_same : (begin : Session) (k : ℕ) (c d : Counted) (steps : List Step) → list_all (stays_within k) steps ≡ true → SameBelow k c d → answers_behind begin c steps ≡ answers_behind begin d steps
answers_same begin k c d [] e s = refl
answers_same begin k c d (x ∷ xs) e s =
    rw (answer_same begin k c d x (and_left _ _ e) s) (ap (λ rest. answer_behind begin d x ∷ rest) (answers_same begin k (count_step c x) (count_step d x) xs (and_right _ _ e) (step_same k c d x (and_left _ _ e) s)))

-- Behind the way back the same steps count as behind the save

abbrev pub saved : Counted → Counted
saved c = record c { saves = c.saves ++ c.steps ∷ [] }

-- a step back to a save that is there
back_found : (c : Counted) (n : ℕ) (steps : List Step) → slice_get c.saves n ≡ Some steps → count_step c (Back n) ≡ record c { steps = steps }
unfolding count_step
back_found c n steps e = rw e refl

returned : (c : Counted) (excursion : List Step) → SameBelow (length c.saves + 1) (count_step (count_all (saved c) excursion) (Back (length c.saves))) (saved c)
returned c excursion =
    let far = count_all (saved c) excursion in
    let l = all_longer (saved c) excursion in
    let all : far.saves ≡ c.saves ++ c.steps ∷ l.more = l.saves ∙ append_assoc c.saves (c.steps ∷ []) l.more in
    let found : slice_get far.saves (length c.saves) ≡ Some c.steps = rw all (get_seam [] c.saves c.steps l.more) in
    rw (back_found far (length c.saves) c.steps found)
    (record {
      steps = refl;
      left = rw l.saves (rw (length-append (c.saves ++ c.steps ∷ []) l.more) (rw (length-append c.saves (c.steps ∷ [])) (omega arith)));
      right = rw (length-append c.saves (c.steps ∷ [])) (omega arith);
      saves = λ m h. rw l.saves (get_left [] (c.saves ++ c.steps ∷ []) l.more m (rw (length-append c.saves (c.steps ∷ [])) (omega (arith, h))));
    })

save_step : (c : Counted) → count_step c Save ≡ saved c
unfolding count_step
save_step c = refl

-- the counted steps of the parts
pub behind_save : (before after : List Step) → count_all none_yet (before ++ Save ∷ after) ≡ count_all (saved (count_all none_yet before)) after
behind_save before after =
    fold-append count_step none_yet before (Save ∷ after) ∙ ap (λ c. count_all c after) (save_step (count_all none_yet before))

behind_back : (before excursion after : List Step) → count_all none_yet (there_and_back before excursion after) ≡ count_all (count_step (count_all (saved (count_all none_yet before)) excursion) (Back (saves_of before))) after
behind_back before excursion after =
    behind_save before (excursion ++ Back (saves_of before) ∷ after) ∙ fold-append count_step (saved (count_all none_yet before)) excursion (Back (saves_of before) ∷ after)

pub going_back_undoes : GoingBackUndoes
going_back_undoes begin before excursion after e =
    let c = count_all none_yet before in
    let k = length c.saves + 1 in
    let gone = count_step (count_all (saved c) excursion) (Back (length c.saves)) in
    let s = returned c excursion in
    let same = (all_same k gone (saved c) after e s).steps in
    let counts : counting (there_and_back before excursion after) ≡ counting (without before after) = ap (λ d. d.steps) (behind_back before excursion after) ∙ (same ∙ sym (ap (λ d. d.steps) (behind_save before after))) in
    record {
      counts = counts;
      answers = rw (behind_back before excursion []) (rw (behind_save before []) (answers_same begin k gone (saved c) after e s));
    }
