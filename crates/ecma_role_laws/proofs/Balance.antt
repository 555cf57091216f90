-- A balanced sequence leaves the nearest bracket
use Rattle.std.proofs.Common.{◌≡◌, ◌∙◌, ◌++◌, ap, append-nil, subst, sym, Bool, true, false, List, [], ◌∷◌, Option, Some, None, refl, arith}
use Rattle.std.specs.List.{fold}
use Rattle.ecma_role_table.specs.declared.part.Part.{Part}
use Rattle.ecma_role_table.specs.declared.part.PartKind.{PartKind}
use Rattle.ecma_role_table.specs.declared.part.PartKind.TheVariants.{Sign}
use Rattle.ecma_role_table.specs.declared.part.Sign.TheVariants as sign
use Rattle.ecma_role_table.specs.declared.frame.Frame.{Frame}
use Rattle.ecma_role_table.specs.declared.state.State.{State}
use Rattle.ecma_role_tracks.specs.Track.{TrackView, first, stepped, track_of, tracked}
use Rattle.ecma_role_tracks.proofs.TrackedLemmas.{tracked_push}
use Rattle.ecma_role_laws.specs.Brackets.{Bracket, Enclosed, Parentheses, Squares, Braces, Template, Substitution, HasNoClause, IsBalanced, behind_kind, behind_part, closed_braces, closed_parentheses, closed_squares, enclosed, enclosing, in_clause, in_code, in_template, in_text, is_closed_by}
use Rattle.ecma_role_laws.proofs.Right.{is_code}
use Rattle.ecma_role_laws.proofs.Steps.{IsSound, first_sound, step_sound, step_taken}
use Rattle.ecma_role_laws.proofs.Taken.{Closed, GoesBack, Taken}
use Rattle.ecma_role_laws.proofs.Texts.{TextTaken, text_taken}

-- the frames of brackets that are open, down to what was around the first; a substitution stands in the frame of its template
unfoldable Stands : List Bracket → Option Enclosed → List Frame → Type 0
Stands [] was frames = enclosing frames ≡ was
Stands (Substitution ∷ bs) was frames = Stands bs was frames
Stands (Parentheses ∷ bs) was frames = (outer : List Frame) × ((enclosing frames ≡ Some (enclosed Parentheses outer)) × Stands bs was outer)
Stands (Squares ∷ bs) was frames = (outer : List Frame) × ((enclosing frames ≡ Some (enclosed Squares outer)) × Stands bs was outer)
Stands (Braces ∷ bs) was frames = (outer : List Frame) × ((enclosing frames ≡ Some (enclosed Braces outer)) × Stands bs was outer)
Stands (Template ∷ bs) was frames = (outer : List Frame) × ((enclosing frames ≡ Some (enclosed Template outer)) × Stands bs was outer)

stands-kept : (bs : List Bracket) (was : Option Enclosed) (fs gs : List Frame) → enclosing gs ≡ enclosing fs → Stands bs was fs → Stands bs was gs
unfolding Stands
stands-kept [] was fs gs same s = same ∙ s
stands-kept (Substitution ∷ bs) was fs gs same s = stands-kept bs was fs gs same s
stands-kept (Parentheses ∷ bs) was fs gs same s = (s.0, (same ∙ s.1.0, s.1.1))
stands-kept (Squares ∷ bs) was fs gs same s = (s.0, (same ∙ s.1.0, s.1.1))
stands-kept (Braces ∷ bs) was fs gs same s = (s.0, (same ∙ s.1.0, s.1.1))
stands-kept (Template ∷ bs) was fs gs same s = (s.0, (same ∙ s.1.0, s.1.1))

-- in the text of a template
abbrev is_text : List Bracket → Bool
is_text (Template ∷ bs) = true
is_text bs = false

-- a substitution stands in a template, and nothing else does
unfoldable Nests : List Bracket → Type 0
Nests [] = Unit {0}
Nests (Substitution ∷ bs) = (is_text bs ≡ true) × Nests bs
Nests (b ∷ bs) = (is_text bs ≡ false) × Nests bs

-- what is known of a track where these brackets are open
abbrev Known : List Bracket → Option Enclosed → List Frame → State → Type 0
Known bs was frames s = Nests bs × (Stands bs was frames × (in_text s ≡ is_text bs))

known-closed : (bs : List Bracket) (was : Option Enclosed) (outer after : List Frame) (s : State) → Nests bs → is_text bs ≡ false → Stands bs was outer → (after ≡ outer) × (in_text s ≡ false) → Known bs was after s
known-closed bs was outer after s nests code stands closed = (nests, (subst (Stands bs was) (sym closed.0) stands, closed.1 ∙ sym code))

same-list : (bs cs : List Bracket) → Some bs ≡ Some cs → bs ≡ cs
same-list bs cs is = grind (arith, is)

true-false : true ≡ false → ⊥
true-false is = grind (arith, is)

false-true : false ≡ true → ⊥
false-true is = grind (arith, is)

none-some : (cs : List Bracket) → None ≡ Some cs → ⊥
none-some cs is = grind (arith, is)

-- a token of code
nests-more : (bs : List Bracket) → is_text bs ≡ false → Nests bs → (Nests (Parentheses ∷ bs)) × ((Nests (Squares ∷ bs)) × ((Nests (Braces ∷ bs)) × (Nests (Template ∷ bs))))
unfolding Nests
nests-more bs code nests = ((code, nests), ((code, nests), ((code, nests), (code, nests))))

parentheses-known : (bs cs : List Bracket) (was : Option Enclosed) (fs gs : List Frame) (s : State) → closed_parentheses bs ≡ Some cs → Nests bs → Stands bs was fs → Closed Parentheses (enclosing fs) gs s → Known cs was gs s
unfolding Nests Stands
parentheses-known (Parentheses ∷ bs) cs was fs gs s is nests stands closed = subst (λ c. Known c was gs s) (same-list bs cs is) (known-closed bs was stands.0 gs s nests.1 nests.0 stands.1.1 (closed stands.0 stands.1.0))
parentheses-known bs cs was fs gs s is nests stands closed = absurd (none-some cs is)

squares-known : (bs cs : List Bracket) (was : Option Enclosed) (fs gs : List Frame) (s : State) → closed_squares bs ≡ Some cs → Nests bs → Stands bs was fs → Closed Squares (enclosing fs) gs s → Known cs was gs s
unfolding Nests Stands
squares-known (Squares ∷ bs) cs was fs gs s is nests stands closed = subst (λ c. Known c was gs s) (same-list bs cs is) (known-closed bs was stands.0 gs s nests.1 nests.0 stands.1.1 (closed stands.0 stands.1.0))
squares-known bs cs was fs gs s is nests stands closed = absurd (none-some cs is)

-- a substitution ends, and its template goes on
back-known : (bs : List Bracket) (was : Option Enclosed) (fs gs : List Frame) (s : State) → is_text bs ≡ true → Nests bs → Stands bs was fs → GoesBack (enclosing fs) gs s → Known bs was gs s
unfolding Nests Stands
back-known (Template ∷ bs) was fs gs s text nests stands back =
    let b = back stands.0 stands.1.0 in
    (nests, ((stands.0, (b.0 ∙ stands.1.0, stands.1.1)), b.1))
back-known bs was fs gs s text nests stands back = absurd (false-true text)

braces-known : (bs cs : List Bracket) (was : Option Enclosed) (fs gs : List Frame) (s : State) → closed_braces bs ≡ Some cs → Nests bs → Stands bs was fs → Closed Braces (enclosing fs) gs s → GoesBack (enclosing fs) gs s → Known cs was gs s
unfolding Nests Stands
braces-known (Braces ∷ bs) cs was fs gs s is nests stands closed back = subst (λ c. Known c was gs s) (same-list bs cs is) (known-closed bs was stands.0 gs s nests.1 nests.0 stands.1.1 (closed stands.0 stands.1.0))
braces-known (Substitution ∷ bs) cs was fs gs s is nests stands closed back = subst (λ c. Known c was gs s) (same-list bs cs is) (back-known bs was fs gs s nests.0 nests.1 stands back)
braces-known bs cs was fs gs s is nests stands closed back = absurd (none-some cs is)

code-known : (kind : PartKind) (bs cs : List Bracket) (was : Option Enclosed) (fs gs : List Frame) (s : State) → is_text bs ≡ false → in_code bs kind ≡ Some cs → Nests bs → Stands bs was fs → Taken kind (enclosing fs) gs s → Known cs was gs s
unfolding Stands
code-known (Sign sign.LParen) bs cs was fs gs s code is nests stands taken = subst (λ c. Known c was gs s) (same-list (Parentheses ∷ bs) cs is) ((nests-more bs code nests).0, ((taken.0.0, (taken.0.1.0, stands-kept bs was fs taken.0.0 taken.0.1.1 stands)), taken.1))
code-known (Sign sign.LBracket) bs cs was fs gs s code is nests stands taken = subst (λ c. Known c was gs s) (same-list (Squares ∷ bs) cs is) ((nests-more bs code nests).1.0, ((taken.0.0, (taken.0.1.0, stands-kept bs was fs taken.0.0 taken.0.1.1 stands)), taken.1))
code-known (Sign sign.LBrace) bs cs was fs gs s code is nests stands taken = subst (λ c. Known c was gs s) (same-list (Braces ∷ bs) cs is) ((nests-more bs code nests).1.1.0, ((taken.0.0, (taken.0.1.0, stands-kept bs was fs taken.0.0 taken.0.1.1 stands)), taken.1))
code-known (Sign sign.BackQuote) bs cs was fs gs s code is nests stands taken = subst (λ c. Known c was gs s) (same-list (Template ∷ bs) cs is) ((nests-more bs code nests).1.1.1, ((taken.0.0, (taken.0.1.0, stands-kept bs was fs taken.0.0 taken.0.1.1 stands)), taken.1))
code-known (Sign sign.RParen) bs cs was fs gs s code is nests stands taken = parentheses-known bs cs was fs gs s is nests stands taken
code-known (Sign sign.RBracket) bs cs was fs gs s code is nests stands taken = squares-known bs cs was fs gs s is nests stands taken
code-known (Sign sign.RBrace) bs cs was fs gs s code is nests stands taken = braces-known bs cs was fs gs s is nests stands taken.0 taken.1
code-known (Sign sign.DollarLBrace) bs cs was fs gs s code is nests stands taken = absurd (none-some cs is)
code-known kind bs cs was fs gs s code is nests stands taken = subst (λ c. Known c was gs s) (same-list bs cs is) (nests, (stands-kept bs was fs gs taken.0 stands, taken.1 ∙ sym code))

-- a token in a template
template-known : (kind : PartKind) (bs cs : List Bracket) (was : Option Enclosed) (fs gs : List Frame) (s : State) → in_template bs kind ≡ Some cs → Nests (Template ∷ bs) → Stands (Template ∷ bs) was fs → TextTaken kind (enclosing fs) gs s → Known cs was gs s
unfolding Nests Stands
template-known (Sign sign.Template) bs cs was fs gs s is nests stands taken = subst (λ c. Known c was gs s) (same-list (Template ∷ bs) cs is) (nests, ((stands.0, (taken.0 ∙ stands.1.0, stands.1.1)), taken.1))
template-known (Sign sign.DollarLBrace) bs cs was fs gs s is nests stands taken = subst (λ c. Known c was gs s) (same-list (Substitution ∷ (Template ∷ bs)) cs is) ((refl, nests), ((stands.0, (taken.0 ∙ stands.1.0, stands.1.1)), taken.1))
template-known (Sign sign.BackQuote) bs cs was fs gs s is nests stands taken = subst (λ c. Known c was gs s) (same-list bs cs is) (known-closed bs was stands.0 gs s nests.1 nests.0 stands.1.1 (taken stands.0 stands.1.0))
template-known kind bs cs was fs gs s is nests stands taken = absurd (none-some cs is)

-- any token
code-state : (s : State) → in_text s ≡ false → in_clause s ≡ false → is_code s ≡ true
code-state s text clause = grind (arith, text, clause)

step-known : (bs cs : List Bracket) (was : Option Enclosed) (t : TrackView) (part : Part) → behind_kind bs part.kind ≡ Some cs → IsSound t → in_clause t.state ≡ false → Known bs was t.nest.frames t.state → Known cs was (stepped t part).nest.frames (stepped t part).state
step-known (Template ∷ bs) cs was t part is sound clause known = template-known part.kind bs cs was t.nest.frames (stepped t part).nest.frames (stepped t part).state is known.0 known.1.0 (text_taken t part sound known.1.1)
step-known [] cs was t part is sound clause known = code-known part.kind [] cs was t.nest.frames (stepped t part).nest.frames (stepped t part).state refl is known.0 known.1.0 (step_taken t part sound (code-state t.state known.1.1 clause))
step-known (Parentheses ∷ bs) cs was t part is sound clause known = code-known part.kind (Parentheses ∷ bs) cs was t.nest.frames (stepped t part).nest.frames (stepped t part).state refl is known.0 known.1.0 (step_taken t part sound (code-state t.state known.1.1 clause))
step-known (Squares ∷ bs) cs was t part is sound clause known = code-known part.kind (Squares ∷ bs) cs was t.nest.frames (stepped t part).nest.frames (stepped t part).state refl is known.0 known.1.0 (step_taken t part sound (code-state t.state known.1.1 clause))
step-known (Braces ∷ bs) cs was t part is sound clause known = code-known part.kind (Braces ∷ bs) cs was t.nest.frames (stepped t part).nest.frames (stepped t part).state refl is known.0 known.1.0 (step_taken t part sound (code-state t.state known.1.1 clause))
step-known (Substitution ∷ bs) cs was t part is sound clause known = code-known part.kind (Substitution ∷ bs) cs was t.nest.frames (stepped t part).nest.frames (stepped t part).state refl is known.0 known.1.0 (step_taken t part sound (code-state t.state known.1.1 clause))

-- many tokens
none-stays : (parts : List Part) → fold behind_part None parts ≡ None
none-stays [] = refl
none-stays (p ∷ ps) = none-stays ps

later-clauses : (t : TrackView) (part : Part) (parts : List Part) → HasNoClause t (part ∷ parts) → HasNoClause (stepped t part) parts
later-clauses t part parts none xs ys is = none (part ∷ xs) ys (ap (λ ps. part ∷ ps) is)

rest-known : (o : Option (List Bracket)) (p : Part) (ps : List Part) (bs cs : List Bracket) (was : Option Enclosed) (t : TrackView) → behind_kind bs p.kind ≡ o → fold behind_part o ps ≡ Some cs → IsSound t → HasNoClause t (p ∷ ps) → Known bs was t.nest.frames t.state → ((ds : List Bracket) → fold behind_part (Some ds) ps ≡ Some cs → Known ds was (stepped t p).nest.frames (stepped t p).state → Known cs was (tracked (stepped t p) ps).nest.frames (tracked (stepped t p) ps).state) → Known cs was (tracked t (p ∷ ps)).nest.frames (tracked t (p ∷ ps)).state
rest-known None p ps bs cs was t at is sound none known ih = absurd (none-some cs (sym (none-stays ps) ∙ is))
rest-known (Some ds) p ps bs cs was t at is sound none known ih = ih ds is (step-known bs ds was t p at sound (none [] (p ∷ ps) refl) known)

parts-known : (parts : List Part) (bs cs : List Bracket) (was : Option Enclosed) (t : TrackView) → fold behind_part (Some bs) parts ≡ Some cs → IsSound t → HasNoClause t parts → Known bs was t.nest.frames t.state → Known cs was (tracked t parts).nest.frames (tracked t parts).state
parts-known [] bs cs was t is sound none known = subst (λ c. Known c was t.nest.frames t.state) (same-list bs cs is) known
parts-known (p ∷ ps) bs cs was t is sound none known = rest-known (behind_kind bs p.kind) p ps bs cs was t refl is sound none known (λ ds at now. parts-known ps ds cs was (stepped t p) at (step_sound t p sound) (later-clauses t p ps none) now)

parts-sound : (parts : List Part) (t : TrackView) → IsSound t → IsSound (tracked t parts)
parts-sound [] t sound = sound
parts-sound (p ∷ ps) t sound = parts-sound ps (stepped t p) (step_sound t p sound)

-- the laws
start-known : (t : TrackView) → in_text t.state ≡ false → Known [] (enclosing t.nest.frames) t.nest.frames t.state
unfolding Nests Stands
start-known t code = (tt, (refl, code))

end-known : (was : Option Enclosed) (frames : List Frame) (s : State) → Known [] was frames s → (enclosing frames ≡ was) × (in_text s ≡ false)
unfolding Stands
end-known was frames s known = (known.1.0, known.1.1)

pub balanced_kept : (t : TrackView) (inside : List Part) → IsSound t → in_text t.state ≡ false → IsBalanced inside → HasNoClause t inside → (enclosing (tracked t inside).nest.frames ≡ enclosing t.nest.frames) × (in_text (tracked t inside).state ≡ false)
balanced_kept t inside sound code balanced none =
    let known = parts-known inside [] [] (enclosing t.nest.frames) t balanced sound none (start-known t code) in
    end-known (enclosing t.nest.frames) (tracked t inside).nest.frames (tracked t inside).state known

closed-by : (bracket : Bracket) (kind : PartKind) (was : Option Enclosed) (outer after : List Frame) (s : State) → is_closed_by bracket kind ≡ true → was ≡ Some (enclosed bracket outer) → Taken kind was after s → after ≡ outer
closed-by Parentheses (Sign sign.RParen) was outer after s is at taken = (taken outer at).0
closed-by Squares (Sign sign.RBracket) was outer after s is at taken = (taken outer at).0
closed-by Braces (Sign sign.RBrace) was outer after s is at taken = (taken.0 outer at).0
closed-by bracket kind was outer after s is at taken = absurd (false-true is)

pub balanced_closed : (t : TrackView) (inside : List Part) (last : Part) (bracket : Bracket) (outer : List Frame) → IsSound t → in_text t.state ≡ false → enclosing t.nest.frames ≡ Some (enclosed bracket outer) → IsBalanced inside → HasNoClause t inside → is_closed_by bracket last.kind ≡ true → (tracked t (inside ++ (last ∷ []))).nest.frames ≡ outer
balanced_closed t inside last bracket outer sound code at balanced none closes =
    let u = tracked t inside in
    let kept = balanced_kept t inside sound code balanced none in
    let clause : in_clause u.state ≡ false = none inside [] (sym (append-nil inside)) in
    let taken = step_taken u last (parts-sound inside t sound) (code-state u.state kept.1 clause) in
    let e : tracked t (inside ++ (last ∷ [])) ≡ stepped u last = tracked_push t inside last in
    rw e (closed-by bracket last.kind (enclosing u.nest.frames) outer (stepped u last).nest.frames (stepped u last).state closes (kept.0 ∙ at) taken)

pub track_sound : (typescript is_module : Bool) (parts : List Part) → IsSound (track_of typescript is_module parts)
track_sound typescript is_module parts = parts-sound parts (first typescript is_module) (first_sound typescript is_module)
