-- What the elements of a gap tell of: their comments, and where the fault of a `<!--` comes among the others.
use Rattle.std.proofs.Common.{◌≡◌, ◌∙◌, inl, inr, ℕ, true, List, [], ◌∷◌, ◌++◌, map, Option, Some, None, refl, sym, ap, append_assoc, if◌then◌else◌}
use Rattle.std.specs.List.{list_all}
use Rattle.ecma_place.specs.Text.{Text}
use Rattle.ecma_place.specs.declared.comment.Comment.{Comment}
use Rattle.ecma_grammar.specs.Comments.{behind_element, comments_of}
use Rattle.ecma_grammar.specs.Found.{Fault}
use Rattle.ecma_grammar.specs.Gaps.{Element, Blank, LineComment, BlockComment, OpenComment, HtmlOpening, HtmlClosing, Marker, element_faults, end_of, faults_of, flag_behind, is_common, legacy_comment, pending_behind, pending_fault}
use Rattle.ecma_grammar.specs.Telling.{AreOf, ElementsTell, IsOf, OpeningFaultIsNext, begins_uncommon, faults_around, own_faults, placed, row_end}

-- Comments

pub elements_tell : ElementsTell
elements_tell prev flag n [] text = refl
elements_tell prev flag n (e ∷ es) text =
    go e (elements_tell prev (flag_behind flag e) (end_of n e) es (behind_element e text))
  where
    more : Element → List Comment
    more e = map (λ c. c.0) (comments_of prev (flag_behind flag e) (end_of n e) es (behind_element e text))

    one : (e : Element) → (first : Comment) → IsOf n e first → AreOf (placed (end_of n e) es) (more e) → AreOf (placed n (e ∷ es)) (first ∷ more e)
    one e first is rest = inr (first, more e, refl, is, rest)

    go : (e : Element) → AreOf (placed (end_of n e) es) (more e) → AreOf (placed n (e ∷ es)) (map (λ c. c.0) (comments_of prev flag n (e ∷ es) text))
    go (Blank c) rest = inl (tt, rest)
    go (LineComment line) rest = one (LineComment line) _ record { is = refl; begins = refl; ends = refl; says = refl } rest
    go (BlockComment body) rest = one (BlockComment body) _ record { is = refl; begins = refl; ends = refl; says = refl } rest
    go (OpenComment body) rest = inl (tt, rest)
    go (HtmlOpening line) rest = one (HtmlOpening line) _ record { is = refl; begins = refl; ends = refl; says = refl } rest
    go (HtmlClosing line) rest = one (HtmlClosing line) _ record { is = refl; begins = refl; ends = refl; says = refl } rest
    go (Marker c line) rest = one (Marker c line) _ record { is = refl; begins = refl; ends = refl; says = refl } rest

-- Faults

regrouped : (a b c d : List Fault) → a ++ (b ++ (c ++ d)) ≡ (a ++ (b ++ c)) ++ d
regrouped a b c d = ap (λ l. a ++ l) (sym (append_assoc b c d)) ∙ sym (append_assoc a (b ++ c) d)

-- before a `<!--` all is told of the elements before it
faults-before : (pending : Option ℕ) (n : ℕ) (es : List Element) (line : Text) (more : List Element)
    → faults_of pending n (es ++ HtmlOpening line ∷ more)
    ≡ faults_of pending n es ++ faults_of (Some (row_end n es)) (end_of (row_end n es) (HtmlOpening line)) more
faults-before pending n [] line more = refl
faults-before pending n (x ∷ xs) line more =
    let waited : List Fault = if is_common x then [] else pending_fault pending n in
    let low = row_end (end_of n x) xs in
    let next = pending_behind pending n x in
    ap (λ l. waited ++ (element_faults n x ++ l)) (faults-before next (end_of n x) xs line more)
    ∙ regrouped waited (element_faults n x) (faults_of next (end_of n x) xs) (faults_of (Some low) (end_of low (HtmlOpening line)) more)

-- white space, line and block comments tell what is theirs, and what waits goes on waiting
faults-common : (pending : Option ℕ) (n : ℕ) (es more : List Element) → list_all is_common es ≡ true
    → faults_of pending n (es ++ more) ≡ own_faults (placed n es) ++ faults_of pending (row_end n es) more
faults-common pending n [] more all = refl
faults-common pending n (x ∷ xs) more all = go x (λ x all. step x (faults-common pending (end_of n x) xs more all)) all
  where
    Told : Element → Type 0
    Told x =
        element_faults n x ++ faults_of pending (end_of n x) (xs ++ more)
        ≡ (element_faults n x ++ own_faults (placed (end_of n x) xs)) ++ faults_of pending (row_end (end_of n x) xs) more

    step : (x : Element) → faults_of pending (end_of n x) (xs ++ more) ≡ own_faults (placed (end_of n x) xs) ++ faults_of pending (row_end (end_of n x) xs) more → Told x
    step x told =
        ap (λ l. element_faults n x ++ l) told
        ∙ sym (append_assoc (element_faults n x) (own_faults (placed (end_of n x) xs)) (faults_of pending (row_end (end_of n x) xs) more))

    go : (x : Element) → ((x : Element) → list_all is_common xs ≡ true → Told x) → list_all is_common (x ∷ xs) ≡ true
        → faults_of pending n (x ∷ (xs ++ more)) ≡ own_faults (placed n (x ∷ xs)) ++ faults_of pending (row_end n (x ∷ xs)) more
    go (Blank c) told all = told (Blank c) all
    go (LineComment line) told all = told (LineComment line) all
    go (BlockComment body) told all = told (BlockComment body) all
    go (OpenComment body) told all = told (OpenComment body) all
    go (HtmlOpening line) told all = cc
    go (HtmlClosing line) told all = cc
    go (Marker c line) told all = cc

-- before any other element, and at the end, what waited is told
faults-waiting : (low n : ℕ) (es : List Element) → begins_uncommon es ≡ true → faults_of (Some low) n es ≡ legacy_comment low n ++ faults_of None n es
faults-waiting low n [] h = refl
faults-waiting low n (x ∷ xs) h = go x h
  where
    go : (x : Element) → begins_uncommon (x ∷ xs) ≡ true → faults_of (Some low) n (x ∷ xs) ≡ legacy_comment low n ++ faults_of None n (x ∷ xs)
    go (Blank c) h = cc
    go (LineComment line) h = cc
    go (BlockComment body) h = cc
    go (OpenComment body) h = cc
    go (HtmlOpening line) h = refl
    go (HtmlClosing line) h = refl
    go (Marker c line) h = refl

row_end-append : (n : ℕ) (xs ys : List Element) → row_end n (xs ++ ys) ≡ row_end (row_end n xs) ys
row_end-append n [] ys = refl
row_end-append n (x ∷ xs) ys = row_end-append (end_of n x) xs ys

pub opening_fault_is_next : OpeningFaultIsNext
opening_fault_is_next n mode text before line common behind holds =
    let low = row_end n before in
    let at = end_of low (HtmlOpening line) in
    let own = own_faults (placed at common) in
    let front = faults_of None n before in
    let high : row_end at common ≡ row_end n (before ++ HtmlOpening line ∷ common) = sym (row_end-append n before (HtmlOpening line ∷ common)) in
    ap (faults_of None n) holds.order
    ∙ faults-before None n before line (common ++ behind)
    ∙ ap (λ l. front ++ l) (faults-common (Some low) at common behind holds.all_common)
    ∙ ap (λ l. front ++ (own ++ l)) (faults-waiting low (row_end at common) behind holds.no_more)
    ∙ ap (λ k. faults_around n low k before line common behind) high
