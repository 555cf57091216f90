-- The markup of a page is taken away again.
use Rattle.std.proofs.Common.{◌≡◌, ◌∙◌, ℕ, Bool, true, false, cond, ◌==◌, List, [], ◌∷◌, ◌++◌, append_assoc, refl, sym, subst, ap}
use Rattle.std.specs.Prelude.{flat_map, fold}
use Rattle.std.proofs.lemmas.Bool.{eqb-true}
use Rattle.std.proofs.lemmas.List.Sums.{fold-append}
use Rattle.ecma_html.specs.Markup.{escaped, escaped_byte}
use Rattle.ecma_html.specs.Page.{front_of, line_mark, line_marks, mark_behind, page_of}
use Rattle.ecma_html.specs.Unmark.{Outside, Tag, at, read_byte, unmark}
use Rattle.ecma_html.specs.declared.page.TheConstants.{HEAD, MIDDLE, STYLE, TAIL}

-- a piece that was added before others
pub behind : (before middle after piece rest : List ℕ) → middle ≡ before ++ piece → after ≡ middle ++ rest → after ≡ before ++ (piece ++ rest)
behind before middle after piece rest first others = others ∙ ap (λ front. front ++ rest) first ∙ append_assoc before piece rest

-- the markup and what is behind it were added to what is before
pub page-added : (title source html front marked after : List ℕ) → front ≡ front_of title source → marked ≡ front ++ html → after ≡ marked ++ TAIL.now → after ≡ page_of title source html
page-added title source html front marked after first then last = behind front marked after html TAIL.now then last ∙ ap (λ l. l ++ (html ++ TAIL.now)) first

-- bytes that are passed over outside of the element
abbrev pub Passed : List ℕ → Type 0
Passed bytes = (text : List ℕ) → fold read_byte (at Outside text) bytes ≡ at Outside text

passed-both : (xs ys : List ℕ) → Passed xs → Passed ys → Passed (xs ++ ys)
passed-both xs ys first next text = fold-append read_byte (at Outside text) xs ys ∙ ap (λ u. fold read_byte u ys) (first text) ∙ next text

-- a byte that begins no tag
passed-byte : (b : ℕ) → (b == 60) ≡ false → Passed (b ∷ [])
passed-byte b less text = ap (λ x. cond x (at (Tag false []) text) (at Outside text)) less

escaped-passed : (b : ℕ) → Passed (escaped_byte b)
escaped-passed b = amp (b == 38) refl
  where
    nul : (x : Bool) → (b == 0) ≡ x → (b == 13) ≡ false → (b == 62) ≡ false → (b == 60) ≡ false → (b == 38) ≡ false → Passed (escaped_byte b)
    nul true e cr more less amp = subst (λ c. Passed (escaped_byte c)) (sym (eqb-true b 0 e)) (λ text. refl)
    nul false e cr more less amp =
        let written : escaped_byte b ≡ b ∷ [] = rw (amp, less, more, cr, e) refl in
        subst Passed (sym written) (passed-byte b less)

    cr : (x : Bool) → (b == 13) ≡ x → (b == 62) ≡ false → (b == 60) ≡ false → (b == 38) ≡ false → Passed (escaped_byte b)
    cr true e more less amp = subst (λ c. Passed (escaped_byte c)) (sym (eqb-true b 13 e)) (λ text. refl)
    cr false e more less amp = nul (b == 0) refl e more less amp

    more : (x : Bool) → (b == 62) ≡ x → (b == 60) ≡ false → (b == 38) ≡ false → Passed (escaped_byte b)
    more true e less amp = subst (λ c. Passed (escaped_byte c)) (sym (eqb-true b 62 e)) (λ text. refl)
    more false e less amp = cr (b == 13) refl e less amp

    less : (x : Bool) → (b == 60) ≡ x → (b == 38) ≡ false → Passed (escaped_byte b)
    less true e amp = subst (λ c. Passed (escaped_byte c)) (sym (eqb-true b 60 e)) (λ text. refl)
    less false e amp = more (b == 62) refl e amp

    amp : (x : Bool) → (b == 38) ≡ x → Passed (escaped_byte b)
    amp true e = subst (λ c. Passed (escaped_byte c)) (sym (eqb-true b 38 e)) (λ text. refl)
    amp false e = less (b == 60) refl e

each-passed : (f : ℕ → List ℕ) → ((b : ℕ) → Passed (f b)) → (bs : List ℕ) → Passed (flat_map f bs)
each-passed f one [] text = refl
each-passed f one (b ∷ bs) text = passed-both (f b) (flat_map f bs) (one b) (each-passed f one bs) text

mark-passed : Passed line_mark
mark-passed text = refl

behind-passed : (b : ℕ) → Passed (mark_behind b)
behind-passed b = go (b == 10)
  where
    go : (x : Bool) → Passed (cond x line_mark [])
    go true = mark-passed
    go false = λ text. refl

marks-passed : (bytes : List ℕ) → Passed (line_marks bytes)
marks-passed bytes = passed-both line_mark (flat_map mark_behind bytes) mark-passed (each-passed mark_behind behind-passed bytes)

head-passed : Passed HEAD.now
head-passed text = refl

style-passed : Passed STYLE.now
style-passed text = refl

middle-passed : Passed MIDDLE.now
middle-passed text = refl

tail-passed : Passed TAIL.now
tail-passed text = refl

front-passed : (title source : List ℕ) → Passed (front_of title source)
front-passed title source =
    passed-both HEAD.now (escaped title ++ (STYLE.now ++ (line_marks source ++ MIDDLE.now))) head-passed
    (passed-both (escaped title) (STYLE.now ++ (line_marks source ++ MIDDLE.now)) (each-passed escaped_byte escaped-passed title)
    (passed-both STYLE.now (line_marks source ++ MIDDLE.now) style-passed
    (passed-both (line_marks source) MIDDLE.now (marks-passed source) middle-passed)))

-- what is left of a page is what is left of the markup in it, behind which nothing is open
pub page-back : (title source html text : List ℕ) → fold read_byte (at Outside []) html ≡ at Outside text → unmark (page_of title source html) ≡ text
page-back title source html text back =
    ap (λ u. u.text)
    (fold-append read_byte (at Outside []) (front_of title source) (html ++ TAIL.now)
    ∙ ap (λ u. fold read_byte u (html ++ TAIL.now)) (front-passed title source [])
    ∙ fold-append read_byte (at Outside []) html TAIL.now
    ∙ ap (λ u. fold read_byte u TAIL.now) back
    ∙ tail-passed text)
