-- Texts that are written whole.
use Rattle.std.proofs.Common.{◌≡◌, ◌∙◌, ℕ, ◌<◌, ◌≤◌, List, [], ◌∷◌, ◌++◌, true, false, if◌then◌else◌, ap, arith, get_or, length, subst, sym}
use Rattle.std.specs.List.Sorted.{IsNonDecreasingBy}
use Rattle.std.proofs.lemmas.List.{get_or-map, length-map}
use Rattle.ecma_faults.specs.Faults.{FoundView, place_of}
use Rattle.ecma_html.specs.Marked.{AreInOrder, number_of}
use Rattle.std.specs.Prelude.{◌&&◌, not}
use Rattle.ecma_faces.specs.Whole.{begins_at, places_of, shown_head}
use Rattle.ecma_report.specs.Rows.{Look}
use Rattle.ecma_messages.specs.Visible.{name_text}

pub head-of-named : (l : Look) (file : List ℕ) → l.among.names ≡ true → l.asked.json ≡ false → shown_head l file ≡ name_text file ++ 58 ∷ 10 ∷ []
head-of-named l file names plain =
    ap (λ b. if b && not l.asked.json then name_text file ++ 58 ∷ 10 ∷ [] else []) names
    ∙ ap (λ b. if true && not b then name_text file ++ 58 ∷ 10 ∷ [] else []) plain

-- errors in order of place begin at places in order
pub places-in-order : (errors : List FoundView) → IsNonDecreasingBy place_of errors → AreInOrder (places_of errors)
places-in-order [] order i j d low high = omega (arith, high)
places-in-order (e ∷ es) order i j d low high =
    let there : j < length (e ∷ es) = subst (λ n. j < n) (length-map (e ∷ es) begins_at) high in
    let here : i < length (e ∷ es) = omega (arith, low, there) in
    subst (λ p. number_of p ≤ number_of (get_or (places_of (e ∷ es)) j d)) (sym (get_or-map begins_at (e ∷ es) i e d here))
    (subst (λ p. place_of (get_or (e ∷ es) i e) ≤ number_of p) (sym (get_or-map begins_at (e ∷ es) j e d there)) (order i j e low there))
