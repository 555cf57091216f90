-- A text that is written whole, in parts.
use Rattle.std.proofs.Common.{◌≡◌, ◌∙◌, ℕ, Bool, true, false, if◌then◌else◌, List, [], ◌∷◌, ◌++◌, append-nil, append_assoc, ap, refl, sym}
use Rattle.serde_json.specs.Written.{compact_text}
use Rattle.ecma_print.specs.Rows.{text_begin, text_data, text_end, text_part}
use Rattle.ecma_print.proofs.ObjectLemmas.{text-in-parts, text_part-append}
use Rattle.ecma_report.specs.Rows.{Look, whole_begin, whole_end, whole_part, whole_text}

pub whole-in-parts : (l : Look) (file bytes : List ℕ) → whole_begin l file ++ (whole_part l bytes ++ whole_end l) ≡ whole_text l file bytes
whole-in-parts l file bytes = go l.asked.json l.among.several
  where
    go : (json several : Bool) → (if json then text_begin file else []) ++ ((if json then text_part bytes else bytes) ++ (if json then text_end ++ 10 ∷ [] else if several then 10 ∷ [] else []))
        ≡ (if json then compact_text (text_data file bytes) ++ 10 ∷ [] else if several then bytes ++ 10 ∷ [] else bytes)
    go true several =
        ap (λ t. text_begin file ++ t) (sym (append_assoc (text_part bytes) text_end (10 ∷ [])))
        ∙ sym (append_assoc (text_begin file) (text_part bytes ++ text_end) (10 ∷ []))
        ∙ ap (λ t. t ++ 10 ∷ []) (text-in-parts file bytes)
    go false true = refl
    go false false = append-nil bytes

pub part-append : (l : Look) (xs ys : List ℕ) → whole_part l (xs ++ ys) ≡ whole_part l xs ++ whole_part l ys
part-append l xs ys = go l.asked.json
  where
    go : (json : Bool) → (if json then text_part (xs ++ ys) else xs ++ ys) ≡ (if json then text_part xs else xs) ++ (if json then text_part ys else ys)
    go true = text_part-append xs ys
    go false = refl

pub part-none : (l : Look) → whole_part l [] ≡ []
part-none l = go l.asked.json
  where
    go : (json : Bool) → (if json then text_part [] else []) ≡ []
    go true = refl
    go false = refl
