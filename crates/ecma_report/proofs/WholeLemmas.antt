-- Texts that are written whole.
use Rattle.std.proofs.Common.{◌≡◌, ◌∙◌, ℕ, List, [], ◌∷◌, ◌++◌, true, false, if◌then◌else◌, ap}
use Rattle.serde_json.specs.Written.{compact_text}
use Rattle.ecma_print.specs.Rows.{text_data}
use Rattle.ecma_report.specs.Rows.{Look, whole_text}

pub whole-of-several : (l : Look) (file bytes : List ℕ) → l.asked.json ≡ false → l.among.several ≡ true → whole_text l file bytes ≡ bytes ++ 10 ∷ []
whole-of-several l file bytes plain several =
    ap (λ b. if b then compact_text (text_data file bytes) ++ 10 ∷ [] else if l.among.several then bytes ++ 10 ∷ [] else bytes) plain
    ∙ ap (λ b. if b then bytes ++ 10 ∷ [] else bytes) several
