-- Joining one token more.
use Rattle.std.proofs.Common.{◌≡◌, ◌∙◌, ℕ, ◌+◌, List, [], ◌∷◌, ◌++◌, append-nil, append_assoc, length, Option, Some, None, refl, sym, ap, subst}
use Rattle.std.proofs.lemmas.List.{length-append}
use Rattle.ecma_token.specs.View.{SpannedView}
use Rattle.ecma_token.specs.declared.kind.TokenKind.{TokenKind}
use Rattle.ecma_state.specs.Session.{kept_of}
use Rattle.ecma_reader.specs.Readers.{tokens_found}
use Rattle.ecma_report.specs.Reports.{Adds}
use Rattle.ecma_faces.specs.Canonical.{Counted, joined, joined_one}
use Rattle.ecma_faces.specs.Tokens.{kind_behind}
use Rattle.ecma_report.specs.Rows.{Look, whole_part}
use Rattle.ecma_report.proofs.PartLemmas.{part-append}
use Rattle.ecma_report.proofs.ReportLemmas.{adds-held, adds-on}

pub joined-on : (text : List ℕ) (before : Option TokenKind) (ts us : List SpannedView) → joined text before (ts ++ us) ≡ joined text before ts ++ joined text (kind_behind before ts) us
joined-on text before [] us = refl
joined-on text before (t ∷ ts) us =
    ap (λ l. joined_one text before t ++ l) (joined-on text (Some (kept_of t).kind) ts us)
    ∙ sym (append_assoc (joined_one text before t) (joined text (Some (kept_of t).kind) ts) (joined text (kind_behind before (t ∷ ts)) us))

pub last-on : (before : Option TokenKind) (ts us : List SpannedView) → kind_behind before (ts ++ us) ≡ kind_behind (kind_behind before ts) us
last-on before [] us = refl
last-on before (t ∷ ts) us = last-on (Some (kept_of t).kind) ts us

-- these tokens were joined as parts of a text, and the last of them is of that kind
abbrev pub Joins : Look → List ℕ → Option (List ℕ) → Option (List ℕ) → List ℕ → List ℕ → Option TokenKind → List SpannedView → Type 0
Joins l text first then held now before ts = Adds first then held now (whole_part l (joined text None ts)) × (before ≡ kind_behind None ts)

pub joins-token : (l : Look) (text : List ℕ) (a b c : Option (List ℕ)) (held now pushed then : List ℕ) (before next : Option TokenKind) (found : Option SpannedView) (ts : List SpannedView) (t : SpannedView)
    → Joins l text a b held now before ts → found ≡ Some t → pushed ≡ now ++ whole_part l (joined text before (tokens_found found)) → next ≡ kind_behind before (tokens_found found)
    → Adds b c pushed then [] → Joins l text a c held then next (ts ++ t ∷ [])
joins-token l text a b c held now pushed then before next found ts t (adds, kind) is added kinds passed =
    let own = joined text (kind_behind None ts) (t ∷ []) in
    let before_it = whole_part l (joined text None ts) in
    let behind : pushed ≡ now ++ whole_part l own =
    added ∙ ap (λ k. now ++ whole_part l (joined text k (tokens_found found))) kind ∙ ap (λ f. now ++ whole_part l (joined text (kind_behind None ts) (tokens_found f))) is in
    let held_on = adds-on a b b held now pushed before_it (whole_part l own) adds (adds-held b now pushed (whole_part l own) behind) in
    let all = adds-on a b c held pushed then (before_it ++ whole_part l own) [] held_on passed in (
      subst (Adds a c held then) (append-nil (before_it ++ whole_part l own) ∙ sym (part-append l (joined text None ts) own) ∙ ap (whole_part l) (sym (joined-on text None ts (t ∷ [])))) all,
      kinds ∙ ap (λ k. kind_behind k (tokens_found found)) kind ∙ ap (λ f. kind_behind (kind_behind None ts) (tokens_found f)) is ∙ sym (last-on None ts (t ∷ [])),
    )

-- so many bytes do these tokens make
abbrev pub Measures : List ℕ → Option ℕ → Option TokenKind → List SpannedView → Type 0
Measures text bytes before ts = Counted bytes (length (joined text None ts)) × (before ≡ kind_behind None ts)

pub measures-token : (text : List ℕ) (bytes more : Option ℕ) (before next : Option TokenKind) (found : Option SpannedView) (ts : List SpannedView) (t : SpannedView)
    → Measures text bytes before ts → found ≡ Some t → ((total : ℕ) → Counted bytes total → Counted more (total + length (joined text before (tokens_found found))))
    → next ≡ kind_behind before (tokens_found found) → Measures text more next (ts ++ t ∷ [])
measures-token text bytes more before next found ts t (counted, kind) is counts kinds =
    let total = length (joined text None ts) in
    let own : length (joined text before (tokens_found found)) ≡ length (joined text (kind_behind None ts) (t ∷ [])) =
    ap (λ k. length (joined text k (tokens_found found))) kind ∙ ap (λ f. length (joined text (kind_behind None ts) (tokens_found f))) is in
    let all : total + length (joined text (kind_behind None ts) (t ∷ [])) ≡ length (joined text None (ts ++ t ∷ [])) =
    sym (length-append (joined text None ts) (joined text (kind_behind None ts) (t ∷ []))) ∙ ap length (sym (joined-on text None ts (t ∷ []))) in (
      subst (Counted more) (ap (λ n. total + n) own ∙ all) (counts total counted),
      kinds ∙ ap (λ k. kind_behind k (tokens_found found)) kind ∙ ap (λ f. kind_behind (kind_behind None ts) (tokens_found f)) is ∙ sym (last-on None ts (t ∷ [])),
    )
