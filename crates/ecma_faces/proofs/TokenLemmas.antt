-- Rows of one token more.
use Rattle.std.proofs.Common.{◌≡◌, ◌∙◌, ℕ, List, [], ◌∷◌, ◌++◌, append-nil, append_assoc, Option, Some, None, refl, sym, ap, subst}
use Rattle.ecma_token.specs.View.{SpannedView}
use Rattle.ecma_token.specs.declared.kind.TokenKind.{TokenKind}
use Rattle.ecma_state.specs.Session.{kept_of}
use Rattle.ecma_reader.specs.Readers.{tokens_found}
use Rattle.ecma_report.specs.Reports.{Adds}
use Rattle.ecma_report.specs.Rows.{Look}
use Rattle.ecma_faces.specs.Tokens.{kind_behind, token_row, token_rows}
use Rattle.ecma_report.proofs.ReportLemmas.{adds-held, adds-on}

module _ (ask : Look) (file text : List ℕ) where
  rows-on : (previous : Option TokenKind) (ts us : List SpannedView)
      → token_rows ask file text previous (ts ++ us) ≡ token_rows ask file text previous ts ++ token_rows ask file text (kind_behind previous ts) us
  rows-on previous [] us = refl
  rows-on previous (t ∷ ts) us =
      ap (λ l. token_row ask file text previous t ++ l) (rows-on (Some (kept_of t).kind) ts us)
      ∙ sym (append_assoc (token_row ask file text previous t) (token_rows ask file text (Some (kept_of t).kind) ts) (token_rows ask file text (kind_behind previous (t ∷ ts)) us))

  kind-on : (previous : Option TokenKind) (ts us : List SpannedView) → kind_behind previous (ts ++ us) ≡ kind_behind (kind_behind previous ts) us
  kind-on previous [] us = refl
  kind-on previous (t ∷ ts) us = kind-on (Some (kept_of t).kind) ts us

  -- these tokens were told of, and the last of them is of that kind
  abbrev pub Told : Option (List ℕ) → Option (List ℕ) → List ℕ → List ℕ → Option TokenKind → List SpannedView → Type 0
  Told before after held now previous ts = Adds before after held now (token_rows ask file text None ts) × (previous ≡ kind_behind None ts)

  pub told-token : (a b c : Option (List ℕ)) (held now pushed then : List ℕ) (previous next : Option TokenKind) (found : Option SpannedView) (ts : List SpannedView) (t : SpannedView)
      → Told a b held now previous ts → found ≡ Some t → pushed ≡ now ++ token_rows ask file text previous (tokens_found found) → next ≡ kind_behind previous (tokens_found found)
      → Adds b c pushed then [] → Told a c held then next (ts ++ t ∷ [])
  told-token a b c held now pushed then previous next found ts t (adds, kind) is added kinds passed =
      let row = token_rows ask file text (kind_behind None ts) (t ∷ []) in
      let behind : pushed ≡ now ++ row = added ∙ ap (λ k. now ++ token_rows ask file text k (tokens_found found)) kind ∙ ap (λ f. now ++ token_rows ask file text (kind_behind None ts) (tokens_found f)) is in
      let held_on = adds-on a b b held now pushed (token_rows ask file text None ts) row adds (adds-held b now pushed row behind) in
      let all = adds-on a b c held pushed then (token_rows ask file text None ts ++ row) [] held_on passed in (
        subst (Adds a c held then) (append-nil (token_rows ask file text None ts ++ row) ∙ sym (rows-on None ts (t ∷ []))) all,
        kinds ∙ ap (λ k. kind_behind k (tokens_found found)) kind ∙ ap (λ f. kind_behind (kind_behind None ts) (tokens_found f)) is ∙ sym (kind-on None ts (t ∷ [])),
      )
