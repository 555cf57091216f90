-- What is written in parts, while more is left.
use Rattle.std.proofs.Common.{◌≡◌, ◌∙◌, ℕ, List, [], ◌∷◌, ◌++◌, Option, append-nil, append_assoc, ap, arith, length, refl, subst, sym}
use Rattle.ecma_report.specs.Reports.{Adds}
use Rattle.ecma_report.proofs.ReportLemmas.{adds-held, adds-none, adds-on}

-- what was added so far, and what is left, is all
pub record Streams (before after : Option (List ℕ)) (held now left all : List ℕ) : Type 0 where
  pub added : List ℕ
  pub adds : Adds before after held now added
  pub rest : added ++ left ≡ all

pub streams-none : (known : Option (List ℕ)) (held all : List ℕ) → Streams known known held held all all
streams-none known held all = record { added = []; adds = adds-none known held; rest = refl }

pub streams-more : (a b c : Option (List ℕ)) (held now pushed then own left more all : List ℕ) → Streams a b held now left all
    → pushed ≡ now ++ own → left ≡ own ++ more → Adds b c pushed then [] → Streams a c held then more all
streams-more a b c held now pushed then own left more all so_far is splits passed =
    let here = adds-on a b b held now pushed so_far.added own so_far.adds (adds-held b now pushed own is) in
    record {
      added = so_far.added ++ own;
      adds = subst (Adds a c held then) (append-nil (so_far.added ++ own)) (adds-on a b c held pushed then (so_far.added ++ own) [] here passed);
      rest = append_assoc so_far.added own more ∙ ap (λ l. so_far.added ++ l) (sym splits) ∙ so_far.rest;
    }

pub streams-all : (a b : Option (List ℕ)) (held now left all : List ℕ) → Streams a b held now left all → left ≡ [] → Adds a b held now all
streams-all a b held now left all streams none =
    subst (Adds a b held now) (sym (append-nil streams.added) ∙ ap (λ l. streams.added ++ l) (sym none) ∙ streams.rest) streams.adds

-- where nothing is joined, nothing comes first
pub none-before : (xs ys : List ℕ) → [] ≡ xs ++ ys → xs ≡ []
none-before [] ys is = refl
none-before (x ∷ xs) ys is = absurd (omega (arith, ap length is))
