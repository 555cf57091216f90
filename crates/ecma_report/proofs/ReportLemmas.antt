-- What a report is of, and what was added to it.
use Rattle.std.proofs.Common.{◌≡◌, ◌∙◌, ℕ, ◌+◌, ◌<◌, List, [], ◌∷◌, ◌++◌, add-one, append-nil, append_assoc, get_or, length, take, Option, Some, None, refl, sym, ap, subst}
use Rattle.std.specs.Prelude.{flat_map}
use Rattle.std.proofs.Math.Seq.{take-suc}
use Rattle.std.proofs.lemmas.Grind.{flat_map-append}
use Rattle.std.specs.Io.KnownBytes.{Appends}
use Rattle.ecma_print.specs.Lines.{Counts}
use Rattle.ecma_report.specs.Reports.{Adds, IsOf, IsStill, KeepsFaults, Stays, look_of}
use Rattle.ecma_report.specs.Rows.{Look, look}
use Rattle.ecma_report.specs.declared.report.Report.{Report}

-- Of the same

pub still-same : (r : Report) → IsStill r r
still-same r = record { asked = refl; among = refl; name = refl; text = refl; counts = λ counts. counts; too_long = refl }

pub still-on : (a b c : Report) → IsStill a b → IsStill b c → IsStill a c
still-on a b c first then =
    record {
      asked = then.asked ∙ first.asked;
      among = then.among ∙ first.among;
      name = then.name ∙ first.name;
      text = then.text ∙ first.text;
      counts = λ counts. subst (λ t. Counts t c.lines) first.text (then.counts (subst (λ t. Counts t b.lines) (sym first.text) (first.counts counts)));
      too_long = then.too_long ∙ first.too_long;
    }

still-look : (old new : Report) → IsStill old new → look_of new ≡ look_of old
still-look old new still = ap (λ a. look a new.among) still.asked ∙ ap (look old.asked) still.among

pub still-of : (l : Look) (file bytes : List ℕ) (old new : Report) → IsStill old new → IsOf l file bytes old → IsOf l file bytes new
still-of l file bytes old new still of =
    record {
      look = still-look old new still ∙ of.look;
      name = still.name ∙ of.name;
      text = still.text ∙ of.text;
      counts = subst (λ t. Counts t new.lines) of.text (still.counts (subst (λ t. Counts t old.lines) (sym of.text) of.counts));
    }

-- the same, with the same lines of faults, and as faulty

pub is-still : (old new : Report) → Stays old new → IsStill old new
is-still old new stays = record { asked = stays.asked; among = stays.among; name = stays.name; text = stays.text; counts = stays.counts; too_long = stays.too_long }

pub keeps-faults : (old new : Report) → Stays old new → KeepsFaults old new
keeps-faults old new stays = record { faults = stays.faults; faulty = stays.faulty }

stays-with : (old new : Report) → IsStill old new → KeepsFaults old new → Stays old new
stays-with old new still keeps = record {
  asked = still.asked;
  among = still.among;
  name = still.name;
  text = still.text;
  counts = still.counts;
  too_long = still.too_long;
  faults = keeps.faults;
  faulty = keeps.faulty;
}

pub keeps-same : (r : Report) → KeepsFaults r r
keeps-same r = record { faults = refl; faulty = refl }

pub stays-same : (r : Report) → Stays r r
stays-same r = stays-with r r (still-same r) (keeps-same r)

pub stays-on : (a b c : Report) → Stays a b → Stays b c → Stays a c
stays-on a b c first then =
    stays-with a c (still-on a b c (is-still a b first) (is-still b c then)) (record { faults = then.faults ∙ first.faults; faulty = then.faulty ∙ first.faulty })

pub same-look : (old new : Report) → Stays old new → look_of new ≡ look_of old
same-look old new stays = still-look old new (is-still old new stays)

pub stays-of : (l : Look) (file bytes : List ℕ) (old new : Report) → Stays old new → IsOf l file bytes old → IsOf l file bytes new
stays-of l file bytes old new stays of = still-of l file bytes old new (is-still old new stays) of

pub counts-of : (l : Look) (file bytes : List ℕ) (r : Report) → IsOf l file bytes r → Counts r.text.now r.lines
counts-of l file bytes r of = subst (λ t. Counts t r.lines) (sym of.text) of.counts

-- what holds of that which a report has holds of that which it is of
pub said-of : (l : Look) (file bytes : List ℕ) (r : Report) (F : Look → List ℕ → List ℕ → Type 0) → IsOf l file bytes r → F (look_of r) r.name.now r.text.now → F l file bytes
said-of l file bytes r F of said = subst (λ a. F a file bytes) of.look (subst (λ n. F (look_of r) n bytes) of.name (subst (λ t. F (look_of r) r.name.now t) of.text said))

-- Added

appends-none : (known : Option (List ℕ)) → Appends known known []
appends-none None = tt
appends-none (Some xs) = sym (append-nil xs)

appends-on : (a b c : Option (List ℕ)) (xs ys : List ℕ) → Appends a b xs → Appends b c ys → Appends a c (xs ++ ys)
appends-on None b c xs ys first then = tt
appends-on (Some hs) None c xs ys first then = absurd first
appends-on (Some hs) (Some bs) None xs ys first then = absurd then
appends-on (Some hs) (Some bs) (Some cs) xs ys first then = then ∙ ap (λ l. l ++ ys) first ∙ append_assoc hs xs ys

-- nothing yet
pub adds-none : (known : Option (List ℕ)) (held : List ℕ) → Adds known known held held []
adds-none known held = record { sent = []; written = appends-none known; left = sym (append-nil held) }

-- behind what was added before
pub adds-on : (a b c : Option (List ℕ)) (held now then xs ys : List ℕ) → Adds a b held now xs → Adds b c now then ys → Adds a c held then (xs ++ ys)
adds-on a b c held now then xs ys first next =
    record {
      sent = first.sent ++ next.sent;
      written = appends-on a b c first.sent next.sent first.written next.written;
      left = append_assoc first.sent next.sent then ∙ ap (λ l. first.sent ++ l) next.left ∙ sym (append_assoc first.sent now ys) ∙ ap (λ l. l ++ ys) first.left ∙ append_assoc held xs ys;
    }

-- what is held
pub adds-held : (known : Option (List ℕ)) (held now xs : List ℕ) → now ≡ held ++ xs → Adds known known held now xs
adds-held known held now xs e = record { sent = []; written = appends-none known; left = e }

-- all that is held was written, and is no longer held
pub adds-sent : (before after : Option (List ℕ)) (held now : List ℕ) → Appends before after held → now ≡ [] → Adds before after held now []
adds-sent before after held now written none = record { sent = held; written = written; left = ap (λ l. held ++ l) none }

-- and these bytes behind them
pub adds-behind : (before between after : Option (List ℕ)) (held now bytes : List ℕ) → Appends before between held → Appends between after bytes → now ≡ [] → Adds before after held now bytes
adds-behind before between after held now bytes first then none =
    record { sent = held ++ bytes; written = appends-on before between after held bytes first then; left = ap (λ l. (held ++ bytes) ++ l) none ∙ append-nil (held ++ bytes) }

-- where nothing is held any more, all was written
pub all-sent : (before after : Option (List ℕ)) (held xs : List ℕ) → Adds before after held [] xs → Appends before after (held ++ xs)
all-sent before after held xs adds = subst (Appends before after) (sym (append-nil adds.sent) ∙ adds.left) adds.written

-- what was added and then flushed is all written
pub flushed-all : (before between after : Option (List ℕ)) (held left now xs : List ℕ) → Adds before between held left xs → Appends between after left → now ≡ [] → Appends before after (held ++ xs)
flushed-all before between after held left now xs told written none =
    let sent = adds-sent between after left now written none in
    let all = adds-on before between after held left now xs [] told sent in
    all-sent before after held xs (subst (λ n. Adds before after held n xs) none (subst (Adds before after held now) (append-nil xs) all))

-- Rows of a list, one more at a time

-- the rows of one more
rows-on : {A : Type 0} (f : A → List ℕ) (xs : List A) (i : ℕ) (d : A) → i < length xs → flat_map f (take (i + 1) xs) ≡ flat_map f (take i xs) ++ f (get_or xs i d)
rows-on f xs i d low =
    ap (λ n. flat_map f (take n xs)) (add-one i) ∙ ap (flat_map f) (take-suc xs i d low) ∙ flat_map-append f (take i xs) (get_or xs i d ∷ []) ∙ ap (λ l. flat_map f (take i xs) ++ l) (append-nil (f (get_or xs i d)))

pub row-added : {A : Type 0} (f : A → List ℕ) (xs : List A) (i : ℕ) (d : A) (a b c : Option (List ℕ)) (held now pushed then : List ℕ) → i < length xs
    → Adds a b held now (flat_map f (take i xs)) → pushed ≡ now ++ f (get_or xs i d) → Adds b c pushed then [] → Adds a c held then (flat_map f (take (i + 1) xs))
row-added f xs i d a b c held now pushed then low adds added passed =
    let row = f (get_or xs i d) in
    let before = flat_map f (take i xs) in
    let held_on = adds-on a b b held now pushed before row adds (adds-held b now pushed row added) in
    let all = adds-on a b c held pushed then (before ++ row) [] held_on passed in
    subst (Adds a c held then) (append-nil (before ++ row) ∙ sym (rows-on f xs i d low)) all

-- the line of one more, which passing rows on leaves as it is
pub line-added : {A : Type 0} (f : A → List ℕ) (xs : List A) (i : ℕ) (d : A) (begun here told passed : List ℕ) → i < length xs
    → here ≡ begun ++ flat_map f (take i xs) → told ≡ here ++ f (get_or xs i d) → passed ≡ told → passed ≡ begun ++ flat_map f (take (i + 1) xs)
line-added f xs i d begun here told passed low so_far added same =
    same
    ∙ added
    ∙ ap (λ l. l ++ f (get_or xs i d)) so_far
    ∙ append_assoc begun (flat_map f (take i xs)) (f (get_or xs i d))
    ∙ ap (λ l. begun ++ l) (sym (rows-on f xs i d low))
