-- Trees that grow, and lists that come behind a way.
use Rattle.std.proofs.Common.{◌≡◌, ◌∙◌, ℕ, ◌≤◌, Bool, List, length, arith, append_assoc, [], ◌∷◌, ◌++◌, map, reverse, refl, sym, subst, ap, Result, Ok, Err}
use Rattle.std.specs.Prelude.{OnOk}
use Rattle.std.proofs.lemmas.List.{append-nil, map-append, reverse-append, reverse-reverse}
use Rattle.ecma_token.specs.View.{ErrorView, error_view}
use Rattle.ecma_token.specs.declared.error.Error.{Error}
use Rattle.ecma_state.specs.Disposition.{Errors}
use Rattle.ecma_state.specs.declared.kept.Kept.{Kept}
use Rattle.ecma_trees.specs.Trees.{Grows, way}
use Rattle.ecma_trees.specs.declared.tree.Node.{Node}
use Rattle.ecma_trees.proofs.TreeLemmas.{longer, way-more, way-none}
use Rattle.ecma_replay.specs.Playing.{AreWithin, Delivers, Grow, Keeps, errors_to, list_to}
use Rattle.ecma_replay.specs.declared.trees.Trees.{Trees}
use Rattle.ecma_replay.specs.declared.trees.Ways.{Ways}

pub way-grown : {T : Type 0} (old new : List (Node T)) (n : ℕ) → Grows old new → n ≤ length old → way n new ≡ way n old
way-grown old new n grows within = ap (way n) grows.1 ∙ way-more n grows.0 old within

pub within-grown : {T : Type 0} (old new : List (Node T)) (n : ℕ) → Grows old new → n ≤ length old → n ≤ length new
within-grown old new n grows within = rw grows.1 (longer grows.0 old n within)

pub all-within : (old new : Trees) (w : Ways) → Grow old new → AreWithin w old → AreWithin w new
all-within old new w grow within = record {
  kept = within-grown old.kept new.kept w.kept grow.kept within.kept;
  recorded = within-grown old.recorded new.recorded w.recorded grow.recorded within.recorded;
  waiting = within-grown old.waiting new.waiting w.waiting grow.waiting within.waiting;
  comments = within-grown old.comments new.comments w.comments grow.comments within.comments;
}

pub same-errors : (a b c d : List ErrorView) → a ≡ c → b ≡ d → (let first : Errors = record { recorded = a; waiting = b } in let second : Errors = record { recorded = c; waiting = d } in first ≡ second)
same-errors a b c d one two = rw (one, two) refl

pub errors-grown : (old new : Trees) (w : Ways) → Grow old new → AreWithin w old → errors_to new w ≡ errors_to old w
errors-grown old new w grow within =
    same-errors _ _ _ _ (ap (λ l. map error_view (reverse l)) (way-grown old.recorded new.recorded w.recorded grow.recorded within.recorded))
    (ap (λ l. map error_view (reverse l)) (way-grown old.waiting new.waiting w.waiting grow.waiting within.waiting))

pub stays-list : {T : Type 0} (nodes : List (Node T)) → Grows nodes nodes
stays-list nodes = ([], refl)

pub stays : (t : Trees) → Grow t t
stays t = record { kept = stays-list t.kept; recorded = stays-list t.recorded; waiting = stays-list t.waiting; comments = stays-list t.comments }

pub stays-ok : {A E : Type 0} → (result : Result A E) (t : Trees) → OnOk result (Grow t t)
stays-ok (Ok answer) t = stays t
stays-ok (Err error) t = tt

pub further-list : {T : Type 0} (old now next : List (Node T)) → Grows old now → Grows now next → Grows old next
further-list old now next one two = (two.0 ++ one.0, two.1 ∙ ap (λ w. two.0 ++ w) one.1 ∙ sym (append_assoc two.0 one.0 old))

pub further : (old now next : Trees) → Grow old now → Grow now next → Grow old next
further old now next one two = record {
  kept = further-list old.kept now.kept next.kept one.kept two.kept;
  recorded = further-list old.recorded now.recorded next.recorded one.recorded two.recorded;
  waiting = further-list old.waiting now.waiting next.waiting one.waiting two.waiting;
  comments = further-list old.comments now.comments next.comments one.comments two.comments;
}

pub list-added : {T : Type 0} (values found : List T) (before : List T) → found ≡ reverse values ++ before → reverse found ≡ reverse before ++ values
list-added values found before is = ap reverse is ∙ reverse-append (reverse values) before ∙ ap (λ l. reverse before ++ l) (reverse-reverse values)

pub errors-added : (values : List Error) (own : List ErrorView) (found before : List Error) → found ≡ reverse values ++ before → map error_view values ≡ own
    → map error_view (reverse found) ++ [] ≡ map error_view (reverse before) ++ own
errors-added values own found before is seen =
    append-nil (map error_view (reverse found))
    ∙ ap (map error_view) (list-added values found before is)
    ∙ map-append error_view (reverse before) values
    ∙ ap (λ l. map error_view (reverse before) ++ l) seen

pub keeps-grow : (old new : Trees) (ways : Ways) (token : Kept) (again : Bool) (to : Ways) → Keeps old ways token again new to → Grow old new
keeps-grow old new ways token again to keeps =
    subst (Grow old) (sym keeps.rest) (record { kept = keeps.grows; recorded = stays-list old.recorded; waiting = stays-list old.waiting; comments = stays-list old.comments })

-- Errors are copied from the last on

pub copying-starts : (all : List ErrorView) → all ++ [] ≡ all
copying-starts all = append-nil all

pub copying-next : (errors : List (Node Error)) (at before : ℕ) (error copy : Error) (copies more : List Error) (all : List ErrorView) → way at errors ≡ error ∷ way before errors
    → error_view copy ≡ error_view error → more ≡ copies ++ copy ∷ [] → map error_view (list_to at errors) ++ map error_view (reverse copies) ≡ all
    → map error_view (list_to before errors) ++ map error_view (reverse more) ≡ all
copying-next errors at before error copy copies more all last same added so_far =
    ap (λ l. map error_view (list_to before errors) ++ map error_view l) (ap reverse added ∙ reverse-append copies (copy ∷ []))
    ∙ ap (λ e. map error_view (list_to before errors) ++ e ∷ map error_view (reverse copies)) same
    ∙ sym (append_assoc (map error_view (list_to before errors)) (error_view error ∷ []) (map error_view (reverse copies)))
    ∙ ap (λ l. l ++ map error_view (reverse copies)) (sym (map-append error_view (list_to before errors) (error ∷ [])))
    ∙ ap (λ l. map error_view l ++ map error_view (reverse copies)) (sym (reverse-append (error ∷ []) (way before errors)))
    ∙ ap (λ l. map error_view (reverse l) ++ map error_view (reverse copies)) (sym last)
    ∙ so_far

pub copying-ends : (errors : List (Node Error)) (at : ℕ) (copies turned : List Error) (all : List ErrorView) → way at errors ≡ [] → turned ≡ reverse copies
    → map error_view (list_to at errors) ++ map error_view (reverse copies) ≡ all → map error_view turned ≡ all
copying-ends errors at copies turned all none is so_far =
    ap (map error_view) is ∙ ap (λ l. map error_view (reverse l) ++ map error_view (reverse copies)) (sym none) ∙ so_far

-- the errors that wait come behind those that were recorded
pub delivers : (old : Trees) (ways : Ways) (nodes : List (Node Error)) (number : ℕ) (waiting : List Error) → map error_view waiting ≡ map error_view (list_to ways.waiting old.waiting)
    → way number nodes ≡ reverse waiting ++ way ways.recorded old.recorded → (ways.recorded ≤ length old.recorded → number ≤ length nodes) → Grows old.recorded nodes
    → Delivers old ways (record old { recorded = nodes }) (record ways { recorded = number; waiting = 0 })
delivers old ways nodes number waiting seen added within grows = record {
  errors = same-errors _ _ _ _
      (ap (map error_view) (list-added waiting (way number nodes) (way ways.recorded old.recorded) added)
      ∙ map-append error_view (list_to ways.recorded old.recorded) waiting
      ∙ ap (λ l. map error_view (list_to ways.recorded old.recorded) ++ l) seen)
      (ap (λ l. map error_view (reverse l)) (way-none old.waiting));
  kept = refl;
  comments = refl;
  rest = refl;
  within = λ h. record { kept = h.kept; recorded = within h.recorded; waiting = omega arith; comments = h.comments };
  grows = record { kept = stays-list old.kept; recorded = grows; waiting = stays-list old.waiting; comments = stays-list old.comments };
}
