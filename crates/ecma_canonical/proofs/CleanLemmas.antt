-- What a replay tells is whether its run is clean.
use Rattle.std.proofs.Common.{◌≡◌, ◌∙◌, ◌==◌, ◌+◌, ◌<◌, ◌≤◌, ◌^◌, ℕ, Bool, true, not, ◌&&◌, List, [], ◌∷◌, length, map, encode_utf8_all, suc, lt_of_not-le, refl, sym, subst, ap, arith, reverse}
use mathlib.Core.List.{reverse_aux}
use Rattle.std.specs.List.{list_all}
use Rattle.std.proofs.Math.Bool.{and_assoc, and_comm}
use Rattle.std.proofs.lemmas.Bool.Decides.{nat_tests}
use Rattle.std.proofs.lemmas.List.{length-map}
use Rattle.std.proofs.lemmas.List.Folds.{list_all-map}
use Rattle.ecma_place.specs.Cursor.{Cursor}
use Rattle.ecma_token.specs.Kinds.{kind_of}
use Rattle.ecma_token.specs.View.{SpannedView, error_view}
use Rattle.ecma_token.specs.declared.error.Error.{Error}
use Rattle.ecma_joined.specs.Clean.{each_step, ends_clean, is_clean, is_plain_step, takes_none}
use Rattle.ecma_joined.specs.Canonical.{canonical_of, own_in}
use Rattle.ecma_joined.specs.Sharing.{IsReadCleanly, begin, canonical_text_of}
use Rattle.ecma_joined.proofs.CanonicalLaws.{canonical_is_read}
use Rattle.ecma_place.specs.Text.{Text}
use Rattle.ecma_canonical.specs.Canonical.{IsCanonicalText, IsTooLong}
use Rattle.ecma_replay.specs.Replay.{Gathers, Replays, answer_view}
use Rattle.ecma_replay.specs.declared.gathered.Gathered.{Gathered}
use Rattle.ecma_replay.specs.declared.replayed.Replay.{Replay}
use Rattle.ecma_canonical.specs.Watching.{followed_all, nothing_watched}
use Rattle.ecma_canonical.proofs.WatchLemmas.{answers-length, run-watched}
use Rattle.ecma_state.specs.Counting.{counting, none_yet}
use Rattle.ecma_state.specs.Run.{session, start_of}
use Rattle.ecma_state.specs.Session.{Session, has_ended, kept_back, kept_of, kept_tokens}
use Rattle.ecma_state.specs.State.{is_error}
use Rattle.ecma_state.specs.TokenAt.{is_empty}
use Rattle.ecma_state.specs.declared.kept.Kept.{Kept}
use Rattle.ecma_state.specs.declared.settings.Settings.{Settings}
use Rattle.ecma_state.specs.declared.step.Step.{Step}

-- in any order
all-onto : {A : Type 0} (p : A → Bool) (xs ys : List A) → list_all p (reverse_aux xs ys) ≡ (list_all p xs && list_all p ys)
all-onto p [] ys = refl
all-onto p (x ∷ xs) ys =
    all-onto p xs (x ∷ ys)
    ∙ sym (and_assoc (list_all p xs) (p x) (list_all p ys))
    ∙ ap (λ b. b && list_all p ys) (and_comm (list_all p xs) (p x))

pub all-reversed : {A : Type 0} (p : A → Bool) (xs : List A) → list_all p (reverse xs) ≡ list_all p xs
all-reversed p xs = all-onto p xs [] ∙ and_comm (list_all p xs) true

none-error : (ts : List SpannedView) → list_all (λ (k : Kept). not (is_error k.kind)) (reverse (map kept_of ts)) ≡ list_all (λ t. not (is_error (kind_of t.token))) ts
none-error ts =
    all-reversed (λ (k : Kept). not (is_error k.kind)) (map kept_of ts) ∙ list_all-map (λ (k : Kept). not (is_error k.kind)) kept_of ts

pub mapped-empty : {A B : Type 0} (f : A → B) (xs : List A) → is_empty (map f xs) ≡ (length xs == 0)
mapped-empty f [] = refl
mapped-empty f (x ∷ xs) = grind (arith, nat_tests)

-- one answer was given for each step
pub one-each : (settings : Settings) (input : Cursor) (steps : List Step) (r : Replay) → Replays (start_of settings input) steps r → length r.answers.items ≡ length steps
one-each settings input steps r replays =
    sym (length-map r.answers.items answer_view) ∙ ap length replays.answers ∙ answers-length (start_of settings input) none_yet steps

-- where a run ends, what it left says whether anything is wrong
ends-told : (s : Session) (ended : Bool) (kept : List Kept) (errors : List Error) → kept ≡ kept_tokens s → map error_view errors ≡ s.errors.recorded → ended ≡ has_ended s.past
    → (ended && (list_all (λ (k : Kept). not (is_error k.kind)) kept && (length errors == 0))) ≡ ends_clean s
ends-told s ended kept errors keeps recorded ends =
    let none : list_all (λ (k : Kept). not (is_error k.kind)) kept ≡ list_all (λ t. not (is_error (kind_of t.token))) (kept_back s.past) =
    ap (list_all (λ (k : Kept). not (is_error k.kind))) keeps ∙ none-error (kept_back s.past) in
    let no_error : (length errors == 0) ≡ is_empty s.errors.recorded =
    sym (mapped-empty error_view errors) ∙ ap is_empty recorded in
    ap (λ e. e && (list_all (λ (k : Kept). not (is_error k.kind)) kept && (length errors == 0))) ends
    ∙ ap (λ l. has_ended s.past && (l && (length errors == 0))) none
    ∙ ap (λ m. has_ended s.past && (list_all (λ t. not (is_error (kind_of t.token))) (kept_back s.past) && m)) no_error

pub told-clean : (settings : Settings) (input : Cursor) (steps : List Step) (r : Replay) (b : Bool) → Replays (start_of settings input) steps r
    → b ≡ (followed_all nothing_watched steps (map answer_view r.answers.items)).watch.is_clean
    → (b && (r.ended && (list_all (λ (k : Kept). not (is_error k.kind)) r.kept.items && (length r.errors == 0)))) ≡ is_clean settings input steps
told-clean settings input steps r b replays told =
    let begin = start_of settings input in
    let s = session settings input steps in
    let plain = each_step is_plain_step begin (counting steps) in
    let none = each_step takes_none begin (counting steps) in
    let watched : b ≡ (plain && none) =
    told ∙ ap (λ answers. (followed_all nothing_watched steps answers).watch.is_clean) replays.answers ∙ ap (λ w. w.watch.is_clean) (run-watched settings input steps) in
    ap (λ w. w && (r.ended && (list_all (λ (k : Kept). not (is_error k.kind)) r.kept.items && (length r.errors == 0)))) watched
    ∙ ap (λ e. (plain && none) && e) (ends-told s r.ended r.kept.items r.errors replays.kept replays.errors replays.ended)
    ∙ and_assoc plain none (ends_clean s)

-- where the steps say nothing against it, what was gathered is enough
pub gathered-clean : (settings : Settings) (input : Cursor) (steps : List Step) (r : Gathered) → Gathers (start_of settings input) steps r
    → is_clean settings input steps ≡ ends_clean (session settings input steps)
    → (r.ended && (list_all (λ (k : Kept). not (is_error k.kind)) r.kept.items && (length r.errors == 0))) ≡ is_clean settings input steps
gathered-clean settings input steps r gathers plain =
    ends-told (session settings input steps) r.ended r.kept.items r.errors gathers.kept gathers.errors gathers.ended ∙ sym plain

-- the bytes of what is joined are those of the canonical text
pub text-is : (settings : Settings) (start : ℕ) (text : Text) (steps : List Step) (kept : List Kept) (bytes : List ℕ) → kept ≡ kept_tokens (session settings (begin start text) steps)
    → bytes ≡ encode_utf8_all (canonical_of (map (own_in (begin start text)) kept)) → bytes ≡ encode_utf8_all (canonical_text_of settings start text steps)
text-is settings start text steps kept bytes whole joined =
    joined ∙ ap (λ ks. encode_utf8_all (canonical_of (map (own_in (begin start text)) ks))) whole

pub text-fits : (settings : Settings) (start : ℕ) (text : Text) (steps : List Step) → IsReadCleanly settings start text steps
    → (bytes seen : List ℕ) → bytes ≡ encode_utf8_all (canonical_text_of settings start text steps) → seen ≡ bytes → start + length seen < 2 ^ 32 → IsCanonicalText settings start text steps bytes
text-fits settings start text steps clean bytes seen are same below =
    record {
      clean = clean;
      bytes_are = are;
      fits = subst (λ l. start + length l < 2 ^ 32) (same ∙ are) below;
      read_again = canonical_is_read settings start text steps clean;
    }

pub text-too_long : (settings : Settings) (start : ℕ) (text : Text) (steps : List Step) → IsReadCleanly settings start text steps
    → (bytes seen : List ℕ) → bytes ≡ encode_utf8_all (canonical_text_of settings start text steps) → seen ≡ bytes → (start + length seen < 2 ^ 32 → ⊥) → IsTooLong settings start text steps
text-too_long settings start text steps clean bytes seen are same never =
    let above : 2 ^ 32 < suc (start + length seen) = lt_of_not-le never in
    record { clean = clean; too_long = subst (λ l. 2 ^ 32 ≤ start + length l) (same ∙ are) (omega (arith, above)) }
