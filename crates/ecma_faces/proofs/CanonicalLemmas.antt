-- The canonical text, written while the text is read.
use Rattle.std.proofs.Common.{◌≡◌, ◌∙◌, ℕ, ◌-◌, ◌<◌, ◌≤◌, ◌==◌, ◌^◌, Bool, true, false, not, ◌&&◌, List, [], ◌∷◌, ◌++◌, append_assoc, encode_utf8_all, length, map, Some, None, refl, sym, ap, subst, arith, IsUtf8}
use Rattle.std.specs.List.{All, list_all}
use Rattle.std.specs.Prelude.{nat_le, slice_range}
use Rattle.std.specs.Str.{IsCharBoundary, chars}
use Rattle.std.proofs.lemmas.Bool.Decides.{nat_tests}
use Rattle.std.proofs.lemmas.List.Elements.{All-head, All-tail}
use Rattle.std.proofs.lemmas.Str.{IsCharBoundary-start, encodes-append, is_utf8-from_IsUtf8}
use Rattle.ecma_place.specs.Cursor.{IsInput, cursor_at}
use Rattle.ecma_place.specs.Text.{slice_between}
use Rattle.ecma_place.proofs.CursorLemmas.{between-seen, boundary-seen}
use Rattle.ecma_token.specs.View.{SpannedView, error_view}
use Rattle.ecma_state.specs.Run.{session}
use Rattle.ecma_state.specs.Session.{has_ended, kept_back, kept_of, kept_tokens}
use Rattle.ecma_state.specs.TokenAt.{is_empty}
use Rattle.ecma_state.specs.declared.kept.Kept.{Kept}
use Rattle.ecma_joined.specs.Canonical.{Own, canonical_behind, canonical_of, own_in}
use Rattle.ecma_joined.specs.Clean.{ends_clean}
use Rattle.ecma_joined.specs.Sharing.{canonical_text_of}
use Rattle.ecma_joined.specs.Joined.{StandsIn, between_behind}
use Rattle.ecma_canonical.proofs.CleanLemmas.{all-reversed, mapped-empty, text-fits, text-too_long}
use Rattle.ecma_joined.proofs.JoinedLemmas.{between_bytes}
use Rattle.ecma_canonical.proofs.KeptPlaces.{kept_tokens_stand}
use Rattle.ecma_options.specs.Begin.{begin, context, settings, whole}
use Rattle.ecma_options.specs.declared.options.Options.{Options}
use Rattle.ecma_reader.specs.Rereads.{SlashRule, text_steps_by}
use Rattle.ecma_reader.proofs.PlainRuns.{texts_are_read_plainly}
use Rattle.ecma_reader.specs.Readers.{Leaves, end_by, tokens_by}
use Rattle.ecma_reader.specs.declared.reader.Outcome.{Outcome}
use Rattle.ecma_reader.proofs.FoldLemmas.{mapped-back}
use Rattle.ecma_reader.proofs.TextLemmas.{text-run}
use Rattle.ecma_report.specs.Rows.{Look, is_boundary, part_at}
use Rattle.ecma_faces.specs.Canonical.{has_no_error, joined, reads_clean}
use Rattle.ecma_faces.specs.Whole.{IsTold, plainly, steps_by}
use Rattle.ecma_faces.specs.Whole.CanonTold.{Bytes, TooLong}

-- The run is clean where no token is an error, and none was recorded

pub clean-told : (rule : SlashRule) (l : Look) (bytes : List ℕ) (outcome : Outcome) (none empty : Bool)
    → let first = begin false l.asked.options bytes in none ≡ list_all has_no_error (tokens_by rule first) → Leaves (end_by rule first) outcome → has_ended (end_by rule first).past ≡ true
    → empty ≡ (length outcome.errors == 0) → (none && empty) ≡ reads_clean rule l bytes
clean-told rule l bytes outcome none empty among left ended no_errors =
    let how = settings false l.asked.options in
    let input = whole bytes in
    let first = begin false l.asked.options bytes in
    let s = end_by rule first in
    let back = kept_back s.past in
    let tokens : none ≡ list_all has_no_error back = among ∙ all-reversed has_no_error back in
    let recorded : empty ≡ is_empty s.errors.recorded = no_errors ∙ sym (mapped-empty error_view outcome.errors) ∙ ap is_empty left.errors in
    ap (λ n. n && empty) tokens
    ∙ ap (λ r. list_all has_no_error back && r) recorded
    ∙ ap (λ e. e && (list_all has_no_error back && is_empty s.errors.recorded)) (sym ended)
    ∙ sym (ap ends_clean (text-run rule how (context l.asked.options) input))
    ∙ sym (texts_are_read_plainly rule how (context l.asked.options) input refl).clean

-- The characters of a token

boundary : (bytes : List ℕ) (p : ℕ) → IsCharBoundary bytes p → is_boundary bytes p ≡ true
boundary bytes p at = grind (arith, nat_tests, at)

start-of : (bytes : List ℕ) → cursor_at bytes 0 0 ≡ whole bytes
unfolding chars
start-of bytes = refl

from-zero : (p : ℕ) → p - 0 ≡ p
from-zero p = omega arith

part-is : (bytes : List ℕ) → IsInput bytes 0 0 → (k : Kept) → StandsIn (whole bytes) k → part_at bytes k.span ≡ encode_utf8_all (slice_between 0 (chars bytes) k.span.lo.0 k.span.hi.0)
part-is bytes input k stands =
    let c = whole bytes in
    let lo = k.span.lo.0 in
    let hi = k.span.hi.0 in
    let from = boundary bytes lo (subst (IsCharBoundary bytes) (from-zero lo) (boundary-seen bytes 0 0 lo c (start-of bytes) input stands.from).1) in
    let to = boundary bytes hi (subst (IsCharBoundary bytes) (from-zero hi) (boundary-seen bytes 0 0 hi c (start-of bytes) input stands.to).1) in
    let order : nat_le lo hi ≡ true = grind (arith, nat_tests, stands.in_order) in
    let is : slice_range bytes lo hi ≡ encode_utf8_all (slice_between 0 (chars bytes) lo hi) =
    subst (λ n. slice_range bytes lo n ≡ encode_utf8_all (slice_between 0 (chars bytes) lo hi)) (from-zero hi)
    (subst (λ n. slice_range bytes n (hi - 0) ≡ encode_utf8_all (slice_between 0 (chars bytes) lo hi)) (from-zero lo)
    (between-seen bytes 0 0 lo hi c (start-of bytes) input stands.from stands.to stands.in_order)) in
    rw (order, from, to) is

-- Joined tokens are the canonical text

joined-behind : (bytes : List ℕ) → IsInput bytes 0 0 → (p : Own) (ts : List SpannedView) → All (StandsIn (whole bytes)) (map kept_of ts)
    → joined bytes (Some p.kind) ts ≡ encode_utf8_all (canonical_behind p (map (own_in (whole bytes)) (map kept_of ts)))
joined-behind bytes input p [] all = refl
joined-behind bytes input p (t ∷ ts) all =
    let c = whole bytes in
    let k = kept_of t in
    let u = own_in c k in
    let us = map (own_in c) (map kept_of ts) in
    let between = between_behind (Some p.kind) k in
    append_assoc between (part_at bytes k.span) (joined bytes (Some k.kind) ts)
    ∙ ap (λ l. between ++ (l ++ joined bytes (Some k.kind) ts)) (part-is bytes input k (All-head (StandsIn c) k (map kept_of ts) all))
    ∙ ap (λ l. between ++ (encode_utf8_all u.text ++ l)) (joined-behind bytes input u ts (All-tail (StandsIn c) k (map kept_of ts) all))
    ∙ ap (λ l. l ++ (encode_utf8_all u.text ++ encode_utf8_all (canonical_behind u us))) (sym (between_bytes (Some p.kind) k))
    ∙ ap (λ l. encode_utf8_all between ++ l) (sym (encodes-append u.text (canonical_behind u us)))
    ∙ sym (encodes-append between (u.text ++ canonical_behind u us))

joined-all : (bytes : List ℕ) → IsInput bytes 0 0 → (ts : List SpannedView) → All (StandsIn (whole bytes)) (map kept_of ts)
    → joined bytes None ts ≡ encode_utf8_all (canonical_of (map (own_in (whole bytes)) (map kept_of ts)))
joined-all bytes input [] all = refl
joined-all bytes input (t ∷ ts) all =
    let c = whole bytes in
    let k = kept_of t in
    let u = own_in c k in
    let us = map (own_in c) (map kept_of ts) in
    ap (λ l. l ++ joined bytes (Some k.kind) ts) (part-is bytes input k (All-head (StandsIn c) k (map kept_of ts) all))
    ∙ ap (λ l. encode_utf8_all u.text ++ l) (joined-behind bytes input u ts (All-tail (StandsIn c) k (map kept_of ts) all))
    ∙ sym (encodes-append u.text (canonical_behind u us))

-- the tokens of a text, joined, are its canonical text
pub joined-is : (rule : SlashRule) (options : Options) (bytes : List ℕ) → IsUtf8 bytes → length bytes < 2 ^ 32
    → joined bytes None (tokens_by rule (begin false options bytes)) ≡ encode_utf8_all (canonical_text_of (settings false options) 0 (chars bytes) (text_steps_by rule (settings false options) (context options) (whole bytes)))
joined-is rule options bytes utf8 fits =
    let how = settings false options in
    let c = whole bytes in
    let steps = text_steps_by rule how (context options) c in
    let s = end_by rule (begin false options bytes) in
    let ts = tokens_by rule (begin false options bytes) in
    let input : IsInput bytes 0 0 = record { utf8 = is_utf8-from_IsUtf8 bytes utf8; cut = IsCharBoundary-start bytes utf8; fits = omega (arith, fits) } in
    let same : map kept_of ts ≡ kept_tokens (session how c steps) = mapped-back kept_of (kept_back s.past) ∙ sym (ap kept_tokens (text-run rule how (context options) c)) in
    joined-all bytes input ts (subst (All (StandsIn c)) (sym same) (kept_tokens_stand how c steps))
    ∙ ap (λ ks. encode_utf8_all (canonical_of (map (own_in c) ks))) same

-- What is written of it

pub holds-where : (b : Bool) → not b ≡ false → b ≡ true
holds-where true h = refl
holds-where false h = sym h

-- the canonical text of a clean text
pub told-text : (rule : SlashRule) (l : Look) (bytes : List ℕ) (n : ℕ) → IsUtf8 bytes → length bytes < 2 ^ 32 → true ≡ reads_clean rule l bytes
    → let own = joined bytes None (tokens_by rule (begin false l.asked.options bytes)) in n ≡ length own → n < 2 ^ 32
    → IsTold (plainly l) (chars bytes) (steps_by rule l bytes) (Bytes own)
told-text rule l bytes n utf8 fits clean counted below =
    let own = joined bytes None (tokens_by rule (begin false l.asked.options bytes)) in
    text-fits (plainly l) 0 (chars bytes) (steps_by rule l bytes) (sym clean) own own (joined-is rule l.asked.options bytes utf8 fits) refl (omega (arith, counted, below))

pub told-too_long : (rule : SlashRule) (l : Look) (bytes : List ℕ) → IsUtf8 bytes → length bytes < 2 ^ 32 → true ≡ reads_clean rule l bytes
    → 2 ^ 32 ≤ length (joined bytes None (tokens_by rule (begin false l.asked.options bytes)))
    → IsTold (plainly l) (chars bytes) (steps_by rule l bytes) TooLong
told-too_long rule l bytes utf8 fits clean long =
    let own = joined bytes None (tokens_by rule (begin false l.asked.options bytes)) in
    text-too_long (plainly l) 0 (chars bytes) (steps_by rule l bytes) (sym clean) own own (joined-is rule l.asked.options bytes utf8 fits) refl (λ below. absurd (omega (arith, long, below)))
