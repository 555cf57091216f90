-- A loop that keeps the tokens of a text, and whether they are clean.
use Rattle.std.proofs.Common.{◌≡◌, ◌∙◌, ℕ, ◌-◌, suc, Bool, true, false, not, ◌&&◌, List, [], ◌∷◌, ◌++◌, Some, None, Result, Ok, Err, MatchResult, inl, map, refl, reverse, sym, subst, ap, arith}
use Rattle.std.specs.List.{All, list_all}
use Rattle.std.specs.Prelude.{encode_utf8_all, fold, if◌then◌else◌, is_some}
use Rattle.std.proofs.lemmas.Option.{none-some}
use Rattle.std.proofs.lemmas.List.{map-append}
use Rattle.std.proofs.lemmas.List.Folds.{list_all-append, list_all-map}
use Rattle.std.proofs.lemmas.Grind.{reverse_onto}
use Rattle.std.proofs.lemmas.List.Sums.{fold-append}
use Rattle.ecma_token.specs.Kinds.{kind_of}
use Rattle.ecma_token.specs.View.{SpannedView}
use Rattle.ecma_joined.specs.Canonical.{canonical_of, own_in}
use Rattle.ecma_state.specs.Clean.{ends_clean}
use Rattle.ecma_state.specs.Disposition as lists
use Rattle.ecma_state.specs.Ending.{behind_reads, comments_of, enough, errors_of, read_out, reads, tokens_of}
use Rattle.ecma_state.specs.HandOver.{has_comments}
use Rattle.ecma_joined.specs.Joined.{StandsIn}
use Rattle.ecma_state.specs.Run.{act_all, act_on, reading_of, start_of, state_behind}
use Rattle.ecma_state.specs.Session.{LexerState, Session, has_ended, kept_back, kept_of, kept_tokens, state_of}
use Rattle.ecma_state.specs.State.{is_error}
use Rattle.ecma_state.specs.TokenAt.{is_empty}
use Rattle.ecma_state.specs.Slashes.{slash_answered}
use Rattle.ecma_state.specs.declared.kept.Kept.{Kept}
use Rattle.ecma_state.specs.declared.step.Step.{Step}
use Rattle.ecma_state.specs.declared.step.Step.TheVariants.{SetCtx}
use Rattle.ecma_reads.proofs.EndingLemmas.{ReadSoFar, read_tokens, reads_out, so_far-end, so_far-start, so_far-token}
use Rattle.ecma_canonical.proofs.KeptPlaces.{steps_keep_places}
use Rattle.ecma_options.specs.Begin.{begin, context, settings, whole}
use Rattle.ecma_program.specs.CanonText.{KeepsCleanly, canon_from, canon_text, canonical_bytes, unless_too_long}
use Rattle.ecma_program.specs.Rereads.{Fails, behind_rereads, session_behind, rereading, unless_no_slash}
use Rattle.ecma_options.specs.declared.options.Options.{Options}
use Rattle.ecma_stdio.specs.declared.fault.Fault.{Fault}
use Rattle.ecma_stdio.specs.declared.fault.Fault.TheVariants.{NotClean}
use Rattle.ecma_program.proofs.Gathering.{ended-has}

-- Reading to the end

-- so many reads, which all gave a token, from each session where the lexer may have begun, and what is kept of the tokens where
-- those before were kept
pub record KeptSoFar (begun l : LexerState) (first kept : List Kept) : Type 0 where
  pub reads : (s : Session) → state_of s ≡ begun → (k : ℕ) × ReadSoFar s k l × (first ≡ map kept_of (reverse (kept_back s.past)) → kept ≡ map kept_of (read_tokens s k))
  pub plain : l.reread ≡ None

pub kept-start : (begun : LexerState) (first : List Kept) → begun.reread ≡ None → KeptSoFar begun begun first first
kept-start begun first plain =
    record {
      reads = λ s at. (0, subst (ReadSoFar s 0) at (so_far-start s (ap (λ l. l.reread) at ∙ plain)), λ same. same);
      plain = plain;
    }

pub kept-next : (begun l next : LexerState) (first kept : List Kept) (t : SpannedView) → KeptSoFar begun l first kept → (reading_of l).found ≡ Some t → next ≡ state_behind l (reading_of l)
    → KeptSoFar begun next first (kept ++ kept_of t ∷ [])
kept-next begun l next first kept t so found moved =
    record {
      reads = λ s at.
          let here = so.reads s at in
          let more = so_far-token s here.0 l next t here.1 found moved in
          (suc here.0, more.0, λ same. ap (λ before. before ++ kept_of t ∷ []) (here.2 same) ∙ sym (ap (map kept_of) more.1 ∙ map-append kept_of (read_tokens s here.0) (t ∷ [])));
      plain = ap (λ x. x.reread) moved ∙ so.plain;
    }

-- behind the read that answers the end all tokens are kept, and the errors are those of the text
pub kept-tokens : (begun l next : LexerState) (first kept : List Kept) → KeptSoFar begun l first kept → (reading_of l).found ≡ None → next ≡ state_behind l (reading_of l)
    → (s : Session) → state_of s ≡ begun → first ≡ map kept_of (reverse (kept_back s.past)) → kept ≡ map kept_of (tokens_of s)
kept-tokens begun l next first kept so none moved s at same =
    let here = so.reads s at in
    here.2 same ∙ ap (map kept_of) (so_far-end s here.0 l next here.1 none moved).0

pub kept-errors : (begun l next : LexerState) (first kept : List Kept) → KeptSoFar begun l first kept → (reading_of l).found ≡ None → next ≡ state_behind l (reading_of l)
    → (s : Session) → state_of s ≡ begun → next.errors ≡ errors_of s
kept-errors begun l next first kept so none moved s at =
    let here = so.reads s at in (so_far-end s here.0 l next here.1 none moved).1

-- so are the comments, which may be handed over there
pub kept-comments : (begun l next : LexerState) (first kept : List Kept) → KeptSoFar begun l first kept → (reading_of l).found ≡ None → next ≡ state_behind l (reading_of l)
    → (s : Session) → state_of s ≡ begun → (next.comments ≡ comments_of s) × (has_comments next ≡ true)
kept-comments begun l next first kept so none moved s at =
    let here = so.reads s at in
    ((so_far-end s here.0 l next here.1 none moved).2, ended-has l next (ap (λ x. x.refused) here.1.state) none moved)

-- The order of what is kept

pub map-reversed : {A B : Type 0} (f : A → B) (xs : List A) → reverse (map f xs) ≡ map f (reverse xs)
map-reversed f [] = refl
map-reversed f (x ∷ xs) =
    reverse_onto (map f xs) (f x) [] ∙ ap (λ before. before ++ f x ∷ []) (map-reversed f xs) ∙ sym (ap (map f) (reverse_onto xs x []) ∙ map-append f (reverse xs) (x ∷ []))

pub all-reversed : {A : Type 0} (p : A → Bool) (xs : List A) → list_all p (reverse xs) ≡ list_all p xs
all-reversed p [] = refl
all-reversed p (x ∷ xs) =
    ap (list_all p) (reverse_onto xs x []) ∙ list_all-append p (reverse xs) (x ∷ []) ∙ ap (λ b. b && (p x && true)) (all-reversed p xs) ∙ turned (list_all p xs) (p x)
  where
    turned : (a b : Bool) → (a && (b && true)) ≡ (b && a)
    turned true true = refl
    turned true false = refl
    turned false true = refl
    turned false false = refl

pub kept-in-order : (s : Session) → map kept_of (tokens_of s) ≡ kept_tokens (read_out s)
unfolding tokens_of
kept-in-order s = sym (map-reversed kept_of (kept_back (read_out s).past))

-- Whether a text is clean

pub clean-told : (s : Session) (kept : List Kept) → has_ended (read_out s).past ≡ true → kept ≡ map kept_of (tokens_of s)
    → ends_clean (read_out s) ≡ (list_all (λ k. not (is_error k.kind)) kept && is_empty (errors_of s).recorded)
unfolding tokens_of errors_of
clean-told s kept ended all =
    let none : Kept → Bool = λ k. not (is_error k.kind) in
    let back = kept_back (read_out s).past in
    let same : list_all none kept ≡ list_all (λ t. not (is_error (kind_of t.token))) back =
    ap (list_all none) (all ∙ sym (map-reversed kept_of back)) ∙ all-reversed none (map kept_of back) ∙ list_all-map none kept_of back in
    ap (λ b. b && (list_all (λ t. not (is_error (kind_of t.token))) back && is_empty (read_out s).errors.recorded)) ended
    ∙ ap (λ b. b && is_empty (read_out s).errors.recorded) (sym same)

-- the reads answered the end
pub ended-out : (s : Session) → s.reread ≡ None → has_ended (read_out s).past ≡ true
ended-out s plain = (reads_out s (enough s.input) plain (omega arith)).ended

-- What is answered

pub canon-kept : (o : Options) (rereads bytes : List ℕ) (kept : List Kept) → KeepsCleanly o rereads bytes kept
    → canon_text o rereads bytes ≡ unless_too_long (encode_utf8_all (canonical_of (map (own_in (whole bytes)) kept)))
canon-kept o rereads bytes kept so =
    ap (λ s. canon_from bytes (unless_no_slash s)) so.opened
    ∙ ap (λ clean. if clean then unless_too_long (canonical_bytes bytes (read_out so.session)) else Err NotClean) so.clean
    ∙ ap (λ ks. unless_too_long (encode_utf8_all (canonical_of (map (own_in (whole bytes)) ks)))) (sym so.kept_there)

pub canon-unclean : (o : Options) (rereads bytes : List ℕ) (s : Session) → session_behind false o rereads bytes ≡ Some s → ends_clean (read_out s) ≡ false → canon_text o rereads bytes ≡ Err NotClean
canon-unclean o rereads bytes s opened unclean =
    ap (λ s. canon_from bytes (unless_no_slash s)) opened ∙ ap (λ clean. if clean then unless_too_long (canonical_bytes bytes (read_out s)) else Err NotClean) unclean

-- what is told of the tokens and the errors that were kept
pub told-clean : (s : Session) (kept : List Kept) (errors : lists.Errors) (told : Bool) → s.reread ≡ None → kept ≡ kept_tokens (read_out s) → errors ≡ errors_of s
    → told ≡ (list_all (λ k. not (is_error k.kind)) kept && is_empty errors.recorded)
    → ends_clean (read_out s) ≡ told
told-clean s kept errors told plain kept_there errors_are told_so =
    clean-told s kept (ended-out s plain) (kept_there ∙ sym (kept-in-order s))
    ∙ ap (λ errors. list_all (λ k. not (is_error k.kind)) kept && is_empty errors.recorded) (sym errors_are)
    ∙ sym told_so

-- Where the tokens stand

pub rereads-steps : (kept : ℕ) (s : Session) (ns : List ℕ) (t : Session) → behind_rereads kept s ns ≡ Some t → (steps : List Step) × (t ≡ fold act_on s steps)
rereads-steps kept s [] t e = ([], some-same e)
  where
    some-same : {a b : Session} → Some a ≡ Some b → b ≡ a
    some-same h = cc
rereads-steps kept s (n ∷ ns) t e = go (is_some (slash_answered (state_of there))) e (rereads-steps n (act_all there rereading) ns t)
  where
    there : Session
    there = behind_reads (n - kept) s

    go : (b : Bool) → (if b then behind_rereads n (act_all there rereading) ns else None) ≡ Some t
        → (behind_rereads n (act_all there rereading) ns ≡ Some t → (steps : List Step) × (t ≡ fold act_on (act_all there rereading) steps)) → (steps : List Step) × (t ≡ fold act_on s steps)
    go false h more = absurd (none-some t h)
    go true h more =
        let (steps, same) = more h in
        (reads (n - kept) ++ (rereading ++ steps), same ∙ sym (fold-append act_on s (reads (n - kept)) (rereading ++ steps) ∙ fold-append act_on there rereading steps))

pub begin-steps : (collects : Bool) (o : Options) (bytes : List ℕ) → (steps : List Step) × (begin collects o bytes ≡ fold act_on (start_of (settings collects o) (whole bytes)) steps)
begin-steps collects o bytes = (SetCtx (context o) ∷ [], refl)

-- where the reads come to the end is where some steps come to
pub read_out-steps : (collects : Bool) (o : Options) (rereads bytes : List ℕ) (s : Session) → session_behind collects o rereads bytes ≡ Some s
    → (steps : List Step) × (read_out s ≡ fold act_on (start_of (settings collects o) (whole bytes)) steps)
read_out-steps collects o rereads bytes s opened =
    let begun : Session = start_of (settings collects o) (whole bytes) in
    let (first, at) = begin-steps collects o bytes in
    let (more, there) = rereads-steps 0 (begin collects o bytes) rereads s opened in
    let last = reads (enough s.input) in (
      first ++ (more ++ last),
      ap (λ x. fold act_on x last) (there ∙ ap (λ x. fold act_on x more) at)
          ∙ sym (fold-append act_on begun first (more ++ last) ∙ fold-append act_on (fold act_on begun first) more last),
    )

pub kept-stand : (o : Options) (rereads bytes : List ℕ) (kept : List Kept) → KeepsCleanly o rereads bytes kept → All (StandsIn (whole bytes)) kept
kept-stand o rereads bytes kept so =
    let (steps, there) = read_out-steps false o rereads bytes so.session so.opened in
    subst (All (StandsIn (whole bytes))) (sym (so.kept_there ∙ ap kept_tokens there)) (steps_keep_places (settings false o) (whole bytes) steps)

-- The answer is that of the bytes alone

pub fits-canon : {V : Type 0} (items_of : V → List ℕ) (o : Options) (rereads bytes : List ℕ) (kept : List Kept) (text : List ℕ) (result : Result V Fault) → KeepsCleanly o rereads bytes kept
    → text ≡ encode_utf8_all (canonical_of (map (own_in (whole bytes)) kept))
    → MatchResult result (λ out. unless_too_long text ≡ Ok (items_of out)) (λ fault. unless_too_long text ≡ Err fault)
    → MatchResult result (λ out. canon_text o rereads bytes ≡ Ok (items_of out)) (λ fault. Fails (canon_text o rereads bytes) fault)
fits-canon items_of o rereads bytes kept text (Ok out) so is told = canon-kept o rereads bytes kept so ∙ ap unless_too_long (sym is) ∙ told
fits-canon items_of o rereads bytes kept text (Err fault) so is told = inl (canon-kept o rereads bytes kept so ∙ ap unless_too_long (sym is) ∙ told)
