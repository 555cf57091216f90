-- The canonical text of a text is read by the same words, to the same tokens.
use Rattle.std.proofs.Common.{◌≡◌, ◌∙◌, ℕ, zero, suc, ◌+◌, ◌-◌, ◌≤◌, Bool, true, false, not, ◌&&◌, ◌||◌, List, [], ◌∷◌, ◌++◌, append_assoc, drop, length, take, Option, Some, None, Result, Ok, Err, map, refl, reverse, sym, subst, ap, arith}
use Rattle.std.specs.Prelude.{encode_utf8_all, if◌then◌else◌, is_some, nat_lt, slice_range, IfOk, MatchResult}
use Rattle.std.specs.List.{list_all}
use Rattle.std.specs.Str.{IsUtf8, chars}
use Rattle.std.proofs.Math.Utf8.{scalars}
use Rattle.std.proofs.lemmas.Bool.{and_parts}
use Rattle.std.proofs.lemmas.List.Sums.{fold-append}
use Rattle.std.proofs.lemmas.Option.{none-some}
use Rattle.std.proofs.lemmas.Str.{chars-encodes, scalars-chars}
use Rattle.clean_runs.specs.Parts.{joint}
use Rattle.ecma_place.specs.Cursor.{Cursor, count_within, place, rest}
use Rattle.ecma_place.specs.Text.{Text}
use Rattle.ecma_place.specs.declared.place.BytePos.{BytePos}
use Rattle.ecma_token.specs.Kinds.{kind_of}
use Rattle.ecma_token.specs.View.{SpannedView}
use Rattle.ecma_reads.specs.Expressions.{regular_expression}
use Rattle.ecma_reads.specs.Found.{found_at, token_behind}
use Rattle.ecma_state.specs.Counting.{count_step, counting, none_yet}
use Rattle.ecma_state.specs.Reading.{Reading, spanned}
use Rattle.ecma_state.specs.Run.{act_all, act_on, at_place, given_in, reading_from, reading_of, reread_from, session, start_of}
use Rattle.ecma_state.specs.Session.{Again, Past, Session, has_ended, kept_back, kept_of, kept_tokens, seen_of, state_of}
use Rattle.ecma_state.specs.State.{is_error, is_slash, last_slash}
use Rattle.ecma_state.specs.TokenAt.{is_empty}
use Rattle.ecma_state.specs.Disposition.{Errors}
use Rattle.ecma_state.specs.declared.kept.Kept.{Kept}
use Rattle.ecma_state.specs.declared.settings.Settings.{Settings}
use Rattle.ecma_state.specs.declared.step.Step.{Step}
use Rattle.ecma_state.specs.declared.step.Step.TheVariants.{Read, Reread, SetCtx}
use Rattle.ecma_state.specs.Ending.{behind_reads, enough, read_out, reads}
use Rattle.ecma_state.specs.Slashes.{slash_answered}
use Rattle.ecma_reads.proofs.EndingLemmas.{reads_out}
use Rattle.ecma_reads.proofs.SlashLemmas.{again-kind, expression-no-slash}
use Rattle.ecma_slashes.proofs.PlainRuns.{each-append}
use Rattle.ecma_slashes.proofs.RunLemmas.{Counts, both-count, none-counts}
use Rattle.ecma_joined.specs.Canonical.{Own, between, canonical_behind, canonical_of, is_template_text, own_in}
use Rattle.ecma_state.specs.Clean.{each_step, ends_clean, is_clean, is_plain_step, takes_none, was_again}
use Rattle.ecma_joined.specs.Stages.{Stage, stages}
use Rattle.ecma_joined.specs.Sharing.{canonical_text_of}
use Rattle.ecma_joined.proofs.CanonicalLaws.{canonical_is_read, canonical_runs_alike}
use Rattle.ecma_options.specs.Begin.{begin, context, settings, whole}
use Rattle.ecma_options.specs.declared.options.Options.{Options}
use Rattle.ecma_stdio.specs.declared.fault.Fault.{Fault}
use Rattle.ecma_stdio.specs.declared.fault.Fault.TheVariants.{NotClean, TooLong}
use Rattle.ecma_program.specs.Rereads.{Fails, behind_rereads, rereading, session_behind, unless_no_slash}
use Rattle.ecma_program.specs.CanonText.{CanonIsRead, IsReadAgain, canon_from, canon_text, canonical_bytes, owned, unless_too_long}

-- Sessions before a read

-- no slash is read again, and the newest answer is no slash where it was read again
record Ready (s : Session) : Type 0 where
  plain : s.reread ≡ None
  settled : was_again s.past ≡ true → last_slash (seen_of s.past) ≡ None

not-again : (flag : Bool) (found : Option SpannedView) (past : Past) → was_again (given_in false flag found ∷ past) ≡ false
not-again flag None past = refl
not-again flag (Some t) past = refl

read-ready : (s : Session) → s.reread ≡ None → Ready (act_on s Read)
read-ready s plain =
    let r : Reading = reading_of (state_of s) in
    let next : was_again (act_on s Read).past ≡ false = ap (λ o. was_again (given_in (is_some o) r.end_flag r.found ∷ s.past)) plain ∙ not-again r.end_flag r.found s.past in
    record { plain = plain; settled = λ again. let never : true ≡ false = sym again ∙ next in cc }

reads-ready : (n : ℕ) (s : Session) → Ready s → Ready (behind_reads n s)
reads-ready zero s ready = ready
reads-ready (suc n) s ready = reads-ready n (act_on s Read) (read-ready s ready.plain)

reads-plain : (n : ℕ) (s : Session) → s.reread ≡ None → each_step is_plain_step s (reads n) ≡ true
reads-plain zero s plain = refl
reads-plain (suc n) s plain =
    ap (λ o. not (is_some o && was_again s.past) && each_step is_plain_step (act_on s Read) (reads n)) plain ∙ reads-plain n (act_on s Read) plain

reads-take-none : (n : ℕ) (s : Session) → each_step takes_none s (reads n) ≡ true
reads-take-none zero s = refl
reads-take-none (suc n) s = reads-take-none n (act_on s Read)

read-counts : Counts (Read ∷ [])
unfolding count_step
read-counts c = refl

reads-count : (n : ℕ) → Counts (reads n)
reads-count zero = none-counts
reads-count (suc n) = both-count (Read ∷ []) (reads n) read-counts (reads-count n)

-- A slash that is read again

no-slash : (t : SpannedView) (past : Past) → is_slash (kind_of t.token) ≡ false → last_slash (seen_of (Again t ∷ past)) ≡ None
no-slash t past h = ap (λ b. if b then Some t.span.lo else None) h

again-no-slash : (s : Session) (p : BytePos) → s.reread ≡ Some p → last_slash (seen_of (act_on s Read).past) ≡ None
again-no-slash s p asked = go s.reread asked
  where
    go : (o : Option BytePos) → o ≡ Some p → last_slash (seen_of (given_in (is_some o) (reading_from o (state_of s)).end_flag (reading_from o (state_of s)).found ∷ s.past)) ≡ None
    go None e = cc
    go (Some q) e =
        let here : Cursor = at_place q s.input in
        let t : SpannedView = spanned (seen_of s.past).flag (found_at token_behind (place here) (regular_expression (rest here))) in
        no-slash t s.past (expression-no-slash t.token (again-kind (place here) (rest here)))

record Block (s : Session) : Type 0 where
  plain : each_step is_plain_step s rereading ≡ true
  asks : is_some (act_on s Reread).reread ≡ true
  ready : Ready (act_all s rereading)

block : (s : Session) → Ready s → is_some (slash_answered (state_of s)) ≡ true → Block s
block s ready told = go (last_slash (seen_of s.past)) refl
  where
    go : (o : Option BytePos) → last_slash (seen_of s.past) ≡ o → Block s
    go None e = let never : false ≡ true = sym (ap is_some e) ∙ told in cc
    go (Some p) e =
        let asked : Session = record s { reread = Some p } in
        let same : act_on s Reread ≡ asked = ap (λ o. (reread_from s o).after) e in
        record {
          plain = ap (λ (r : Session). is_plain_step r Read && true) same ∙ ap (λ b. not b && true) (newest (was_again s.past) refl);
          asks = ap (λ (r : Session). is_some r.reread) same;
          ready = record {
            plain = refl;
            settled = λ again. ap (λ (r : Session). last_slash (seen_of (act_on r Read).past)) same ∙ again-no-slash asked p refl;
          };
        }
      where
        newest : (b : Bool) → was_again s.past ≡ b → was_again s.past ≡ false
        newest false h = h
        newest true h = let never : None ≡ Some p = sym (ready.settled h) ∙ e in cc

asked-back : (s : Session) → s.reread ≡ None → is_some (act_on s Reread).reread ≡ true → is_some (slash_answered (state_of s)) ≡ true
asked-back s plain = go (last_slash (seen_of s.past))
  where
    go : (o : Option BytePos) → is_some (reread_from s o).after.reread ≡ true → is_some o ≡ true
    go None h = let never : false ≡ true = sym (ap is_some plain) ∙ h in cc
    go (Some p) h = refl

-- The slashes of the tokens with these numbers

reread_steps : ℕ → List ℕ → List Step
reread_steps kept [] = []
reread_steps kept (n ∷ ns) = reads (n - kept) ++ (rereading ++ reread_steps n ns)

record Leads (s : Session) (steps : List Step) (t : Session) : Type 0 where
  there : act_all s steps ≡ t
  plain : each_step is_plain_step s steps ≡ true
  ready : Ready t

rereads-lead : (kept : ℕ) (s : Session) (ns : List ℕ) (t : Session) → Ready s → behind_rereads kept s ns ≡ Some t → Leads s (reread_steps kept ns) t
unfolding reread_steps
rereads-lead kept s [] t ready e =
    let same = some-same e in
    record { there = same; plain = refl; ready = subst Ready same ready }
  where
    some-same : {a b : Session} → Some a ≡ Some b → a ≡ b
    some-same h = cc
rereads-lead kept s (n ∷ ns) t ready e = go (is_some (slash_answered (state_of there))) refl e (rereads-lead n (act_all there rereading) ns t)
  where
    there : Session
    there = behind_reads (n - kept) s

    behind : List Step
    behind = reread_steps n ns

    go : (b : Bool) → is_some (slash_answered (state_of there)) ≡ b → (if b then behind_rereads n (act_all there rereading) ns else None) ≡ Some t
        → (Ready (act_all there rereading) → behind_rereads n (act_all there rereading) ns ≡ Some t → Leads (act_all there rereading) behind t) → Leads s (reads (n - kept) ++ (rereading ++ behind)) t
    go false told h more = absurd (none-some t h)
    go true told h more =
        let here = block there (reads-ready (n - kept) s ready) told in
        let on = more here.ready h in
        record {
          there = fold-append act_on s (reads (n - kept)) (rereading ++ behind) ∙ fold-append act_on there rereading behind ∙ on.there;
          plain = each-append is_plain_step s (reads (n - kept)) (rereading ++ behind) (reads-plain (n - kept) s ready.plain) (each-append is_plain_step there rereading behind here.plain on.plain);
          ready = on.ready;
        }

rereads-take-none : (kept : ℕ) (s : Session) (ns : List ℕ) → each_step takes_none s (reread_steps kept ns) ≡ true
unfolding reread_steps
rereads-take-none kept s [] = refl
rereads-take-none kept s (n ∷ ns) =
    let there : Session = behind_reads (n - kept) s in
    each-append takes_none s (reads (n - kept)) (rereading ++ reread_steps n ns) (reads-take-none (n - kept) s)
    (each-append takes_none there rereading (reread_steps n ns) refl (rereads-take-none n (act_all there rereading) ns))

rereading-counts : Counts rereading
unfolding count_step
rereading-counts c = ap (λ steps. record c { steps = steps }) (simp append_assoc)

rereads-count : (kept : ℕ) (ns : List ℕ) → Counts (reread_steps kept ns)
unfolding reread_steps
rereads-count kept [] = none-counts
rereads-count kept (n ∷ ns) =
    both-count (reads (n - kept)) (rereading ++ reread_steps n ns) (reads-count (n - kept)) (both-count rereading (reread_steps n ns) rereading-counts (rereads-count n ns))

-- Where two runs go through the same stages, the same tokens are slashes.

second_rereads : List Stage → Bool
second_rereads [] = false
second_rereads (x ∷ []) = false
second_rereads (x ∷ (y ∷ ys)) = y.rereads

reads-stages : (n : ℕ) (a b : Session) (more : List Step) → stages a (reads n ++ more) ≡ stages b (reads n ++ more) → stages (behind_reads n a) more ≡ stages (behind_reads n b) more
reads-stages zero a b more same = same
reads-stages (suc n) a b more same = reads-stages n (act_on a Read) (act_on b Read) more (ap (drop 1) same)

transported : (kept : ℕ) (ns : List ℕ) (a b t : Session) (more : List Step) → Ready a → Ready b → behind_rereads kept a ns ≡ Some t
    → stages a (reread_steps kept ns ++ more) ≡ stages b (reread_steps kept ns ++ more) → (u : Session) × (behind_rereads kept b ns ≡ Some u)
unfolding reread_steps second_rereads
transported kept [] a b t more ready_a ready_b e same = (b, refl)
transported kept (n ∷ ns) a b t more ready_a ready_b e same =
    go (is_some (slash_answered (state_of there))) refl e (transported n ns (act_all there rereading) (act_all here rereading) t more)
  where
    there : Session
    there = behind_reads (n - kept) a

    here : Session
    here = behind_reads (n - kept) b

    behind : List Step
    behind = reread_steps n ns

    go : (x : Bool) → is_some (slash_answered (state_of there)) ≡ x → (if x then behind_rereads n (act_all there rereading) ns else None) ≡ Some t
        → (Ready (act_all there rereading) → Ready (act_all here rereading) → behind_rereads n (act_all there rereading) ns ≡ Some t
        → stages (act_all there rereading) (behind ++ more) ≡ stages (act_all here rereading) (behind ++ more) → (u : Session) × (behind_rereads n (act_all here rereading) ns ≡ Some u))
        → (u : Session) × ((if is_some (slash_answered (state_of here)) then behind_rereads n (act_all here rereading) ns else None) ≡ Some u)
    go false told h on = absurd (none-some t h)
    go true told h on =
        let first = block there (reads-ready (n - kept) a ready_a) told in
        let at : stages there (rereading ++ (behind ++ more)) ≡ stages here (rereading ++ (behind ++ more)) =
        reads-stages (n - kept) a b (rereading ++ (behind ++ more)) (subst (λ steps. stages a steps ≡ stages b steps) (append_assoc (reads (n - kept)) (rereading ++ behind) more) same) in
        let asks : is_some (act_on here Reread).reread ≡ true = sym (ap second_rereads at) ∙ first.asks in
        let ready_here = reads-ready (n - kept) b ready_b in
        let told_here = asked-back here ready_here.plain asks in
        let second = block here ready_here told_here in
        let (u, opened) = on first.ready second.ready h (ap (drop 3) at) in
        (u, ap (λ x. if x then behind_rereads n (act_all here rereading) ns else None) told_here ∙ opened)

-- Characters

scalars-append : (cs ds : List ℕ) → scalars cs ≡ true → scalars ds ≡ true → scalars (cs ++ ds) ≡ true
scalars-append [] ds h more = more
scalars-append (c ∷ cs) ds h more = let parts = and_parts _ (scalars cs) h in ap (λ b. b && scalars (cs ++ ds)) parts.0 ∙ scalars-append cs ds parts.1 more

scalars-drop : (n : ℕ) (cs : List ℕ) → scalars cs ≡ true → scalars (drop n cs) ≡ true
scalars-drop zero cs h = h
scalars-drop (suc n) [] h = refl
scalars-drop (suc n) (c ∷ cs) h = scalars-drop n cs (and_parts _ (scalars cs) h).1

scalars-take : (n : ℕ) (cs : List ℕ) → scalars cs ≡ true → scalars (take n cs) ≡ true
scalars-take zero cs h = refl
scalars-take (suc n) [] h = refl
scalars-take (suc n) (c ∷ cs) h = let parts = and_parts _ (scalars cs) h in ap (λ b. b && scalars (take n cs)) parts.0 ∙ scalars-take n cs parts.1

joint-scalars : (b flag : Bool) → scalars (joint b flag) ≡ true
joint-scalars true flag = refl
joint-scalars false true = refl
joint-scalars false false = refl

slice-scalars : (text : Text) (i j : ℕ) → scalars text ≡ true → scalars (slice_range text i j) ≡ true
slice-scalars text i j h = scalars-take (j - i) (drop i text) (scalars-drop i text h)

own-scalars : (input : Cursor) (k : Kept) → scalars input.text ≡ true → scalars (own_in input k).text ≡ true
own-scalars input k h = slice-scalars input.text (count_within (k.span.lo.0 - input.start) input.text) (count_within (k.span.hi.0 - input.start) input.text) h

behind-scalars : (input : Cursor) (p : Own) (ks : List Kept) → scalars input.text ≡ true → scalars (canonical_behind p (map (own_in input) ks)) ≡ true
behind-scalars input p [] h = refl
behind-scalars input p (k ∷ ks) h =
    let u : Own = own_in input k in
    scalars-append (between p u) (u.text ++ canonical_behind u (map (own_in input) ks)) (joint-scalars (is_template_text p.kind || is_template_text u.kind) u.flag)
    (scalars-append u.text (canonical_behind u (map (own_in input) ks)) (own-scalars input k h) (behind-scalars input u ks h))

canonical-scalars : (input : Cursor) (ks : List Kept) → scalars input.text ≡ true → scalars (canonical_of (map (own_in input) ks)) ≡ true
canonical-scalars input [] h = refl
canonical-scalars input (k ∷ ks) h =
    let u : Own = own_in input k in
    scalars-append u.text (canonical_behind u (map (own_in input) ks)) (own-scalars input k h) (behind-scalars input u ks h)

-- The text and its canonical text

begin-ready : (o : Options) (bytes : List ℕ) → Ready (begin false o bytes)
begin-ready o bytes = record { plain = refl; settled = λ again. refl }

all_steps : Options → List ℕ → ℕ → List Step
all_steps o rereads n = SetCtx (context o) ∷ (reread_steps 0 rereads ++ reads n)

all-count : (o : Options) (rereads : List ℕ) (n : ℕ) → counting (all_steps o rereads n) ≡ all_steps o rereads n
unfolding all_steps count_step
all-count o rereads n =
    ap (λ c. c.steps) (both-count (reread_steps 0 rereads) (reads n) (rereads-count 0 rereads) (reads-count n) (count_step none_yet (SetCtx (context o))))

-- all steps lead from the beginning of a text to where so many reads lead behind the tokens that are read again
all-lead : (o : Options) (rereads bytes : List ℕ) (s : Session) (n : ℕ) → session_behind false o rereads bytes ≡ Some s → session (settings false o) (whole bytes) (all_steps o rereads n) ≡ behind_reads n s
unfolding all_steps
all-lead o rereads bytes s n opened =
    let led = rereads-lead 0 (begin false o bytes) rereads s (begin-ready o bytes) opened in
    ap (act_all (start_of (settings false o) (whole bytes))) (all-count o rereads n)
    ∙ fold-append act_on (begin false o bytes) (reread_steps 0 rereads) (reads n)
    ∙ ap (behind_reads n) led.there

same-ends : (s : Session) (n : ℕ) → s.reread ≡ None → enough s.input ≤ n → (ends_clean (behind_reads n s) ≡ ends_clean (read_out s)) × (kept_tokens (behind_reads n s) ≡ kept_tokens (read_out s))
same-ends s n plain far =
    let out = reads_out s n plain far in
    let first = reads_out s (enough s.input) plain (omega arith) in
    let far_out : Session = behind_reads n s in
    let none : List SpannedView → Bool = list_all (λ t. not (is_error (kind_of t.token))) in (
      ap (λ b. b && (none (kept_back far_out.past) && is_empty far_out.errors.recorded)) (out.ended ∙ sym first.ended)
          ∙ ap (λ ts. has_ended (read_out s).past && (none ts && is_empty far_out.errors.recorded)) out.same_tokens
          ∙ ap (λ (es : Errors). has_ended (read_out s).past && (none (kept_back (read_out s).past) && is_empty es.recorded)) out.same_errors,
      ap (λ ts. reverse (map kept_of ts)) out.same_tokens,
    )

all-clean : (o : Options) (rereads bytes : List ℕ) (s : Session) (n : ℕ) → session_behind false o rereads bytes ≡ Some s → enough s.input ≤ n → ends_clean (read_out s) ≡ true
    → is_clean (settings false o) (whole bytes) (all_steps o rereads n) ≡ true
unfolding all_steps
all-clean o rereads bytes s n opened far clean =
    let first : Session = begin false o bytes in
    let begun : Session = start_of (settings false o) (whole bytes) in
    let steps : List Step = all_steps o rereads n in
    let led = rereads-lead 0 first rereads s (begin-ready o bytes) opened in
    let plain : each_step is_plain_step begun (counting steps) ≡ true =
    ap (each_step is_plain_step begun) (all-count o rereads n)
    ∙ each-append is_plain_step first (reread_steps 0 rereads) (reads n) led.plain (subst (λ (x : Session). each_step is_plain_step x (reads n) ≡ true) (sym led.there) (reads-plain n s led.ready.plain)) in
    let none : each_step takes_none begun (counting steps) ≡ true =
    ap (each_step takes_none begun) (all-count o rereads n)
    ∙ each-append takes_none first (reread_steps 0 rereads) (reads n) (rereads-take-none 0 first rereads) (reads-take-none n (act_all first (reread_steps 0 rereads))) in
    let ends : ends_clean (session (settings false o) (whole bytes) steps) ≡ true = ap ends_clean (all-lead o rereads bytes s n opened) ∙ (same-ends s n led.ready.plain far).0 ∙ clean in
    ap (λ b. b && (each_step takes_none begun (counting steps) && ends_clean (session (settings false o) (whole bytes) steps))) plain
    ∙ ap (λ b. b && ends_clean (session (settings false o) (whole bytes) steps)) none
    ∙ ends

-- what is written of a text that is read so and is clean
record Written (o : Options) (rereads bytes out : List ℕ) (s : Session) : Type 0 where
  opened : session_behind false o rereads bytes ≡ Some s
  clean : ends_clean (read_out s) ≡ true
  is : canonical_bytes bytes (read_out s) ≡ out
  fits : nat_lt (length out) 4_294_967_296 ≡ true

written : (o : Options) (rereads bytes out : List ℕ) → canon_text o rereads bytes ≡ Ok out → (s : Session) × Written o rereads bytes out s
written o rereads bytes out told = go (session_behind false o rereads bytes) refl told
  where
    fitting : (s : Session) → session_behind false o rereads bytes ≡ Some s → ends_clean (read_out s) ≡ true → (text : List ℕ) → canonical_bytes bytes (read_out s) ≡ text
        → (b : Bool) → nat_lt (length text) 4_294_967_296 ≡ b → (if b then Ok text else Err TooLong) ≡ Ok out → (s : Session) × Written o rereads bytes out s
    fitting s opened clean text is true fits h =
        let same : text ≡ out = cc in
        (s, record { opened = opened; clean = clean; is = is ∙ same; fits = ap (λ t. nat_lt (length t) 4_294_967_296) (sym same) ∙ fits })
    fitting s opened clean text is false fits h = cc

    cleanly : (s : Session) → session_behind false o rereads bytes ≡ Some s → (b : Bool) → ends_clean (read_out s) ≡ b
        → (if b then unless_too_long (canonical_bytes bytes (read_out s)) else Err NotClean) ≡ Ok out → (s : Session) × Written o rereads bytes out s
    cleanly s opened true clean h =
        fitting s opened clean (canonical_bytes bytes (read_out s)) refl (nat_lt (length (canonical_bytes bytes (read_out s))) 4_294_967_296) refl h
    cleanly s opened false clean h = cc

    go : (found : Option Session) → session_behind false o rereads bytes ≡ found → canon_from bytes (unless_no_slash found) ≡ Ok out → (s : Session) × Written o rereads bytes out s
    go None opened h = cc
    go (Some s) opened h = cleanly s opened (ends_clean (read_out s)) refl h

pub canon_is_read : CanonIsRead
unfolding all_steps
canon_is_read o rereads bytes out utf8 told =
    let (s, wrote) = written o rereads bytes out told in
    let set : Settings = settings false o in
    let text : Text = canonical_of (owned bytes (read_out s)) in
    let led = rereads-lead 0 (begin false o bytes) rereads s (begin-ready o bytes) wrote.opened in
    let spelt : chars out ≡ text =
    ap chars (sym wrote.is) ∙ chars-encodes text (canonical-scalars (whole bytes) (kept_tokens (read_out s)) (scalars-chars bytes utf8)) in
    let own : (n : ℕ) → enough s.input ≤ n → canonical_text_of set 0 (chars bytes) (all_steps o rereads n) ≡ chars out =
    λ n far. ap (λ ks. canonical_of (map (own_in (whole bytes)) ks)) (ap kept_tokens (all-lead o rereads bytes s n wrote.opened) ∙ (same-ends s n led.ready.plain far).1) ∙ sym spelt in
    let few : ℕ = enough s.input in
    let there : enough s.input ≤ few = omega arith in
    let alike = (canonical_runs_alike set 0 (chars bytes) (all_steps o rereads few) (all-clean o rereads bytes s few wrote.opened there wrote.clean)).0 in
    let through : stages (start_of set (whole out)) (all_steps o rereads few) ≡ stages (start_of set (whole bytes)) (all_steps o rereads few) =
    subst (λ steps. stages (start_of set (whole out)) steps ≡ stages (start_of set (whole bytes)) steps) (all-count o rereads few)
    (subst (λ (t : Text). stages (start_of set (record { start = 0; text = t; at = 0 })) (counting (all_steps o rereads few)) ≡ stages (start_of set (whole bytes)) (counting (all_steps o rereads few))) (own few there) alike) in
    let behind : stages (begin false o out) (reread_steps 0 rereads ++ reads few) ≡ stages (begin false o bytes) (reread_steps 0 rereads ++ reads few) = ap (drop 1) through in
    let (u, opened) = transported 0 rereads (begin false o bytes) (begin false o out) s (reads few) (begin-ready o bytes) (begin-ready o out) wrote.opened (sym behind) in
    let led_again = rereads-lead 0 (begin false o out) rereads u (begin-ready o out) opened in
    let many : ℕ = enough s.input + enough u.input in
    let far : enough s.input ≤ many = omega arith in
    let far_again : enough u.input ≤ many = omega arith in
    let read = canonical_is_read set 0 (chars bytes) (all_steps o rereads many) (all-clean o rereads bytes s many wrote.opened far wrote.clean) in
    let clean : is_clean set (whole out) (all_steps o rereads many) ≡ true =
    ap (λ (t : Text). is_clean set (record { start = 0; text = t; at = 0 }) (all_steps o rereads many)) (sym (own many far)) ∙ read.clean in
    let ends : ends_clean (session set (whole out) (all_steps o rereads many)) ≡ true = (and_parts _ _ (and_parts _ _ clean).1).1 in
    let clean_again : ends_clean (read_out u) ≡ true =
    sym (ap ends_clean (all-lead o rereads out u many opened) ∙ (same-ends u many led_again.ready.plain far_again).0) ∙ ends in
    let kept_again = ap kept_tokens (all-lead o rereads out u many opened) ∙ (same-ends u many led_again.ready.plain far_again).1 in
    let kept = ap kept_tokens (all-lead o rereads bytes s many wrote.opened) ∙ (same-ends s many led.ready.plain far).1 in
    let agree : owned out (read_out u) ≡ owned bytes (read_out s) =
    ap (map (own_in (whole out))) (sym kept_again)
    ∙ ap (λ (t : Text). map (own_in (record { start = 0; text = t; at = 0 })) (kept_tokens (session set (record { start = 0; text = t; at = 0 }) (all_steps o rereads many)))) (sym (own many far))
    ∙ read.agrees
    ∙ ap (map (own_in (whole bytes))) kept in
    let same : canonical_bytes out (read_out u) ≡ out = ap (λ ks. encode_utf8_all (canonical_of ks)) agree ∙ wrote.is in
    record {
      before = s;
      opened = wrote.opened;
      behind = u;
      again = opened;
      agrees = agree;
      itself =
          ap (λ found. canon_from out (unless_no_slash found)) opened
          ∙ ap (λ b. if b then unless_too_long (canonical_bytes out (read_out u)) else Err NotClean) clean_again
          ∙ ap unless_too_long same
          ∙ ap (λ b. if b then Ok out else Err TooLong) wrote.fits;
    }

-- whatever was answered
pub told-again : {V : Type 0} (items_of : V → List ℕ) (o : Options) (rereads bytes : List ℕ) (result : Result V Fault) → IsUtf8 bytes
    → MatchResult result (λ out. canon_text o rereads bytes ≡ Ok (items_of out)) (λ fault. Fails (canon_text o rereads bytes) fault)
    → IfOk result (λ out. IsReadAgain o rereads bytes (items_of out))
told-again items_of o rereads bytes (Ok out) utf8 told = canon_is_read o rereads bytes (items_of out) utf8 told
told-again items_of o rereads bytes (Err fault) utf8 told = tt
