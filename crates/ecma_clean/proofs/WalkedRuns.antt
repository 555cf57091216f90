-- Clean runs are walked, from the start on.
use Rattle.std.proofs.Common.{◌≡◌, ◌∙◌, Bool, true, false, not, ◌&&◌, cond, List, [], ◌∷◌, Option, Some, None, drop, map, take, refl, sym, ap, subst}
use Rattle.std.proofs.lemmas.Bool.{and_parts}
use Rattle.std.specs.Prelude.{is_some}
use Rattle.std.specs.List.{list_all}
use Rattle.clean_runs.specs.Grammar.{Standing, answered, asked, behind, nothing}
use Rattle.clean_runs.specs.Moments.{moment}
use Rattle.clean_runs.specs.Walk.{Walked, walk, walk_again, walk_first, walk_found, with_moment}
use Rattle.ecma_place.specs.Cursor.{Cursor, HasPlace, place, rest}
use Rattle.ecma_place.specs.Text.{Text, place_of}
use Rattle.ecma_place.specs.declared.place.BytePos.{BytePos}
use Rattle.ecma_clean_reads.specs.Expressions.{opens_expression}
use Rattle.ecma_clean_reads.proofs.SlashLemmas.{at-there, place-there}
use Rattle.ecma_state.specs.Reading.{Reading, reading, reading_again}
use Rattle.ecma_state.specs.Run.{NoSlash, act, act_on, at_place, mode_of, reread_from, start_of}
use Rattle.ecma_state.specs.Session.{Session, has_ended, kept_back, kept_of, last_flag, seen_of, state_of}
use Rattle.ecma_state.specs.State.{is_error, is_slash, last_slash}
use Rattle.ecma_state.specs.TokenAt.{is_empty}
use Rattle.ecma_state.specs.Transition.{tpl_on_top}
use Rattle.ecma_state.specs.declared.settings.Settings.{Settings}
use Rattle.ecma_state.specs.declared.step.Step.{Step}
use Rattle.ecma_state.specs.declared.step.Step.TheVariants.{Read, SetCtx, SetExprAllowed, SetContexts, PopContext, Reread, Withdraw, Save, Back, TakeErrors}
use Rattle.ecma_token.specs.Kinds.{kind_of}
use Rattle.ecma_token.specs.View.{SpannedView, TokenView}
use Rattle.ecma_clean_reads.specs.BareReads.{Bare, bare_again}
use Rattle.ecma_clean_reads.specs.Bearing.{Bearing, bearing_of}
use Rattle.ecma_clean_reads.specs.Canonical.{Own, own_in}
use Rattle.ecma_state.specs.Clean.{is_plain_step, takes_none, was_again}
use Rattle.ecma_clean_reads.specs.Instance.{InContext, changed, lexer_grammar, steps_as}
use Rattle.ecma_clean_reads.specs.Stages.{read_in, stage_with}
use Rattle.ecma_clean_reads.proofs.ReadsAs.{ReadsAs, RereadsAs, again-reads, good_again, reading-reads, refused_again, spoilt_again}
use Rattle.ecma_clean_reads.proofs.Spoiling.{is_unrefused, unplain-step}
use Rattle.ecma_clean_reads.proofs.TokensRead.{Stands, stands-kind}
use Rattle.ecma_clean.proofs.WalkedEnd.{quiet-stage}
use Rattle.ecma_clean.proofs.WalkedTokens.{AllWalked, At, at-again, at-ended, at-flag, at-given, at-owned, at-poised, at-slash, at-stage, at-still, bearing-behind, read-stage, token-told, walked-read}
use Rattle.ecma_clean.proofs.Walking.{Acts, IsWalked, Sound, acts-again, after-is, after_read, is_plain_anywhere, read-records, read-refuses, still-sound, taken-sound, unclean, walked-context, walked-step, walked-token}

-- A read from a slash

-- the place of a token is one of the text
at-place : (c : Cursor) (s : Session) (t : SpannedView) (p : Bare) (here : Text) → s.input.start ≡ c.start → s.input.text ≡ c.text → Stands c t p here → HasPlace s.input t.span.lo.0
at-place c s t p here start text k =
    (k.there.at, ap (λ (q : BytePos). q.0) k.begins ∙ ap (λ n. place_of n (take k.there.at k.there.text)) (k.start ∙ sym start) ∙ ap (λ l. place_of s.input.start (take k.there.at l)) (k.text ∙ sym text))

walked-again : (c : Cursor) (s : Session) (t : SpannedView) (p : Bare) (w : Bool) (here : Text) (older : List SpannedView) (steps : List Step) (found : Option Bare) → At c s t asked p w here older → AllWalked c steps
    → RereadsAs s.context c (at_place t.span.lo s.input) (reading_again (last_flag s.past) (at_place t.span.lo s.input)) here found
    → IsWalked c s (Read ∷ steps) (map (λ u. own_in c (kept_of u)) older) (walk_again lexer_grammar (bearing_of s) (λ m u. walk lexer_grammar m u answered w here (steps_as steps)) true found)
walked-again c s t p w here older steps found k walks rereads = go found rereads
  where
    from : Cursor
    from = at_place t.span.lo s.input

    r : Reading
    r = reading_again (last_flag s.past) from

    acts : Acts s r
    acts = acts-again s t.span.lo k.reread.0

    fresh : k.again ≡ false
    fresh = k.fresh k.reread.1

    plain : is_plain_step s Read ≡ true
    plain =
        ap (λ b. not (is_some s.reread && b)) (at-again c s t asked p w here older k ∙ fresh) ∙ ap (λ o. not (is_some o && false)) k.reread.0

    there : place from ≡ t.span.lo.0
    there = place-there s.input t.span.lo (at-place c s t p here k.start k.text k.stands)

    go : (found : Option Bare) → RereadsAs s.context c from r here found
        → IsWalked c s (Read ∷ steps) (map (λ u. own_in c (kept_of u)) older) (walk_again lexer_grammar (bearing_of s) (λ m u. walk lexer_grammar m u answered w here (steps_as steps)) true found)
    go o (spoilt_again e) = unclean (read-records s r w steps acts k.sound plain e)
    go o (refused_again u found e) = unclean (read-refuses s r steps u acts plain found e)
    go o (good_again u q found none begins no_slash reads) =
        let after : Session = after_read s r true (Some u) [] in
        let same : act_on s Read ≡ after = ap (λ a. a.after) acts.acts ∙ after-is s r true (Some u) [] (ap is_some k.reread.0) found none in
        let kind : is_error (kind_of u.token) ≡ false = ap is_error (stands-kind c u q here reads.stands) ∙ reads.unrefused in
        let below : list_all is_unrefused older ≡ true = (and_parts (is_unrefused t) (list_all is_unrefused older) (sym (ap (list_all is_unrefused) k.kept) ∙ k.sound.unspoilt)).1 in
        let kept : kept_back after.past ≡ u ∷ older = ap (λ ts. u ∷ drop 1 ts) k.kept in
        let sound : Sound after w = record {
          recorded = k.sound.recorded;
          waits = k.sound.waits;
          obeys = k.sound.obeys;
          unspoilt = ap (list_all is_unrefused) kept ∙ ap (λ b. not b && list_all is_unrefused older) kind ∙ below;
        } in
        let lo : u.span.lo ≡ t.span.lo = begins ∙ ap (λ n. record { 0 = n }) there in
        let at : At c after u answered q w here older = record {
          start = reads.start;
          text = reads.text;
          stands = reads.stands;
          left = reads.left;
          again = true;
          past = s.past;
          newest = refl;
          kept = kept;
          reread = (k.reread.0 ∙ ap (λ q. Some q) (sym lo), refl, no_slash);
          fresh = λ h. let never : false ≡ true = sym no_slash ∙ h in cc;
          opens = λ h. let never : false ≡ true = sym no_slash ∙ h in cc;
          sound = sound;
        } in
        walked-step
        c
        s
        Read
        steps
        (map (λ u. own_in c (kept_of u)) older)
        (moment (bearing_of s) asked (Some q))
        _
        plain
        refl
        (read-stage s r asked w (Some u) (Some q) acts (ap is_some k.reread.0) k.sound found (token-told c u q here reads.stands))
        (subst (λ x. IsWalked c x steps (map (λ u. own_in c (kept_of u)) older) (walk lexer_grammar (lexer_grammar.after (bearing_of s) q) q answered w here (steps_as steps))) (sym same)
        (subst (λ b. IsWalked c after steps (map (λ u. own_in c (kept_of u)) older) (walk lexer_grammar b q answered w here (steps_as steps))) (bearing-behind c s r true u [] q here reads.stands)
        (walks after u answered q w here older at)))

-- a read behind a token, by what is read again
walked-next : (c : Cursor) (s : Session) (t : SpannedView) (a : Standing) (p : Bare) (w : Bool) (here : Text) (older : List SpannedView) (steps : List Step) → list_all is_plain_anywhere steps ≡ true → At c s t a p w here older → AllWalked c steps
    → IsWalked c s (Read ∷ steps) (map (λ u. own_in c (kept_of u)) older) (walk lexer_grammar (bearing_of s) p a w here (steps_as (Read ∷ steps)))
walked-next c s t nothing p w here older steps plain k walks =
    let found = lexer_grammar.scan (bearing_of s) (behind p here) in
    let reads = reading-reads s.opened (bearing_of s) c s.input (λ n. let never : false ≡ true = sym (at-given c s t nothing p w here older k) ∙ n in cc) k.start k.text in
    walked-token c s (Read ∷ steps) (map (λ u. own_in c (kept_of u)) older) (own_in c (kept_of t)) p _ k.stands.own
    (subst (λ before. IsWalked c s (Read ∷ steps) before (walk_found lexer_grammar (bearing_of s) w (steps_as steps) (λ m t w2 there. walk lexer_grammar m t nothing w2 there (steps_as steps)) found)) (at-owned c s t nothing p w here older k)
    (walked-read
    c
    s
    w
    steps
    found
    plain
    (record { start = k.start; text = k.text; reread = k.reread; outside = λ n. let never : false ≡ true = sym (at-given c s t nothing p w here older k) ∙ n in cc; sound = k.sound })
    walks
    (subst (λ l. ReadsAs s.context c (reading (mode_of (state_of s)) s.input) (lexer_grammar.scan (bearing_of s) l)) k.left reads)))
walked-next c s t asked p w here older steps plain k walks =
    let from : Cursor = at_place t.span.lo s.input in
    let stands = k.stands in
    let opens : opens_expression (stands.first ∷ stands.behind) ≡ true = ap opens_expression (sym stands.some) ∙ k.opens k.reread.1 in
    let left : rest from ≡ stands.first ∷ stands.behind = ap (λ p. rest (at_place p s.input)) stands.begins ∙ at-there stands.there s.input stands.first stands.behind (stands.start ∙ sym k.start) (stands.text ∙ sym k.text) (stands.follows ∙ stands.some) in
    let again : RereadsAs s.context c from (reading_again p.flag from) (stands.first ∷ stands.behind) (bare_again (bearing_of s) p (stands.first ∷ stands.behind)) = again-reads (bearing_of s) c from p stands.first stands.behind k.start k.text left opens in
    let here_is : RereadsAs s.context c from (reading_again p.flag from) here (bare_again (bearing_of s) p here) = subst (λ h. RereadsAs s.context c from (reading_again p.flag from) h (bare_again (bearing_of s) p h)) (sym stands.some) again in
    let flagged : RereadsAs s.context c from (reading_again (last_flag s.past) from) here (bare_again (bearing_of s) p here) = subst (λ b. RereadsAs s.context c from (reading_again b from) here (bare_again (bearing_of s) p here)) (sym (at-flag c s t asked p w here older k)) here_is in
    let slash : is_slash (kind_of p.kind) ≡ true = ap is_slash (sym (stands-kind c t p here stands)) ∙ k.reread.1 in
    subst
    (λ b. IsWalked c s (Read ∷ steps) (map (λ u. own_in c (kept_of u)) older) (walk_again lexer_grammar (bearing_of s) (λ m u. walk lexer_grammar m u answered w here (steps_as steps)) b (bare_again (bearing_of s) p here)))
    (sym slash)
    (walked-again c s t p w here older steps (bare_again (bearing_of s) p here) k walks flagged)
walked-next c s t answered p w here older steps plain k walks =
    unclean
    (unplain-step s Read steps (ap (λ o. not (is_some o && was_again s.past)) k.reread.0 ∙ ap not (at-again c s t answered p w here older k ∙ k.reread.1)))

-- a reread is asked for
walked-asked : (c : Cursor) (s : Session) (t : SpannedView) (a : Standing) (p : Bare) (w : Bool) (here : Text) (older : List SpannedView) (steps : List Step) → At c s t a p w here older → AllWalked c steps
    → IsWalked c s (Reread ∷ steps) (map (λ u. own_in c (kept_of u)) older) (walk lexer_grammar (bearing_of s) p a w here (steps_as (Reread ∷ steps)))
walked-asked c s t a p w here older steps k walks = go (is_slash (kind_of t.token)) refl
  where
    before : List Own
    before = map (λ u. own_in c (kept_of u)) older

    kind : is_slash (kind_of p.kind) ≡ is_slash (kind_of t.token)
    kind = ap is_slash (sym (stands-kind c t p here k.stands))

    slash : (b : Bool) → is_slash (kind_of t.token) ≡ b → act s Reread ≡ reread_from s (cond b (Some t.span.lo) None)
    slash b e = ap (reread_from s) (at-slash c s t a p w here older k ∙ ap (λ b. cond b (Some t.span.lo) None) e)

    go : (b : Bool) → is_slash (kind_of t.token) ≡ b → IsWalked c s (Reread ∷ steps) before (walk lexer_grammar (bearing_of s) p a w here (steps_as (Reread ∷ steps)))
    go true e =
        let after : Session = record s { reread = Some t.span.lo } in
        let at : At c after t asked p w here older = at-still c s after t a asked p w here older refl refl (still-sound s after w refl refl refl k.sound) k (refl, e) in
        subst
        (λ z. IsWalked c s (Reread ∷ steps) before (with_moment (moment (bearing_of s) a None) (walk lexer_grammar (bearing_of s) p (cond z asked a) w here (steps_as steps))))
        (sym (kind ∙ e))
        (walked-step
        c
        s
        Reread
        steps
        before
        (moment (bearing_of s) a None)
        _
        refl
        refl
        (ap (λ x. stage_with s (read_in x.answer)) (slash true e) ∙ at-stage c s t a p w here older k)
        (subst (λ x. IsWalked c x steps before (walk lexer_grammar (bearing_of s) p asked w here (steps_as steps))) (sym (ap (λ x. x.after) (slash true e))) (walks after t asked p w here older at)))
    go false e =
        subst
        (λ z. IsWalked c s (Reread ∷ steps) before (with_moment (moment (bearing_of s) a None) (walk lexer_grammar (bearing_of s) p (cond z asked a) w here (steps_as steps))))
        (sym (kind ∙ e))
        (walked-step
        c
        s
        Reread
        steps
        before
        (moment (bearing_of s) a None)
        _
        refl
        refl
        (ap (λ x. stage_with s (read_in x.answer)) (slash false e) ∙ at-stage c s t a p w here older k)
        (subst (λ x. IsWalked c x steps before (walk lexer_grammar (bearing_of s) p a w here (steps_as steps))) (sym (ap (λ x. x.after) (slash false e))) (walks s t a p w here older k)))

-- a step that leaves what was read as it is
walked-on : (c : Cursor) (s : Session) (t : SpannedView) (a b : Standing) (p : Bare) (w : Bool) (here : Text) (older : List SpannedView) (step : Step) (steps : List Step) → At c s t a p w here older
    → is_plain_step s step ≡ true → takes_none s step ≡ true → read_in (act s step).answer ≡ None → At c (act_on s step) t b p w here older → AllWalked c steps
    → IsWalked c s (step ∷ steps) (map (λ u. own_in c (kept_of u)) older) (with_moment (moment (bearing_of s) a None) (walk lexer_grammar (bearing_of (act_on s step)) p b w here (steps_as steps)))
walked-on c s t a b p w here older step steps k plain takes told at walks =
    walked-step c s step steps (map (λ u. own_in c (kept_of u)) older) (moment (bearing_of s) a None) _ plain takes (ap (stage_with s) told ∙ at-stage c s t a p w here older k) (walks (act_on s step) t b p w here older at)

-- behind a token
walked-at : (c : Cursor) (steps : List Step) → list_all is_plain_anywhere steps ≡ true → AllWalked c steps
walked-at c [] plain s t a p w here older k =
    unclean (ap (λ b. b && (list_all is_unrefused (kept_back s.past) && is_empty s.errors.recorded)) (at-ended c s t a p w here older k))
walked-at c (Read ∷ steps) plain s t a p w here older k = walked-next c s t a p w here older steps plain k (walked-at c steps plain)
walked-at c (SetCtx context ∷ steps) plain s t a p w here older k =
    let both = and_parts (not context.ignore_error) (list_all is_plain_anywhere steps) plain in
    let after : Session = act_on s (SetCtx context) in
    walked-context
    c
    s
    context
    w
    steps
    (map (λ u. own_in c (kept_of u)) older)
    (moment (bearing_of s) a None)
    (walk lexer_grammar (changed (InContext context) (bearing_of s)) p a w here (steps_as steps))
    both.0
    k.sound
    (at-poised c s t a p w here older k)
    (at-stage c s t a p w here older k)
    (λ sound. walked-at c steps both.1 after t a p w here older (at-still c s after t a a p w here older refl refl sound k k.reread))
walked-at c (SetExprAllowed allowed ∷ steps) plain s t a p w here older k =
    let after : Session = act_on s (SetExprAllowed allowed) in
    walked-on c s t a a p w here older (SetExprAllowed allowed) steps k refl refl refl (at-still c s after t a a p w here older refl refl (still-sound s after w refl refl refl k.sound) k k.reread) (walked-at c steps plain)
walked-at c (SetContexts contexts ∷ steps) plain s t a p w here older k = cc
walked-at c (PopContext ∷ steps) plain s t a p w here older k = cc
walked-at c (Reread ∷ steps) plain s t a p w here older k = walked-asked c s t a p w here older steps k (walked-at c steps plain)
walked-at c (Withdraw ∷ steps) plain s t a p w here older k =
    let after : Session = act_on s Withdraw in
    walked-on c s t a nothing p w here older Withdraw steps k refl refl refl (at-still c s after t a nothing p w here older refl refl (still-sound s after w refl refl refl k.sound) k refl) (walked-at c steps plain)
walked-at c (Save ∷ steps) plain s t a p w here older k = walked-on c s t a a p w here older Save steps k refl refl refl k (walked-at c steps plain)
walked-at c (Back n ∷ steps) plain s t a p w here older k = walked-on c s t a a p w here older (Back n) steps k refl refl refl k (walked-at c steps plain)
walked-at c (TakeErrors ∷ steps) plain s t a p w here older k =
    let after : Session = act_on s TakeErrors in
    walked-on c s t a a p w here older TakeErrors steps k refl (ap is_empty k.sound.recorded) refl (at-still c s after t a a p w here older refl refl (taken-sound s w k.sound) k k.reread) (walked-at c steps plain)

-- From the start

-- nothing was answered
pub record AtStart (c : Cursor) (s : Session) (w : Bool) : Type 0 where
  pub start : s.input.start ≡ c.start
  pub text : s.input.text ≡ c.text
  pub past : s.past ≡ []
  pub reread : s.reread ≡ None
  pub outside : tpl_on_top s.contexts ≡ false
  pub sound : Sound s w

start-slash : (c : Cursor) (s : Session) (w : Bool) → AtStart c s w → act s Reread ≡ record { after = s; answer = NoSlash }
start-slash c s w k = ap (λ past. reread_from s (last_slash (seen_of past))) k.past

start-on : (c : Cursor) (s : Session) (w : Bool) (step : Step) (steps : List Step) (o : Option (Walked Bearing TokenView)) → AtStart c s w → is_plain_step s step ≡ true → takes_none s step ≡ true → read_in (act s step).answer ≡ None
    → IsWalked c (act_on s step) steps [] o → IsWalked c s (step ∷ steps) [] (with_moment (moment (bearing_of s) nothing None) o)
start-on c s w step steps o k plain takes told more =
    walked-step c s step steps [] (moment (bearing_of s) nothing None) o plain takes (ap (stage_with s) told ∙ quiet-stage s w k.reread k.sound) more

pub walked-start : (c : Cursor) (s : Session) (w : Bool) (steps : List Step) → list_all is_plain_anywhere steps ≡ true → AtStart c s w → IsWalked c s steps [] (walk_first lexer_grammar (bearing_of s) w (rest s.input) (steps_as steps))
walked-start c s w [] plain k = unclean (ap (λ past. has_ended past && (list_all is_unrefused (kept_back past) && is_empty s.errors.recorded)) k.past)
walked-start c s w (Read ∷ steps) plain k =
    let reads = reading-reads s.opened (bearing_of s) c s.input (λ n. k.outside) k.start k.text in
    subst
    (λ before. IsWalked c s (Read ∷ steps) before (walk_first lexer_grammar (bearing_of s) w (rest s.input) (steps_as (Read ∷ steps))))
    (ap (λ past. map (λ t. own_in c (kept_of t)) (kept_back past)) k.past)
    (walked-read
    c
    s
    w
    steps
    (lexer_grammar.scan (bearing_of s) (rest s.input))
    plain
    (record { start = k.start; text = k.text; reread = k.reread; outside = λ n. k.outside; sound = k.sound })
    (walked-at c steps plain)
    reads)
walked-start c s w (SetCtx context ∷ steps) plain k =
    let both = and_parts (not context.ignore_error) (list_all is_plain_anywhere steps) plain in
    let after : Session = act_on s (SetCtx context) in
    walked-context
    c
    s
    context
    w
    steps
    []
    (moment (bearing_of s) nothing None)
    (walk_first lexer_grammar (changed (InContext context) (bearing_of s)) w (rest s.input) (steps_as steps))
    both.0
    k.sound
    (λ p f h. let never : None ≡ Some p = sym k.reread ∙ f in cc)
    (quiet-stage s w k.reread k.sound)
    (λ sound. walked-start c after w steps both.1 (record { start = k.start; text = k.text; past = k.past; reread = k.reread; outside = k.outside; sound = sound }))
walked-start c s w (SetExprAllowed allowed ∷ steps) plain k =
    let after : Session = act_on s (SetExprAllowed allowed) in
    start-on c s w (SetExprAllowed allowed) steps _ k refl refl refl
    (walked-start c after w steps plain (record { start = k.start; text = k.text; past = k.past; reread = k.reread; outside = k.outside; sound = still-sound s after w refl refl refl k.sound }))
walked-start c s w (SetContexts contexts ∷ steps) plain k = cc
walked-start c s w (PopContext ∷ steps) plain k = cc
walked-start c s w (Reread ∷ steps) plain k =
    let same = start-slash c s w k in
    start-on c s w Reread steps _ k refl refl (ap (λ a. read_in a.answer) same)
    (subst (λ t. IsWalked c t steps [] (walk_first lexer_grammar (bearing_of s) w (rest s.input) (steps_as steps))) (sym (ap (λ a. a.after) same)) (walked-start c s w steps plain k))
walked-start c s w (Withdraw ∷ steps) plain k =
    let after : Session = act_on s Withdraw in
    start-on c s w Withdraw steps _ k refl refl refl
    (walked-start c after w steps plain (record { start = k.start; text = k.text; past = k.past; reread = refl; outside = k.outside; sound = still-sound s after w refl refl refl k.sound }))
walked-start c s w (Save ∷ steps) plain k = start-on c s w Save steps _ k refl refl refl (walked-start c s w steps plain k)
walked-start c s w (Back n ∷ steps) plain k = start-on c s w (Back n) steps _ k refl refl refl (walked-start c s w steps plain k)
walked-start c s w (TakeErrors ∷ steps) plain k =
    let after : Session = act_on s TakeErrors in
    start-on c s w TakeErrors steps _ k refl (ap is_empty k.sound.recorded) refl
    (walked-start c after w steps plain (record { start = k.start; text = k.text; past = k.past; reread = k.reread; outside = k.outside; sound = taken-sound s w k.sound }))

-- a run begins so
pub begins-start : (settings : Settings) (input : Cursor) → AtStart input (start_of settings input) false
begins-start settings input = record {
  start = refl;
  text = refl;
  past = refl;
  reread = refl;
  outside = refl;
  sound = record { recorded = refl; waits = refl; obeys = refl; unspoilt = refl };
}
