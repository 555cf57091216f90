-- Behind a token a clean run goes on as the walk says.
use Rattle.std.proofs.Common.{◌≡◌, ◌∙◌, Bool, true, false, not, ◌&&◌, ◌||◌, cond, List, ◌∷◌, Option, Some, None, drop, length, map, refl, sym, ap, subst}
use Rattle.std.specs.Prelude.{is_some}
use Rattle.std.specs.List.{list_all}
use Rattle.clean_runs.specs.Grammar.{Found, Standing, answered, asked, nothing}
use Rattle.clean_runs.specs.Moments.{moment}
use Rattle.clean_runs.specs.Walk.{calm_walk, walk, walk_found}
use Rattle.ecma_place.specs.Cursor.{Cursor, rest}
use Rattle.ecma_place.specs.Text.{Text}
use Rattle.ecma_place.specs.declared.place.BytePos.{BytePos}
use Rattle.ecma_clean_reads.specs.Expressions.{opens_expression}
use Rattle.ecma_clean_reads.specs.Found.{Fault}
use Rattle.ecma_clean_reads.proofs.SlashLemmas.{at-there, begins-reading}
use Rattle.ecma_state.specs.Reading.{Reading, reading}
use Rattle.ecma_state.specs.Run.{act, act_on, acted_on, at_place, given_in, mode_of}
use Rattle.ecma_state.specs.Session.{Past, Session, has_ended, kept_back, kept_of, last_flag, seen_of, state_of}
use Rattle.ecma_state.specs.State.{is_error, is_slash, last_slash}
use Rattle.ecma_state.specs.TokenAt.{is_empty}
use Rattle.ecma_state.specs.Transition.{tpl_on_top}
use Rattle.ecma_state.specs.declared.step.Step.{Step}
use Rattle.ecma_state.specs.declared.step.Step.TheVariants.{Read}
use Rattle.ecma_token.specs.Kinds.{kind_of}
use Rattle.ecma_token.specs.View.{ErrorView, SpannedView, TokenView}
use Rattle.ecma_clean_reads.specs.BareReads.{Bare, any_recorded}
use Rattle.ecma_clean_reads.specs.Bearing.{bearing_of, behind_kind}
use Rattle.ecma_clean_reads.specs.Canonical.{own_in}
use Rattle.ecma_state.specs.Clean.{is_plain_step, was_again}
use Rattle.ecma_clean_reads.specs.Instance.{lexer_grammar, steps_as}
use Rattle.ecma_clean_reads.specs.Stages.{Stage, placeless, read_in, stage_with, token_from}
use Rattle.ecma_clean_reads.proofs.Disposed.{none-recorded, waits-so}
use Rattle.ecma_clean_reads.proofs.ReadsAs.{ReadsAs, at_end, good, refused, spoilt}
use Rattle.ecma_clean_reads.proofs.Spoiling.{IsPoised, is_unrefused}
use Rattle.ecma_clean_reads.proofs.TokensRead.{Stands, stands-flag, stands-kind, token-back}
use Rattle.ecma_clean.proofs.WalkedEnd.{AtTheEnd, walked-end}
use Rattle.ecma_clean.proofs.Walking.{Acts, IsWalked, Sound, acts-plain, after-is, after_read, is_plain_anywhere, owned_back, read-records, read-refuses, stage_of, stands_again, told, unclean, walked-step}

-- what a standing reread says of the last answer
abbrev pub StandsFor : Standing → Bool → Option BytePos → SpannedView → Type 0
StandsFor nothing again reread t = reread ≡ None
StandsFor asked again reread t = (reread ≡ Some t.span.lo) × (is_slash (kind_of t.token) ≡ true)
StandsFor answered again reread t = (reread ≡ Some t.span.lo) × (again ≡ true) × (is_slash (kind_of t.token) ≡ false)

-- a clean session whose last answer is this token, read again or not, and `here` is what follows the token's first place
pub record At (c : Cursor) (s : Session) (t : SpannedView) (a : Standing) (p : Bare) (w : Bool) (here : Text) (older : List SpannedView) : Type 0 where
  pub start : s.input.start ≡ c.start
  pub text : s.input.text ≡ c.text
  pub stands : Stands c t p here
  pub left : rest s.input ≡ drop (length p.bytes) here
  pub again : Bool
  pub past : Past
  pub newest : s.past ≡ given_in again false (Some t) ∷ past
  pub kept : kept_back s.past ≡ t ∷ older
  pub reread : StandsFor a again s.reread t
  -- a slash was not read again, and begins with one
  pub fresh : is_slash (kind_of t.token) ≡ true → again ≡ false
  pub opens : is_slash (kind_of t.token) ≡ true → opens_expression here ≡ true
  pub sound : Sound s w

-- what is walked behind each token
abbrev pub AllWalked : Cursor → List Step → Type 0
AllWalked c steps =
    (s : Session) (t : SpannedView) (a : Standing) (p : Bare) (w : Bool) (here : Text) (older : List SpannedView) → At c s t a p w here older
    → IsWalked c s steps (map (λ u. own_in c (kept_of u)) older) (walk lexer_grammar (bearing_of s) p a w here (steps_as steps))

-- A read where none is read again

-- what a read needs of a session
pub record Reading' (c : Cursor) (s : Session) (w : Bool) : Type 0 where
  pub start : s.input.start ≡ c.start
  pub text : s.input.text ≡ c.text
  pub reread : s.reread ≡ None
  pub outside : (bearing_of s).shebang_allowed ≡ true → tpl_on_top s.contexts ≡ false
  pub sound : Sound s w

read-plain : (s : Session) → s.reread ≡ None → is_plain_step s Read ≡ true
read-plain s e = ap (λ r. not (is_some r && was_again s.past)) e

-- the bearing behind a token
pub bearing-behind : (c : Cursor) (s : Session) (r : Reading) (again : Bool) (t : SpannedView) (faults : List Fault) (p : Bare) (here : Text) → Stands c t p here
    → bearing_of (after_read s r again (Some t) faults) ≡ lexer_grammar.after (bearing_of s) p
bearing-behind c s r true t faults p here k =
    ap (λ kind. behind_kind (bearing_of s) kind t.had_line_break) (stands-kind c t p here k) ∙ ap (behind_kind (bearing_of s) (kind_of p.kind)) (stands-flag c t p here k)
bearing-behind c s r false t faults p here k =
    ap (λ kind. behind_kind (bearing_of s) kind t.had_line_break) (stands-kind c t p here k) ∙ ap (behind_kind (bearing_of s) (kind_of p.kind)) (stands-flag c t p here k)

-- the token that is told
pub token-told : (c : Cursor) (t : SpannedView) (p : Bare) (here : Text) → Stands c t p here → Some (placeless t) ≡ told (Some p)
token-told c t p here k =
    ap (λ u. found u t.had_line_break) (ap (token_from t.span.lo.0) k.token ∙ token-back t.span.lo.0 p.kind) ∙ ap (found p.kind) (stands-flag c t p here k)
  where
    found : TokenView → Bool → Option (TokenView × Bool)
    found u flag = Some (u, flag)

-- what stands before a read
pub read-stage : (s : Session) (r : Reading) (a : Standing) (w : Bool) (found : Option SpannedView) (answer : Option Bare) → Acts s r → is_some s.reread ≡ stands_again a → Sound s w → r.found ≡ found
    → read_in (acted_on s (record r { found = found })).answer ≡ told answer → stage_with s (read_in (act s Read).answer) ≡ stage_of (moment (bearing_of s) a answer)
read-stage s r a w found answer acts e k f same =
    ap (stage_with s) (ap (λ x. read_in x.answer) acts.acts ∙ ap (λ o. read_in (acted_on s (record r { found = o })).answer) f ∙ same)
    ∙ ap (λ b. stage b s.errors.recorded) e
    ∙ ap (stage (stands_again a)) k.recorded
  where
    stage : Bool → List ErrorView → Stage
    stage rereads recorded = record { bearing = bearing_of s; rereads = rereads; recorded = recorded; token = told answer }

-- soundness behind a read whose faults all wait
sound-behind : (s : Session) (r : Reading) (w v : Bool) (again : Bool) (found : Option SpannedView) → Sound s w → any_recorded s.context r.faults ≡ false → v ≡ not (is_empty r.faults)
    → list_all is_unrefused (kept_back (given_in again r.end_flag found ∷ s.past)) ≡ true → Sound (after_read s r again found r.faults) (w || v)
sound-behind s r w v again found k e is unspoilt = record {
  recorded = none-recorded s.context s.errors r.faults k.obeys e ∙ k.recorded;
  waits = waits-so s.context s.errors r.faults w v k.obeys e k.waits is;
  obeys = k.obeys;
  unspoilt = unspoilt;
}

-- a read, by what the grammar finds
pub walked-read : (c : Cursor) (s : Session) (w : Bool) (steps : List Step) (f : Found TokenView) → list_all is_plain_anywhere steps ≡ true → Reading' c s w → AllWalked c steps → ReadsAs s.context c (reading (mode_of (state_of s)) s.input) f
    → IsWalked c s (Read ∷ steps) (owned_back c s) (walk_found lexer_grammar (bearing_of s) w (steps_as steps) (λ m t w2 there. walk lexer_grammar m t nothing w2 there (steps_as steps)) f)
walked-read c s w steps f plain k walks (spoilt e) =
    unclean (read-records s (reading (mode_of (state_of s)) s.input) w steps (acts-plain s k.reread) k.sound (read-plain s k.reread) e)
walked-read c s w steps f plain k walks (refused t found e) =
    unclean (read-refuses s (reading (mode_of (state_of s)) s.input) steps t (acts-plain s k.reread) (read-plain s k.reread) found e)
walked-read c s w steps f plain k walks (at_end v found e is left) =
    walked-step
    c
    s
    Read
    steps
    (owned_back c s)
    (moment (bearing_of s) nothing None)
    (calm_walk lexer_grammar (w || v) (bearing_of s) (steps_as steps))
    (read-plain s k.reread)
    refl
    (read-stage s r nothing w None None acts (ap is_some k.reread) k.sound found refl)
    (subst (λ t. IsWalked c t steps (owned_back c s) (calm_walk lexer_grammar (w || v) (bearing_of s) (steps_as steps))) (sym same) (walked-end c after (w || v) steps plain end))
  where
    r : Reading
    r = reading (mode_of (state_of s)) s.input

    acts : Acts s r
    acts = acts-plain s k.reread

    after : Session
    after = after_read s r false None r.faults

    same : act_on s Read ≡ after
    same = ap (λ a. a.after) acts.acts ∙ after-is s r false None r.faults (ap is_some k.reread) found refl

    end : AtTheEnd after (w || v)
    end = record { left = left; reread = k.reread; ended = refl; sound = sound-behind s r w v false None k.sound e is k.sound.unspoilt }
walked-read c s w steps f plain k walks (good t p here v found e is reads) =
    walked-step
    c
    s
    Read
    steps
    (owned_back c s)
    (moment (bearing_of s) nothing (Some p))
    _
    (read-plain s k.reread)
    refl
    (read-stage s r nothing w (Some t) (Some p) acts (ap is_some k.reread) k.sound found (token-told c t p here reads.stands))
    (subst (λ u. IsWalked c u steps (owned_back c s) (walk lexer_grammar (lexer_grammar.after (bearing_of s) p) p nothing (w || v) here (steps_as steps))) (sym same)
    (subst (λ b. IsWalked c after steps (owned_back c s) (walk lexer_grammar b p nothing (w || v) here (steps_as steps))) (bearing-behind c s r false t r.faults p here reads.stands)
    (walks after t nothing p (w || v) here (kept_back s.past) at)))
  where
    r : Reading
    r = reading (mode_of (state_of s)) s.input

    acts : Acts s r
    acts = acts-plain s k.reread

    after : Session
    after = after_read s r false (Some t) r.faults

    same : act_on s Read ≡ after
    same = ap (λ a. a.after) acts.acts ∙ after-is s r false (Some t) r.faults (ap is_some k.reread) found refl

    unrefused : is_unrefused t ≡ true
    unrefused = ap (λ kind. not (is_error kind)) (stands-kind c t p here reads.stands) ∙ ap not reads.unrefused

    opens : is_slash (kind_of t.token) ≡ true → opens_expression here ≡ true
    opens h =
        let stands = reads.stands in
        let begins = (begins-reading (mode_of (state_of s)) s.input t found).opens h in
        let there = at-there stands.there s.input stands.first stands.behind (stands.start ∙ sym k.start) (stands.text ∙ sym k.text) (stands.follows ∙ stands.some) in
        ap opens_expression (stands.some ∙ sym there ∙ ap (λ p. rest (at_place p s.input)) (sym stands.begins)) ∙ begins

    at : At c after t nothing p (w || v) here (kept_back s.past)
    at = record {
      start = reads.start;
      text = reads.text;
      stands = reads.stands;
      left = reads.left;
      again = false;
      past = s.past;
      newest = refl;
      kept = refl;
      reread = k.reread;
      fresh = λ h. refl;
      opens = opens;
      sound = sound-behind s r w v false (Some t) k.sound e is (ap (λ b. b && list_all is_unrefused (kept_back s.past)) unrefused ∙ k.sound.unspoilt);
    }

-- Behind a token

pub at-ended : (c : Cursor) (s : Session) (t : SpannedView) (a : Standing) (p : Bare) (w : Bool) (here : Text) (older : List SpannedView) → At c s t a p w here older → has_ended s.past ≡ false
at-ended c s t a p w here older k = ap has_ended k.newest ∙ go k.again
  where
    go : (again : Bool) → has_ended (given_in again false (Some t) ∷ k.past) ≡ false
    go true = refl
    go false = refl

pub at-given : (c : Cursor) (s : Session) (t : SpannedView) (a : Standing) (p : Bare) (w : Bool) (here : Text) (older : List SpannedView) → At c s t a p w here older → (bearing_of s).shebang_allowed ≡ false
at-given c s t a p w here older k = ap given k.newest ∙ go k.again
  where
    given : Past → Bool
    given past = (bearing_of (record s { past = past })).shebang_allowed

    go : (again : Bool) → given (given_in again false (Some t) ∷ k.past) ≡ false
    go true = refl
    go false = refl

pub at-slash : (c : Cursor) (s : Session) (t : SpannedView) (a : Standing) (p : Bare) (w : Bool) (here : Text) (older : List SpannedView) → At c s t a p w here older
    → last_slash (seen_of s.past) ≡ cond (is_slash (kind_of t.token)) (Some t.span.lo) None
at-slash c s t a p w here older k = ap (λ past. last_slash (seen_of past)) k.newest ∙ go k.again
  where
    go : (again : Bool) → last_slash (seen_of (given_in again false (Some t) ∷ k.past)) ≡ cond (is_slash (kind_of t.token)) (Some t.span.lo) None
    go true = refl
    go false = refl

pub at-flag : (c : Cursor) (s : Session) (t : SpannedView) (a : Standing) (p : Bare) (w : Bool) (here : Text) (older : List SpannedView) → At c s t a p w here older → last_flag s.past ≡ p.flag
at-flag c s t a p w here older k = ap last_flag k.newest ∙ go k.again ∙ stands-flag c t p here k.stands
  where
    go : (again : Bool) → last_flag (given_in again false (Some t) ∷ k.past) ≡ t.had_line_break
    go true = refl
    go false = refl

pub at-again : (c : Cursor) (s : Session) (t : SpannedView) (a : Standing) (p : Bare) (w : Bool) (here : Text) (older : List SpannedView) → (k : At c s t a p w here older) → was_again s.past ≡ k.again
at-again c s t a p w here older k = ap was_again k.newest ∙ go k.again
  where
    go : (again : Bool) → was_again (given_in again false (Some t) ∷ k.past) ≡ again
    go true = refl
    go false = refl

pub at-rereads : (a : Standing) (again : Bool) (reread : Option BytePos) (t : SpannedView) → StandsFor a again reread t → is_some reread ≡ stands_again a
at-rereads nothing again reread t h = ap is_some h
at-rereads asked again reread t h = ap is_some h.0
at-rereads answered again reread t h = ap is_some h.0

-- a reread that stands and was not answered yet was asked for at a slash
pub at-poised : (c : Cursor) (s : Session) (t : SpannedView) (a : Standing) (p : Bare) (w : Bool) (here : Text) (older : List SpannedView) → At c s t a p w here older → IsPoised s
at-poised c s t nothing p w here older k q f h = let never : None ≡ Some q = sym k.reread ∙ f in cc
at-poised c s t asked p w here older k q f h =
    let fresh = k.fresh k.reread.1 in
    record { slash = t; before = k.past; newest = k.newest ∙ ap (λ b. given_in b false (Some t) ∷ k.past) fresh; is = k.reread.1 }
at-poised c s t answered p w here older k q f h =
    let never : true ≡ false = sym (at-again c s t answered p w here older k ∙ k.reread.1) ∙ h in cc

-- the tokens that were kept before stay
pub at-owned : (c : Cursor) (s : Session) (t : SpannedView) (a : Standing) (p : Bare) (w : Bool) (here : Text) (older : List SpannedView) → At c s t a p w here older
    → owned_back c s ≡ own_in c (kept_of t) ∷ map (λ u. own_in c (kept_of u)) older
at-owned c s t a p w here older k = ap (map (λ u. own_in c (kept_of u))) k.kept

-- a step that reads nothing
pub at-stage : (c : Cursor) (s : Session) (t : SpannedView) (a : Standing) (p : Bare) (w : Bool) (here : Text) (older : List SpannedView) → At c s t a p w here older
    → stage_with s None ≡ stage_of (moment (bearing_of s) a None)
at-stage c s t a p w here older k =
    ap (λ b. stage b s.errors.recorded) (at-rereads a k.again s.reread t k.reread) ∙ ap (stage (stands_again a)) k.sound.recorded
  where
    stage : Bool → List ErrorView → Stage
    stage rereads recorded = record { bearing = bearing_of s; rereads = rereads; recorded = recorded; token = None }

-- the same token in a session that reads and answers as before
pub at-still : (c : Cursor) (s s2 : Session) (t : SpannedView) (a b : Standing) (p : Bare) (w : Bool) (here : Text) (older : List SpannedView) → s2.input ≡ s.input → s2.past ≡ s.past → Sound s2 w
    → (k : At c s t a p w here older) → StandsFor b k.again s2.reread t → At c s2 t b p w here older
at-still c s s2 t a b p w here older input past sound k reread = record {
  start = ap (λ i. i.start) input ∙ k.start;
  text = ap (λ i. i.text) input ∙ k.text;
  stands = k.stands;
  left = ap rest input ∙ k.left;
  again = k.again;
  past = k.past;
  newest = past ∙ k.newest;
  kept = ap kept_back past ∙ k.kept;
  reread = reread;
  fresh = k.fresh;
  opens = k.opens;
  sound = sound;
}
