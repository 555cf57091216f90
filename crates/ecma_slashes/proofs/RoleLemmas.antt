-- What a rule knows of a session behind one token more.
use Rattle.std.proofs.Common.{◌≡◌, ◌∙◌, ℕ, suc, ◌+◌, ◌-◌, Bool, true, false, List, [], ◌∷◌, ◌++◌, append-nil, length, map, Option, Some, None, drop, drop-drop, reverse, refl, sym, ap, arith}
use Rattle.std.specs.Prelude.{◌==◌, Result, Ok, Err, OnErr, OnOk, fold, is_some, option_map}
use Rattle.std.proofs.lemmas.Bool.{eqb-true}
use Rattle.std.proofs.lemmas.Grind.{reverse_onto}
use Rattle.std.proofs.lemmas.List.{length-append, map-append}
use Rattle.std.proofs.lemmas.List.Sums.{fold-append}
use Rattle.ecma_place.specs.declared.place.BytePos.{BytePos}
use Rattle.ecma_syntax.specs.Questions.{typescript}
use Rattle.ecma_syntax.specs.declared.context.Context.{Context}
use Rattle.ecma_token.specs.View.{SpannedView}
use Rattle.ecma_role_table.specs.declared.part.Part.{Part}
use Rattle.ecma_roles.specs.Track.{TrackView, first, stepped}
use Rattle.ecma_state.specs.Run.{act_all, act_on, given_in, reading_of, reread_from}
use Rattle.ecma_state.specs.Session.{Past, Session, kept_back, seen_of, state_of}
use Rattle.ecma_state.specs.State.{last_slash}
use Rattle.ecma_state.specs.declared.settings.Settings.{Settings}
use Rattle.ecma_state.specs.declared.step.Step.TheVariants.{Read}
use Rattle.ecma_slashes.specs.Alone.{alone}
use Rattle.ecma_slashes.specs.Known.{Known, awaiting, awaiting_behind, awaiting_from, behind_number, distance, expected_by, known_behind, leading, nothing, times_again, track_behind}
use Rattle.ecma_slashes.specs.Rereads.{Decides, NamesAs, SlashRule, asks_nothing, at_places, behind_by, behind_last, by_flag, by_role, expects_next, found_by, known_by, known_to, known_with, last_read, meets_expression, names, names_answer, numbered, read_steps, rule_of}
use Rattle.ecma_slashes.specs.declared.decider.Decider.{Decider}
use Rattle.ecma_slashes.specs.Roles.{part_in, tokens_found, tokens_kept, track_of}
use Rattle.ecma_slashes.proofs.TokenLemmas.{met-slash}

-- What is kept

abbrev pub kept_with : Option SpannedView → List SpannedView → List SpannedView
kept_with None ts = ts
kept_with (Some t) ts = t ∷ ts

-- a read that reads nothing again keeps what it finds
keeps-first : (again flag : Bool) (found : Option SpannedView) (past : Past) → again ≡ false → kept_back (given_in again flag found ∷ past) ≡ kept_with found (kept_back past)
keeps-first again flag None past e = refl
keeps-first true flag (Some t) past e = cc
keeps-first false flag (Some t) past e = refl

plain-none : (o : Option BytePos) → o ≡ None → is_some o ≡ false
plain-none o e = ap is_some e

-- behind a slash, that one stood there is forgotten
keeps-slash : (again flag : Bool) (found : Option SpannedView) (past : Past) (p : BytePos) → again ≡ false → last_slash (seen_of (given_in again flag found ∷ past)) ≡ Some p
    → drop 1 (kept_back (given_in again flag found ∷ past)) ≡ kept_back past
keeps-slash again flag None past p e slash = cc
keeps-slash true flag (Some t) past p e slash = cc
keeps-slash false flag (Some t) past p e slash = refl

pub kept-by : (rule : SlashRule) (s : Session) → s.reread ≡ None → kept_back (behind_by rule s).past ≡ kept_with (found_by rule s) (kept_back s.past)
kept-by rule s plain = go (meets_expression rule s) refl
  where
    once : Session
    once = act_on s Read

    twice : (o : Option BytePos) → last_slash (seen_of once.past) ≡ o → is_some o ≡ true
        → kept_back (act_on (reread_from once o).after Read).past ≡ kept_with (reading_of (state_of (reread_from once o).after)).found (kept_back s.past)
    twice None e h = cc
    twice (Some p) e h =
        let before = keeps-slash (is_some s.reread) (reading_of (state_of s)).end_flag (reading_of (state_of s)).found s.past p (plain-none s.reread plain) e in
        ap (kept_with (reading_of (state_of (record once { reread = Some p }))).found) before

    go : (b : Bool) → meets_expression rule s ≡ b → kept_back (act_all s (read_steps b)).past ≡ kept_with (reading_of (state_of (last_read b s))).found (kept_back s.past)
    go false e = keeps-first (is_some s.reread) (reading_of (state_of s)).end_flag (reading_of (state_of s)).found s.past (plain-none s.reread plain)
    go true e = twice (last_slash (seen_of once.past)) refl (met-slash rule s e)

tokens-with : (found : Option SpannedView) (ts : List SpannedView) → reverse (kept_with found ts) ≡ reverse ts ++ tokens_found found
tokens-with None ts = sym (append-nil (reverse ts))
tokens-with (Some t) ts = reverse_onto ts t []

pub tokens-behind : (rule : SlashRule) (s : Session) → s.reread ≡ None → tokens_kept (behind_by rule s) ≡ tokens_kept s ++ tokens_found (found_by rule s)
tokens-behind rule s plain = ap reverse (kept-by rule s plain) ∙ tokens-with (found_by rule s) (kept_back s.past)

-- What no read changes

pub settings-behind : (rule : SlashRule) (s : Session) → (behind_by rule s).settings ≡ s.settings
settings-behind rule s = go (meets_expression rule s)
  where
    twice : (o : Option BytePos) → (act_on (reread_from (act_on s Read) o).after Read).settings ≡ s.settings
    twice None = refl
    twice (Some p) = refl

    go : (b : Bool) → (act_all s (read_steps b)).settings ≡ s.settings
    go false = refl
    go true = twice (last_slash (seen_of (act_on s Read).past))

pub context-behind : (rule : SlashRule) (s : Session) → (behind_by rule s).context ≡ s.context
context-behind rule s = go (meets_expression rule s)
  where
    twice : (o : Option BytePos) → (act_on (reread_from (act_on s Read) o).after Read).context ≡ s.context
    twice None = refl
    twice (Some p) = refl

    go : (b : Bool) → (act_all s (read_steps b)).context ≡ s.context
    go false = refl
    go true = twice (last_slash (seen_of (act_on s Read).past))

-- The track

abbrev tracked : Settings → Context → List SpannedView → TrackView
tracked settings context tokens = fold stepped (first (typescript settings.syntax) context.«module») (map part_in tokens)

along : (settings : Settings) (context : Context) (tokens : List SpannedView) (found : Option SpannedView)
    → tracked settings context (tokens ++ tokens_found found) ≡ track_behind (tracked settings context tokens) (option_map part_in found)
along settings context tokens None = ap (tracked settings context) (append-nil tokens)
along settings context tokens (Some t) =
    ap (fold stepped (first (typescript settings.syntax) context.«module»)) (map-append part_in tokens (t ∷ []))
    ∙ fold-append stepped (first (typescript settings.syntax) context.«module») (map part_in tokens) (part_in t ∷ [])

pub track-on : (rule : SlashRule) (s : Session) → s.reread ≡ None → track_of (behind_by rule s) ≡ track_behind (track_of s) (option_map part_in (found_by rule s))
track-on rule s plain =
    ap (λ x. tracked x (behind_by rule s).context (tokens_kept (behind_by rule s))) (settings-behind rule s)
    ∙ ap (λ x. tracked s.settings x (tokens_kept (behind_by rule s))) (context-behind rule s)
    ∙ ap (tracked s.settings s.context) (tokens-behind rule s plain)
    ∙ along s.settings s.context (tokens_kept s) (found_by rule s)

-- The numbers

abbrev pub one-more : Bool → Option SpannedView → ℕ → ℕ
one-more false found n = n
one-more true None n = n
one-more true (Some t) n = suc n

times-first : (again flag : Bool) (found : Option SpannedView) (past : Past) → again ≡ false → times_again (given_in again flag found ∷ past) ≡ times_again past
times-first again flag None past e = refl
times-first true flag (Some t) past e = cc
times-first false flag (Some t) past e = refl

times-second : (flag : Bool) (found : Option SpannedView) (past : Past) → times_again (given_in true flag found ∷ past) ≡ one-more true found (times_again past)
times-second flag None past = refl
times-second flag (Some t) past = refl

pub times-on : (rule : SlashRule) (s : Session) → s.reread ≡ None → times_again (behind_by rule s).past ≡ one-more (meets_expression rule s) (found_by rule s) (times_again s.past)
times-on rule s plain = go (meets_expression rule s) refl
  where
    once : Session
    once = act_on s Read

    before : times_again once.past ≡ times_again s.past
    before = times-first (is_some s.reread) (reading_of (state_of s)).end_flag (reading_of (state_of s)).found s.past (plain-none s.reread plain)

    twice : (o : Option BytePos) → last_slash (seen_of once.past) ≡ o → is_some o ≡ true
        → times_again (act_on (reread_from once o).after Read).past ≡ one-more true (reading_of (state_of (reread_from once o).after)).found (times_again s.past)
    twice None e h = cc
    twice (Some p) e h =
        let r = reading_of (state_of (record once { reread = Some p })) in
        times-second r.end_flag r.found once.past ∙ ap (one-more true r.found) before

    go : (b : Bool) → meets_expression rule s ≡ b → times_again (act_all s (read_steps b)).past ≡ one-more b (reading_of (state_of (last_read b s))).found (times_again s.past)
    go false e = before
    go true e = twice (last_slash (seen_of once.past)) refl (met-slash rule s e)

kept-count : (tokens : List SpannedView) (t : SpannedView) → length (tokens ++ t ∷ []) ≡ suc (length tokens)
kept-count tokens t = let both = length-append tokens (t ∷ []) in omega (arith, both)

-- a number further off
nearer : (kept : ℕ) (ns : List ℕ) → awaiting (distance (suc kept) ns) ns ≡ awaiting (distance kept ns - 1) ns
nearer kept [] = refl
nearer kept (n ∷ ns) = ap (λ d. awaiting d (n ∷ ns)) (let same : n - suc kept ≡ (n - kept) - 1 = omega arith in same)

-- the next number was met
passed-by : (kept : ℕ) (ns : List ℕ) → (distance kept ns == 1) ≡ true → awaiting (distance (suc kept) (drop 1 ns)) (drop 1 ns) ≡ behind_number (distance kept ns) ns
passed-by kept [] e = cc
passed-by kept (n ∷ ns) e =
    let one = eqb-true (n - kept) 1 e in
    let same : suc kept ≡ n = omega (arith, one) in
    ap (λ k. awaiting (distance k ns) ns) same

drop-suc : {X : Type 0} (n : ℕ) (xs : List X) → drop (suc n) xs ≡ drop 1 (drop n xs)
drop-suc n xs = let turned : suc n ≡ n + 1 = omega arith in ap (λ k. drop k xs) turned ∙ sym (drop-drop 1 n xs)

numbers-on : (all : List ℕ) (tokens : List SpannedView) (times : ℕ) (again : Bool) (found : Option SpannedView)
    → (again ≡ true → (distance (length tokens) (drop times all) == 1) ≡ true)
    → awaiting_from (length (tokens ++ tokens_found found)) (drop (one-more again found times) all)
    ≡ awaiting_behind (distance (length tokens) (drop times all)) (drop times all) again (option_map part_in found)
numbers-on all tokens times false None met = ap (λ ts. awaiting_from (length ts) (drop times all)) (append-nil tokens)
numbers-on all tokens times true None met = ap (λ ts. awaiting_from (length ts) (drop times all)) (append-nil tokens)
numbers-on all tokens times false (Some t) met =
    ap (λ n. awaiting_from n (drop times all)) (kept-count tokens t) ∙ nearer (length tokens) (drop times all)
numbers-on all tokens times true (Some t) met =
    ap (λ n. awaiting_from n (drop (suc times) all)) (kept-count tokens t)
    ∙ ap (awaiting_from (suc (length tokens))) (drop-suc times all)
    ∙ passed-by (length tokens) (drop times all) (met refl)

-- a number is met where it is the next
pub met-next : (all : List ℕ) (allowed expected : Bool) (o : Option BytePos) → names_answer (numbered all) allowed expected o ≡ true → expected ≡ true
met-next all allowed expected None h = cc
met-next all allowed expected (Some p) h = h

-- What a rule knows

pub known-on : (rule : SlashRule) (s : Session) → s.reread ≡ None → known_by rule (behind_by rule s) ≡ known_behind (known_by rule s) (meets_expression rule s) (option_map part_in (found_by rule s))
known-on by_flag s plain = refl
known-on (at_places places) s plain = refl
known-on by_role s plain = ap leading (track-on by_role s plain)
known-on (numbered all) s plain =
    let rule : SlashRule = numbered all in
    ap (λ ts. awaiting_from (length ts) (drop (times_again (behind_by rule s).past) all)) (tokens-behind rule s plain)
    ∙ ap (λ n. awaiting_from (length (tokens_kept s ++ tokens_found (found_by rule s))) (drop n all)) (times-on rule s plain)
    ∙ numbers-on all (tokens_kept s) (times_again s.past) (meets_expression rule s) (found_by rule s)
    (λ e. met-next all s.expr_allowed (expects_next rule s) (last_slash (seen_of (act_on s Read).past)) e)

-- What decides

-- one that caught up names what the rule names
pub decides-names : (rule : SlashRule) (s : Session) (d : Decider) → Decides rule s d → NamesAs rule s (λ allowed is_assign p. names (rule_of d.slashes) allowed (expected_by (known_to d) is_assign) p)
decides-names rule s d decides = λ allowed is_assign p.
    ap (λ r. names r allowed (expected_by (known_to d) is_assign) p) decides.by_rule ∙ ap (λ k. names rule allowed (expected_by k is_assign) p) decides.follows

-- what is said of a slash, by the flag that was asked, is what the rule says by the lexer's flag
pub named : (rule : SlashRule) (s : Session) (said : Bool → Bool → BytePos → Bool) (allowed flag is_assign : Bool) (p : BytePos) (result : Bool) → NamesAs rule s said
    → result ≡ said allowed is_assign p → allowed ≡ flag → result ≡ names rule flag (expected_by (known_by rule s) is_assign) p
named rule s said allowed flag is_assign p result same told flags = told ∙ same allowed is_assign p ∙ ap (λ a. names rule a (expected_by (known_by rule s) is_assign) p) flags

-- one that caught up decides as it did
pub decides-caught-up : (rule : SlashRule) (s : Session) (d next : Decider) → Decides rule s d → next.slashes ≡ d.slashes → known_to next ≡ known_to d → Decides rule s next
decides-caught-up rule s d next decides same follows = record { by_rule = ap rule_of same ∙ decides.by_rule; follows = follows ∙ decides.follows }

-- and one that takes in what was read decides behind it
pub decides-behind : (rule : SlashRule) (s : Session) (d next : Decider) (again : Bool) (found : Option SpannedView) → s.reread ≡ None → Decides rule s d → again ≡ meets_expression rule s → found ≡ found_by rule s
    → next.slashes ≡ d.slashes → known_to next ≡ known_behind (known_to d) again (option_map part_in found) → Decides rule (behind_by rule s) next
decides-behind rule s d next again found plain decides twice finds same follows =
    record {
      by_rule = ap rule_of same ∙ decides.by_rule;
      follows = follows
          ∙ ap (λ k. known_behind k again (option_map part_in found)) decides.follows
          ∙ ap (λ b. known_behind (known_by rule s) b (option_map part_in found)) twice
          ∙ ap (λ o. known_behind (known_by rule s) (meets_expression rule s) (option_map part_in o)) finds
          ∙ sym (known-on rule s plain);
    }

-- what holds whatever was answered
pub in-error : {T E P : Type 0} (result : Result T E) → P → OnErr result P
in-error (Ok v) h = tt
in-error (Err e) h = h

-- Where nothing is asked

abbrev numbers-in : Known → List ℕ
numbers-in nothing = []
numbers-in (leading t) = []
numbers-in (awaiting left ns) = ns

none-behind : (again : Bool) (found : Option Part) → known_behind (awaiting 0 []) again found ≡ awaiting 0 []
none-behind again None = refl
none-behind false (Some part) = refl
none-behind true (Some part) = refl

-- no number is left
none-left : (all : List ℕ) (s : Session) (left : ℕ) → awaiting left [] ≡ known_by (numbered all) s → known_by (numbered all) s ≡ awaiting 0 []
none-left all s left follows = ap (awaiting_from (length (tokens_kept s))) (sym (ap numbers-in follows))

-- no expression is expected
expects-none : (rule other : SlashRule) (s : Session) (t : Option TrackView) (left : ℕ) (ns : List ℕ) (is_assign : Bool) → other ≡ rule → known_with other t left ns ≡ known_by rule s → asks_nothing other ns ≡ true
    → expected_by (known_by rule s) is_assign ≡ false
expects-none rule by_flag s t left ns is_assign same follows none = ap (λ k. expected_by k is_assign) (sym follows)
expects-none rule (at_places places) s t left ns is_assign same follows none = ap (λ k. expected_by k is_assign) (sym follows)
expects-none rule by_role s t left ns is_assign same follows none = cc
expects-none rule (numbered all) s t left [] is_assign same follows none =
    let there = ap (λ r. known_by r s) (sym same) in
    ap (λ k. expected_by k is_assign) (there ∙ none-left all s left (follows ∙ there))
expects-none rule (numbered all) s t left (n ∷ ns) is_assign same follows none = cc

-- nor behind more tokens
stays-known : (rule other : SlashRule) (s : Session) (t : Option TrackView) (left : ℕ) (ns : List ℕ) (again : Bool) (found : Option Part) → other ≡ rule → known_with other t left ns ≡ known_by rule s
    → asks_nothing other ns ≡ true → known_behind (known_by rule s) again found ≡ known_by rule s
stays-known rule by_flag s t left ns again found same follows none = ap (λ k. known_behind k again found) (sym follows) ∙ follows
stays-known rule (at_places places) s t left ns again found same follows none = ap (λ k. known_behind k again found) (sym follows) ∙ follows
stays-known rule by_role s t left ns again found same follows none = cc
stays-known rule (numbered all) s t left [] again found same follows none =
    let there = ap (λ r. known_by r s) (sym same) in
    let zero = there ∙ none-left all s left (follows ∙ there) in
    ap (λ k. known_behind k again found) zero ∙ none-behind again found ∙ sym zero
stays-known rule (numbered all) s t left (n ∷ ns) again found same follows none = cc

pub nothing-names : (rule : SlashRule) (s : Session) (d : Decider) → Decides rule s d → asks_nothing (rule_of d.slashes) d.numbers.now ≡ true
    → NamesAs rule s (λ allowed is_assign p. names (rule_of d.slashes) allowed false p)
nothing-names rule s d decides none = λ allowed is_assign p.
    ap (λ r. names r allowed false p) decides.by_rule
    ∙ ap (λ e. names rule allowed e p) (sym (expects-none rule (rule_of d.slashes) s (behind_last d.track d.last) d.left d.numbers.now is_assign decides.by_rule decides.follows none))

-- it is decided behind each read
pub decides-on : {T E : Type 0} (rule : SlashRule) (s : Session) (d : Decider) (result : Result T E) → s.reread ≡ None → Decides rule s d → asks_nothing (rule_of d.slashes) d.numbers.now ≡ true
    → OnOk result (Decides rule (behind_by rule s) d)
decides-on rule s d (Err e) plain decides none = tt
decides-on rule s d (Ok v) plain decides none =
    let found = option_map part_in (found_by rule s) in
    record {
      by_rule = decides.by_rule;
      follows = decides.follows
          ∙ sym (stays-known rule (rule_of d.slashes) s (behind_last d.track d.last) d.left d.numbers.now (meets_expression rule s) found decides.by_rule decides.follows none)
          ∙ sym (known-on rule s plain);
    }

-- Where the tokens before are not at hand

alone-asks-none : (rule : SlashRule) (s : Session) → known_by (alone rule) s ≡ nothing
alone-asks-none by_flag s = refl
alone-asks-none (at_places places) s = refl
alone-asks-none by_role s = refl
alone-asks-none (numbered numbers) s = refl

pub alone-names : (rule other : SlashRule) (s : Session) → other ≡ alone rule → NamesAs (alone rule) s (λ allowed is_assign p. names other allowed false p)
alone-names rule other s same = λ allowed is_assign p.
    ap (λ r. names r allowed false p) same ∙ ap (λ k. names (alone rule) allowed (expected_by k is_assign) p) (sym (alone-asks-none rule s))

alone-knows-none : (rule : SlashRule) (t : Option TrackView) (left : ℕ) (ns : List ℕ) → known_with (alone rule) t left ns ≡ nothing
alone-knows-none by_flag t left ns = refl
alone-knows-none (at_places places) t left ns = refl
alone-knows-none by_role t left ns = refl
alone-knows-none (numbered numbers) t left ns = refl

pub alone-decides : (rule : SlashRule) (s : Session) (d : Decider) → rule_of d.slashes ≡ alone rule → Decides (alone rule) s d
alone-decides rule s d same =
    record {
      by_rule = same;
      follows = ap (λ r. known_with r (behind_last d.track d.last) d.left d.numbers.now) same ∙ alone-knows-none rule (behind_last d.track d.last) d.left d.numbers.now ∙ sym (alone-asks-none rule s);
    }
