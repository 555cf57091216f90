-- One token, whose slash is read again where a rule names it.
use Rattle.std.proofs.Common.{◌≡◌, ◌∙◌, ◌<◌, Bool, true, false, [], ◌∷◌, Option, Some, None, refl, sym, subst, ap, cond}
use Rattle.std.specs.Prelude.{is_some, length, nat_lt, option_map}
use Rattle.std.proofs.lemmas.Bool.{and_parts, ltb-true}
use Rattle.std.proofs.lemmas.Option.{none-some}
use Rattle.ecma_place.specs.Cursor.{rest}
use Rattle.ecma_place.specs.declared.place.BytePos.{BytePos}
use Rattle.ecma_token.specs.View.{SpannedView}
use Rattle.ecma_state.specs.Run.{act_all, act_on, given_in, is_free_read, reading_of, reread_from, state_behind, state_rereading}
use Rattle.ecma_state.specs.Session.{LexerState, Past, Session, has_ended, kept_in, seen_of, state_of}
use Rattle.ecma_state.specs.State.{last_slash, seen_behind}
use Rattle.ecma_state.specs.declared.step.Step.TheVariants.{Read}
use Rattle.ecma_state.specs.Ending.{most_tokens}
use Rattle.ecma_state.specs.Slashes.{slash_answered}
use Rattle.ecma_stream.proofs.EndingLemmas.{end_found, state-behind, tokens_run_out}
use Rattle.ecma_rewinding.specs.Rewinding.{GoesOn}
use Rattle.ecma_rewinding.proofs.RewindingLemmas.{further-on, kept-on, reading-on}
use Rattle.ecma_slashes.specs.Known.{Known, expected_by}
use Rattle.ecma_slashes.specs.Rereads.{ReadsBy, SlashRule, are_free_by, behind_by, expects_next, found_by, is_free, known_by, last_read, meets_expression, names, names_answer, read_steps}
use Rattle.ecma_slashes.specs.Roles.{is_assign}
use Rattle.ecma_slashes.proofs.FewerLemmas.{fewer-again}
use Rattle.ecma_slashes.proofs.RereadLemmas.{reread-steps}

-- nothing was found
abbrev pub ended_by : Option SpannedView → Bool
ended_by None = true
ended_by (Some t) = false

-- What is met

slash-there : (s : Session) (l : LexerState) (o : Option BytePos) → l ≡ state_of (act_on s Read) → o ≡ slash_answered l → last_slash (seen_of (act_on s Read).past) ≡ o
slash-there s l o at told = sym (told ∙ ap slash_answered at)

pub meets-no-slash : (rule : SlashRule) (s : Session) (l : LexerState) → l ≡ state_of (act_on s Read) → None ≡ slash_answered l → meets_expression rule s ≡ false
meets-no-slash rule s l at told = ap (names_answer rule s.expr_allowed (expects_next rule s)) (slash-there s l None at told)

pub meets-slash : (rule : SlashRule) (s : Session) (l : LexerState) (p : BytePos) → l ≡ state_of (act_on s Read) → Some p ≡ slash_answered l → meets_expression rule s ≡ names rule s.expr_allowed (expects_next rule s) p
meets-slash rule s l p at told = ap (names_answer rule s.expr_allowed (expects_next rule s)) (slash-there s l (Some p) at told)

-- a slash that is met was answered
pub met-slash : (rule : SlashRule) (s : Session) → meets_expression rule s ≡ true → is_some (last_slash (seen_of (act_on s Read).past)) ≡ true
met-slash rule s = go (last_slash (seen_of (act_on s Read).past))
  where
    go : (o : Option BytePos) → names_answer rule s.expr_allowed (expects_next rule s) o ≡ true → is_some o ≡ true
    go None h = cc
    go (Some p) h = refl

-- What is read

pub read-once : (rule : SlashRule) (s : Session) (found : Option SpannedView) (l : LexerState) → meets_expression rule s ≡ false → found ≡ (reading_of (state_of s)).found → l ≡ state_of (act_on s Read)
    → ReadsBy rule s found l
read-once rule s found l meets finds at =
    record {
      finds = finds ∙ ap (λ b. (reading_of (state_of (last_read b s))).found) (sym meets);
      after = at ∙ ap (λ b. state_of (act_all s (read_steps b))) (sym meets);
    }

pub read-twice : (rule : SlashRule) (s : Session) (found : Option SpannedView) (l asked now done : LexerState) (p : BytePos) → meets_expression rule s ≡ true → l ≡ state_of (act_on s Read) → Some p ≡ slash_answered l
    → asked ≡ state_rereading (Some p) l → found ≡ (reading_of asked).found → now ≡ state_behind asked (reading_of asked) → done ≡ state_rereading None now → ReadsBy rule s found done
read-twice rule s found l asked now done p meets at told sets finds moved withdrawn =
    let again = reread-steps (act_on s Read) l asked now done p at (sym told) sets moved withdrawn in
    record {
      finds = finds ∙ ap (λ x. (reading_of x).found) again.begins ∙ ap (λ b. (reading_of (state_of (last_read b s))).found) (sym meets);
      after = again.ends ∙ ap (λ b. state_of (act_all s (read_steps b))) (sym meets);
    }

-- Fewer tokens may come behind it

pub fewer-once : (l next : LexerState) (t : SpannedView) → l.reread ≡ None → (reading_of l).found ≡ Some t → next ≡ state_behind l (reading_of l) → most_tokens next < most_tokens l
fewer-once l next t plain found moved = subst (λ x. most_tokens x < most_tokens l) (sym moved) (tokens_run_out l t plain found)

pub fewer-seen : {T : Type 0} → (seen : T → SpannedView) (l next : LexerState) (found : Option T) → l.reread ≡ None → option_map seen found ≡ (reading_of l).found → next ≡ state_behind l (reading_of l)
    → is_some found ≡ true → most_tokens next < most_tokens l
fewer-seen seen l next None plain finds moved some = cc
fewer-seen seen l next (Some t) plain finds moved some = fewer-once l next (seen t) plain (sym finds) moved

-- a slash was answered where memory was not refused
slash-answered : (l : LexerState) (p : BytePos) → Some p ≡ slash_answered l → last_slash l.state.seen ≡ Some p
slash-answered l p told = go l.refused told
  where
    go : (b : Bool) → Some p ≡ cond b None (last_slash l.state.seen) → last_slash l.state.seen ≡ Some p
    go true e = absurd (none-some p (sym e))
    go false e = sym e

pub fewer-twice : (l next asked now done : LexerState) (p : BytePos) → l.reread ≡ None → next ≡ state_behind l (reading_of l) → Some p ≡ slash_answered next
    → asked ≡ state_rereading (Some p) next → now ≡ state_behind asked (reading_of asked) → done ≡ state_rereading None now → most_tokens done < most_tokens l
fewer-twice l next asked now done p plain moved told sets again withdrawn =
    let first : LexerState = state_behind l (reading_of l) in
    let slash : last_slash first.state.seen ≡ Some p = ap (λ x. last_slash x.state.seen) (sym moved) ∙ slash-answered next p told in
    let begins : asked ≡ state_rereading (Some p) first = sets ∙ ap (state_rereading (Some p)) moved in
    let ends = withdrawn ∙ ap (state_rereading None) (again ∙ ap (λ x. state_behind x (reading_of x)) begins) in
    subst (λ x. most_tokens x < most_tokens l) (sym ends) (fewer-again l p plain slash)

-- Sessions

pub behind-plain : (rule : SlashRule) (s : Session) → s.reread ≡ None → (behind_by rule s).reread ≡ None
behind-plain rule s plain = go (meets_expression rule s)
  where
    go : (b : Bool) → (act_all s (read_steps b)).reread ≡ None
    go false = plain
    go true = refl

-- whether the end was answered
pub behind-ended : (rule : SlashRule) (s : Session) → has_ended (behind_by rule s).past ≡ ended_by (found_by rule s)
behind-ended rule s = go (meets_expression rule s)
  where
    told : (again flag : Bool) (found : Option SpannedView) (past : Past) → has_ended (given_in again flag found ∷ past) ≡ ended_by found
    told again flag None past = refl
    told true flag (Some t) past = refl
    told false flag (Some t) past = refl

    go : (b : Bool) → has_ended (act_all s (read_steps b)).past ≡ ended_by (reading_of (state_of (last_read b s))).found
    go false = told (is_some s.reread) (reading_of (state_of s)).end_flag (reading_of (state_of s)).found s.past
    go true =
        let r = last_read true s in
        told (is_some r.reread) (reading_of (state_of r)).end_flag (reading_of (state_of r)).found r.past

pub behind-fewer : (rule : SlashRule) (s : Session) → s.reread ≡ None → ended_by (found_by rule s) ≡ false → most_tokens (state_of (behind_by rule s)) < most_tokens (state_of s)
behind-fewer rule s plain more = go (meets_expression rule s) refl more
  where
    slash : (o : Option BytePos) → last_slash (seen_of (act_on s Read).past) ≡ o → is_some o ≡ true → most_tokens (state_of (act_all s (read_steps true))) < most_tokens (state_of s)
    slash None e h = cc
    slash (Some p) e h =
        let asked : state_of (last_read true s) ≡ state_rereading (Some p) (state_of (act_on s Read)) = ap (λ o. state_of (reread_from (act_on s Read) o).after) e in
        fewer-twice (state_of s) (state_of (act_on s Read)) (state_of (last_read true s)) (state_of (act_on (last_read true s) Read)) (state_of (act_all s (read_steps true))) p plain
        (state-behind s) (sym e) asked (state-behind (last_read true s)) refl

    once : (found : Option SpannedView) → (reading_of (state_of s)).found ≡ found → ended_by found ≡ false → most_tokens (state_of (act_on s Read)) < most_tokens (state_of s)
    once None e h = cc
    once (Some t) e h = fewer-once (state_of s) (state_of (act_on s Read)) t plain e (state-behind s)

    go : (b : Bool) → meets_expression rule s ≡ b → ended_by (reading_of (state_of (last_read b s))).found ≡ false → most_tokens (state_of (act_all s (read_steps b))) < most_tokens (state_of s)
    go false e h = once (reading_of (state_of s)).found refl h
    go true e h = slash (last_slash (seen_of (act_on s Read).past)) refl (met-slash rule s e)

-- At the end no slash was answered
pub end-no-slash : (l next : LexerState) (p : BytePos) → l.reread ≡ None → rest l.input ≡ [] → next ≡ state_behind l (reading_of l) → Some p ≡ slash_answered next → ⊥
end-no-slash l next p plain left moved told =
    let none : last_slash next.state.seen ≡ None = ap (λ x. last_slash x.state.seen) moved ∙ ap (λ o. last_slash (seen_behind l.state.seen (reading_of l).end_flag (kept_in o))) (end_found l plain left) in
    go next.refused (told ∙ ap (λ o. cond next.refused None o) none)
  where
    go : (b : Bool) → Some p ≡ cond b None None → ⊥
    go true e = none-some p (sym e)
    go false e = none-some p (sym e)

-- For a lexer

pub lexer-behind : (s : Session) (l next : LexerState) → state_of s ≡ l → next ≡ state_behind l (reading_of l) → next ≡ state_of (act_on s Read)
lexer-behind s l next at moved = moved ∙ ap (λ x. state_behind x (reading_of x)) (sym at) ∙ sym (state-behind s)

pub lexer-once : (rule : SlashRule) (s : Session) (l next : LexerState) (found : Option SpannedView) → state_of s ≡ l → found ≡ (reading_of l).found → next ≡ state_behind l (reading_of l) → meets_expression rule s ≡ false
    → ReadsBy rule s found next × (false ≡ meets_expression rule s)
lexer-once rule s l next found at finds moved meets =
    (read-once rule s found next meets (finds ∙ ap (λ x. (reading_of x).found) (sym at)) (lexer-behind s l next at moved), sym meets)

-- no slash was answered
pub lexer-no-slash : (rule : SlashRule) (s : Session) (l next : LexerState) (found : Option SpannedView) → state_of s ≡ l → found ≡ (reading_of l).found → next ≡ state_behind l (reading_of l) → None ≡ slash_answered next
    → ReadsBy rule s found next × (false ≡ meets_expression rule s)
lexer-no-slash rule s l next found at finds moved none =
    lexer-once rule s l next found at finds moved (meets-no-slash rule s next (lexer-behind s l next at moved) none)

-- a slash was answered, and whether it begins an expression was asked with the flag and the track that stood before it
pub lexer-meets : (rule : SlashRule) (s : Session) (l next : LexerState) (p : BytePos) (found : Option SpannedView) (t : Known) (b : Bool) → state_of s ≡ l → t ≡ known_by rule s → found ≡ (reading_of l).found
    → next ≡ state_behind l (reading_of l) → Some p ≡ slash_answered next → b ≡ names rule l.state.expr_allowed (expected_by t (is_assign found)) p → meets_expression rule s ≡ b
lexer-meets rule s l next p found t b at track finds moved told asked =
    let expects : expects_next rule s ≡ expected_by t (is_assign found) =
    ap (λ x. expected_by x (is_assign (reading_of (state_of s)).found)) (sym track) ∙ ap (λ x. expected_by t (is_assign (reading_of x).found)) at ∙ ap (λ o. expected_by t (is_assign o)) (sym finds) in
    meets-slash rule s next p (lexer-behind s l next at moved) told
    ∙ ap (λ e. names rule s.expr_allowed e p) expects
    ∙ ap (λ x. names rule x.state.expr_allowed (expected_by t (is_assign found)) p) at
    ∙ sym asked

pub lexer-not-named : (rule : SlashRule) (s : Session) (l next : LexerState) (p : BytePos) (found : Option SpannedView) (t : Known) → state_of s ≡ l → t ≡ known_by rule s → found ≡ (reading_of l).found
    → next ≡ state_behind l (reading_of l) → Some p ≡ slash_answered next → false ≡ names rule l.state.expr_allowed (expected_by t (is_assign found)) p → ReadsBy rule s found next × (false ≡ meets_expression rule s)
lexer-not-named rule s l next p found t at track finds moved told asked =
    lexer-once rule s l next found at finds moved (lexer-meets rule s l next p found t false at track finds moved told asked)

pub lexer-twice : (rule : SlashRule) (s : Session) (l next asked now done : LexerState) (p : BytePos) (first found : Option SpannedView) (t : Known) → state_of s ≡ l → t ≡ known_by rule s
    → first ≡ (reading_of l).found → true ≡ names rule l.state.expr_allowed (expected_by t (is_assign first)) p
    → next ≡ state_behind l (reading_of l) → Some p ≡ slash_answered next → asked ≡ state_rereading (Some p) next → found ≡ (reading_of asked).found → now ≡ state_behind asked (reading_of asked)
    → done ≡ state_rereading None now → ReadsBy rule s found done × (true ≡ meets_expression rule s)
lexer-twice rule s l next asked now done p first found t at track before named moved told sets finds again withdrawn =
    let meets = lexer-meets rule s l next p first t true at track before moved told named in
    (read-twice rule s found next asked now done p meets (lexer-behind s l next at moved) told sets finds again withdrawn, sym meets)

pub never : false ≡ true → ⊥
never h = cc

-- Nothing is allocated by the second read where nothing is by those of a token
pub twice-free : (rule : SlashRule) (s : Session) (l next asked : LexerState) (p : BytePos) (first : Option SpannedView) (t : Known) → state_of s ≡ l → t ≡ known_by rule s → first ≡ (reading_of l).found
    → true ≡ names rule l.state.expr_allowed (expected_by t (is_assign first)) p → next ≡ state_behind l (reading_of l) → Some p ≡ slash_answered next → asked ≡ state_rereading (Some p) next → are_free_by rule s ≡ true
    → (length asked.state.contexts < 128) × (is_free_read asked ≡ true)
twice-free rule s l next asked p first t at track before named moved told sets free =
    let meets = lexer-meets rule s l next p first t true at track before moved told named in
    let begins = (reread-steps (act_on s Read) next asked (state_behind asked (reading_of asked)) (state_rereading None (state_behind asked (reading_of asked))) p (lexer-behind s l next at moved) (sym told) sets refl refl).begins in
    let both = and_parts (is_free s) (is_free (last_read (meets_expression rule s) s)) free in
    let again : is_free (last_read true s) ≡ true = ap (λ b. is_free (last_read b s)) (sym meets) ∙ both.1 in
    let few = and_parts (nat_lt (length (last_read true s).contexts) 128) (is_free_read (state_of (last_read true s))) again in
    subst (λ x. (length x.state.contexts < 128) × (is_free_read x ≡ true)) (sym begins) (ltb-true (length (last_read true s).contexts) 128 few.0, few.1)

-- Where memory is refused, nothing of what was before the read is lost

pub refused-first : (l refused : LexerState) → refused ≡ record l { refused = true } → GoesOn l refused
refused-first l refused so = subst (GoesOn l) (sym so) (kept-on l (record l { refused = true }) refl refl refl refl refl)

pub refused-again : (l next asked refused done : LexerState) (slash : Option BytePos) → next ≡ state_behind l (reading_of l) → asked ≡ state_rereading slash next → refused ≡ record asked { refused = true }
    → done ≡ state_rereading None refused → GoesOn l done
refused-again l next asked refused done slash moved sets so withdrawn =
    further-on l next done (subst (GoesOn l) (sym moved) (reading-on l)) (subst (GoesOn next) (sym whole) (kept-on next (state_rereading None (record (state_rereading slash next) { refused = true })) refl refl refl refl refl))
  where
    whole : done ≡ state_rereading None (record (state_rereading slash next) { refused = true })
    whole = withdrawn ∙ ap (state_rereading None) (so ∙ ap (λ (m : LexerState). record m { refused = true }) sets)
