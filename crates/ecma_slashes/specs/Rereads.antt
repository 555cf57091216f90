-- Reading with no parser above: each slash that begins a regular expression, as a rule says, is read again.
use Rattle.std.specs.Prelude.{ℕ, zero, suc, ⊤, ◌≡◌, ◌==◌, nat_lt, Bool, true, false, ◌&&◌, List, [], ◌∷◌, ◌++◌, Option, Some, None, drop, is_some, length}
use Rattle.std.specs.List.{count_by, list_all, list_any}
use Rattle.ecma_place.specs.Cursor.{Cursor}
use Rattle.ecma_place.specs.declared.place.BytePos.{BytePos}
use Rattle.ecma_syntax.specs.declared.context.Context.{Context}
use Rattle.ecma_token.specs.View.{SpannedView}
use Rattle.ecma_state.specs.Counting.{counting}
use Rattle.ecma_state.specs.Run.{act_all, act_on, is_free_read, reading_of, session, start_of}
use Rattle.ecma_state.specs.Session.{LexerState, Session, has_ended, seen_of, state_of}
use Rattle.ecma_state.specs.State.{last_slash}
use Rattle.ecma_state.specs.declared.settings.Settings.{Settings}
use Rattle.ecma_state.specs.declared.step.Step.{Step}
use Rattle.ecma_state.specs.declared.step.Step.TheVariants.{Read, SetCtx, SetExprAllowed, SetContexts, PopContext, Reread, Withdraw, Save, Back, TakeErrors}
use Rattle.ecma_state.specs.Clean.{each_step, ends_clean, is_clean, is_plain_step, takes_none}
use Rattle.ecma_role_table.specs.declared.part.Part.{Part}
use Rattle.ecma_role_moves.specs.Nest.{IsShallow}
use Rattle.ecma_roles.specs.Track.{TrackView}
use Rattle.ecma_state.specs.Ending.{enough}
use Rattle.ecma_slashes.specs.declared.slashes.Slashes.{Slashes}
use Rattle.ecma_slashes.specs.declared.slashes.Slashes.TheVariants.{ByFlag, At, ByRole, Numbered}
use Rattle.ecma_slashes.specs.declared.decider.Decider.{Decider}
use Rattle.ecma_slashes.specs.declared.decider.Namer.{Namer}
use Rattle.ecma_slashes.specs.declared.decider.Namer.TheVariants as namer
use Rattle.ecma_slashes.specs.Known.{Known, awaiting, awaiting_from, expected_by, leading, nothing, times_again, track_behind}
use Rattle.ecma_slashes.specs.Roles.{is_assign, tokens_kept, track_of}

-- Which slashes begin regular expressions

-- those before which an expression is allowed, those at these places, those where an operand is expected, or those of the
-- tokens with these numbers, the first of which is 1, each number once that before it was met
pub data SlashRule : Type 0 where
  by_flag : SlashRule
  at_places : List BytePos → SlashRule
  by_role : SlashRule
  numbered : List ℕ → SlashRule

abbrev pub rule_of : Slashes → SlashRule
rule_of ByFlag = by_flag
rule_of (At places) = at_places places.now
rule_of ByRole = by_role
rule_of (Numbered numbers) = numbered numbers.now

-- each place is behind the one before it
abbrev pub ascend_behind : BytePos → List BytePos → Bool
ascend_behind p [] = true
ascend_behind p (q ∷ qs) = nat_lt p.0 q.0 && ascend_behind q qs

abbrev pub ascend : List BytePos → Bool
ascend [] = true
ascend (p ∷ ps) = ascend_behind p ps

abbrev pub is_in_order : SlashRule → Bool
is_in_order by_flag = true
is_in_order (at_places places) = ascend places
is_in_order by_role = true
is_in_order (numbered numbers) = true

-- a place is one of these
abbrev pub is_among : List BytePos → BytePos → Bool
is_among places p = list_any (λ q. q.0 == p.0) places

-- a slash before which an expression was allowed or not, and which the tokens before let expect or not, begins a regular
-- expression
abbrev pub names : SlashRule → Bool → Bool → BytePos → Bool
names by_flag allowed expected p = allowed
names (at_places places) allowed expected p = is_among places p
names by_role allowed expected p = expected
names (numbered numbers) allowed expected p = expected

abbrev pub names_answer : SlashRule → Bool → Bool → Option BytePos → Bool
names_answer rule allowed expected None = false
names_answer rule allowed expected (Some p) = names rule allowed expected p

-- One token

-- what the rule asks of the tokens before
abbrev pub known_by : SlashRule → Session → Known
known_by by_flag s = nothing
known_by (at_places places) s = nothing
known_by by_role s = leading (track_of s)
known_by (numbered numbers) s = awaiting_from (length (tokens_kept s)) (drop (times_again s.past) numbers)

-- it is nothing, and nothing of those that come, where these numbers are left
abbrev pub asks_nothing : SlashRule → List ℕ → Bool
asks_nothing by_flag left = true
asks_nothing (at_places places) left = true
asks_nothing by_role left = false
asks_nothing (numbered numbers) [] = true
asks_nothing (numbered numbers) (n ∷ ns) = false

-- it lets expect an expression where the next read begins
abbrev pub expects_next : SlashRule → Session → Bool
expects_next rule s = expected_by (known_by rule s) (is_assign (reading_of (state_of s)).found)

-- the next read answers a slash that begins a regular expression
abbrev pub meets_expression : SlashRule → Session → Bool
meets_expression rule s = names_answer rule s.expr_allowed (expects_next rule s) (last_slash (seen_of (act_on s Read).past))

-- the steps of a read that tells of a slash, or that tells of the expression which the slash begins
abbrev pub read_steps : Bool → List Step
read_steps false = Read ∷ []
read_steps true = Read ∷ (Reread ∷ (Read ∷ (Withdraw ∷ [])))

-- the steps by which the next token is read
abbrev pub steps_by : SlashRule → Session → List Step
steps_by rule s = read_steps (meets_expression rule s)

-- where they lead
abbrev pub behind_by : SlashRule → Session → Session
behind_by rule s = act_all s (steps_by rule s)

-- where the last read among them begins
abbrev pub last_read : Bool → Session → Session
last_read false s = s
last_read true s = act_all s (Read ∷ (Reread ∷ []))

-- what that read finds
abbrev pub found_by : SlashRule → Session → Option SpannedView
found_by rule s = (reading_of (state_of (last_read (meets_expression rule s) s))).found

-- from a session on this was found, and a lexer shows what the steps come to
pub record ReadsBy (rule : SlashRule) (s : Session) (found : Option SpannedView) (l : LexerState) : Type 0 where
  pub finds : found ≡ found_by rule s
  pub after : l ≡ state_of (behind_by rule s)

-- it is told whether a token was found, and whether by a second read
pub record PassesBy (rule : SlashRule) (s : Session) (more again : Bool) (l : LexerState) : Type 0 where
  pub told : more ≡ is_some (found_by rule s)
  pub twice : again ≡ meets_expression rule s
  pub after : l ≡ state_of (behind_by rule s)

-- the steps stand behind those before them, it is told whether a token was found, and a lexer shows what they come to
pub record StepsOn (rule : SlashRule) (s : Session) (before steps : List Step) (more : Bool) (l : LexerState) : Type 0 where
  pub adds : steps ≡ before ++ steps_by rule s
  pub told : more ≡ is_some (found_by rule s)
  pub after : l ≡ state_of (behind_by rule s)

-- What decides of slashes, behind the tokens of a session

-- a track behind one token more, where there is a track
abbrev pub behind_last : Option TrackView → Option Part → Option TrackView
behind_last None last = None
behind_last (Some t) last = Some (track_behind t last)

-- there is no track, or one token more allocates nothing for it
abbrev pub HasRoom : Option TrackView → Type 0
HasRoom None = ⊤
HasRoom (Some t) = IsShallow t.nest

abbrev pub known_with : SlashRule → Option TrackView → ℕ → List ℕ → Known
known_with by_flag t left numbers = nothing
known_with (at_places places) t left numbers = nothing
known_with by_role None left numbers = nothing
known_with by_role (Some t) left numbers = leading t
known_with (numbered all) t left numbers = awaiting left numbers

-- what a decider knows
abbrev pub known_to : Decider → Known
known_to d = known_with (rule_of d.slashes) (behind_last d.track d.last) d.left d.numbers.now

-- it goes by this rule, and knows what the rule asks of the tokens of the session
pub record Decides (rule : SlashRule) (s : Session) (d : Decider) : Type 0 where
  pub by_rule : rule_of d.slashes ≡ rule
  pub follows : known_to d ≡ known_by rule s

-- what says of each slash what a rule says of it where it is read next
abbrev pub NamesAs : SlashRule → Session → (Bool → Bool → BytePos → Bool) → Type 0
NamesAs rule s named = (allowed is_assign : Bool) (p : BytePos) → named allowed is_assign p ≡ names rule allowed (expected_by (known_by rule s) is_assign) p

-- what is said of a slash
abbrev pub says : Namer → Bool → Bool → BytePos → Bool
says (namer.Rule slashes) allowed is_assign p = names (rule_of slashes) allowed false p
says (namer.Decider d) allowed is_assign p = names (rule_of d.now.slashes) allowed (expected_by (known_to d.now) is_assign) p

-- by places that ascend, and by a decider that took the last token into account
abbrev pub MayName : Namer → Type 0
MayName (namer.Rule slashes) = is_in_order (rule_of slashes) ≡ true
MayName (namer.Decider d) = (is_in_order (rule_of d.now.slashes) ≡ true) × (d.now.last ≡ None)

-- a read finds nothing for which something is allocated, while few contexts stand
abbrev pub is_free : Session → Bool
is_free s = nat_lt (length s.contexts) 128 && is_free_read (state_of s)

-- so do the reads of a token
abbrev pub are_free_by : SlashRule → Session → Bool
are_free_by rule s = is_free s && is_free (last_read (meets_expression rule s) s)

-- Whole runs

-- nothing more once the end was answered
abbrev pub unless_ended : {X : Type 0} → Bool → List X → List X
unless_ended true xs = []
unless_ended false xs = xs

-- the steps of so many tokens, or of all up to the end
abbrev pub all_by : SlashRule → ℕ → Session → List Step
all_by rule zero s = []
all_by rule (suc n) s = steps_by rule s ++ unless_ended (has_ended (behind_by rule s).past) (all_by rule n (behind_by rule s))

-- the steps by which a session is read to the end
unfoldable pub steps_to_end_by : SlashRule → Session → List Step
steps_to_end_by rule s = all_by rule (enough s.input) s

-- a text in a context
abbrev pub entered : Settings → Context → Cursor → Session
entered settings context input = act_on (start_of settings input) (SetCtx context)

-- the steps by which it is read to the end
abbrev pub text_steps_by : SlashRule → Settings → Context → Cursor → List Step
text_steps_by rule settings context input = SetCtx context ∷ steps_to_end_by rule (entered settings context input)

-- The slashes that are read again: that of a token, those of so many tokens, and those of a text

abbrev pub met_in : Bool → Option BytePos → List BytePos
met_in false slash = []
met_in true None = []
met_in true (Some p) = p ∷ []

abbrev pub met_by : SlashRule → Session → List BytePos
met_by rule s = met_in (meets_expression rule s) (last_slash (seen_of (act_on s Read).past))

abbrev pub all_met : SlashRule → ℕ → Session → List BytePos
all_met rule zero s = []
all_met rule (suc n) s = met_by rule s ++ unless_ended (has_ended (behind_by rule s).past) (all_met rule n (behind_by rule s))

unfoldable pub met_to_end : SlashRule → Session → List BytePos
met_to_end rule s = all_met rule (enough s.input) s

abbrev pub text_met : SlashRule → Settings → Context → Cursor → List BytePos
text_met rule settings context input = met_to_end rule (entered settings context input)

-- how many slashes steps read again
abbrev pub is_reread : Step → Bool
is_reread Read = false
is_reread (SetCtx context) = false
is_reread (SetExprAllowed allowed) = false
is_reread (SetContexts contexts) = false
is_reread PopContext = false
is_reread Reread = true
is_reread Withdraw = false
is_reread Save = false
is_reread (Back save) = false
is_reread TakeErrors = false

abbrev pub rereads : List Step → ℕ
rereads steps = count_by is_reread steps

-- Laws

-- They come to the end, where no slash was to be read again, and none is to be then.
pub record ComesToEnd (rule : SlashRule) (s : Session) : Type 0 where
  pub ended : has_ended (act_all s (steps_to_end_by rule s)).past ≡ true
  pub plain : (act_all s (steps_to_end_by rule s)).reread ≡ None

abbrev pub RunsByRuleEnd : Type 0
RunsByRuleEnd = (rule : SlashRule) (s : Session) → s.reread ≡ None → ComesToEnd rule s

-- Behind any steps of a run the list of these steps is a list of steps like any other, which all count: what holds of every
-- run holds of such runs.
abbrev pub RunsByRuleAreRuns : Type 0
RunsByRuleAreRuns =
    (rule : SlashRule) (settings : Settings) (input : Cursor) (before : List Step)
    → session settings input (before ++ steps_to_end_by rule (session settings input before)) ≡ act_all (session settings input before) (steps_to_end_by rule (session settings input before))

-- The steps by which a text is read lead to its end.
abbrev pub TextsAreReadOut : Type 0
TextsAreReadOut =
    (rule : SlashRule) (settings : Settings) (context : Context) (input : Cursor)
    → has_ended (session settings input (text_steps_by rule settings context input)).past ≡ true

-- The run of these steps takes plain steps alone and no error, so that it is clean where its end is.
pub record IsPlainRun (settings : Settings) (input : Cursor) (steps : List Step) : Type 0 where
  pub plain : each_step is_plain_step (start_of settings input) (counting steps) ≡ true
  pub takes_none : each_step takes_none (start_of settings input) (counting steps) ≡ true
  pub clean : is_clean settings input steps ≡ ends_clean (session settings input steps)

-- So does each run by which a text is read, in a context in which errors are not ignored.
abbrev pub TextsAreReadPlainly : Type 0
TextsAreReadPlainly =
    (rule : SlashRule) (settings : Settings) (context : Context) (input : Cursor) → context.ignore_error ≡ false
    → IsPlainRun settings input (text_steps_by rule settings context input)

-- The steps by which a text is read with the slashes at places read as many again as are met, all of them among the places;
-- and where that is as many as there are places, each was met.
pub record CountsMet (places : List BytePos) (settings : Settings) (context : Context) (input : Cursor) : Type 0 where
  pub counted : rereads (text_steps_by (at_places places) settings context input) ≡ length (text_met (at_places places) settings context input)
  pub among : list_all (is_among places) (text_met (at_places places) settings context input) ≡ true
  pub all : rereads (text_steps_by (at_places places) settings context input) ≡ length places → text_met (at_places places) settings context input ≡ places

abbrev pub RereadsCountMet : Type 0
RereadsCountMet = (places : List BytePos) (settings : Settings) (context : Context) (input : Cursor) → ascend places ≡ true → CountsMet places settings context input
