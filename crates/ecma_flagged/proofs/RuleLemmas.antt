-- The run by a rule that names no places over a canonical text takes the steps of its run over the text.
use Rattle.std.proofs.Common.{◌≡◌, ◌∙◌, ◌<◌, ◌≤◌, ℕ, zero, suc, Bool, true, false, List, [], ◌∷◌, ◌++◌, Option, Some, None, drop, length, refl, sym, subst, ap, arith}
use Rattle.std.specs.Prelude.{if◌then◌else◌, is_none, is_some, option_map}
use Rattle.std.proofs.lemmas.Str.{length-le-encodes}
use Rattle.ecma_place.specs.Cursor.{Cursor, rest}
use Rattle.ecma_place.specs.Text.{Text, byte_len}
use Rattle.ecma_place.specs.declared.place.BytePos.{BytePos}
use Rattle.ecma_syntax.specs.declared.context.Context.{Context}
use Rattle.ecma_token.specs.Kinds.{kind_of}
use Rattle.ecma_token.specs.View.{SpannedView, TokenView, error_token, plain_token, refused_template}
use Rattle.ecma_state.specs.Run.{act_all, answer_in, given_in, reading_of, start_of}
use Rattle.ecma_state.specs.Session.{Past, Session, has_ended, seen_of, state_of}
use Rattle.ecma_state.specs.State.{is_slash, last_slash, previous}
use Rattle.ecma_state.specs.declared.settings.Settings.{Settings}
use Rattle.ecma_state.specs.declared.step.Step.{Step}
use Rattle.ecma_state.specs.declared.step.Step.TheVariants.{SetCtx}
use Rattle.ecma_role_table.specs.Parts.{part_of}
use Rattle.ecma_role_table.specs.declared.part.Part.{Part}
use Rattle.ecma_state.specs.Ending.{enough, most_tokens}
use Rattle.ecma_reads.proofs.EndLemmas.{room-le}
use Rattle.ecma_slashes.specs.Known.{Known, expected_by, known_behind}
use Rattle.ecma_slashes.specs.Rereads.{SlashRule, all_by, at_places, behind_by, by_flag, by_role, entered, found_by, known_by, last_read, meets_expression, names_answer, numbered, read_steps, steps_by, steps_to_end_by, unless_ended}
use Rattle.ecma_slashes.specs.Roles.{is_assign, is_assign_kind, part_in}
use Rattle.ecma_slashes.proofs.RoleLemmas.{known-on}
use Rattle.ecma_slashes.proofs.RunLemmas.{text-counts}
use Rattle.ecma_slashes.proofs.TokenLemmas.{behind-ended, behind-fewer, behind-plain, ended_by}
use Rattle.ecma_clean.specs.Canonical.{canonical_of}
use Rattle.ecma_clean.specs.Sharing.{IsCanonical, begin, owned}
use Rattle.ecma_clean.specs.Stages.{Stage, placeless, read_in, stages, token_from}
use Rattle.ecma_clean.proofs.CanonicalLaws.{canonical_is_read, canonical_runs_alike}
use Rattle.ecma_flagged.specs.ByFlag.{CanonicalByFlagIsRead, CanonicalByFlagIsShared, FlagReadsAlike}
use Rattle.ecma_flagged.specs.ByNumber.{CanonicalByNumberIsRead, CanonicalByNumberIsShared, NumberReadsAlike}
use Rattle.ecma_flagged.specs.ByRole.{CanonicalByRoleIsRead, CanonicalByRoleIsShared, RoleReadsAlike}
use Rattle.ecma_flagged.specs.ByRule.{CanonicalByRuleIsRead, CanonicalByRuleIsShared, ReadsAlike, canonical_by, rule_steps}

-- Rules that name no places

abbrev names_no_places : SlashRule → Bool
names_no_places by_flag = true
names_no_places (at_places places) = false
names_no_places by_role = true
names_no_places (numbered numbers) = true

-- they pass over where a slash stands
anywhere : (rule : SlashRule) → names_no_places rule ≡ true → (allowed expected b : Bool) (p q : BytePos)
    → names_answer rule allowed expected (if b then Some p else None) ≡ names_answer rule allowed expected (if b then Some q else None)
anywhere by_flag bare allowed expected true p q = refl
anywhere (at_places places) bare allowed expected true p q = cc
anywhere by_role bare allowed expected true p q = refl
anywhere (numbered numbers) bare allowed expected true p q = refl
anywhere rule bare allowed expected false p q = refl

-- What a stage shows of a read

abbrev nowhere : BytePos
nowhere = record { 0 = 0 }

-- its slash, whose place is not shown
abbrev slash_shown : Option (TokenView × Bool) → Option BytePos
slash_shown None = None
slash_shown (Some t) = if is_slash (kind_of t.0) then Some nowhere else None

abbrev assign_shown : Option (TokenView × Bool) → Bool
assign_shown None = false
assign_shown (Some t) = is_assign_kind (kind_of t.0)

abbrev part_shown : Option (TokenView × Bool) → Option Part
part_shown None = None
part_shown (Some t) = Some (part_of (kind_of t.0) t.1)

-- a slash is read that begins a regular expression, where this is known before it
abbrev meets : SlashRule → Known → List Stage → Bool
meets rule t [] = false
meets rule t (stage ∷ more) = names_answer rule stage.bearing.expr_allowed (expected_by t (assign_shown stage.token)) (slash_shown stage.token)

-- what is seen of the token that is read
abbrev part_read : List Stage → Option Part
part_read [] = None
part_read (stage ∷ more) = part_shown stage.token

-- places change no kind
kind-from : (n : ℕ) (t : TokenView) → kind_of (token_from n t) ≡ kind_of t
kind-from n (plain_token token) = refl
kind-from n (refused_template raw kind span) = refl
kind-from n (error_token kind span) = refl

meets-token : (rule : SlashRule) → names_no_places rule ≡ true → (t : Known) (allowed : Bool) (token : SpannedView)
    → names_answer rule allowed (expected_by t (assign_shown (Some (placeless token)))) (slash_shown (Some (placeless token)))
    ≡ names_answer rule allowed (expected_by t (is_assign_kind (kind_of token.token))) (if is_slash (kind_of token.token) then Some token.span.lo else None)
meets-token rule bare t allowed token =
    ap (λ k. names_answer rule allowed (expected_by t (is_assign_kind k)) (if is_slash k then Some nowhere else None)) (kind-from token.span.lo.0 token.token)
    ∙ anywhere rule bare allowed (expected_by t (is_assign_kind (kind_of token.token))) (is_slash (kind_of token.token)) nowhere token.span.lo

meets-found : (rule : SlashRule) → names_no_places rule ≡ true → (t : Known) (allowed again flag : Bool) (found : Option SpannedView) (past : Past)
    → names_answer rule allowed (expected_by t (assign_shown (read_in (answer_in found)))) (slash_shown (read_in (answer_in found)))
    ≡ names_answer rule allowed (expected_by t (is_assign found)) (last_slash (seen_of (given_in again flag found ∷ past)))
meets-found rule bare t allowed again flag None past = refl
meets-found rule bare t allowed true flag (Some token) past = meets-token rule bare t allowed token
meets-found rule bare t allowed false flag (Some token) past = meets-token rule bare t allowed token

-- the first read of a token shows whether its slash is read again
meets-first : (rule : SlashRule) → names_no_places rule ≡ true → (s : Session) (b : Bool) (more : List Step) → meets rule (known_by rule s) (stages s (read_steps b ++ more)) ≡ meets_expression rule s
meets-first rule bare s true more =
    meets-found rule bare (known_by rule s) s.expr_allowed (is_some s.reread) (reading_of (state_of s)).end_flag (reading_of (state_of s)).found s.past
meets-first rule bare s false more =
    meets-found rule bare (known_by rule s) s.expr_allowed (is_some s.reread) (reading_of (state_of s)).end_flag (reading_of (state_of s)).found s.past

part-found : (found : Option SpannedView) → part_shown (read_in (answer_in found)) ≡ option_map part_in found
part-found None = refl
part-found (Some t) = ap (λ k. Some (part_of k t.had_line_break)) (kind-from t.span.lo.0 t.token)

-- the last one shows what is kept
part-last : (s : Session) (b : Bool) (more : List Step) → part_read (drop (if b then 2 else 0) (stages s (read_steps b ++ more))) ≡ option_map part_in (reading_of (state_of (last_read b s))).found
part-last s true more = part-found (reading_of (state_of (last_read true s))).found
part-last s false more = part-found (reading_of (state_of s)).found

-- and whether the end is answered
ended-part : (found : Option SpannedView) → is_none (option_map part_in found) ≡ ended_by found
ended-part None = refl
ended-part (Some t) = refl

-- what is gone through behind a token
stages-behind : (s : Session) (b : Bool) (more : List Step) → drop (if b then 4 else 1) (stages s (read_steps b ++ more)) ≡ stages (act_all s (read_steps b)) more
stages-behind s true more = refl
stages-behind s false more = refl

-- Two runs that go through the same stages, where the same is known before them

abbrev Alike : Session → Session → List Step → Type 0
Alike a c steps = stages a steps ≡ stages c steps

record Reads (rule : SlashRule) (a c : Session) (more : List Step) : Type 0 where
  meets_too : meets_expression rule c ≡ meets_expression rule a
  ends_too : has_ended (behind_by rule c).past ≡ has_ended (behind_by rule a).past
  known_too : known_by rule (behind_by rule c) ≡ known_by rule (behind_by rule a)
  behind : Alike (behind_by rule a) (behind_by rule c) more

-- they read a token alike
token-alike : (rule : SlashRule) → names_no_places rule ≡ true → (a c : Session) (more : List Step) → a.reread ≡ None → c.reread ≡ None → known_by rule c ≡ known_by rule a → Alike a c (steps_by rule a ++ more) → Reads rule a c more
token-alike rule bare a c more plain_a plain_c known same =
    record {
      meets_too = met;
      ends_too = behind-ended rule c ∙ sym (ended-part (found_by rule c)) ∙ ap is_none seen ∙ ended-part (found_by rule a) ∙ sym (behind-ended rule a);
      known_too =
          known-on rule c plain_c
          ∙ ap (λ k. known_behind k (meets_expression rule c) (option_map part_in (found_by rule c))) known
          ∙ ap (λ x. known_behind (known_by rule a) x (option_map part_in (found_by rule c))) met
          ∙ ap (known_behind (known_by rule a) b) seen
          ∙ sym (known-on rule a plain_a);
      behind =
          sym (stages-behind a b more)
          ∙ ap (drop (if b then 4 else 1)) same
          ∙ stages-behind c b more
          ∙ ap (λ x. stages (act_all c (read_steps x)) more) (sym met);
    }
  where
    b : Bool
    b = meets_expression rule a

    met : meets_expression rule c ≡ b
    met =
        sym (meets-first rule bare c b more)
        ∙ ap (meets rule (known_by rule c)) (sym same)
        ∙ ap (λ t. meets rule t (stages a (read_steps b ++ more))) known
        ∙ meets-first rule bare a b more

    seen : option_map part_in (found_by rule c) ≡ option_map part_in (found_by rule a)
    seen =
        ap (λ x. option_map part_in (reading_of (state_of (last_read x c))).found) met
        ∙ sym (part-last c b more)
        ∙ ap (λ xs. part_read (drop (if b then 2 else 0) xs)) (sym same)
        ∙ part-last a b more

-- and take the same steps to the end
same-steps : (rule : SlashRule) → names_no_places rule ≡ true → (n m : ℕ) (a c : Session) → a.reread ≡ None → c.reread ≡ None → known_by rule c ≡ known_by rule a → Alike a c (all_by rule n a)
    → most_tokens (state_of a) < n → most_tokens (state_of c) < m → all_by rule m c ≡ all_by rule n a
same-steps rule bare zero m a c plain_a plain_c known same few_a few_c = absurd (omega (arith, few_a))
same-steps rule bare (suc n) zero a c plain_a plain_c known same few_a few_c = absurd (omega (arith, few_c))
same-steps rule bare (suc n) (suc m) a c plain_a plain_c known same few_a few_c =
    ap (λ x. read_steps x ++ unless_ended (has_ended next_c.past) (all_by rule m next_c)) on.meets_too
    ∙ ap (λ x. steps_by rule a ++ x)
    (ap (λ x. unless_ended x (all_by rule m next_c)) on.ends_too
    ∙ go (has_ended next_a.past) refl on.behind (same-steps rule bare n m next_a next_c (behind-plain rule a plain_a) (behind-plain rule c plain_c) on.known_too))
  where
    next_a : Session
    next_a = behind_by rule a

    next_c : Session
    next_c = behind_by rule c

    on : Reads rule a c (unless_ended (has_ended next_a.past) (all_by rule n next_a))
    on = token-alike rule bare a c (unless_ended (has_ended next_a.past) (all_by rule n next_a)) plain_a plain_c known same

    go : (x : Bool) → has_ended next_a.past ≡ x → Alike next_a next_c (unless_ended x (all_by rule n next_a))
        → (Alike next_a next_c (all_by rule n next_a) → most_tokens (state_of next_a) < n → most_tokens (state_of next_c) < m → all_by rule m next_c ≡ all_by rule n next_a)
        → unless_ended x (all_by rule m next_c) ≡ unless_ended x (all_by rule n next_a)
    go true e behind more = refl
    go false e behind more =
        let less_a = behind-fewer rule a plain_a (sym (behind-ended rule a) ∙ e) in
        let less_c = behind-fewer rule c plain_c (sym (behind-ended rule c) ∙ on.ends_too ∙ e) in
        more behind (omega (arith, few_a, less_a)) (omega (arith, few_c, less_c))

-- enough reads are more than all tokens
most-enough : (s : Session) → most_tokens (state_of s) < enough s.input
most-enough s =
    let bound : length (rest s.input) ≤ byte_len (rest s.input) = length-le-encodes (rest s.input) in
    omega (arith, bound, room-le (previous (seen_of s.past)))

-- no token stands before the first, whatever the text is
known-begin : (rule : SlashRule) (settings : Settings) (context : Context) (a c : Cursor) → known_by rule (entered settings context c) ≡ known_by rule (entered settings context a)
known-begin by_flag settings context a c = refl
known-begin (at_places places) settings context a c = refl
known-begin by_role settings context a c = refl
known-begin (numbered numbers) settings context a c = refl

-- The laws of such a rule

reads_alike : (rule : SlashRule) → names_no_places rule ≡ true → ReadsAlike rule
unfolding steps_to_end_by
reads_alike rule bare settings context start text good =
    ap (λ steps. SetCtx context ∷ steps)
    (same-steps rule bare (enough first.input) (enough other.input) first other refl refl (known-begin rule settings context (begin start text) (begin start canon)) (sym behind) (most-enough first) (most-enough other))
  where
    canon : Text
    canon = canonical_by rule settings context start text

    first : Session
    first = entered settings context (begin start text)

    other : Session
    other = entered settings context (begin start canon)

    steps : List Step
    steps = rule_steps rule settings context start text

    through : stages (start_of settings (begin start canon)) steps ≡ stages (start_of settings (begin start text)) steps
    through =
        subst (λ steps. stages (start_of settings (begin start canon)) steps ≡ stages (start_of settings (begin start text)) steps) (text-counts rule settings context (begin start text))
        (canonical_runs_alike settings start text steps good).0

    behind : stages other (all_by rule (enough first.input) first) ≡ stages first (all_by rule (enough first.input) first)
    behind = ap (drop 1) through

canonical_is_read_by : (rule : SlashRule) → names_no_places rule ≡ true → CanonicalByRuleIsRead rule
canonical_is_read_by rule bare settings context start text good =
    let steps : List Step = rule_steps rule settings context start text in
    let canon : Text = canonical_by rule settings context start text in
    subst (λ ss. IsCanonical settings start ss canon (owned settings start text steps)) (sym (reads_alike rule bare settings context start text good)) (canonical_is_read settings start text steps good)

canonical_is_shared_by : (rule : SlashRule) → names_no_places rule ≡ true → CanonicalByRuleIsShared rule
canonical_is_shared_by rule bare settings context start a b good_a good_b = (
  λ same. sym (canonical_is_read_by rule bare settings context start a good_a).agrees
      ∙ ap (λ t. owned settings start t (rule_steps rule settings context start t)) same
      ∙ (canonical_is_read_by rule bare settings context start b good_b).agrees,
  ap canonical_of,
)

-- By the flag

pub flag_reads_alike : FlagReadsAlike
flag_reads_alike = reads_alike by_flag refl

pub canonical_by_flag_is_read : CanonicalByFlagIsRead
canonical_by_flag_is_read = canonical_is_read_by by_flag refl

pub canonical_by_flag_is_shared : CanonicalByFlagIsShared
canonical_by_flag_is_shared = canonical_is_shared_by by_flag refl

-- By roles

pub role_reads_alike : RoleReadsAlike
role_reads_alike = reads_alike by_role refl

pub canonical_by_role_is_read : CanonicalByRoleIsRead
canonical_by_role_is_read = canonical_is_read_by by_role refl

pub canonical_by_role_is_shared : CanonicalByRoleIsShared
canonical_by_role_is_shared = canonical_is_shared_by by_role refl

-- By numbers

pub number_reads_alike : NumberReadsAlike
number_reads_alike numbers = reads_alike (numbered numbers) refl

pub canonical_by_number_is_read : CanonicalByNumberIsRead
canonical_by_number_is_read numbers = canonical_is_read_by (numbered numbers) refl

pub canonical_by_number_is_shared : CanonicalByNumberIsShared
canonical_by_number_is_shared numbers = canonical_is_shared_by (numbered numbers) refl
