-- A text that is read cleanly by the standard's rule for numbers is read to the same by the crate's.
use Rattle.std.proofs.Common.{◌≡◌, ◌∙◌, ℕ, Bool, true, false, not, ◌&&◌, ◌||◌, List, [], ◌∷◌, length, map, Option, Some, None, Result, Ok, Err, refl, sym, ap, subst}
use Rattle.std.proofs.lemmas.Bool.{and_parts, not-true}
use Rattle.std.proofs.lemmas.List.Folds.{list_any-append}
use Rattle.std.specs.Prelude.{is_some}
use Rattle.std.specs.List.{list_all, list_any}
use Rattle.ecma_place.specs.Cursor.{Cursor, passed, place, rest}
use Rattle.ecma_place.specs.Text.{Text}
use Rattle.ecma_place.specs.declared.place.BytePos.{BytePos}
use Rattle.ecma_clean_reads.specs.Found.{Fault, Scanned, fault_behind, found_at, token_behind, value_behind}
use Rattle.ecma_clean_reads.specs.GapViews.{GapView}
use Rattle.ecma_clean_reads.specs.Locality.{has_clean_faults, is_accepted, is_always, is_clean}
use Rattle.ecma_clean_reads.specs.Numbers.{number}
use Rattle.ecma_clean_reads.specs.declared.found.Blame.{Blame}
use Rattle.ecma_clean_reads.specs.declared.found.Blame.TheVariants.{Always, Strict, Module}
use Rattle.ecma_clean_reads.proofs.NumberRules.{clean_by_both_rules}
use Rattle.ecma_state.specs.Contexts.{Contexts}
use Rattle.ecma_state.specs.Counting.{counting}
use Rattle.ecma_state.specs.Reading.{Reading, behind_gap, gap_in, reading, reading_behind, reading_code, reading_if, stands_shebang, token_reading}
use Rattle.ecma_state.specs.Run.{act_all, act_on, acted_on, given_in, mode_of, popped_from, reading_from, reading_of, reread_from, start_of}
use Rattle.ecma_state.specs.Session.{Past, Session, kept_back, kept_tokens, seen_of, state_of}
use Rattle.ecma_state.specs.State.{is_error, last_slash}
use Rattle.ecma_state.specs.TokenAt.{comments_in, lookahead, placed, read_opened, token_of, ts1085}
use Rattle.ecma_state.specs.declared.mode.Mode.{Mode}
use Rattle.ecma_state.specs.declared.lookahead.Lookahead.{Lookahead}
use Rattle.ecma_state.specs.declared.lookahead.Lookahead.TheVariants as opens
use Rattle.ecma_state.specs.declared.step.Step.{Step}
use Rattle.ecma_state.specs.declared.step.Step.TheVariants.{Read, SetCtx, SetExprAllowed, SetContexts, PopContext, Reread, Withdraw, Save, Back, TakeErrors}
use Rattle.ecma_syntax.specs.declared.context.Context.{Context}
use Rattle.ecma_syntax.specs.declared.settings.NumberRule.{NumberRule}
use Rattle.ecma_syntax.specs.declared.settings.NumberRule.TheVariants.{Crate, Standard}
use Rattle.ecma_token.specs.Kinds.{kind_of}
use Rattle.ecma_token.specs.View.{ErrorView, SpannedView, TokenView}
use Rattle.ecma_clean_reads.specs.BareReads.{any_recorded, is_recorded}
use Rattle.ecma_state.specs.Clean.{each_step, is_plain_step, takes_none}
use Rattle.ecma_clean_reads.proofs.Disposed.{some-recorded}
use Rattle.ecma_clean_reads.proofs.Spoiling.{good-step, is_good, is_unrefused, is_unspoilt, read-poised, spoilt-is-bad, unspoilt-left, unspoilt-right}
use Rattle.ecma_clean.specs.Rules.{CleanRunsByBothRules, by_rule, session_by}
use Rattle.ecma_clean.specs.Sharing.{begin}

-- what a read goes by, by the crate's rule
abbrev mode_by_crate : Mode → Mode
mode_by_crate mode = record mode { settings = by_rule Crate mode.settings }

-- By the crate's rule the same is found, unless by the standard's the token is refused or has a fault that is recorded
data IsByRule (context : Context) (standard crate : Reading) : Type 0 where
  Same : crate ≡ standard → IsByRule context standard crate
  Refused : (t : SpannedView) → standard.found ≡ Some t → is_unrefused t ≡ false → IsByRule context standard crate
  Faulty : any_recorded context standard.faults ≡ true → IsByRule context standard crate

-- A number

or-right : (a b : Bool) → b ≡ true → (a || b) ≡ true
or-right true b e = refl
or-right false b e = e

some-always : (context : Context) (n : ℕ) (faults : List Fault) → has_clean_faults faults ≡ false → any_recorded context (map (fault_behind n) faults) ≡ true
some-always context n [] h = cc
some-always context n (f ∷ faults) h = go f.blame h (some-always context n faults)
  where
    go : (blame : Blame) → (not (is_always blame) && has_clean_faults faults) ≡ false → (has_clean_faults faults ≡ false → any_recorded context (map (fault_behind n) faults) ≡ true)
        → (is_recorded context blame || any_recorded context (map (fault_behind n) faults)) ≡ true
    go Always h more = refl
    go Strict h more = or-right (is_recorded context Strict) _ (more h)
    go Module h more = or-right (is_recorded context Module) _ (more h)

-- a number behind a gap
abbrev number_reading : GapView → Cursor → Scanned TokenView → Reading
number_reading gap here s = token_reading gap (found_at token_behind (place here) s) [] (passed (length s.spelling) here)

spoils : (context : Context) (gap : GapView) (here : Cursor) (s : Scanned TokenView) (crate : Reading) → is_clean s ≡ false → IsByRule context (number_reading gap here s) crate
spoils context gap here s crate h = go s.value refl
  where
    go : (value : Result TokenView ErrorView) → s.value ≡ value → IsByRule context (number_reading gap here s) crate
    go (Err error) e = Refused _ refl (ap (λ value. not (is_error (kind_of (token_of (value_behind token_behind (place here) value))))) e)
    go (Ok t) e =
        let recorded : Fault → Bool = λ f. is_recorded context f.blame in
        let faults : has_clean_faults s.faults ≡ false = sym (ap (λ value. is_accepted value && has_clean_faults s.faults) e) ∙ h in
        Faulty (list_any-append recorded gap.faults (map (fault_behind (place here)) s.faults) ∙ or-right (list_any recorded gap.faults) _ (some-always context (place here) s.faults faults))

number-by-rule : (context : Context) (legacy : Bool) (gap : GapView) (here : Cursor) (text : Text)
    → IsByRule context (number_reading gap here (number legacy Standard text)) (number_reading gap here (number legacy Crate text))
number-by-rule context legacy gap here text = go (is_clean (number legacy Standard text)) refl
  where
    go : (clean : Bool) → is_clean (number legacy Standard text) ≡ clean
        → IsByRule context (number_reading gap here (number legacy Standard text)) (number_reading gap here (number legacy Crate text))
    go true e = Same (ap (number_reading gap here) (clean_by_both_rules legacy text e))
    go false e = spoils context gap here (number legacy Standard text) _ e

-- One read

abbrev opened_reading : Mode → GapView → Cursor → Text → Lookahead → Reading
opened_reading mode gap here text opened =
    token_reading gap (placed opened mode (place here) (read_opened opened mode text)) (comments_in opened mode (place here) text) (passed (length (read_opened opened mode text).spelling) here)

opened-by-rule : (context : Context) (mode : Mode) (gap : GapView) (here : Cursor) (text : Text) (opened : Lookahead) → mode.settings.numbers ≡ Standard
    → IsByRule context (opened_reading mode gap here text opened) (opened_reading (mode_by_crate mode) gap here text opened)
opened-by-rule context mode gap here text opens.Template e = Same refl
opened-by-rule context mode gap here text opens.Number e =
    subst
    (λ (rule : NumberRule). IsByRule context (number_reading gap here (number (ts1085 mode) rule text)) (number_reading gap here (number (ts1085 mode) Crate text)))
    (sym e)
    (number-by-rule context (ts1085 mode) gap here text)
opened-by-rule context mode gap here text opens.String e = Same refl
opened-by-rule context mode gap here text opens.Word e = Same refl
opened-by-rule context mode gap here text opens.Bars e = Same refl
opened-by-rule context mode gap here text opens.Other e = Same refl

behind-by-rule : (context : Context) (mode : Mode) (gap : GapView) (here : Cursor) (text : Text) → mode.settings.numbers ≡ Standard
    → IsByRule context (reading_behind mode gap here text) (reading_behind (mode_by_crate mode) gap here text)
behind-by-rule context mode gap here [] e = Same refl
behind-by-rule context mode gap here (c ∷ cs) e = opened-by-rule context mode gap here (c ∷ cs) (lookahead mode gap.line_break (c ∷ cs)) e

code-by-rule : (context : Context) (mode : Mode) (input : Cursor) → mode.settings.numbers ≡ Standard → IsByRule context (reading_code mode input) (reading_code (mode_by_crate mode) input)
unfolding reading_code
code-by-rule context mode input e = behind-by-rule context mode (gap_in mode (place input) (rest input)) (behind_gap mode input) (rest (behind_gap mode input)) e

reading-by-rule : (context : Context) (mode : Mode) (input : Cursor) → mode.settings.numbers ≡ Standard → IsByRule context (reading mode input) (reading (mode_by_crate mode) input)
reading-by-rule context mode input e = go (stands_shebang mode (rest input))
  where
    go : (b : Bool) → IsByRule context (reading_if b mode input) (reading_if b (mode_by_crate mode) input)
    go true = Same refl
    go false = code-by-rule context mode input e

next-by-rule : (s : Session) → s.settings.numbers ≡ Standard → IsByRule s.context (reading_of (state_of s)) (reading_of (state_of (session_by Crate s)))
next-by-rule s e = go s.reread
  where
    go : (reread : Option BytePos) → IsByRule s.context (reading_from reread (state_of s)) (reading_from reread (state_of (session_by Crate s)))
    go None = reading-by-rule s.context (mode_of (state_of s)) s.input e
    go (Some slash) = Same refl

-- A run

given-refused : (again flag : Bool) (t : SpannedView) (past : Past) → is_unrefused t ≡ false → list_all is_unrefused (kept_back (given_in again flag (Some t) ∷ past)) ≡ false
given-refused true flag t past h = unspoilt-left (is_unrefused t) _ h
given-refused false flag t past h = unspoilt-left (is_unrefused t) _ h

read-same : (s : Session) (steps : List Step) → s.settings.numbers ≡ Standard → s.context.ignore_error ≡ false → is_good (act_on s Read) steps ≡ true
    → act_on (session_by Crate s) Read ≡ session_by Crate (act_on s Read)
read-same s steps e obeys good = go (next-by-rule s e)
  where
    never : {A : Type 0} → is_unspoilt (act_on s Read) ≡ false → A
    never spoilt = let no : true ≡ false = sym good ∙ spoilt-is-bad (act_on s Read) steps (read-poised s) spoilt in cc

    go : IsByRule s.context (reading_of (state_of s)) (reading_of (state_of (session_by Crate s))) → act_on (session_by Crate s) Read ≡ session_by Crate (act_on s Read)
    go (Same same) = ap (λ r. (acted_on (session_by Crate s) r).after) same
    go (Refused t found refused) =
        never
        (unspoilt-left _ _
        (ap (λ answer. list_all is_unrefused (kept_back (given_in (is_some s.reread) (reading_of (state_of s)).end_flag answer ∷ s.past))) found
        ∙ given-refused (is_some s.reread) (reading_of (state_of s)).end_flag t s.past refused))
    go (Faulty recorded) = never (unspoilt-right _ _ (some-recorded s.context s.errors (reading_of (state_of s)).faults obeys recorded))

popped-same : (s : Session) (contexts : Contexts) → (popped_from (session_by Crate s) contexts).after ≡ session_by Crate (popped_from s contexts).after
popped-same s [] = refl
popped-same s (top ∷ below) = refl

reread-same : (s : Session) (slash : Option BytePos) → (reread_from (session_by Crate s) slash).after ≡ session_by Crate (reread_from s slash).after
reread-same s None = refl
reread-same s (Some p) = refl

step-same : (s : Session) (step : Step) (steps : List Step) → s.settings.numbers ≡ Standard → s.context.ignore_error ≡ false → is_good (act_on s step) steps ≡ true
    → act_on (session_by Crate s) step ≡ session_by Crate (act_on s step)
step-same s Read steps e obeys good = read-same s steps e obeys good
step-same s (SetCtx context) steps e obeys good = refl
step-same s (SetExprAllowed allowed) steps e obeys good = refl
step-same s (SetContexts contexts) steps e obeys good = refl
step-same s PopContext steps e obeys good = popped-same s s.contexts
step-same s Reread steps e obeys good = reread-same s (last_slash (seen_of s.past))
step-same s Withdraw steps e obeys good = refl
step-same s TakeErrors steps e obeys good = refl
step-same s Save steps e obeys good = refl
step-same s (Back n) steps e obeys good = refl

-- the rule stays, and so do errors that are not ignored
record Goes (s : Session) : Type 0 where
  standard : s.settings.numbers ≡ Standard
  obeys : s.context.ignore_error ≡ false

goes-on : (s : Session) (step : Step) → is_plain_step s step ≡ true → Goes s → Goes (act_on s step)
goes-on s Read plain goes = record { standard = goes.standard; obeys = goes.obeys }
goes-on s (SetCtx context) plain goes = record { standard = goes.standard; obeys = not-true context.ignore_error plain }
goes-on s (SetExprAllowed allowed) plain goes = record { standard = goes.standard; obeys = goes.obeys }
goes-on s (SetContexts contexts) plain goes = cc
goes-on s PopContext plain goes = cc
goes-on s Reread plain goes = go (last_slash (seen_of s.past))
  where
    go : (slash : Option BytePos) → Goes (reread_from s slash).after
    go None = goes
    go (Some p) = record { standard = goes.standard; obeys = goes.obeys }
goes-on s Withdraw plain goes = record { standard = goes.standard; obeys = goes.obeys }
goes-on s TakeErrors plain goes = record { standard = goes.standard; obeys = goes.obeys }
goes-on s Save plain goes = goes
goes-on s (Back n) plain goes = goes

runs-same : (s : Session) (steps : List Step) → Goes s → is_good s steps ≡ true → act_all (session_by Crate s) steps ≡ session_by Crate (act_all s steps)
runs-same s [] goes good = refl
runs-same s (step ∷ steps) goes good =
    let after = act_on s step in
    let all = and_parts (each_step is_plain_step s (step ∷ steps)) _ good in
    let plain = (and_parts (is_plain_step s step) (each_step is_plain_step after steps) all.0).0 in
    let takes = (and_parts (takes_none s step) (each_step takes_none after steps) (and_parts (each_step takes_none s (step ∷ steps)) _ all.1).0).0 in
    let more : is_good after steps ≡ true = sym (good-step s step steps plain takes) ∙ good in
    ap (λ t. act_all t steps) (step-same s step steps goes.standard goes.obeys more) ∙ runs-same after steps (goes-on s step plain goes) more

pub clean_runs_by_both_rules : CleanRunsByBothRules
clean_runs_by_both_rules settings start text steps good =
    let begun = start_of (by_rule Standard settings) (begin start text) in
    let same = runs-same begun (counting steps) (record { standard = refl; obeys = refl }) good in
    record {
      kept = ap kept_tokens same;
      errors = ap (λ t. t.errors) same;
      comments = ap (λ t. t.comments) same;
      all = same;
    }
