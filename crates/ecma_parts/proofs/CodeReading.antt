-- What a token of code was read from, and where the same is read again.
use Rattle.std.proofs.Common.{◌≡◌, ℕ, ◌<◌, Bool, true, false, not, ◌||◌, List, [], ◌∷◌, ◌++◌, drop, length, take, take-append-drop, Result, Ok, Err, refl, sym, ap, ◌∙◌, subst, arith}
use Rattle.std.proofs.lemmas.Bool.{and_from, or_from, or_parts}
use Rattle.clean_runs.specs.Grammar.{WaitsWithin, token}
use Rattle.clean_runs.specs.Parts.{Again}
use Rattle.ecma_reads.proofs.FrontLemmas.{token_at-front, token_at-some}
use Rattle.ecma_joining.proofs.CodeLaws.{code_is_token}
use Rattle.ecma_joining.specs.Code.{code_at, code_mode}
use Rattle.ecma_joining.specs.Separators.{IsGap}
use Rattle.ecma_place.specs.Text.{Text}
use Rattle.ecma_reads.specs.Found.{Fault, Scanned}
use Rattle.ecma_reads.specs.Gaps.{behind_gap, gap_faults, has_line_break}
use Rattle.ecma_reads.specs.Locality.{has_clean_faults, is_accepted, is_always, is_clean}
use Rattle.ecma_reads.specs.declared.found.Blame.{Blame}
use Rattle.ecma_reads.specs.declared.found.Blame.TheVariants.{Always, Module, Strict}
use Rattle.ecma_reads.specs.declared.gap_mode.GapMode.{GapMode}
use Rattle.ecma_state.specs.Contexts.{innermost}
use Rattle.ecma_state.specs.Mode.{gap_mode, is_template}
use Rattle.ecma_state.specs.State.{is_error}
use Rattle.ecma_state.specs.TokenAt.{is_empty, token_at, token_of}
use Rattle.ecma_syntax.specs.declared.context.Context.{Context}
use Rattle.ecma_token.specs.Kinds.{kind_of}
use Rattle.ecma_token.specs.View.{ErrorView, TokenView}
use Rattle.ecma_parts.specs.BareReads.{Bare, any_recorded, bare, code, end_if, found_behind, is_recorded, is_refused, token_behind_gap, token_if}
use Rattle.ecma_parts.specs.Bearing.{Bearing, bare_mode}

-- the gap of a read, and what it reads of code behind one
abbrev pub gap_of : Bearing → GapMode
gap_of b = gap_mode (bare_mode b)

abbrev pub read_behind : Bearing → Bool → Text → Scanned TokenView
read_behind b flag text = code_at (code_mode (bare_mode b)) flag text

-- Faults

not_recorded : (context : Context) (faults more : List Fault) → any_recorded context (faults ++ more) ≡ false → any_recorded context more ≡ false
not_recorded context [] more h = h
not_recorded context (f ∷ faults) more h =
    not_recorded context faults more (or_parts (is_recorded context f.blame) (any_recorded context (faults ++ more)) h).1

pub clean_faults : (context : Context) (faults : List Fault) → any_recorded context faults ≡ false → has_clean_faults faults ≡ true
clean_faults context [] h = refl
clean_faults context (f ∷ faults) h =
    let parts = or_parts (is_recorded context f.blame) (any_recorded context faults) h in
    and_from (not (is_always f.blame)) (has_clean_faults faults) (go f.blame parts.0) (clean_faults context faults parts.1)
  where
    go : (blame : Blame) → is_recorded context blame ≡ false → not (is_always blame) ≡ true
    go Always h = cc
    go Strict h = refl
    go Module h = refl

none_behind : (faults more : List Fault) → not (is_empty (faults ++ more)) ≡ false → not (is_empty more) ≡ false
none_behind [] more h = h
none_behind (f ∷ faults) more h = cc

pub value_is : (value : Result TokenView ErrorView) → is_error (kind_of (token_of value)) ≡ false → value ≡ Ok (token_of value)
value_is (Ok t) h = refl
value_is (Err error) h = cc

-- what is neither refused nor has a fault that is recorded is clean
pub clean_by : (context : Context) (s : Scanned TokenView) → is_refused s ≡ false → any_recorded context s.faults ≡ false → is_clean s ≡ true
clean_by context s accepted none =
    and_from (is_accepted s.value) (has_clean_faults s.faults) (ap is_accepted (value_is s.value accepted)) (clean_faults context s.faults none)

-- What was read

pub record IsFound (b : Bearing) (flag : Bool) (s : Scanned TokenView) (t : Bare) (v : Bool) : Type 0 where
  pub given : t ≡ bare flag s
  pub accepted : is_refused s ≡ false
  pub none : any_recorded b.context s.faults ≡ false
  pub within : WaitsWithin (not (is_empty s.faults)) v

-- a token stands behind a gap
record Stands (b : Bearing) (flag : Bool) (left : Text) (t : Bare) (here : Text) (v : Bool) : Type 0 where
  c : ℕ
  cs : Text
  left_is : left ≡ c ∷ cs
  here_is : here ≡ c ∷ cs
  found : IsFound b flag (token_at (bare_mode b) flag (c ∷ cs)) t v

stands : (b : Bearing) (flag : Bool) (faults : List Fault) (left : Text) (t : Bare) (here : Text) (v : Bool) → found_behind b flag faults left ≡ token t here v → Stands b flag left t here v
stands b flag faults [] t here v h = go (any_recorded b.context faults) h
  where
    go : (r : Bool) → end_if r (not (is_empty faults)) ≡ token t here v → Stands b flag [] t here v
    go true h = cc
    go false h = cc
stands b flag faults (c ∷ cs) t here v h = go (is_refused s || any_recorded b.context (faults ++ s.faults)) refl h
  where
    s : Scanned TokenView
    s = token_at (bare_mode b) flag (c ∷ cs)

    go : (r : Bool) → (is_refused s || any_recorded b.context (faults ++ s.faults)) ≡ r → token_if r (bare flag s) (c ∷ cs) (not (is_empty (faults ++ s.faults))) ≡ token t here v
        → Stands b flag (c ∷ cs) t here v
    go true e h = cc
    go false e h =
        let parts = or_parts (is_refused s) (any_recorded b.context (faults ++ s.faults)) e in
        let given : t ≡ bare flag s = cc in
        let place : here ≡ c ∷ cs = cc in
        let waits : not (is_empty (faults ++ s.faults)) ≡ v = cc in
        record {
          c = c;
          cs = cs;
          left_is = refl;
          here_is = place;
          found =
              record {
                given = given;
                accepted = parts.0;
                none = not_recorded b.context faults s.faults parts.1;
                within = λ none. none_behind faults s.faults (waits ∙ none);
              };
        }

-- a front of a text that is not empty, and what follows it
record Cut (spelling text : Text) : Type 0 where
  head : ℕ
  own : Text
  behind : Text
  written : spelling ≡ head ∷ own
  whole : text ≡ head ∷ (own ++ behind)

cut : (spelling text : Text) → take (length spelling) text ≡ spelling → 0 < length spelling → Cut spelling text
cut [] text front some = absurd (omega arith)
cut (c ∷ cs) text front some =
    record {
      head = c;
      own = cs;
      behind = drop (length (c ∷ cs)) text;
      written = refl;
      whole = sym (take-append-drop (length (c ∷ cs)) text) ∙ ap (λ x. x ++ drop (length (c ∷ cs)) text) front;
    }

-- what a token of code was read from
pub record CodeRead (b : Bearing) (text : Text) (t : Bare) (here : Text) (v : Bool) : Type 0 where
  pub flag : Bool
  pub line_break : has_line_break (gap_of b) text ≡ flag
  pub left : behind_gap (gap_of b) text ≡ here
  pub found : IsFound b flag (read_behind b flag here) t v
  pub head : ℕ
  pub own : Text
  pub behind : Text
  pub written : (read_behind b flag here).spelling ≡ head ∷ own
  pub whole : here ≡ head ∷ (own ++ behind)

pub code_read : (b : Bearing) (text : Text) (t : Bare) (here : Text) (v : Bool) → is_template (innermost b.contexts) ≡ false → code b text ≡ token t here v → CodeRead b text t here v
unfolding code
code_read b text t here v template h =
    let flag = has_line_break (gap_of b) text in
    let it = stands b flag (gap_faults (gap_of b) text) (behind_gap (gap_of b) text) t here v h in
    let read : token_at (bare_mode b) flag (it.c ∷ it.cs) ≡ read_behind b flag here =
    code_is_token (bare_mode b) flag (it.c ∷ it.cs) template ∙ ap (read_behind b flag) (sym it.here_is) in
    let front : take (length (read_behind b flag here).spelling) here ≡ (read_behind b flag here).spelling =
    ap (λ s. take (length s.spelling) here) (sym read)
    ∙ ap (take (length (token_at (bare_mode b) flag (it.c ∷ it.cs)).spelling)) it.here_is
    ∙ token_at-front (bare_mode b) flag (it.c ∷ it.cs)
    ∙ ap (λ s. s.spelling) read in
    let some : 0 < length (read_behind b flag here).spelling =
    subst (λ s. 0 < length s.spelling) read (token_at-some (bare_mode b) flag it.c it.cs template) in
    let parts = cut (read_behind b flag here).spelling here front some in
    record {
      flag = flag;
      line_break = refl;
      left = it.left_is ∙ sym it.here_is;
      found = subst (λ s. IsFound b flag s t v) read it.found;
      head = parts.head;
      own = parts.own;
      behind = parts.behind;
      written = parts.written;
      whole = parts.whole;
    }

-- behind a gap with the same flag and no fault the same token is read again, where code reads it so
pub read_again : (b : Bearing) (flag : Bool) (here : Text) (t : Bare) (v : Bool) → is_template (innermost b.contexts) ≡ false → IsFound b flag (read_behind b flag here) t v
    → (text : Text) (c : ℕ) (cs : Text) → IsGap (gap_of b) text flag (c ∷ cs) → read_behind b flag (c ∷ cs) ≡ read_behind b flag here → Again (code b text) t (c ∷ cs) v
unfolding code
read_again b flag here t v template found text c cs gap alike =
    let s = read_behind b flag here in
    let read : token_at (bare_mode b) flag (c ∷ cs) ≡ s = code_is_token (bare_mode b) flag (c ∷ cs) template ∙ alike in
    record {
      waits = not (is_empty s.faults);
      is =
          ap (λ f. found_behind b f (gap_faults (gap_of b) text) (behind_gap (gap_of b) text)) gap.line_break
          ∙ ap (λ f. found_behind b flag f (behind_gap (gap_of b) text)) gap.faults
          ∙ ap (found_behind b flag []) gap.behind
          ∙ ap (λ x. token_behind_gap b.context flag [] x (c ∷ cs)) read
          ∙ ap (λ x. token_if x (bare flag s) (c ∷ cs) (not (is_empty s.faults))) (or_from (is_refused s) (any_recorded b.context s.faults) found.accepted found.none)
          ∙ ap (λ x. token x (c ∷ cs) (not (is_empty s.faults))) (sym found.given);
      within = found.within;
    }
