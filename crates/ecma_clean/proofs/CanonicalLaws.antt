-- The laws of canonical texts.
use mathlib.Core.List.{map-map}
use Rattle.std.proofs.Common.{◌≡◌, ◌∙◌, ℕ, true, false, ◌&&◌, ◌||◌, List, [], ◌∷◌, ◌++◌, Option, Some, append-nil, map, reverse, refl, sym, ap, subst}
use Rattle.std.proofs.lemmas.Bool.{and_parts}
use Rattle.std.proofs.lemmas.List.{map-append, reverse-reverse}
use Rattle.std.proofs.lemmas.Grind.{reverse_onto}
use Rattle.std.specs.List.{list_all}
use Rattle.clean_runs.specs.Clean.{canon, canon_behind}
use Rattle.clean_runs.specs.Grammar.{Counting, Laws}
use Rattle.clean_runs.specs.Moments.{Moment}
use Rattle.clean_runs.specs.Parts.{is_text, joint}
use Rattle.clean_runs.specs.Walk.{IsClean, Walked, walk_first}
use Rattle.clean_runs.proofs.Alike.{run_alike}
use Rattle.clean_runs.proofs.PartsLaws.{part_laws, start_holds}
use Rattle.clean_runs.proofs.WalkLemmas.{walk_first-clean, walk_first-complete}
use Rattle.ecma_place.specs.Cursor.{Cursor}
use Rattle.ecma_place.specs.Text.{Text}
use Rattle.ecma_state.specs.Counting.{counting}
use Rattle.ecma_state.specs.Run.{act_on, session, start_of}
use Rattle.ecma_state.specs.Session.{Session, kept_back, kept_of, kept_tokens}
use Rattle.ecma_state.specs.TokenAt.{is_empty}
use Rattle.ecma_state.specs.declared.settings.Settings.{Settings}
use Rattle.ecma_state.specs.declared.step.Step.{Step}
use Rattle.ecma_state.specs.declared.step.Step.TheVariants.{Read, SetCtx, SetExprAllowed, SetContexts, PopContext, Reread, Withdraw, Save, Back, TakeErrors}
use Rattle.ecma_token.specs.Kinds.{kind_of}
use Rattle.ecma_token.specs.View.{TokenView}
use Rattle.ecma_token.specs.declared.kind.TokenKind.{TokenKind}
use Rattle.ecma_token.specs.declared.kind.TokenKind.TheVariants.{Template}
use Rattle.ecma_clean_reads.specs.BareReads.{Bare}
use Rattle.ecma_clean_reads.specs.Bearing.{Bearing, bearing_of}
use Rattle.ecma_clean_reads.specs.Canonical.{Own, between, canonical_behind, canonical_of, is_template_text, own_in}
use Rattle.ecma_state.specs.Clean.{each_step, is_plain_step}
use Rattle.ecma_clean_reads.specs.Instance.{Change, lexer_grammar, lexer_parts, role_of, steps_as}
use Rattle.ecma_clean.specs.Sharing.{CanonicalIsRead, CanonicalIsShared, CanonicalRunsAlike, IsReadCleanly, begin, canonical_text_of, owned, stages_of}
use Rattle.ecma_clean_reads.proofs.InstanceLaws.{lexer_parts_keep, start_is_plain}
use Rattle.ecma_clean_reads.proofs.TokensRead.{own_of}
use Rattle.ecma_clean.proofs.WalkedRuns.{begins-start, walked-start}
use Rattle.ecma_clean.proofs.Walking.{IsWalked, clean, is_plain_anywhere, owned_back, stage_of, unclean}

-- The canonical text of tokens without places

text-role : (kind : TokenKind) → is_text (role_of kind) ≡ is_template_text kind
text-role Template = refl
text-role kind = refl

between-is : (p u : Bare) → lexer_grammar.between p u ≡ between (own_of p) (own_of u)
between-is p u =
    ap (λ b. joint (b || is_text (role_of (kind_of u.kind))) u.flag) (text-role (kind_of p.kind))
    ∙ ap (λ b. joint (is_template_text (kind_of p.kind) || b) u.flag) (text-role (kind_of u.kind))

canon_behind-is : (p : Bare) (us : List Bare) → canon_behind lexer_grammar p us ≡ canonical_behind (own_of p) (map own_of us)
canon_behind-is p [] = refl
canon_behind-is p (u ∷ us) =
    ap (λ g. g ++ (u.bytes ++ canon_behind lexer_grammar u us)) (between-is p u)
    ∙ ap (λ more. between (own_of p) (own_of u) ++ (u.bytes ++ more)) (canon_behind-is u us)

canon-is : (us : List Bare) → canon lexer_grammar us ≡ canonical_of (map own_of us)
canon-is [] = refl
canon-is (u ∷ us) = ap (λ more. u.bytes ++ more) (canon_behind-is u us)

-- Steps of a clean run are plain by themselves

plain-step : (s : Session) (step : Step) → is_plain_step s step ≡ true → is_plain_anywhere step ≡ true
plain-step s Read h = refl
plain-step s (SetCtx context) h = h
plain-step s (SetExprAllowed allowed) h = refl
plain-step s (SetContexts contexts) h = h
plain-step s PopContext h = h
plain-step s Reread h = refl
plain-step s Withdraw h = refl
plain-step s Save h = refl
plain-step s (Back n) h = refl
plain-step s TakeErrors h = refl

plain-steps : (s : Session) (steps : List Step) → each_step is_plain_step s steps ≡ true → list_all is_plain_anywhere steps ≡ true
plain-steps s [] h = refl
plain-steps s (step ∷ steps) h =
    let both = and_parts (is_plain_step s step) (each_step is_plain_step (act_on s step) steps) h in
    ap (λ b. b && list_all is_plain_anywhere steps) (plain-step s step both.0) ∙ plain-steps (act_on s step) steps both.1

-- What is walked of a text

abbrev begins : Settings → Bearing
begins settings = bearing_of (start_of settings (begin 0 []))

-- a text is read cleanly, as is walked
record IsReadAs (settings : Settings) (start : ℕ) (text : Text) (steps : List Step) (x : Walked Bearing TokenView) : Type 0 where
  clean : IsReadCleanly settings start text steps
  owned_is : owned settings start text steps ≡ map own_of x.kept
  stages_are : stages_of settings start text steps ≡ map stage_of x.moments

map-reverse : {A B : Type 0} (f : A → B) (xs : List A) → map f (reverse xs) ≡ reverse (map f xs)
map-reverse f [] = refl
map-reverse f (x ∷ xs) =
    ap (map f) (reverse_onto xs x [])
    ∙ map-append f (reverse xs) (x ∷ [])
    ∙ ap (λ l. l ++ (f x ∷ [])) (map-reverse f xs)
    ∙ sym (reverse_onto (map f xs) (f x) [])

owned-is : (c : Cursor) (s : Session) (us : List Own) → owned_back c s ≡ reverse us ++ [] → map (own_in c) (kept_tokens s) ≡ us
owned-is c s us e =
    map-reverse (own_in c) (map kept_of (kept_back s.past))
    ∙ ap reverse (map-map (own_in c) kept_of (kept_back s.past) ∙ e ∙ append-nil (reverse us))
    ∙ reverse-reverse us

-- steps that are plain are walked, whatever the text is
walked-text : (settings : Settings) (start : ℕ) (text : Text) (steps : List Step) → list_all is_plain_anywhere (counting steps) ≡ true
    → IsWalked (begin start text) (start_of settings (begin start text)) (counting steps) [] (walk_first lexer_grammar (begins settings) false text (steps_as (counting steps)))
walked-text settings start text steps plain =
    walked-start (begin start text) (start_of settings (begin start text)) false (counting steps) plain (begins-start settings (begin start text))

-- what is walked to its end is read so
read-as : (settings : Settings) (start : ℕ) (text : Text) (steps : List Step) (x : Walked Bearing TokenView) → IsWalked (begin start text) (start_of settings (begin start text)) (counting steps) [] (Some x)
    → IsReadAs settings start text steps x
read-as settings start text steps x (clean y good kept through) = record {
  clean = good;
  owned_is = owned-is (begin start text) (session settings (begin start text) steps) (map own_of x.kept) kept;
  stages_are = through;
}

record WalksTo (settings : Settings) (start : ℕ) (text : Text) (steps : List Step) : Type 0 where
  to : Walked Bearing TokenView
  walks : walk_first lexer_grammar (begins settings) false text (steps_as (counting steps)) ≡ Some to
  reads : IsReadAs settings start text steps to

-- what is read cleanly is walked to its end
walks-to : (settings : Settings) (start : ℕ) (text : Text) (steps : List Step) → IsReadCleanly settings start text steps → WalksTo settings start text steps
walks-to settings start text steps good =
    go (walk_first lexer_grammar (begins settings) false text (steps_as (counting steps))) refl (walked-text settings start text steps plain)
  where
    plain : list_all is_plain_anywhere (counting steps) ≡ true
    plain = plain-steps (start_of settings (begin start text)) (counting steps) (and_parts (each_step is_plain_step (start_of settings (begin start text)) (counting steps)) _ good).0

    go : (o : Option (Walked Bearing TokenView)) → walk_first lexer_grammar (begins settings) false text (steps_as (counting steps)) ≡ o
        → IsWalked (begin start text) (start_of settings (begin start text)) (counting steps) [] o → WalksTo settings start text steps
    go o e (unclean bad) = let never : true ≡ false = sym good ∙ bad in cc
    go o e (clean x good2 kept through) = record { to = x; walks = e; reads = read-as settings start text steps x (clean x good2 kept through) }

-- The canonical text is walked to the same

lexer_laws : Laws Bearing Change TokenView lexer_grammar
lexer_laws = part_laws lexer_parts lexer_parts_keep

walked-again : (settings : Settings) (text : Text) (cs : List (Counting Change)) (x : Walked Bearing TokenView) → IsClean lexer_grammar (begins settings) false text cs x
    → walk_first lexer_grammar (begins settings) false (canonical_of (map own_of x.kept)) cs ≡ Some x
unfolding lexer_laws
walked-again settings text cs x (d, is) =
    let plain = start_holds lexer_parts lexer_parts_keep (begins settings) text (record { plain = start_is_plain settings (begin 0 []); start = refl; outside = refl }) in
    let (d2, same) = run_alike lexer_grammar lexer_laws (λ e. e) plain d in
    ap (λ t. walk_first lexer_grammar (begins settings) false t cs) (sym (canon-is x.kept))
    ∙ walk_first-complete lexer_grammar d2
    ∙ ap (λ ms. walked x.kept ms) (same ∙ is)
  where
    walked : List Bare → List (Moment Bearing TokenView) → Option (Walked Bearing TokenView)
    walked ks ms = Some (record { kept = ks; moments = ms })

-- so the canonical text is read to the same
reads-again : (settings : Settings) (start : ℕ) (text : Text) (steps : List Step) (k : WalksTo settings start text steps) → IsReadAs settings start (canonical_text_of settings start text steps) steps k.to
reads-again settings start text steps k =
    read-as settings start (canonical_text_of settings start text steps) steps k.to
    (subst (IsWalked (begin start (canonical_text_of settings start text steps)) (start_of settings (begin start (canonical_text_of settings start text steps))) (counting steps) []) walks
    (walked-text settings start (canonical_text_of settings start text steps) steps plain))
  where
    plain : list_all is_plain_anywhere (counting steps) ≡ true
    plain = plain-steps (start_of settings (begin start text)) (counting steps) (and_parts (each_step is_plain_step (start_of settings (begin start text)) (counting steps)) _ k.reads.clean).0

    is_clean_run : IsClean lexer_grammar (begins settings) false text (steps_as (counting steps)) k.to
    is_clean_run = walk_first-clean lexer_grammar (begins settings) false text (steps_as (counting steps)) k.to k.walks

    walks : walk_first lexer_grammar (begins settings) false (canonical_text_of settings start text steps) (steps_as (counting steps)) ≡ Some k.to
    walks =
        ap (λ us. walk_first lexer_grammar (begins settings) false (canonical_of us) (steps_as (counting steps))) k.reads.owned_is
        ∙ walked-again settings text (steps_as (counting steps)) k.to is_clean_run

pub canonical_is_read : CanonicalIsRead
canonical_is_read settings start text steps good =
    let k = walks-to settings start text steps good in
    let again = reads-again settings start text steps k in
    let same = again.owned_is ∙ sym k.reads.owned_is in
    record { clean = again.clean; agrees = same; itself = ap canonical_of same }

pub canonical_is_shared : CanonicalIsShared
canonical_is_shared settings start a b steps good good2 = (
  λ same. sym (canonical_is_read settings start a steps good).agrees ∙ ap (λ t. owned settings start t steps) same ∙ (canonical_is_read settings start b steps good2).agrees,
  ap canonical_of,
)

none-recorded : (ms : List (Moment Bearing TokenView)) → list_all (λ stage. is_empty stage.recorded) (map stage_of ms) ≡ true
none-recorded [] = refl
none-recorded (m ∷ ms) = none-recorded ms

pub canonical_runs_alike : CanonicalRunsAlike
canonical_runs_alike settings start text steps good =
    let k = walks-to settings start text steps good in
    let again = reads-again settings start text steps k in
    (again.stages_are ∙ sym k.reads.stages_are, ap (list_all (λ stage. is_empty stage.recorded)) k.reads.stages_are ∙ none-recorded k.to.moments)
