-- What code keeps as a part of the grammar: its tokens are read again behind one character, or none.
use Rattle.std.proofs.Common.{◌≡◌, ℕ, Bool, true, false, ◌||◌, ◌==◌, [], ◌∷◌, ◌++◌, drop, length, take-append-drop, None, Result, Ok, Err, refl, sym, ap, ◌∙◌, subst, eqb-true}
use Rattle.std.proofs.lemmas.Bool.{or_left}
use Rattle.clean_runs.specs.Grammar.{Final, again, ended, same, token}
use Rattle.clean_runs.specs.Parts.{Again, Follows, is_text, joint, may_open}
use Rattle.ecma_reads.proofs.FrontLemmas.{expression-front}
use Rattle.ecma_joining.proofs.BoundariesLaws.{nothing_behind_the_gap}
use Rattle.ecma_joining.proofs.CodeKindsLaws.{closer_is_written, code_holds_no_break, code_is_neither}
use Rattle.ecma_joining.proofs.CodeLaws.{code_begins_no_gap, code_is_local, code_is_token, code_opens_no_shebang}
use Rattle.ecma_joining.proofs.OwnContextsLemmas.{contexts_stay_own, templates_are_opened}
use Rattle.ecma_joining.proofs.SeparatorsLaws.{closers_are_read_again, separator_is_the_gap, slash_is_read_again, start_is_the_gap}
use Rattle.ecma_joining.specs.Code.{CodeMode, code_mode}
use Rattle.ecma_joining.specs.CodeKinds.{is_closer, is_closer_text, is_text_or_line}
use Rattle.ecma_joining.specs.OwnContexts.{opens_text}
use Rattle.ecma_joining.specs.Separators.{CloserAgain, IsGap, SlashAgain, separator}
use Rattle.ecma_place.specs.Text.{Text}
use Rattle.ecma_reads.specs.Expressions.{opens_expression, regular_expression}
use Rattle.ecma_reads.specs.Found.{Scanned, token_behind, value_behind}
use Rattle.ecma_reads.specs.Gaps.{element, elements_under, faults_of, gap_cutter, has_line_break}
use Rattle.ecma_reads.specs.Locality.{ends_template, is_clean, separates}
use Rattle.ecma_reads.specs.Pieces.{spelled}
use Rattle.ecma_reads.specs.Shebangs.{opens_shebang}
use Rattle.ecma_reads.specs.Templates.{template_value}
use Rattle.ecma_state.specs.Contexts.{innermost}
use Rattle.ecma_state.specs.Mode.{is_template}
use Rattle.ecma_state.specs.State.{is_shebang, is_slash}
use Rattle.ecma_state.specs.TokenAt.{lookahead, placed, token_at, token_of}
use Rattle.ecma_state.specs.Transition.{tpl_on_top}
use Rattle.ecma_state.specs.declared.mode.Mode.{Mode}
use Rattle.ecma_state.specs.declared.lookahead.Lookahead.{Lookahead}
use Rattle.ecma_state.specs.declared.lookahead.Lookahead.TheVariants as opens
use Rattle.ecma_reads.proofs.SlashLemmas.{token-slash}
use Rattle.ecma_token.specs.Kinds.{kind_of}
use Rattle.ecma_token.specs.View.{ErrorView, TokenView, error_token, plain_token, refused_template}
use Rattle.ecma_token.specs.declared.kind.TokenKind.{TokenKind}
use Rattle.ecma_token.specs.declared.kind.TokenKind.TheVariants.{BackQuote, RBrace, RParen, Shebang, Template}
use Rattle.ecma_parts.proofs.AgainParts.{IsAgain, is_again, slashed}
use Rattle.ecma_parts.proofs.CodeReading.{CodeRead, IsFound, clean_by, code_read, gap_of, read_again, read_behind, value_is}
use Rattle.ecma_parts.proofs.PlainBearings.{IsPlain, keeps_none, no_template, or_none, plain_behind}
use Rattle.ecma_parts.specs.BareReads.{Bare, code, found_behind}
use Rattle.ecma_parts.specs.Bearing.{Bearing, bare_mode, before_in, behind_kind, turned_in}
use Rattle.ecma_parts.specs.Instance.{lexer_grammar, role_of, was_shebang}

-- Texts before which a token is read again

pub record Joins (b : Bearing) (flag : Bool) (u : Bare) (tail here : Text) : Type 0 where
  pub head : ℕ
  pub own : Text
  pub written : u.bytes ++ tail ≡ head ∷ own
  pub flagged : u.flag ≡ flag
  pub alike : read_behind b flag (head ∷ own) ≡ read_behind b flag here
  pub no_element : element (gap_of b) flag (head ∷ own) ≡ None
  pub no_shebang : opens_shebang (head ∷ own) ≡ false

closes_alone : (b : Bearing) (flag : Bool) (c : ℕ) (own behind tail : Text) → is_closer_text (c ∷ own) ≡ true → SlashAgain (code_mode (bare_mode b)) flag (gap_of b) flag c own behind tail
closes_alone b flag c (d ∷ own) behind tail h = cc
closes_alone b flag c [] behind tail h = go (c == 96) (c == 125) refl refl h
  where
    all : CloserAgain (code_mode (bare_mode b)) flag 96 behind tail × CloserAgain (code_mode (bare_mode b)) flag 125 behind tail × CloserAgain (code_mode (bare_mode b)) flag 41 behind tail
    all = closers_are_read_again (code_mode (bare_mode b)) flag behind tail

    so : (x : ℕ) → (c == x) ≡ true → CloserAgain (code_mode (bare_mode b)) flag x behind tail → SlashAgain (code_mode (bare_mode b)) flag (gap_of b) flag c [] behind tail
    so x e it =
        subst
        (λ y. SlashAgain (code_mode (bare_mode b)) flag (gap_of b) flag y [] behind tail)
        (sym (eqb-true c x e))
        (record { token = it.token; no_element = it.no_element (gap_of b) flag; no_shebang = it.no_shebang })

    go : (quote brace : Bool) → (c == 96) ≡ quote → (c == 125) ≡ brace → (quote || (brace || (c == 41))) ≡ true → SlashAgain (code_mode (bare_mode b)) flag (gap_of b) flag c [] behind tail
    go true brace e f h = so 96 e all.0
    go false true e f h = so 125 f all.1
    go false false e f h = so 41 h all.2

-- behind a token of code that is no closer a gap stands
separates_behind : (kind : TokenKind) (tail : Text) → is_text_or_line kind ≡ false → is_closer kind ≡ false → Follows ends_template (role_of kind) tail → separates tail ≡ true
separates_behind Template tail h c follows = cc
separates_behind Shebang tail h c follows = cc
separates_behind BackQuote tail h c follows = cc
separates_behind RBrace tail h c follows = cc
separates_behind RParen tail h c follows = cc
separates_behind kind [] h c follows = refl
separates_behind kind (x ∷ xs) h c follows = follows

-- A token of code

pub record OfCode (b : Bearing) (flag : Bool) (here : Text) (t : Bare) : Type 0 where
  pub value : (read_behind b flag here).value ≡ Ok t.kind
  pub bytes : t.bytes ≡ (read_behind b flag here).spelling
  pub flagged : t.flag ≡ flag
  pub clean : is_clean (read_behind b flag here) ≡ true
  pub neither : is_text_or_line (kind_of t.kind) ≡ false

pub of_code : (b : Bearing) (flag : Bool) (here : Text) (t : Bare) (v : Bool) → IsFound b flag (read_behind b flag here) t v → OfCode b flag here t
of_code b flag here t v found =
    let s = read_behind b flag here in
    let value : s.value ≡ Ok t.kind = value_is s.value found.accepted ∙ ap (λ x. Ok x.kind) (sym found.given) in
    record {
      value = value;
      bytes = ap (λ x. x.bytes) found.given;
      flagged = ap (λ x. x.flag) found.given ∙ ap (λ x. flag || x) (code_holds_no_break (code_mode (bare_mode b)) flag here) ∙ or_none flag;
      clean = clean_by b.context s found.accepted found.none;
      neither = code_is_neither (code_mode (bare_mode b)) flag here t.kind value;
    }

-- what is written of it is read again in front of a text that may follow
stands_again : (b : Bearing) (flag : Bool) (t : Bare) (c : ℕ) (own behind tail : Text) → OfCode b flag (c ∷ (own ++ behind)) t → (read_behind b flag (c ∷ (own ++ behind))).spelling ≡ c ∷ own
    → Follows ends_template (role_of (kind_of t.kind)) tail → SlashAgain (code_mode (bare_mode b)) flag (gap_of b) flag c own behind tail
stands_again b flag t c own behind tail it written follows = go (is_closer (kind_of t.kind)) refl
  where
    mode : CodeMode
    mode = code_mode (bare_mode b)

    go : (closer : Bool) → is_closer (kind_of t.kind) ≡ closer → SlashAgain mode flag (gap_of b) flag c own behind tail
    go true e =
        closes_alone b flag c own behind tail (ap is_closer_text (sym written) ∙ closer_is_written mode flag (c ∷ (own ++ behind)) t.kind it.value e)
    go false e =
        let apart = separates_behind (kind_of t.kind) tail it.neither e follows in
        record {
          token = code_is_local mode flag c own behind tail it.clean written apart;
          no_element = code_begins_no_gap mode flag c own behind tail it.clean written apart (gap_of b) flag;
          no_shebang = code_opens_no_shebang mode flag c own behind tail it.clean written apart;
        }

-- itself
joins_same : (b : Bearing) (text : Text) (t : Bare) (here : Text) (v : Bool) (tail : Text) → (r : CodeRead b text t here v) → Follows ends_template (role_of (kind_of t.kind)) tail → Joins b r.flag t tail here
joins_same b text t here v tail r follows =
    let it = of_code b r.flag here t v r.found in
    let written : (read_behind b r.flag (r.head ∷ (r.own ++ r.behind))).spelling ≡ r.head ∷ r.own =
    ap (λ x. (read_behind b r.flag x).spelling) (sym r.whole) ∙ r.written in
    let alone = stands_again b r.flag t r.head r.own r.behind tail (subst (λ x. OfCode b r.flag x t) r.whole it) written follows in
    record {
      head = r.head;
      own = r.own ++ tail;
      written = ap (λ x. x ++ tail) (it.bytes ∙ r.written);
      flagged = it.flagged;
      alike = alone.token ∙ ap (read_behind b r.flag) (sym r.whole);
      no_element = alone.no_element;
      no_shebang = alone.no_shebang;
    }

-- a slash is one at every place

moved_slash : (value : Result TokenView ErrorView) → is_slash (kind_of (token_of (value_behind token_behind 0 value))) ≡ is_slash (kind_of (token_of value))
moved_slash (Ok (plain_token t)) = refl
moved_slash (Ok (refused_template raw kind span)) = refl
moved_slash (Ok (error_token kind span)) = refl
moved_slash (Err error) = refl

text_slash : (opened : ℕ) (value : Result TokenView ErrorView) → is_slash (kind_of (token_of (template_value opened 0 value))) ≡ is_slash (kind_of (token_of value))
text_slash opened (Ok (plain_token t)) = refl
text_slash opened (Ok (refused_template raw kind span)) = refl
text_slash opened (Ok (error_token kind span)) = refl
text_slash opened (Err error) = refl

placed_slash : (o : Lookahead) (mode : Mode) (s : Scanned TokenView) → is_slash (kind_of (token_of (placed o mode 0 s).value)) ≡ is_slash (kind_of (token_of s.value))
placed_slash opens.Template mode s = text_slash mode.opened.0 s.value
placed_slash opens.Number mode s = moved_slash s.value
placed_slash opens.String mode s = moved_slash s.value
placed_slash opens.Word mode s = moved_slash s.value
placed_slash opens.Bars mode s = moved_slash s.value
placed_slash opens.Other mode s = moved_slash s.value

-- what is read again from it
slash_opens : (b : Bearing) (flag : Bool) (here : Text) (t : Bare) → is_template (innermost b.contexts) ≡ false → OfCode b flag here t → is_slash (kind_of t.kind) ≡ true → opens_expression here ≡ true
slash_opens b flag here t template it slash =
    let s = token_at (bare_mode b) flag here in
    token-slash
    (bare_mode b)
    flag
    0
    here
    (placed_slash (lookahead (bare_mode b) flag here) (bare_mode b) s
    ∙ ap (λ x. is_slash (kind_of (token_of x.value))) (code_is_token (bare_mode b) flag here template)
    ∙ ap (λ x. is_slash (kind_of (token_of x))) it.value
    ∙ slash)

joins_again : (b : Bearing) (text : Text) (t : Bare) (here : Text) (v : Bool) (u : Bare) (tail : Text) → IsPlain b → tpl_on_top b.contexts ≡ false → (r : CodeRead b text t here v)
    → is_slash (kind_of t.kind) ≡ true → IsAgain t.flag here u → Joins b r.flag u tail here
joins_again b text t here v u tail plain inside r slash is =
    let template = no_template b.contexts inside in
    let it = of_code b r.flag here t v r.found in
    let s = regular_expression here in
    let opens = slash_opens b r.flag here t template it slash in
    let written = slashed here in
    let behind = drop (length s.spelling) here in
    let whole : here ≡ 47 ∷ (written.own ++ behind) =
    sym (take-append-drop (length s.spelling) here) ∙ ap (λ x. x ++ behind) (expression-front here opens ∙ written.written) in
    let none : element (gap_of b) r.flag here ≡ None =
    ap (λ x. element (gap_of b) x here) (sym r.line_break)
    ∙ ap (element (gap_of b) (has_line_break (gap_of b) text)) (sym r.left)
    ∙ nothing_behind_the_gap (gap_of b) text template (keeps_none b.contexts plain.contexts) in
    let alone =
    slash_is_read_again (code_mode (bare_mode b)) r.flag (gap_of b) r.flag 47 written.own behind tail refl (ap (λ x. is_clean (regular_expression x)) (sym whole) ∙ is.clean) (ap (λ x. (regular_expression x).spelling) (sym whole) ∙ written.written) (ap (element (gap_of b) r.flag) (sym whole) ∙ none) in
    record {
      head = 47;
      own = written.own ++ tail;
      written = ap (λ x. x ++ tail) (ap (λ x. x.bytes) is.given ∙ written.written);
      flagged = ap (λ x. x.flag) is.given ∙ ap (λ x. t.flag || x) written.line_break ∙ or_none t.flag ∙ it.flagged;
      alike = alone.token ∙ ap (read_behind b r.flag) (sym whole);
      no_element = alone.no_element;
      no_shebang = alone.no_shebang;
    }

joins : (b : Bearing) (text : Text) (t : Bare) (here : Text) (v : Bool) (u : Bare) (tail : Text) → IsPlain b → tpl_on_top b.contexts ≡ false → (r : CodeRead b text t here v) → Final lexer_grammar t here u
    → Follows ends_template (role_of (kind_of u.kind)) tail → Joins b r.flag u tail here
joins b text t here v u tail plain inside r same follows = joins_same b text t here v tail r follows
joins b text t here v u tail plain inside r (again m slash h) follows = joins_again b text t here v u tail plain inside r slash (is_again m t here u h)

-- The laws

joint_is : (flag : Bool) → joint false flag ≡ separator flag
joint_is true = refl
joint_is false = refl

pub code_next : (b : Bearing) (text : Text) (t : Bare) (here : Text) (v : Bool) (u : Bare) (tail : Text) → IsPlain b → tpl_on_top b.contexts ≡ false → code b text ≡ token t here v → Final lexer_grammar t here u
    → Follows ends_template (role_of (kind_of u.kind)) tail → Again (code b (joint false u.flag ++ (u.bytes ++ tail))) t (u.bytes ++ tail) v
code_next b text t here v u tail plain inside h final follows =
    let template = no_template b.contexts inside in
    let r = code_read b text t here v template h in
    let j = joins b text t here v u tail plain inside r final follows in
    let first : b.first ≡ true → r.flag ≡ true = λ e. sym r.line_break ∙ or_left b.first _ e in
    let gap = separator_is_the_gap (gap_of b) r.flag (j.head ∷ j.own) template (keeps_none b.contexts plain.contexts) first j.no_element in
    let whole : separator r.flag ++ (j.head ∷ j.own) ≡ joint false u.flag ++ (u.bytes ++ tail) =
    ap (λ x. x ++ (j.head ∷ j.own)) (sym (joint_is r.flag) ∙ ap (joint false) (sym j.flagged)) ∙ ap (λ x. joint false u.flag ++ x) (sym j.written) in
    subst
    (λ x. Again (code b x) t (u.bytes ++ tail) v)
    whole
    (subst (λ x. Again (code b (separator r.flag ++ (j.head ∷ j.own))) t x v) (sym j.written) (read_again b r.flag here t v template r.found (separator r.flag ++ (j.head ∷ j.own)) j.head j.own gap j.alike))

pub code_first : (b : Bearing) (text : Text) (t : Bare) (here : Text) (v : Bool) (u : Bare) (tail : Text) → IsPlain b → tpl_on_top b.contexts ≡ false → b.shebang_allowed ≡ true → code b text ≡ token t here v
    → Final lexer_grammar t here u → Follows ends_template (role_of (kind_of u.kind)) tail → Again (code b (u.bytes ++ tail)) t (u.bytes ++ tail) v
code_first b text t here v u tail plain inside start h final follows =
    let template = no_template b.contexts inside in
    let r = code_read b text t here v template h in
    let j = joins b text t here v u tail plain inside r final follows in
    let flag : r.flag ≡ true = sym r.line_break ∙ or_left b.first _ (plain.start start) in
    let gap = start_is_the_gap (gap_of b) (j.head ∷ j.own) (plain.start start) (ap (λ x. element (gap_of b) x (j.head ∷ j.own)) (sym flag) ∙ j.no_element) in
    subst
    (λ x. Again (code b x) t x v)
    (sym j.written)
    (read_again b r.flag here t v template r.found (j.head ∷ j.own) j.head j.own (subst (λ x. IsGap (gap_of b) (j.head ∷ j.own) x (j.head ∷ j.own)) (sym flag) gap) j.alike)

pub code_no_shebang : (b : Bearing) (text : Text) (t : Bare) (here : Text) (v : Bool) (u : Bare) (tail : Text) → IsPlain b → tpl_on_top b.contexts ≡ false → code b text ≡ token t here v → Final lexer_grammar t here u
    → Follows ends_template (role_of (kind_of u.kind)) tail → opens_shebang (u.bytes ++ tail) ≡ false
code_no_shebang b text t here v u tail plain inside h final follows =
    let r = code_read b text t here v (no_template b.contexts inside) h in
    let j = joins b text t here v u tail plain inside r final follows in
    ap opens_shebang j.written ∙ j.no_shebang

-- What its tokens leave

pub code_end : (b : Bearing) → code b [] ≡ ended false
unfolding code
code_end b =
    ap
    (λ es. found_behind b (has_line_break (gap_of b) []) (faults_of None 0 es) (drop (length (spelled (gap_cutter (gap_of b)) es)) []))
    (go (gap_of b).template (gap_of b).keeps_space b.first)
  where
    go : (template keeps first : Bool) → elements_under template keeps (record (gap_of b) { first = first }) [] ≡ []
    go true keeps first = refl
    go false true true = refl
    go false true false = refl
    go false false first = refl

-- of its tokens none is template text or a shebang
neither_by : (b : Bearing) (text : Text) (t : Bare) (here : Text) (v : Bool) → tpl_on_top b.contexts ≡ false → code b text ≡ token t here v → is_text_or_line (kind_of t.kind) ≡ false
neither_by b text t here v inside h =
    let r = code_read b text t here v (no_template b.contexts inside) h in
    (of_code b r.flag here t v r.found).neither

no_text : (kind : TokenKind) → is_text_or_line kind ≡ false → is_text (role_of kind) ≡ false
no_text Template h = cc
no_text BackQuote h = refl
no_text RBrace h = refl
no_text RParen h = refl
no_text Shebang h = refl
no_text kind h = refl

no_line : (kind : TokenKind) → is_text_or_line kind ≡ false → is_shebang kind ≡ false
no_line Shebang h = cc
no_line kind h = refl

pub code_role : (b : Bearing) (text : Text) (t : Bare) (here : Text) (v : Bool) → IsPlain b → tpl_on_top b.contexts ≡ false → code b text ≡ token t here v → is_text (role_of (kind_of t.kind)) ≡ false
code_role b text t here v plain inside h = no_text (kind_of t.kind) (neither_by b text t here v inside h)

pub code_line : (b : Bearing) (text : Text) (t : Bare) (here : Text) (v : Bool) → IsPlain b → tpl_on_top b.contexts ≡ false → was_shebang b.previous ≡ true → code b text ≡ token t here v → t.flag ≡ true
code_line b text t here v plain inside line h =
    let r = code_read b text t here v (no_template b.contexts inside) h in
    (of_code b r.flag here t v r.found).flagged ∙ sym r.line_break ∙ or_left b.first _ (plain.line line)

pub code_plain : (b : Bearing) (text : Text) (t : Bare) (here : Text) (v : Bool) → IsPlain b → tpl_on_top b.contexts ≡ false → code b text ≡ token t here v → IsPlain (behind_kind b (kind_of t.kind) t.flag)
code_plain b text t here v plain inside h =
    let none = no_line (kind_of t.kind) (neither_by b text t here v inside h) in
    plain_behind b (kind_of t.kind) t.flag (contexts_stay_own.0 (before_in b) b.contexts (kind_of t.kind) t.flag plain.contexts inside) (λ line. cc)

opener : (kind : TokenKind) → opens_text kind ≡ true → may_open (role_of kind) ≡ true
opener BackQuote h = refl
opener RBrace h = refl
opener RParen h = refl
opener kind h = cc

pub code_opens : (b : Bearing) (text : Text) (t : Bare) (here : Text) (v : Bool) → IsPlain b → tpl_on_top b.contexts ≡ false → code b text ≡ token t here v
    → tpl_on_top (turned_in b (kind_of t.kind) t.flag).contexts ≡ true → may_open (role_of (kind_of t.kind)) ≡ true
code_opens b text t here v plain inside h on_top =
    opener (kind_of t.kind) (templates_are_opened (before_in b) b.contexts (kind_of t.kind) t.flag plain.contexts inside on_top)
