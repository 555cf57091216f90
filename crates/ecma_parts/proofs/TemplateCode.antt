-- Inside a template what stands there is its text or what closes it.
use Rattle.std.proofs.Common.{◌≡◌, ◌∙◌, ℕ, Bool, true, false, ◌||◌, ◌&&◌, ◌==◌, List, [], ◌∷◌, ◌++◌, length, drop, Option, Some, None, cond, refl, sym, ap}
use Rattle.std.specs.List.{list_any}
use Rattle.std.specs.Prelude.{codes}
use Rattle.clean_runs.specs.Grammar.{Found, faulty, token}
use Rattle.clean_runs.specs.Parts.{scan_tpl, tpl_found}
use Rattle.ecma_joining.proofs.TextsLaws.{texts_stand_alone}
use Rattle.ecma_joining.specs.Texts.{text_at, text_in}
use Rattle.ecma_place.specs.Character.{is_line_terminator}
use Rattle.ecma_place.specs.Text.{Text}
use Rattle.ecma_reads.specs.Bars.{opens_bars}
use Rattle.ecma_reads.specs.Found.{Scanned}
use Rattle.ecma_reads.specs.Gaps.{elements_under, faults_of, gap_cutter}
use Rattle.ecma_reads.specs.Numbers.{opens_number}
use Rattle.ecma_reads.specs.Pieces.{pieces, remainder, spelled}
use Rattle.ecma_reads.specs.Strings.{opens_string}
use Rattle.ecma_reads.specs.Templates.{AtBackQuote, AtDollarBrace, AtEnd, TemplateEnd, TemplatePiece, is_break, last_refusal, mark_of, raw_text, template_cutter, template_end, template_of, template_text, template_token, text_of, token_of_refusal}
use Rattle.ecma_reads.specs.Words.{opens_word}
use Rattle.ecma_state.specs.Contexts.{Contexts, innermost}
use Rattle.ecma_state.specs.Mode.{is_template, is_tpl_element}
use Rattle.ecma_state.specs.State.{is_error}
use Rattle.ecma_state.specs.TokenAt.{lookahead_from, read_opened, token_at}
use Rattle.ecma_state.specs.Transition.{tpl_on_top}
use Rattle.ecma_contexts.specs.declared.token_context.TokenContext.TheVariants.{Tpl}
use Rattle.ecma_token.specs.Kinds.{kind_of}
use Rattle.ecma_token.specs.View.{ErrorView, TokenView}
use Rattle.ecma_parts.proofs.CodeParts.{code_end}
use Rattle.ecma_parts.proofs.CodeReading.{gap_of}
use Rattle.ecma_parts.proofs.PlainBearings.{or_none}
use Rattle.ecma_parts.specs.BareReads.{Bare, bare, bare_mark, bare_text, code, found_behind, mark_if, pieces_of, token_behind_gap, token_if}
use Rattle.ecma_parts.specs.Bearing.{Bearing, bare_mode}
use Rattle.ecma_parts.specs.Instance.{lexer_parts}

-- what is found where no gap stands
abbrev found_as : Bearing → Text → Scanned TokenView → Found TokenView
found_as b text s = token_behind_gap b.context b.first [] s text

on_top : (contexts : Contexts) → tpl_on_top contexts ≡ true → is_template (innermost contexts) ≡ true
on_top [] h = cc
on_top (Tpl ∷ below) h = refl
on_top (top ∷ below) h = cc

-- Template text that is accepted

accepted : (refused : Option ErrorView) (ps : List TemplatePiece) → is_error (kind_of (token_of_refusal refused ps)) ≡ false
accepted None ps = refl
accepted (Some error) ps = refl

found_text : (b : Bearing) (text : Text) (ps : List TemplatePiece) (e : TemplateEnd) (x : Text) → text_in (text_of ps e).value (text_of ps e).spelling ≡ Some x
    → found_as b text (text_of ps e) ≡ token (bare b.first (text_of ps e)) text false
found_text b text ps AtEnd x h = cc
found_text b text ps AtBackQuote x h = ap (λ r. token_if (r || false) (bare b.first (text_of ps AtBackQuote)) text false) (accepted (last_refusal 0 None ps) ps)
found_text b text ps AtDollarBrace x h = ap (λ r. token_if (r || false) (bare b.first (text_of ps AtDollarBrace)) text false) (accepted (last_refusal 0 None ps) ps)

-- the token of pieces, with these characters
abbrev token_by : Bool → List TemplatePiece → Text → Bare
token_by first ps x = record { kind = template_token ps; bytes = x; flag = first || list_any is_break ps }

text_by : (first : Bool) (ps : List TemplatePiece) (e : TemplateEnd) (x : Text) → text_in (text_of ps e).value (text_of ps e).spelling ≡ Some x → bare first (text_of ps e) ≡ token_by first ps x
text_by first ps AtEnd x h = cc
text_by first ps AtBackQuote x h = let raw : raw_text ps ≡ x = cc in ap (token_by first ps) raw
text_by first ps AtDollarBrace x h = let raw : raw_text ps ≡ x = cc in ap (token_by first ps) raw

-- it is the token of its own characters
text_is : (b : Bearing) (r x : Text) → text_at r ≡ Some x → found_as b r (template_text false r) ≡ token (bare_text b x) r false
text_is b r x h =
    let alone = x ++ codes "`" in
    found_text b r (pieces template_cutter tt r) (template_end (remainder template_cutter tt r)) x h
    ∙ ap (λ s. token (bare b.first s) r false) (sym (texts_stand_alone.same r x (codes "`") h refl))
    ∙ ap (λ t. token t r false) (text_by b.first (pieces_of x) (template_end (remainder template_cutter tt alone)) x (texts_stand_alone.again r x (codes "`") h refl))

-- and text that meets the end is refused
refused : (b : Bearing) (text : Text) (was : Bool) (ps : List TemplatePiece) (e : TemplateEnd) → text_in (text_of ps e).value (text_of ps e).spelling ≡ None → found_as b text (template_of was ps e) ≡ faulty
refused b text false ps AtEnd h = refl
refused b text true [] AtEnd h = refl
refused b text true (piece ∷ more) AtEnd h = refl
refused b text was ps AtBackQuote h = cc
refused b text was ps AtDollarBrace h = cc

-- What closes it

mark_is : (b : Bearing) (c : ℕ) (cs : Text) → found_as b (c ∷ cs) (mark_of (template_end (c ∷ cs))) ≡ token (bare_mark b (c ∷ cs)) (c ∷ cs) false
mark_is b c cs = go (c == 96)
  where
    go : (quote : Bool) → found_as b (c ∷ cs) (mark_of (cond quote AtBackQuote AtDollarBrace)) ≡ token (bare b.first (mark_if quote)) (c ∷ cs) false
    go true = refl
    go false = refl

-- Either

found_is : (b : Bearing) (c : ℕ) (cs : Text) (was : Bool) → tpl_found lexer_parts b was (text_at (c ∷ cs)) (c ∷ cs) ≡ found_as b (c ∷ cs) (template_text was (c ∷ cs))
found_is b c cs was = go was (text_at (c ∷ cs)) refl
  where
    go : (was : Bool) (o : Option Text) → text_at (c ∷ cs) ≡ o → tpl_found lexer_parts b was o (c ∷ cs) ≡ found_as b (c ∷ cs) (template_text was (c ∷ cs))
    go true None e = sym (refused b (c ∷ cs) true (pieces template_cutter tt (c ∷ cs)) (template_end (remainder template_cutter tt (c ∷ cs))) e)
    go false None e = sym (refused b (c ∷ cs) false (pieces template_cutter tt (c ∷ cs)) (template_end (remainder template_cutter tt (c ∷ cs))) e)
    go true (Some []) e = sym (ap (found_as b (c ∷ cs)) (texts_stand_alone.mark (c ∷ cs) e) ∙ mark_is b c cs)
    go false (Some []) e = sym (text_is b (c ∷ cs) [] e)
    go true (Some (x ∷ xs)) e = sym (ap (found_as b (c ∷ cs)) (texts_stand_alone.within (c ∷ cs) x xs e) ∙ text_is b (c ∷ cs) (x ∷ xs) e)
    go false (Some (x ∷ xs)) e = sym (text_is b (c ∷ cs) (x ∷ xs) e)

-- there no gap stands, and template text is read
inside_is : (b : Bearing) (c : ℕ) (cs : Text) → tpl_on_top b.contexts ≡ true → code b (c ∷ cs) ≡ found_as b (c ∷ cs) (template_text (is_tpl_element b.previous) (c ∷ cs))
unfolding code
inside_is b c cs inside =
    let template = on_top b.contexts inside in
    let text = c ∷ cs in
    ap
    (λ es. found_behind b (b.first || list_any is_line_terminator (spelled (gap_cutter (gap_of b)) es)) (faults_of None 0 es) (drop (length (spelled (gap_cutter (gap_of b)) es)) text))
    (ap (λ x. elements_under x (gap_of b).keeps_space (gap_of b) text) template)
    ∙ ap (λ flag. token_behind_gap b.context flag [] (token_at (bare_mode b) flag text) text) (or_none b.first)
    ∙ ap
    (λ x. found_as b text (read_opened (lookahead_from x (opens_number text) (opens_string text) (opens_word text) (b.first && opens_bars text)) (bare_mode b) text))
    template

pub template_is_code : (b : Bearing) (text : Text) → tpl_on_top b.contexts ≡ true → scan_tpl lexer_parts b text ≡ code b text
template_is_code b [] inside = sym (code_end b)
template_is_code b (c ∷ cs) inside = found_is b c cs (is_tpl_element b.previous) ∙ sym (inside_is b c cs inside)
