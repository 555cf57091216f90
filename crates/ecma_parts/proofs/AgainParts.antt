-- What is read again from a slash keeps as a part of the grammar.
use Rattle.std.proofs.Common.{◌≡◌, Bool, true, false, cond, ◌||◌, [], ◌∷◌, ◌++◌, drop, length, take-append-drop, Some, Result, Ok, Err, refl, sym, ap, ◌∙◌}
use Rattle.std.proofs.lemmas.Bool.{or_parts}
use Rattle.clean_runs.specs.Parts.{StartsGap, may_open}
use Rattle.ecma_reads.proofs.FrontLemmas.{expression-front}
use Rattle.ecma_joining.specs.OwnContexts.{are_own}
use Rattle.ecma_place.specs.Atom.{AtomView}
use Rattle.ecma_place.specs.Text.{Text}
use Rattle.ecma_reads.proofs.ExpressionLaws.{expression_is_local}
use Rattle.ecma_reads.specs.Expressions.{body_cutter, body_pieces, closed_expression, flags, open_expression, opens_expression, regex_value, regular_expression}
use Rattle.ecma_reads.specs.Found.{Scanned}
use Rattle.ecma_reads.specs.Fronts.{next_is}
use Rattle.ecma_reads.specs.Locality.{is_clean, separates}
use Rattle.ecma_reads.specs.Pieces.{remainder, spelled}
use Rattle.ecma_state.specs.State.{is_error, is_shebang, is_slash}
use Rattle.ecma_state.specs.TokenAt.{token_of}
use Rattle.ecma_token.specs.Kinds.{kind_of}
use Rattle.ecma_token.specs.View.{ErrorView, TokenView}
use Rattle.ecma_token.specs.declared.kind.TokenKind.{TokenKind}
use Rattle.ecma_token.specs.declared.kind.TokenKind.TheVariants.{BackQuote, RBrace, RParen, Regex, Shebang, Template}
use Rattle.ecma_parts.proofs.CodeReading.{clean_by}
use Rattle.ecma_parts.proofs.PlainBearings.{IsPlain, expression_keeps, or_none, plain_behind}
use Rattle.ecma_parts.specs.BareReads.{Bare, again_from, again_if, any_recorded, bare, bare_again, is_refused}
use Rattle.ecma_parts.specs.Bearing.{Bearing, behind_kind, turned_in}
use Rattle.ecma_parts.specs.Instance.{role_of}

-- Expressions that are read again

pub record IsAgain (flag : Bool) (here : Text) (u : Bare) : Type 0 where
  pub given : u ≡ bare flag (regular_expression here)
  pub accepted : is_refused (regular_expression here) ≡ false
  pub clean : is_clean (regular_expression here) ≡ true

pub is_again : (b : Bearing) (t : Bare) (here : Text) (u : Bare) → bare_again b t here ≡ Some u → IsAgain t.flag here u
unfolding bare_again
is_again b t here u h = go (is_refused s || any_recorded b.context s.faults) refl h
  where
    s : Scanned TokenView
    s = regular_expression here

    go : (r : Bool) → (is_refused s || any_recorded b.context s.faults) ≡ r → again_if r (bare t.flag s) ≡ Some u → IsAgain t.flag here u
    go true e h = cc
    go false e h =
        let parts = or_parts (is_refused s) (any_recorded b.context s.faults) e in
        let given : u ≡ bare t.flag s = cc in
        record { given = given; accepted = parts.0; clean = clean_by b.context s parts.0 parts.1 }

-- an expression begins with its slash, and holds no line terminator
pub record Slashed (s : Scanned TokenView) : Type 0 where
  pub own : Text
  pub written : s.spelling ≡ 47 ∷ own
  pub line_break : s.line_break ≡ false

pub slashed : (text : Text) → Slashed (regular_expression text)
slashed text = go (next_is 47 (remainder body_cutter tt (drop 1 text)))
  where
    go : (r : Bool) → Slashed (cond r (closed_expression (spelled body_cutter (body_pieces (drop 1 text))) (flags (drop 1 (remainder body_cutter tt (drop 1 text))))) (open_expression (drop 1 text)))
    go true = record { own = _; written = refl; line_break = refl }
    go false = record { own = _; written = refl; line_break = refl }

-- what is not refused is an expression
expression_kind : (text : Text) → is_refused (regular_expression text) ≡ false → kind_of (token_of (regular_expression text).value) ≡ Regex
expression_kind text = go (next_is 47 (remainder body_cutter tt (drop 1 text)))
  where
    body : Text
    body = spelled body_cutter (body_pieces (drop 1 text))

    closed : (value : Result AtomView ErrorView) → is_error (kind_of (token_of (regex_value body value))) ≡ false → kind_of (token_of (regex_value body value)) ≡ Regex
    closed (Ok flags) h = refl
    closed (Err error) h = cc

    go : (r : Bool) → is_refused (cond r (closed_expression body (flags (drop 1 (remainder body_cutter tt (drop 1 text))))) (open_expression (drop 1 text))) ≡ false
        → kind_of (token_of (cond r (closed_expression body (flags (drop 1 (remainder body_cutter tt (drop 1 text))))) (open_expression (drop 1 text))).value) ≡ Regex
    go true h = closed _ h
    go false h = cc

pub again_kind : (b : Bearing) (t : Bare) (here : Text) (u : Bare) → bare_again b t here ≡ Some u → kind_of u.kind ≡ Regex
again_kind b t here u h =
    let it = is_again b t here u h in
    ap (λ x. kind_of x.kind) it.given ∙ expression_kind here it.accepted

-- The laws

pub slash_role : (kind : TokenKind) → is_slash kind ≡ true → may_open (role_of kind) ≡ false
slash_role Template h = cc
slash_role BackQuote h = cc
slash_role RBrace h = cc
slash_role RParen h = cc
slash_role Shebang h = refl
slash_role kind h = refl

pub regex_flag : (b : Bearing) (t : Bare) (here : Text) (u : Bare) → bare_again b t here ≡ Some u → u.flag ≡ t.flag
regex_flag b t here u h =
    let it = is_again b t here u h in
    ap (λ x. x.flag) it.given ∙ ap (λ x. t.flag || x) (slashed here).line_break ∙ or_none t.flag

pub regex_inside : (b : Bearing) (t : Bare) (here : Text) (u : Bare) → bare_again b t here ≡ Some u → (turned_in b (kind_of u.kind) u.flag).contexts ≡ b.contexts
regex_inside b t here u h = ap (λ k. (turned_in b k u.flag).contexts) (again_kind b t here u h) ∙ expression_keeps b u.flag

pub regex_plain : (b : Bearing) (t : Bare) (here : Text) (u : Bare) → bare_again b t here ≡ Some u → IsPlain b → IsPlain (behind_kind b (kind_of u.kind) u.flag)
regex_plain b t here u h plain =
    let none : is_shebang (kind_of u.kind) ≡ false = ap is_shebang (again_kind b t here u h) in
    plain_behind b (kind_of u.kind) u.flag (ap are_own (regex_inside b t here u h) ∙ plain.contexts) (λ line. cc)

starts_apart : (tail : Text) → StartsGap tail → separates tail ≡ true
starts_apart [] h = refl
starts_apart (c ∷ cs) h = h

-- the first character is not looked at: it may be taken for a slash
pub regex_again : (b : Bearing) (t : Bare) (here : Text) (u : Bare) (tail : Text) → bare_again b t here ≡ Some u → StartsGap tail → bare_again b t (u.bytes ++ tail) ≡ Some u
unfolding bare_again
regex_again b t here u tail h starts =
    let it = is_again b t here u h in
    let text = 47 ∷ drop 1 here in
    let s = regular_expression text in
    let behind = drop (length s.spelling) text in
    let whole : text ≡ s.spelling ++ behind =
    sym (take-append-drop (length s.spelling) text) ∙ ap (λ x. x ++ behind) (expression-front text refl) in
    let alike : regular_expression (s.spelling ++ tail) ≡ s =
    expression_is_local
    s.spelling
    behind
    tail
    (ap opens_expression (sym whole))
    (ap (λ x. is_clean (regular_expression x)) (sym whole) ∙ it.clean)
    (ap (λ x. (regular_expression x).spelling) (sym whole))
    (starts_apart tail starts)
    ∙ ap regular_expression (sym whole) in
    ap (λ x. again_from b.context t.flag (regular_expression (x.bytes ++ tail))) it.given ∙ ap (again_from b.context t.flag) alike ∙ h
