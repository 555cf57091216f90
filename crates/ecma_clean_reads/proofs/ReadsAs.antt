-- One read of a text at a place, and what the grammar finds there.
use Rattle.std.proofs.Common.{◌≡◌, ◌∙◌, ℕ, ◌+◌, Bool, true, false, not, ◌&&◌, ◌||◌, List, [], ◌∷◌, ◌++◌, Option, Some, None, drop, drop-drop, length, map, take, refl, sym, ap, subst}
use Rattle.std.proofs.Math.Bool.{or_assoc}
use Rattle.clean_runs.specs.Grammar.{Found, token, ended, faulty}
use Rattle.clean_runs.specs.Parts.{code_found, scan_in}
use Rattle.ecma_place.specs.Cursor.{Cursor, passed, place, rest}
use Rattle.ecma_place.specs.Text.{Text, byte_len}
use Rattle.ecma_parts.specs.Expressions.{opens_expression, regular_expression}
use Rattle.ecma_parts.specs.Found.{Fault, FoundView, Scanned, fault_behind, found_at, span_of, token_behind}
use Rattle.ecma_parts.specs.GapViews.{GapView}
use Rattle.ecma_parts.specs.Gaps as gaps
use Rattle.ecma_parts.specs.Gaps.{gap_faults, gap_spelling}
use Rattle.ecma_parts.specs.Shebangs.{opens_shebang}
use Rattle.ecma_parts.proofs.GapFaults.{gap_faults_move}
use Rattle.ecma_parts.proofs.FrontLemmas.{expression-front, shebang-front, token_at-front}
use Rattle.ecma_parts.proofs.ReadingLemmas.{placed-faults}
use Rattle.ecma_parts.proofs.FaultlessLaws.{expression_is_faultless}
use Rattle.ecma_parts.proofs.EndLemmas.{token-extent}
use Rattle.ecma_parts.proofs.SlashLemmas.{again-kind, expression-no-slash}
use Rattle.ecma_state.specs.Mode.{gap_mode}
use Rattle.ecma_state.specs.Reading.{Reading, behind_gap, gap_in, reading, reading_again, reading_behind, reading_code, reading_if, shebang_reading, shebang_token, spanned, token_reading}
use Rattle.ecma_state.specs.State.{is_error, is_slash}
use Rattle.ecma_state.specs.TokenAt.{is_empty, lookahead, read_opened, token_at, token_comments, token_found, token_of}
use Rattle.ecma_state.specs.declared.lookahead.Lookahead.{Lookahead}
use Rattle.ecma_state.specs.declared.lookahead.Lookahead.TheVariants as opens
use Rattle.ecma_state.specs.Transition.{tpl_on_top}
use Rattle.ecma_state.specs.declared.mode.Mode.{Mode}
use Rattle.ecma_parts.proofs.PlacedKinds.{kind-behind, placed-kind}
use Rattle.ecma_syntax.specs.declared.context.Context.{Context}
use Rattle.ecma_place.specs.declared.place.BytePos.{BytePos}
use Rattle.ecma_place.specs.declared.comment.Comment.{Comment}
use Rattle.ecma_token.specs.Kinds.{kind_of}
use Rattle.ecma_token.specs.View.{SpannedView, TokenView}
use Rattle.ecma_parts.specs.BareReads.{Bare, again_from, any_recorded, bare, bare_again, bare_shebang, code, end_if, found_behind, is_recorded, is_refused, again_if, token_if}
use Rattle.ecma_parts.specs.Bearing.{Bearing, bare_mode, mode_at}
use Rattle.ecma_parts.specs.Instance.{lexer_grammar, lexer_parts}
use Rattle.ecma_parts.proofs.Cleanly.{reads-cleanly}
use Rattle.ecma_parts.proofs.TemplateCode.{template_is_code}
use Rattle.ecma_clean_reads.proofs.TokensRead.{Stands, placed-break, placed-token, stands-found, value-token}

-- Faults of a gap and of a token

recorded-append : (context : Context) (xs ys : List Fault) → any_recorded context (xs ++ ys) ≡ any_recorded context xs || any_recorded context ys
recorded-append context [] ys = refl
recorded-append context (x ∷ xs) ys =
    ap (λ b. is_recorded context x.blame || b) (recorded-append context xs ys)
    ∙ sym (or_assoc (is_recorded context x.blame) (any_recorded context xs) (any_recorded context ys))

recorded-behind : (context : Context) (n : ℕ) (xs : List Fault) → any_recorded context (map (fault_behind n) xs) ≡ any_recorded context xs
recorded-behind context n [] = refl
recorded-behind context n (x ∷ xs) = ap (λ b. is_recorded context x.blame || b) (recorded-behind context n xs)

empty-append : (xs ys : List Fault) → is_empty (xs ++ ys) ≡ is_empty xs && is_empty ys
empty-append [] ys = refl
empty-append (x ∷ xs) ys = refl

empty-behind : (n : ℕ) (xs : List Fault) → is_empty (map (fault_behind n) xs) ≡ is_empty xs
empty-behind n [] = refl
empty-behind n (x ∷ xs) = refl

-- the same may be said of two lists of faults
pub record SaysSame (context : Context) (xs ys : List Fault) : Type 0 where
  pub recorded : any_recorded context xs ≡ any_recorded context ys
  pub empty : is_empty xs ≡ is_empty ys

same-behind : (context : Context) (n : ℕ) (xs : List Fault) → SaysSame context (map (fault_behind n) xs) xs
same-behind context n xs = record { recorded = recorded-behind context n xs; empty = empty-behind n xs }

same-both : (context : Context) (xs xs2 ys ys2 : List Fault) → SaysSame context xs xs2 → SaysSame context ys ys2 → SaysSame context (xs ++ ys) (xs2 ++ ys2)
same-both context xs xs2 ys ys2 a b = record {
  recorded = recorded-append context xs ys
      ∙ ap (λ r. r || any_recorded context ys) a.recorded
      ∙ ap (λ r. any_recorded context xs2 || r) b.recorded
      ∙ sym (recorded-append context xs2 ys2);
  empty = empty-append xs ys ∙ ap (λ r. r && is_empty ys) a.empty ∙ ap (λ r. is_empty xs2 && r) b.empty ∙ sym (empty-append xs2 ys2);
}

-- What was read

-- a token that was read, behind which the rest is left
pub record Reads (c : Cursor) (r : Reading) (t : SpannedView) (p : Bare) (here : Text) : Type 0 where
  pub stands : Stands c t p here
  pub unrefused : is_error (kind_of p.kind) ≡ false
  pub start : r.input.start ≡ c.start
  pub text : r.input.text ≡ c.text
  pub left : rest r.input ≡ drop (length p.bytes) here

-- what is read, and what is found, where errors aren't ignored
pub data ReadsAs (context : Context) (c : Cursor) (r : Reading) : Found TokenView → Type 0 where
  at_end : (w : Bool) → r.found ≡ None → any_recorded context r.faults ≡ false → w ≡ not (is_empty r.faults) → rest r.input ≡ [] → ReadsAs context c r (ended w)
  spoilt : any_recorded context r.faults ≡ true → ReadsAs context c r faulty
  refused : (t : SpannedView) → r.found ≡ Some t → is_error (kind_of t.token) ≡ true → ReadsAs context c r faulty
  good : (t : SpannedView) (p : Bare) (here : Text) (w : Bool) → r.found ≡ Some t → any_recorded context r.faults ≡ false → w ≡ not (is_empty r.faults) → Reads c r t p here → ReadsAs context c r (token p here w)

-- what is left behind a front
rest-passed : (n : ℕ) (c : Cursor) → rest (passed n c) ≡ drop n (rest c)
rest-passed n c = sym (drop-drop n c.at c.text)

-- a token with what was found of it, behind a gap
token-reads : (context : Context) (c here : Cursor) (gap : GapView) (faults : List Fault) (f : FoundView TokenView) (s : Scanned TokenView) (comments : List (Comment × Bool)) (x : ℕ) (xs : Text)
    → here.start ≡ c.start → here.text ≡ c.text → rest here ≡ x ∷ xs → take (length s.spelling) (rest here) ≡ s.spelling → SaysSame context (gap.faults ++ f.faults) (faults ++ s.faults)
    → f.extent ≡ span_of (place here) (place here + byte_len s.spelling) → kind_of (token_of f.value) ≡ kind_of (token_of s.value)
    → (is_refused s ≡ false → token_of f.value ≡ token_behind (place here) (token_of s.value)) → f.line_break ≡ s.line_break
    → ReadsAs context c (token_reading gap f comments (passed (length s.spelling) here)) (token_if (is_refused s || any_recorded context (faults ++ s.faults)) (bare gap.line_break s) (x ∷ xs) (not (is_empty (faults ++ s.faults))))
token-reads context c here gap faults f s comments x xs start text left front same extent kind moved break =
    go (is_refused s) (any_recorded context (faults ++ s.faults)) refl refl
  where
    r : Reading
    r = token_reading gap f comments (passed (length s.spelling) here)

    go : (is_bad recorded : Bool) → is_refused s ≡ is_bad → any_recorded context (faults ++ s.faults) ≡ recorded
        → ReadsAs context c r (token_if (is_bad || recorded) (bare gap.line_break s) (x ∷ xs) (not (is_empty (faults ++ s.faults))))
    go true recorded a b = refused (spanned gap.line_break f) refl (ap is_error kind ∙ a)
    go false true a b = spoilt (same.recorded ∙ b)
    go false false a b =
        good
        (spanned gap.line_break f)
        (bare gap.line_break s)
        (x ∷ xs)
        (not (is_empty (faults ++ s.faults)))
        refl
        (same.recorded ∙ b)
        (ap not (sym same.empty))
        (record {
          stands = stands-found c here gap.line_break f s x xs start text left front extent (moved a) break;
          unrefused = a;
          start = start;
          text = text;
          left = rest-passed (length s.spelling) here ∙ ap (drop (length s.spelling)) left;
        })

-- where a template was opened is not asked for
opened-anywhere : (o : Lookahead) (opened : BytePos) (b : Bearing) (text : Text) → read_opened o (mode_at opened b) text ≡ read_opened o (bare_mode b) text
opened-anywhere opens.Template opened b text = refl
opened-anywhere opens.Number opened b text = refl
opened-anywhere opens.String opened b text = refl
opened-anywhere opens.Word opened b text = refl
opened-anywhere opens.Bars opened b text = refl
opened-anywhere opens.Other opened b text = refl

token-anywhere : (opened : BytePos) (b : Bearing) (flag : Bool) (text : Text) → token_at (mode_at opened b) flag text ≡ token_at (bare_mode b) flag text
token-anywhere opened b flag text = opened-anywhere (lookahead (bare_mode b) flag text) opened b text

reads-behind : (opened : BytePos) (b : Bearing) (c here : Cursor) (gap : GapView) (faults : List Fault) (text : Text) → here.start ≡ c.start → here.text ≡ c.text → rest here ≡ text
    → SaysSame b.context gap.faults faults → ReadsAs b.context c (reading_behind (mode_at opened b) gap here text) (found_behind b gap.line_break faults text)
reads-behind opened b c here gap faults [] start text left same = go (any_recorded b.context faults) refl
  where
    go : (recorded : Bool) → any_recorded b.context faults ≡ recorded → ReadsAs b.context c (reading_behind (mode_at opened b) gap here []) (end_if recorded (not (is_empty faults)))
    go true e = spoilt (same.recorded ∙ e)
    go false e = at_end (not (is_empty faults)) refl (same.recorded ∙ e) (ap not (sym same.empty)) left
reads-behind opened b c here gap faults (x ∷ xs) start text left same =
    let mode : Mode = mode_at opened b in
    let flag : Bool = gap.line_break in
    let s : Scanned TokenView = token_at mode flag (x ∷ xs) in
    let o = lookahead mode flag (x ∷ xs) in
    let n : ℕ = place here in
    let f : FoundView TokenView = token_found mode flag n (x ∷ xs) in
    let faults_same : SaysSame b.context f.faults s.faults = subst (λ fs. SaysSame b.context fs s.faults) (sym (placed-faults o mode n s)) (same-behind b.context n s.faults) in
    let reads = token-reads
    b.context
    c
    here
    gap
    faults
    f
    s
    (token_comments mode flag n (x ∷ xs))
    x
    xs
    start
    text
    left
    (subst (λ l. take (length s.spelling) l ≡ s.spelling) (sym left) (token_at-front mode flag (x ∷ xs)))
    (same-both b.context gap.faults faults f.faults s.faults same faults_same)
    (token-extent mode flag n (x ∷ xs))
    (placed-kind o mode n s)
    (placed-token o mode n s)
    (placed-break o mode n s) in
    subst
    (λ (u : Scanned TokenView). ReadsAs b.context c (reading_behind mode gap here (x ∷ xs)) (token_if (is_refused u || any_recorded b.context (faults ++ u.faults)) (bare flag u) (x ∷ xs) (not (is_empty (faults ++ u.faults)))))
    (token-anywhere opened b flag (x ∷ xs))
    reads

-- gap and token
code-reads : (opened : BytePos) (b : Bearing) (c input : Cursor) → input.start ≡ c.start → input.text ≡ c.text → ReadsAs b.context c (reading_code (mode_at opened b) input) (code b (rest input))
unfolding reading_code code
code-reads opened b c input start text =
    let mode : Mode = mode_at opened b in
    let n : ℕ = place input in
    let gap : GapView = gap_in mode n (rest input) in
    let here : Cursor = behind_gap mode input in
    let left : rest here ≡ gaps.behind_gap (gap_mode mode) (rest input) = rest-passed (length (gap_spelling (gap_mode mode) (rest input))) input in
    let faults : List Fault = gap_faults (gap_mode mode) (rest input) in
    let same : SaysSame b.context gap.faults faults = subst (λ fs. SaysSame b.context fs faults) (gap_faults_move n (gap_mode mode) (rest input)) (same-behind b.context n faults) in
    subst
    (λ l. ReadsAs b.context c (reading_behind mode gap here l) (found_behind b gap.line_break faults (gaps.behind_gap (gap_mode mode) (rest input))))
    (sym left)
    (reads-behind opened b c here gap faults (gaps.behind_gap (gap_mode mode) (rest input)) start text left same)

-- a shebang
shebang-reads : (b : Bearing) (c input : Cursor) → input.start ≡ c.start → input.text ≡ c.text → opens_shebang (rest input) ≡ true
    → ReadsAs b.context c (shebang_reading input) (token (bare_shebang (rest input)) (rest input) false)
shebang-reads b c input start text opens = go (rest input) refl opens
  where
    go : (left : Text) → rest input ≡ left → opens_shebang left ≡ true → ReadsAs b.context c (shebang_reading input) (token (bare_shebang left) left false)
    go [] e h = cc
    go (x ∷ xs) e h =
        let s : Scanned TokenView = shebang_token (x ∷ xs) in
        let same : shebang_token (rest input) ≡ s = ap shebang_token e in
        subst
        (λ (u : Scanned TokenView). ReadsAs b.context c (token_reading record { line_break = false; faults = []; comments = [] } (found_at token_behind (place input) u) [] (passed (length u.spelling) input)) (token (bare_shebang (x ∷ xs)) (x ∷ xs) false))
        (sym same)
        (token-reads
        b.context
        c
        input
        (record { line_break = false; faults = []; comments = [] })
        []
        (found_at token_behind (place input) s)
        s
        []
        x
        xs
        start
        text
        e
        (subst (λ l. take (length s.spelling) l ≡ s.spelling) (sym e) (shebang-front (x ∷ xs) h))
        (record { recorded = refl; empty = refl })
        refl
        refl
        (λ _. refl)
        refl)

-- What a read finds, places apart, is what the grammar finds
pub reading-reads : (opened : BytePos) (b : Bearing) (c input : Cursor) → (b.shebang_allowed ≡ true → tpl_on_top b.contexts ≡ false) → input.start ≡ c.start → input.text ≡ c.text
    → ReadsAs b.context c (reading (mode_at opened b) input) (lexer_grammar.scan b (rest input))
reading-reads opened b c input outside start text = go (tpl_on_top b.contexts) b.shebang_allowed (opens_shebang (rest input)) refl refl refl
  where
    mode : Mode
    mode = mode_at opened b

    go : (inside shebang_allowed shebang : Bool) → tpl_on_top b.contexts ≡ inside → b.shebang_allowed ≡ shebang_allowed → opens_shebang (rest input) ≡ shebang
        → ReadsAs b.context c (reading_if (shebang_allowed && shebang) mode input) (scan_in lexer_parts inside b (rest input))
    go true true shebang i n o = let never : true ≡ false = sym i ∙ outside n in cc
    go true false shebang i n o =
        subst (λ f. ReadsAs b.context c (reading_code mode input) f) (sym (template_is_code b (rest input) i)) (code-reads opened b c input start text)
    go false true true i n o =
        subst (λ z. ReadsAs b.context c (shebang_reading input) (code_found lexer_parts z b (rest input))) (sym (ap (λ a. a && opens_shebang (rest input)) n ∙ o)) (shebang-reads b c input start text o)
    go false true false i n o =
        subst (λ z. ReadsAs b.context c (reading_code mode input) (code_found lexer_parts z b (rest input))) (sym (ap (λ a. a && opens_shebang (rest input)) n ∙ o)) (code-reads opened b c input start text)
    go false false shebang i n o =
        subst (λ z. ReadsAs b.context c (reading_code mode input) (code_found lexer_parts z b (rest input))) (sym (ap (λ a. a && opens_shebang (rest input)) n)) (code-reads opened b c input start text)

-- what is read again from a slash, and what the grammar reads again; a clean expression has no faults
pub data RereadsAs (context : Context) (c from : Cursor) (r : Reading) (here : Text) : Option Bare → Type 0 where
  spoilt_again : any_recorded context r.faults ≡ true → RereadsAs context c from r here None
  refused_again : (t : SpannedView) → r.found ≡ Some t → is_error (kind_of t.token) ≡ true → RereadsAs context c from r here None
  good_again : (t : SpannedView) (p : Bare) → r.found ≡ Some t → r.faults ≡ [] → t.span.lo ≡ record { 0 = place from } → is_slash (kind_of t.token) ≡ false → Reads c r t p here → RereadsAs context c from r here (Some p)

pub again-reads : (b : Bearing) (c here : Cursor) (slash : Bare) (x : ℕ) (xs : Text) → here.start ≡ c.start → here.text ≡ c.text → rest here ≡ x ∷ xs → opens_expression (x ∷ xs) ≡ true
    → RereadsAs b.context c here (reading_again slash.flag here) (x ∷ xs) (bare_again b slash (x ∷ xs))
unfolding bare_again
again-reads b c here slash x xs start text left opens =
    subst (λ l. RereadsAs b.context c here (again l) (x ∷ xs) (again_from b.context slash.flag (regular_expression (x ∷ xs)))) (sym left) (go (is_refused s) (any_recorded b.context s.faults) refl refl)
  where
    again : Text → Reading
    again l =
        token_reading
        record { line_break = slash.flag; faults = []; comments = [] }
        (found_at token_behind (place here) (regular_expression l))
        []
        (passed (length (regular_expression l).spelling) here)

    s : Scanned TokenView
    s = regular_expression (x ∷ xs)

    f : FoundView TokenView
    f = found_at token_behind (place here) s

    same : SaysSame b.context (map (fault_behind (place here)) s.faults) s.faults
    same = same-behind b.context (place here) s.faults

    kind : kind_of (token_of f.value) ≡ kind_of (token_of s.value)
    kind = ap kind_of (value-token (place here) s.value) ∙ kind-behind (place here) (token_of s.value)

    front : take (length s.spelling) (rest here) ≡ s.spelling
    front = subst (λ l. take (length s.spelling) l ≡ s.spelling) (sym left) (expression-front (x ∷ xs) opens)

    go : (is_bad recorded : Bool) → is_refused s ≡ is_bad → any_recorded b.context s.faults ≡ recorded → RereadsAs b.context c here (again (x ∷ xs)) (x ∷ xs) (again_if (is_bad || recorded) (bare slash.flag s))
    go true recorded h k = refused_again (spanned slash.flag f) refl (ap is_error kind ∙ h)
    go false true h k = spoilt_again (same.recorded ∙ k)
    go false false h k =
        good_again
        (spanned slash.flag f)
        (bare slash.flag s)
        refl
        (ap (map (fault_behind (place here))) (expression_is_faultless (x ∷ xs) (reads-cleanly b.context s h k)))
        refl
        (expression-no-slash (token_of f.value) (again-kind (place here) (x ∷ xs)))
        (record {
          stands = stands-found c here slash.flag f s x xs start text left front refl (value-token (place here) s.value) refl;
          unrefused = h;
          start = start;
          text = text;
          left = rest-passed (length s.spelling) here ∙ ap (drop (length s.spelling)) left;
        })
