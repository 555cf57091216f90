-- Reads of tokens of which nothing is to be told besides.
use Rattle.std.proofs.Common.{drop, drop-drop, zero, suc, ◌≡◌, ℕ, ◌+◌, ◌≤◌, Bool, true, false, ◌||◌, ◌&&◌, ◌==◌, List, [], ◌∷◌, Option, Some, None, Result, Ok, Err, length, is_some, slice_get, refl, sym, subst, ap, arith, ◌∙◌}
use Rattle.std.specs.Prelude.{option_map, IfOk, IfSome}
use Rattle.std.specs.List.{list_any, prefix_len, take_while}
use Rattle.ecma_place.specs.Character.{is_line_terminator, is_white_space}
use Rattle.ecma_place.specs.Text.{Text, byte_len}
use Rattle.ecma_place.specs.Cursor.{Cursor, ascii_of, rest, place, passed}
use Rattle.ecma_place.specs.declared.place.BytePos.{BytePos}
use Rattle.ecma_place.specs.declared.comment.Comment.{Comment}
use Rattle.ecma_place.specs.declared.place.Span.{Span}
use Rattle.ecma_place.proofs.MoveLemmas.{span-passed}
use Rattle.ecma_syntax.specs.declared.word.Word.{Word}
use Rattle.ecma_token.specs.View.{SpannedView, TokenView, plain_token, token_view}
use Rattle.ecma_token.specs.declared.token.Token as token
use Rattle.ecma_place.proofs.CursorLemmas.{ascii-is}
use Rattle.ecma_gap.proofs.BlankGapLemmas.{told}
use Rattle.ecma_reads.specs.BlankGaps.{IsBlankGap, IsTold, may_begin, told_of}
use Rattle.ecma_reads.specs.declared.blank_gap.BlankGap.{BlankGap}
use Rattle.ecma_reads.specs.Comments.{collected, comments_at}
use Rattle.ecma_reads.specs.Found.{found_at, scanned, span_of, token_behind}
use Rattle.ecma_reads.specs.Gaps.{gap_faults_at, has_line_break}
use Rattle.ecma_reads.specs.Punctuators.{Punctuator, punctuator_in, spelling_in, token_in}
use Rattle.ecma_reads.proofs.PunctuatorLemmas.{punctuator-front, punctuator-seen}
use Rattle.ecma_reads.specs.GapViews.{GapView}
use Rattle.ecma_reads.specs.Shebangs.{opens_shebang}
use Rattle.ecma_reads.specs.Numbers.{number}
use Rattle.ecma_reads.specs.Strings.{string_literal}
use Rattle.ecma_reads.specs.Templates.{template_found, template_text}
use Rattle.ecma_reads.specs.Words.{word}
use Rattle.ecma_state.specs.Mode.{gap_mode, is_template, is_tpl_element, keeps_space, passes_space, type_mode}
use Rattle.ecma_reads.specs.PlainTemplates.{found_between}
use Rattle.ecma_plain.specs.Plain.{IsPlain, ReadsText, StandsPlain, plain_reading, plain_view, text_reading, text_view}
use Rattle.ecma_state.specs.Reading.{Reading, gap_in, is_free, is_free_behind, is_free_code, reading, reading_if, reading_token, token_reading}
use Rattle.ecma_state.specs.TokenAt.{as_token, comments_in, is_free_at, is_free_token, lookahead, placed, ts1085, punctuator_or_stray, read_opened, token_at, token_comments, word_token}
use Rattle.ecma_state.specs.declared.mode.Mode.{Mode}
use Rattle.ecma_state.specs.declared.lookahead.Lookahead.{Lookahead}
use Rattle.ecma_state.specs.declared.lookahead.Lookahead.TheVariants as opens
use Rattle.ecma_contexts.specs.declared.token_context.TokenContext.{TokenContext}
use Rattle.ecma_contexts.specs.declared.token_context.TokenContext.TheVariants as context
use Rattle.ecma_reads.proofs.ReadingLemmas.{free-reading, free-token, reading-some}
use Rattle.ecma_reads.proofs.TokenLemmas.{view}
use Rattle.ecma_plain.proofs.AloneLemmas.{other-byte}

-- Tokens

-- a word that is written with no escape
pub word-plain : (mode : Mode) (n : ℕ) (text spelling : Text) (w : Word) (flag : Bool) (extent : Span)
    → word mode.context text ≡ scanned w spelling → extent ≡ span_of n (n + byte_len spelling)
    → found_at token_behind n (word_token mode text) ≡ plain_view (record { token = plain_token (token.Word w); had_line_break = flag; span = extent })
word-plain mode n text spelling w flag extent is at =
    ap (λ s. found_at token_behind n (as_token s)) is ∙ ap (λ e. view (Ok (plain_token (token.Word w))) [] e false) (sym at)

-- a punctuator
pub punctuator-plain : (n : ℕ) (found : Option Punctuator) (text : Text) (t : token.Token) (flag : Bool) (extent : Span)
    → Some t ≡ token_in found → option_map token_view (token_in found) ≡ option_map (token_behind n) (option_map (λ p. plain_token p.token) found)
    → extent ≡ span_of n (n + byte_len (spelling_in found))
    → found_at token_behind n (punctuator_or_stray found text) ≡ plain_view (record { token = token_view t; had_line_break = flag; span = extent })
punctuator-plain n (Some p) text t flag extent is seen at =
    let same : t ≡ p.token = cc in
    let told : token_view p.token ≡ token_behind n (plain_token p.token) = cc in
    ap (λ x. view (Ok x) [] (span_of n (n + byte_len p.spelling)) false) (sym (ap token_view same ∙ told))
    ∙ ap (λ e. view (Ok (token_view t)) [] e false) (sym at)
punctuator-plain n None text t flag extent is seen at = cc

pub punctuator-spelled : (found : Option Punctuator) (text : Text) (t : token.Token) → Some t ≡ token_in found → spelling_in found ≡ (punctuator_or_stray found text).spelling
punctuator-spelled (Some p) text t is = refl
punctuator-spelled None text t is = cc

pub three-some : {T : Type 0} (o : Option T) (P Q R S : T → Type 0) → IfSome o P → IfSome o Q → IfSome o R → ((x : T) → P x → Q x → R x → S x) → IfSome o S
three-some (Some x) P Q R S p q t f = f x p q t
three-some None P Q R S p q t f = tt

pub one-some : {T : Type 0} (o : Option T) (P S : T → Type 0) → IfSome o P → ((x : T) → P x → S x) → IfSome o S
one-some (Some x) P S p f = f x p
one-some None P S p f = tt

pub ok-some : {T E : Type 0} (r : Result (Option T) E) (P Q S : T → Type 0) → IfOk r (λ o. IfSome o P) → IfOk r (λ o. IfSome o Q) → ((x : T) → P x → Q x → S x) → IfOk r (λ o. IfSome o S)
ok-some (Ok (Some x)) P Q S p q f = f x p q
ok-some (Ok None) P Q S p q f = tt
ok-some (Err e) P Q S p q f = tt

-- a token that does not allocate, where it is known what opens it
pub free-opened : (mode : Mode) (flag : Bool) (text : Text) (o : Lookahead) → lookahead mode flag text ≡ o → is_free_at mode flag text ≡ true → is_free_token o text (read_opened o mode text) ≡ true
free-opened mode flag text o is h = ap (λ x. is_free_token x text (read_opened x mode text)) (sym is) ∙ h

-- a word is found where one opens
pub plain-of-word : (mode : Mode) (flag : Bool) (old now : Cursor) (t : SpannedView) → lookahead mode flag (rest old) ≡ opens.Word
    → found_at token_behind (place old) (word_token mode (rest old)) ≡ plain_view t → t.had_line_break ≡ flag → now ≡ passed (length (word_token mode (rest old)).spelling) old
    → IsPlain mode t old now
plain-of-word mode flag old now t is found same moved =
    let opened : lookahead mode t.had_line_break (rest old) ≡ opens.Word = ap (λ b. lookahead mode b (rest old)) same ∙ is in
    record {
      found = ap (λ x. placed x mode (place old) (read_opened x mode (rest old))) opened ∙ found;
      comments = ap (λ x. comments_in x mode (place old) (rest old)) opened;
      moved = moved ∙ ap (λ x. passed (length (read_opened x mode (rest old)).spelling) old) (sym opened);
    }

-- so is a string
pub plain-of-string : (mode : Mode) (flag : Bool) (old now : Cursor) (t : SpannedView) → lookahead mode flag (rest old) ≡ opens.String
    → found_at token_behind (place old) (string_literal (rest old)) ≡ plain_view t → t.had_line_break ≡ flag → now ≡ passed (length (string_literal (rest old)).spelling) old
    → IsPlain mode t old now
plain-of-string mode flag old now t is found same moved =
    let opened : lookahead mode t.had_line_break (rest old) ≡ opens.String = ap (λ b. lookahead mode b (rest old)) same ∙ is in
    record {
      found = ap (λ x. placed x mode (place old) (read_opened x mode (rest old))) opened ∙ found;
      comments = ap (λ x. comments_in x mode (place old) (rest old)) opened;
      moved = moved ∙ ap (λ x. passed (length (read_opened x mode (rest old)).spelling) old) (sym opened);
    }

-- so is a number
pub plain-of-number : (mode : Mode) (flag : Bool) (old now : Cursor) (t : SpannedView) → lookahead mode flag (rest old) ≡ opens.Number
    → found_at token_behind (place old) (number (ts1085 mode) mode.settings.numbers (rest old)) ≡ plain_view t → t.had_line_break ≡ flag → now ≡ passed (length (number (ts1085 mode) mode.settings.numbers (rest old)).spelling) old
    → IsPlain mode t old now
plain-of-number mode flag old now t is found same moved =
    let opened : lookahead mode t.had_line_break (rest old) ≡ opens.Number = ap (λ b. lookahead mode b (rest old)) same ∙ is in
    record {
      found = ap (λ x. placed x mode (place old) (read_opened x mode (rest old))) opened ∙ found;
      comments = ap (λ x. comments_in x mode (place old) (rest old)) opened;
      moved = moved ∙ ap (λ x. passed (length (read_opened x mode (rest old)).spelling) old) (sym opened);
    }

-- a punctuator is found where nothing else opens
pub plain-of-punctuator : (mode : Mode) (old now : Cursor) (found : Option Punctuator) (t : token.Token) (flag : Bool) (span : Span) (lo hi : BytePos)
    → lookahead mode flag (rest old) ≡ opens.Other → punctuator_in (type_mode mode) (rest old) ≡ found → Some t ≡ token_in found → now ≡ passed (length (spelling_in found)) old
    → lo.0 ≡ place old → hi.0 ≡ place now → span ≡ record { lo = lo; hi = hi }
    → IsPlain mode (record { token = token_view t; had_line_break = flag; span = span }) old now
plain-of-punctuator mode old now found t flag span lo hi opened is told moved at to spans =
    let there = punctuator_in (type_mode mode) (rest old) in
    let token : Some t ≡ token_in there = told ∙ sym (ap token_in is) in
    let passes : now ≡ passed (length (spelling_in there)) old = moved ∙ sym (ap (λ f. passed (length (spelling_in f)) old) is) in
    let extent = spans ∙ span-passed old now (spelling_in there) lo hi (punctuator-front (type_mode mode) (rest old)) passes at to in
    record {
      found = ap (λ x. placed x mode (place old) (read_opened x mode (rest old))) opened ∙ punctuator-plain (place old) there (rest old) t flag span token (punctuator-seen (place old) (type_mode mode) (rest old)) extent;
      comments = ap (λ x. comments_in x mode (place old) (rest old)) opened;
      moved = passes ∙ ap (λ s. passed (length s) old) (punctuator-spelled there (rest old) t token) ∙ ap (λ x. passed (length (read_opened x mode (rest old)).spelling) old) (sym opened);
    }

-- Reads

pub passes-parts : (top : Option TokenContext) → passes_space top ≡ true → (is_template top ≡ false) × (keeps_space top ≡ false)
passes-parts None e = (refl, refl)
passes-parts (Some context.BraceStmt) e = (refl, refl)
passes-parts (Some context.BraceExpr) e = (refl, refl)
passes-parts (Some context.TplQuasi) e = (refl, refl)
passes-parts (Some (context.ParenStmt is_for_loop)) e = (refl, refl)
passes-parts (Some context.ParenExpr) e = (refl, refl)
passes-parts (Some context.Tpl) e = cc
passes-parts (Some context.FnExpr) e = (refl, refl)
passes-parts (Some context.ClassExpr) e = (refl, refl)
passes-parts (Some context.JSXOpeningTag) e = (refl, refl)
passes-parts (Some context.JSXClosingTag) e = (refl, refl)
passes-parts (Some context.JSXExpr) e = cc

-- a gap of which nothing is told but the flag
pub stands-plain : (mode : Mode) (old now : Cursor) (gap : BlankGap) → mode.shebang_allowed ≡ false → passes_space mode.top ≡ true → IsTold mode.first mode.settings.comments old now gap → StandsPlain mode old now gap
stands-plain mode old now gap given passes told =
    let parts = passes-parts mode.top passes in
    record { given = given; in_code = parts.0; next = told.0; blank = told.1 (gap_mode mode) refl parts.0 parts.1 refl }

-- no element may begin with the character, which is ASCII, behind a gap with no line terminator
pub space-told : (text : Text) (b : ℕ) → Some b ≡ ascii_of (slice_get text 0) → (b ≡ 47 → ⊥) → (b ≡ 60 → ⊥)
    → (let gap : BlankGap = record { line_break = false; next = b } in Some gap) ≡ told_of false text
space-told [] b e slash less = cc
space-told (c ∷ cs) b e slash less =
    let same : Some c ≡ Some b = ascii-is (Some c) b (sym e) in
    let is : c ≡ b = cc in
    let no_slash : (c == 47) ≡ false = other-byte c 47 (λ h. slash (sym is ∙ h)) in
    let no_less : (c == 60) ≡ false = other-byte c 60 (λ h. less (sym is ∙ h)) in
    rw (no_slash, no_less) (ap (option_map (λ (x : ℕ). let gap : BlankGap = record { line_break = false; next = x } in gap)) e)

-- so may none past ASCII
pub past-begins : (flag : Bool) (text : Text) (c : ℕ) → slice_get text 0 ≡ Some c → 128 ≤ c → may_begin flag text ≡ false
past-begins flag [] c e past = cc
past-begins flag (d ∷ ds) c e past =
    let is : d ≡ c = cc in
    let slash : (d == 47) ≡ false = other-byte d 47 (λ h. omega (arith, is, h, past)) in
    let less : (d == 60) ≡ false = other-byte d 60 (λ h. omega (arith, is, h, past)) in
    let minus : (d == 45) ≡ false = other-byte d 45 (λ h. omega (arith, is, h, past)) in
    let equals : (d == 61) ≡ false = other-byte d 61 (λ h. omega (arith, is, h, past)) in
    let greater : (d == 62) ≡ false = other-byte d 62 (λ h. omega (arith, is, h, past)) in
    rw (slash, less, minus, equals, greater) (none flag)
  where
    none : (flag : Bool) → (flag && false) ≡ false
    none true = refl
    none false = refl

-- a read behind it does not allocate where its token does not
pub free-plain : (mode : Mode) (old now : Cursor) (gap : BlankGap) → StandsPlain mode old now gap → is_free mode old ≡ true → is_free_at mode gap.line_break (rest now) ≡ true
free-plain mode old now gap stands h =
    let code : is_free_code mode old ≡ true = ap (λ b. (b && opens_shebang (rest old)) || is_free_code mode old) (sym stands.given) ∙ h in
    let free = free-reading mode old code in
    let there : is_free_behind mode (has_line_break (gap_mode mode) (rest old)) (rest now) ≡ true = ap (λ c. is_free_behind mode (has_line_break (gap_mode mode) (rest old)) (rest c)) stands.blank.moved ∙ free.token in
    free-token mode gap.line_break (rest now) gap.next stands.next (ap (λ b. is_free_behind mode b (rest now)) (sym stands.blank.line_break) ∙ there)

or-false : (b : Bool) → (b || false) ≡ b
or-false true = refl
or-false false = refl

-- behind white space alone nothing is found besides the token
pub plain-read : (mode : Mode) (input here now : Cursor) (c : ℕ) (t : SpannedView) → mode.shebang_allowed ≡ false → slice_get (rest here) 0 ≡ Some c
    → IsBlankGap (gap_mode mode) input here t.had_line_break → IsPlain mode t here now → reading mode input ≡ plain_reading t now
plain-read mode input here now c t none first gap is =
    ap (λ b. reading_if (b && opens_shebang (rest input)) mode input) none
    ∙ reading-some mode input here c gap.moved first
    ∙ ap (λ g. reading_token mode g here (rest here)) told
    ∙ ap (λ f. token_reading blank f (token_comments mode flag (place here) (rest here)) behind) is.found
    ∙ ap (λ cs. token_reading blank (plain_view t) cs behind) is.comments
    ∙ ap (λ i. token_reading blank (plain_view t) [] i) (sym is.moved)
    ∙ ap (λ b. let r : Reading = record { found = Some (record { token = t.token; had_line_break = b; span = t.span }); end_flag = flag; faults = []; comments = []; input = now } in r) (or-false flag)
  where
    flag : Bool
    flag = t.had_line_break

    blank : GapView
    blank = record { line_break = flag; comments = []; faults = [] }

    behind : Cursor
    behind = passed (length (token_at mode flag (rest here)).spelling) here

    told : gap_in mode (place input) (rest input) ≡ blank
    told =
        ap (λ b. let g : GapView = record { line_break = b; comments = comments_at (place input) (gap_mode mode) (rest input); faults = gap_faults_at (place input) (gap_mode mode) (rest input) } in g) gap.line_break
        ∙ ap (λ cs. let g : GapView = record { line_break = flag; comments = cs; faults = gap_faults_at (place input) (gap_mode mode) (rest input) } in g) gap.comments
        ∙ ap (λ fs. let g : GapView = record { line_break = flag; comments = []; faults = fs } in g) gap.faults

-- a name that begins past ASCII behind white space
pub foreign-read : (mode : Mode) (old mid now : Cursor) (terminator : Bool) (c : ℕ) (t : SpannedView) → mode.shebang_allowed ≡ false → passes_space mode.top ≡ true
    → mid ≡ passed (prefix_len is_white_space (rest old)) old → terminator ≡ list_any is_line_terminator (take_while is_white_space (rest old)) → slice_get (rest mid) 0 ≡ Some c → 128 ≤ c
    → t.had_line_break ≡ (mode.first || terminator) → IsPlain mode t mid now → reading mode old ≡ plain_reading t now
foreign-read mode old mid now terminator c t given passes moved said first past flag is =
    let parts = passes-parts mode.top passes in
    let blank = told mode.first old mid terminator c moved said first (past-begins (mode.first || terminator) (rest mid) c first past) (gap_mode mode) refl parts.0 parts.1 in
    plain-read mode old mid now c t given first (subst (IsBlankGap (gap_mode mode) old mid) (sym flag) blank) is

-- in a template no gap stands before its text
pub blank-text : (mode : Mode) (input : Cursor) → mode.first ≡ false → is_template mode.top ≡ true → IsBlankGap (gap_mode mode) input input false
blank-text mode input first template =
    record {
      line_break = rw (first, template) refl;
      comments = rw template (collected-none mode.settings.comments);
      faults = rw template refl;
      moved = rw template (ap (λ (n : ℕ). let moved : Cursor = record { start = input.start; text = input.text; at = n } in moved) same);
    }
  where
    same : input.at ≡ input.at + 0
    same = omega arith

    none : List (Comment × Bool)
    none = []

    collected-none : (collect : Bool) → collected collect none ≡ none
    collected-none true = refl
    collected-none false = refl

-- what a read finds in a template
pub text-read : (mode : Mode) (input now : Cursor) (c : ℕ) (t : SpannedView) → mode.shebang_allowed ≡ false → mode.first ≡ false → is_template mode.top ≡ true
    → slice_get (rest input) 0 ≡ Some c → template_found mode.opened.0 (place input) (template_text (is_tpl_element mode.previous) (rest input)) ≡ text_view t
    → now ≡ passed (length (template_text (is_tpl_element mode.previous) (rest input)).spelling) input → reading mode input ≡ text_reading t now
text-read mode input now c t none new template first found moved =
    ap (λ b. reading_if (b && opens_shebang (rest input)) mode input) none
    ∙ reading-some mode input input c gap.moved first
    ∙ ap (λ g. reading_token mode g input (rest input)) told
    ∙ ap (λ x. token_reading blank (placed x mode (place input) (read_opened x mode (rest input))) (comments_in x mode (place input) (rest input)) (passed (length (read_opened x mode (rest input)).spelling) input)) opened
    ∙ ap (λ f. token_reading blank f [] (passed (length (template_text (is_tpl_element mode.previous) (rest input)).spelling) input)) found
    ∙ ap (λ i. token_reading blank (text_view t) [] i) (sym moved)
  where
    gap : IsBlankGap (gap_mode mode) input input false
    gap = blank-text mode input new template

    opened : lookahead mode false (rest input) ≡ opens.Template
    opened = rw template refl

    blank : GapView
    blank = record { line_break = false; comments = []; faults = [] }

    told : gap_in mode (place input) (rest input) ≡ blank
    told =
        ap (λ b. let g : GapView = record { line_break = b; comments = comments_at (place input) (gap_mode mode) (rest input); faults = gap_faults_at (place input) (gap_mode mode) (rest input) } in g) gap.line_break
        ∙ ap (λ cs. let g : GapView = record { line_break = false; comments = cs; faults = gap_faults_at (place input) (gap_mode mode) (rest input) } in g) gap.comments
        ∙ ap (λ fs. let g : GapView = record { line_break = false; comments = []; faults = fs } in g) gap.faults

-- the same of what is passed at once
pub eaten-text : (mode : Mode) (input now : Cursor) (c : ℕ) (after flag : Bool) (token : TokenView) (t : SpannedView) (low high : ℕ) → ReadsText mode → after ≡ is_tpl_element mode.previous
    → slice_get (rest input) 0 ≡ Some c
    → ((opened : ℕ) → (template_found opened (place input) (template_text after (rest input)) ≡ found_between input now (Ok token) flag) × (now ≡ passed (length (template_text after (rest input)).spelling) input))
    → t ≡ record { token = token; had_line_break = flag; span = span_of low high } → low ≡ place input → high ≡ place now → reading mode input ≡ text_reading t now
eaten-text mode input now c after flag token t low high is same first found view from to =
    let eaten = found mode.opened.0 in
    let spelled = subst (λ (b : Bool). template_found mode.opened.0 (place input) (template_text b (rest input)) ≡ found_between input now (Ok token) flag) same eaten.0 in
    let moved = subst (λ (b : Bool). now ≡ passed (length (template_text b (rest input)).spelling) input) same eaten.1 in
    text-read mode input now c t is.0 is.1 is.2 first (rw (view, from, to) spelled) moved

-- such a read does not allocate where the text allocates nothing
pub free-text : (mode : Mode) (input : Cursor) (c : ℕ) → mode.shebang_allowed ≡ false → mode.first ≡ false → is_template mode.top ≡ true → slice_get (rest input) 0 ≡ Some c
    → is_free mode input ≡ true → is_free_token opens.Template (rest input) (template_text (is_tpl_element mode.previous) (rest input)) ≡ true
free-text mode input c none new template first h =
    let code : is_free_code mode input ≡ true = ap (λ b. (b && opens_shebang (rest input)) || is_free_code mode input) (sym none) ∙ h in
    let free = free-reading mode input code in
    let gap = blank-text mode input new template in
    let there : is_free_behind mode (has_line_break (gap_mode mode) (rest input)) (rest input) ≡ true = ap (λ c. is_free_behind mode (has_line_break (gap_mode mode) (rest input)) (rest c)) gap.moved ∙ free.token in
    let at : is_free_at mode false (rest input) ≡ true = free-token mode false (rest input) c first (ap (λ b. is_free_behind mode b (rest input)) (sym gap.line_break) ∙ there) in
    free-opened mode false (rest input) opens.Template (rw template refl) at

pub none-is : {A : Type 0} (o : Option A) → is_some o ≡ false → o ≡ None
none-is None e = refl
none-is (Some x) e = cc

-- nothing stands behind the end
pub none-behind : (old now : Cursor) (n c : ℕ) → now ≡ passed n old → rest old ≡ [] → slice_get (rest now) 0 ≡ Some c → ⊥
none-behind old now n c moved end first =
    go n
    (ap (λ (t : Text). slice_get (drop n t) 0) (sym end) ∙ ap (λ (t : Text). slice_get t 0) (drop-drop n old.at old.text) ∙ ap (λ (i : Cursor). slice_get (rest i) 0) (sym moved)
    ∙ first)
  where
    empty : Text
    empty = []

    go : (n : ℕ) → slice_get (drop n empty) 0 ≡ Some c → ⊥
    go zero e = cc
    go (suc n) e = cc

pub some-before : (old now : Cursor) (n c : ℕ) → now ≡ passed n old → slice_get (rest now) 0 ≡ Some c → (x : ℕ) × (slice_get (rest old) 0 ≡ Some x)
some-before old now n c moved first = go (rest old) refl
  where
    go : (text : Text) → rest old ≡ text → (x : ℕ) × (slice_get (rest old) 0 ≡ Some x)
    go [] e = absurd (none-behind old now n c moved e first)
    go (x ∷ xs) e = (x, ap (λ (t : Text). slice_get t 0) e)
