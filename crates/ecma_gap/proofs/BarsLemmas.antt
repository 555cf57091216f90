-- A marker of bars, as its reader goes over it.
use Rattle.std.proofs.Common.{◌≡◌, ℕ, ◌+◌, Bool, true, false, List, [], ◌∷◌, ◌++◌, map, length, drop, Option, Some, None, refl, sym, ap, ◌∙◌, arith, replicate, codes, ◌==◌, length-append}
use Rattle.std.specs.Prelude.{cond, nat_eq, option_map}
use Rattle.std.specs.List.{starts_with}
use Rattle.std.specs.Str.{chars}
use Rattle.std.proofs.lemmas.Bool.{and_parts}
use Rattle.std.proofs.lemmas.List.{drop_at}
use Rattle.ecma_place.specs.Text.{Text}
use Rattle.ecma_place.specs.Character.{is_line_terminator}
use Rattle.ecma_place.specs.Cursor.{Cursor, rest, place, passed}
use Rattle.ecma_place.specs.declared.comment.Comment.{Comment}
use Rattle.ecma_place.specs.declared.place.Span.{Span}
use Rattle.ecma_token.specs.View.{ErrorView, plain_kind, error_view, IsErrorAt}
use Rattle.ecma_token.specs.declared.error.Error.{Error}
use Rattle.ecma_token.specs.declared.error.SyntaxError.{TS1185}
use Rattle.ecma_token.specs.declared.kind.TokenKind.{TokenKind}
use Rattle.ecma_grammar.specs.declared.gap_mode.GapMode.{GapMode}
use Rattle.ecma_grammar.specs.Bars.{common_cutter, bars_elements, bars_spelling, bars_error, bars_faults, bars_at, behind_bars_line, found_bars, opens_bars}
use Rattle.ecma_grammar.specs.Comments.{behind_element, collected, comment_of, comments_of, paired}
use Rattle.ecma_grammar.specs.Found.{Fault, error_behind, fault_behind, span_of}
use Rattle.ecma_grammar.specs.Fronts.{begins_with, behind_line, line}
use Rattle.ecma_grammar.specs.Gaps.{Element, Blank, LineComment, BlockComment, OpenComment, HtmlOpening, HtmlClosing, Marker, element_text, end_of, faults_of, gap_cutter}
use Rattle.ecma_grammar.specs.Pieces.{pieces, spelled}
use Rattle.ecma_grammar.specs.GapViews.{GapView}
use Rattle.ecma_gap.specs.GapRecords.{BarsView, GapSoFarView, bars_found_at, found_with, nothing_read, with_element}
use Rattle.ecma_gap.proofs.GapFaults.{bars_faults_move}
use Rattle.ecma_grammar.proofs.GapForms.{spelled_line}
use Rattle.ecma_gap.proofs.GapSoFarLemmas.{found-step}
use Rattle.ecma_gap.proofs.ElementLemmas.{line-place, two-moves}
use Rattle.ecma_grammar.proofs.SignLemmas.{rest-behind, bars-seen}

-- elements are written the same, whichever cutter reads them
pub spelled-same : (mode : GapMode) (es : List Element) → spelled (gap_cutter mode) es ≡ spelled common_cutter es
spelled-same mode [] = refl
spelled-same mode (e ∷ es) = ap (λ t. element_text e ++ t) (spelled-same mode es)

-- seven bars and a space begin with seven bars
pub seven-bars : (text : Text) → begins_with (codes "||||||| ") text ≡ true → begins_with (replicate 7 124) text ≡ true
seven-bars text h = front (codes "|||||||") (codes " ") text h
  where
    front : (signs more text : Text) → begins_with (signs ++ more) text ≡ true → begins_with signs text ≡ true
    front [] more text h = refl
    front (x ∷ xs) more [] h = cc
    front (x ∷ xs) more (c ∷ cs) h =
        let (here, later) = and_parts (c == x) (begins_with (xs ++ more) cs) h in
        rw here (front xs more cs later)

pub bar-plain : is_line_terminator 124 ≡ false
unfolding is_line_terminator
bar-plain = refl

-- where the flag stands it says nothing which token came before
standing : (prev : Option TokenKind) (n : ℕ) (es : List Element) (text : Text) → comments_of prev true n es text ≡ comments_of None true n es text
standing prev n [] text = refl
standing prev n (e ∷ es) text = go e (λ t. standing prev (end_of n e) es t)
  where
    go : (e : Element) → ((text : Text) → comments_of prev true (end_of n e) es text ≡ comments_of None true (end_of n e) es text) → comments_of prev true n (e ∷ es) text ≡ comments_of None true n (e ∷ es) text
    go (Blank c) more = more (behind_element (Blank c) text)
    go (LineComment l) more = ap (λ cs. paired None true (behind_element (LineComment l) text) (comment_of n (LineComment l)) ++ cs) (more (behind_element (LineComment l) text))
    go (BlockComment b) more = ap (λ cs. paired None true (behind_element (BlockComment b) text) (comment_of n (BlockComment b)) ++ cs) (more (behind_element (BlockComment b) text))
    go (OpenComment b) more = more (behind_element (OpenComment b) text)
    go (HtmlOpening l) more = ap (λ cs. paired None true (behind_element (HtmlOpening l) text) (comment_of n (HtmlOpening l)) ++ cs) (more (behind_element (HtmlOpening l) text))
    go (HtmlClosing l) more = ap (λ cs. paired None true (behind_element (HtmlClosing l) text) (comment_of n (HtmlClosing l)) ++ cs) (more (behind_element (HtmlClosing l) text))
    go (Marker c l) more = ap (λ cs. paired None true (behind_element (Marker c l) text) (comment_of n (Marker c l)) ++ cs) (more (behind_element (Marker c l) text))

-- what stands behind the marker's line
line-behind : (text : Text) → begins_with (replicate 7 124) text ≡ true → behind_element (Marker 124 (line (drop 7 text))) text ≡ behind_bars_line text
line-behind text h =
    let e = replicate 7 124 ++ line (drop 7 text) in
    ap (drop (length e)) (sym (spelled_line (replicate 7 124) text h)) ∙ drop_at e (behind_line (drop 7 text)) (length e) refl

abbrev pub bars-shown : ErrorView → List Fault → List (Comment × Bool) → Bool → BarsView
bars-shown error faults comments flag = record { error = error; faults = faults; comments = comments; line_break = flag }

error-shown : (n : ℕ) (e : Error) (span : Span) → IsErrorAt e TS1185 span → span ≡ span_of n (n + 7) → error_view e ≡ error_behind n bars_error
error-shown n e span is there =
    let shown : Span → ErrorView = λ (s : Span). record { kind = plain_kind TS1185; span = s } in
    let zero : n ≡ n + 0 = omega arith in
    rw (is.kind_is, is.span_is, there) (ap (λ low. shown (span_of low (n + 7))) zero)

pub bars-said : (mode : GapMode) (old mid : Cursor) (r : GapSoFarView) (gap : GapView) (e : Error) (span : Span) → opens_bars (rest old) ≡ true
    → mid ≡ passed (length (element_text (Marker 124 (line (drop 7 (rest old)))))) old
    → r ≡ with_element mode (place old) (rest old) (Marker 124 (line (drop 7 (rest old)))) (nothing_read true)
    → gap ≡ found_with mode (place mid) (rest mid) (pieces common_cutter tt (rest mid)) r
    → IsErrorAt e TS1185 span → span ≡ span_of (place old) (place old + 7)
    → bars-shown (error_view e) gap.faults gap.comments gap.line_break ≡ bars_found_at (place old) (found_bars (place old) mode (rest old))
bars-said mode old mid r gap e span opens moved said found error there =
    let text = rest old in
    let n = place old in
    let signs = seven-bars text opens in
    let marker = Marker 124 (line (drop 7 text)) in
    let left : rest mid ≡ behind_bars_line text = rest-behind old mid _ moved ∙ line-behind text signs in
    let ends : place mid ≡ end_of n marker = line-place (replicate 7 124) old mid signs moved in
    let it = with_element mode n text marker (nothing_read true) in
    let es = pieces common_cutter tt (behind_bars_line text) in
    let whole : gap ≡ found_with mode n text (bars_elements text) (nothing_read true) =
    found
    ∙ ap (λ (v : GapSoFarView). found_with mode (place mid) (rest mid) (pieces common_cutter tt (rest mid)) v) said
    ∙ ap (λ t. found_with mode (place mid) (rest mid) (pieces common_cutter tt t) it) left
    ∙ ap (λ k. found_with mode k (rest mid) es it) ends
    ∙ ap (λ t. found_with mode (end_of n marker) t es it) (rest-behind old mid _ moved)
    ∙ found-step mode n text marker es (nothing_read true) in
    ap (λ (g : GapView). bars-shown (error_view e) g.faults g.comments g.line_break) whole
    ∙ ap (λ v. bars-shown v (faults_of None n (bars_elements text)) (collected mode.collect (comments_of mode.prev true n (bars_elements text) text)) true) (error-shown n e span error there)
    ∙ ap (λ fs. bars-shown (error_behind n bars_error) fs (collected mode.collect (comments_of mode.prev true n (bars_elements text) text)) true) (sym (bars_faults_move n text))
    ∙ ap (λ cs. bars-shown (error_behind n bars_error) (map (fault_behind n) (bars_faults text)) (collected mode.collect cs) true) (standing mode.prev n (bars_elements text) text)

pub bars-moved : (old mid new : Cursor) → opens_bars (rest old) ≡ true → mid ≡ passed (length (element_text (Marker 124 (line (drop 7 (rest old)))))) old
    → new ≡ passed (length (spelled common_cutter (pieces common_cutter tt (rest mid)))) mid → new ≡ passed (length (bars_spelling (rest old))) old
bars-moved old mid new opens moved more =
    let text = rest old in
    let marker = Marker 124 (line (drop 7 text)) in
    let left : rest mid ≡ behind_bars_line text = rest-behind old mid _ moved ∙ line-behind text (seven-bars text opens) in
    two-moves old mid new _ _ _ moved (more ∙ ap (λ t. passed (length (spelled common_cutter (pieces common_cutter tt t))) mid) left)
    (sym (length-append (element_text marker) (spelled common_cutter (pieces common_cutter tt (behind_bars_line text)))))

-- whether bars stand there

pub bars-stand : (text : Text) (b x : Bool) → b ≡ starts_with nat_eq text (chars (codes "||||||| ")) → b ≡ x → opens_bars text ≡ x
bars-stand text b x seen e = sym (bars-seen text) ∙ sym seen ∙ e

pub bars-there : (n : ℕ) (mode : GapMode) (text : Text) (v : BarsView) → opens_bars text ≡ true → v ≡ bars_found_at n (found_bars n mode text) → Some v ≡ option_map (bars_found_at n) (bars_at n mode text)
bars-there n mode text v opens e = ap Some e ∙ ap (λ b. option_map (bars_found_at n) (cond b (Some (found_bars n mode text)) None)) (sym opens)

pub bars-absent : (n : ℕ) (mode : GapMode) (text : Text) → opens_bars text ≡ false → None ≡ option_map (bars_found_at n) (bars_at n mode text)
bars-absent n mode text opens = ap (λ b. option_map (bars_found_at n) (cond b (Some (found_bars n mode text)) None)) (sym opens)

pub bars-passed : (old new : Cursor) (n : ℕ) → opens_bars (rest old) ≡ true → new ≡ passed n old → new ≡ cond (opens_bars (rest old)) (passed n old) old
bars-passed old new n opens moved = moved ∙ ap (λ b. cond b (passed n old) old) (sym opens)

pub bars-kept : (old : Cursor) (n : ℕ) → opens_bars (rest old) ≡ false → old ≡ cond (opens_bars (rest old)) (passed n old) old
bars-kept old n opens = ap (λ b. cond b (passed n old) old) (sym opens)
