-- The pieces of template text tile it, and are found again in front of any text that ends it.
use Rattle.std.proofs.Common.{◌≡◌, ℕ, suc, ◌+◌, ◌<◌, ◌≤◌, Bool, true, false, not, cond, ◌&&◌, ◌||◌, ◌==◌, List, [], ◌∷◌, ◌++◌, drop, take, length, Some, None, Ok, refl, ap, ◌∙◌, sym, subst, arith, append_assoc, length-append, eqb-true}
use Rattle.std.proofs.lemmas.List.{drop_at, append_cancel_left}
use Rattle.std.proofs.lemmas.Bool.{and_parts}
use Rattle.std.proofs.lemmas.Str.{len_utf8_bounds}
use Rattle.std.specs.Prelude.{⊤, encode_utf8_all}
use Rattle.std.specs.List.{list_all}
use Rattle.ecma_place.specs.Text.{Text, byte_len}
use Rattle.ecma_place.specs.Atom.{borrowed_atom}
use Rattle.ecma_place.specs.Character.{is_line_terminator}
use Rattle.ecma_place.proofs.CursorLemmas.{byte_len-cons}
use Rattle.ecma_token.specs.Kinds.{kind_of}
use Rattle.ecma_token.specs.View.{TokenView, plain_token}
use Rattle.ecma_token.specs.declared.kind.TokenKind.TheVariants.{Template}
use Rattle.ecma_token.specs.declared.token.Token.{BackQuote, DollarLBrace, Template', Ok'}
use Rattle.ecma_grammar.specs.Found.{Scanned}
use Rattle.ecma_grammar.specs.Fronts.{front, after, next_passes, next_is, is}
use Rattle.ecma_grammar.specs.Locality.{is_clean, ends_template}
use Rattle.ecma_grammar.specs.Pieces.{pieces, spelled, remainder}
use Rattle.ecma_grammar.specs.Cutters.{IsCutter, ReadsInOrder}
use Rattle.ecma_grammar.specs.Escapes.{Accepted, InTemplate, Lead, UnicodeLetter, HexLetter, OctalDigit, LineEnd, Single, lead, escape_of, escape_behind, unicode_escape, four_escape, braced_escape, hex_escape, octal_escape, line_end, is_hex_digit, is_octal_digit}
use Rattle.ecma_grammar.specs.Templates as spec
use Rattle.ecma_grammar.specs.Templates.{TemplatePiece, Break, Escaped, piece_text, TemplateEnd, AtEnd, AtBackQuote, AtDollarBrace, template_end, found_text, text_of, mark_of, template_of, template_text, template_token, token_of_refusal, is_verbatim, last_refusal, cooked_text, cooked_break, cooked_atom, raw_text, raw_atom, TemplateRole, Stop, Backslash, Itself, template_role, template_piece_of, template_piece, template_cutter, TemplateTiles, TemplateIsPieces, TemplateIsFront, TemplateIsLocal, TemplateIsEnded, TemplateMarksAreLocal, TemplateGoesOn, CookedIsRaw}
use Rattle.ecma_grammar.proofs.Fronts.{front_before, begins_before, begins_after_before}
use Rattle.ecma_grammar.proofs.PieceLemmas.{FrontIf, is_cutter, pieces_in_order, cut, remainder_is, tiling, maximal}
use Rattle.ecma_grammar.proofs.EscapeLaws.{escape_size, IsFrontOf, escape_front, escape_some, line_end_front, line_length, braced_rest, front_begins}

-- a backslash is one
backslash_is : (c : ℕ) (cs : Text) → template_role c cs ≡ Backslash → 92 ≡ c
backslash_is c cs h = go (c == 96 || (c == 36 && next_is 123 cs)) (c == 92) (is_line_terminator c) refl h
  where
    go : (x y z : Bool) → (c == 92) ≡ y → cond x Stop (cond y Backslash (cond z spec.LineEnd Itself)) ≡ Backslash → 92 ≡ c
    go true y z f h = cc
    go false true z f h = sym (eqb-true c 92 f)
    go false false true f h = cc
    go false false false f h = cc

piece_front : (text : Text) → FrontIf template_cutter (template_piece text) text
piece_front [] = tt
piece_front (c ∷ cs) = go (template_role c cs) refl
  where
    go : (r : TemplateRole) → template_role c cs ≡ r → FrontIf template_cutter (template_piece_of r c cs) (c ∷ cs)
    go Stop e = tt
    go Itself e = ((cs, refl), omega arith)
    go spec.LineEnd e = (line_end_front c cs, omega (arith, line_length c cs))
    go Backslash e =
        let f = escape_front InTemplate cs in
        ((f.0, f.1 ∙ ap (λ x. x ∷ cs) (backslash_is c cs e)), escape_some InTemplate cs)

pub template_is_cutter : IsCutter template_cutter
template_is_cutter = is_cutter template_cutter (λ _ text. piece_front text)

-- a text whose first character goes on with no escape, and is none of one character alone behind a backslash
record Quiet (r : Text) : Type 0 where
  hex : next_passes is_hex_digit r ≡ false
  octal : next_passes is_octal_digit r ≡ false
  feed : next_is 10 r ≡ false
  opens : next_is 123 r ≡ false
  closes : next_is 125 r ≡ false
  quoted : escape_size (escape_behind InTemplate r) ≡ 2
  stops : template_piece r ≡ None

is_quiet : (r : Text) → ends_template r ≡ true → Quiet r
unfolding is_line_terminator
is_quiet [] h = cc
is_quiet (c ∷ []) h = go (c == 96) refl h
  where
    go : (x : Bool) → (c == 96) ≡ x → (x || (c == 36 && false)) ≡ true → Quiet (c ∷ [])
    go true e h = let same : 96 ≡ c = sym (eqb-true c 96 e) in subst (λ d. Quiet (d ∷ [])) same (record { hex = refl; octal = refl; feed = refl; opens = refl; closes = refl; quoted = refl; stops = refl })
    go false e h = absurd (no (c == 36) h)
      where
        no : (y : Bool) → (y && false) ≡ true → ⊥
        no true h = cc
        no false h = cc
is_quiet (c ∷ (d ∷ ds)) h = go (c == 96) (c == 36) refl refl h
  where
    go : (x y : Bool) → (c == 96) ≡ x → (c == 36) ≡ y → (x || (y && d == 123)) ≡ true → Quiet (c ∷ (d ∷ ds))
    go true y e f h = let same : 96 ≡ c = sym (eqb-true c 96 e) in subst (λ x. Quiet (x ∷ (d ∷ ds))) same (record { hex = refl; octal = refl; feed = refl; opens = refl; closes = refl; quoted = refl; stops = refl })
    go false true e f h =
        let same : 36 ≡ c = sym (eqb-true c 36 f) in
        let brace : 123 ≡ d = sym (eqb-true d 123 h) in
        subst (λ x. Quiet (x ∷ (d ∷ ds))) same (subst (λ y. Quiet (36 ∷ (y ∷ ds))) brace (record { hex = refl; octal = refl; feed = refl; opens = refl; closes = refl; quoted = refl; stops = refl }))
    go false false e f h = cc

-- behind its first character, an escape in front of such a text is the escape at the end of its own

unicode_before : (t r : Text) → Quiet r → unicode_escape InTemplate (t ++ r) ≡ unicode_escape InTemplate t
unicode_before [] r q = rw q.opens (ap (λ l. four_escape InTemplate (take 4 l)) (front_before is_hex_digit [] r q.hex))
unicode_before (z ∷ zs) r q = go (z == 123) refl
  where
    go : (x : Bool) → (z == 123) ≡ x → unicode_escape InTemplate ((z ∷ zs) ++ r) ≡ unicode_escape InTemplate (z ∷ zs)
    go true e =
        rw e
        (braced_rest InTemplate (front is_hex_digit (zs ++ r)) (after is_hex_digit (zs ++ r)) (after is_hex_digit zs) (begins_after_before is_hex_digit (is 125) zs r q.hex q.closes)
        ∙ ap (λ l. braced_escape InTemplate l (after is_hex_digit zs)) (front_before is_hex_digit zs r q.hex))
    go false e = rw e (ap (λ l. four_escape InTemplate (take 4 l)) (front_before is_hex_digit (z ∷ zs) r q.hex))

octal_before : (c : ℕ) (cs r : Text) → Quiet r → octal_escape InTemplate c (cs ++ r) ≡ octal_escape InTemplate c cs
octal_before c cs r q = rw (begins_before is_octal_digit cs r q.octal)

line_before : (c : ℕ) (cs r : Text) → Quiet r → line_end c (cs ++ r) ≡ line_end c cs
line_before c cs r q = rw (begins_before (is 10) cs r q.feed)

escape_before : (c : ℕ) (cs r : Text) → Quiet r → escape_behind InTemplate ((c ∷ cs) ++ r) ≡ escape_behind InTemplate (c ∷ cs)
escape_before c cs r q = go (lead c)
  where
    go : (o : Lead) → escape_of InTemplate o c (cs ++ r) ≡ escape_of InTemplate o c cs
    go UnicodeLetter = unicode_before cs r q
    go HexLetter = ap (λ l. hex_escape (take 2 l)) (front_before is_hex_digit cs r q.hex)
    go OctalDigit = octal_before c cs r q
    go LineEnd = ap (λ l. Accepted (92 ∷ l) [] []) (line_before c cs r q)
    go Single = refl

-- a piece is settled by its own characters and such a text behind them
piece_again : (x r s : Text) (piece : TemplatePiece) → 0 < length x → template_piece (x ++ r) ≡ Some piece → length (piece_text piece) ≤ length x
    → Quiet r → Quiet s → template_piece (x ++ s) ≡ Some piece
piece_again [] r s piece some h room q p = absurd (omega (arith, some))
piece_again (c ∷ cs) r s piece some h room q p =
    let here : template_role c (cs ++ r) ≡ template_role c cs = rw (begins_before (is 123) cs r q.opens) in
    let there : template_role c (cs ++ s) ≡ template_role c cs = rw (begins_before (is 123) cs s p.opens) in
    ap (λ o. template_piece_of o c (cs ++ s)) there ∙ go (template_role c cs) cs (sym (ap (λ o. template_piece_of o c (cs ++ r)) here) ∙ h) (omega (arith, room))
  where
    go : (o : TemplateRole) (cs : Text) → template_piece_of o c (cs ++ r) ≡ Some piece → length (piece_text piece) ≤ suc (length cs) → template_piece_of o c (cs ++ s) ≡ Some piece
    go Stop cs h room = cc
    go Itself cs h room = h
    go spec.LineEnd cs h room = ap (λ l. Some (Break l)) (line_before c cs s p ∙ sym (line_before c cs r q)) ∙ h
    go Backslash [] h room =
        let same : Escaped (escape_behind InTemplate r) ≡ piece = cc in
        absurd (omega (arith, room, ap (λ x. length (piece_text x)) same, q.quoted))
    go Backslash (d ∷ ds) h room = ap (λ e. Some (Escaped e)) (escape_before d ds s p ∙ sym (escape_before d ds r q)) ∙ h

-- pieces in order stay so
in_order_again : (ps : List TemplatePiece) (r s : Text) → Quiet r → Quiet s → ReadsInOrder template_cutter tt ps r → ReadsInOrder template_cutter tt ps s
in_order_again [] r s q p h = p.stops
in_order_again (piece ∷ more) r s q p h =
    let text = piece_text piece in
    let behind = spelled template_cutter more in
    let some : 0 < length (text ++ behind) = omega (arith, length-append text behind, template_is_cutter.some tt (text ++ (behind ++ r)) piece h.0) in
    let here : template_piece ((text ++ behind) ++ r) ≡ Some piece = subst (λ l. template_piece l ≡ Some piece) (sym (append_assoc text behind r)) h.0 in (
      subst (λ l. template_piece l ≡ Some piece) (append_assoc text behind s) (piece_again (text ++ behind) r s piece some here (omega (arith, length-append text behind)) q p),
      in_order_again more r s q p h.1,
    )

abbrev pub is_at_end : TemplateEnd → Bool
is_at_end AtEnd = true
is_at_end AtBackQuote = false
is_at_end AtDollarBrace = false

-- these pieces are read as text
abbrev IsText : Bool → List TemplatePiece → Type 0
IsText false ps = ⊤
IsText true [] = ⊥
IsText true (piece ∷ more) = ⊤

-- text that is not refused
abbrev whole : List TemplatePiece → Scanned TokenView
whole ps = found_text (Ok (template_token ps)) ps

-- text that is not refused is found alike at either end
text_again : (after_template : Bool) (ps : List TemplatePiece) (f : TemplateEnd) → IsText after_template ps → is_at_end f ≡ false → template_of after_template ps f ≡ whole ps
text_again false ps AtEnd text ends = cc
text_again false ps AtBackQuote text ends = refl
text_again false ps AtDollarBrace text ends = refl
text_again true [] f text ends = absurd text
text_again true (piece ∷ more) AtEnd text ends = cc
text_again true (piece ∷ more) AtBackQuote text ends = refl
text_again true (piece ∷ more) AtDollarBrace text ends = refl

must_end : (after_template : Bool) (ps : List TemplatePiece) (e : TemplateEnd) → IsText after_template ps → is_clean (template_of after_template ps e) ≡ true → is_at_end e ≡ false
must_end after_template ps AtBackQuote text clean = refl
must_end after_template ps AtDollarBrace text clean = refl
must_end false ps AtEnd text clean = cc
must_end true [] AtEnd text clean = absurd text
must_end true (piece ∷ more) AtEnd text clean = cc

-- where no piece is read, and the text goes on, it ends the template
none_ends : (text : Text) → template_piece text ≡ None → is_at_end (template_end text) ≡ false → ends_template text ≡ true
none_ends [] h more = cc
none_ends (c ∷ cs) h more = go (c == 96 || (c == 36 && next_is 123 cs)) (c == 92) (is_line_terminator c) h
  where
    go : (x y z : Bool) → template_piece_of (cond x Stop (cond y Backslash (cond z spec.LineEnd Itself))) c cs ≡ None → x ≡ true
    go true y z h = refl
    go false true z h = cc
    go false false true h = cc
    go false false false h = cc

pub ends_on : (text : Text) → ends_template text ≡ true → is_at_end (template_end text) ≡ false
ends_on [] h = cc
ends_on (c ∷ cs) h = go (c == 96)
  where
    go : (x : Bool) → is_at_end (cond x AtBackQuote AtDollarBrace) ≡ false
    go true = refl
    go false = refl

-- what follows the pieces of a text that goes on behind them
pub stops_at_mark : (text : Text) → is_at_end (template_end (remainder template_cutter tt text)) ≡ false → ends_template (remainder template_cutter tt text) ≡ true
stops_at_mark text on = none_ends (remainder template_cutter tt text) (maximal template_cutter template_is_cutter tt text) on

text_local : (after_template : Bool) (b behind r : Text) → IsText after_template (pieces template_cutter tt (b ++ behind)) → is_clean (template_text after_template (b ++ behind)) ≡ true
    → (template_text after_template (b ++ behind)).spelling ≡ b → ends_template r ≡ true → template_text after_template (b ++ r) ≡ template_text after_template (b ++ behind)
text_local after_template b behind r is_text clean extent ends =
    let cutter = template_cutter in
    let text = b ++ behind in
    let ps = pieces cutter tt text in
    let end = template_end (remainder cutter tt text) in
    let on : is_at_end end ≡ false = must_end after_template ps end is_text clean in
    let here : template_text after_template text ≡ whole ps = text_again after_template ps end is_text on in
    let c = cut cutter template_is_cutter tt text in
    let left : remainder cutter tt text ≡ c.0 = remainder_is cutter template_is_cutter tt text in
    let quiet : Quiet c.0 = is_quiet c.0 (ap ends_template (sym left) ∙ stops_at_mark text on) in
    let spells : spelled cutter ps ≡ b = sym (ap (λ found. found.spelling) here) ∙ extent in
    let order = in_order_again ps c.0 r quiet (is_quiet r ends) c.2 in
    let same : pieces cutter tt (b ++ r) ≡ ps = ap (λ l. pieces cutter tt (l ++ r)) (sym spells) ∙ pieces_in_order cutter template_is_cutter tt ps r order in
    let follows : remainder cutter tt (b ++ r) ≡ r = ap (λ l. drop (length (spelled cutter l)) (b ++ r)) same ∙ drop_at b r (length (spelled cutter ps)) (ap length (sym spells)) in
    ap (λ l. template_of after_template l (template_end (remainder cutter tt (b ++ r)))) same
    ∙ ap (λ l. template_of after_template ps (template_end l)) follows
    ∙ text_again after_template ps (template_end r) is_text (ends_on r ends)
    ∙ sym here

-- the marks

pub template_marks_are_local : TemplateMarksAreLocal
template_marks_are_local r = (refl, refl)

mark_local : (b r : Text) (e : TemplateEnd) → is_clean (mark_of e) ≡ true → (mark_of e).spelling ≡ b → template_text true (b ++ r) ≡ mark_of e
mark_local b r AtEnd clean extent = cc
mark_local b r AtBackQuote clean extent = ap (λ l. template_text true (l ++ r)) (sym extent) ∙ (template_marks_are_local r).0
mark_local b r AtDollarBrace clean extent = ap (λ l. template_text true (l ++ r)) (sym extent) ∙ (template_marks_are_local r).1

-- what follows may be replaced by any text that ends a template
pub template_is_local : TemplateIsLocal
template_is_local false b behind r opens clean extent ends = text_local false b behind r tt clean extent ends
template_is_local true b behind r opens clean extent ends = go (pieces template_cutter tt text) refl
  where
    text : Text
    text = b ++ behind

    go : (ps : List TemplatePiece) → pieces template_cutter tt (b ++ behind) ≡ ps → template_text true (b ++ r) ≡ template_text true (b ++ behind)
    go [] e =
        let here : template_text true (b ++ behind) ≡ mark_of (template_end (b ++ behind)) =
        ap (λ ps. template_of true ps (template_end (drop (length (spelled template_cutter ps)) (b ++ behind)))) e in
        mark_local b r (template_end (b ++ behind)) (ap is_clean (sym here) ∙ clean) (ap (λ found. found.spelling) (sym here) ∙ extent) ∙ sym here
    go (piece ∷ more) e = text_local true b behind r (subst (IsText true) (sym e) tt) clean extent ends

-- the pieces are the text

pub template_tiles : TemplateTiles
template_tiles text = (tiling template_cutter template_is_cutter tt text, maximal template_cutter template_is_cutter tt text)

text_front : (ps : List TemplatePiece) (rest : Text) (e : TemplateEnd) → IsFrontOf (text_of ps e).spelling (spelled template_cutter ps ++ rest)
text_front ps rest AtEnd = (rest, refl)
text_front ps rest AtBackQuote = (rest, refl)
text_front ps rest AtDollarBrace = (rest, refl)

pub mark_front : (text : Text) → template_piece text ≡ None → IsFrontOf (mark_of (template_end text)).spelling text
mark_front [] h = ([], refl)
mark_front (c ∷ []) h = go (c == 96) (c == 36) (c == 92) (is_line_terminator c) refl h
  where
    go : (x y z w : Bool) → (c == 96) ≡ x → template_piece_of (cond (x || (y && false)) Stop (cond z Backslash (cond w spec.LineEnd Itself))) c [] ≡ None
        → IsFrontOf (mark_of (cond x AtBackQuote AtDollarBrace)).spelling (c ∷ [])
    go true y z w e h = ([], ap (λ x. x ∷ []) (sym (eqb-true c 96 e)))
    go false true true w e h = cc
    go false true false true e h = cc
    go false true false false e h = cc
    go false false true w e h = cc
    go false false false true e h = cc
    go false false false false e h = cc
mark_front (c ∷ (d ∷ ds)) h = go (c == 96) (c == 36) (d == 123) (c == 92) (is_line_terminator c) refl refl refl h
  where
    go : (x y u z w : Bool) → (c == 96) ≡ x → (c == 36) ≡ y → (d == 123) ≡ u
        → template_piece_of (cond (x || (y && u)) Stop (cond z Backslash (cond w spec.LineEnd Itself))) c (d ∷ ds) ≡ None
        → IsFrontOf (mark_of (cond x AtBackQuote AtDollarBrace)).spelling (c ∷ (d ∷ ds))
    go true y u z w e f g h = (d ∷ ds, ap (λ x. x ∷ (d ∷ ds)) (sym (eqb-true c 96 e)))
    go false true true z w e f g h = (ds, ap (λ x. x ∷ (123 ∷ ds)) (sym (eqb-true c 36 f)) ∙ ap (λ y. c ∷ (y ∷ ds)) (sym (eqb-true d 123 g)))
    go false true false true w e f g h = cc
    go false true false false true e f g h = cc
    go false true false false false e f g h = cc
    go false false u true w e f g h = cc
    go false false u false true e f g h = cc
    go false false u false false e f g h = cc

pub template_front : (after_template : Bool) (text : Text) → IsFrontOf (template_text after_template text).spelling text
template_front after_template text = go after_template (pieces template_cutter tt text) refl
  where
    rest : Text
    rest = remainder template_cutter tt text

    on_text : (ps : List TemplatePiece) → pieces template_cutter tt text ≡ ps → IsFrontOf (text_of ps (template_end rest)).spelling text
    on_text ps e =
        let f = text_front ps rest (template_end rest) in
        (f.0, f.1 ∙ ap (λ l. spelled template_cutter l ++ rest) (sym e) ∙ tiling template_cutter template_is_cutter tt text)

    go : (x : Bool) (ps : List TemplatePiece) → pieces template_cutter tt text ≡ ps → IsFrontOf (template_of x ps (template_end rest)).spelling text
    go false ps e = on_text ps e
    go true (piece ∷ more) e = on_text (piece ∷ more) e
    go true [] e =
        let all : rest ≡ text = ap (λ ps. drop (length (spelled template_cutter ps)) text) e in
        subst (λ l. IsFrontOf (mark_of (template_end l)).spelling text) (sym all)
        (mark_front text (ap template_piece (sym all) ∙ maximal template_cutter template_is_cutter tt text))

pub template_is_front : TemplateIsFront
template_is_front after_template text = front_begins (template_text after_template text).spelling text (template_front after_template text)

-- what follows template text

mark_kind : (e : TemplateEnd) (token : TokenView) → (mark_of e).value ≡ Ok token → kind_of token ≡ Template → ⊥
mark_kind AtEnd token h k = cc
mark_kind AtBackQuote token h k = let same : plain_token BackQuote ≡ token = cc in let k' = ap kind_of same ∙ k in cc
mark_kind AtDollarBrace token h k = let same : plain_token DollarLBrace ≡ token = cc in let k' = ap kind_of same ∙ k in cc

text_goes_on : (ps : List TemplatePiece) (e : TemplateEnd) (token : TokenView) → (text_of ps e).value ≡ Ok token → (is_at_end e ≡ false) × ((text_of ps e).spelling ≡ raw_text ps)
text_goes_on ps AtEnd token h = cc
text_goes_on ps AtBackQuote token h = (refl, refl)
text_goes_on ps AtDollarBrace token h = (refl, refl)

pub template_is_pieces : TemplateIsPieces
template_is_pieces after_template text token value kind = go after_template (pieces template_cutter tt text) value
  where
    end : TemplateEnd
    end = template_end (remainder template_cutter tt text)

    go : (x : Bool) (ps : List TemplatePiece) → (template_of x ps end).value ≡ Ok token → (template_of x ps end).spelling ≡ raw_text ps
    go false ps value = (text_goes_on ps end token value).1
    go true (piece ∷ more) value = (text_goes_on (piece ∷ more) end token value).1
    go true [] value = absurd (mark_kind end token value kind)

pub template_is_ended : TemplateIsEnded
template_is_ended after_template b behind token value kind extent = go after_template (pieces template_cutter tt text) refl value extent
  where
    text : Text
    text = b ++ behind

    rest : Text
    rest = remainder template_cutter tt text

    on_text : (ps : List TemplatePiece) → pieces template_cutter tt text ≡ ps → (text_of ps (template_end rest)).value ≡ Ok token → (text_of ps (template_end rest)).spelling ≡ b
        → ends_template behind ≡ true
    on_text ps e value extent =
        let (on, written) = text_goes_on ps (template_end rest) token value in
        let spells : spelled template_cutter (pieces template_cutter tt text) ≡ b = ap (spelled template_cutter) e ∙ sym written ∙ extent in
        let follows : rest ≡ behind =
        append_cancel_left b rest behind (ap (λ l. l ++ rest) (sym spells) ∙ tiling template_cutter template_is_cutter tt text) in
        ap ends_template (sym follows) ∙ stops_at_mark text on

    go : (x : Bool) (ps : List TemplatePiece) → pieces template_cutter tt text ≡ ps → (template_of x ps (template_end rest)).value ≡ Ok token
        → (template_of x ps (template_end rest)).spelling ≡ b → ends_template behind ≡ true
    go false ps e value extent = on_text ps e value extent
    go true (piece ∷ more) e value extent = on_text (piece ∷ more) e value extent
    go true [] e value extent = absurd (mark_kind (template_end rest) token value kind)

-- text without escapes and CR means what is written

pub no_refusal : (n : ℕ) (ps : List TemplatePiece) → list_all is_verbatim ps ≡ true → last_refusal n None ps ≡ None
no_refusal n [] h = refl
no_refusal n (spec.Plain c ∷ more) h = no_refusal (n + byte_len (c ∷ [])) more h
no_refusal n (Break spelling ∷ more) h = no_refusal (n + byte_len spelling) more (and_parts (is_verbatim (Break spelling)) (list_all is_verbatim more) h).1
no_refusal n (Escaped e ∷ more) h = cc

pub same_text : (ps : List TemplatePiece) → list_all is_verbatim ps ≡ true → cooked_text ps ≡ spelled template_cutter ps
same_text [] h = refl
same_text (spec.Plain c ∷ more) h = ap (λ l. c ∷ l) (same_text more h)
same_text (Break spelling ∷ more) h =
    let (here, behind) = and_parts (is_verbatim (Break spelling)) (list_all is_verbatim more) h in
    ap (λ l. cooked_break spelling ++ l) (same_text more behind) ∙ ap (λ l. l ++ spelled template_cutter more) (kept (next_is 13 spelling) here)
  where
    kept : (x : Bool) → not x ≡ true → cond x (10 ∷ []) spelling ≡ spelling
    kept true h = cc
    kept false h = refl
same_text (Escaped e ∷ more) h = cc

pub cooked_is_raw : CookedIsRaw
cooked_is_raw ps h =
    let atom : cooked_atom ps ≡ raw_atom ps = rw h (ap (λ l. borrowed_atom (encode_utf8_all l)) (same_text ps h)) in
    ap (λ o. token_of_refusal o ps) (no_refusal 0 ps h) ∙ ap (λ a. plain_token (Template' (raw_atom ps) (Ok' a))) atom

-- behind template text something is read

bytes_some : (text : Text) → 0 < length text → 0 < byte_len text
bytes_some [] some = absurd (omega (arith, some))
bytes_some (c ∷ cs) some = omega (arith, byte_len-cons c cs, (len_utf8_bounds c).0)

pub template_goes_on : TemplateGoesOn
template_goes_on c cs = bytes_some (template_text true (c ∷ cs)).spelling (go (pieces template_cutter tt text) refl)
  where
    text : Text
    text = c ∷ cs

    of_text : (ps : List TemplatePiece) (e : TemplateEnd) → (text_of ps e).spelling ≡ spelled template_cutter ps
    of_text ps AtEnd = refl
    of_text ps AtBackQuote = refl
    of_text ps AtDollarBrace = refl

    of_mark : (x : Bool) → 0 < length (mark_of (cond x AtBackQuote AtDollarBrace)).spelling
    of_mark true = omega arith
    of_mark false = omega arith

    go : (ps : List TemplatePiece) → pieces template_cutter tt text ≡ ps → 0 < length (template_of true ps (template_end (drop (length (spelled template_cutter ps)) text))).spelling
    go [] e = of_mark (c == 96)
    go (piece ∷ more) e =
        let order = subst (λ l. ReadsInOrder template_cutter tt l (cut template_cutter template_is_cutter tt text).0) e (cut template_cutter template_is_cutter tt text).2 in
        let some = template_is_cutter.some tt (piece_text piece ++ (spelled template_cutter more ++ (cut template_cutter template_is_cutter tt text).0)) piece order.0 in
        let all = spelled template_cutter (piece ∷ more) in
        omega (
          arith,
          ap length (of_text (piece ∷ more) (template_end (drop (length all) text))),
          some,
          length-append (piece_text piece) (spelled template_cutter more),
        )
