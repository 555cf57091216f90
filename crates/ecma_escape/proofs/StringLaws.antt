-- The pieces of a string tile it, and are found again whatever stands behind its closing quote.
use Rattle.std.proofs.Common.{◌≡◌, ℕ, zero, suc, ◌<◌, ◌≤◌, Bool, true, false, not, cond, ◌==◌, List, [], ◌∷◌, ◌++◌, drop, take, length, Some, refl, ap, ◌∙◌, sym, arith, append_assoc, length-append, eqb-true, eq-eqb, subst}
use Rattle.std.proofs.lemmas.List.{drop_at, append_cancel_left}
use Rattle.std.proofs.lemmas.Bool.{and_parts}
use Rattle.ecma_place.specs.Text.{Text, byte_len}
use Rattle.ecma_place.specs.Character.{is_line_break}
use Rattle.ecma_token.specs.View.{ErrorView, plain_kind}
use Rattle.ecma_token.specs.declared.error.SyntaxError.{UnterminatedStrLit}
use Rattle.ecma_grammar.specs.declared.found.Blame.TheVariants.{Always}
use Rattle.ecma_grammar.specs.Found.{Fault, error_over}
use Rattle.ecma_grammar.specs.Locality.{is_always, has_clean_faults, is_clean}
use Rattle.ecma_grammar.specs.Pieces.{Cutter, pieces, spelled, remainder}
use Rattle.ecma_grammar.specs.Cutters.{IsCutter, ReadsInOrder}
use Rattle.ecma_grammar.specs.Escapes.{Escape, Accepted, Refused, InString, escape_spelling, escape_behind}
use Rattle.ecma_grammar.specs.Strings.{Piece, Escaped, piece_text, escaped_piece, Role, Quote, Backslash, Break, Itself, role, piece_of, string_piece, string_cutter, Ending, Closed, Unclosed, BadEscape, bad_escape_ending, ending_of, ending, found_string, faults_of, string_pieces, string_literal, StringTiles, StringIsPieces, StringIsFront, StringIsLocal}
use Rattle.ecma_grammar.proofs.Agreement.{Agree, agree_less, agree_behind}
use Rattle.ecma_grammar.proofs.PieceLemmas.{FrontIf, is_cutter, pieces_in_order, cut, remainder_is, tiling, maximal}
use Rattle.ecma_grammar.proofs.EscapeLaws.{IsFrontOf, escape_size, escape_again, escape_front, escape_some, front_begins}

-- a backslash is one
backslash_is : (quote c : ℕ) → role quote c ≡ Backslash → 92 ≡ c
backslash_is quote c h = go (c == quote) (c == 92) (is_line_break c) refl h
  where
    go : (x y z : Bool) → (c == 92) ≡ y → cond x Quote (cond y Backslash (cond z Break Itself)) ≡ Backslash → 92 ≡ c
    go true y z f h = cc
    go false true z f h = sym (eqb-true c 92 f)
    go false false true f h = cc
    go false false false f h = cc

escaped_front : (quote : ℕ) (e : Escape) (text : Text) → IsFrontOf (escape_spelling e) text → 0 < escape_size e → FrontIf (string_cutter quote) (escaped_piece e) text
escaped_front quote (Accepted spelling value faults) text f h = (f, h)
escaped_front quote (Refused spelling error) text f h = tt

piece_front : (quote : ℕ) (text : Text) → FrontIf (string_cutter quote) (string_piece quote text) text
piece_front quote [] = tt
piece_front quote (c ∷ cs) = go (role quote c) refl
  where
    go : (r : Role) → role quote c ≡ r → FrontIf (string_cutter quote) (piece_of r (c ∷ cs)) (c ∷ cs)
    go Quote e = tt
    go Break e = tt
    go Itself e = ((cs, refl), omega arith)
    go Backslash e =
        let f = escape_front InString cs in
        escaped_front quote (escape_behind InString cs) (c ∷ cs) (f.0, f.1 ∙ ap (λ x. x ∷ cs) (backslash_is quote c e)) (escape_some InString cs)

pub string_is_cutter : (quote : ℕ) → IsCutter (string_cutter quote)
string_is_cutter quote = is_cutter (string_cutter quote) (λ _ text. piece_front quote text)

escaped_size : (e : Escape) (piece : Piece) → escaped_piece e ≡ Some piece → escape_size e ≡ length (piece_text piece)
escaped_size (Accepted spelling value faults) piece h = let same : Escaped spelling value faults ≡ piece = cc in ap (λ p. length (piece_text p)) same
escaped_size (Refused spelling error) piece h = cc

-- a piece is settled by one character more than it has
piece_again : (quote n : ℕ) (t u : Text) (piece : Piece) → string_piece quote t ≡ Some piece → length (piece_text piece) ≤ n → Agree (suc n) t u → string_piece quote u ≡ Some piece
piece_again quote n [] u piece h room a = cc
piece_again quote n (c ∷ cs) [] piece h room a = let e = a.same in cc
piece_again quote n (c ∷ cs) (d ∷ ds) piece h room a =
    let e = a.same in
    let same : d ≡ c = cc in
    rw same (go (role quote c) n h room (agree_behind n c d cs ds a))
  where
    go : (r : Role) (n : ℕ) → piece_of r (c ∷ cs) ≡ Some piece → length (piece_text piece) ≤ n → Agree n cs ds → piece_of r (c ∷ ds) ≡ Some piece
    go Quote n h room a = cc
    go Break n h room a = cc
    go Itself n h room a = h
    go Backslash zero h room a = absurd (omega (arith, escaped_size (escape_behind InString cs) piece h, escape_some InString cs))
    go Backslash (suc n) h room a =
        ap escaped_piece (sym (escape_again InString n cs ds (omega (arith, escaped_size (escape_behind InString cs) piece h)) a)) ∙ h

-- texts that go on alike up to a character
agree_up_to : (a x y : Text) (c : ℕ) → Agree (suc (length a)) (a ++ (c ∷ x)) (a ++ (c ∷ y))
agree_up_to a x y c = record { same = go a }
  where
    go : (a : Text) → take (suc (length a)) (a ++ (c ∷ x)) ≡ take (suc (length a)) (a ++ (c ∷ y))
    go [] = refl
    go (d ∷ ds) = ap (λ l. d ∷ l) (go ds)

-- pieces in order stay so, whatever stands behind the quote
in_order_again : (quote : ℕ) (ps : List Piece) (x y : Text) → ReadsInOrder (string_cutter quote) tt ps (quote ∷ x) → ReadsInOrder (string_cutter quote) tt ps (quote ∷ y)
in_order_again quote [] x y h = rw (eq-eqb quote quote refl)
in_order_again quote (piece ∷ more) x y h =
    let text = piece_text piece in
    let behind = spelled (string_cutter quote) more in
    let alike = rw (append_assoc text behind (quote ∷ x), append_assoc text behind (quote ∷ y)) at (agree_up_to (text ++ behind) x y quote) in
    (piece_again quote (length text) (text ++ (behind ++ (quote ∷ x))) (text ++ (behind ++ (quote ∷ y))) piece h.0 (omega arith) (agree_less (suc (length text)) (suc (length (text ++ behind))) (text ++ (behind ++ (quote ∷ x))) (text ++ (behind ++ (quote ∷ y))) (omega (arith, length-append text behind)) alike), in_order_again quote more x y h.1)

-- a closed string ends at its quote
closed_is : (quote : ℕ) (text : Text) → ending quote text ≡ Closed → text ≡ quote ∷ drop 1 text
closed_is quote [] h = cc
closed_is quote (c ∷ cs) h = go (c == quote) (c == 92) (is_line_break c) refl h
  where
    not_bad : (e : Escape) → bad_escape_ending e ≡ Closed → ⊥
    not_bad (Accepted spelling value faults) h = cc
    not_bad (Refused spelling error) h = cc

    go : (x y z : Bool) → (c == quote) ≡ x → ending_of (cond x Quote (cond y Backslash (cond z Break Itself))) (c ∷ cs) ≡ Closed → c ∷ cs ≡ quote ∷ cs
    go true y z f h = ap (λ x. x ∷ cs) (eqb-true c quote f)
    go false true z f h = absurd (not_bad (escape_behind InString cs) h)
    go false false true f h = cc
    go false false false f h = cc

always_last : (fs : List Fault) (e : ErrorView) → has_clean_faults (fs ++ (record { blame = Always; error = e } ∷ [])) ≡ true → ⊥
always_last [] e h = cc
always_last (f ∷ fs) e h = always_last fs e (and_parts (not (is_always f.blame)) (has_clean_faults (fs ++ (record { blame = Always; error = e } ∷ []))) h).1

-- what is found of a string that closes
closed_string : (quote : ℕ) (ps : List Piece) (x : Text) → ReadsInOrder (string_cutter quote) tt ps (quote ∷ x)
    → string_literal (quote ∷ (spelled (string_cutter quote) ps ++ (quote ∷ x))) ≡ found_string quote (quote ∷ spelled (string_cutter quote) ps) ps Closed
closed_string quote ps x order =
    let cutter = string_cutter quote in
    let opened = quote ∷ spelled cutter ps in
    let same = pieces_in_order cutter (string_is_cutter quote) tt ps (quote ∷ x) order in
    let behind : remainder cutter tt (spelled cutter ps ++ (quote ∷ x)) ≡ quote ∷ x =
    ap (λ l. drop (length (spelled cutter l)) (spelled cutter ps ++ (quote ∷ x))) same ∙ drop_at (spelled cutter ps) (quote ∷ x) _ refl in
    let end : ending quote (quote ∷ x) ≡ Closed = rw (eq-eqb quote quote refl) in
    ap (λ l. found_string quote (quote ∷ spelled cutter l) l (ending quote (remainder cutter tt (spelled cutter ps ++ (quote ∷ x))))) same
    ∙ ap (λ l. found_string quote opened ps (ending quote l)) behind
    ∙ ap (found_string quote opened ps) end

-- a string that is clean ends with its quote, in front of the rest
abbrev IsClosed : ℕ → Text → Text → Type 0
IsClosed quote b rest =
    (ps : List Piece) × (b ≡ spelled (string_cutter quote) ps ++ (quote ∷ [])) × ReadsInOrder (string_cutter quote) tt ps (quote ∷ rest)

must_close : (quote : ℕ) (b behind : Text) → is_clean (string_literal (quote ∷ (b ++ behind))) ≡ true
    → (string_literal (quote ∷ (b ++ behind))).spelling ≡ quote ∷ b → IsClosed quote b behind
must_close quote b behind clean extent = go (ending quote (remainder cutter tt text)) refl clean extent
  where
    cutter : Cutter (Unit {0}) Piece
    cutter = string_cutter quote

    text : Text
    text = b ++ behind

    ps : List Piece
    ps = pieces cutter tt text

    opened : Text
    opened = quote ∷ spelled cutter ps

    go : (e : Ending) → ending quote (remainder cutter tt text) ≡ e → is_clean (found_string quote opened ps e) ≡ true
        → (found_string quote opened ps e).spelling ≡ quote ∷ b → IsClosed quote b behind
    go Unclosed e clean extent = absurd (always_last (faults_of 1 ps) (error_over (plain_kind UnterminatedStrLit) (byte_len opened)) clean)
    go (BadEscape spelling error) e clean extent = cc
    go Closed e clean extent =
        let c = cut cutter (string_is_cutter quote) tt text in
        let left : c.0 ≡ quote ∷ drop 1 c.0 = closed_is quote c.0 (ap (ending quote) (sym (remainder_is cutter (string_is_cutter quote) tt text)) ∙ e) in
        let x = drop 1 c.0 in
        let whole : (spelled cutter ps ++ (quote ∷ [])) ++ x ≡ b ++ behind =
        append_assoc (spelled cutter ps) (quote ∷ []) x ∙ ap (λ l. spelled cutter ps ++ l) (sym left) ∙ c.1 in
        let spells : spelled cutter ps ++ (quote ∷ []) ≡ b = cc in
        let follows : x ≡ behind =
        append_cancel_left b x behind (ap (λ l. l ++ x) (sym spells) ∙ whole) in
        (ps, sym spells, subst (λ l. ReadsInOrder cutter tt ps l) (left ∙ ap (λ l. quote ∷ l) follows) c.2)

-- a string is not empty
some_string : (quote : ℕ) (opened : Text) (ps : List Piece) (e : Ending) → (found_string quote (quote ∷ opened) ps e).spelling ≡ [] → ⊥
some_string quote opened ps Closed h = cc
some_string quote opened ps Unclosed h = cc
some_string quote opened ps (BadEscape spelling error) h = cc

pub string_is_local : StringIsLocal
string_is_local [] [] r opens clean extent free = cc
string_is_local [] (quote ∷ text) r opens clean extent free =
    absurd (some_string quote (spelled (string_cutter quote) (string_pieces quote text)) (string_pieces quote text) (ending quote (remainder (string_cutter quote) tt text)) extent)
string_is_local (quote ∷ b) behind r opens clean extent free =
    let (ps, spells, order) = must_close quote b behind clean extent in
    let cutter = string_cutter quote in
    let text : (y : Text) → quote ∷ (b ++ y) ≡ quote ∷ (spelled cutter ps ++ (quote ∷ y)) =
    λ y. ap (λ l. quote ∷ (l ++ y)) spells ∙ ap (λ l. quote ∷ l) (append_assoc (spelled cutter ps) (quote ∷ []) y) in
    let here = ap string_literal (text behind) ∙ closed_string quote ps behind order in
    let there = ap string_literal (text r) ∙ closed_string quote ps r (in_order_again quote ps behind r order) in
    there ∙ sym here

-- the pieces are the text

pub string_tiles : StringTiles
string_tiles quote text = (tiling (string_cutter quote) (string_is_cutter quote) tt text, maximal (string_cutter quote) (string_is_cutter quote) tt text)

pub string_is_pieces : StringIsPieces
string_is_pieces quote text clean = go (ending quote (remainder (string_cutter quote) tt text)) clean
  where
    ps : List Piece
    ps = string_pieces quote text

    opened : Text
    opened = quote ∷ spelled (string_cutter quote) (string_pieces quote text)

    go : (e : Ending) → is_clean (found_string quote opened ps e) ≡ true → (found_string quote opened ps e).spelling ≡ opened ++ quote ∷ []
    go Closed clean = refl
    go Unclosed clean = absurd (always_last (faults_of 1 ps) (error_over (plain_kind UnterminatedStrLit) (byte_len opened)) clean)
    go (BadEscape spelling error) clean = cc

ending_front : (quote : ℕ) (opened : Text) (ps : List Piece) (rest : Text) → IsFrontOf (found_string quote opened ps (ending quote rest)).spelling (opened ++ rest)
ending_front quote opened ps [] = ([], refl)
ending_front quote opened ps (c ∷ cs) = go (c == quote) (c == 92) (is_line_break c) refl refl
  where
    bad : (e : Escape) → IsFrontOf (escape_spelling e) (c ∷ cs) → IsFrontOf (found_string quote opened ps (bad_escape_ending e)).spelling (opened ++ (c ∷ cs))
    bad (Accepted spelling value faults) f = (c ∷ cs, refl)
    bad (Refused spelling error) f = (f.0, append_assoc opened spelling f.0 ∙ ap (λ l. opened ++ l) f.1)

    go : (x y z : Bool) → (c == quote) ≡ x → (c == 92) ≡ y
        → IsFrontOf (found_string quote opened ps (ending_of (cond x Quote (cond y Backslash (cond z Break Itself))) (c ∷ cs))).spelling (opened ++ (c ∷ cs))
    go true y z e f = (cs, append_assoc opened (quote ∷ []) cs ∙ ap (λ q. opened ++ (q ∷ cs)) (sym (eqb-true c quote e)))
    go false true z e f =
        let front = escape_front InString cs in
        bad (escape_behind InString cs) (front.0, front.1 ∙ ap (λ x. x ∷ cs) (sym (eqb-true c 92 f)))
    go false false true e f = (c ∷ cs, refl)
    go false false false e f = (c ∷ cs, refl)

pub string_front : (text : Text) → IsFrontOf (string_literal text).spelling text
string_front [] = ([], refl)
string_front (quote ∷ text) =
    let cutter = string_cutter quote in
    let f = ending_front quote (quote ∷ spelled cutter (string_pieces quote text)) (string_pieces quote text) (remainder cutter tt text) in
    (f.0, f.1 ∙ ap (λ l. quote ∷ l) (tiling cutter (string_is_cutter quote) tt text))

pub string_is_front : StringIsFront
string_is_front text = front_begins (string_literal text).spelling text (string_front text)
