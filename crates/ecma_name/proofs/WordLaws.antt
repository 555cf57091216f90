-- The pieces of a word tile it, and are found again in front of any separator.
use Rattle.std.proofs.Common.{◌≡◌, ℕ, zero, suc, ◌+◌, ◌<◌, ◌≤◌, Bool, true, false, cond, ◌==◌, List, [], ◌∷◌, ◌++◌, drop, length, Option, Some, None, Result, Ok, Err, refl, ap, ◌∙◌, sym, subst, arith, append_assoc, length-append, eqb-true, take_at}
use Rattle.std.proofs.lemmas.List.{drop_at}
use Rattle.std.proofs.lemmas.Bool.{and_parts}
use Rattle.std.specs.Prelude.{⊤, map, encode_utf8_all}
use Rattle.std.specs.List.{list_any}
use Rattle.ecma_place.specs.Text.{Text, byte_len}
use Rattle.ecma_place.specs.Atom.{AtomView, borrowed_atom}
use Rattle.ecma_place.specs.Character.{is_ident_part}
use Rattle.ecma_syntax.specs.Reserved.{is_reserved}
use Rattle.ecma_syntax.specs.Word.{word_of, word_text, word_kind}
use Rattle.ecma_syntax.specs.declared.context.Context.{Context}
use Rattle.ecma_syntax.specs.declared.word.IdentLike.TheVariants.{Known, Other}
use Rattle.ecma_syntax.specs.declared.word.Word.{Word}
use Rattle.ecma_syntax.specs.declared.word.Word.TheVariants.{Keyword, Null, True, False, Ident}
use Rattle.ecma_token.specs.View.{ErrorView}
use Rattle.ecma_grammar.specs.Found.{Fault, Scanned, scanned}
use Rattle.ecma_grammar.specs.Fronts.{front, after, next_is, next_passes}
use Rattle.ecma_grammar.specs.Locality.{is_clean, is_accepted, has_clean_faults, separates}
use Rattle.ecma_grammar.specs.Pieces.{pieces, spelled, remainder}
use Rattle.ecma_grammar.specs.Cutters.{IsCutter, ReadsInOrder}
use Rattle.ecma_grammar.specs.Escapes.{Escape, Accepted, Refused, InWord, escape_spelling, Lead, UnicodeLetter, HexLetter, OctalDigit, LineEnd, Single, lead, escape_of, escape_behind, unicode_escape}
use Rattle.ecma_grammar.specs.Strings.{Piece, Plain, Escaped, piece_text, value_of, faults_of, atom_of, is_escaped}
use Rattle.ecma_grammar.specs.Words.{WordRole, Part, Backslash, Stop, word_role, named_piece, word_piece_of, word_piece, word_cutter, WordEnding, Ended, BadEscape, bad_escape_ending, word_ending_of, word_ending, found_name, word_pieces, identifier_name, owned_word, word_value, found_word, word, WordTiles, WordIsPieces, WordIsFront, NameIsLocal, WordIsLocal, WordIsItsRow, PlainWordIsItsRow}
use Rattle.ecma_grammar.proofs.Agreement.{Agree, agree_less, agree_behind}
use Rattle.ecma_grammar.proofs.Fronts.{separated, after_drop}
use Rattle.ecma_grammar.proofs.PieceLemmas.{FrontIf, is_cutter, pieces_in_order, cut, tiling, maximal}
use Rattle.ecma_grammar.proofs.EscapeLaws.{is_accepted_escape, IsFrontOf, Names, lead_names, unicode_front, unicode_accepted_again, accepted_size, escape_front, front_begins}

backslash_is : (c : ℕ) → word_role c ≡ Backslash → 92 ≡ c
backslash_is c h = go (is_ident_part c) (c == 92) refl h
  where
    go : (x y : Bool) → (c == 92) ≡ y → cond x Part (cond y Backslash Stop) ≡ Backslash → 92 ≡ c
    go true y f h = cc
    go false true f h = sym (eqb-true c 92 f)
    go false false f h = cc

-- an escape that is a piece is accepted, and written as it was
named_text : (is_first : Bool) (e : Escape) (piece : Piece) → named_piece is_first e ≡ Some piece → (is_accepted_escape e ≡ true) × (escape_spelling e ≡ piece_text piece)
named_text is_first (Refused spelling error) piece h = cc
named_text is_first (Accepted spelling [] faults) piece h = let same : Escaped spelling [] faults ≡ piece = cc in (refl, ap piece_text same)
named_text is_first (Accepted spelling (c ∷ []) faults) piece h = (refl, written _ piece h)
  where
    written : (fs : List Fault) (piece : Piece) → Some (Escaped spelling (c ∷ []) fs) ≡ Some piece → spelling ≡ piece_text piece
    written fs piece h = let same : Escaped spelling (c ∷ []) fs ≡ piece = cc in ap piece_text same
named_text is_first (Accepted spelling (c ∷ d ∷ ds) faults) piece h = let same : Escaped spelling (c ∷ d ∷ ds) faults ≡ piece = cc in (refl, ap piece_text same)

-- an escape that is a piece of a word names a code point
of_named : (is_first : Bool) (o : Lead) (c : ℕ) (cs : Text) (piece : Piece) → named_piece is_first (escape_of InWord o c cs) ≡ Some piece → o ≡ UnicodeLetter
of_named is_first UnicodeLetter c cs piece h = refl
of_named is_first HexLetter c cs piece h = cc
of_named is_first OctalDigit c cs piece h = cc
of_named is_first LineEnd c cs piece h = cc
of_named is_first Single c cs piece h = cc

named_unicode : (is_first : Bool) (t : Text) (piece : Piece) → named_piece is_first (escape_behind InWord t) ≡ Some piece
    → (cs : Text) × (t ≡ 117 ∷ cs) × (named_piece is_first (unicode_escape InWord cs) ≡ Some piece)
named_unicode is_first [] piece h = cc
named_unicode is_first (c ∷ cs) piece h =
    let o : lead c ≡ UnicodeLetter = of_named is_first (lead c) c cs piece h in
    let name : 117 ≡ c = subst (λ x. Names x c) o (lead_names c) in
    (cs, ap (λ x. x ∷ cs) (sym name), subst (λ x. named_piece is_first (escape_of InWord x c cs) ≡ Some piece) o h)

-- what such a piece reads is a front of the text at its backslash
abbrev PieceFront : Option Piece → Text → Type 0
PieceFront None text = ⊤
PieceFront (Some piece) text = ((r : Text) × (piece_text piece ++ r ≡ text)) × (0 < length (piece_text piece))

named_front : (is_first : Bool) (t : Text) (o : Option Piece) → named_piece is_first (escape_behind InWord t) ≡ o → PieceFront o (92 ∷ t)
named_front is_first t None h = tt
named_front is_first t (Some piece) h =
    let (cs, e, u) = named_unicode is_first t piece h in
    let (good, text) = named_text is_first (unicode_escape InWord cs) piece u in
    let f = unicode_front InWord cs in
    ((f.0, ap (λ l. l ++ f.0) (sym text) ∙ f.1 ∙ ap (λ l. 92 ∷ l) (sym e)), omega (arith, ap length text, accepted_size InWord cs good))

piece_front : (is_first : Bool) (text : Text) → FrontIf word_cutter (word_piece is_first text) text
piece_front is_first [] = tt
piece_front is_first (c ∷ cs) = go (word_role c) refl
  where
    as_front : (o : Option Piece) → PieceFront o (92 ∷ cs) → 92 ≡ c → FrontIf word_cutter o (c ∷ cs)
    as_front None h e = tt
    as_front (Some piece) h e = ((h.0.0, h.0.1 ∙ ap (λ x. x ∷ cs) e), h.1)

    go : (r : WordRole) → word_role c ≡ r → FrontIf word_cutter (word_piece_of is_first r (c ∷ cs)) (c ∷ cs)
    go Part e = ((cs, refl), omega arith)
    go Stop e = tt
    go Backslash e = as_front (named_piece is_first (escape_behind InWord cs)) (named_front is_first cs (named_piece is_first (escape_behind InWord cs)) refl) (backslash_is c e)

pub word_is_cutter : IsCutter word_cutter
word_is_cutter = is_cutter word_cutter piece_front

-- an escape of a word is settled by the characters that it has
unicode_tail : (is_first : Bool) (n : ℕ) (cs u : Text) (piece : Piece) → named_piece is_first (unicode_escape InWord cs) ≡ Some piece
    → length (piece_text piece) ≤ suc n → Agree n (117 ∷ cs) u → named_piece is_first (escape_behind InWord u) ≡ Some piece
unicode_tail is_first zero cs u piece h room a =
    let (good, text) = named_text is_first (unicode_escape InWord cs) piece h in
    absurd (omega (arith, room, ap length text, accepted_size InWord cs good))
unicode_tail is_first (suc zero) cs u piece h room a =
    let (good, text) = named_text is_first (unicode_escape InWord cs) piece h in
    absurd (omega (arith, room, ap length text, accepted_size InWord cs good))
unicode_tail is_first (suc (suc n)) cs [] piece h room a = let e = a.same in cc
unicode_tail is_first (suc (suc n)) cs (d ∷ ds) piece h room a =
    let e = a.same in
    let same : d ≡ 117 = cc in
    let (good, text) = named_text is_first (unicode_escape InWord cs) piece h in
    let again = unicode_accepted_again InWord n cs ds good (omega (arith, room, ap length text)) (agree_behind (suc n) 117 d cs ds a) in
    rw same (ap (named_piece is_first) (sym again) ∙ h)

escape_again : (is_first : Bool) (n : ℕ) (t u : Text) (piece : Piece) → named_piece is_first (escape_behind InWord t) ≡ Some piece
    → length (piece_text piece) ≤ suc n → Agree n t u → named_piece is_first (escape_behind InWord u) ≡ Some piece
escape_again is_first n t u piece h room a =
    let (cs, e, found) = named_unicode is_first t piece h in
    unicode_tail is_first n cs u piece found room (subst (λ l. Agree n l u) e a)

-- a piece of a word is settled by the characters that it has
piece_again : (is_first : Bool) (n : ℕ) (t u : Text) (piece : Piece) → word_piece is_first t ≡ Some piece
    → length (piece_text piece) ≤ n → Agree n t u → word_piece is_first u ≡ Some piece
piece_again is_first n [] u piece h room a = cc
piece_again is_first zero (c ∷ cs) u piece h room a =
    absurd (omega (arith, room, word_is_cutter.some is_first (c ∷ cs) piece h))
piece_again is_first (suc n) (c ∷ cs) [] piece h room a = let e = a.same in cc
piece_again is_first (suc n) (c ∷ cs) (d ∷ ds) piece h room a =
    let e = a.same in
    let same : d ≡ c = cc in
    rw same (go (word_role c) h)
  where
    go : (r : WordRole) → word_piece_of is_first r (c ∷ cs) ≡ Some piece → word_piece_of is_first r (c ∷ ds) ≡ Some piece
    go Part h = h
    go Stop h = cc
    go Backslash h = escape_again is_first n cs ds piece h room (agree_behind n c d cs ds a)

-- texts with the same front agree on it
agree_on : (a x y : Text) → Agree (length a) (a ++ x) (a ++ y)
agree_on a x y = record { same = take_at a x (length a) refl ∙ sym (take_at a y (length a) refl) }

-- pieces in order stay so, whatever stands behind them, where nothing goes on
in_order_again : (is_first : Bool) (ps : List Piece) (x y : Text) → ((s : Bool) → word_piece s y ≡ None)
    → ReadsInOrder word_cutter is_first ps x → ReadsInOrder word_cutter is_first ps y
in_order_again is_first [] x y ends h = ends is_first
in_order_again is_first (piece ∷ more) x y ends h =
    let text = piece_text piece in
    let behind = spelled word_cutter more in (
      piece_again is_first (length text) (text ++ (behind ++ x)) (text ++ (behind ++ y)) piece h.0 (omega arith)
          (agree_less (length text) (length (text ++ behind)) (text ++ (behind ++ x)) (text ++ (behind ++ y)) (omega (arith, length-append text behind))
          (rw (append_assoc text behind x, append_assoc text behind y) at (agree_on (text ++ behind) x y))),
      in_order_again false more x y ends h.1,
    )

-- a separator goes on with no word

no_space : is_ident_part 32 ≡ false
unfolding is_ident_part
no_space = refl

no_feed : is_ident_part 10 ≡ false
unfolding is_ident_part
no_feed = refl

separator_role : (c : ℕ) (cs : Text) → separates (c ∷ cs) ≡ true → word_role c ≡ Stop
separator_role c cs h = rw (separated is_ident_part (c ∷ cs) no_space no_feed h, separated (λ x. x == 92) (c ∷ cs) refl refl h)

pub ends_piece : (text : Text) → separates text ≡ true → (s : Bool) → word_piece s text ≡ None
ends_piece [] h s = refl
ends_piece (c ∷ cs) h s = ap (λ r. word_piece_of s r (c ∷ cs)) (separator_role c cs h)

pub ends_word : (text : Text) → separates text ≡ true → word_ending text ≡ Ended
ends_word [] h = refl
ends_word (c ∷ cs) h = ap (λ r. word_ending_of r (c ∷ cs)) (separator_role c cs h)

accepted_ends : (ps : List Piece) (e : WordEnding) → is_accepted (found_name ps e).value ≡ true → e ≡ Ended
accepted_ends ps Ended h = refl
accepted_ends ps (BadEscape spelling error) h = cc

-- what follows a name that is not refused may be replaced by any separator
pub name_again : (b behind r : Text) → is_accepted (identifier_name (b ++ behind)).value ≡ true → (identifier_name (b ++ behind)).spelling ≡ b → separates r ≡ true
    → identifier_name (b ++ r) ≡ identifier_name (b ++ behind)
name_again b behind r good extent free =
    let text = b ++ behind in
    let ps = word_pieces text in
    let end = word_ending (remainder word_cutter true text) in
    let ended : end ≡ Ended = accepted_ends ps end good in
    let c = cut word_cutter word_is_cutter true text in
    let spells : spelled word_cutter ps ≡ b = sym (ap (λ e. (found_name ps e).spelling) ended) ∙ extent in
    let order = in_order_again true ps c.0 r (ends_piece r free) c.2 in
    let same : word_pieces (b ++ r) ≡ ps = ap (λ l. word_pieces (l ++ r)) (sym spells) ∙ pieces_in_order word_cutter word_is_cutter true ps r order in
    let left : remainder word_cutter true (b ++ r) ≡ r = ap (λ l. drop (length (spelled word_cutter l)) (b ++ r)) same ∙ drop_at b r (length (spelled word_cutter ps)) (ap length (sym spells)) in
    ap (λ l. found_name l (word_ending (remainder word_cutter true (b ++ r)))) same
    ∙ ap (found_name ps) (ap word_ending left ∙ ends_word r free ∙ sym ended)

clean_accepts : {A : Type 0} (s : Scanned A) → is_clean s ≡ true → is_accepted s.value ≡ true
clean_accepts s h = (and_parts (is_accepted s.value) (has_clean_faults s.faults) h).0

pub name_is_local : NameIsLocal
name_is_local b behind r opens clean spells free = name_again b behind r (clean_accepts (identifier_name (b ++ behind)) clean) spells free

accepted_name : (context : Context) (spelling : Text) (v : Result AtomView ErrorView) → is_accepted (word_value context spelling v) ≡ true → is_accepted v ≡ true
accepted_name context spelling (Ok text) h = refl
accepted_name context spelling (Err error) h = cc

pub word_is_local : WordIsLocal
word_is_local context b behind r opens clean spells free =
    let name = identifier_name (b ++ behind) in
    let good = accepted_name context name.spelling name.value (clean_accepts (word context (b ++ behind)) clean) in
    ap (found_word context) (name_again b behind r good spells free)

-- the pieces are the text

pub word_tiles : WordTiles
word_tiles text = (tiling word_cutter word_is_cutter true text, maximal word_cutter word_is_cutter true text)

pub word_is_pieces : WordIsPieces
word_is_pieces context text w h = go (word_ending (remainder word_cutter true text)) h
  where
    go : (e : WordEnding) → (found_word context (found_name (word_pieces text) e)).value ≡ Ok w
        → (found_word context (found_name (word_pieces text) e)).spelling ≡ spelled word_cutter (word_pieces text)
    go Ended h = refl
    go (BadEscape spelling error) h = cc

ending_front : (ps : List Piece) (rest : Text) → IsFrontOf (found_name ps (word_ending rest)).spelling (spelled word_cutter ps ++ rest)
ending_front ps [] = ([], refl)
ending_front ps (c ∷ cs) = go (word_role c) refl
  where
    bad : (e : Escape) → IsFrontOf (escape_spelling e) (c ∷ cs) → IsFrontOf (found_name ps (bad_escape_ending e)).spelling (spelled word_cutter ps ++ (c ∷ cs))
    bad (Accepted spelling value faults) f = (c ∷ cs, refl)
    bad (Refused spelling error) f = (f.0, append_assoc (spelled word_cutter ps) spelling f.0 ∙ ap (λ l. spelled word_cutter ps ++ l) f.1)

    go : (r : WordRole) → word_role c ≡ r → IsFrontOf (found_name ps (word_ending_of r (c ∷ cs))).spelling (spelled word_cutter ps ++ (c ∷ cs))
    go Part e = (c ∷ cs, refl)
    go Stop e = (c ∷ cs, refl)
    go Backslash e =
        let f = escape_front InWord cs in
        bad (escape_behind InWord cs) (f.0, f.1 ∙ ap (λ x. x ∷ cs) (backslash_is c e))

pub name_front : (text : Text) → IsFrontOf (identifier_name text).spelling text
name_front text =
    let rest = remainder word_cutter true text in
    let f = ending_front (word_pieces text) rest in
    (f.0, f.1 ∙ tiling word_cutter word_is_cutter true text)

pub word_is_front : WordIsFront
word_is_front context text = front_begins (identifier_name text).spelling text (name_front text)

-- the row of the table

owned_kind : (w : Word) → word_kind (owned_word w) ≡ word_kind w
owned_kind (Keyword k) = refl
owned_kind Null = refl
owned_kind True = refl
owned_kind False = refl
owned_kind (Ident (Known k)) = refl
owned_kind (Ident (Other text)) = refl

owned_text : (w : Word) → word_text (owned_word w) ≡ word_text w
owned_text (Keyword k) = refl
owned_text Null = refl
owned_text True = refl
owned_text False = refl
owned_text (Ident (Known k)) = refl
owned_text (Ident (Other text)) = refl

-- a word is of the row
abbrev IsOfRow : Word → Word → Type 0
IsOfRow w row = (word_kind w ≡ word_kind row) × (word_text w ≡ word_text row)

value_row : (context : Context) (spelling : Text) (text : AtomView) (w : Word) → word_value context spelling (Ok text) ≡ Ok w → IsOfRow w (word_of text.bytes)
value_row context spelling text w h = go text.is_borrowed refl (is_reserved context (word_of text.bytes)) refl
  where
    row : Word
    row = word_of text.bytes

    go : (x : Bool) → text.is_borrowed ≡ x → (y : Bool) → is_reserved context (word_of text.bytes) ≡ y → IsOfRow w (word_of text.bytes)
    go true e y f =
        let same : word_of text.bytes ≡ w = let h' : Ok (word_of text.bytes) ≡ Ok w = rw e at h in cc in
        (sym (ap word_kind same), sym (ap word_text same))
    go false e true f = let h' = rw (e, f) at h in cc
    go false e false f =
        let same : owned_word (word_of text.bytes) ≡ w = let h' : Ok (owned_word (word_of text.bytes)) ≡ Ok w = rw (e, f) at h in cc in
        (sym (ap word_kind same) ∙ owned_kind (word_of text.bytes), sym (ap word_text same) ∙ owned_text (word_of text.bytes))

atom_bytes : (ps : List Piece) → (atom_of ps).bytes ≡ encode_utf8_all (value_of ps)
atom_bytes ps = go (list_any is_escaped ps) refl
  where
    go : (x : Bool) → list_any is_escaped ps ≡ x → (atom_of ps).bytes ≡ encode_utf8_all (value_of ps)
    go true e = rw e
    go false e = rw e

pub word_is_its_row : WordIsItsRow
word_is_its_row context text w h = go (word_ending (remainder word_cutter true text)) h
  where
    ps : List Piece
    ps = word_pieces text

    go : (e : WordEnding) → (found_word context (found_name (word_pieces text) e)).value ≡ Ok w → IsOfRow w (word_of (encode_utf8_all (value_of (word_pieces text))))
    go Ended h = subst (λ l. IsOfRow w (word_of l)) (atom_bytes (word_pieces text)) (value_row context (spelled word_cutter (word_pieces text)) (atom_of (word_pieces text)) w h)
    go (BadEscape spelling error) h = cc

-- a run of part characters with no backslash behind it

plain_pieces : (s : Bool) (text : Text) → next_is 92 (after is_ident_part text) ≡ false → pieces word_cutter s text ≡ map Plain (front is_ident_part text)
plain_pieces s [] h = refl
plain_pieces s (c ∷ cs) h = go (is_ident_part c) (c == 92) refl refl (plain_pieces false cs)
  where
    go : (x y : Bool) → is_ident_part c ≡ x → (c == 92) ≡ y
        → (next_is 92 (after is_ident_part cs) ≡ false → pieces word_cutter false cs ≡ map Plain (front is_ident_part cs))
        → pieces word_cutter s (c ∷ cs) ≡ map Plain (front is_ident_part (c ∷ cs))
    go true y e f more = rw (e, front) (ap (λ l. Plain c ∷ l) (more (rw (e, after) at h)))
    go false true e f more = let h' : true ≡ false = sym f ∙ rw (e, after) at h in cc
    go false false e f more = rw (e, front) (rw f)

plain_spelled : (xs : Text) → spelled word_cutter (map Plain xs) ≡ xs
plain_spelled [] = refl
plain_spelled (x ∷ xs) = ap (λ l. x ∷ l) (plain_spelled xs)

plain_value : (xs : Text) → value_of (map Plain xs) ≡ xs
plain_value [] = refl
plain_value (x ∷ xs) = ap (λ l. x ∷ l) (plain_value xs)

plain_unescaped : (xs : Text) → list_any is_escaped (map Plain xs) ≡ false
plain_unescaped [] = refl
plain_unescaped (x ∷ xs) = plain_unescaped xs

plain_faults : (n : ℕ) (xs : Text) → faults_of n (map Plain xs) ≡ []
plain_faults n [] = refl
plain_faults n (x ∷ xs) = plain_faults (n + byte_len (x ∷ [])) xs

plain_atom : (xs : Text) → atom_of (map Plain xs) ≡ borrowed_atom (encode_utf8_all xs)
plain_atom xs = rw plain_unescaped (ap (λ l. borrowed_atom (encode_utf8_all l)) (plain_value xs))

plain_found : (context : Context) (xs : Text) → found_word context (found_name (map Plain xs) Ended) ≡ scanned (word_of (encode_utf8_all xs)) xs
plain_found context xs =
    ap (λ a. found_word context (record { value = Ok a; faults = faults_of 0 (map Plain xs); spelling = spelled word_cutter (map Plain xs); line_break = false })) (plain_atom xs)
    ∙ ap (λ fs. record { value = Ok (word_of (encode_utf8_all xs)); faults = fs; spelling = spelled word_cutter (map Plain xs); line_break = false }) (plain_faults 0 xs)
    ∙ ap (scanned (word_of (encode_utf8_all xs))) (plain_spelled xs)

after_stop : (p : ℕ → Bool) (text : Text) → next_passes p (after p text) ≡ false
after_stop p [] = refl
after_stop p (c ∷ cs) = go (p c) refl (after_stop p cs)
  where
    go : (x : Bool) → p c ≡ x → next_passes p (after p cs) ≡ false → next_passes p (after p (c ∷ cs)) ≡ false
    go true e more = rw (e, after) more
    go false e more = rw (e, after) e

plain_end : (text : Text) → next_passes is_ident_part text ≡ false → next_is 92 text ≡ false → word_ending text ≡ Ended
plain_end [] h f = refl
plain_end (c ∷ cs) h f = rw (h, f)

pub plain_word_is_its_row : PlainWordIsItsRow
plain_word_is_its_row context text h =
    let xs = front is_ident_part text in
    let same : word_pieces text ≡ map Plain xs = plain_pieces true text h in
    let left : remainder word_cutter true text ≡ after is_ident_part text =
    ap (λ l. drop (length (spelled word_cutter l)) text) same
    ∙ ap (λ l. drop (length l) text) (plain_spelled xs)
    ∙ sym (after_drop is_ident_part text) in
    let ended : word_ending (remainder word_cutter true text) ≡ Ended =
    ap word_ending left ∙ plain_end (after is_ident_part text) (after_stop is_ident_part text) h in
    ap (λ ps. found_word context (found_name ps (word_ending (remainder word_cutter true text)))) same
    ∙ ap (λ e. found_word context (found_name (map Plain xs) e)) ended
    ∙ plain_found context xs
