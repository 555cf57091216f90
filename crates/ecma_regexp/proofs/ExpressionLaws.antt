-- A regular expression is a front of the text, and is found again in front of any separator.
use Rattle.std.proofs.Common.{◌≡◌, ℕ, Bool, true, false, cond, ◌==◌, List, [], ◌∷◌, ◌++◌, drop, length, Option, Some, None, Result, Ok, Err, refl, ap, ◌∙◌, sym, subst, arith, append_assoc, eqb-true, ◌<◌, length-append}
use Rattle.std.proofs.lemmas.List.{drop_at, append_cancel_left}
use Rattle.std.proofs.lemmas.Bool.{and_parts}
use Rattle.ecma_place.specs.Text.{Text}
use Rattle.ecma_place.specs.Atom.{AtomView}
use Rattle.ecma_place.specs.Character.{is_ident_start, is_line_terminator}
use Rattle.ecma_token.specs.View.{ErrorView}
use Rattle.ecma_grammar.specs.Found.{Scanned}
use Rattle.ecma_grammar.specs.Fronts.{next_passes, next_is, behind_line, in_line}
use Rattle.ecma_grammar.specs.Locality.{separates, is_accepted, has_clean_faults}
use Rattle.ecma_grammar.specs.Pieces.{pieces, spelled, remainder}
use Rattle.ecma_grammar.specs.Cutters.{IsCutter, ReadsInOrder}
use Rattle.ecma_grammar.specs.Punctuators.{punctuator}
use Rattle.ecma_grammar.specs.Words.{word_cutter, word_ending, found_name, identifier_name}
use Rattle.ecma_grammar.specs.Expressions.{Letter, Bare, Quoted, letter_text, quoted, ClassRole, ClassStop, ClassBackslash, ClassItself, class_role, class_letter_of, class_letter, class_cutter, BodyPiece, Single, Class, body_piece_text, single, class_behind, BodyRole, BodyStop, BodyBackslash, Bracket, BodyItself, body_role, body_piece_of, body_piece, body_cutter, body_pieces, no_flags, flags, regex_value, closed_expression, open_expression, expression_behind, regular_expression, BodyTiles, ExpressionIsFront, ExpressionIsLocal, FirstSlashIsLocal}
use Rattle.ecma_grammar.proofs.Fronts.{begins_is, separated, front_after}
use Rattle.ecma_grammar.proofs.PieceLemmas.{FrontIf, is_cutter, pieces_none, pieces_in_order, cut, remainder_is, tiling, maximal}
use Rattle.ecma_grammar.proofs.EscapeLaws.{IsFrontOf, front_begins}
use Rattle.ecma_name.proofs.WordLaws.{ends_piece, ends_word, name_again, name_front}

-- letters

class_backslash : (c : ℕ) → class_role c ≡ ClassBackslash → 92 ≡ c
class_backslash c h = go (c == 93) (c == 92) (is_line_terminator c) refl h
  where
    go : (x y z : Bool) → (c == 92) ≡ y → cond x ClassStop (cond y ClassBackslash (cond z ClassStop ClassItself)) ≡ ClassBackslash → 92 ≡ c
    go true y z f h = cc
    go false true z f h = sym (eqb-true c 92 f)
    go false false true f h = cc
    go false false false f h = cc

-- what a backslash quotes is written behind it
quoted_is : (cs : Text) (letter : Letter) → quoted cs ≡ Some letter → (c : ℕ) × (letter ≡ Quoted c) × (cs ≡ c ∷ drop 1 cs)
quoted_is [] letter h = cc
quoted_is (c ∷ cs) letter h = go (is_line_terminator c) h
  where
    go : (x : Bool) → cond x None (Some (Quoted c)) ≡ Some letter → (d : ℕ) × (letter ≡ Quoted d) × (c ∷ cs ≡ d ∷ cs)
    go true h = cc
    go false h = let same : Quoted c ≡ letter = cc in (c, sym same, refl)

class_front : (text : Text) → FrontIf class_cutter (class_letter text) text
class_front [] = tt
class_front (c ∷ cs) = go (class_role c) refl
  where
    of_quoted : (o : Option Letter) → quoted cs ≡ o → 92 ≡ c → FrontIf class_cutter o (c ∷ cs)
    of_quoted None h e = tt
    of_quoted (Some letter) h e =
        let (d, is_letter, text) = quoted_is cs letter h in
        subst (λ l. FrontIf class_cutter (Some l) (c ∷ cs)) (sym is_letter) ((drop 1 cs, ap (λ l. 92 ∷ l) (sym text) ∙ ap (λ x. x ∷ cs) e), omega arith)

    go : (r : ClassRole) → class_role c ≡ r → FrontIf class_cutter (class_letter_of r c cs) (c ∷ cs)
    go ClassStop e = tt
    go ClassBackslash e = of_quoted (quoted cs) refl (class_backslash c e)
    go ClassItself e = ((cs, refl), omega arith)

pub class_is_cutter : IsCutter class_cutter
class_is_cutter = is_cutter class_cutter (λ _ text. class_front text)

pub not_bare : (cs : Text) (c : ℕ) → quoted cs ≡ Some (Bare c) → ⊥
not_bare cs c h = let (d, e, text) = quoted_is cs (Bare c) h in cc

-- a letter is settled by its own characters
class_again : (letter : Letter) (r s : Text) → class_letter (letter_text letter ++ r) ≡ Some letter → class_letter (letter_text letter ++ s) ≡ Some letter
class_again (Quoted c) r s h = h
class_again (Bare c) r s h = go (class_role c) h
  where
    go : (o : ClassRole) → class_letter_of o c r ≡ Some (Bare c) → class_letter_of o c s ≡ Some (Bare c)
    go ClassStop h = cc
    go ClassBackslash h = absurd (not_bare r c h)
    go ClassItself h = refl

class_order_again : (ls : List Letter) (r s : Text) → ReadsInOrder class_cutter tt ls (93 ∷ r) → ReadsInOrder class_cutter tt ls (93 ∷ s)
class_order_again [] r s h = refl
class_order_again (letter ∷ more) r s h =
    (class_again letter (spelled class_cutter more ++ (93 ∷ r)) (spelled class_cutter more ++ (93 ∷ s)) h.0, class_order_again more r s h.1)

-- a class is its letters, in front of a bracket
abbrev pub IsClass : List Letter → Text → Type 0
IsClass ls cs = (x : Text) × (spelled class_cutter ls ++ (93 ∷ x) ≡ cs) × ReadsInOrder class_cutter tt ls (93 ∷ x)

pub class_found : (cs : Text) (piece : BodyPiece) → class_behind cs ≡ Some piece → (ls : List Letter) × (Class ls ≡ piece) × IsClass ls cs
class_found cs piece h = go (next_is 93 (remainder class_cutter tt cs)) refl h
  where
    ls : List Letter
    ls = pieces class_cutter tt cs

    go : (x : Bool) → next_is 93 (remainder class_cutter tt cs) ≡ x → cond x (Some (Class ls)) None ≡ Some piece → (ls : List Letter) × (Class ls ≡ piece) × IsClass ls cs
    go false e h = cc
    go true e h =
        let same : Class ls ≡ piece = cc in
        let c = cut class_cutter class_is_cutter tt cs in
        let left : c.0 ≡ 93 ∷ drop 1 c.0 = begins_is 93 c.0 (ap (next_is 93) (sym (remainder_is class_cutter class_is_cutter tt cs)) ∙ e) in
        (ls, same, (drop 1 c.0, ap (λ l. spelled class_cutter ls ++ l) (sym left) ∙ c.1, subst (λ l. ReadsInOrder class_cutter tt ls l) left c.2))

pub class_closed : (ls : List Letter) (x : Text) → ReadsInOrder class_cutter tt ls (93 ∷ x) → class_behind (spelled class_cutter ls ++ (93 ∷ x)) ≡ Some (Class ls)
class_closed ls x order =
    let text = spelled class_cutter ls ++ (93 ∷ x) in
    let same : pieces class_cutter tt text ≡ ls = pieces_in_order class_cutter class_is_cutter tt ls (93 ∷ x) order in
    let left : remainder class_cutter tt text ≡ 93 ∷ x = ap (λ l. drop (length (spelled class_cutter l)) text) same ∙ drop_at (spelled class_cutter ls) (93 ∷ x) _ refl in
    ap (λ l. cond (next_is 93 l) (Some (Class (pieces class_cutter tt text))) None) left ∙ ap (λ l. Some (Class l)) same

-- pieces of the body

body_backslash : (c : ℕ) → body_role c ≡ BodyBackslash → 92 ≡ c
body_backslash c h = go (c == 47) (c == 92) (c == 91) (is_line_terminator c) refl h
  where
    go : (x y z w : Bool) → (c == 92) ≡ y → cond x BodyStop (cond y BodyBackslash (cond z Bracket (cond w BodyStop BodyItself))) ≡ BodyBackslash → 92 ≡ c
    go true y z w f h = cc
    go false true z w f h = sym (eqb-true c 92 f)
    go false false true w f h = cc
    go false false false true f h = cc
    go false false false false f h = cc

body_bracket : (c : ℕ) → body_role c ≡ Bracket → 91 ≡ c
body_bracket c h = go (c == 47) (c == 92) (c == 91) (is_line_terminator c) refl h
  where
    go : (x y z w : Bool) → (c == 91) ≡ z → cond x BodyStop (cond y BodyBackslash (cond z Bracket (cond w BodyStop BodyItself))) ≡ Bracket → 91 ≡ c
    go true y z w f h = cc
    go false true z w f h = cc
    go false false true w f h = sym (eqb-true c 91 f)
    go false false false true f h = cc
    go false false false false f h = cc

body_front : (text : Text) → FrontIf body_cutter (body_piece text) text
body_front [] = tt
body_front (c ∷ cs) = go (body_role c) refl
  where
    of_quoted : (o : Option Letter) → quoted cs ≡ o → 92 ≡ c → FrontIf body_cutter (single o) (c ∷ cs)
    of_quoted None h e = tt
    of_quoted (Some letter) h e =
        let (d, is_letter, text) = quoted_is cs letter h in
        subst (λ l. FrontIf body_cutter (Some (Single l)) (c ∷ cs)) (sym is_letter) ((drop 1 cs, ap (λ l. 92 ∷ l) (sym text) ∙ ap (λ x. x ∷ cs) e), omega arith)

    of_class : (o : Option BodyPiece) → class_behind cs ≡ o → 91 ≡ c → FrontIf body_cutter o (c ∷ cs)
    of_class None h e = tt
    of_class (Some piece) h e =
        let (ls, is_class, found) = class_found cs piece h in
        subst (λ l. FrontIf body_cutter (Some l) (c ∷ cs)) is_class
        ((found.0, ap (λ l. 91 ∷ l) (append_assoc (spelled class_cutter ls) (93 ∷ []) found.0 ∙ found.1) ∙ ap (λ x. x ∷ cs) e), omega arith)

    go : (r : BodyRole) → body_role c ≡ r → FrontIf body_cutter (body_piece_of r c cs) (c ∷ cs)
    go BodyStop e = tt
    go BodyBackslash e = of_quoted (quoted cs) refl (body_backslash c e)
    go Bracket e = of_class (class_behind cs) refl (body_bracket c e)
    go BodyItself e = ((cs, refl), omega arith)

pub body_is_cutter : IsCutter body_cutter
body_is_cutter = is_cutter body_cutter (λ _ text. body_front text)

-- a piece is settled by its own characters
body_again : (piece : BodyPiece) (r s : Text) → body_piece (body_piece_text piece ++ r) ≡ Some piece → body_piece (body_piece_text piece ++ s) ≡ Some piece
body_again (Single (Quoted c)) r s h = h
body_again (Single (Bare c)) r s h = go (body_role c) h
  where
    no_quote : (o : Option Letter) → quoted r ≡ o → single o ≡ Some (Single (Bare c)) → ⊥
    no_quote None e h = cc
    no_quote (Some letter) e h = let same : Single letter ≡ Single (Bare c) = cc in let plain : letter ≡ Bare c = cc in not_bare r c (e ∙ ap Some plain)

    go : (o : BodyRole) → body_piece_of o c r ≡ Some (Single (Bare c)) → body_piece_of o c s ≡ Some (Single (Bare c))
    go BodyStop h = cc
    go BodyBackslash h = absurd (no_quote (quoted r) refl h)
    go Bracket h = let (ls, e, found) = class_found r (Single (Bare c)) h in cc
    go BodyItself h = refl
body_again (Class ls) r s h =
    let (ms, e, found) = class_found ((spelled class_cutter ls ++ (93 ∷ [])) ++ r) (Class ls) h in
    let same : ms ≡ ls = cc in
    let order = class_order_again ls found.0 s (subst (λ l. ReadsInOrder class_cutter tt l (93 ∷ found.0)) same found.2) in
    ap class_behind (append_assoc (spelled class_cutter ls) (93 ∷ []) s) ∙ class_closed ls s order

body_order_again : (ps : List BodyPiece) (r s : Text) → ReadsInOrder body_cutter tt ps (47 ∷ r) → ReadsInOrder body_cutter tt ps (47 ∷ s)
body_order_again [] r s h = refl
body_order_again (piece ∷ more) r s h =
    (body_again piece (spelled body_cutter more ++ (47 ∷ r)) (spelled body_cutter more ++ (47 ∷ s)) h.0, body_order_again more r s h.1)

-- flags

no_start_space : is_ident_start 32 ≡ false
unfolding is_ident_start
no_start_space = refl

no_start_line_feed : is_ident_start 10 ≡ false
unfolding is_ident_start
no_start_line_feed = refl

flags_front : (text : Text) → IsFrontOf (flags text).spelling text
flags_front text = go (next_passes is_ident_start text)
  where
    go : (x : Bool) → IsFrontOf (cond x (identifier_name text) no_flags).spelling text
    go true = name_front text
    go false = (text, refl)

-- no name begins at a separator
name_none : (r : Text) → separates r ≡ true → identifier_name r ≡ no_flags
name_none r free =
    ap (λ l. found_name l (word_ending (drop (length (spelled word_cutter l)) r))) (pieces_none word_cutter true r (ends_piece r free true))
    ∙ ap (found_name []) (ends_word r free)

flags_local : (f behind r : Text) → is_accepted (flags (f ++ behind)).value ≡ true → (flags (f ++ behind)).spelling ≡ f → separates r ≡ true
    → flags (f ++ r) ≡ flags (f ++ behind)
flags_local [] behind r good spells free =
    rw (separated is_ident_start r no_start_space no_start_line_feed free) (go (next_passes is_ident_start behind) refl good spells)
  where
    go : (x : Bool) → next_passes is_ident_start behind ≡ x → is_accepted (cond x (identifier_name behind) no_flags).value ≡ true → (cond x (identifier_name behind) no_flags).spelling ≡ []
        → no_flags ≡ cond x (identifier_name behind) no_flags
    go true e good spells = sym (name_none r free) ∙ name_again [] behind r good spells free
    go false e good spells = refl
flags_local (c ∷ cs) behind r good spells free = go (is_ident_start c) good spells
  where
    go : (x : Bool) → is_accepted (cond x (identifier_name ((c ∷ cs) ++ behind)) no_flags).value ≡ true → (cond x (identifier_name ((c ∷ cs) ++ behind)) no_flags).spelling ≡ c ∷ cs
        → cond x (identifier_name ((c ∷ cs) ++ r)) no_flags ≡ cond x (identifier_name ((c ∷ cs) ++ behind)) no_flags
    go true good spells = name_again (c ∷ cs) behind r good spells free
    go false good spells = cc

-- expressions

-- what is found of an expression that closes
pub closed : (ps : List BodyPiece) (x : Text) → ReadsInOrder body_cutter tt ps (47 ∷ x)
    → expression_behind (spelled body_cutter ps ++ (47 ∷ x)) ≡ closed_expression (spelled body_cutter ps) (flags x)
closed ps x order =
    let text = spelled body_cutter ps ++ (47 ∷ x) in
    let same : pieces body_cutter tt text ≡ ps = pieces_in_order body_cutter body_is_cutter tt ps (47 ∷ x) order in
    let left : remainder body_cutter tt text ≡ 47 ∷ x = ap (λ l. drop (length (spelled body_cutter l)) text) same ∙ drop_at (spelled body_cutter ps) (47 ∷ x) _ refl in
    ap (λ l. cond (next_is 47 l) (closed_expression (spelled body_cutter (pieces body_cutter tt text)) (flags (drop 1 l))) (open_expression text)) left
    ∙ ap (λ l. closed_expression (spelled body_cutter l) (flags x)) same

-- the body that closes, and what follows its slash
closing : (text : Text) → next_is 47 (remainder body_cutter tt text) ≡ true → spelled body_cutter (body_pieces text) ++ (47 ∷ drop 1 (remainder body_cutter tt text)) ≡ text
closing text e =
    ap (λ l. spelled body_cutter (body_pieces text) ++ l) (sym (begins_is 47 (remainder body_cutter tt text) e))
    ∙ tiling body_cutter body_is_cutter tt text

behind_front : (text : Text) → IsFrontOf (expression_behind text).spelling (47 ∷ text)
behind_front text = go (next_is 47 (remainder body_cutter tt text)) refl
  where
    body : Text
    body = spelled body_cutter (body_pieces text)

    x : Text
    x = drop 1 (remainder body_cutter tt text)

    go : (o : Bool) → next_is 47 (remainder body_cutter tt text) ≡ o → IsFrontOf (cond o (closed_expression body (flags x)) (open_expression text)).spelling (47 ∷ text)
    go true e =
        let f = flags_front x in
        (f.0, ap (λ l. 47 ∷ l) (append_assoc (body ++ (47 ∷ [])) (flags x).spelling f.0 ∙ append_assoc body (47 ∷ []) ((flags x).spelling ++ f.0) ∙ ap (λ l. body ++ (47 ∷ l)) f.1 ∙ closing text e))
    go false e = (behind_line text, ap (λ l. 47 ∷ l) (front_after in_line text))

pub expression_is_front : ExpressionIsFront
expression_is_front text opens =
    let f = behind_front (drop 1 text) in
    front_begins (regular_expression text).spelling text (f.0, f.1 ∙ sym (begins_is 47 text opens))

pub body_tiles : BodyTiles
body_tiles text = (tiling body_cutter body_is_cutter tt text, maximal body_cutter body_is_cutter tt text)

-- an expression that is not refused is a body, a slash and flags

accepted_flags : (body : Text) (v : Result AtomView ErrorView) → is_accepted (regex_value body v) ≡ true → is_accepted v ≡ true
accepted_flags body (Ok text) h = refl
accepted_flags body (Err error) h = cc

abbrev IsExpression : Text → Text → Type 0
IsExpression b behind =
    (ps : List BodyPiece) × (f : Text) × (b ≡ spelled body_cutter ps ++ (47 ∷ f)) × ReadsInOrder body_cutter tt ps (47 ∷ (f ++ behind))
    × (is_accepted (flags (f ++ behind)).value ≡ true) × ((flags (f ++ behind)).spelling ≡ f)

must_close : (b behind : Text) → is_accepted (expression_behind (b ++ behind)).value ≡ true → (expression_behind (b ++ behind)).spelling ≡ 47 ∷ b → IsExpression b behind
must_close b behind good spells = go (next_is 47 (remainder body_cutter tt text)) refl good spells
  where
    text : Text
    text = b ++ behind

    ps : List BodyPiece
    ps = body_pieces text

    found : Scanned AtomView
    found = flags (drop 1 (remainder body_cutter tt text))

    go : (x : Bool) → next_is 47 (remainder body_cutter tt text) ≡ x → is_accepted (cond x (closed_expression (spelled body_cutter ps) found) (open_expression text)).value ≡ true
        → (cond x (closed_expression (spelled body_cutter ps) found) (open_expression text)).spelling ≡ 47 ∷ b → IsExpression b behind
    go false e good spells = cc
    go true e good spells =
        let c = cut body_cutter body_is_cutter tt text in
        let rests = remainder_is body_cutter body_is_cutter tt text in
        let x = drop 1 (remainder body_cutter tt text) in
        let left : c.0 ≡ 47 ∷ x = sym rests ∙ begins_is 47 (remainder body_cutter tt text) e in
        let fine : is_accepted found.value ≡ true = accepted_flags (spelled body_cutter ps) found.value good in
        let f = found.spelling in
        let front = flags_front x in
        let written : spelled body_cutter ps ++ (47 ∷ f) ≡ b = sym (append_assoc (spelled body_cutter ps) (47 ∷ []) f) ∙ ap (drop 1) spells in
        let whole : b ++ front.0 ≡ b ++ behind =
        ap (λ l. l ++ front.0) (sym written) ∙ append_assoc (spelled body_cutter ps) (47 ∷ f) front.0 ∙ ap (λ l. spelled body_cutter ps ++ (47 ∷ l)) front.1 ∙ closing text e in
        let follows : front.0 ≡ behind = append_cancel_left b front.0 behind whole in
        let flagged : x ≡ f ++ behind = sym front.1 ∙ ap (λ l. f ++ l) follows in
        (ps, f, sym written, subst (λ l. ReadsInOrder body_cutter tt ps l) (left ∙ ap (λ l. 47 ∷ l) flagged) c.2, ap (λ l. is_accepted (flags l).value) (sym flagged) ∙ fine, ap (λ l. (flags l).spelling) (sym flagged))

behind_local : (b behind r : Text) → is_accepted (expression_behind (b ++ behind)).value ≡ true → (expression_behind (b ++ behind)).spelling ≡ 47 ∷ b → separates r ≡ true
    → expression_behind (b ++ r) ≡ expression_behind (b ++ behind)
behind_local b behind r good spells free =
    let (ps, f, written, order, fine, flagged) = must_close b behind good spells in
    let text : (y : Text) → b ++ y ≡ spelled body_cutter ps ++ (47 ∷ (f ++ y)) = λ y. ap (λ l. l ++ y) written ∙ append_assoc (spelled body_cutter ps) (47 ∷ f) y in
    let here = ap expression_behind (text behind) ∙ closed ps (f ++ behind) order in
    let there = ap expression_behind (text r) ∙ closed ps (f ++ r) (body_order_again ps (f ++ behind) (f ++ r) order) in
    there ∙ ap (closed_expression (spelled body_cutter ps)) (flags_local f behind r fine flagged free) ∙ sym here

-- what is read is not empty
starts_with_slash : (text : Text) → (l : Text) × ((expression_behind text).spelling ≡ 47 ∷ l)
starts_with_slash text = go (next_is 47 (remainder body_cutter tt text))
  where
    go : (o : Bool) → (l : Text) × ((cond o (closed_expression (spelled body_cutter (body_pieces text)) (flags (drop 1 (remainder body_cutter tt text)))) (open_expression text)).spelling ≡ 47 ∷ l)
    go true = (_, refl)
    go false = (_, refl)

pub expression_is_local : ExpressionIsLocal
expression_is_local [] behind r opens clean spells free = let (l, e) = starts_with_slash (drop 1 behind) in cc
expression_is_local (c ∷ b) behind r opens clean spells free =
    let good : is_accepted (expression_behind (b ++ behind)).value ≡ true = (and_parts (is_accepted (expression_behind (b ++ behind)).value) (has_clean_faults (expression_behind (b ++ behind)).faults) clean).0 in
    behind_local b behind r good (spells ∙ ap (λ x. x ∷ b) (eqb-true c 47 opens)) free

-- the slash by itself

-- one character behind a slash settles which punctuator it is
slash_again : (type_mode : Bool) (d : ℕ) (x y : Text) → punctuator type_mode (47 ∷ (d ∷ x)) ≡ punctuator type_mode (47 ∷ (d ∷ y))
slash_again true d x y = refl
slash_again false d x y = refl

slash_before : (type_mode : Bool) (l x y : Text) → 0 < length l → punctuator type_mode (47 ∷ (l ++ x)) ≡ punctuator type_mode (47 ∷ (l ++ y))
slash_before type_mode [] x y some = absurd (omega (arith, some))
slash_before type_mode (d ∷ l) x y some = slash_again type_mode d (l ++ x) (l ++ y)

pub first_slash_is_local : FirstSlashIsLocal
first_slash_is_local type_mode [] behind r opens clean spells = let (l, e) = starts_with_slash (drop 1 behind) in cc
first_slash_is_local type_mode (c ∷ b) behind r opens clean spells =
    let slash : c ≡ 47 = eqb-true c 47 opens in
    let good : is_accepted (expression_behind (b ++ behind)).value ≡ true = (and_parts (is_accepted (expression_behind (b ++ behind)).value) (has_clean_faults (expression_behind (b ++ behind)).faults) clean).0 in
    let (ps, f, written, order, fine, flagged) = must_close b behind good (spells ∙ ap (λ x. x ∷ b) slash) in
    let some : 0 < length b = omega (arith, ap length written, length-append (spelled body_cutter ps) (47 ∷ f)) in
    rw slash (slash_before type_mode b r behind some)
