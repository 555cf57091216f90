-- A punctuator is the longest of the table, and is found again in front of any separator.
use Rattle.std.proofs.Common.{◌≡◌, ℕ, zero, suc, ◌<◌, ◌≤◌, Bool, true, false, not, cond, ◌&&◌, ◌||◌, ◌==◌, List, [], ◌∷◌, ◌++◌, drop, length, Option, Some, None, refl, ap, ◌∙◌, sym, subst, arith, nat_le, eqb-true, eq-eqb}
use Rattle.std.specs.Prelude.{slice_index_or, codes, is_none}
use Rattle.std.specs.List.{list_all, Contains}
use Rattle.std.proofs.lemmas.Bool.{and_parts}
use Rattle.std.proofs.lemmas.Bool.Decides.{nat_tests}
use Rattle.std.proofs.lemmas.List.{take-append-drop}
use Rattle.ecma_place.specs.Text.{Text}
use Rattle.ecma_place.specs.Character.{is_white_space, is_line_terminator}
use Rattle.ecma_syntax.specs.declared.operator.BinOpToken.TheVariants as bin
use Rattle.ecma_token.specs.declared.token.Token.{Token, BackQuote, BinOp, RBrace, RParen}
use Rattle.ecma_grammar.specs.declared.gap_mode.GapMode.{GapMode}
use Rattle.ecma_grammar.specs.Fronts.{begins_with}
use Rattle.ecma_grammar.specs.Gaps.{element}
use Rattle.ecma_grammar.specs.Locality.{separates}
use Rattle.ecma_grammar.specs.Numbers.{opens_fraction}
use Rattle.ecma_grammar.specs.Punctuators.{Punctuator, punctuators, first_of, spelling_in, angle_in, longest, alone_or, punctuator_in, found_punctuator, is_longest_first, TableIsLongestFirst, PunctuatorIsLongest, PunctuatorIsMember, NoPunctuatorIsMissed, PunctuatorTiles, PunctuatorIsLocal, IsReadAlways, ClosersAreLocal, spells, angle, PunctuatorBeginsNoGap}
use Rattle.ecma_grammar.proofs.PunctuatorLemmas.{punctuator-front, punctuator-some}

pub table_is_longest_first : TableIsLongestFirst
table_is_longest_first = refl

-- members

-- a member passes a test that all of a list pass
pub member_passes : {X : Type 0} (test : X → Bool) (xs : List X) (x : X) → list_all test xs ≡ true → Contains xs x → test x ≡ true
member_passes {X} test xs x all (k, less, is) = at xs k all less is
  where
    at : (ys : List X) (k : ℕ) → list_all test ys ≡ true → k < length ys → slice_index_or ys k x ≡ x → test x ≡ true
    at [] k all less is = absurd (omega (arith, less))
    at (y ∷ ys) zero all less is = ap test (sym is) ∙ (and_parts (test y) (list_all test ys) all).0
    at (y ∷ ys) (suc k) all less is = at ys k (and_parts (test y) (list_all test ys) all).1 (omega (arith, less)) is

-- what is found is a member with which the text begins
member_found : (ps : List Punctuator) (text : Text) (found : Punctuator) → first_of ps text ≡ Some found → Contains ps found × (begins_with found.spelling text ≡ true)
member_found [] text found e = cc
member_found (p ∷ ps) text found e = go (begins_with p.spelling text) refl e (member_found ps text found)
  where
    go : (x : Bool) → begins_with p.spelling text ≡ x → cond x (Some p) (first_of ps text) ≡ Some found
        → (first_of ps text ≡ Some found → Contains ps found × (begins_with found.spelling text ≡ true)) → Contains (p ∷ ps) found × (begins_with found.spelling text ≡ true)
    go true h e more = let same : p ≡ found = cc in ((zero, omega arith, same), ap (λ q. begins_with q.spelling text) (sym same) ∙ h)
    go false h e more = let ((k, less, is), begins) = more e in ((suc k, omega (arith, less), is), begins)

pub punctuator_is_member : PunctuatorIsMember
punctuator_is_member text found e = member_found punctuators text found e

-- no member is missed

abbrev is_no_front : Text → Punctuator → Bool
is_no_front text q = not (begins_with q.spelling text)

from_not : (x : Bool) → not x ≡ true → x ≡ false
from_not true h = cc
from_not false h = refl

none_begins : (ps : List Punctuator) (text : Text) → first_of ps text ≡ None → list_all (is_no_front text) ps ≡ true
none_begins [] text e = refl
none_begins (p ∷ ps) text e = go (begins_with p.spelling text) refl e (none_begins ps text)
  where
    go : (x : Bool) → begins_with p.spelling text ≡ x → cond x (Some p) (first_of ps text) ≡ None
        → (first_of ps text ≡ None → list_all (is_no_front text) ps ≡ true) → list_all (is_no_front text) (p ∷ ps) ≡ true
    go true h e more = cc
    go false h e more = rw h (more e)

pub no_punctuator_is_missed : NoPunctuatorIsMissed
no_punctuator_is_missed text q e member = from_not _ (member_passes (is_no_front text) punctuators q (none_begins punctuators text e) member)

-- the first is the longest

-- of two fronts of a text, the one that is no longer begins the other
fronts_nest : (a b text : Text) → begins_with a text ≡ true → begins_with b text ≡ true → length a ≤ length b → begins_with a b ≡ true
fronts_nest [] b text h k less = refl
fronts_nest (x ∷ xs) [] text h k less = absurd (omega (arith, less))
fronts_nest (x ∷ xs) (y ∷ ys) [] h k less = cc
fronts_nest (x ∷ xs) (y ∷ ys) (c ∷ cs) h k less =
    let here = and_parts (c == x) (begins_with xs cs) h in
    let there = and_parts (c == y) (begins_with ys cs) k in
    let same : y ≡ x = sym (eqb-true c y there.0) ∙ eqb-true c x here.0 in
    rw (eq-eqb y x same) (fronts_nest xs ys cs here.1 there.1 (omega (arith, less)))

abbrev is_no_longer : Text → ℕ → Punctuator → Bool
is_no_longer text n q = not (begins_with q.spelling text) || nat_le (length q.spelling) n

-- those further down that begin the text are shorter
shorter : (p : Punctuator) (ps : List Punctuator) (text : Text) → begins_with p.spelling text ≡ true → list_all (λ q. not (begins_with p.spelling q.spelling)) ps ≡ true
    → list_all (is_no_longer text (length p.spelling)) ps ≡ true
shorter p [] text begins all = refl
shorter p (q ∷ qs) text begins all =
    let both = and_parts (not (begins_with p.spelling q.spelling)) (list_all (λ l. not (begins_with p.spelling l.spelling)) qs) all in
    go (begins_with q.spelling text) (nat_le (length q.spelling) (length p.spelling)) refl refl (from_not (begins_with p.spelling q.spelling) both.0) (shorter p qs text begins both.1)
  where
    go : (x y : Bool) → begins_with q.spelling text ≡ x → nat_le (length q.spelling) (length p.spelling) ≡ y → begins_with p.spelling q.spelling ≡ false
        → list_all (is_no_longer text (length p.spelling)) qs ≡ true → list_all (is_no_longer text (length p.spelling)) (q ∷ qs) ≡ true
    go false y h k apart more = rw h more
    go true true h k apart more = rw (h, k) more
    go true false h k apart more =
        let less : length p.spelling ≤ length q.spelling = grind (arith, nat_tests) in
        let nests = fronts_nest p.spelling q.spelling text begins h less in
        cc

no_longer_itself : (text : Text) (p : Punctuator) → is_no_longer text (length p.spelling) p ≡ true
no_longer_itself text p = go (begins_with p.spelling text)
  where
    go : (x : Bool) → (not x || nat_le (length p.spelling) (length p.spelling)) ≡ true
    go true = grind (arith, nat_tests)
    go false = refl

longest_found : (ps : List Punctuator) (text : Text) (found : Punctuator) → is_longest_first ps ≡ true → first_of ps text ≡ Some found → list_all (is_no_longer text (length found.spelling)) ps ≡ true
longest_found [] text found sorted e = cc
longest_found (p ∷ ps) text found sorted e = go (begins_with p.spelling text) refl e (longest_found ps text found)
  where
    both : (list_all (λ q. not (begins_with p.spelling q.spelling)) ps ≡ true) × (is_longest_first ps ≡ true)
    both = and_parts _ _ sorted

    go : (x : Bool) → begins_with p.spelling text ≡ x → cond x (Some p) (first_of ps text) ≡ Some found
        → (is_longest_first ps ≡ true → first_of ps text ≡ Some found → list_all (is_no_longer text (length found.spelling)) ps ≡ true)
        → list_all (is_no_longer text (length found.spelling)) (p ∷ ps) ≡ true
    go true h e more =
        let same : p ≡ found = cc in
        subst (λ q. list_all (is_no_longer text (length q.spelling)) (p ∷ ps) ≡ true) same (rw (no_longer_itself text p) (shorter p ps text h both.0))
    go false h e more = rw h (more both.1 e)

no_longer : (x : Bool) (m n : ℕ) → x ≡ true → (not x || nat_le m n) ≡ true → m ≤ n
no_longer true m n e h = grind (arith, nat_tests)
no_longer false m n e h = cc

pub punctuator_is_longest : PunctuatorIsLongest
punctuator_is_longest text found q e member begins =
    no_longer (begins_with q.spelling text) (length q.spelling) (length found.spelling) begins
    (member_passes (is_no_longer text (length found.spelling)) punctuators q (longest_found punctuators text found table_is_longest_first e) member)

-- tiling

pub punctuator_tiles : PunctuatorTiles
punctuator_tiles type_mode text =
    let found = punctuator_in type_mode text in
    let n = length (spelling_in found) in
    ap (λ l. l ++ drop n text) (sym (punctuator-front type_mode text)) ∙ take-append-drop n text

-- locality

-- no spelling holds a space or a line feed
abbrev is_mark : ℕ → Bool
is_mark c = not (c == 32 || c == 10)

abbrev is_marked : Punctuator → Bool
is_marked p = list_all is_mark p.spelling

marked : list_all is_marked punctuators ≡ true
marked = refl

-- a spelling without separators that begins a text at a separator begins what stands before the separator
begins_front : (a b r : Text) → list_all is_mark a ≡ true → separates r ≡ true → begins_with a (b ++ r) ≡ true → begins_with a b ≡ true
begins_front [] b r all free h = refl
begins_front (x ∷ xs) [] [] all free h = cc
begins_front (x ∷ xs) [] (c ∷ cs) all free h =
    let same : c ≡ x = eqb-true c x (and_parts (c == x) (begins_with xs cs) h).0 in
    let no = from_not (x == 32 || x == 10) (and_parts (is_mark x) (list_all is_mark xs) all).0 in
    let yes : (x == 32 || x == 10) ≡ true = ap (λ d. d == 32 || d == 10) (sym same) ∙ free in
    cc
begins_front (x ∷ xs) (c ∷ cs) r all free h =
    let here = and_parts (c == x) (begins_with xs (cs ++ r)) h in
    rw here.0 (begins_front xs cs r (and_parts (is_mark x) (list_all is_mark xs) all).1 free here.1)

-- what begins a text begins it whatever is put behind it
begins_more_text : (a b r : Text) → begins_with a b ≡ true → begins_with a (b ++ r) ≡ true
begins_more_text [] b r h = refl
begins_more_text (x ∷ xs) [] r h = cc
begins_more_text (x ∷ xs) (c ∷ cs) r h =
    let here = and_parts (c == x) (begins_with xs cs) h in
    rw here.0 (begins_more_text xs cs r here.1)

begins_itself : (a : Text) → begins_with a a ≡ true
begins_itself [] = refl
begins_itself (x ∷ xs) = rw (eq-eqb x x refl) (begins_itself xs)

-- the first of the list is found again in front of a separator
found_again : (ps : List Punctuator) (b behind r : Text) (p : Punctuator) → list_all is_marked ps ≡ true → separates r ≡ true
    → first_of ps (b ++ behind) ≡ Some p → p.spelling ≡ b → first_of ps (b ++ r) ≡ Some p
found_again [] b behind r p all free e written = cc
found_again (q ∷ qs) b behind r p all free e written =
    let both = and_parts (is_marked q) (list_all is_marked qs) all in
    go (begins_with q.spelling (b ++ behind)) refl e both.0 (λ more. found_again qs b behind r p both.1 free more written)
  where
    not_here : (x : Bool) → begins_with q.spelling (b ++ r) ≡ x → is_marked q ≡ true → begins_with q.spelling (b ++ behind) ≡ false → x ≡ false
    not_here false k marks h = refl
    not_here true k marks h = let begins = begins_more_text q.spelling b behind (begins_front q.spelling b r marks free k) in cc

    go : (x : Bool) → begins_with q.spelling (b ++ behind) ≡ x → cond x (Some q) (first_of qs (b ++ behind)) ≡ Some p → is_marked q ≡ true
        → (first_of qs (b ++ behind) ≡ Some p → first_of qs (b ++ r) ≡ Some p) → first_of (q ∷ qs) (b ++ r) ≡ Some p
    go true h e marks more =
        let same : q ≡ p = cc in
        let as_written : q.spelling ≡ b = ap (λ l. l.spelling) same ∙ written in
        let begins : begins_with q.spelling (b ++ r) ≡ true = begins_more_text q.spelling b r (ap (begins_with q.spelling) (sym as_written) ∙ begins_itself q.spelling) in
        rw begins (ap (λ l. Some l) same)
    go false h e marks more = rw (not_here _ refl marks h) (more e)

-- no punctuator begins at a separator
none_at : (type_mode : Bool) (r : Text) → separates r ≡ true → punctuator_in type_mode r ≡ None
none_at type_mode [] free = refl
none_at type_mode (c ∷ cs) free = go (c == 32) (c == 10) refl refl free
  where
    at_space : (x : Bool) → punctuator_in x (32 ∷ cs) ≡ None
    at_space true = refl
    at_space false = refl

    at_line_feed : (x : Bool) → punctuator_in x (10 ∷ cs) ≡ None
    at_line_feed true = refl
    at_line_feed false = refl

    go : (x y : Bool) → (c == 32) ≡ x → (c == 10) ≡ y → (x || y) ≡ true → punctuator_in type_mode (c ∷ cs) ≡ None
    go true y e f h = ap (λ d. punctuator_in type_mode (d ∷ cs)) (eqb-true c 32 e) ∙ at_space type_mode
    go false true e f h = ap (λ d. punctuator_in type_mode (d ∷ cs)) (eqb-true c 10 f) ∙ at_line_feed type_mode
    go false false e f h = cc

-- a point before a separator is before no digit
no_fraction : (c : ℕ) (b behind r : Text) → separates r ≡ true → opens_fraction (c ∷ (b ++ behind)) ≡ false → opens_fraction (c ∷ (b ++ r)) ≡ false
no_fraction c (d ∷ ds) behind r free h = h
no_fraction c [] behind [] free h = go (c == 46)
  where
    go : (x : Bool) → (x && false) ≡ false
    go true = refl
    go false = refl
no_fraction c [] behind (d ∷ ds) free h = at (c == 46) (d == 32) (d == 10) refl refl free
  where
    with_digit : (x y : Bool) → y ≡ false → (x && y) ≡ false
    with_digit true y e = e
    with_digit false y e = refl

    at : (z x y : Bool) → (d == 32) ≡ x → (d == 10) ≡ y → (x || y) ≡ true → opens_fraction (c ∷ (d ∷ ds)) ≡ false
    at z true y e f h = with_digit (c == 46) _ (ap (λ x. opens_fraction (46 ∷ (x ∷ ds))) (eqb-true d 32 e))
    at z false true e f h = with_digit (c == 46) _ (ap (λ x. opens_fraction (46 ∷ (x ∷ ds))) (eqb-true d 10 f))
    at z false false e f h = cc

pub found_local : (type_mode : Bool) (b behind r : Text) (found : Option Punctuator) → punctuator_in type_mode (b ++ behind) ≡ found → spelling_in found ≡ b → separates r ≡ true
    → punctuator_in type_mode (b ++ r) ≡ found
found_local type_mode [] behind r None e written free = none_at type_mode r free
found_local type_mode [] behind r (Some p) e written free = absurd (omega (arith, punctuator-some type_mode behind p e, ap length written))
found_local type_mode (c ∷ b) behind r None e written free = cc
found_local type_mode (c ∷ b) behind r (Some p) e written free = go (angle_in type_mode c) e
  where
    unless : (x : Bool) → opens_fraction (c ∷ (b ++ behind)) ≡ x → longest x (c ∷ (b ++ behind)) ≡ Some p → longest (opens_fraction (c ∷ (b ++ r))) (c ∷ (b ++ r)) ≡ Some p
    unless true h e = cc
    unless false h e =
        ap (λ x. longest x (c ∷ (b ++ r))) (no_fraction c b behind r free h) ∙ found_again punctuators (c ∷ b) behind r p marked free e written

    go : (o : Option Token) → alone_or o c (b ++ behind) ≡ Some p → alone_or o c (b ++ r) ≡ Some p
    go (Some t) e = e
    go None e = unless (opens_fraction (c ∷ (b ++ behind))) refl e

pub punctuator_is_local : PunctuatorIsLocal
punctuator_is_local type_mode b behind r opens clean written free = ap found_punctuator (found_local type_mode b behind r (punctuator_in type_mode (b ++ behind)) refl written free)

-- what closes is read whatever follows

back_quote : IsReadAlways (codes "`") BackQuote
back_quote true r = refl
back_quote false r = refl

closing_brace : IsReadAlways (codes "}") RBrace
closing_brace true r = refl
closing_brace false r = refl

closing_parenthesis : IsReadAlways (codes ")") RParen
closing_parenthesis true r = refl
closing_parenthesis false r = refl

pub closers_are_local : ClosersAreLocal
closers_are_local = (back_quote, closing_brace, closing_parenthesis)

-- no spelling begins an element of a gap, at a separator

abbrev begins_none : GapMode → Bool → Text → Punctuator → Bool
begins_none mode flag r p = is_none (element mode flag (p.spelling ++ r))

at_the_end : (mode : GapMode) (flag : Bool) → list_all (begins_none mode flag []) punctuators ≡ true
unfolding is_white_space is_line_terminator
at_the_end mode true = refl
at_the_end mode false = refl

at_a_space : (mode : GapMode) (flag : Bool) (cs : Text) → list_all (begins_none mode flag (32 ∷ cs)) punctuators ≡ true
unfolding is_white_space is_line_terminator
at_a_space mode true cs = refl
at_a_space mode false cs = refl

at_a_line_feed : (mode : GapMode) (flag : Bool) (cs : Text) → list_all (begins_none mode flag (10 ∷ cs)) punctuators ≡ true
unfolding is_white_space is_line_terminator
at_a_line_feed mode true cs = refl
at_a_line_feed mode false cs = refl

at_a_separator : (mode : GapMode) (flag : Bool) (r : Text) → separates r ≡ true → list_all (begins_none mode flag r) punctuators ≡ true
at_a_separator mode flag [] free = at_the_end mode flag
at_a_separator mode flag (c ∷ cs) free = go (c == 32) (c == 10) refl refl free
  where
    go : (x y : Bool) → (c == 32) ≡ x → (c == 10) ≡ y → (x || y) ≡ true → list_all (begins_none mode flag (c ∷ cs)) punctuators ≡ true
    go true y e f h = ap (λ d. list_all (begins_none mode flag (d ∷ cs)) punctuators) (eqb-true c 32 e) ∙ at_a_space mode flag cs
    go false true e f h = ap (λ d. list_all (begins_none mode flag (d ∷ cs)) punctuators) (eqb-true c 10 f) ∙ at_a_line_feed mode flag cs
    go false false e f h = cc

-- `<` and `>` are found among types, and are members too
angle_passes : (test : Text → Bool) (c : ℕ) (t : Token) → list_all (λ p. test p.spelling) punctuators ≡ true → angle c ≡ Some t → test (c ∷ []) ≡ true
angle_passes test c t all e = go (c == 60) (c == 62) refl refl e
  where
    less : Contains punctuators (spells (codes "<") (BinOp bin.Lt))
    less = (25, omega arith, refl)

    greater : Contains punctuators (spells (codes ">") (BinOp bin.Gt))
    greater = (31, omega arith, refl)

    go : (x y : Bool) → (c == 60) ≡ x → (c == 62) ≡ y → cond x (Some (BinOp bin.Lt)) (cond y (Some (BinOp bin.Gt)) None) ≡ Some t → test (c ∷ []) ≡ true
    go true y f g e = ap (λ d. test (d ∷ [])) (eqb-true c 60 f) ∙ member_passes (λ p. test p.spelling) punctuators (spells (codes "<") (BinOp bin.Lt)) all less
    go false true f g e = ap (λ d. test (d ∷ [])) (eqb-true c 62 g) ∙ member_passes (λ p. test p.spelling) punctuators (spells (codes ">") (BinOp bin.Gt)) all greater
    go false false f g e = cc

-- a test that all spellings pass is passed by what is found
pub found_passes : (test : Text → Bool) (type_mode : Bool) (text : Text) (found : Punctuator) → list_all (λ p. test p.spelling) punctuators ≡ true → punctuator_in type_mode text ≡ Some found
    → test found.spelling ≡ true
found_passes test type_mode [] found all e = cc
found_passes test type_mode (c ∷ cs) found all e = by_mode type_mode e
  where
    unless : (x : Bool) → longest x (c ∷ cs) ≡ Some found → test found.spelling ≡ true
    unless true e = cc
    unless false e = member_passes (λ p. test p.spelling) punctuators found all (member_found punctuators (c ∷ cs) found e).0

    go : (o : Option Token) → angle c ≡ o → alone_or o c cs ≡ Some found → test found.spelling ≡ true
    go (Some t) a e = let same : spells (c ∷ []) t ≡ found = cc in ap (λ p. test p.spelling) (sym same) ∙ angle_passes test c t all a
    go None a e = unless (opens_fraction (c ∷ cs)) e

    by_mode : (x : Bool) → punctuator_in x (c ∷ cs) ≡ Some found → test found.spelling ≡ true
    by_mode true e = go (angle c) refl e
    by_mode false e = unless (opens_fraction (c ∷ cs)) e

from_none : {A : Type 0} (o : Option A) → is_none o ≡ true → o ≡ None
from_none None h = refl
from_none (Some x) h = cc

pub punctuator_begins_no_gap : PunctuatorBeginsNoGap
punctuator_begins_no_gap type_mode mode flag text r found e free =
    from_none (element mode flag (found.spelling ++ r))
    (found_passes (λ spelling. is_none (element mode flag (spelling ++ r))) type_mode text found (at_a_separator mode flag r free) e)
