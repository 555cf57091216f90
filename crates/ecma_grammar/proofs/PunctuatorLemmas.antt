-- What a text begins with, character by character, and the punctuator that it begins with.
use Rattle.std.proofs.Common.{◌≡◌, ℕ, ◌+◌, ◌-◌, ◌<◌, Bool, true, false, cond, ◌||◌, ◌==◌, List, [], ◌∷◌, length, take, drop, drop-drop, Option, Some, None, slice_get, refl, sym, ap, subst, ◌∙◌, arith, nat_lt, eqb-true, true≢false}
use Rattle.std.specs.Prelude.{option_map}
use Rattle.std.specs.Prelude.{⊤}
use Rattle.std.specs.List.{list_all}
use Rattle.std.proofs.lemmas.Bool.{and_parts}
use Rattle.std.proofs.lemmas.Bool.Decides.{nat_tests}
use Rattle.ecma_place.specs.Text.{Text}
use Rattle.ecma_place.specs.Cursor.{Cursor, rest, passed, moved_to}
use Rattle.ecma_place.proofs.RunLemmas.{first-cons, passed-later-by}
use Rattle.ecma_token.specs.View.{token_view, plain_token}
use Rattle.ecma_syntax.specs.declared.operator.BinOpToken.TheVariants as bin
use Rattle.ecma_token.specs.declared.token.Token.{Token, BinOp}
use Rattle.ecma_grammar.specs.Fronts.{begins_with}
use Rattle.ecma_grammar.specs.Punctuators.{Punctuator, spells, punctuators, first_of, token_in, count_behind, spelling_in, is_lone, begins_more, angle, angle_in, longest, alone_or, punctuator_in}
use Rattle.ecma_grammar.specs.Numbers.{opens_fraction}
use Rattle.ecma_grammar.specs.Found.{token_behind}

pub passed-zero : (c : Cursor) → passed 0 c ≡ c
passed-zero c = let same : c.at + 0 ≡ c.at = omega arith in ap (λ n. moved_to n c) same

pub ruleset eating = (passed-zero)

-- a punctuator that is found whatever follows its first character
pub first_of-lone : (text : Text) (c : ℕ) (t : Token) → slice_get text 0 ≡ Some c → ((behind : Text) → first_of punctuators (c ∷ behind) ≡ Some (spells (c ∷ []) t))
    → first_of punctuators text ≡ Some (spells (c ∷ []) t)
first_of-lone text c t e found = ap (first_of punctuators) (first-cons text c e) ∙ found (drop 1 text)

-- the text behind the first character, as a cursor has it
pub rest-bumped : (old now : Cursor) (c : ℕ) → slice_get (rest old) 0 ≡ Some c → now ≡ passed 1 old → c ∷ rest now ≡ rest old
rest-bumped old now c e moved = rw (moved, ← drop-drop 1 old.at old.text) (sym (first-cons (rest old) c e))

abbrev is_spelled : Punctuator → Bool
is_spelled p = nat_lt 0 (length p.spelling)

suc-less : (n : ℕ) → nat_lt 0 n ≡ true → 1 + (n - 1) ≡ n
suc-less n h = grind (arith, nat_tests)

len-found : (ps : List Punctuator) (text : Text) (t : Token) → list_all is_spelled ps ≡ true → token_in (first_of ps text) ≡ Some t
    → 1 + count_behind (first_of ps text) ≡ length (spelling_in (first_of ps text))
len-found [] text t all e = cc
len-found (p ∷ ps) text t all e = go (begins_with p.spelling text) e (and_parts (is_spelled p) (list_all is_spelled ps) all) (len-found ps text t)
  where
    go : (b : Bool) → token_in (cond b (Some p) (first_of ps text)) ≡ Some t → (is_spelled p ≡ true) × (list_all is_spelled ps ≡ true)
        → (list_all is_spelled ps ≡ true → token_in (first_of ps text) ≡ Some t → 1 + count_behind (first_of ps text) ≡ length (spelling_in (first_of ps text)))
        → 1 + count_behind (cond b (Some p) (first_of ps text)) ≡ length (spelling_in (cond b (Some p) (first_of ps text)))
    go true e all more = suc-less (length p.spelling) all.0
    go false e all more = more all.1 e

pub count_behind-found : (text : Text) (t : Token) → token_in (first_of punctuators text) ≡ Some t
    → 1 + count_behind (first_of punctuators text) ≡ length (spelling_in (first_of punctuators text))
count_behind-found text t e = len-found punctuators text t refl e

-- from behind the first character to behind all
pub moved-behind : (old one two : Cursor) (m n : ℕ) → one ≡ passed 1 old → two ≡ passed m one → 1 + m ≡ n → two ≡ passed n old
moved-behind old one two m n first more sum = more ∙ ap (passed m) first ∙ sym (passed-later-by old n m 1 (sym sum))

neither : (x y : Bool) → (x || y) ≡ false → (x ≡ false) × (y ≡ false)
neither true y h = cc
neither false y h = (refl, h)

-- no other character begins a punctuator
pub first_of-none : (c : ℕ) (cs : Text) → is_lone c ≡ false → begins_more c ≡ false → first_of punctuators (c ∷ cs) ≡ None
unfolding is_lone begins_more
first_of-none c cs alone more =
    let a0 = neither (c == 123) _ alone in
    let a1 = neither (c == 125) _ a0.1 in
    let a2 = neither (c == 40) _ a1.1 in
    let a3 = neither (c == 41) _ a2.1 in
    let a4 = neither (c == 91) _ a3.1 in
    let a5 = neither (c == 93) _ a4.1 in
    let a6 = neither (c == 59) _ a5.1 in
    let a7 = neither (c == 44) _ a6.1 in
    let a8 = neither (c == 126) _ a7.1 in
    let a9 = neither (c == 64) _ a8.1 in
    let a10 = neither (c == 35) _ a9.1 in
    let a11 = neither (c == 58) _ a10.1 in
    let m0 = neither (c == 46) _ more in
    let m1 = neither (c == 61) _ m0.1 in
    let m2 = neither (c == 33) _ m1.1 in
    let m3 = neither (c == 60) _ m2.1 in
    let m4 = neither (c == 62) _ m3.1 in
    let m5 = neither (c == 43) _ m4.1 in
    let m6 = neither (c == 45) _ m5.1 in
    let m7 = neither (c == 42) _ m6.1 in
    let m8 = neither (c == 47) _ m7.1 in
    let m9 = neither (c == 37) _ m8.1 in
    let m10 = neither (c == 124) _ m9.1 in
    let m11 = neither (c == 38) _ m10.1 in
    let m12 = neither (c == 94) _ m11.1 in
    simp (a0.0, a1.0, a2.0, a3.0, a4.0, a5.0, a6.0, a7.0, a8.0, a9.0, a10.0, a11.0, a11.1, m0.0, m1.0, m2.0, m3.0, m4.0, m5.0, m6.0, m7.0, m8.0, m9.0, m10.0, m11.0, m12.0, m12.1)

no-other : (c k : ℕ) → is_lone k ≡ false → is_lone c ≡ true → (c == k) ≡ false
no-other c k never alone = go (c == k) refl
  where
    go : (b : Bool) → (c == k) ≡ b → (c == k) ≡ false
    go true e = let same = eqb-true c k e in absurd (true≢false (sym alone ∙ ap is_lone same ∙ never))
    go false e = e

-- a character that stands alone whatever follows it does so among types too, and begins no number
pub lone-everywhere : (type_mode : Bool) (text : Text) (c : ℕ) → slice_get text 0 ≡ Some c → is_lone c ≡ true → punctuator_in type_mode text ≡ first_of punctuators text
unfolding is_lone
lone-everywhere type_mode [] c e alone = cc
lone-everywhere type_mode (a ∷ cs) c e lone =
    let same : a ≡ c = cc in
    let alone : is_lone a ≡ true = ap is_lone same ∙ lone in
    let less = no-other a 60 refl alone in
    let greater = no-other a 62 refl alone in
    let point = no-other a 46 refl alone in
    let opens : opens_fraction (a ∷ cs) ≡ false = rw point refl in
    ap (λ token. alone_or token a cs) (go type_mode less greater) ∙ ap (λ b. longest b (a ∷ cs)) opens
  where
    go : (m : Bool) → (a == 60) ≡ false → (a == 62) ≡ false → angle_in m a ≡ None
    go true less greater = rw (less, greater) refl
    go false less greater = refl

-- Tokens of punctuators hold no error

abbrev IsPlain : Token → Type 0
IsPlain t = token_view t ≡ plain_token t

abbrev AllPlain : List Punctuator → Type 0
AllPlain [] = ⊤
AllPlain (p ∷ ps) = IsPlain p.token × AllPlain ps

all_plain : AllPlain punctuators
all_plain = (refl, (refl, (refl, (refl, (refl, (refl, (refl, (refl, (refl, (refl, (refl, (refl, (refl, (refl, (refl, (refl, (refl, (refl, (refl, (refl, (refl, (refl, (refl, (refl, (refl, (refl, (refl, (refl, (refl, (refl, (refl, (refl, (refl, (refl, (refl, (refl, (refl, (refl, (refl, (refl, (refl, (refl, (refl, (refl, (refl, (refl, (refl, (refl, (refl, (refl, (refl, (refl, (refl, (refl, (refl, (refl, (refl, (refl, (refl, tt)))))))))))))))))))))))))))))))))))))))))))))))))))))))))))

plain-found : (ps : List Punctuator) (text : Text) (p : Punctuator) → AllPlain ps → first_of ps text ≡ Some p → IsPlain p.token
plain-found [] text p all e = cc
plain-found (q ∷ ps) text p all e = go (begins_with q.spelling text) e all (plain-found ps text p)
  where
    go : (b : Bool) → cond b (Some q) (first_of ps text) ≡ Some p → IsPlain q.token × AllPlain ps → (AllPlain ps → first_of ps text ≡ Some p → IsPlain p.token) → IsPlain p.token
    go true e all more = let same : q ≡ p = cc in rw same at all.0
    go false e all more = more all.1 e

pub first_of-plain : (text : Text) (p : Punctuator) → first_of punctuators text ≡ Some p → token_view p.token ≡ plain_token p.token
first_of-plain text p e = plain-found punctuators text p all_plain e

-- what is found is a front of the text

front-begins : (spelling text : Text) → begins_with spelling text ≡ true → take (length spelling) text ≡ spelling
front-begins [] text e = refl
front-begins (x ∷ xs) [] e = cc
front-begins (x ∷ xs) (c ∷ cs) e =
    let both = and_parts (c == x) (begins_with xs cs) e in
    let same : c ≡ x = eqb-true c x both.0 in
    rw same (ap (λ l. x ∷ l) (front-begins xs cs both.1))

front-found : (ps : List Punctuator) (text : Text) → take (length (spelling_in (first_of ps text))) text ≡ spelling_in (first_of ps text)
front-found [] text = refl
front-found (p ∷ ps) text = go (begins_with p.spelling text) refl (front-found ps text)
  where
    go : (b : Bool) → begins_with p.spelling text ≡ b → take (length (spelling_in (first_of ps text))) text ≡ spelling_in (first_of ps text)
        → take (length (spelling_in (cond b (Some p) (first_of ps text)))) text ≡ spelling_in (cond b (Some p) (first_of ps text))
    go true e more = front-begins p.spelling text e
    go false e more = more

pub punctuator-front : (type_mode : Bool) (text : Text) → take (length (spelling_in (punctuator_in type_mode text))) text ≡ spelling_in (punctuator_in type_mode text)
punctuator-front type_mode [] = refl
punctuator-front type_mode (c ∷ cs) = go (angle_in type_mode c)
  where
    unless : (x : Bool) → take (length (spelling_in (longest x (c ∷ cs)))) (c ∷ cs) ≡ spelling_in (longest x (c ∷ cs))
    unless true = refl
    unless false = front-found punctuators (c ∷ cs)

    go : (o : Option Token) → take (length (spelling_in (alone_or o c cs))) (c ∷ cs) ≡ spelling_in (alone_or o c cs)
    go (Some t) = refl
    go None = unless (opens_fraction (c ∷ cs))

-- and its token holds no error, so that it is seen the same at every place

abbrev SeenEverywhere : ℕ → Option Punctuator → Type 0
SeenEverywhere n found = option_map token_view (token_in found) ≡ option_map (token_behind n) (option_map (λ p. plain_token p.token) found)

seen-plain : (n : ℕ) (found : Option Punctuator) → ((p : Punctuator) → found ≡ Some p → token_view p.token ≡ plain_token p.token) → SeenEverywhere n found
seen-plain n None plain = refl
seen-plain n (Some p) plain = ap (λ v. Some v) (plain p refl)

angle-plain : (c : ℕ) (t : Token) → angle c ≡ Some t → token_view t ≡ plain_token t
angle-plain c t e = go (c == 60) (c == 62) e
  where
    go : (x y : Bool) → cond x (Some (BinOp bin.Lt)) (cond y (Some (BinOp bin.Gt)) None) ≡ Some t → token_view t ≡ plain_token t
    go true y e = let same : BinOp bin.Lt ≡ t = cc in subst IsPlain same refl
    go false true e = let same : BinOp bin.Gt ≡ t = cc in subst IsPlain same refl
    go false false e = cc

seen-longest : (n : ℕ) (x : Bool) (text : Text) → SeenEverywhere n (longest x text)
seen-longest n true text = refl
seen-longest n false text = seen-plain n (first_of punctuators text) (first_of-plain text)

pub punctuator-seen : (n : ℕ) (type_mode : Bool) (text : Text) → SeenEverywhere n (punctuator_in type_mode text)
punctuator-seen n type_mode [] = refl
punctuator-seen n false (c ∷ cs) = seen-longest n (opens_fraction (c ∷ cs)) (c ∷ cs)
punctuator-seen n true (c ∷ cs) = go (angle c) refl
  where
    go : (o : Option Token) → angle c ≡ o → SeenEverywhere n (alone_or o c cs)
    go (Some t) e = seen-plain n (Some (spells (c ∷ []) t)) (λ p same. let token : t ≡ p.token = cc in subst IsPlain token (angle-plain c t e))
    go None e = seen-longest n (opens_fraction (c ∷ cs)) (c ∷ cs)

pub first_of-none-at : (text : Text) (c : ℕ) → slice_get text 0 ≡ Some c → is_lone c ≡ false → begins_more c ≡ false → first_of punctuators text ≡ None
first_of-none-at text c e alone more = ap (first_of punctuators) (first-cons text c e) ∙ first_of-none c (drop 1 text) alone more

-- what is found is not empty

spelled-found : (ps : List Punctuator) (text : Text) (p : Punctuator) → list_all is_spelled ps ≡ true → first_of ps text ≡ Some p → 0 < length p.spelling
spelled-found [] text p all e = cc
spelled-found (q ∷ ps) text p all e = go (begins_with q.spelling text) e (and_parts (is_spelled q) (list_all is_spelled ps) all) (spelled-found ps text p)
  where
    go : (b : Bool) → cond b (Some q) (first_of ps text) ≡ Some p → (is_spelled q ≡ true) × (list_all is_spelled ps ≡ true)
        → (list_all is_spelled ps ≡ true → first_of ps text ≡ Some p → 0 < length p.spelling) → 0 < length p.spelling
    go true e all more =
        let same : q ≡ p = cc in
        let some : 0 < length q.spelling = grind (arith, nat_tests, all.0) in
        rw same at some
    go false e all more = more all.1 e

pub punctuator-some : (type_mode : Bool) (text : Text) (p : Punctuator) → punctuator_in type_mode text ≡ Some p → 0 < length p.spelling
punctuator-some type_mode [] p e = cc
punctuator-some type_mode (c ∷ cs) p e = go (angle_in type_mode c) e
  where
    unless : (x : Bool) → longest x (c ∷ cs) ≡ Some p → 0 < length p.spelling
    unless true e = cc
    unless false e = spelled-found punctuators (c ∷ cs) p refl e

    go : (o : Option Token) → alone_or o c cs ≡ Some p → 0 < length p.spelling
    go (Some t) e =
        let same : spells (c ∷ []) t ≡ p = cc in
        let some : 0 < length (c ∷ []) = omega arith in
        subst (λ q. 0 < length q.spelling) same some
    go None e = unless (opens_fraction (c ∷ cs)) e
