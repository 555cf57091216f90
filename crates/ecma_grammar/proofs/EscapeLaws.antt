-- An escape looks at no more than one character behind what is written of it, and a Unicode escape that is accepted at none.
use Rattle.std.proofs.Common.{◌≡◌, ℕ, zero, suc, ◌+◌, ◌-◌, ◌<◌, ◌≤◌, Bool, true, false, not, cond, ◌&&◌, ◌==◌, [], ◌∷◌, ◌++◌, drop, take, length, refl, ap, ◌∙◌, sym, arith, append_assoc, length-append, eqb-true, eq-eqb, ◌⊎◌, inl, inr}
use Rattle.std.proofs.lemmas.List.{length-take, take-take, take-append-drop}
use Rattle.std.proofs.lemmas.Bool.{cases_lt, and_parts}
use Rattle.std.specs.Prelude.{⊤, nat_lt}
use Rattle.std.specs.Str.Parse.{digits_value}
use Rattle.ecma_place.specs.Text.{Text}
use Rattle.ecma_place.specs.Character.{is_line_terminator}
use Rattle.ecma_grammar.specs.Fronts.{front, after, next_passes, next_is, is, begins_with}
use Rattle.ecma_grammar.specs.Escapes.{Use, InString, InTemplate, InWord, Escape, Accepted, Refused, escape_spelling, escape, is_hex_digit, is_surrogate, is_octal_digit, code_escape, four_escape, braced_escape, unicode_escape, hex_escape, octal_digits, octal_escape, legacy_escape, line_end, escape_of, lead, Lead, UnicodeLetter, HexLetter, OctalDigit, LineEnd, Single, escape_behind, EscapeIsFront, EscapeIsSettled}
use Rattle.ecma_grammar.proofs.Fronts.{front_after}
use Rattle.ecma_grammar.proofs.Agreement.{Agree, agree_less, agree_behind, next_agree, drop_agree, take_front, front_agree, after_agree, take_front_agree}

pub begins_is : (k : ℕ) (text : Text) → next_is k text ≡ true → text ≡ k ∷ drop 1 text
begins_is k [] e = cc
begins_is k (c ∷ cs) e = ap (λ x. x ∷ cs) (eqb-true c k e)

abbrev pub escape_size : Escape → ℕ
escape_size e = length (escape_spelling e)

abbrev pub is_accepted_escape : Escape → Bool
is_accepted_escape (Accepted spelling value faults) = true
is_accepted_escape (Refused spelling error) = false

-- sizes

code_size : (within : Use) (spelling : Text) (code : ℕ) → escape_size (code_escape within spelling code) ≡ length spelling
code_size within spelling code = go (is_surrogate code) refl
  where
    go : (x : Bool) → is_surrogate code ≡ x → escape_size (code_escape within spelling code) ≡ length spelling
    go true e = rw e
    go false e = rw e

four_size : (within : Use) (digits : Text) → escape_size (four_escape within digits) ≡ 2 + length digits
four_size within digits = go (length digits == 4) refl
  where
    go : (x : Bool) → (length digits == 4) ≡ x → escape_size (four_escape within digits) ≡ 2 + length digits
    go true e = rw e (omega (arith, code_size within (92 ∷ (117 ∷ digits)) (digits_value 16 digits)))
    go false e = rw e (omega arith)

four_accepted : (within : Use) (digits : Text) → is_accepted_escape (four_escape within digits) ≡ true → length digits ≡ 4
four_accepted within digits = go (length digits == 4) refl
  where
    go : (x : Bool) → (length digits == 4) ≡ x → is_accepted_escape (four_escape within digits) ≡ true → length digits ≡ 4
    go true e h = eqb-true (length digits) 4 e
    go false e h = cc (rw e at h)

braced_size : (within : Use) (digits rest : Text) → 3 + length digits ≤ escape_size (braced_escape within digits rest)
braced_size within [] rest = omega arith
braced_size within (d ∷ ds) rest = go (nat_lt 0x10_FFFF (digits_value 16 (d ∷ ds))) (next_is 125 rest) refl refl
  where
    go : (x y : Bool) → nat_lt 0x10_FFFF (digits_value 16 (d ∷ ds)) ≡ x → next_is 125 rest ≡ y → 3 + length (d ∷ ds) ≤ escape_size (braced_escape within (d ∷ ds) rest)
    go true y e f = rw e (omega arith)
    go false true e f =
        rw (e, f) (omega (arith, code_size within (92 ∷ (117 ∷ (123 ∷ (d ∷ (ds ++ (125 ∷ [])))))) (digits_value 16 (d ∷ ds)), length-append ds (125 ∷ [])))
    go false false e f = rw (e, f) (omega arith)

braced_accepted : (within : Use) (digits rest : Text) → is_accepted_escape (braced_escape within digits rest) ≡ true → 4 + length digits ≡ escape_size (braced_escape within digits rest)
braced_accepted within [] rest h = cc
braced_accepted within (d ∷ ds) rest h = go (nat_lt 0x10_FFFF (digits_value 16 (d ∷ ds))) (next_is 125 rest) refl refl h
  where
    go : (x y : Bool) → nat_lt 0x10_FFFF (digits_value 16 (d ∷ ds)) ≡ x → next_is 125 rest ≡ y → is_accepted_escape (braced_escape within (d ∷ ds) rest) ≡ true
        → 4 + length (d ∷ ds) ≡ escape_size (braced_escape within (d ∷ ds) rest)
    go true y e f h = cc (rw e at h)
    go false true e f h =
        rw (e, f) (omega (arith, code_size within (92 ∷ (117 ∷ (123 ∷ (d ∷ (ds ++ (125 ∷ [])))))) (digits_value 16 (d ∷ ds)), length-append ds (125 ∷ [])))
    go false false e f h = cc (rw (e, f) at h)

-- agreement

pub braced_rest : (within : Use) (digits r x : Text) → next_is 125 r ≡ next_is 125 x → braced_escape within digits r ≡ braced_escape within digits x
braced_rest within [] r x e = refl
braced_rest within (d ∷ ds) r x e = rw e

braced_agree : (within : Use) (n : ℕ) (t u : Text) → length (front is_hex_digit t) < n → Agree n t u
    → braced_escape within (front is_hex_digit t) (after is_hex_digit t) ≡ braced_escape within (front is_hex_digit u) (after is_hex_digit u)
braced_agree within n t u h a =
    braced_rest within (front is_hex_digit t) (after is_hex_digit t) (after is_hex_digit u) (after_agree n is_hex_digit (is 125) t u h a)
    ∙ ap (λ l. braced_escape within l (after is_hex_digit u)) (front_agree n is_hex_digit t u h a)

-- how many characters behind `\u` settle the escape
abbrev Settles : ℕ → Text → Type 0
Settles n t =
    (next_is 123 t ≡ true → 1 + length (front is_hex_digit (drop 1 t)) < n)
    × (next_is 123 t ≡ false → (4 ≤ n) ⊎ (length (take 4 (front is_hex_digit t)) < n))

unicode_agree : (within : Use) (n : ℕ) (t u : Text) → Settles (suc n) t → Agree (suc n) t u → unicode_escape within t ≡ unicode_escape within u
unicode_agree within n t u h a = go (next_is 123 t) refl (next_agree n (is 123) t u a)
  where
    four : (4 ≤ suc n) ⊎ (length (take 4 (front is_hex_digit t)) < suc n) → take 4 (front is_hex_digit t) ≡ take 4 (front is_hex_digit u)
    four (inl room) = take_front 4 is_hex_digit t u (agree_less 4 (suc n) t u room a)
    four (inr less) = take_front_agree (suc n) 4 is_hex_digit t u less a

    go : (x : Bool) → next_is 123 t ≡ x → next_is 123 t ≡ next_is 123 u → unicode_escape within t ≡ unicode_escape within u
    go true e same =
        let f : next_is 123 u ≡ true = sym same ∙ e in
        rw (e, f) (braced_agree within n (drop 1 t) (drop 1 u) (omega (arith, h.0 e)) (drop_agree n t u a))
    go false e same =
        let f : next_is 123 u ≡ false = sym same ∙ e in
        rw (e, f) (ap (four_escape within) (four (h.1 e)))

-- an escape is settled by one character more than it reads
unicode_settles : (within : Use) (t : Text) → Settles (escape_size (unicode_escape within t) - 1) t
unicode_settles within t = (
  λ e. rw e (omega (arith, braced_size within (front is_hex_digit (drop 1 t)) (after is_hex_digit (drop 1 t)))),
  λ e. inr (rw e (omega (arith, four_size within (take 4 (front is_hex_digit t))))),
)

-- one that is accepted by those that it reads
unicode_accepted_settles : (within : Use) (t : Text) → is_accepted_escape (unicode_escape within t) ≡ true → Settles (escape_size (unicode_escape within t) - 2) t
unicode_accepted_settles within t h = (
  λ e. rw e (omega (arith, braced_accepted within (front is_hex_digit (drop 1 t)) (after is_hex_digit (drop 1 t)) (rw e at h))),
  λ e. inl (rw e (omega (arith, four_size within (take 4 (front is_hex_digit t)), four_accepted within (take 4 (front is_hex_digit t)) (rw e at h)))),
)

settles_more : (m n : ℕ) (t : Text) → m ≤ n → Settles m t → Settles n t
settles_more m n t h s = (
  λ e. omega (arith, s.0 e),
  λ e. elim (s.1 e) [ inl room ↦ inl (omega arith) | inr less ↦ inr (omega arith) ],
)

pub unicode_size : (within : Use) (t : Text) → 2 ≤ escape_size (unicode_escape within t)
unicode_size within t = go (next_is 123 t) refl
  where
    go : (x : Bool) → next_is 123 t ≡ x → 2 ≤ escape_size (unicode_escape within t)
    go true e = rw e (omega (arith, braced_size within (front is_hex_digit (drop 1 t)) (after is_hex_digit (drop 1 t))))
    go false e = rw e (omega (arith, four_size within (take 4 (front is_hex_digit t))))

-- a Unicode escape is settled by one character more than it reads
pub unicode_found_again : (within : Use) (n : ℕ) (t u : Text) → escape_size (unicode_escape within t) ≤ suc n → Agree n t u → unicode_escape within t ≡ unicode_escape within u
unicode_found_again within zero t u h a = absurd (omega (arith, unicode_size within t))
unicode_found_again within (suc n) t u h a = unicode_agree within n t u (settles_more (escape_size (unicode_escape within t) - 1) (suc n) t (omega arith) (unicode_settles within t)) a

-- and one that is accepted by those that it reads
pub unicode_accepted_again : (within : Use) (n : ℕ) (t u : Text) → is_accepted_escape (unicode_escape within t) ≡ true → escape_size (unicode_escape within t) ≤ suc (suc (suc n))
    → Agree (suc n) t u → unicode_escape within t ≡ unicode_escape within u
unicode_accepted_again within n t u h room a =
    unicode_agree within n t u (settles_more (escape_size (unicode_escape within t) - 2) (suc n) t (omega arith) (unicode_accepted_settles within t h)) a

pub hex_size : (digits : Text) → escape_size (hex_escape digits) ≡ 2 + length digits
hex_size digits = go (length digits == 2) refl
  where
    go : (x : Bool) → (length digits == 2) ≡ x → escape_size (hex_escape digits) ≡ 2 + length digits
    go true e = rw e (omega arith)
    go false e = rw e (omega arith)

-- the first three octal digits settle an octal escape
three_again : (n : ℕ) (t u : Text) → length (take 2 (front is_octal_digit t)) ≤ n → Agree (suc n) t u → take 3 (front is_octal_digit t) ≡ take 3 (front is_octal_digit u)
three_again n t u h a = elim (cases_lt n 2) [
  | inl short ↦ take_front_agree (suc n) 3 is_octal_digit t u (omega (arith, length-take 2 (front is_octal_digit t), length-take 3 (front is_octal_digit t))) a
  | inr long ↦ take_front 3 is_octal_digit t u (agree_less 3 (suc n) t u (omega arith) a)
]

pub octal_length : (t : Text) → length (take 2 (front is_octal_digit t)) ≤ length (octal_digits t)
octal_length t = go (nat_lt (digits_value 8 (take 3 (front is_octal_digit t))) 256) refl
  where
    go : (x : Bool) → nat_lt (digits_value 8 (take 3 (front is_octal_digit t))) 256 ≡ x → length (take 2 (front is_octal_digit t)) ≤ length (octal_digits t)
    go true e = rw e (omega (arith, length-take 2 (front is_octal_digit t), length-take 3 (front is_octal_digit t)))
    go false e = rw e (omega arith)

octal_digits_again : (t u : Text) → take 3 (front is_octal_digit t) ≡ take 3 (front is_octal_digit u) → octal_digits t ≡ octal_digits u
octal_digits_again t u e =
    let two : take 2 (front is_octal_digit t) ≡ take 2 (front is_octal_digit u) =
    sym (take-take 2 3 (front is_octal_digit t) (omega arith)) ∙ ap (take 2) e ∙ take-take 2 3 (front is_octal_digit u) (omega arith) in
    rw (e, two)

legacy_again : (within : Use) (n c : ℕ) (cs ds : Text) → escape_size (legacy_escape within c (octal_digits (c ∷ cs))) ≤ suc n → Agree (suc n) (c ∷ cs) (c ∷ ds)
    → legacy_escape within c (octal_digits (c ∷ cs)) ≡ legacy_escape within c (octal_digits (c ∷ ds))
legacy_again InTemplate n c cs ds h a = refl
legacy_again InString n c cs ds h a =
    ap (legacy_escape InString c) (octal_digits_again (c ∷ cs) (c ∷ ds) (three_again n (c ∷ cs) (c ∷ ds) (omega (arith, octal_length (c ∷ cs))) a))
legacy_again InWord n c cs ds h a =
    ap (legacy_escape InWord c) (octal_digits_again (c ∷ cs) (c ∷ ds) (three_again n (c ∷ cs) (c ∷ ds) (omega (arith, octal_length (c ∷ cs))) a))

null_room : (within : Use) (cs : Text) → 2 ≤ escape_size (legacy_escape within 48 (octal_digits (48 ∷ cs)))
null_room InTemplate cs = omega arith
null_room InString cs = omega (arith, octal_length (48 ∷ cs))
null_room InWord cs = omega (arith, octal_length (48 ∷ cs))

null_again : (within : Use) (n : ℕ) (cs ds : Text) → escape_size (octal_escape within 48 cs) ≤ suc n → Agree (suc n) (48 ∷ cs) (48 ∷ ds)
    → octal_escape within 48 cs ≡ octal_escape within 48 ds
null_again within n cs ds h a = go (next_passes is_octal_digit cs) n refl h a
  where
    go : (x : Bool) (n : ℕ) → next_passes is_octal_digit cs ≡ x → escape_size (octal_escape within 48 cs) ≤ suc n → Agree (suc n) (48 ∷ cs) (48 ∷ ds)
        → octal_escape within 48 cs ≡ octal_escape within 48 ds
    go true zero e h a =
        let room : escape_size (legacy_escape within 48 (octal_digits (48 ∷ cs))) ≤ 1 = rw e at h in
        absurd (omega (arith, null_room within cs))
    go true (suc n) e h a =
        let room : escape_size (legacy_escape within 48 (octal_digits (48 ∷ cs))) ≤ suc (suc n) = rw e at h in
        let f : next_passes is_octal_digit ds ≡ true = sym (next_agree n is_octal_digit cs ds (agree_behind (suc n) 48 48 cs ds a)) ∙ e in
        rw (e, f) (legacy_again within (suc n) 48 cs ds room a)
    go false zero e h a = let room : 2 ≤ 1 = rw e at h in absurd (omega arith)
    go false (suc n) e h a =
        let f : next_passes is_octal_digit ds ≡ false = sym (next_agree n is_octal_digit cs ds (agree_behind (suc n) 48 48 cs ds a)) ∙ e in
        rw (e, f)

octal_again : (within : Use) (n c : ℕ) (cs ds : Text) → escape_size (octal_escape within c cs) ≤ suc n → Agree (suc n) (c ∷ cs) (c ∷ ds)
    → octal_escape within c cs ≡ octal_escape within c ds
octal_again within n c cs ds h a = go (c == 48) refl
  where
    go : (x : Bool) → (c == 48) ≡ x → octal_escape within c cs ≡ octal_escape within c ds
    go true e =
        let same : c ≡ 48 = eqb-true c 48 e in
        rw same (null_again within n cs ds (rw same at h) (rw same at a))
    go false e = rw e (legacy_again within n c cs ds (let room : escape_size (legacy_escape within c (octal_digits (c ∷ cs))) ≤ suc n = rw e at h in room) a)

pub line_length : (c : ℕ) (cs : Text) → 1 ≤ length (line_end c cs)
line_length c cs = go (c == 13 && next_is 10 cs) refl
  where
    go : (x : Bool) → (c == 13 && next_is 10 cs) ≡ x → 1 ≤ length (line_end c cs)
    go true e = rw e (omega arith)
    go false e = rw e (omega arith)

line_again : (n c : ℕ) (cs ds : Text) → suc (length (line_end c cs)) ≤ suc n → Agree n cs ds → line_end c cs ≡ line_end c ds
line_again zero c cs ds h a = absurd (omega (arith, line_length c cs))
line_again (suc n) c cs ds h a = rw (next_agree n (is 10) cs ds a)

of_again : (within : Use) (o : Lead) (n c : ℕ) (cs ds : Text) → escape_size (escape_of within o c cs) ≤ suc n → Agree (suc n) (c ∷ cs) (c ∷ ds)
    → escape_of within o c cs ≡ escape_of within o c ds
of_again InString UnicodeLetter n c cs ds h a = unicode_found_again InString n cs ds h (agree_behind n c c cs ds a)
of_again InString HexLetter n c cs ds h a =
    ap hex_escape (take_front_agree n 2 is_hex_digit cs ds (omega (arith, hex_size (take 2 (front is_hex_digit cs)))) (agree_behind n c c cs ds a))
of_again InString OctalDigit n c cs ds h a = octal_again InString n c cs ds h a
of_again InString LineEnd n c cs ds h a = ap (λ l. Accepted (92 ∷ l) [] []) (line_again n c cs ds h (agree_behind n c c cs ds a))
of_again InString Single n c cs ds h a = refl
of_again InTemplate UnicodeLetter n c cs ds h a = unicode_found_again InTemplate n cs ds h (agree_behind n c c cs ds a)
of_again InTemplate HexLetter n c cs ds h a =
    ap hex_escape (take_front_agree n 2 is_hex_digit cs ds (omega (arith, hex_size (take 2 (front is_hex_digit cs)))) (agree_behind n c c cs ds a))
of_again InTemplate OctalDigit n c cs ds h a = octal_again InTemplate n c cs ds h a
of_again InTemplate LineEnd n c cs ds h a = ap (λ l. Accepted (92 ∷ l) [] []) (line_again n c cs ds h (agree_behind n c c cs ds a))
of_again InTemplate Single n c cs ds h a = refl
of_again InWord UnicodeLetter n c cs ds h a = unicode_found_again InWord n cs ds h (agree_behind n c c cs ds a)
of_again InWord HexLetter n c cs ds h a = refl
of_again InWord OctalDigit n c cs ds h a = refl
of_again InWord LineEnd n c cs ds h a = refl
of_again InWord Single n c cs ds h a = refl

-- an escape is settled by one character more than it reads
pub escape_again : (within : Use) (n : ℕ) (t u : Text) → escape_size (escape_behind within t) ≤ suc n → Agree (suc n) t u → escape_behind within t ≡ escape_behind within u
escape_again within n [] [] h a = refl
escape_again within n [] (d ∷ ds) h a = let e = a.same in cc
escape_again within n (c ∷ cs) [] h a = let e = a.same in cc
escape_again within n (c ∷ cs) (d ∷ ds) h a =
    let e = a.same in
    let same : d ≡ c = cc in
    rw same (of_again within (lead c) n c cs ds h (rw same at a))

-- what is written of an escape is a front of the text

abbrev pub IsFrontOf : Text → Text → Type 0
IsFrontOf part text = (rest : Text) × (part ++ rest ≡ text)

pub take_front_of : (n : ℕ) (p : ℕ → Bool) (t : Text) → IsFrontOf (take n (front p t)) t
take_front_of n p t =
    let run = front p t in
    (drop n run ++ after p t, sym (append_assoc (take n run) (drop n run) (after p t)) ∙ ap (λ l. l ++ after p t) (take-append-drop n run) ∙ front_after p t)

code_front : (within : Use) (spelling text : Text) (code : ℕ) → IsFrontOf spelling text → IsFrontOf (escape_spelling (code_escape within spelling code)) text
code_front within spelling text code f = go (is_surrogate code) refl
  where
    go : (x : Bool) → is_surrogate code ≡ x → IsFrontOf (escape_spelling (code_escape within spelling code)) text
    go true e = rw e f
    go false e = rw e f

-- a front behind the same characters
pub behind_same : (a part text : Text) → IsFrontOf part text → IsFrontOf (a ++ part) (a ++ text)
behind_same a part text f = (f.0, append_assoc a part f.0 ∙ ap (λ l. a ++ l) f.1)

braced_front : (within : Use) (digits rest : Text) → IsFrontOf (escape_spelling (braced_escape within digits rest)) (92 ∷ (117 ∷ (123 ∷ (digits ++ rest))))
braced_front within [] rest = (rest, refl)
braced_front within (d ∷ ds) rest = go (nat_lt 0x10_FFFF (digits_value 16 (d ∷ ds))) (next_is 125 rest) refl refl
  where
    go : (x y : Bool) → nat_lt 0x10_FFFF (digits_value 16 (d ∷ ds)) ≡ x → next_is 125 rest ≡ y
        → IsFrontOf (escape_spelling (braced_escape within (d ∷ ds) rest)) (92 ∷ (117 ∷ (123 ∷ ((d ∷ ds) ++ rest))))
    go true y e f = rw e (rest, refl)
    go false true e f =
        let inner : IsFrontOf (ds ++ (125 ∷ [])) (ds ++ rest) = (drop 1 rest, rw append_assoc (ap (λ l. ds ++ l) (sym (begins_is 125 rest f)))) in
        rw (e, f)
        (code_front within (92 ∷ (117 ∷ (123 ∷ (d ∷ (ds ++ (125 ∷ [])))))) (92 ∷ (117 ∷ (123 ∷ (d ∷ (ds ++ rest))))) (digits_value 16 (d ∷ ds))
        (behind_same (92 ∷ (117 ∷ (123 ∷ (d ∷ [])))) (ds ++ (125 ∷ [])) (ds ++ rest) inner))
    go false false e f = rw (e, f) (rest, refl)

four_front : (within : Use) (digits text : Text) → IsFrontOf digits text → IsFrontOf (escape_spelling (four_escape within digits)) (92 ∷ (117 ∷ text))
four_front within digits text f = go (length digits == 4) refl
  where
    go : (x : Bool) → (length digits == 4) ≡ x → IsFrontOf (escape_spelling (four_escape within digits)) (92 ∷ (117 ∷ text))
    go true e = rw e (code_front within (92 ∷ (117 ∷ digits)) (92 ∷ (117 ∷ text)) (digits_value 16 digits) (behind_same (92 ∷ (117 ∷ [])) digits text f))
    go false e = rw e (behind_same (92 ∷ (117 ∷ [])) digits text f)

pub unicode_front : (within : Use) (t : Text) → IsFrontOf (escape_spelling (unicode_escape within t)) (92 ∷ (117 ∷ t))
unicode_front within t = go (next_is 123 t) refl
  where
    go : (x : Bool) → next_is 123 t ≡ x → IsFrontOf (escape_spelling (unicode_escape within t)) (92 ∷ (117 ∷ t))
    go true e =
        let whole : 123 ∷ (front is_hex_digit (drop 1 t) ++ after is_hex_digit (drop 1 t)) ≡ t = ap (λ l. 123 ∷ l) (front_after is_hex_digit (drop 1 t)) ∙ sym (begins_is 123 t e) in
        let b = braced_front within (front is_hex_digit (drop 1 t)) (after is_hex_digit (drop 1 t)) in
        rw e (b.0, b.1 ∙ ap (λ l. 92 ∷ (117 ∷ l)) whole)
    go false e = rw e (four_front within (take 4 (front is_hex_digit t)) t (take_front_of 4 is_hex_digit t))

octal_front : (t : Text) → IsFrontOf (octal_digits t) t
octal_front t = go (nat_lt (digits_value 8 (take 3 (front is_octal_digit t))) 256) refl
  where
    go : (x : Bool) → nat_lt (digits_value 8 (take 3 (front is_octal_digit t))) 256 ≡ x → IsFrontOf (octal_digits t) t
    go true e = rw e (take_front_of 3 is_octal_digit t)
    go false e = rw e (take_front_of 2 is_octal_digit t)

legacy_front : (within : Use) (c : ℕ) (cs : Text) → IsFrontOf (escape_spelling (legacy_escape within c (octal_digits (c ∷ cs)))) (92 ∷ (c ∷ cs))
legacy_front InTemplate c cs = (cs, refl)
legacy_front InString c cs = behind_same (92 ∷ []) (octal_digits (c ∷ cs)) (c ∷ cs) (octal_front (c ∷ cs))
legacy_front InWord c cs = behind_same (92 ∷ []) (octal_digits (c ∷ cs)) (c ∷ cs) (octal_front (c ∷ cs))

octal_escape_front : (within : Use) (c : ℕ) (cs : Text) → IsFrontOf (escape_spelling (octal_escape within c cs)) (92 ∷ (c ∷ cs))
octal_escape_front within c cs = go (c == 48) (not (next_passes is_octal_digit cs)) refl refl
  where
    go : (x y : Bool) → (c == 48) ≡ x → not (next_passes is_octal_digit cs) ≡ y → IsFrontOf (escape_spelling (octal_escape within c cs)) (92 ∷ (c ∷ cs))
    go true true e f =
        let same : 48 ≡ c = sym (eqb-true c 48 e) in
        rw (e, f) (cs, ap (λ x. 92 ∷ (x ∷ cs)) same)
    go true false e f = rw (e, f) (legacy_front within c cs)
    go false y e f = rw e (legacy_front within c cs)

pub line_end_front : (c : ℕ) (cs : Text) → IsFrontOf (line_end c cs) (c ∷ cs)
line_end_front c cs = go (c == 13 && next_is 10 cs) refl
  where
    go : (x : Bool) → (c == 13 && next_is 10 cs) ≡ x → IsFrontOf (line_end c cs) (c ∷ cs)
    go true e =
        let (here, more) = and_parts (c == 13) (next_is 10 cs) e in
        let same : 13 ≡ c = sym (eqb-true c 13 here) in
        rw e (drop 1 cs, ap (λ l. 13 ∷ l) (sym (begins_is 10 cs more)) ∙ ap (λ x. x ∷ cs) same)
    go false e = rw e (cs, refl)

pub hex_front : (digits text : Text) → IsFrontOf digits text → IsFrontOf (escape_spelling (hex_escape digits)) (92 ∷ (120 ∷ text))
hex_front digits text f = go (length digits == 2) refl
  where
    go : (x : Bool) → (length digits == 2) ≡ x → IsFrontOf (escape_spelling (hex_escape digits)) (92 ∷ (120 ∷ text))
    go true e = rw e (behind_same (92 ∷ (120 ∷ [])) digits text f)
    go false e = rw e (behind_same (92 ∷ (120 ∷ [])) digits text f)

-- the letter that an escape names
abbrev pub Names : Lead → ℕ → Type 0
Names UnicodeLetter c = 117 ≡ c
Names HexLetter c = 120 ≡ c
Names o c = ⊤

pub lead_names : (c : ℕ) → Names (lead c) c
lead_names c = go (c == 117) (c == 120) (is_octal_digit c) (is_line_terminator c) refl refl
  where
    go : (x y z w : Bool) → (c == 117) ≡ x → (c == 120) ≡ y → Names (cond x UnicodeLetter (cond y HexLetter (cond z OctalDigit (cond w LineEnd Single)))) c
    go true y z w e f = sym (eqb-true c 117 e)
    go false true z w e f = sym (eqb-true c 120 f)
    go false false true w e f = tt
    go false false false true e f = tt
    go false false false false e f = tt

letter_front : (within : Use) (c : ℕ) (cs : Text) → 117 ≡ c → IsFrontOf (escape_spelling (unicode_escape within cs)) (92 ∷ (c ∷ cs))
letter_front within c cs h = let f = unicode_front within cs in (f.0, f.1 ∙ ap (λ x. 92 ∷ (x ∷ cs)) h)

hex_letter_front : (c : ℕ) (cs : Text) → 120 ≡ c → IsFrontOf (escape_spelling (hex_escape (take 2 (front is_hex_digit cs)))) (92 ∷ (c ∷ cs))
hex_letter_front c cs h =
    let f = hex_front (take 2 (front is_hex_digit cs)) cs (take_front_of 2 is_hex_digit cs) in
    (f.0, f.1 ∙ ap (λ x. 92 ∷ (x ∷ cs)) h)

of_front : (within : Use) (o : Lead) (c : ℕ) (cs : Text) → Names o c → IsFrontOf (escape_spelling (escape_of within o c cs)) (92 ∷ (c ∷ cs))
of_front InString UnicodeLetter c cs h = letter_front InString c cs h
of_front InString HexLetter c cs h = hex_letter_front c cs h
of_front InString OctalDigit c cs h = octal_escape_front InString c cs
of_front InString LineEnd c cs h = behind_same (92 ∷ []) (line_end c cs) (c ∷ cs) (line_end_front c cs)
of_front InString Single c cs h = (cs, refl)
of_front InTemplate UnicodeLetter c cs h = letter_front InTemplate c cs h
of_front InTemplate HexLetter c cs h = hex_letter_front c cs h
of_front InTemplate OctalDigit c cs h = octal_escape_front InTemplate c cs
of_front InTemplate LineEnd c cs h = behind_same (92 ∷ []) (line_end c cs) (c ∷ cs) (line_end_front c cs)
of_front InTemplate Single c cs h = (cs, refl)
of_front InWord UnicodeLetter c cs h = letter_front InWord c cs h
of_front InWord HexLetter c cs h = (c ∷ cs, refl)
of_front InWord OctalDigit c cs h = (c ∷ cs, refl)
of_front InWord LineEnd c cs h = (c ∷ cs, refl)
of_front InWord Single c cs h = (c ∷ cs, refl)

-- what is written of an escape is a front of the text at its backslash
pub escape_front : (within : Use) (t : Text) → IsFrontOf (escape_spelling (escape_behind within t)) (92 ∷ t)
escape_front InString [] = ([], refl)
escape_front InTemplate [] = ([], refl)
escape_front InWord [] = ([], refl)
escape_front within (c ∷ cs) = of_front within (lead c) c cs (lead_names c)

legacy_some : (within : Use) (c : ℕ) (digits : Text) → 0 < escape_size (legacy_escape within c digits)
legacy_some InTemplate c digits = omega arith
legacy_some InString c digits = omega arith
legacy_some InWord c digits = omega arith

octal_some : (within : Use) (c : ℕ) (cs : Text) → 0 < escape_size (octal_escape within c cs)
octal_some within c cs = go (c == 48 && not (next_passes is_octal_digit cs)) refl
  where
    go : (x : Bool) → (c == 48 && not (next_passes is_octal_digit cs)) ≡ x → 0 < escape_size (octal_escape within c cs)
    go true e = rw e (omega arith)
    go false e = rw e (legacy_some within c (octal_digits (c ∷ cs)))

of_some : (within : Use) (o : Lead) (c : ℕ) (cs : Text) → 0 < escape_size (escape_of within o c cs)
of_some InString UnicodeLetter c cs = omega (arith, unicode_size InString cs)
of_some InString HexLetter c cs = omega (arith, hex_size (take 2 (front is_hex_digit cs)))
of_some InString OctalDigit c cs = octal_some InString c cs
of_some InString LineEnd c cs = omega arith
of_some InString Single c cs = omega arith
of_some InTemplate UnicodeLetter c cs = omega (arith, unicode_size InTemplate cs)
of_some InTemplate HexLetter c cs = omega (arith, hex_size (take 2 (front is_hex_digit cs)))
of_some InTemplate OctalDigit c cs = octal_some InTemplate c cs
of_some InTemplate LineEnd c cs = omega arith
of_some InTemplate Single c cs = omega arith
of_some InWord UnicodeLetter c cs = omega (arith, unicode_size InWord cs)
of_some InWord HexLetter c cs = omega arith
of_some InWord OctalDigit c cs = omega arith
of_some InWord LineEnd c cs = omega arith
of_some InWord Single c cs = omega arith

-- and not empty
pub escape_some : (within : Use) (t : Text) → 0 < escape_size (escape_behind within t)
escape_some InString [] = omega arith
escape_some InTemplate [] = omega arith
escape_some InWord [] = omega arith
escape_some within (c ∷ cs) = of_some within (lead c) c cs

pub accepted_size : (within : Use) (t : Text) → is_accepted_escape (unicode_escape within t) ≡ true → 4 ≤ escape_size (unicode_escape within t)
accepted_size within t h = go (next_is 123 t) refl
  where
    go : (x : Bool) → next_is 123 t ≡ x → 4 ≤ escape_size (unicode_escape within t)
    go true e = rw e (omega (arith, braced_accepted within (front is_hex_digit (drop 1 t)) (after is_hex_digit (drop 1 t)) (rw e at h)))
    go false e = rw e (omega (arith, four_size within (take 4 (front is_hex_digit t)), four_accepted within (take 4 (front is_hex_digit t)) (rw e at h)))

-- The laws

pub front_begins : (part text : Text) → IsFrontOf part text → begins_with part text ≡ true
front_begins [] text f = refl
front_begins (x ∷ xs) [] f = let e = f.1 in cc
front_begins (x ∷ xs) (c ∷ cs) f =
    let e = f.1 in
    let here : c ≡ x = cc in
    let behind : xs ++ f.0 ≡ cs = cc in
    rw (eq-eqb c x here) (front_begins xs cs (f.0, behind))

pub escape_is_front : EscapeIsFront
escape_is_front within text = front_begins (escape_spelling (escape_behind within text)) (92 ∷ text) (escape_front within text)

-- a text that is cut behind its first character
settled : (within : Use) (n : ℕ) (text other : Text) → escape_size (escape within text) ≡ n → take (1 + n) text ≡ take (1 + n) other → escape within text ≡ escape within other
settled within zero text other size e = absurd (omega (arith, size, escape_some within (drop 1 text)))
settled within (suc n) text other size e =
    let shift : 1 + suc n ≡ suc (suc n) = omega arith in
    escape_again within n (drop 1 text) (drop 1 other) (omega (arith, size)) (drop_agree (suc n) text other (record { same = rw shift at e }))

pub escape_is_settled : EscapeIsSettled
escape_is_settled within text other e = settled within (escape_size (escape within text)) text other refl e
