-- What is attached are the comments that were found, those of the token before it first.
use Rattle.std.proofs.Common.{◌≡◌, ◌∙◌, ℕ, ◌≤◌, Bool, true, false, not, List, [], ◌∷◌, ◌++◌, map, Option, Some, None, inl, inr, ⊎_elim, refl, sym, subst, ap, arith}
use Rattle.std.specs.Prelude.{filter}
use Rattle.std.proofs.lemmas.Bool.{cases_Bool}
use Rattle.std.proofs.lemmas.List.{map-append}
use Rattle.ecma_place.specs.declared.comment.Comment.{Comment}
use Rattle.ecma_place.specs.declared.place.BytePos.{BytePos}
use Rattle.ecma_place.specs.declared.place.Span.{Span}
use Rattle.ecma_reads.specs.Comments.{LieBetween}
use Rattle.ecma_state.specs.Attachment.{attached, attachment, for_next, of_next, of_previous, waiting_for}
use Rattle.ecma_comments.specs.declared.attachment.Around.{Around}
use Rattle.ecma_comments.specs.declared.comments_buffer.BufferedComment.{BufferedComment}
use Rattle.ecma_comments.specs.declared.comments_buffer.BufferedCommentKind.TheVariants.{Trailing}
use Rattle.ecma_classes.specs.Classes.{AreApart, LieInOrder, is_apart, spans_of_comments}
use Rattle.ecma_classes.proofs.ApartLemmas.{apart-both, order-apart}
use Rattle.ecma_classes.proofs.MemberLemmas.{IsIn, all_of, at_all, filter-dropped, filter-kept, in_either, of_filter}
use Rattle.ecma_pieces.proofs.ElementPlaces.{own_span, own_spans}
use Rattle.ecma_pieces.proofs.ListLemmas.{in_map, of_map}

-- Spans that share no byte

pub apart_append : (xs ys : List Span) → AreApart xs → AreApart ys → ((x y : Span) → IsIn x xs → IsIn y ys → is_apart x y ≡ true) → AreApart (xs ++ ys)
apart_append [] ys first second across = second
apart_append (x ∷ xs) ys first second across = (
  all_of (is_apart x) (xs ++ ys) (λ z h. ⊎_elim (λ i. at_all (is_apart x) z xs first.0 i) (λ i. across x z (inl refl) i) (in_either z xs ys h)),
  apart_append xs ys first.1 second (λ a b i j. across a b (inr i) j),
)

-- Where comments lie that lie in order

pub more_between : (low middle high : ℕ) (xs ys : List (Comment × Bool)) → LieBetween low middle xs → LieBetween middle high ys → LieBetween low high (xs ++ ys)
more_between low middle high [] [] first second = omega (arith, first, second)
more_between low middle high [] (y ∷ ys) first second =
    let begins = second.0 in
    (omega (arith, first, begins), second.1, second.2)
more_between low middle high (x ∷ xs) ys first second =
    (first.0, first.1, more_between x.0.span.hi.0 middle high xs ys first.2 second)

whole_between : (low high : ℕ) (found : List (Comment × Bool)) → LieBetween low high found → low ≤ high
whole_between low high [] lie = lie
whole_between low high (c ∷ more) lie =
    let begins = lie.0 in
    let own = lie.1 in
    let behind = whole_between c.0.span.hi.0 high more lie.2 in
    omega (arith, begins, own, behind)

pub one_between : (low high : ℕ) (found : List (Comment × Bool)) → LieBetween low high found
    → (z : Span) → IsIn z (own_spans found) → (low ≤ z.lo.0) × (z.lo.0 ≤ z.hi.0) × (z.hi.0 ≤ high)
one_between low high [] lie z i = absurd i
one_between low high (c ∷ more) lie z (inl e) =
    subst (λ (s : Span). (low ≤ s.lo.0) × (s.lo.0 ≤ s.hi.0) × (s.hi.0 ≤ high)) (sym e) (lie.0, lie.1, whole_between c.0.span.hi.0 high more lie.2)
one_between low high (c ∷ more) lie z (inr i) =
    let begins = lie.0 in
    let own = lie.1 in
    let within = one_between c.0.span.hi.0 high more lie.2 z i in
    let after = within.0 in
    (omega (arith, begins, own, after), within.1, within.2)

in_order_between : (low high : ℕ) (found : List (Comment × Bool)) → LieBetween low high found → LieInOrder low (own_spans found)
in_order_between low high [] lie = tt
in_order_between low high (c ∷ more) lie = (lie.0, in_order_between c.0.span.hi.0 high more lie.2)

pub apart_between : (low high : ℕ) (found : List (Comment × Bool)) → LieBetween low high found → AreApart (own_spans found)
apart_between low high found lie =
    order-apart low (own_spans found) (in_order_between low high found lie) (λ z i. (one_between low high found lie z i).1)

-- The spans of what is attached

-- those of the token before it, and then the others
abbrev pub regrouped : List (Comment × Bool) → List Span
regrouped found = own_spans (filter (λ c. not c.1) found) ++ own_spans (filter (λ c. c.1) found)

waiting_same : (around : Around) (comment : Comment) → (for_next around comment).comment ≡ comment
waiting_same around comment = go around.next
  where
    go : (next : Option BytePos) → (waiting_for around next comment).comment ≡ comment
    go (Some next) = refl
    go None = refl

previous_spans : (around : Around) (found : List (Comment × Bool)) → spans_of_comments (map (λ c. attached Trailing around.end c.0) found) ≡ own_spans found
previous_spans around [] = refl
previous_spans around (c ∷ more) = ap (λ l. c.0.span ∷ l) (previous_spans around more)

next_spans : (around : Around) (found : List (Comment × Bool)) → spans_of_comments (map (λ c. for_next around c.0) found) ≡ own_spans found
next_spans around [] = refl
next_spans around (c ∷ more) =
    ap (λ (d : Comment). d.span ∷ spans_of_comments (map (λ c. for_next around c.0) more)) (waiting_same around c.0)
    ∙ ap (λ l. c.0.span ∷ l) (next_spans around more)

pub spans_more : (comments : List BufferedComment) (around : Around) (found : List (Comment × Bool))
    → spans_of_comments (comments ++ attachment around found) ≡ spans_of_comments comments ++ regrouped found
spans_more comments around found =
    let previous = filter (λ c. not c.1) found in
    let next = filter (λ c. c.1) found in
    map-append (λ (b : BufferedComment). b.comment.span) comments (attachment around found)
    ∙ ap (λ l. spans_of_comments comments ++ l) (map-append (λ (b : BufferedComment). b.comment.span) (of_previous around found) (of_next around found))
    ∙ ap (λ l. spans_of_comments comments ++ (l ++ spans_of_comments (of_next around found))) (previous_spans around previous)
    ∙ ap (λ l. spans_of_comments comments ++ (own_spans previous ++ l)) (next_spans around next)

-- each is one of those that were found
in_filtered : (pick : Comment × Bool → Bool) (found : List (Comment × Bool)) (z : Span) → IsIn z (own_spans (filter pick found)) → IsIn z (own_spans found)
in_filtered pick found z i =
    let (c, there, is) = of_map own_span z (filter pick found) i in
    subst (λ s. IsIn s (own_spans found)) (sym is) (in_map own_span c found (of_filter pick c found there).0)

pub of_regrouped : (found : List (Comment × Bool)) (z : Span) → IsIn z (regrouped found) → IsIn z (own_spans found)
of_regrouped found z i =
    ⊎_elim (in_filtered (λ c. not c.1) found z) (in_filtered (λ c. c.1) found z) (in_either z (own_spans (filter (λ c. not c.1) found)) (own_spans (filter (λ c. c.1) found)) i)

apart_filtered : (pick : Comment × Bool → Bool) (found : List (Comment × Bool)) → AreApart (own_spans found) → AreApart (own_spans (filter pick found))
apart_filtered pick [] apart = tt
apart_filtered pick (c ∷ more) apart = ⊎_elim
    (λ kept. subst (λ l. AreApart (own_spans l)) (sym (filter-kept pick c more kept))
    (all_of (is_apart (own_span c)) (own_spans (filter pick more)) (λ z i. at_all (is_apart (own_span c)) z (own_spans more) apart.0 (in_filtered pick more z i)), apart_filtered pick more apart.1))
    (λ dropped. subst (λ l. AreApart (own_spans l)) (sym (filter-dropped pick c more dropped)) (apart_filtered pick more apart.1))
    (cases_Bool (pick c))

-- two of them that are for different tokens
across_sides : (found : List (Comment × Bool)) → AreApart (own_spans found) → (a b : Comment × Bool) → IsIn a found → IsIn b found → not a.1 ≡ true → b.1 ≡ true
    → is_apart (own_span a) (own_span b) ≡ true
across_sides [] apart a b i j previous next = absurd i
across_sides (c ∷ more) apart a b (inl e) (inl f) previous next =
    let same : a.1 ≡ b.1 = ap (λ (d : Comment × Bool). d.1) (e ∙ sym f) in
    let never : false ≡ true = ap not (sym (same ∙ next)) ∙ previous in
    cc
across_sides (c ∷ more) apart a b (inl e) (inr j) previous next =
    subst (λ (d : Comment × Bool). is_apart (own_span d) (own_span b) ≡ true) (sym e) (at_all (is_apart (own_span c)) (own_span b) (own_spans more) apart.0 (in_map own_span b more j))
across_sides (c ∷ more) apart a b (inr i) (inl f) previous next =
    subst (λ (d : Comment × Bool). is_apart (own_span a) (own_span d) ≡ true) (sym f)
    (apart-both (own_span c) (own_span a) (at_all (is_apart (own_span c)) (own_span a) (own_spans more) apart.0 (in_map own_span a more i)))
across_sides (c ∷ more) apart a b (inr i) (inr j) previous next = across_sides more apart.1 a b i j previous next

pub apart_regrouped : (found : List (Comment × Bool)) → AreApart (own_spans found) → AreApart (regrouped found)
apart_regrouped found apart =
    apart_append (own_spans (filter (λ c. not c.1) found)) (own_spans (filter (λ c. c.1) found)) (apart_filtered (λ c. not c.1) found apart) (apart_filtered (λ c. c.1) found apart) (λ x y i j.
    let (a, first, is_a) = of_map own_span x (filter (λ c. not c.1) found) i in
    let (b, second, is_b) = of_map own_span y (filter (λ c. c.1) found) j in
    let one = of_filter (λ c. not c.1) a found first in
    let other = of_filter (λ c. c.1) b found second in
    subst (λ s. is_apart s y ≡ true) (sym is_a) (subst (λ s. is_apart (own_span a) s ≡ true) (sym is_b) (across_sides found apart a b one.0 other.0 one.1 other.1)))
