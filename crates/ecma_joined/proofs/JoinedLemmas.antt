-- Joining one more token.
use Rattle.std.proofs.Common.{◌≡◌, ◌∙◌, ℕ, ◌+◌, ◌<◌, Bool, true, false, ◌||◌, List, [], ◌∷◌, ◌++◌, Option, Some, None, append-nil, append_assoc, encode_utf8_all, get_or, length, map, take, refl, sym, ap}
use Rattle.std.proofs.lemmas.List.{map-append, take_more}
use Rattle.std.proofs.lemmas.Str.{encodes-append}
use Rattle.clean_runs.specs.Parts.{joint}
use Rattle.ecma_place.specs.Cursor.{Cursor}
use Rattle.ecma_place.specs.Text.{Text, slice_between}
use Rattle.ecma_state.specs.declared.kept.Kept.{Kept}
use Rattle.ecma_token.specs.declared.kind.TokenKind.{TokenKind}
use Rattle.ecma_clean.specs.Canonical.{Own, between, canonical_behind, canonical_of, is_template_text, own_in}
use Rattle.ecma_joined.specs.Joined.{between_behind, last_kind}

-- what stands before a token without its place
abbrev before_own : Option Own → Own → Text
before_own None u = []
before_own (Some p) u = between p u

abbrev last_own : List Own → Option Own
last_own [] = None
last_own (u ∷ []) = Some u
last_own (u ∷ (v ∷ us)) = last_own (v ∷ us)

behind-more : (p : Own) (us : List Own) (u : Own) → canonical_behind p (us ++ u ∷ []) ≡ canonical_behind p us ++ (before_own (last_own (p ∷ us)) u ++ u.text)
behind-more p [] u = ap (λ t. between p u ++ t) (append-nil u.text)
behind-more p (v ∷ us) u =
    let more : Text = before_own (last_own (v ∷ us)) u ++ u.text in
    ap (λ t. between p v ++ (v.text ++ t)) (behind-more v us u)
    ∙ sym (append_assoc (between p v) (v.text ++ canonical_behind v us) more ∙ ap (λ t. between p v ++ t) (append_assoc v.text (canonical_behind v us) more))

joined-more : (us : List Own) (u : Own) → canonical_of (us ++ u ∷ []) ≡ canonical_of us ++ (before_own (last_own us) u ++ u.text)
joined-more [] u = append-nil u.text
joined-more (v ∷ us) u =
    let more : Text = before_own (last_own (v ∷ us)) u ++ u.text in
    ap (λ t. v.text ++ t) (behind-more v us u) ∙ sym (append_assoc v.text (canonical_behind v us) more)

-- the kind of the last token is all that is asked of it
before-kind : (c : Cursor) (us : List Own) (k : Kept) → before_own (last_own us) (own_in c k) ≡ between_behind (last_kind us) k
before-kind c [] k = refl
before-kind c (u ∷ []) k = refl
before-kind c (u ∷ (v ∷ us)) k = before-kind c (v ∷ us) k

last-more : (us : List Own) (u : Own) → last_kind (us ++ u ∷ []) ≡ Some u.kind
last-more [] u = refl
last-more (v ∷ []) u = refl
last-more (v ∷ (w ∷ us)) u = last-more (w ∷ us) u

-- the kept tokens up to one more
owned-more : (c : Cursor) (ks : List Kept) (i : ℕ) (d : Kept) → i < length ks → map (own_in c) (take (i + 1) ks) ≡ map (own_in c) (take i ks) ++ own_in c (get_or ks i d) ∷ []
owned-more c ks i d h = ap (map (own_in c)) (take_more ks i d h) ∙ map-append (own_in c) (take i ks) (get_or ks i d ∷ [])

pub last_one-more : (c : Cursor) (ks : List Kept) (i : ℕ) (d : Kept) → i < length ks → last_kind (map (own_in c) (take (i + 1) ks)) ≡ Some (get_or ks i d).kind
last_one-more c ks i d h = ap last_kind (owned-more c ks i d h) ∙ last-more (map (own_in c) (take i ks)) (own_in c (get_or ks i d))

joined_one-more : (c : Cursor) (ks : List Kept) (i : ℕ) (d : Kept) → i < length ks
    → let k = get_or ks i d in encode_utf8_all (canonical_of (map (own_in c) (take (i + 1) ks)))
    ≡ (encode_utf8_all (canonical_of (map (own_in c) (take i ks))) ++ encode_utf8_all (between_behind (last_kind (map (own_in c) (take i ks))) k)) ++ encode_utf8_all (slice_between c.start c.text k.span.lo.0 k.span.hi.0)
joined_one-more c ks i d h =
    let k : Kept = get_or ks i d in
    let us : List Own = map (own_in c) (take i ks) in
    let u : Own = own_in c k in
    let before : Text = between_behind (last_kind us) k in
    ap (λ l. encode_utf8_all (canonical_of l)) (owned-more c ks i d h)
    ∙ ap encode_utf8_all (joined-more us u ∙ ap (λ t. canonical_of us ++ (t ++ u.text)) (before-kind c us k))
    ∙ encodes-append (canonical_of us) (before ++ u.text)
    ∙ ap (λ bs. encode_utf8_all (canonical_of us) ++ bs) (encodes-append before u.text)
    ∙ sym (append_assoc (encode_utf8_all (canonical_of us)) (encode_utf8_all before) (encode_utf8_all u.text))

-- a separator is written as its bytes
joint_bytes : (b flag : Bool) → encode_utf8_all (joint b flag) ≡ joint b flag
unfolding lib.Utf8.encode
joint_bytes true flag = refl
joint_bytes false true = refl
joint_bytes false false = refl

pub between_bytes : (before : Option TokenKind) (k : Kept) → encode_utf8_all (between_behind before k) ≡ between_behind before k
between_bytes None k = refl
between_bytes (Some kind) k = joint_bytes (is_template_text kind || is_template_text k.kind) k.flag

-- what was joined so far, what stands between, and the token's own characters are what is joined with it
pub joins_on : (c input : Cursor) (ks : List Kept) (i : ℕ) (d : Kept) (old mid new between own : List ℕ) (before : Option TokenKind) → input ≡ c → i < length ks → old ≡ encode_utf8_all (canonical_of (map (own_in c) (take i ks)))
    → before ≡ last_kind (map (own_in c) (take i ks)) → between ≡ between_behind before (get_or ks i d) → mid ≡ old ++ between
    → own ≡ encode_utf8_all (slice_between input.start input.text (get_or ks i d).span.lo.0 (get_or ks i d).span.hi.0) → new ≡ mid ++ own → new ≡ encode_utf8_all (canonical_of (map (own_in c) (take (i + 1) ks)))
joins_on c input ks i d old mid new between own before same h so_far last stands first slice second =
    let k : Kept = get_or ks i d in
    let us : List Own = map (own_in c) (take i ks) in
    let written : between ≡ encode_utf8_all (between_behind (last_kind us) k) = stands ∙ ap (λ kind. between_behind kind k) last ∙ sym (between_bytes (last_kind us) k) in
    second
    ∙ ap (λ bs. bs ++ own) (first ∙ ap (λ bs. bs ++ between) so_far ∙ ap (λ bs. encode_utf8_all (canonical_of us) ++ bs) written)
    ∙ ap (λ bs. (encode_utf8_all (canonical_of us) ++ encode_utf8_all (between_behind (last_kind us) k)) ++ bs) (slice ∙ ap (λ (x : Cursor). encode_utf8_all (slice_between x.start x.text k.span.lo.0 k.span.hi.0)) same)
    ∙ sym (joined_one-more c ks i d h)
