-- The law of a loop over a reader: who adds what a token gives behind each that is read has at the end what all tokens give.
use Rattle.std.proofs.Common.{◌≡◌, ◌∙◌, ℕ, ◌+◌, Bool, true, false, List, [], ◌∷◌, ◌++◌, Option, Some, None, length, map, reverse, refl, subst, sym, ap}
use Rattle.std.specs.Prelude.{flat_map}
use Rattle.std.proofs.lemmas.Bool.{false≢true, true≢false}
use Rattle.std.proofs.lemmas.List.{length-append, map-append}
use Rattle.std.proofs.lemmas.Grind.{flat_map-append, reverse_onto}
use Rattle.ecma_token.specs.View.{SpannedView}
use Rattle.ecma_state.specs.Session.{Session}
use Rattle.ecma_slashes.specs.Rereads.{SlashRule}
use Rattle.ecma_reader.specs.Readers.{FlatMaps, HasRead, Maps, Reads, Shows, Tells, tokens_by, tokens_found}
use Rattle.ecma_reader.specs.declared.reader.Reader.{Reader}

-- Whatever holds of tokens

pub told-start : (rule : SlashRule) (begin : Session) (P : List SpannedView → Type 0) (reader : Reader) → Shows rule begin [] reader → P [] → Tells rule begin P reader
told-start rule begin P reader shows holds = record { tokens = []; shows = shows; holds = holds }

pub told-next : (rule : SlashRule) (begin : Session) (P Q : List SpannedView → Type 0) (old new : Reader) (found : Option SpannedView) (more : Bool) (tells : Tells rule begin P old)
    → Reads rule begin tells.tokens found more new → more ≡ true → ((t : SpannedView) → found ≡ Some t → P tells.tokens → Q (tells.tokens ++ t ∷ [])) → Tells rule begin Q new
told-next rule begin P Q old new None more tells reads going step = absurd (false≢true (sym reads.told ∙ going))
told-next rule begin P Q old new (Some t) more tells reads going step = record { tokens = tells.tokens ++ t ∷ []; shows = reads.goes; holds = step t refl tells.holds }

pub told-end : (rule : SlashRule) (begin : Session) (P : List SpannedView → Type 0) (old new : Reader) (found : Option SpannedView) (more : Bool) (tells : Tells rule begin P old)
    → Reads rule begin tells.tokens found more new → more ≡ false → P (tokens_by rule begin) × HasRead rule begin new
told-end rule begin P old new None more tells reads ended = (subst P reads.goes.0 tells.holds, reads.goes.1)
told-end rule begin P old new (Some t) more tells reads ended = absurd (true≢false (sym reads.told ∙ ended))

-- one more was counted
pub counted-next : (rule : SlashRule) (begin : Session) (count : ℕ) (old new : Reader) (found : Option SpannedView) (more : Bool) (tells : Tells rule begin (λ ts. count ≡ length ts) old)
    → Reads rule begin tells.tokens found more new → more ≡ true → Tells rule begin (λ ts. count + 1 ≡ length ts) new
counted-next rule begin count old new found more tells reads going =
    told-next rule begin (λ ts. count ≡ length ts) (λ ts. count + 1 ≡ length ts) old new found more tells reads going
    (λ t e so. ap (λ n. n + 1) so ∙ sym (length-append tells.tokens (t ∷ [])))

-- What each token gives

pub mapped-next : {B : Type 0} (f : SpannedView → B) (rule : SlashRule) (begin : Session) (items now : List B) (old new : Reader) (found : Option SpannedView) (more : Bool) (tells : Tells rule begin (Maps f items) old)
    → Reads rule begin tells.tokens found more new → more ≡ true → now ≡ items ++ map f (tokens_found found) → Tells rule begin (Maps f now) new
mapped-next f rule begin items now old new found more tells reads going added =
    told-next rule begin (Maps f items) (Maps f now) old new found more tells reads going
    (λ t e so. added ∙ ap (λ xs. xs ++ map f (tokens_found found)) so ∙ ap (λ o. map f tells.tokens ++ map f (tokens_found o)) e ∙ sym (map-append f tells.tokens (t ∷ [])))

pub flat_mapped-next : {B : Type 0} (f : SpannedView → List B) (rule : SlashRule) (begin : Session) (items now : List B) (old new : Reader) (found : Option SpannedView) (more : Bool)
    (tells : Tells rule begin (FlatMaps f items) old)
    → Reads rule begin tells.tokens found more new → more ≡ true → now ≡ items ++ flat_map f (tokens_found found) → Tells rule begin (FlatMaps f now) new
flat_mapped-next f rule begin items now old new found more tells reads going added =
    told-next rule begin (FlatMaps f items) (FlatMaps f now) old new found more tells reads going
    (λ t e so. added ∙ ap (λ xs. xs ++ flat_map f (tokens_found found)) so ∙ ap (λ o. flat_map f tells.tokens ++ flat_map f (tokens_found o)) e ∙ sym (flat_map-append f tells.tokens (t ∷ [])))

-- in the other order too
pub mapped-back : {A B : Type 0} (f : A → B) (xs : List A) → map f (reverse xs) ≡ reverse (map f xs)
mapped-back f [] = refl
mapped-back f (x ∷ xs) = ap (map f) (reverse_onto xs x []) ∙ map-append f (reverse xs) (x ∷ []) ∙ ap (λ ys. ys ++ f x ∷ []) (mapped-back f xs) ∙ sym (reverse_onto (map f xs) (f x) [])
