-- The shebang with which a text begins, as its reader finds it.
use Rattle.std.proofs.Common.{◌≡◌, ℕ, ◌+◌, Bool, true, false, ◌++◌, length, take, drop, refl, sym, ap, ◌∙◌, arith, codes, encode_utf8_all, Option, Some, None, []}
use Rattle.std.specs.Prelude.{option_map, if◌then◌else◌, Result, Ok}
use Rattle.ecma_place.specs.Text.{Text, byte_len}
use Rattle.ecma_place.specs.Atom.{borrowed_atom}
use Rattle.ecma_place.specs.Cursor.{Cursor, rest, passed}
use Rattle.ecma_place.proofs.RunLemmas.{passed-later-by}
use Rattle.ecma_token.specs.View.{TokenView, ErrorView, token_view}
use Rattle.ecma_token.specs.declared.token.Token.{Token, Shebang}
use Rattle.ecma_grammar.specs.Found.{FoundView, found_at, token_behind, span_of}
use Rattle.ecma_grammar.specs.Fronts.{line, behind_line, in_line}
use Rattle.ecma_grammar.specs.Shebangs.{opens_shebang, shebang, shebang_of}
use Rattle.ecma_grammar.proofs.Fronts.{begins_with-front, front_after}
use Rattle.ecma_grammar.proofs.NumberFound.{front-taken}
use Rattle.ecma_grammar.proofs.SignLemmas.{rest-behind}

-- the token of the shebang with which a text begins
abbrev pub token_read : Text → Option Token
token_read text = if opens_shebang text then Some (shebang_of (line (drop 2 text))) else None

pub shebang-front : (text : Text) → take (length (shebang text).spelling) text ≡ (shebang text).spelling
shebang-front text = go (opens_shebang text) refl
  where
    go : (b : Bool) → opens_shebang text ≡ b → take (length (shebang text).spelling) text ≡ (shebang text).spelling
    go false e = rw e refl
    go true e =
        let whole = ap (λ t. codes "#!" ++ t) (front_after in_line (drop 2 text)) ∙ begins_with-front (codes "#!") text e in
        rw e (front-taken (codes "#!" ++ line (drop 2 text)) (behind_line (drop 2 text)) text whole)

-- it holds no error, so that it is seen the same at every place
abbrev seen : ℕ → Text → FoundView (Option TokenView)
seen n text =
    let value : Result (Option TokenView) ErrorView = Ok (option_map token_view (token_read text)) in
    record { value = value; faults = []; extent = span_of n (n + byte_len (shebang text).spelling); line_break = false }

pub shebang-seen : (n : ℕ) (text : Text) → seen n text ≡ found_at (λ n. option_map (token_behind n)) n (shebang text)
shebang-seen n text = go (opens_shebang text) refl
  where
    go : (b : Bool) → opens_shebang text ≡ b → seen n text ≡ found_at (λ n. option_map (token_behind n)) n (shebang text)
    go false e = rw e refl
    go true e = rw e refl

pub shebang-opened : (old one : Cursor) → opens_shebang (rest old) ≡ true → one ≡ passed 2 old
    → Some (Shebang (borrowed_atom (encode_utf8_all (line (rest one))))) ≡ token_read (rest old)
shebang-opened old one opens e = rw (opens, rest-behind old one 2 e) refl

pub shebang-passed : (old one two : Cursor) → opens_shebang (rest old) ≡ true → one ≡ passed 2 old → two ≡ passed (length (line (rest one))) one
    → two ≡ passed (length (shebang (rest old)).spelling) old
shebang-passed old one two opens e moved =
    let text : Text = line (drop 2 (rest old)) in
    rw opens (moved ∙ ap (λ t. passed (length (line t)) one) (rest-behind old one 2 e) ∙ ap (passed (length text)) e ∙ sym (passed-later-by old (length (codes "#!" ++ text)) (length text) 2 (omega arith)))
