-- A word, as its reader finds it of a name.
use Rattle.std.proofs.Common.{◌≡◌, ℕ, ◌+◌, Bool, true, false, cond, List, map, refl, sym, ap, ◌∙◌, arith, Result, Ok, Err}
use Rattle.std.specs.Prelude.{encode_utf8_all}
use Rattle.std.specs.List.{prefix_len, take_while}
use Rattle.ecma_place.specs.Text.{Text, byte_len}
use Rattle.ecma_place.specs.Character.{is_ident_part}
use Rattle.ecma_place.specs.Cursor.{Cursor, rest, passed}
use Rattle.ecma_place.specs.Atom.{AtomView, owned_atom}
use Rattle.ecma_syntax.specs.Reserved.{is_reserved}
use Rattle.ecma_syntax.specs.Word.{word_of, word_kind, word_of_kind}
use Rattle.ecma_syntax.specs.declared.context.Context.{Context}
use Rattle.ecma_syntax.specs.declared.keyword.Keyword.{Keyword}
use Rattle.ecma_syntax.specs.declared.known_ident.KnownIdent.{KnownIdent}
use Rattle.ecma_syntax.specs.declared.word.IdentKind.TheVariants as ident_kind
use Rattle.ecma_syntax.specs.declared.word.IdentLike.TheVariants as ident
use Rattle.ecma_syntax.specs.declared.word.WordKind.{WordKind}
use Rattle.ecma_syntax.specs.declared.word.WordKind.TheVariants as kind
use Rattle.ecma_syntax.specs.declared.word.Word.{Word}
use Rattle.ecma_syntax.specs.declared.word.Word.TheVariants as word_of_text
use Rattle.ecma_syntax.proofs.Words.{word_of-kind}
use Rattle.ecma_token.specs.View.{ErrorView, plain_kind}
use Rattle.ecma_token.specs.declared.error.SyntaxError.{EscapeInReservedWord}
use Rattle.ecma_escape.specs.EscapeMeanings.{opens_escape}
use Rattle.ecma_grammar.specs.Found.{FoundView, Scanned, fault_behind, value_behind, placeless, found_at, scanned, span_of}
use Rattle.ecma_grammar.specs.Fronts.{next_is}
use Rattle.ecma_name.specs.NameParts.{word_at}
use Rattle.ecma_grammar.specs.Words.{owned_word, word, word_value, found_word}
use Rattle.ecma_grammar.proofs.ForNextLemmas.{after-run}
use Rattle.ecma_grammar.proofs.Fronts.{front-is}
use Rattle.ecma_name.proofs.WordLaws.{plain_word_is_its_row}

-- An owned word, by the row of its text

owned-of : (k : WordKind) (text : List ℕ) → k ≡ word_kind (word_of text) → owned_word (word_of_kind k text) ≡ owned_word (word_of text)
owned-of k text e = ap (λ k. owned_word (word_of_kind k text)) e ∙ ap owned_word (word_of-kind text)

pub owned-keyword : (k : Keyword) (text : List ℕ) → kind.Keyword k ≡ word_kind (word_of text) → word_of_text.Keyword k ≡ owned_word (word_of text)
owned-keyword k text e = owned-of (kind.Keyword k) text e

pub owned-null : (text : List ℕ) → kind.Null ≡ word_kind (word_of text) → word_of_text.Null ≡ owned_word (word_of text)
owned-null text e = owned-of kind.Null text e

pub owned-true : (text : List ℕ) → kind.True ≡ word_kind (word_of text) → word_of_text.True ≡ owned_word (word_of text)
owned-true text e = owned-of kind.True text e

pub owned-false : (text : List ℕ) → kind.False ≡ word_kind (word_of text) → word_of_text.False ≡ owned_word (word_of text)
owned-false text e = owned-of kind.False text e

pub owned-known : (k : KnownIdent) (text : List ℕ) → kind.Ident (ident_kind.Known k) ≡ word_kind (word_of text) → word_of_text.Ident (ident.Known k) ≡ owned_word (word_of text)
owned-known k text e = owned-of (kind.Ident (ident_kind.Known k)) text e

pub owned-other : (text : List ℕ) (atom : AtomView) → kind.Ident ident_kind.Other ≡ word_kind (word_of text) → atom ≡ owned_atom text → word_of_text.Ident (ident.Other atom) ≡ owned_word (word_of text)
owned-other text atom e a = ap (λ x. word_of_text.Ident (ident.Other x)) a ∙ owned-of (kind.Ident ident_kind.Other) text e

pub ruleset rows = (owned-keyword, owned-null, owned-true, owned-false, owned-known, owned-other)

-- What is found of a word by its name

word-value : (context : Context) (p : ℕ) (spelling : Text) (v : Result AtomView ErrorView)
    → word_at context (span_of p (p + byte_len spelling)) (value_behind placeless p v) ≡ value_behind placeless p (word_value context spelling v)
word-value context p spelling (Err error) = refl
word-value context p spelling (Ok text) = go text.is_borrowed (is_reserved context (word_of text.bytes))
  where
    refused : ℕ → ℕ → Result Word ErrorView
    refused low high = Err (record { kind = plain_kind (EscapeInReservedWord text); span = span_of low high })

    go : (x y : Bool) → cond x (Ok (word_of text.bytes)) (cond y (refused p (p + byte_len spelling)) (Ok (owned_word (word_of text.bytes))))
        ≡ value_behind placeless p (cond x (Ok (word_of text.bytes)) (cond y (refused 0 (byte_len spelling)) (Ok (owned_word (word_of text.bytes)))))
    go true y = refl
    go false true = ap (λ low. refused low (p + byte_len spelling)) (let same : p ≡ p + 0 = omega arith in same)
    go false false = refl

pub word-found : (context : Context) (name : Scanned AtomView) (p : ℕ) (found : FoundView AtomView) (v : Result Word ErrorView) → found ≡ found_at placeless p name → name.line_break ≡ false
    → v ≡ word_at context found.extent found.value
    → let word : FoundView Word = record { value = v; faults = found.faults; extent = found.extent; line_break = found.line_break } in word ≡ found_at placeless p (found_word context name)
word-found context name p found v e none is =
    let value : Result Word ErrorView = value_behind placeless p (word_value context name.spelling name.value) in
    ap (λ a. let word : FoundView Word = record { value = a; faults = found.faults; extent = found.extent; line_break = found.line_break } in word)
    (is ∙ ap (λ f. word_at context f.extent f.value) e ∙ word-value context p name.spelling name.value)
    ∙ ap (λ f. let word : FoundView Word = record { value = value; faults = f.faults; extent = f.extent; line_break = f.line_break } in word) e
    ∙ ap (λ b. let word : FoundView Word = record { value = value; faults = map (fault_behind p) name.faults; extent = span_of p (p + byte_len name.spelling); line_break = b } in word) none

-- A word without an escape

-- the part characters at a cursor, before no backslash, are a word
pub plain-row : (context : Context) (old now : Cursor) → now ≡ passed (prefix_len is_ident_part (rest old)) old → opens_escape (rest now) ≡ false
    → word context (rest old) ≡ scanned (word_of (encode_utf8_all (take_while is_ident_part (rest old)))) (take_while is_ident_part (rest old))
plain-row context old now moved none =
    plain_word_is_its_row context (rest old) (ap (next_is 92) (sym (after-run is_ident_part old now moved)) ∙ none)
    ∙ ap (λ (spelling : Text). scanned (word_of (encode_utf8_all spelling)) spelling) (front-is is_ident_part (rest old))
