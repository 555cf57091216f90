-- The pieces of template text, as a cursor goes over them.
use Rattle.std.proofs.Common.{◌≡◌, ℕ, ◌+◌, ◌<◌, Bool, true, false, ◌&&◌, ◌||◌, ◌==◌, List, [], ◌∷◌, ◌++◌, length, take, Option, Some, None, option_map, refl, sym, ap, subst, ◌∙◌, arith, length-append, length-drop, encode_utf8_all, append_assoc}
use Rattle.std.specs.List.{list_all, list_any}
use Rattle.std.proofs.lemmas.List.{take_at}
use Rattle.std.proofs.lemmas.Str.{encodes-append}
use Rattle.ecma_place.specs.Text.{Text, byte_len, slice_between}
use Rattle.ecma_place.specs.Cursor.{Cursor, rest, place, passed}
use Rattle.ecma_place.proofs.MoveLemmas.{place-passed}
use Rattle.ecma_place.proofs.RunLemmas.{passed-later-by, text-passed}
use Rattle.ecma_token.specs.View.{ErrorView}
use Rattle.ecma_grammar.specs.Found.{error_behind, span_of}
use Rattle.ecma_grammar.specs.Fronts.{next_is}
use Rattle.ecma_grammar.specs.Pieces.{pieces, spelled}
use Rattle.ecma_grammar.specs.Escapes.{Refused, InTemplate, escape_behind, line_end}
use Rattle.ecma_escape.specs.EscapeMeanings.{refusal_error}
use Rattle.ecma_escape.specs.EscapeParts.{answer_value}
use Rattle.ecma_grammar.specs.Templates as templates
use Rattle.ecma_grammar.specs.Templates.{TemplatePiece, Break, Escaped, TemplateRole, Stop, Backslash, Itself, template_role, template_piece_of, piece_text, is_verbatim, is_break, cooked_piece, cooked_text, piece_refusal, newer, last_refusal, template_piece, template_cutter}
use Rattle.ecma_template.specs.declared.template.pieces.Piece.{Piece}
use Rattle.ecma_template.specs.declared.template.pieces.Piece.TheVariants as written
use Rattle.ecma_escape.specs.declared.escape.Refusal.{Refusal}
use Rattle.ecma_escape.specs.declared.escape.Meaning.{Meaning}
use Rattle.ecma_escape.specs.declared.escape.Meaning.TheVariants as answer
use Rattle.ecma_template.specs.WrittenTemplates.{piece_of, first_text}
use Rattle.ecma_escape.proofs.EscapeBytes.{IsAsciiIfRefused, refused_ascii}
use Rattle.ecma_grammar.proofs.SignLemmas.{rest-behind}
use Rattle.ecma_grammar.proofs.PieceLemmas.{pieces_none, pieces_more}
use Rattle.ecma_template.proofs.TemplateLaws.{template_is_cutter}

-- the pieces from a cursor on
abbrev pub pieces_at : Cursor → List TemplatePiece
pieces_at c = pieces template_cutter tt (rest c)

-- behind them
abbrev pub behind_at : Cursor → Cursor
behind_at c = passed (length (spelled template_cutter (pieces_at c))) c

-- a CR, with LF behind it or not
pub return_piece : (spelling : Text) (c : ℕ) (cs : Text) (ate : Bool) → (c == 13) ≡ true → c ≡ 13 → ate ≡ next_is 10 cs → piece_of spelling (written.Return ate) ≡ Break (line_end c cs)
return_piece spelling c cs true e same is = rw (← is, e) refl
return_piece spelling c cs false e same is = rw (← is, e) (ap (λ (x : ℕ). Break (x ∷ [])) (sym same))

-- a piece that is read, or none

pub none_read : (old : Cursor) → None ≡ template_piece (rest old) → pieces_at old ≡ []
none_read old e = pieces_none template_cutter tt (rest old) (sym e)

some_text : (text : Text) (piece : TemplatePiece) → template_piece text ≡ Some piece → first_text text ≡ piece_text piece
some_text text piece e = rw e refl

-- what was read last, where it is, and what is left
pub record IsPiece (piece : TemplatePiece) (old now : Cursor) : Type 0 where
  pub all : pieces_at old ≡ piece ∷ pieces_at now
  pub moved : now ≡ passed (length (piece_text piece)) old
  pub taken : take (length (piece_text piece)) (rest old) ≡ piece_text piece
  pub shorter : length (rest now) < length (rest old)

pub piece_read : (piece : Piece) (old now : Cursor) → Some (piece_of (first_text (rest old)) piece) ≡ template_piece (rest old) → now ≡ passed (length (first_text (rest old))) old
    → IsPiece (piece_of (first_text (rest old)) piece) old now
piece_read piece old now e moved =
    let text = rest old in
    let here = piece_of (first_text text) piece in
    let same : first_text text ≡ piece_text here = some_text text here (sym e) in
    let on : now ≡ passed (length (piece_text here)) old = moved ∙ ap (λ t. passed (length t) old) same in
    let f = template_is_cutter.front tt text here (sym e) in
    record {
      all = pieces_more template_cutter template_is_cutter tt text here (sym e) ∙ ap (λ t. here ∷ pieces template_cutter tt t) (sym (rest-behind old now _ on));
      moved = on;
      taken = ap (take (length (piece_text here))) (sym f.1) ∙ take_at (piece_text here) f.0 (length (piece_text here)) refl;
      shorter = omega (
        arith,
        ap length f.1,
        length-append (piece_text here) f.0,
        ap length (rest-behind old now _ on),
        length-drop (length (piece_text here)) text,
        template_is_cutter.some tt text here (sym e),
      );
    }

pub behind_same : (piece : TemplatePiece) (old now : Cursor) → IsPiece piece old now → behind_at now ≡ behind_at old
behind_same piece old now is =
    let size : length (spelled template_cutter (pieces_at old)) ≡ length (piece_text piece) + length (spelled template_cutter (pieces_at now)) =
    ap (λ ps. length (spelled template_cutter ps)) is.all ∙ length-append (piece_text piece) (spelled template_cutter (pieces_at now)) in
    sym (passed-later-by old _ _ _ size ∙ ap (passed (length (spelled template_cutter (pieces_at now)))) (sym is.moved))

-- a piece from its place to the next

pub piece_end : (piece : TemplatePiece) (old now : Cursor) → IsPiece piece old now → place now ≡ place old + byte_len (piece_text piece)
piece_end piece old now is = place-passed old now _ is.moved ∙ ap (λ t. place old + byte_len t) is.taken

-- what was said of the pieces so far, and what is still to be said

pub and_on : (was here : Bool) (piece : TemplatePiece) (old now : Cursor) (all : Bool) → IsPiece piece old now → here ≡ is_verbatim piece
    → (was && list_all is_verbatim (pieces_at old)) ≡ all → ((was && here) && list_all is_verbatim (pieces_at now)) ≡ all
and_on was here piece old now all is e before = rw e (go was ∙ ap (λ ps. was && list_all is_verbatim ps) (sym is.all) ∙ before)
  where
    go : (x : Bool) → ((x && is_verbatim piece) && list_all is_verbatim (pieces_at now)) ≡ (x && (is_verbatim piece && list_all is_verbatim (pieces_at now)))
    go true = refl
    go false = refl

pub or_on : (was here : Bool) (piece : TemplatePiece) (old now : Cursor) (any : Bool) → IsPiece piece old now → here ≡ is_break piece
    → (was || list_any is_break (pieces_at old)) ≡ any → ((was || here) || list_any is_break (pieces_at now)) ≡ any
or_on was here piece old now any is e before = rw e (go was ∙ ap (λ ps. was || list_any is_break ps) (sym is.all) ∙ before)
  where
    go : (x : Bool) → ((x || is_break piece) || list_any is_break (pieces_at now)) ≡ (x || (is_break piece || list_any is_break (pieces_at now)))
    go true = refl
    go false = refl

pub refusal_on : (was here : Option ErrorView) (piece : TemplatePiece) (old now : Cursor) (last : Option ErrorView) → IsPiece piece old now
    → here ≡ newer (place old) was (piece_refusal piece) → last_refusal (place old) was (pieces_at old) ≡ last → last_refusal (place now) here (pieces_at now) ≡ last
refusal_on was here piece old now last is e before =
    rw (piece_end piece old now is, e) (sym (ap (last_refusal (place old) was) is.all) ∙ before)

pub cooked_on : (was now_cooked all : List ℕ) (piece : TemplatePiece) (old now : Cursor) → IsPiece piece old now
    → now_cooked ≡ was ++ encode_utf8_all (cooked_piece piece) → was ++ encode_utf8_all (cooked_text (pieces_at old)) ≡ all
    → now_cooked ++ encode_utf8_all (cooked_text (pieces_at now)) ≡ all
cooked_on was now_cooked all piece old now is e before =
    let split = encodes-append (cooked_piece piece) (cooked_text (pieces_at now)) in
    rw (e, append_assoc) (ap (λ l. was ++ l) (sym split ∙ ap (λ ps. encode_utf8_all (cooked_text ps)) (sym is.all)) ∙ before)

-- a refusal, counted from the text's first byte, or in places

shifted : (m n : ℕ) (e : ErrorView) → error_behind (m + n) e ≡ error_behind m (error_behind n e)
shifted m n e =
    let low : m + n + e.span.lo.0 ≡ m + (n + e.span.lo.0) = omega arith in
    let high : m + n + e.span.hi.0 ≡ m + (n + e.span.hi.0) = omega arith in
    let error : ℕ → ℕ → ErrorView = λ (a b : ℕ). record { kind = e.kind; span = span_of a b } in
    ap (λ (a : ℕ). error a (m + n + e.span.hi.0)) low ∙ ap (λ (b : ℕ). error (m + (n + e.span.lo.0)) b) high

newer_shifted : (m n : ℕ) (was : Option ErrorView) (o : Option ErrorView) → newer (m + n) (option_map (error_behind m) was) o ≡ option_map (error_behind m) (newer n was o)
newer_shifted m n was None = refl
newer_shifted m n was (Some e) = ap Some (shifted m n e)

last_shifted : (m n : ℕ) (was : Option ErrorView) (ps : List TemplatePiece)
    → last_refusal (m + n) (option_map (error_behind m) was) ps ≡ option_map (error_behind m) (last_refusal n was ps)
last_shifted m n was [] = refl
last_shifted m n was (piece ∷ more) =
    let k : ℕ = byte_len (piece_text piece) in
    let sum : m + n + k ≡ m + (n + k) = omega arith in
    ap (λ (i : ℕ). last_refusal i (newer (m + n) (option_map (error_behind m) was) (piece_refusal piece)) more) sum
    ∙ ap (λ o. last_refusal (m + (n + k)) o more) (newer_shifted m n was (piece_refusal piece)) ∙ last_shifted m (n + k) (newer n was (piece_refusal piece)) more

pub last_behind : (m : ℕ) (ps : List TemplatePiece) → last_refusal m None ps ≡ option_map (error_behind m) (last_refusal 0 None ps)
last_behind m ps =
    let same : m ≡ m + 0 = omega arith in
    ap (λ (i : ℕ). last_refusal i None ps) same ∙ last_shifted m 0 None ps

-- why a piece is refused

pub refused-size : (text spelling : Text) (error : ErrorView) → template_piece text ≡ Some (Escaped (Refused spelling error)) → byte_len spelling ≡ length spelling
refused-size [] spelling error e = cc
refused-size (c ∷ cs) spelling error e = go (template_role c cs) e
  where
    go : (r : TemplateRole) → template_piece_of r c cs ≡ Some (Escaped (Refused spelling error)) → byte_len spelling ≡ length spelling
    go Stop e = cc
    go Itself e = cc
    go templates.LineEnd e = cc
    go Backslash e =
        let same : escape_behind InTemplate cs ≡ Refused spelling error = cc in
        subst IsAsciiIfRefused same (refused_ascii InTemplate cs)

pub refused-end : (piece : Piece) (r : Refusal) (old now : Cursor) → Some (piece_of (first_text (rest old)) piece) ≡ template_piece (rest old)
    → IsPiece (piece_of (first_text (rest old)) piece) old now → piece ≡ written.Escaped (answer.Refused r) → place old + length (first_text (rest old)) ≡ place now
refused-end piece r old now e is same =
    let here : template_piece (rest old) ≡ Some (Escaped (Refused (first_text (rest old)) (refusal_error InTemplate r (length (first_text (rest old)))))) =
    sym e ∙ ap (λ p. Some (piece_of (first_text (rest old)) p)) same in
    let text : piece_text (piece_of (first_text (rest old)) piece) ≡ first_text (rest old) = sym (some_text (rest old) _ (sym e)) in
    sym (piece_end _ old now is ∙ ap (λ t. place old + byte_len t) text ∙ ap (λ (n : ℕ). place old + n) (refused-size (rest old) _ _ here))

-- what is written of a piece, between two places

pub piece-slice : (piece : Piece) (old now : Cursor) (from to : ℕ) → Some (piece_of (first_text (rest old)) piece) ≡ template_piece (rest old)
    → now ≡ passed (length (first_text (rest old))) old → from ≡ place old → to ≡ place now
    → encode_utf8_all (slice_between now.start now.text from to) ≡ encode_utf8_all (first_text (rest old))
piece-slice piece old now from to e moved f t =
    let is = piece_read piece old now e moved in
    let same : first_text (rest old) ≡ piece_text (piece_of (first_text (rest old)) piece) = some_text (rest old) _ (sym e) in
    text-passed old now _ from to moved f t ∙ ap encode_utf8_all (ap (λ l. take (length l) (rest old)) same ∙ is.taken ∙ sym same)

-- what an escape stands for that is answered so, as it is added behind these bytes
cooked-answer : (text : Text) (a : Meaning) → answer_value (encode_utf8_all text) a ≡ encode_utf8_all (cooked_piece (piece_of text (written.Escaped a)))
cooked-answer text answer.Nothing = refl
cooked-answer text (answer.Character c) = refl
cooked-answer text (answer.Octal c) = refl
cooked-answer text answer.Spelling = refl
cooked-answer text (answer.Refused refusal) = refl

pub cooked-push : (old new spelling : List ℕ) (text : Text) (a : Meaning) → new ≡ old ++ answer_value spelling a → spelling ≡ encode_utf8_all text
    → new ≡ old ++ encode_utf8_all (cooked_piece (piece_of text (written.Escaped a)))
cooked-push old new spelling text a e is = e ∙ ap (λ bytes. old ++ answer_value bytes a) is ∙ ap (λ bytes. old ++ bytes) (cooked-answer text a)

pub ruleset cooked_answers = (cooked-push)
