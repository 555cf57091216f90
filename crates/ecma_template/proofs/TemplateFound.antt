-- What is found in a template: text with a meaning or without, a mark, or text that meets the end.
use Rattle.std.proofs.Common.{◌≡◌, ℕ, ◌+◌, Bool, true, false, ◌==◌, List, [], ◌∷◌, Option, Some, None, option_map, Result, Ok, Err, refl, sym, ap, ◌∙◌, encode_utf8_all}
use Rattle.std.specs.Prelude.{slice_get}
use Rattle.std.specs.List.{list_all, list_any}
use Rattle.ecma_place.specs.Text.{Text, byte_len}
use Rattle.ecma_place.specs.Atom.{AtomView, borrowed_atom}
use Rattle.ecma_place.specs.declared.place.Span.{Span}
use Rattle.ecma_token.specs.View.{KindView, ErrorView, TokenView, plain_kind, plain_token, refused_template}
use Rattle.ecma_token.specs.declared.error.SyntaxError.{UnterminatedTpl}
use Rattle.ecma_token.specs.declared.token.Token.{BackQuote, DollarLBrace, Template', Ok'}
use Rattle.ecma_grammar.specs.Found.{FoundView, error_behind, span_of, token_behind, found_at}
use Rattle.ecma_grammar.specs.Locality.{ends_template}
use Rattle.ecma_grammar.specs.Templates.{TemplatePiece, TemplateEnd, AtEnd, AtBackQuote, AtDollarBrace, template_piece, template_end, is_verbatim, is_break, raw_text, raw_atom, cooked_atom, last_refusal, template_token, token_of_refusal, text_of, mark_of, template_found}
use Rattle.ecma_template.proofs.TemplateLaws.{is_at_end, same_text}
use Rattle.ecma_template.proofs.TemplatePieces.{last_behind}

-- which end follows

pub at_end : (text : Text) → None ≡ slice_get text 0 → template_end text ≡ AtEnd
at_end [] e = refl
at_end (c ∷ cs) e = cc

pub goes_on : (text : Text) (c : ℕ) → Some c ≡ slice_get text 0 → is_at_end (template_end text) ≡ false
goes_on [] c e = cc
goes_on (d ∷ ds) c e = go (d == 96) refl
  where
    go : (x : Bool) → (d == 96) ≡ x → is_at_end (template_end (d ∷ ds)) ≡ false
    go true f = rw f refl
    go false f = rw f refl

pub mark_stops : (text : Text) → ends_template text ≡ true → template_piece text ≡ None
mark_stops [] h = refl
mark_stops (c ∷ cs) h = rw h refl

pub mark_on : (text : Text) → ends_template text ≡ true → is_at_end (template_end text) ≡ false
mark_on [] h = cc
mark_on (c ∷ cs) h = goes_on (c ∷ cs) c refl

-- the token of text

pub verbatim-atom : (ps : List TemplatePiece) → list_all is_verbatim ps ≡ true → borrowed_atom (encode_utf8_all (raw_text ps)) ≡ cooked_atom ps
verbatim-atom ps h = rw h (ap (λ l. borrowed_atom (encode_utf8_all l)) (sym (same_text ps h)))

pub refused-token : (n : ℕ) (ps : List TemplatePiece) (raw : AtomView) (kind : KindView) (span : Span) (error : ErrorView) → raw ≡ raw_atom ps → kind ≡ error.kind → span ≡ error.span
    → Some error ≡ last_refusal n None ps → refused_template raw kind span ≡ token_behind n (template_token ps)
refused-token n ps raw kind span error a k s last = go (last_refusal 0 None ps) refl
  where
    go : (o : Option ErrorView) → last_refusal 0 None ps ≡ o → refused_template raw kind span ≡ token_behind n (token_of_refusal o ps)
    go None e =
        let all = last ∙ last_behind n ps ∙ ap (option_map (error_behind n)) e in
        cc
    go (Some first) e =
        let all = last ∙ last_behind n ps ∙ ap (option_map (error_behind n)) e in
        let same : error ≡ error_behind n first = cc in
        rw (a, k ∙ ap (λ x. x.kind) same, s ∙ ap (λ x. x.span) same) refl

pub cooked-token : (n : ℕ) (ps : List TemplatePiece) (raw cooked : AtomView) → raw ≡ raw_atom ps → cooked ≡ cooked_atom ps → None ≡ last_refusal n None ps
    → plain_token (Template' raw (Ok' cooked)) ≡ token_behind n (template_token ps)
cooked-token n ps raw cooked a k last = go (last_refusal 0 None ps) refl
  where
    go : (o : Option ErrorView) → last_refusal 0 None ps ≡ o → plain_token (Template' raw (Ok' cooked)) ≡ token_behind n (token_of_refusal o ps)
    go None e = rw (a, k) refl
    go (Some first) e =
        let all = last ∙ last_behind n ps ∙ ap (option_map (error_behind n)) e in
        cc

-- what is found

abbrev pub seen : Result TokenView ErrorView → Span → Bool → FoundView TokenView
seen value extent flag = record { value = value; faults = []; extent = extent; line_break = flag }

pub text-spelling : (ps : List TemplatePiece) (end : TemplateEnd) → (text_of ps end).spelling ≡ raw_text ps
text-spelling ps AtEnd = refl
text-spelling ps AtBackQuote = refl
text-spelling ps AtDollarBrace = refl

pub unterminated : (opened n : ℕ) (ps : List TemplatePiece) (end : TemplateEnd) (error : ErrorView) (extent : Span) (flag : Bool) → end ≡ AtEnd
    → error ≡ record { kind = plain_kind UnterminatedTpl; span = span_of opened (n + byte_len (raw_text ps)) }
    → extent ≡ span_of n (n + byte_len (raw_text ps)) → flag ≡ list_any is_break ps → seen (Err error) extent flag ≡ template_found opened n (text_of ps end)
unterminated opened n ps end error extent flag e f s b = rw (e, f, s, b) refl

pub terminated : (opened n : ℕ) (ps : List TemplatePiece) (end : TemplateEnd) (token : TokenView) (extent : Span) (flag : Bool) → is_at_end end ≡ false
    → token ≡ token_behind n (template_token ps) → extent ≡ span_of n (n + byte_len (raw_text ps)) → flag ≡ list_any is_break ps
    → seen (Ok token) extent flag ≡ template_found opened n (text_of ps end)
terminated opened n ps AtEnd token extent flag on t s b = cc
terminated opened n ps AtBackQuote token extent flag on t s b = rw (t, s, b) refl
terminated opened n ps AtDollarBrace token extent flag on t s b = rw (t, s, b) refl

pub mark-found : (n : ℕ) (end : TemplateEnd) (token : TokenView) (extent : Span) → is_at_end end ≡ false → (mark_of end).value ≡ Ok token
    → extent ≡ span_of n (n + byte_len (mark_of end).spelling) → seen (Ok token) extent false ≡ found_at token_behind n (mark_of end)
mark-found n AtEnd token extent on t s = cc
mark-found n AtBackQuote token extent on t s =
    let same : token ≡ plain_token BackQuote = cc in
    rw (same, s) refl
mark-found n AtDollarBrace token extent on t s =
    let same : token ≡ plain_token DollarLBrace = cc in
    rw (same, s) refl
