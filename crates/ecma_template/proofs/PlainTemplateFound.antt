-- What is found of template text that means what is written, and of the mark behind it.
use Rattle.std.proofs.Common.{◌≡◌, ℕ, ◌+◌, ◌<◌, Bool, true, false, cond, ◌&&◌, ◌==◌, List, [], ◌∷◌, ◌++◌, length, length-drop, take, drop, slice_get, Some, None, Ok, Err, refl, sym, ap, ◌∙◌, arith, append-nil, encode_utf8_all}
use Rattle.std.specs.List.{list_all, list_any}
use Rattle.ecma_place.specs.Text.{Text, byte_len, slice_between}
use Rattle.ecma_place.specs.Atom.{AtomView, borrowed_atom}
use Rattle.ecma_place.specs.Character.{is_line_terminator}
use Rattle.ecma_place.specs.Cursor.{Cursor, rest, place, passed, index_of, moved_to}
use Rattle.ecma_place.proofs.MoveLemmas.{place-passed}
use Rattle.ecma_place.proofs.RunLemmas.{further-back, further-start, further-step, text-passed}
use Rattle.ecma_token.specs.View.{ErrorView, TokenView, plain_kind, plain_token}
use Rattle.ecma_token.specs.declared.error.SyntaxError.{UnterminatedTpl}
use Rattle.ecma_token.specs.declared.token.Token.{Template', Ok'}
use Rattle.ecma_grammar.specs.Found.{found_at, span_of, token_behind}
use Rattle.ecma_grammar.specs.Locality.{ends_template, is_accepted}
use Rattle.ecma_grammar.specs.Pieces.{pieces, remainder, spelled}
use Rattle.ecma_grammar.specs.Templates as templates
use Rattle.ecma_grammar.specs.Templates.{TemplatePiece, TemplateEnd, AtEnd, AtBackQuote, AtDollarBrace, Backslash, Itself, is_verbatim, is_break, raw_text, template_piece, template_piece_of, template_cutter, template_end, template_found, template_of, template_text, text_of, mark_of}
use Rattle.ecma_grammar.proofs.NumberFound.{front-taken}
use Rattle.ecma_grammar.proofs.PieceLemmas.{pieces_none, pieces_more}
use Rattle.ecma_grammar.proofs.SignLemmas.{rest-behind}
use Rattle.ecma_template.specs.PlainTemplates as plain
use Rattle.ecma_template.specs.PlainTemplates.{found_between}
use Rattle.ecma_template.specs.VerbatimTexts.{PassesVerbatim, break_if_verbatim}
use Rattle.ecma_template.proofs.TemplateFound.{at_end, mark_stops, mark_on, verbatim-atom, cooked-token, text-spelling, unterminated, terminated, mark-found}
use Rattle.ecma_template.proofs.TemplateLaws.{is_at_end, mark_front, no_refusal, template_is_cutter}
use Rattle.ecma_template.proofs.TemplatePieces.{pieces_at}
use Rattle.ecma_template.proofs.VerbatimPieces.{passes-taken, passes-place, and-over}

-- a piece stands where neither the end nor a mark does
some-piece : (c : ℕ) (cs : Text) → ends_template (c ∷ cs) ≡ false → (piece : TemplatePiece) × (template_piece (c ∷ cs) ≡ Some piece)
some-piece c cs h = rw h (go (c == 92) (is_line_terminator c))
  where
    go : (x y : Bool) → (piece : TemplatePiece) × (template_piece_of (cond x Backslash (cond y templates.LineEnd Itself)) c cs ≡ Some piece)
    go true y = (_, refl)
    go false true = (_, refl)
    go false false = (_, refl)

-- text is read where it isn't asked for a mark, or none is there
pub text-at : (after : Bool) (text : Text) → (after && ends_template text) ≡ false → template_text after text ≡ template_text false text
text-at false text h = refl
text-at true [] h = refl
text-at true (c ∷ cs) h =
    let piece = some-piece c cs h in
    let end = template_end (remainder template_cutter tt (c ∷ cs)) in
    let some = pieces_more template_cutter template_is_cutter tt (c ∷ cs) piece.0 piece.1 in
    ap (λ ps. template_of true ps end) some ∙ ap (λ ps. text_of ps end) (sym some)

pub mark-at : (text : Text) → ends_template text ≡ true → template_text true text ≡ mark_of (template_end text)
mark-at text h = ap (λ ps. template_of true ps (template_end (drop (length (spelled template_cutter ps)) text))) (pieces_none template_cutter tt text (mark_stops text h))

-- no mark is asked for, or none is there

pub unasked : (after at : Bool) → after ≡ false → (after && at) ≡ false
unasked true at e = cc
unasked false at e = refl

pub unmarked : (after at : Bool) → at ≡ false → (after && at) ≡ false
unmarked true at e = e
unmarked false at e = refl

-- the mark

mark-same : (opened n : ℕ) (end : TemplateEnd) → is_at_end end ≡ false → template_found opened n (mark_of end) ≡ found_at token_behind n (mark_of end)
mark-same opened n AtEnd on = cc
mark-same opened n AtBackQuote on = refl
mark-same opened n AtDollarBrace on = refl

pub mark-plain : (after : Bool) (old now : Cursor) (token : TokenView) → after ≡ true → ends_template (rest old) ≡ true → (mark_of (template_end (rest old))).value ≡ Ok token
    → now ≡ passed (length (mark_of (template_end (rest old))).spelling) old
    → (opened : ℕ) → (template_found opened (place old) (template_text after (rest old)) ≡ found_between old now (Ok token) false) × (now ≡ passed (length (template_text after (rest old)).spelling) old)
mark-plain after old now token e h value moved opened =
    let text = rest old in
    let end = template_end text in
    let spelling = (mark_of end).spelling in
    let front = mark_front text (mark_stops text h) in
    let there : place now ≡ place old + byte_len spelling = place-passed old now (length spelling) moved ∙ ap (λ t. place old + byte_len t) (front-taken spelling front.0 text front.1) in
    let all : template_text after text ≡ mark_of end = ap (λ b. template_text b text) e ∙ mark-at text h in
    let found = mark-found (place old) end token (span_of (place old) (place now)) (mark_on text h) value (ap (λ (p : ℕ). span_of (place old) p) there) in (
      ap (template_found opened (place old)) all ∙ mark-same opened (place old) end (mark_on text h) ∙ sym found,
      moved ∙ ap (λ s. passed (length s.spelling) old) (sym all),
    )

-- the text

record AllVerbatim (flag : Bool) (old now : Cursor) : Type 0 where
  verbatim : list_all is_verbatim (pieces_at old) ≡ true
  line_break : flag ≡ list_any is_break (pieces_at old)
  moved : now ≡ passed (length (raw_text (pieces_at old))) old
  taken : take (length (raw_text (pieces_at old))) (rest old) ≡ raw_text (pieces_at old)
  there : place now ≡ place old + byte_len (raw_text (pieces_at old))
  end : template_end (remainder template_cutter tt (rest old)) ≡ template_end (rest now)

all-verbatim : (flag : Bool) (old now : Cursor) → PassesVerbatim flag old now → template_piece (rest now) ≡ None → AllVerbatim flag old now
all-verbatim flag old now is none =
    let all : is.between ≡ pieces_at old =
    sym (is.all ∙ ap (λ ps. is.between ++ ps) (pieces_none template_cutter tt (rest now) none) ∙ append-nil is.between) in
    let moved = is.moved ∙ ap (λ ps. passed (length (spelled template_cutter ps)) old) all in
    record {
      verbatim = ap (list_all is_verbatim) (sym all) ∙ is.verbatim;
      line_break = is.line_break ∙ ap (list_any is_break) all;
      moved = moved;
      taken = rw all at (passes-taken flag old now is);
      there = passes-place flag old now is ∙ ap (λ ps. place old + byte_len (spelled template_cutter ps)) all;
      end = ap template_end (sym (rest-behind old now _ moved));
    }

pub text-plain : (after flag : Bool) (old now : Cursor) (raw cooked : AtomView) (slice : List ℕ) (from to : ℕ) → (after && ends_template (rest old)) ≡ false → PassesVerbatim flag old now
    → ends_template (rest now) ≡ true → slice ≡ encode_utf8_all (slice_between now.start now.text from to) → from ≡ place old → to ≡ place now → raw ≡ borrowed_atom slice → cooked ≡ borrowed_atom slice
    → (opened : ℕ)
    → (template_found opened (place old) (template_text after (rest old)) ≡ found_between old now (Ok (plain_token (Template' raw (Ok' cooked)))) flag)
    × (now ≡ passed (length (template_text after (rest old)).spelling) old)
text-plain after flag old now raw cooked slice from to here is mark s f t r k opened =
    let ps = pieces_at old in
    let end = template_end (remainder template_cutter tt (rest old)) in
    let all = all-verbatim flag old now is (mark_stops (rest now) mark) in
    let text : template_text after (rest old) ≡ text_of ps end = text-at after (rest old) here in
    let on : is_at_end end ≡ false = ap is_at_end all.end ∙ mark_on (rest now) mark in
    let written : slice ≡ encode_utf8_all (raw_text ps) = s ∙ text-passed old now _ from to all.moved f t ∙ ap encode_utf8_all all.taken in
    let token = cooked-token (place old) ps raw cooked (r ∙ ap borrowed_atom written) (k ∙ ap borrowed_atom written ∙ verbatim-atom ps all.verbatim) (sym (no_refusal (place old) ps all.verbatim)) in
    let found = terminated opened (place old) ps end _ (span_of (place old) (place now)) flag on token (ap (λ (p : ℕ). span_of (place old) p) all.there) all.line_break in (
      ap (template_found opened (place old)) text ∙ sym found,
      all.moved ∙ ap (λ l. passed (length l) old) (sym (ap (λ x. x.spelling) text ∙ text-spelling ps end)),
    )

-- text that meets the end

end-none : (text : Text) → slice_get text 0 ≡ None → template_piece text ≡ None
end-none [] e = refl
end-none (c ∷ cs) e = cc

pub text-unterminated : (after flag : Bool) (old now : Cursor) → (after && ends_template (rest old)) ≡ false → PassesVerbatim flag old now → slice_get (rest now) 0 ≡ None
    → (opened : ℕ)
    → (template_found opened (place old) (template_text after (rest old)) ≡ found_between old now (Err (plain.unterminated opened now)) flag)
    × (now ≡ passed (length (template_text after (rest old)).spelling) old)
text-unterminated after flag old now here is none opened =
    let ps = pieces_at old in
    let end = template_end (remainder template_cutter tt (rest old)) in
    let all = all-verbatim flag old now is (end-none (rest now) none) in
    let text : template_text after (rest old) ≡ text_of ps end = text-at after (rest old) here in
    let ends : end ≡ AtEnd = all.end ∙ at_end (rest now) (sym none) in
    let error = ap (λ (p : ℕ). let e : ErrorView = record { kind = plain_kind UnterminatedTpl; span = span_of opened p } in e) all.there in
    let found = unterminated opened (place old) ps end (plain.unterminated opened now) (span_of (place old) (place now)) flag ends error (ap (λ (p : ℕ). span_of (place old) p) all.there) all.line_break in (
      ap (template_found opened (place old)) text ∙ sym found,
      all.moved ∙ ap (λ l. passed (length l) old) (sym (ap (λ x. x.spelling) text ∙ text-spelling ps end)),
    )

pub text-refused : (after flag : Bool) (old now : Cursor) → (after && ends_template (rest old)) ≡ false → PassesVerbatim flag old now → slice_get (rest now) 0 ≡ None
    → is_accepted (template_text after (rest old)).value ≡ false
text-refused after flag old now here is none =
    let all = all-verbatim flag old now is (end-none (rest now) none) in
    ap (λ s. is_accepted s.value) (text-at after (rest old) here ∙ ap (text_of (pieces_at old)) (all.end ∙ at_end (rest now) (sym none)))

-- other text

some-first : (text : Text) → 0 < length text → (c : ℕ) × (slice_get text 0 ≡ Some c)
some-first [] h = absurd (omega (arith, h))
some-first (c ∷ cs) h = (c, refl)

first-some : (text : Text) (c : ℕ) → slice_get text 0 ≡ Some c → 0 < length text
first-some [] c e = cc
first-some (d ∷ ds) c e = omega arith

-- the cursor comes back to where it stood
pub comes-back : (flag : Bool) (old now : Cursor) (p c : ℕ) → PassesVerbatim flag old now → p ≡ place old → slice_get (rest now) 0 ≡ Some c → moved_to (index_of now p) now ≡ old
comes-back flag old now p c is e first =
    let n : ℕ = length (spelled template_cutter is.between) in
    let some = some-first (rest old) (omega (arith, first-some (rest now) c first, ap length (rest-behind old now n is.moved), length-drop n (rest old))) in
    further-back old now some.0 p (further-step old old now n (further-start old) is.moved) e some.1

not-verbatim : (text : Text) (c : ℕ) → slice_get text 0 ≡ Some c → ends_template text ≡ false → break_if_verbatim (template_piece text) ≡ None → list_all is_verbatim (pieces template_cutter tt text) ≡ false
not-verbatim [] c e mark stops = cc
not-verbatim (d ∷ ds) c e mark stops =
    let piece = some-piece d ds mark in
    let stop : break_if_verbatim (Some piece.0) ≡ None = ap break_if_verbatim (sym piece.1) ∙ stops in
    ap (list_all is_verbatim) (pieces_more template_cutter template_is_cutter tt (d ∷ ds) piece.0 piece.1)
    ∙ go (is_verbatim piece.0) (is_break piece.0) stop (list_all is_verbatim (pieces template_cutter tt (drop (length (templates.piece_text piece.0)) (d ∷ ds))))
  where
    go : (x b : Bool) → cond x (Some b) None ≡ None → (y : Bool) → (x && y) ≡ false
    go true b h y = cc
    go false b h y = refl

-- not all of it means what is written
pub text-other : (flag : Bool) (old now : Cursor) (c : ℕ) → PassesVerbatim flag old now → slice_get (rest now) 0 ≡ Some c → ends_template (rest now) ≡ false
    → break_if_verbatim (template_piece (rest now)) ≡ None → list_all is_verbatim (pieces_at old) ≡ false
text-other flag old now c is first mark stops = sym (and-over true flag old now _ is refl) ∙ not-verbatim (rest now) c first mark stops
