use Rattle.std.proofs.Common.{◌≡◌, length, take, refl, sym, ap, ◌∙◌, arith, encode_utf8_all}
use Rattle.std.proofs.lemmas.Bool.{false≢true}
use Rattle.ecma_place.specs.Cursor.{Cursor, rest, place, passed}
use Rattle.ecma_place.specs.declared.place.BytePos.{BytePos}
use Rattle.ecma_place.specs.declared.place.Span.{Span}
use Rattle.ecma_place.proofs.MoveLemmas.{place-passed-le, span-passed}
use Rattle.ecma_place.proofs.RunLemmas.{further-HasPlace, further-start, further-step, text-passed}
use Rattle.ecma_token.specs.declared.error.SyntaxError.{UnterminatedTpl}
use Rattle.ecma_grammar.specs.Pieces.{remainder}
use Rattle.ecma_grammar.specs.Templates.{template_cutter, template_end, raw_text}
use Rattle.ecma_grammar.proofs.SignLemmas.{rest-behind}
use Rattle.ecma_grammar.proofs.NumberFound.{front-taken}
use Rattle.ecma_grammar.proofs.NumberRefusals.{seen_error}
use Rattle.ecma_grammar.proofs.PieceLemmas.{tiling}
use Rattle.ecma_template.proofs.TemplateFound.{at_end, goes_on, text-spelling, unterminated, terminated}
use Rattle.ecma_template.proofs.TemplateLaws.{is_at_end, template_is_cutter}
use Rattle.ecma_template.proofs.TemplatePieces.{pieces_at}
use Rattle.ecma_template.proofs.template.scan_text.Goals.{in-None+in_ok-new-in-None, in-Some+in_ok-template_token-in-Some}
use Rattle.ecma_template.proofs.template.scan_text.Goals as goal

-- the pieces are a front of the text
cut : (c : Cursor) → take (length (raw_text (pieces_at c))) (rest c) ≡ raw_text (pieces_at c)
cut c = front-taken (raw_text (pieces_at c)) (remainder template_cutter tt (rest c)) (rest c) (tiling template_cutter template_is_cutter tt (rest c))

pub new-extent-requires : goal.new-extent-requires
new-extent-requires c = rw (c.cur_pos-start.ensures, c.cur_pos.ensures) (place-passed-le _ _ _ c.survey_text-survey.ensures.moved)

pub new-span-requires : goal.new-span-requires
new-span-requires c =
    omega (arith, place-passed-le _ _ _ c.survey_text-survey.ensures.moved, c.requires, c.cur_pos.ensures, ap (λ (s : Span). s.hi.0) c.new-extent.ensures)

pub slice-raw-requires-clause-in_order : goal.slice-raw-requires-clause-in_order
slice-raw-requires-clause-in_order c =
    rw (c.new-extent.ensures, c.cur_pos-start.ensures, c.cur_pos.ensures) (place-passed-le _ _ _ c.survey_text-survey.ensures.moved)

pub template_token-requires-clause-raw : goal.template_token-requires-clause-raw
template_token-requires-clause-raw c =
    let old = c.args.input.now in
    let same : c.in_ok-text.text ≡ old = c.in_ok-text.ensures.cases in
    let from = ap (λ (s : Span). s.lo.0) c.new-extent.ensures ∙ c.cur_pos-start.ensures in
    let to = ap (λ (s : Span). s.hi.0) c.new-extent.ensures ∙ c.cur_pos.ensures in
    rw same (c.slice-raw.ensures ∙ text-passed old _ (length (raw_text (pieces_at old))) _ _ c.survey_text-survey.ensures.moved from to ∙ ap encode_utf8_all (cut old))

pub slice-raw-requires-clause-from_place : goal.slice-raw-requires-clause-from_place
slice-raw-requires-clause-from_place c =
    further-HasPlace c.args.input.now _ _ (further-step _ _ _ _ (further-start _) c.survey_text-survey.ensures.moved) (ap (λ (s : Span). s.lo.0) c.new-extent.ensures ∙ c.cur_pos-start.ensures)

pub slice-raw-requires-clause-to_place : goal.slice-raw-requires-clause-to_place
slice-raw-requires-clause-to_place c = (c.survey_text-survey.new.input.at, ap (λ (s : Span). s.hi.0) c.new-extent.ensures ∙ c.cur_pos.ensures)

pub template_token-requires-clause-refusal : goal.template_token-requires-clause-refusal
template_token-requires-clause-refusal c =
    let same : c.in_ok-text.text ≡ c.args.input.now = c.in_ok-text.ensures.cases in
    rw same c.survey_text-survey.ensures.refusal

pub returns-in_err-new-in-None-clause-free : goal.returns-in_err-new-in-None-clause-free
returns-in_err-new-in-None-clause-free c =
    let ends = ap template_end (sym (rest-behind c.args.input.now _ _ c.survey_text-survey.ensures.moved)) ∙ at_end _ c.in-None.ensures.first in
    λ verbatim accepted. absurd (false≢true (rw ends at accepted))

pub returns : goal.returns
returns c =
    let old = c.args.input.now in
    let moved = c.survey_text-survey.ensures.moved in
    let extent = c.new-extent.ensures ∙ span-passed old _ (raw_text (pieces_at old)) _ _ (cut old) moved c.cur_pos-start.ensures c.cur_pos.ensures in
    record {
      found =
          rw c.new-2.ensures.items
          (elim c.match-cur.branch [
            | in-None+in_ok-new-in-None w ↦
                let ends = ap template_end (sym (rest-behind old _ _ moved)) ∙ at_end _ w.in-None.ensures.first in
                let there = w.new-span.ensures ∙ ap (λ (h : BytePos). let span : Span = record { lo = c.args.opened; hi = h } in span) (ap (λ (s : Span). s.hi) extent) in
                rw w.value-is
                (unterminated c.args.opened.0 (place old) (pieces_at old) _ _ _ _ ends (seen_error _ UnterminatedTpl _ _ w.in_ok-new-in-None.ensures there) extent c.survey_text-survey.ensures.line_break)
            | in-Some+in_ok-template_token-in-Some w ↦
                let same : c.in_ok-text.text ≡ old = c.in_ok-text.ensures.cases in
                let on = ap (λ t. is_at_end (template_end t)) (sym (rest-behind old _ _ moved)) ∙ goes_on _ _ w.in-Some.ensures.first in
                rw w.value-is
                (terminated c.args.opened.0 (place old) (pieces_at old) _ _ _ _ on (rw same at w.in_ok-template_token-in-Some.ensures.value) extent c.survey_text-survey.ensures.line_break)
          ]);
      moved = moved ∙ ap (λ l. passed (length l) old) (sym (text-spelling (pieces_at old) _));
      free = λ _ _. refl;
    }
