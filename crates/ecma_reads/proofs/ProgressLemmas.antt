-- A token that is read holds characters, but for template text where none stands before.
use Rattle.std.proofs.Common.{◌≡◌, ℕ, ◌<◌, Bool, true, false, cond, ◌&&◌, ◌==◌, List, [], ◌∷◌, ◌++◌, length, Option, Some, None, refl, sym, subst, ap, ◌∙◌, arith}
use Rattle.ecma_place.specs.Text.{Text, byte_len}
use Rattle.ecma_token.specs.Kinds.{kind_of}
use Rattle.ecma_token.specs.View.{ErrorView}
use Rattle.ecma_token.specs.declared.kind.TokenKind.{TokenKind}
use Rattle.ecma_token.specs.declared.kind.TokenKind.TheVariants.{Template}
use Rattle.ecma_scan.specs.Found.{token_behind}
use Rattle.ecma_scan.specs.Numbers.{opens_number}
use Rattle.ecma_scan.specs.Bars.{opens_bars}
use Rattle.ecma_scan.specs.Pieces.{pieces, remainder}
use Rattle.ecma_scan.specs.Strings.{opens_string}
use Rattle.ecma_scan.specs.Templates.{AtBackQuote, AtDollarBrace, AtEnd, TemplateEnd, TemplatePiece, raw_text, template_cutter, template_end, template_text, template_value, text_of, token_of_refusal}
use Rattle.ecma_scan.specs.Words.{opens_word}
use Rattle.ecma_scan.proofs.TemplateLaws.{template_goes_on, template_tiles}
use Rattle.ecma_state.specs.Mode.{is_template, is_tpl_element}
use Rattle.ecma_state.specs.TokenAt.{lookahead_from, placed, read_opened, token_at, token_found, token_of}
use Rattle.ecma_state.specs.declared.mode.Mode.{Mode}
use Rattle.ecma_state.specs.declared.lookahead.Lookahead.{Lookahead}
use Rattle.ecma_reads.proofs.FrontLemmas.{token_at-some}

-- what is read in a template, where text stands before or not

pub data TextReads (after : Bool) (text : Text) : Type 0 where
  SomeText : 0 < length (template_text after text).spelling → TextReads after text
  EmptyText : after ≡ false → ((opened n : ℕ) → kind_of (token_of (template_value opened n (template_text after text).value)) ≡ Template) → TextReads after text

behind-kind : (n : ℕ) (refusal : Option ErrorView) (ps : List TemplatePiece) → kind_of (token_behind n (token_of_refusal refusal ps)) ≡ Template
behind-kind n None ps = refl
behind-kind n (Some error) ps = refl

text-kind : (b : Bool) (ps : List TemplatePiece) (opened n : ℕ) → kind_of (token_of (template_value opened n (text_of ps (cond b AtBackQuote AtDollarBrace)).value)) ≡ Template
text-kind true ps opened n = behind-kind n _ ps
text-kind false ps opened n = behind-kind n _ ps

text-spelling : (ps : List TemplatePiece) (e : TemplateEnd) → (text_of ps e).spelling ≡ raw_text ps
text-spelling ps AtEnd = refl
text-spelling ps AtBackQuote = refl
text-spelling ps AtDollarBrace = refl

some-bytes : (text : Text) → 0 < byte_len text → 0 < length text
some-bytes [] some = absurd (omega (arith, some))
some-bytes (c ∷ cs) some = omega arith

pub text-reads : (after : Bool) (c : ℕ) (cs : Text) → TextReads after (c ∷ cs)
text-reads true c cs = SomeText (some-bytes (template_text true (c ∷ cs)).spelling (template_goes_on c cs))
text-reads false c cs = go (raw_text ps) refl
  where
    ps : List TemplatePiece
    ps = pieces template_cutter tt (c ∷ cs)

    left : Text
    left = remainder template_cutter tt (c ∷ cs)

    go : (raw : Text) → raw_text ps ≡ raw → TextReads false (c ∷ cs)
    go (d ∷ ds) e =
        let long : length (template_text false (c ∷ cs)).spelling ≡ length (d ∷ ds) = ap length (text-spelling ps (template_end left) ∙ e) in
        SomeText (omega (arith, long))
    go [] e =
        let all : left ≡ c ∷ cs = ap (λ front. front ++ left) (sym e) ∙ (template_tiles (c ∷ cs)).0 in
        EmptyText refl
        (λ opened n. ap (λ l. kind_of (token_of (template_value opened n (text_of ps (template_end l)).value))) all ∙ text-kind (c == 96) ps opened n)

-- what is read in any mode

pub data Reads (mode : Mode) (flag : Bool) (text : Text) : Type 0 where
  Something : 0 < length (token_at mode flag text).spelling → Reads mode flag text
  Nothing : is_tpl_element mode.previous ≡ false → ((n : ℕ) → kind_of (token_of (token_found mode flag n text).value) ≡ Template) → Reads mode flag text

pub token-reads : (mode : Mode) (flag : Bool) (c : ℕ) (cs : Text) → Reads mode flag (c ∷ cs)
token-reads mode flag c cs = go (is_template mode.top) refl
  where
    opened_as : Bool → Lookahead
    opened_as b = lookahead_from b (opens_number (c ∷ cs)) (opens_string (c ∷ cs)) (opens_word (c ∷ cs)) (flag && opens_bars (c ∷ cs))

    spelt : Bool → ℕ
    spelt b = length (read_opened (opened_as b) mode (c ∷ cs)).spelling

    kind : Bool → ℕ → TokenKind
    kind b n = kind_of (token_of (placed (opened_as b) mode n (read_opened (opened_as b) mode (c ∷ cs))).value)

    in-template : is_template mode.top ≡ true → TextReads (is_tpl_element mode.previous) (c ∷ cs) → Reads mode flag (c ∷ cs)
    in-template e (SomeText some) = Something (subst (λ b. 0 < spelt b) (sym e) some)
    in-template e (EmptyText none is) = Nothing none (λ n. ap (λ b. kind b n) e ∙ is mode.opened.0 n)

    go : (b : Bool) → is_template mode.top ≡ b → Reads mode flag (c ∷ cs)
    go true e = in-template e (text-reads (is_tpl_element mode.previous) c cs)
    go false e = Something (token_at-some mode flag c cs e)
