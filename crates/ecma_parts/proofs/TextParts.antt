-- What template text, what closes it, and a shebang keep as parts of the grammar.
use Rattle.std.proofs.Common.{◌≡◌, Bool, true, false, [], ◌∷◌, ◌++◌, Option, Some, None, refl, ap, ◌∙◌}
use Rattle.clean_runs.specs.Parts.{StartsLine, is_text, may_open}
use Rattle.ecma_joining.proofs.BoundariesLaws.{shebang_stands_alone}
use Rattle.ecma_joining.proofs.OwnContextsLemmas.{contexts_stay_own}
use Rattle.ecma_joining.specs.OwnContexts.{are_own}
use Rattle.ecma_place.specs.Text.{Text}
use Rattle.ecma_reads.specs.Found.{scanned}
use Rattle.ecma_reads.specs.Fronts.{next_is}
use Rattle.ecma_reads.specs.Locality.{ends_line, ends_template}
use Rattle.ecma_reads.specs.Shebangs.{opens_shebang, shebang_of, shebang_spelling}
use Rattle.ecma_reads.specs.Templates.{last_refusal, token_of_refusal}
use Rattle.ecma_state.specs.State.{is_shebang, is_slash}
use Rattle.ecma_state.specs.Transition.{tpl_on_top, transition}
use Rattle.ecma_token.specs.Kinds.{kind_of}
use Rattle.ecma_token.specs.View.{ErrorView, plain_token}
use Rattle.ecma_token.specs.declared.kind.TokenKind.TheVariants.{BackQuote, DollarLBrace, Shebang, Template}
use Rattle.ecma_parts.proofs.PlainBearings.{IsPlain, plain_behind, shebang_keeps, template_keeps}
use Rattle.ecma_parts.specs.BareReads.{Bare, bare, bare_mark, bare_shebang, bare_text, mark_if, pieces_of}
use Rattle.ecma_parts.specs.Bearing.{Bearing, before_in, behind_kind, turned_in}
use Rattle.ecma_parts.specs.Instance.{role_of}

-- Template text

pub text_kind : (b : Bearing) (x : Text) → kind_of (bare_text b x).kind ≡ Template
text_kind b x = go (last_refusal 0 None (pieces_of x))
  where
    go : (refused : Option ErrorView) → kind_of (token_of_refusal refused (pieces_of x)) ≡ Template
    go None = refl
    go (Some error) = refl

pub text_inside : (b : Bearing) (x : Text) → (turned_in b (kind_of (bare_text b x).kind) (bare_text b x).flag).contexts ≡ b.contexts
text_inside b x = ap (λ k. (turned_in b k (bare_text b x).flag).contexts) (text_kind b x) ∙ template_keeps b (bare_text b x).flag

pub text_plain : (b : Bearing) (x : Text) → IsPlain b → IsPlain (behind_kind b (kind_of (bare_text b x).kind) (bare_text b x).flag)
text_plain b x plain =
    let none : is_shebang (kind_of (bare_text b x).kind) ≡ false = ap is_shebang (text_kind b x) in
    plain_behind b (kind_of (bare_text b x).kind) (bare_text b x).flag (ap are_own (text_inside b x) ∙ plain.contexts) (λ line. cc)

-- A back quote, or `${`

abbrev mark : Bearing → Bool → Bare
mark b quote = bare b.first (mark_if quote)

mark_role : (b : Bearing) (quote : Bool) → is_text (role_of (kind_of (mark b quote).kind)) ≡ false
mark_role b true = refl
mark_role b false = refl

mark_slash : (b : Bearing) (quote : Bool) → is_slash (kind_of (mark b quote).kind) ≡ false
mark_slash b true = refl
mark_slash b false = refl

mark_opens : (b : Bearing) (quote : Bool) → tpl_on_top (turned_in b (kind_of (mark b quote).kind) (mark b quote).flag).contexts ≡ true → may_open (role_of (kind_of (mark b quote).kind)) ≡ true
unfolding transition
mark_opens b true h = refl
mark_opens b false h = cc

mark_plain : (b : Bearing) (quote : Bool) → IsPlain b → IsPlain (behind_kind b (kind_of (mark b quote).kind) (mark b quote).flag)
mark_plain b true plain = plain_behind b BackQuote (mark b true).flag (contexts_stay_own.1 (before_in b) b.contexts (mark b true).flag plain.contexts) (λ line. cc)
mark_plain b false plain = plain_behind b DollarLBrace (mark b false).flag (contexts_stay_own.2 (before_in b) b.contexts (mark b false).flag plain.contexts) (λ line. cc)

mark_closes : (b : Bearing) (quote : Bool) (tail : Text) → ends_template ((mark b quote).bytes ++ tail) ≡ true
mark_closes b true tail = refl
mark_closes b false tail = refl

mark_again : (b : Bearing) (quote : Bool) (tail : Text) → bare_mark b ((mark b quote).bytes ++ tail) ≡ mark b quote
mark_again b true tail = refl
mark_again b false tail = refl

pub closing_role : (b : Bearing) (r : Text) → is_text (role_of (kind_of (bare_mark b r).kind)) ≡ false
closing_role b r = mark_role b (next_is 96 r)

pub closing_slash : (b : Bearing) (r : Text) → is_slash (kind_of (bare_mark b r).kind) ≡ false
closing_slash b r = mark_slash b (next_is 96 r)

pub closing_opens : (b : Bearing) (r : Text) → tpl_on_top (turned_in b (kind_of (bare_mark b r).kind) (bare_mark b r).flag).contexts ≡ true → may_open (role_of (kind_of (bare_mark b r).kind)) ≡ true
closing_opens b r h = mark_opens b (next_is 96 r) h

pub closing_plain : (b : Bearing) (r : Text) → IsPlain b → IsPlain (behind_kind b (kind_of (bare_mark b r).kind) (bare_mark b r).flag)
closing_plain b r plain = mark_plain b (next_is 96 r) plain

pub closing_closes : (b : Bearing) (r tail : Text) → ends_template ((bare_mark b r).bytes ++ tail) ≡ true
closing_closes b r tail = mark_closes b (next_is 96 r) tail

pub closing_again : (b : Bearing) (r tail : Text) → bare_mark b ((bare_mark b r).bytes ++ tail) ≡ bare_mark b r
closing_again b r tail = mark_again b (next_is 96 r) tail

-- The shebang

pub shebang_plain : (b : Bearing) (r : Text) → b.shebang_allowed ≡ true → IsPlain b → IsPlain (behind_kind b Shebang (bare_shebang r).flag)
shebang_plain b r start plain =
    plain_behind b Shebang (bare_shebang r).flag (ap are_own (shebang_keeps b (bare_shebang r).flag) ∙ plain.contexts) (λ line. plain.start start)

ends_before : (tail : Text) → StartsLine tail → ends_line tail ≡ true
ends_before [] h = refl
ends_before (c ∷ cs) h = h

pub shebang_begins : (r tail : Text) → StartsLine tail → opens_shebang ((bare_shebang r).bytes ++ tail) ≡ true
shebang_begins r tail h = (shebang_stands_alone r tail (ends_before tail h)).0

pub shebang_again : (r tail : Text) → StartsLine tail → bare_shebang ((bare_shebang r).bytes ++ tail) ≡ bare_shebang r
shebang_again r tail h =
    ap (λ l. bare false (scanned (plain_token (shebang_of l)) (shebang_spelling l))) (shebang_stands_alone r tail (ends_before tail h)).1
