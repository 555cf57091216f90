-- What plain steps keep of what a read goes by.
use Rattle.std.proofs.Common.{◌≡◌, Bool, true, false, ◌||◌, [], ◌∷◌, refl}
use Rattle.std.proofs.lemmas.Bool.{and_from}
use Rattle.ecma_joining.specs.OwnContexts.{are_own}
use Rattle.ecma_state.specs.Contexts.{Contexts, innermost}
use Rattle.ecma_state.specs.Mode.{is_template, keeps_space}
use Rattle.ecma_state.specs.State.{is_shebang}
use Rattle.ecma_state.specs.Transition.{tpl_on_top, transition}
use Rattle.ecma_contexts.specs.declared.token_context.TokenContext.TheVariants.{JSXExpr, Tpl}
use Rattle.ecma_token.specs.declared.kind.TokenKind.{TokenKind}
use Rattle.ecma_token.specs.declared.kind.TokenKind.TheVariants.{Regex, Shebang, Template}
use Rattle.ecma_parts.specs.Bearing.{Bearing, behind_kind, turned_in}
use Rattle.ecma_parts.specs.Instance.{was_shebang}

-- what plain steps keep: own contexts, and that no token but a shebang was given at the start and behind a shebang
pub record IsPlain (b : Bearing) : Type 0 where
  pub contexts : are_own b.contexts ≡ true
  pub start : b.shebang_allowed ≡ true → b.first ≡ true
  pub line : was_shebang b.previous ≡ true → b.first ≡ true

-- Where no template's text is read

pub no_template : (contexts : Contexts) → tpl_on_top contexts ≡ false → is_template (innermost contexts) ≡ false
no_template [] h = refl
no_template (Tpl ∷ below) h = cc
no_template (top ∷ below) h = refl

pub keeps_none : (contexts : Contexts) → are_own contexts ≡ true → keeps_space (innermost contexts) ≡ false
keeps_none [] h = refl
keeps_none (JSXExpr ∷ around) h = cc
keeps_none (top ∷ around) h = refl

-- Tokens

pub plain_behind : (b : Bearing) (kind : TokenKind) (flag : Bool) → are_own (turned_in b kind flag).contexts ≡ true → (is_shebang kind ≡ true → b.first ≡ true) → IsPlain (behind_kind b kind flag)
plain_behind b kind flag contexts first =
    record {
      contexts = contexts;
      start = λ none. cc;
      line = λ line. and_from (is_shebang kind) b.first line (first line);
    }

-- template text, a shebang and an expression leave the contexts as they are

pub template_keeps : (b : Bearing) (flag : Bool) → (turned_in b Template flag).contexts ≡ b.contexts
unfolding transition
template_keeps b flag = refl

pub shebang_keeps : (b : Bearing) (flag : Bool) → (turned_in b Shebang flag).contexts ≡ b.contexts
unfolding transition
shebang_keeps b flag = refl

pub expression_keeps : (b : Bearing) (flag : Bool) → (turned_in b Regex flag).contexts ≡ b.contexts
unfolding transition
expression_keeps b flag = refl

pub or_none : (x : Bool) → (x || false) ≡ x
or_none true = refl
or_none false = refl
