-- The kind of a token is the same wherever it is placed.
use Rattle.std.proofs.Common.{◌≡◌, ℕ, Result, Ok, Err, refl}
use Rattle.ecma_token.specs.Kinds.{kind_of}
use Rattle.ecma_token.specs.View.{ErrorView, TokenView, error_token, plain_token, refused_template}
use Rattle.ecma_scan.specs.Found.{Scanned, token_behind, value_behind}
use Rattle.ecma_scan.specs.Templates.{template_value}
use Rattle.ecma_state.specs.TokenAt.{placed, token_of}
use Rattle.ecma_state.specs.declared.mode.Mode.{Mode}
use Rattle.ecma_state.specs.declared.lookahead.Lookahead.{Lookahead}
use Rattle.ecma_state.specs.declared.lookahead.Lookahead.TheVariants as opens

pub kind-behind : (n : ℕ) (t : TokenView) → kind_of (token_behind n t) ≡ kind_of t
kind-behind n (plain_token token) = refl
kind-behind n (refused_template raw kind span) = refl
kind-behind n (error_token kind span) = refl

pub value-kind : (n : ℕ) (value : Result TokenView ErrorView) → kind_of (token_of (value_behind token_behind n value)) ≡ kind_of (token_of value)
value-kind n (Ok token) = kind-behind n token
value-kind n (Err error) = refl

template-kind : (opened n : ℕ) (value : Result TokenView ErrorView) → kind_of (token_of (template_value opened n value)) ≡ kind_of (token_of value)
template-kind opened n (Ok token) = kind-behind n token
template-kind opened n (Err error) = refl

pub placed-kind : (o : Lookahead) (mode : Mode) (n : ℕ) (s : Scanned TokenView) → kind_of (token_of (placed o mode n s).value) ≡ kind_of (token_of s.value)
placed-kind opens.Template mode n s = template-kind mode.opened.0 n s.value
placed-kind opens.Number mode n s = value-kind n s.value
placed-kind opens.String mode n s = value-kind n s.value
placed-kind opens.Word mode n s = value-kind n s.value
placed-kind opens.Bars mode n s = value-kind n s.value
placed-kind opens.Other mode n s = value-kind n s.value
