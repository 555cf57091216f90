-- What a text opens tells which reader's condition holds.
use Rattle.std.proofs.Common.{◌≡◌, ℕ, Bool, true, false, ◌&&◌, ◌==◌, [], ◌∷◌, Some, slice_get, refl}
use Rattle.ecma_place.specs.Text.{Text}
use Rattle.ecma_grammar.specs.Bars.{opens_bars}
use Rattle.ecma_grammar.specs.Numbers.{opens_number}
use Rattle.ecma_grammar.specs.Strings.{opens_string}
use Rattle.ecma_grammar.specs.Words.{opens_word}
use Rattle.ecma_state.specs.Mode.{is_template}
use Rattle.ecma_state.specs.TokenAt.{Opens, lookahead, lookahead_from}
use Rattle.ecma_state.specs.declared.mode.Mode.{Mode}
use Rattle.ecma_state.specs.declared.lookahead.Lookahead.{Lookahead}
use Rattle.ecma_state.specs.declared.lookahead.Lookahead.TheVariants as opens

pub number-opens : (mode : Mode) (flag : Bool) (text : Text) → opens.Number ≡ lookahead mode flag text → opens_number text ≡ true
number-opens mode flag text e = go (is_template mode.top) (opens_number text) (opens_string text) (opens_word text) (flag && opens_bars text) e
  where
    go : (template number string word bars : Bool) → opens.Number ≡ lookahead_from template number string word bars → number ≡ true
    go true number string word bars e = cc
    go false true string word bars e = refl
    go false false true word bars e = cc
    go false false false true bars e = cc
    go false false false false true e = cc
    go false false false false false e = cc

pub string-opens : (mode : Mode) (flag : Bool) (text : Text) → opens.String ≡ lookahead mode flag text → opens_string text ≡ true
string-opens mode flag text e = go (is_template mode.top) (opens_number text) (opens_string text) (opens_word text) (flag && opens_bars text) e
  where
    go : (template number string word bars : Bool) → opens.String ≡ lookahead_from template number string word bars → string ≡ true
    go true number string word bars e = cc
    go false true string word bars e = cc
    go false false true word bars e = refl
    go false false false true bars e = cc
    go false false false false true e = cc
    go false false false false false e = cc

pub word-opens : (mode : Mode) (flag : Bool) (text : Text) → opens.Word ≡ lookahead mode flag text → opens_word text ≡ true
word-opens mode flag text e = go (is_template mode.top) (opens_number text) (opens_string text) (opens_word text) (flag && opens_bars text) e
  where
    go : (template number string word bars : Bool) → opens.Word ≡ lookahead_from template number string word bars → word ≡ true
    go true number string word bars e = cc
    go false true string word bars e = cc
    go false false true word bars e = cc
    go false false false true bars e = refl
    go false false false false true e = cc
    go false false false false false e = cc

-- where the flag stands
both : (flag b : Bool) → (flag && b) ≡ true → b ≡ true
both true b h = h
both false b h = cc

pub bars-open : (mode : Mode) (flag : Bool) (text : Text) → opens.Bars ≡ lookahead mode flag text → opens_bars text ≡ true
bars-open mode flag text e = both flag (opens_bars text) (go (is_template mode.top) (opens_number text) (opens_string text) (opens_word text) (flag && opens_bars text) e)
  where
    go : (template number string word bars : Bool) → opens.Bars ≡ lookahead_from template number string word bars → bars ≡ true
    go true number string word bars e = cc
    go false true string word bars e = cc
    go false false true word bars e = cc
    go false false false true bars e = cc
    go false false false false true e = refl
    go false false false false false e = cc

-- what its reader asks for holds of what a text opens, but for bars
pub opens-reader : (mode : Mode) (flag : Bool) (text : Text) (opened : Lookahead) → opened ≡ lookahead mode flag text → (opened ≡ opens.Bars → ⊥) → Opens opened text
opens-reader mode flag text opens.Template e other = tt
opens-reader mode flag text opens.Number e other = number-opens mode flag text e
opens-reader mode flag text opens.String e other = string-opens mode flag text e
opens-reader mode flag text opens.Word e other = word-opens mode flag text e
opens-reader mode flag text opens.Bars e other = other refl
opens-reader mode flag text opens.Other e other = tt

-- they begin with a bar
pub no-bars : (text : Text) (c : ℕ) → slice_get text 0 ≡ Some c → (c == 124) ≡ false → opens_bars text ≡ false
no-bars [] c e other = refl
no-bars (a ∷ cs) c e other =
    let same : a ≡ c = cc in
    rw (same, other) refl
