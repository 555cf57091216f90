-- The place behind one at which no element is closed.
use Rattle.std.proofs.Common.{◌≡◌, ◌∙◌, ℕ, zero, suc, ◌+◌, ◌<◌, false, ◌||◌, List, [], ◌∷◌, length, drop, sym, ap, arith}
use Rattle.ecma_messages.specs.Jsx.{closes_element, looks_like_jsx}

behind : (bytes : List ℕ) (n : ℕ) → n < length bytes → closes_element (drop n bytes) ≡ false → looks_like_jsx (drop (suc n) bytes) ≡ looks_like_jsx (drop n bytes)
behind [] n within none = absurd (omega (arith, within))
behind (b ∷ bs) zero within none = ap (λ closes. closes || looks_like_jsx bs) (sym none)
behind (b ∷ bs) (suc n) within none = behind bs n (omega (arith, within)) none

pub passed : (bytes : List ℕ) (n : ℕ) → n < length bytes → closes_element (drop n bytes) ≡ false → looks_like_jsx (drop (n + 1) bytes) ≡ looks_like_jsx (drop n bytes)
passed bytes n within none =
    let next : n + 1 ≡ suc n = omega arith in
    ap (λ k. looks_like_jsx (drop k bytes)) next ∙ behind bytes n within none
