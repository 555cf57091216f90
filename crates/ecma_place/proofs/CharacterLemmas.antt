-- What the sets of characters have to do with one another.
use Rattle.std.proofs.Common.{◌≡◌, ℕ, Bool, true, false, cond, ◌||◌, ◌==◌, nat_lt, refl, arith}
use Rattle.std.specs.Char.{is_ascii_alphabetic, is_ascii_alphanumeric}
use Rattle.std.proofs.lemmas.Bool.Decides.{nat_tests}
use Rattle.unicode.specs.Ident.{is_xid_start, is_xid_continue}
use Rattle.unicode.proofs.IdentLemmas.{is_xid_start-is_xid_continue}
use Rattle.ecma_place.specs.Character.{is_ident_start, is_ident_part}

or-last : (x y : Bool) → y ≡ true → (x || y) ≡ true
or-last true y h = refl
or-last false y h = h

-- a character with which a name may begin is one with which it may go on
pub is_ident_start-is_ident_part : (c : ℕ) → is_ident_start c ≡ true → is_ident_part c ≡ true
unfolding is_ident_start is_ident_part
is_ident_start-is_ident_part c h = go (nat_lt c 128) h
  where
    go : (b : Bool) → cond b ((c == 36 || c == 95) || is_ascii_alphabetic c) (is_xid_start c) ≡ true
        → cond b ((c == 36 || c == 95) || is_ascii_alphanumeric c) ((c == 0x200C || c == 0x200D) || is_xid_continue c) ≡ true
    go true h = grind (arith, nat_tests)
    go false h = or-last (c == 0x200C || c == 0x200D) (is_xid_continue c) (is_xid_start-is_xid_continue c h)
