-- What contracts see of an `Atom`: its bytes, and whether it borrows them. Our own choice.
use Rattle.std.specs.Prelude.{ℕ, Bool, true, false, List}
use Rattle.std.specs.declared.borrow.CowStr.{CowStr}
use Rattle.std.specs.declared.borrow.CowStr.TheVariants.{Borrowed, Owned}

pub record AtomView : Type 0 where
  pub bytes : List ℕ
  pub is_borrowed : Bool

-- the atom that borrows these bytes from the source
abbrev pub borrowed_atom : List ℕ → AtomView
borrowed_atom bytes = record { bytes = bytes; is_borrowed = true }

-- the atom that owns these bytes
abbrev pub owned_atom : List ℕ → AtomView
owned_atom bytes = record { bytes = bytes; is_borrowed = false }

-- whether the text is a slice
abbrev pub is_borrowed_of : {Z : Type 0} → CowStr Z → Bool
is_borrowed_of (Borrowed r) = true
is_borrowed_of (Owned s) = false
