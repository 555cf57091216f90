-- The numbers that words of the command line write. Their form is our own choice.
use Rattle.std.specs.Prelude.{ℕ, ◌^◌, Bool, true, ◌&&◌, List, [], ◌∷◌, Option, Some, None, if◌then◌else◌, nat_le, nat_lt}
use Rattle.std.specs.Str.Parse.{digits_value}

abbrev pub are_digits : List ℕ → Bool
are_digits [] = true
are_digits (c ∷ cs) = (nat_le 48 c && nat_le c 57) && are_digits cs

-- a number from 1 to 18,446,744,073,709,551,615, without a leading zero
abbrev pub number_of : List ℕ → Option ℕ
number_of [] = None
number_of (c ∷ cs) =
    if (nat_le 49 c && are_digits (c ∷ cs)) && nat_lt (digits_value 10 (c ∷ cs)) (2 ^ 64) then Some (digits_value 10 (c ∷ cs)) else None
