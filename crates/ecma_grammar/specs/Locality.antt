-- Which texts stand by themselves: a token that is read cleanly is read the same whatever else may follow it.
use Rattle.std.specs.Prelude.{◌≡◌, Bool, true, false, not, ◌&&◌, ◌||◌, ◌==◌, [], ◌∷◌, ◌++◌, Result, Ok, Err, List}
use Rattle.std.specs.List.{list_all}
use Rattle.ecma_place.specs.Text.{Text}
use Rattle.ecma_token.specs.View.{ErrorView}
use Rattle.ecma_grammar.specs.declared.found.Blame.{Blame}
use Rattle.ecma_grammar.specs.declared.found.Blame.TheVariants.{Always}
use Rattle.ecma_grammar.specs.Found.{Fault, Scanned}
use Rattle.ecma_grammar.specs.Fronts.{next_is}

abbrev pub is_always : Blame → Bool
is_always Always = true
is_always blame = false

-- no fault that counts whatever the code is
abbrev pub has_clean_faults : List Fault → Bool
has_clean_faults faults = list_all (λ f. not (is_always f.blame)) faults

abbrev pub is_accepted : {A : Type 0} → Result A ErrorView → Bool
is_accepted (Ok value) = true
is_accepted (Err error) = false

-- read without refusal, and without a fault that counts whatever the code is
abbrev pub is_clean : {A : Type 0} → Scanned A → Bool
is_clean s = is_accepted s.value && has_clean_faults s.faults

-- the text is empty, or begins with a space or a line feed
abbrev pub separates : Text → Bool
separates [] = true
separates (c ∷ cs) = c == 32 || c == 10

-- the text begins with a back quote or `${`
abbrev pub ends_template : Text → Bool
ends_template [] = false
ends_template (c ∷ cs) = c == 96 || (c == 36 && next_is 123 cs)

-- the text is empty, or begins with a line feed
abbrev pub ends_line : Text → Bool
ends_line [] = true
ends_line (c ∷ cs) = c == 10

-- What is read cleanly as b is read the same in front of every text that may follow it.
abbrev pub IsLocal : {A : Type 0} → (Text → Bool) → (Text → Scanned A) → (Text → Bool) → Type 0
IsLocal opens read may_follow =
    (b behind r : Text) → opens (b ++ behind) ≡ true → is_clean (read (b ++ behind)) ≡ true → (read (b ++ behind)).spelling ≡ b → may_follow r ≡ true
    → read (b ++ r) ≡ read (b ++ behind)
