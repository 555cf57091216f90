-- The table of words: the keywords, the literal words and the known names.
use Rattle.std.specs.Prelude.{ℕ, Bool, List, [], ◌∷◌, ◌++◌, map, nat_eq}
use Rattle.std.specs.Cmp.Lexicographic.{pointwise}
use Rattle.ecma_word.specs.KnownIdent.{all_known}
use Rattle.ecma_word.specs.Keyword.{all_keywords}
use Rattle.ecma_word.specs.Word.{word_text}
use Rattle.ecma_word.specs.declared.word.IdentLike.TheVariants.{Known}
use Rattle.ecma_word.specs.declared.word.Word.{Word}
use Rattle.ecma_word.specs.declared.word.Word.TheVariants.{Keyword, Null, True, False, Ident}

unfoldable pub table_of_words : List Word
table_of_words = map Keyword all_keywords ++ (Null ∷ True ∷ False ∷ []) ++ map (λ k. Ident (Known k)) all_known

-- this is the text of the word
abbrev pub has_text : List ℕ → Word → Bool
has_text text word = pointwise nat_eq (word_text word) text
