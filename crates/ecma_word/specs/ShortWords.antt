-- The table of words by one place for each word, worked out of its text.
use Rattle.std.specs.Prelude.{ℕ, Bool, List, [], ◌+◌, ◌-◌, ◌*◌, ◌%◌, ◌&&◌, take, length, slice_index_or, nat_eq}
use Rattle.std.specs.Cmp.Lexicographic.{pointwise}
use Rattle.ecma_word.specs.Word.{word_of, word_text, word_kind}
use Rattle.ecma_word.specs.declared.word.Word.{Word}
use Rattle.ecma_word.specs.declared.word.WordKind.{WordKind}
use Rattle.ecma_word.specs.declared.word.WordKind.TheVariants as kind
use Rattle.ecma_word.specs.declared.keyword.Keyword.TheVariants as keyword
use Rattle.ecma_word.specs.declared.short_words.Row.{Row}

-- the place of a word: by its first, second and last byte and its length
unfoldable pub hash : List ℕ → ℕ
hash text = (slice_index_or text 0 0 * 207 + slice_index_or text 1 0 * 192 + slice_index_or text (length text - 1) 0 * 34 + length text * 227) % 256

-- the text of a row
abbrev pub row_text : Row → List ℕ
row_text row = take row.length row.text

-- the kind that a row holds, and that of the word that its text is
abbrev pub row_kind : Row → WordKind
row_kind row = row.kind

abbrev pub row_word : Row → WordKind
row_word row = word_kind (word_of (row_text row))

-- what is read past the rows
abbrev pub no_row : Row
no_row = record { text = []; length = 0; kind = kind.Keyword keyword.Await }

-- this row has this text
abbrev pub holds : List ℕ → Row → Bool
holds text row = nat_eq row.length (length text) && pointwise nat_eq (row_text row) text

-- the row where a text would stand
abbrev pub row_for : List Row → List ℕ → Row
row_for rows text = slice_index_or rows (hash text) no_row

-- the row at its place has the text of this word
abbrev pub is_placed : List Row → Word → Bool
is_placed rows word = holds (word_text word) (row_for rows (word_text word))
