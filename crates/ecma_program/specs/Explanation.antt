-- What the program says of itself beside what it writes: the words of its lines are our own choice.
use Rattle.std.specs.Prelude.{ℕ, List, [], ◌∷◌, ◌++◌, codes, if◌then◌else◌, ◌==◌}

abbrev pub failed : List ℕ
failed = codes "ecma_lex: a read or a write failed" ++ 10 ∷ []

abbrev pub words : List ℕ
words = codes "ecma_lex: the words are tokens, errors, comments, canon or classes, then any of ts, module, strict, standard and reread N, where the Nth token is a slash" ++ 10 ∷ []

-- the line behind an exit status
abbrev pub explanation : ℕ → List ℕ
explanation status = if status == 1 then failed else (if status == 2 then words else [])
