-- A page of a text. The form is our own choice.
use Rattle.std.specs.Prelude.{ℕ, ◌==◌, List, [], ◌∷◌, ◌++◌, codes, flat_map, if◌then◌else◌}
use Rattle.ecma_html.specs.Markup.{escaped}
use Rattle.ecma_html.specs.declared.page.TheConstants.{HEAD, MIDDLE, STYLE, TAIL}

-- an element whose number the stylesheet counts
abbrev pub line_mark : List ℕ
line_mark = codes "<i></i>" ++ 10 ∷ []

abbrev pub mark_behind : ℕ → List ℕ
mark_behind b = if b == 10 then line_mark else []

-- one for the first line, and one behind each line feed
abbrev pub line_marks : List ℕ → List ℕ
line_marks bytes = line_mark ++ flat_map mark_behind bytes

-- what is before the text, which its title, and a mark for each of its lines, are part of
abbrev pub front_of : List ℕ → List ℕ → List ℕ
front_of title source = HEAD.now ++ (escaped title ++ (STYLE.now ++ (line_marks source ++ MIDDLE.now)))

-- of a text that has this markup
abbrev pub page_of : List ℕ → List ℕ → List ℕ → List ℕ
page_of title source html = front_of title source ++ (html ++ TAIL.now)
