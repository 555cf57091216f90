-- Which options have a meaning for what is asked for. Our own choice.
use Rattle.std.specs.Prelude.{ℕ, Bool, true, false, not, ◌||◌, List, bytes_eq, codes, if◌then◌else◌}
use Rattle.ecma_command.specs.declared.words.Face.{Face}
use Rattle.ecma_command.specs.declared.words.Face.TheVariants.{Tokens, Comments, Errors, Canonical, Classes, Html, Show, Imports, Exports}

-- it writes rows, which may have lines and columns
abbrev pub has_rows : Face → Bool
has_rows Tokens = true
has_rows Comments = true
has_rows Errors = true
has_rows Canonical = false
has_rows Classes = true
has_rows Html = false
has_rows Show = false
has_rows Imports = true
has_rows Exports = true

abbrev pub is_tokens : Face → Bool
is_tokens Tokens = true
is_tokens _ = false

abbrev pub is_imports : Face → Bool
is_imports Imports = true
is_imports _ = false

abbrev pub is_html : Face → Bool
is_html Html = true
is_html _ = false

abbrev pub is_show : Face → Bool
is_show Show = true
is_show _ = false

-- the values of tokens, calls of CommonJS, whole pages, colours, the unit of columns (which those below a shown line never are),
-- lines and columns, the names of files; all other options have a meaning for each
abbrev pub takes : Face → List ℕ → Bool
takes face option =
    if bytes_eq option (codes "values") then is_tokens face
    else (if bytes_eq option (codes "commonjs") then is_imports face
    else (if bytes_eq option (codes "page") then is_html face
    else (if bytes_eq option (codes "color") then is_show face
    else (if bytes_eq option (codes "columns") then not (is_show face)
    else (if bytes_eq option (codes "lines") then has_rows face
    else (if bytes_eq option (codes "with-filename") || bytes_eq option (codes "no-filename") then has_rows face || is_show face
    else true))))))
