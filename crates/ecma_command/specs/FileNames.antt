-- What the name of a file says of it, and which files of a directory are read.
use Rattle.std.specs.Prelude.{ℕ, ◌==◌, Bool, not, ◌&&◌, ◌||◌, List, codes, bytes_eq}
use Rattle.std.specs.List.{ends_with, starts_with}
use Rattle.ecma_command.specs.declared.file_names.Chosen.{Chosen}
use Rattle.ecma_command.specs.declared.words.Asked.{Asked}

abbrev pub has_ending : List ℕ → List ℕ → Bool
has_ending name ending = ends_with (λ a b. a == b) name ending

abbrev pub is_typescript : List ℕ → Bool
is_typescript name = has_ending name (codes ".ts") || (has_ending name (codes ".mts") || (has_ending name (codes ".cts") || has_ending name (codes ".tsx")))

abbrev pub is_module : List ℕ → Bool
is_module name = has_ending name (codes ".mts") || has_ending name (codes ".mjs")

abbrev pub has_jsx : List ℕ → Bool
has_jsx name = has_ending name (codes ".jsx") || has_ending name (codes ".tsx")

-- it holds ECMAScript or TypeScript, and no JSX
abbrev pub is_source : List ℕ → Bool
is_source name =
    has_ending name (codes ".js") || (has_ending name (codes ".mjs") || (has_ending name (codes ".cjs") || (has_ending name (codes ".ts") || (has_ending name (codes ".mts") || has_ending name (codes ".cts")))))

-- it is passed over in a directory, where hidden files are not asked for
abbrev pub is_hidden : List ℕ → Bool
is_hidden name = starts_with (λ a b. a == b) name (codes ".") || bytes_eq name (codes "node_modules")

-- it is read in a directory, or looked into
abbrev pub is_chosen : Chosen → List ℕ → Bool → Bool
is_chosen chosen name is_directory = (chosen.hidden || not (is_hidden name)) && (is_directory || (is_source name || (chosen.as_is && has_jsx name)))

-- it is passed over in a directory for its JSX alone
abbrev pub is_left_for_jsx : Chosen → List ℕ → Bool
is_left_for_jsx chosen name = has_jsx name && (not chosen.as_is && (chosen.hidden || not (is_hidden name)))

-- what is asked for of a file, where the words say this
abbrev pub for_file : Asked → List ℕ → Asked
for_file asked name =
    record asked {
      options = record asked.options { typescript = asked.options.typescript || is_typescript name; «module» = asked.options.«module» || is_module name };
    }
