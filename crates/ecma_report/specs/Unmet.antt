-- Places that were named and are no slash's.
use Rattle.std.specs.Prelude.{◌≡◌, ℕ, ◌==◌, List, [], ◌∷◌, ◌++◌, ◌&&◌, Bool, true, false, codes, flat_map, if◌then◌else◌, length, map, nat_lt, not, slice_index}
use Rattle.std.specs.Fmt.{decimal}
use Rattle.std.specs.List.{list_any}
use Rattle.ecma_span.specs.declared.place.BytePos.{BytePos}
use Rattle.ecma_token.specs.View.{SpannedView, TokenView, plain_token, refused_template}
use Rattle.ecma_token.specs.declared.token.Token.{Template'}
use Rattle.ecma_options.specs.Begin.{begin}
use Rattle.ecma_reader.specs.Readers.{tokens_by}
use Rattle.ecma_reader.specs.Rereads.{ascend, rereads, steps_to_end_by}
use Rattle.ecma_messages.specs.Visible.{name_text}
use Rattle.ecma_report.specs.Rows.{Look}
use Rattle.ecma_report.specs.Slashes.{rule_at}
use Rattle.ecma_report.specs.declared.unmet.NamedPlace.{NamedPlace}
use Rattle.ecma_command.specs.declared.words.Named.{Named}

-- a slash stands at a place of a text
abbrev pub is_slash : List ℕ → BytePos → Bool
is_slash text place = nat_lt place.0 (length text) && (slice_index text place.0 == 47)

abbrev pub is_template : TokenView → Bool
is_template (plain_token (Template' raw cooked)) = true
is_template (refused_template raw kind span) = true
is_template _ = false

-- a token begins with a slash; one with which template text begins is part of that
abbrev pub begins_with_slash : List ℕ → SpannedView → Bool
begins_with_slash text t = is_slash text t.span.lo && not (is_template t.token)

-- it does so at the place
abbrev pub begins_at : List ℕ → BytePos → SpannedView → Bool
begins_at text place t = begins_with_slash text t && (place.0 == t.span.lo.0)

-- one of these tokens does
abbrev pub has_slash : List ℕ → List SpannedView → BytePos → Bool
has_slash text tokens place = list_any (begins_at text place) tokens

-- each of the places, with whether this is so of it
abbrev pub named_place : (BytePos → Bool) → BytePos → NamedPlace
named_place is_so p = record { place = p; has_slash = is_so p }

abbrev pub named_places : (BytePos → Bool) → List BytePos → List NamedPlace
named_places is_so places = map (named_place is_so) places

-- with whether one of these tokens begins with a slash there
abbrev pub AreMarked : List ℕ → List BytePos → List NamedPlace → List SpannedView → Type 0
AreMarked text places marked tokens = marked ≡ named_places (has_slash text tokens) places

-- the line of a place at which none does
abbrev pub unmet_line : List ℕ → BytePos → List ℕ
unmet_line file place = name_text file ++ (codes ": no slash is read at the place " ++ (decimal place.0 ++ 10 ∷ []))

abbrev pub line_unless_slash : List ℕ → NamedPlace → List ℕ
line_unless_slash file marked = if marked.has_slash then [] else unmet_line file marked.place

abbrev pub unmet_lines : List ℕ → List NamedPlace → List ℕ
unmet_lines file marked = flat_map (line_unless_slash file) marked

-- The lines that tell of the places that were named, where so many slashes were read again. There are none where the places do
-- not ascend, since by these no slash is read again then, nor where as many were as there are places: then each of them was
-- (the law `rereads_count_met`).
abbrev pub unmet_told : Named → Look → List ℕ → List ℕ → ℕ → List ℕ
unmet_told named l file text again =
    if ascend named.places.now && not (again == length named.places.now)
    then unmet_lines file (named_places (has_slash text (tokens_by (rule_at named) (begin false l.asked.options text))) named.places.now)
    else []

-- where the text was read to its end as it is asked for; the first part says whether comments were collected
abbrev pub unmet_by : Bool → Named → Look → List ℕ → List ℕ → List ℕ
unmet_by comments named l file text = unmet_told named l file text (rereads (steps_to_end_by (rule_at named) (begin comments l.asked.options text)))
