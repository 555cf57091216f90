-- The parts of a row that are written one behind the other are the text of its object.
use Rattle.std.proofs.Common.{◌≡◌, ◌∙◌, List, ℕ, Bool, true, false, Option, Some, None, [], ◌∷◌, ◌++◌, append_assoc, ap, refl, sym}
use Rattle.std.specs.Prelude.{codes, decimal}
use Rattle.std.proofs.lemmas.Grind.{flat_map-append}
use Rattle.json.specs.Print.{escape, escape_byte, quoted}
use Rattle.serde_json.specs.Data.{object}
use Rattle.serde_json.specs.Written.{compact_text}
use Rattle.ecma_span.specs.declared.place.Span.{Span}
use Rattle.ecma_positions.specs.declared.position.Position.{Position}
use Rattle.ecma_print.specs.Rows as row_specs
use Rattle.ecma_print.specs.Rows.{ImportView, MoreView, attributes_text, before_text, behind_text, flag_text, import_end_text, line_break_text, members, phase_name, text_begin, text_data, text_end, text_part, value_in}
use Rattle.ecma_print.specs.Values as value_specs
use Rattle.ecma_print.specs.Values.{ValueView, digits_text, flags_text}

-- a piece that was added before others
pub behind : (before middle after piece rest : List ℕ) → middle ≡ before ++ piece → after ≡ middle ++ rest → after ≡ before ++ (piece ++ rest)
behind before middle after piece rest first others = others ∙ ap (λ front. front ++ rest) first ∙ append_assoc before piece rest

abbrev pub parts : List ℕ → Position → Span → List ℕ → List ℕ → MoreView → List ℕ
parts file at span kind text more =
    (codes "{\"column\":" ++ decimal at.column)
    ++ (digits_text (value_in more)
    ++ ((codes ",\"file\":" ++ quoted file)
    ++ (flags_text (value_in more)
    ++ ((codes ",\"hi\":" ++ decimal span.hi.0)
    ++ ((codes ",\"kind\":" ++ quoted kind)
    ++ ((codes ",\"line\":" ++ decimal at.line)
    ++ (line_break_text more
    ++ ((codes ",\"lo\":" ++ decimal span.lo.0)
    ++ (before_text more
    ++ ((codes ",\"text\":" ++ quoted text)
    ++ (behind_text more
    ++ codes "}")))))))))))

-- three pieces before others
pieces-before : (a b c rest : List ℕ) → (a ++ (b ++ c)) ++ rest ≡ a ++ (b ++ (c ++ rest))
pieces-before a b c rest = append_assoc a (b ++ c) rest ∙ ap (λ l. a ++ l) (append_assoc b c rest)

-- what comes before the text of an import, and what is behind it
abbrev import_front : List ℕ → Position → Span → List ℕ → List ℕ → List ℕ
import_front file at span kind rest =
    (codes "{\"column\":" ++ decimal at.column)
    ++ ((codes ",\"file\":" ++ quoted file)
    ++ ((codes ",\"hi\":" ++ decimal span.hi.0)
    ++ ((codes ",\"kind\":" ++ quoted kind)
    ++ ((codes ",\"line\":" ++ decimal at.line)
    ++ ((codes ",\"lo\":" ++ decimal span.lo.0)
    ++ rest)))))

abbrev import_back : List ℕ → ImportView → List ℕ
import_back text i = (codes ",\"text\":" ++ quoted text) ++ (import_end_text i ++ codes "}")

abbrev import_of : Option (List ℕ) → Span → Bool → Option Span → ImportView
import_of phase statement is_type attributes = record { phase = phase; is_type = is_type; statement = statement; attributes = attributes }

abbrev EndsAs : List ℕ → Position → Span → List ℕ → List ℕ → ImportView → Type 0
EndsAs file at span kind text i =
    import_front file at span kind
    ((codes ",\"phase\":" ++ quoted (phase_name i.phase))
    ++ ((codes ",\"statement_hi\":" ++ decimal i.statement.hi.0)
    ++ ((codes ",\"statement_lo\":" ++ decimal i.statement.lo.0)
    ++ import_back text i)))
    ≡ compact_text (object (members file at span kind text (row_specs.imported i)))

-- where attributes come behind all else
abbrev before_attributes : List ℕ → Position → Span → List ℕ → List ℕ → Option (List ℕ) → Span → Bool → List ℕ → List ℕ
before_attributes file at span kind text phase statement is_type rest =
    import_front file at span kind
    ((codes ",\"phase\":" ++ quoted (phase_name phase))
    ++ ((codes ",\"statement_hi\":" ++ decimal statement.hi.0)
    ++ ((codes ",\"statement_lo\":" ++ decimal statement.lo.0)
    ++ ((codes ",\"text\":" ++ quoted text)
    ++ ((codes ",\"type\":" ++ flag_text is_type)
    ++ rest)))))

attributes-before : (s : Span) → attributes_text (Some s) ++ codes "}" ≡ (codes ",\"with_hi\":" ++ decimal s.hi.0) ++ ((codes ",\"with_lo\":" ++ decimal s.lo.0) ++ codes "}")
attributes-before s = append_assoc (codes ",\"with_hi\":" ++ decimal s.hi.0) (codes ",\"with_lo\":" ++ decimal s.lo.0) (codes "}")

end-object : (file : List ℕ) (at : Position) (span : Span) (kind text : List ℕ) (phase : Option (List ℕ)) (statement : Span) (is_type : Bool) (attributes : Option Span) → EndsAs file at span kind text (import_of phase statement is_type attributes)
unfolding escape_byte
end-object file at span kind text phase statement true None = refl
end-object file at span kind text phase statement false None = refl
end-object file at span kind text phase statement true (Some s) = ap (before_attributes file at span kind text phase statement true) (attributes-before s)
end-object file at span kind text phase statement false (Some s) = ap (before_attributes file at span kind text phase statement false) (attributes-before s)

import-object : (file : List ℕ) (at : Position) (span : Span) (kind text : List ℕ) (i : ImportView) → parts file at span kind text (row_specs.imported i) ≡ compact_text (object (members file at span kind text (row_specs.imported i)))
unfolding escape_byte
import-object file at span kind text i =
    ap (import_front file at span kind) (pieces-before (codes ",\"phase\":" ++ quoted (phase_name i.phase)) (codes ",\"statement_hi\":" ++ decimal i.statement.hi.0) (codes ",\"statement_lo\":" ++ decimal i.statement.lo.0) (import_back text i))
    ∙ end-object file at span kind text i.phase i.statement i.is_type i.attributes

-- of a token with its value
valued-object : (file : List ℕ) (at : Position) (span : Span) (kind text : List ℕ) (flag : Bool) (v : ValueView) → parts file at span kind text (row_specs.valued flag v) ≡ compact_text (object (members file at span kind text (row_specs.valued flag v)))
unfolding escape_byte
valued-object file at span kind text true value_specs.no_value = refl
valued-object file at span kind text false value_specs.no_value = refl
valued-object file at span kind text true (value_specs.text_value value) = refl
valued-object file at span kind text false (value_specs.text_value value) = refl
valued-object file at span kind text true value_specs.null_value = refl
valued-object file at span kind text false value_specs.null_value = refl
valued-object file at span kind text true (value_specs.number_value radix digits None) = refl
valued-object file at span kind text false (value_specs.number_value radix digits None) = refl
valued-object file at span kind text true (value_specs.number_value radix digits (Some n)) = refl
valued-object file at span kind text false (value_specs.number_value radix digits (Some n)) = refl
valued-object file at span kind text true (value_specs.expression_value pattern flags) = refl
valued-object file at span kind text false (value_specs.expression_value pattern flags) = refl

pub parts-object : (file : List ℕ) (at : Position) (span : Span) (kind text : List ℕ) (more : MoreView) → parts file at span kind text more ≡ compact_text (object (members file at span kind text more))
unfolding escape_byte
parts-object file at span kind text row_specs.nothing = refl
parts-object file at span kind text row_specs.message = refl
parts-object file at span kind text (row_specs.line_break true) = refl
parts-object file at span kind text (row_specs.line_break false) = refl
parts-object file at span kind text (row_specs.valued flag v) = valued-object file at span kind text flag v
parts-object file at span kind text (row_specs.beside_token side token) = refl
parts-object file at span kind text (row_specs.imported i) = import-object file at span kind text i
parts-object file at span kind text (row_specs.exported (Some local) true) = refl
parts-object file at span kind text (row_specs.exported (Some local) false) = refl
parts-object file at span kind text (row_specs.exported None true) = refl
parts-object file at span kind text (row_specs.exported None false) = refl

-- the same of a whole text

abbrev text_parts : List ℕ → List ℕ → List ℕ
text_parts file text = (codes "{\"file\":" ++ quoted file) ++ ((codes ",\"text\":" ++ quoted text) ++ codes "}")

text-parts-object : (file text : List ℕ) → text_parts file text ≡ compact_text (text_data file text)
unfolding escape_byte
text-parts-object file text = refl

-- a whole text by what begins it, its bytes, and what ends it
pub text-in-parts : (file text : List ℕ) → text_begin file ++ (text_part text ++ text_end) ≡ compact_text (text_data file text)
text-in-parts file text =
    let front : List ℕ = codes "{\"file\":" ++ quoted file in
    append_assoc front (codes ",\"text\":\"") (escape text ++ text_end)
    ∙ ap (λ l. front ++ (codes ",\"text\":\"" ++ l)) (sym (append_assoc (escape text) (34 ∷ []) (codes "}")))
    ∙ text-parts-object file text

pub text_part-append : (xs ys : List ℕ) → text_part (xs ++ ys) ≡ text_part xs ++ text_part ys
text_part-append xs ys = flat_map-append escape_byte xs ys
