-- Specifiers lie in the text of their tokens.
use Rattle.std.proofs.Common.{◌≡◌, ◌∙◌, ℕ, ◌+◌, ◌≤◌, List, [], ◌∷◌, ◌++◌, Option, Some, None, length, take, drop, take-append-drop, ap, sym, arith}
use Rattle.std.specs.List.{All}
use Rattle.std.specs.Str.{chars, IsUtf8}
use Rattle.std.proofs.lemmas.List.Elements.{All-cons, All-head, All-nil, All-tail}
use Rattle.std.proofs.lemmas.Str.{encodes-chars}
use Rattle.ecma_place.specs.Cursor.{HasPlace}
use Rattle.ecma_place.specs.Text.{Text, byte_len}
use Rattle.ecma_place.specs.declared.place.Span.{Span}
use Rattle.ecma_place.proofs.MoveLemmas.{byte_len-append}
use Rattle.ecma_state.specs.declared.kept.Kept.{Kept}
use Rattle.ecma_classes.specs.Classes.{StandsIn, begin, spans_of_kept}
use Rattle.ecma_imports.specs.Lines.{LiesWithin}
use Rattle.ecma_imports.specs.Stages.{form_of, next_depth, next_stage, part_of, specifiers_from, told}
use Rattle.ecma_imports.specs.declared.imported.Form.{Form}
use Rattle.ecma_imports.specs.declared.imported.Specifier.{Specifier}
use Rattle.ecma_imports.specs.declared.stage.Stage.{Stage}

front-le : (n : ℕ) (text : Text) → byte_len (take n text) ≤ byte_len text
front-le n text =
    let parts : byte_len (take n text) + byte_len (drop n text) ≡ byte_len text = sym (byte_len-append (take n text) (drop n text)) ∙ ap byte_len (take-append-drop n text) in
    omega (arith, parts)

place-within : (bytes : List ℕ) (p : ℕ) → IsUtf8 bytes → HasPlace (begin 0 (chars bytes)) p → p ≤ length bytes
place-within bytes p utf8 (n, e) =
    let bound = front-le n (chars bytes) in
    let all : byte_len (chars bytes) ≡ length bytes = ap length (encodes-chars bytes utf8) in
    omega (arith, e, bound, all)

all-told : (P : Specifier → Type 0) (form : Option Form) (span : Span) (ss : List Specifier) → ((f : Form) → P (record { form = f; span = span })) → All P ss → All P (told form span ++ ss)
all-told P None span ss one more = more
all-told P (Some f) span ss one more = All-cons P (record { form = f; span = span }) ss (one f) more

pub told-within : (bytes : List ℕ) (stage : Stage) (depth : ℕ) (kept : List Kept) → IsUtf8 bytes → All (StandsIn (begin 0 (chars bytes))) (spans_of_kept kept)
    → All (LiesWithin (length bytes)) (specifiers_from stage depth kept)
told-within bytes stage depth [] utf8 all = All-nil (LiesWithin (length bytes))
told-within bytes stage depth (k ∷ ks) utf8 all =
    let stands = All-head (StandsIn (begin 0 (chars bytes))) k.span (spans_of_kept ks) all in
    all-told (LiesWithin (length bytes)) (form_of stage (part_of k.kind)) k.span
    (specifiers_from (next_stage stage depth (part_of k.kind)) (next_depth depth (part_of k.kind)) ks)
    (λ f. (stands.in_order, place-within bytes k.span.hi.0 utf8 stands.to))
    (told-within bytes (next_stage stage depth (part_of k.kind)) (next_depth depth (part_of k.kind)) ks utf8 (All-tail (StandsIn (begin 0 (chars bytes))) k.span (spans_of_kept ks) all))
