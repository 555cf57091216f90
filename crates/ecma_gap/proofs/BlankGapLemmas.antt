-- Gaps of white space alone.
use Rattle.std.proofs.Common.{◌≡◌, ℕ, Bool, true, false, cond, ◌==◌, ◌∷◌, ◌++◌, [], length, drop, refl, sym, ap, subst, ◌∙◌, Option, Some, None, eqb-true}
use Rattle.std.specs.Prelude.{◌||◌, ◌&&◌, IfSome, not, codes, option_map, replicate, slice_get}
use Rattle.std.specs.List.{list_any, prefix_len, take_while}
use Rattle.std.proofs.Math.Bool.{and-false}
use Rattle.std.proofs.lemmas.Bool.{or_parts}
use Rattle.ecma_place.specs.Text.{Text}
use Rattle.ecma_place.specs.Character.{is_white_space, is_line_terminator}
use Rattle.ecma_place.specs.Cursor.{Cursor, ascii_of, rest, place, passed}
use Rattle.ecma_place.proofs.CursorLemmas.{ascii-is}
use Rattle.ecma_gap.specs.BlankGaps.{IsBlankGap, IsTold, may_begin, told_of}
use Rattle.ecma_gap.specs.declared.blank_gap.BlankGap.{BlankGap}
use Rattle.ecma_grammar.specs.Comments.{collected, comments_of}
use Rattle.ecma_grammar.specs.Fronts.{begins_with, next_passes}
use Rattle.ecma_grammar.specs.Gaps.{element, elements, faults_of, flagged_element, gap, gap_cutter, is_marker, marks, special_element}
use Rattle.ecma_grammar.specs.Pieces.{spelled}
use Rattle.ecma_gap.specs.GapRecords.{nothing_read, with_flag}
use Rattle.ecma_grammar.specs.declared.gap_mode.GapMode.{GapMode}
use Rattle.ecma_grammar.proofs.GapForms.{cond_false}
use Rattle.ecma_gap.proofs.NextElements.{special-flagged}
use Rattle.ecma_gap.proofs.GapSoFarLemmas.{ended-at, gap-reads, white-passed, white-stops, whole-ended, whole-is}

-- no white space stands first
pub no-white : (text : Text) → next_passes is_white_space text ≡ false → (prefix_len is_white_space text ≡ 0) × (take_while is_white_space text ≡ [])
no-white [] e = (refl, refl)
no-white (c ∷ cs) e = rw e (refl, refl)

-- where no element may stand behind the white space, it is the gap
pub blank-gap : (mode : GapMode) (now behind : Cursor) (terminator : Bool)
    → behind ≡ passed (prefix_len is_white_space (rest now)) now
    → terminator ≡ list_any is_line_terminator (take_while is_white_space (rest now))
    → element mode (mode.first || terminator) (rest behind) ≡ None
    → mode.template ≡ false → mode.keeps_space ≡ false
    → IsBlankGap mode now behind (mode.first || terminator)
blank-gap mode now behind terminator moved said none template keeps =
    let r = nothing_read mode.first in
    let same =
    white-passed (gap_cutter mode) (λ flag. flag) (gap-reads mode) mode now behind r terminator moved said
    ∙ whole-is (gap_cutter mode) (λ flag. flag) mode now r in
    let ended = ended-at mode behind (with_flag (mode.first || terminator) r) _ _ same (whole-ended (gap_cutter mode) (λ flag. flag) mode behind (with_flag (mode.first || terminator) r) none) in
    let all : gap mode (rest now) ≡ elements mode (rest now) = rw (template, keeps) refl in
    record {
      line_break = ap (λ es. mode.first || list_any is_line_terminator (spelled (gap_cutter mode) es)) all ∙ sym ended.flag;
      comments = ap (λ es. collected mode.collect (comments_of mode.prev mode.first (place now) es (rest now))) all ∙ sym ended.comments;
      faults = ap (faults_of None (place now)) all ∙ sym ended.faults;
      moved = sym ended.ends ∙ ap (λ es. passed (length (spelled (gap_cutter mode) es)) now) (sym all);
    }

-- Which texts begin no element

longer : (xs ys text : Text) → begins_with xs text ≡ false → begins_with (xs ++ ys) text ≡ false
longer [] ys text e = cc
longer (x ∷ xs) ys [] e = refl
longer (x ∷ xs) ys (c ∷ cs) e = go (c == x) e (longer xs ys cs)
  where
    go : (b : Bool) → (b && begins_with xs cs) ≡ false → (begins_with xs cs ≡ false → begins_with (xs ++ ys) cs ≡ false) → (b && begins_with (xs ++ ys) cs) ≡ false
    go false e more = refl
    go true e more = more e

-- of the characters of a marker, `<` is told by the second
no-marker : (type_mode : Bool) (c : ℕ) (cs : Text) → (c == 61) ≡ false → (c == 62) ≡ false → begins_with (codes "<<") (c ∷ cs) ≡ false
    → is_marker type_mode c (c ∷ cs) ≡ false
no-marker type_mode c cs equals greater less = go (c == 60) refl
  where
    go : (b : Bool) → (c == 60) ≡ b → is_marker type_mode c (c ∷ cs) ≡ false
    go true e =
        let seven = longer (codes "<<") (codes "<<<<<") (c ∷ cs) less in
        ap (λ x. begins_with (replicate 7 x) (c ∷ cs) && marks type_mode c (drop 6 cs)) (eqb-true c 60 e) ∙ ap (λ x. x && marks type_mode c (drop 6 cs)) seven
    go false e = rw (equals, greater, e) (and-false (begins_with (replicate 7 c) (c ∷ cs)))

none-begins : (mode : GapMode) (flag : Bool) (c : ℕ) (cs : Text) → is_white_space c ≡ false → may_begin flag (c ∷ cs) ≡ false → element mode flag (c ∷ cs) ≡ None
none-begins mode flag c cs white none =
    cond_false _ _ _ white ∙ cond_false _ _ _ slashes.0 ∙ cond_false _ _ _ slashes.1 ∙ special flag sides.1
  where
    text : Text
    text = c ∷ cs

    sides : (((begins_with (codes "//") text || begins_with (codes "/*") text) || (begins_with (codes "<!") text || begins_with (codes "<<") text)) ≡ false)
        × ((flag && ((c == 45 || c == 61) || c == 62)) ≡ false)
    sides = or_parts _ _ none

    openings : ((begins_with (codes "//") text || begins_with (codes "/*") text) ≡ false) × ((begins_with (codes "<!") text || begins_with (codes "<<") text) ≡ false)
    openings = or_parts _ _ sides.0

    slashes : (begins_with (codes "//") text ≡ false) × (begins_with (codes "/*") text ≡ false)
    slashes = or_parts _ _ openings.0

    less : (begins_with (codes "<!") text ≡ false) × (begins_with (codes "<<") text ≡ false)
    less = or_parts _ _ openings.1

    special : (flag : Bool) → (flag && ((c == 45 || c == 61) || c == 62)) ≡ false → special_element mode.type_mode flag text ≡ None
    special flag e = special-flagged mode.type_mode flag text (ap (λ x. x && not mode.type_mode) (longer (codes "<!") (codes "--") text less.0)) ∙ go flag e
      where
        go : (flag : Bool) → (flag && ((c == 45 || c == 61) || c == 62)) ≡ false → cond flag (flagged_element mode.type_mode text) None ≡ None
        go false e = refl
        go true e =
            let flagged = or_parts _ _ e in
            let marks = or_parts _ _ flagged.0 in
            cond_false _ _ _ (ap (λ x. x && begins_with (codes "->") cs) marks.0)
            ∙ cond_false _ _ _ (no-marker mode.type_mode c cs marks.1 flagged.1 less.1)

-- white space begins none of another kind, either
pub none-next : (mode : GapMode) (flag : Bool) (text : Text) (c : ℕ) → slice_get text 0 ≡ Some c → next_passes is_white_space text ≡ false → may_begin flag text ≡ false
    → element mode flag text ≡ None
none-next mode flag [] c e white none = cc
none-next mode flag (d ∷ ds) c e white none = none-begins mode flag d ds white none

-- what is told at a text
pub record Tells (flag : Bool) (text : Text) (gap : BlankGap) : Type 0 where
  pub first : slice_get text 0 ≡ Some gap.next
  pub none : may_begin flag text ≡ false
  pub line_break : flag ≡ gap.line_break

pub told-parts : (flag : Bool) (text : Text) → IfSome (told_of flag text) (Tells flag text)
told-parts flag text = go (may_begin flag text) (ascii_of (slice_get text 0)) refl refl
  where
    go : (b : Bool) (o : Option ℕ) → may_begin flag text ≡ b → ascii_of (slice_get text 0) ≡ o
        → IfSome (cond b None (option_map (λ c. let gap : BlankGap = record { line_break = flag; next = c } in gap) o)) (Tells flag text)
    go true o e f = tt
    go false None e f = tt
    go false (Some c) e f = record { first = ascii-is _ _ f; none = e; line_break = refl }

pub if-told : (o : Option BlankGap) (P Q : BlankGap → Type 0) → IfSome o P → ((gap : BlankGap) → P gap → Q gap) → IfSome o Q
if-told None P Q p f = tt
if-told (Some gap) P Q p f = f gap p

-- so it is told before a character with which no element may begin
pub told : (flag : Bool) (now behind : Cursor) (terminator : Bool) (c : ℕ)
    → behind ≡ passed (prefix_len is_white_space (rest now)) now
    → terminator ≡ list_any is_line_terminator (take_while is_white_space (rest now))
    → slice_get (rest behind) 0 ≡ Some c → may_begin (flag || terminator) (rest behind) ≡ false
    → (mode : GapMode) → mode.first ≡ flag → mode.template ≡ false → mode.keeps_space ≡ false → IsBlankGap mode now behind (flag || terminator)
told flag now behind terminator c moved said first none mode is template keeps =
    let same : (mode.first || terminator) ≡ (flag || terminator) = ap (λ b. b || terminator) is in
    subst (IsBlankGap mode now behind) same
    (blank-gap mode now behind terminator moved said
    (none-next mode (mode.first || terminator) (rest behind) c first (white-stops now behind moved) (ap (λ b. may_begin b (rest behind)) same ∙ none)) template keeps)

pub told-gap : (flag collect : Bool) (now behind : Cursor) (terminator : Bool) (o : Option BlankGap) → behind ≡ passed (prefix_len is_white_space (rest now)) now
    → terminator ≡ list_any is_line_terminator (take_while is_white_space (rest now)) → o ≡ told_of (flag || terminator) (rest behind) → IfSome o (IsTold flag collect now behind)
told-gap flag collect now behind terminator o moved said is =
    subst (λ (x : Option BlankGap). IfSome x (IsTold flag collect now behind)) (sym is)
    (if-told (told_of (flag || terminator) (rest behind)) (Tells (flag || terminator) (rest behind)) (IsTold flag collect now behind) (told-parts (flag || terminator) (rest behind))
    (λ gap t. (
      t.first,
      λ mode is template keeps collects. subst (IsBlankGap mode now behind) t.line_break (told flag now behind terminator gap.next moved said t.first t.none mode is template keeps),
    )))
