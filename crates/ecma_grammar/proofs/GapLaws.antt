-- The elements of a gap and what follows them tile the text.
use Rattle.std.proofs.Common.{◌≡◌, ℕ, Bool, true, false, not, cond, ◌&&◌, ◌||◌, ◌==◌, List, [], ◌∷◌, ◌++◌, drop, length, Option, Some, None, refl, ap, ◌∙◌, sym}
use Rattle.std.proofs.lemmas.Bool.{and_right, not-true}
use Rattle.std.specs.Prelude.{codes, replicate}
use Rattle.std.specs.List.{list_any}
use Rattle.std.proofs.Math.Bool.{or_assoc}
use Rattle.std.proofs.lemmas.List.Folds.{list_any-append}
use Rattle.ecma_place.specs.Text.{Text}
use Rattle.ecma_place.specs.Character.{is_white_space, is_line_terminator}
use Rattle.ecma_grammar.specs.declared.gap_mode.GapMode.{GapMode}
use Rattle.ecma_grammar.specs.Fronts.{line, begins_with, next_is}
use Rattle.ecma_grammar.specs.Pieces.{spelled, state_behind}
use Rattle.ecma_grammar.specs.Gaps.{Element, Blank, Marker, element_text, is_marker, marker, flagged_element, special_element, element, flag_behind, gap_cutter, elements, elements_if, elements_under, gap, GapTiles, GapIsFront, FlagIsBehind, NoElement, NothingIsTheGap, SpaceIsTheGap, LineFeedIsTheGap}
use Rattle.ecma_grammar.proofs.GapForms.{cond_true, cond_false, gap_is_cutter}
use Rattle.ecma_grammar.proofs.PieceLemmas.{pieces_more, pieces_none, tiling, maximal}

pub gap_tiles : GapTiles
gap_tiles mode text = (tiling (gap_cutter mode) (gap_is_cutter mode) mode.first text, maximal (gap_cutter mode) (gap_is_cutter mode) mode.first text)

-- a gap is empty, or has all the elements
pub gap_cases : (P : List Element → Type 0) (mode : GapMode) (text : Text) → P [] → P (elements mode text) → P (gap mode text)
gap_cases P mode text none all = under mode.template mode.keeps_space
  where
    within : (o : Option Element) → P (elements_if o mode text)
    within None = none
    within (Some e) = all

    under : (x y : Bool) → P (elements_under x y mode text)
    under true y = none
    under false true = within (special_element mode.type_mode mode.first text)
    under false false = all

pub gap_is_front : GapIsFront
gap_is_front mode text =
    gap_cases (λ es. spelled (gap_cutter mode) es ++ drop (length (spelled (gap_cutter mode) es)) text ≡ text) mode text refl (gap_tiles mode text).0

or_false : (a : Bool) → (a || false) ≡ a
or_false true = refl
or_false false = refl

pub state_is_flag : (mode : GapMode) (flag : Bool) (es : List Element)
    → (flag || list_any is_line_terminator (spelled (gap_cutter mode) es)) ≡ state_behind (gap_cutter mode) flag es
state_is_flag mode flag [] = or_false flag
state_is_flag mode flag (e ∷ es) =
    let here = list_any is_line_terminator (element_text e) in
    let more = list_any is_line_terminator (spelled (gap_cutter mode) es) in
    ap (λ b. flag || b) (list_any-append is_line_terminator (element_text e) (spelled (gap_cutter mode) es))
    ∙ sym (or_assoc flag here more)
    ∙ state_is_flag mode (flag_behind flag e) es

pub flag_is_behind : FlagIsBehind
flag_is_behind mode text = state_is_flag mode mode.first (gap mode text)

-- What begins no element

not_or : (a b : Bool) → not (a || b) ≡ true → (not a ≡ true) × (b ≡ false)
not_or true b h = cc
not_or false true h = cc
not_or false false h = (refl, refl)

marker_none : (type_mode : Bool) (c : ℕ) (cs : Text) → (c == 61) ≡ false → (c == 60) ≡ false → (c == 62) ≡ false → marker type_mode (c ∷ cs) ≡ None
marker_none type_mode c cs equals less greater =
    let no : (c == 61 || (((c == 60 || c == 62) && not type_mode) && next_is 32 (drop 6 cs))) ≡ false = rw (equals, less, greater) in
    cond_false (is_marker type_mode c (c ∷ cs)) (Some (Marker c (line (drop 6 cs)))) None (and_right (begins_with (replicate 7 c) (c ∷ cs)) _ no)

pub special_none : (type_mode flag : Bool) (c : ℕ) (cs : Text) → (c == 45) ≡ false → (c == 61) ≡ false → (c == 60) ≡ false → (c == 62) ≡ false
    → special_element type_mode flag (c ∷ cs) ≡ None
special_none type_mode flag c cs dash equals less greater =
    cond_false _ _ _ (ap (λ x. (x && begins_with (codes "!--") cs) && not type_mode) less) ∙ go flag
  where
    go : (flag : Bool) → cond flag (flagged_element type_mode (c ∷ cs)) None ≡ None
    go false = refl
    go true = cond_false _ _ _ (ap (λ x. x && begins_with (codes "->") cs) dash) ∙ marker_none type_mode c cs equals less greater

pub no_element : NoElement
no_element mode flag c cs h =
    let a = not_or _ (c == 62) h in
    let b = not_or _ (c == 61) a.0 in
    let d = not_or _ (c == 45) b.0 in
    let e = not_or _ (c == 60) d.0 in
    let f = not_or _ (c == 47) e.0 in
    cond_false _ _ _ (not-true _ f.0)
    ∙ cond_false _ _ _ (ap (λ x. x && begins_with (codes "/") cs) f.1)
    ∙ cond_false _ _ _ (ap (λ x. x && begins_with (codes "*") cs) f.1)
    ∙ special_none mode.type_mode flag c cs d.1 b.1 e.1 a.1

-- What a separator makes of a gap

pub nothing_is_the_gap : NothingIsTheGap
nothing_is_the_gap mode text none = gap_cases (λ es. es ≡ []) mode text refl (pieces_none (gap_cutter mode) mode.first text none)

space_is_white : is_white_space 32 ≡ true
unfolding is_white_space
space_is_white = refl

feed_is_white : is_white_space 10 ≡ true
unfolding is_white_space
feed_is_white = refl

space_keeps_flag : (flag : Bool) → flag_behind flag (Blank 32) ≡ flag
unfolding is_line_terminator
space_keeps_flag flag = or_false flag

feed_sets_flag : (flag : Bool) → flag_behind flag (Blank 10) ≡ true
unfolding is_line_terminator
feed_sets_flag true = refl
feed_sets_flag false = refl

-- a white space character before a text that begins no element behind it is the whole gap
blank_is_the_gap : (c : ℕ) → is_white_space c ≡ true → (mode : GapMode) (text : Text) → mode.template ≡ false → mode.keeps_space ≡ false
    → element mode (flag_behind mode.first (Blank c)) text ≡ None → gap mode (c ∷ text) ≡ Blank c ∷ []
blank_is_the_gap c white mode text template keeps none =
    let read : element mode mode.first (c ∷ text) ≡ Some (Blank c) = cond_true _ _ _ white in
    ap (λ b. elements_under b mode.keeps_space mode (c ∷ text)) template
    ∙ ap (λ b. elements_under false b mode (c ∷ text)) keeps
    ∙ pieces_more (gap_cutter mode) (gap_is_cutter mode) mode.first (c ∷ text) (Blank c) read
    ∙ ap (λ l. Blank c ∷ l) (pieces_none (gap_cutter mode) (flag_behind mode.first (Blank c)) text none)

pub space_is_the_gap : SpaceIsTheGap
space_is_the_gap mode text template keeps none =
    let whole = blank_is_the_gap 32 space_is_white mode text template keeps (ap (λ b. element mode b text) (space_keeps_flag mode.first) ∙ none) in
    (whole, ap (λ es. mode.first || list_any is_line_terminator (spelled (gap_cutter mode) es)) whole ∙ space_keeps_flag mode.first)

pub line_feed_is_the_gap : LineFeedIsTheGap
line_feed_is_the_gap mode text template keeps none =
    let whole = blank_is_the_gap 10 feed_is_white mode text template keeps (ap (λ b. element mode b text) (feed_sets_flag mode.first) ∙ none) in
    (whole, ap (λ es. mode.first || list_any is_line_terminator (spelled (gap_cutter mode) es)) whole ∙ feed_sets_flag mode.first)
