-- Each move of a row that is right opens and closes what its token does: one lemma for each move
use Rattle.std.proofs.Common.{◌≡◌, ◌∙◌, ◌≤◌, ◌<◌, ◌⊎◌, ap, subst, sym, inl, inr, not, ℕ, ◌+◌, zero, suc, Bool, true, false, List, [], ◌∷◌, Option, Some, None, refl, arith, if◌then◌else◌}
use Rattle.std.specs.List.{slice_get}
use Rattle.ecma_role_table.specs.declared.part.PartKind.{PartKind}
use Rattle.ecma_role_table.specs.declared.part.PartKind.TheVariants.{Sign}
use Rattle.ecma_role_table.specs.declared.part.Sign.TheVariants as sign
use Rattle.ecma_role_table.specs.declared.frame.Around.{Around}
use Rattle.ecma_role_table.specs.declared.frame.Frame.{Frame}
use Rattle.ecma_role_table.specs.declared.frame.FrameKind.{FrameKind}
use Rattle.ecma_role_table.specs.declared.frame.FrameKind.TheVariants as frame
use Rattle.ecma_role_table.specs.declared.frame.Kinds.{Kinds}
use Rattle.ecma_role_table.specs.declared.frame.Kinds.TheVariants as kinds
use Rattle.ecma_role_table.specs.declared.state.State.{State}
use Rattle.ecma_role_table.specs.declared.state.State.TheVariants as state
use Rattle.ecma_role_table.specs.declared.moves.Angles.{Angles}
use Rattle.ecma_role_table.specs.declared.moves.Angles.TheVariants as angles
use Rattle.ecma_role_table.specs.declared.moves.Change.{Change}
use Rattle.ecma_role_table.specs.declared.moves.Grouping.{Grouping}
use Rattle.ecma_role_table.specs.declared.moves.Grouping.TheVariants as grouping
use Rattle.ecma_role_table.specs.declared.moves.Move.{Move}
use Rattle.ecma_role_table.specs.declared.moves.Move.TheVariants as move
use Rattle.ecma_role_table.specs.Frames.{is_of, is_template, over_parameters_candidate}
use Rattle.ecma_role_moves.specs.Moves.{Landed, angle, angle_over, annotated, back_of, behind_annotation, behind_brace, behind_candidate, behind_comma, behind_method, behind_no_class, body_of, brace_over, bracket_over, by_head, by_mark, candidate_behind, candidate_from, candidate_in_object, changed, class_body_of, colon_in, colon_over, colon_plain, colon_waits, comma_in, decorated_of, decorating, equals_behind, fresh_of, greater_at, is_waiting, landed, last_candidate, moved, next_candidate, operand_for_key, operand_for_member, paren_over, semi_at, type_angles, without_arrow, word_turned}
use Rattle.ecma_role_moves.specs.Nest.{Nested, dropped, kind_at, kind_in, no_function, outside, pending, popped, popped_from, popped_times, top, turned, turned_frames, under}
use Rattle.ecma_role_laws.specs.Brackets.{Bracket, Enclosed, Parentheses, Squares, Braces, Template, bracket_of, enclosed, enclosing, in_text}
use Rattle.ecma_role_laws.proofs.Right.{AClassHead, ADecorator, AFunctionHead, AType, base, bracket_in, is_bracket, is_code, is_done, is_kept, is_kind, is_plain, is_right, is_safe, is_soft, is_there, leads, meets}
use Rattle.ecma_role_laws.proofs.Frames.{Reached, and_left, and_right, bracket_opened, chained, chained_base, chained_rest, dropped_frames, outside_reaches, popped_kept, top_of, turned_kept}
use Rattle.ecma_role_laws.proofs.Changes.{change_kept, change_opened, dropped_kept, pushed_kept, soft_candidates, soft_conditionals, soft_marks, soft_type_conditions, turned_opened}
use Rattle.ecma_role_laws.proofs.Taken.{Closed, EffectOf, GoesBack, Taken, brace_taken, plain_taken}

abbrev Kept : Nested → Nested → Type 0
Kept after before = enclosing after.frames ≡ enclosing before.frames

pub not_true : (b : Bool) → not b ≡ true → b ≡ false
not_true b h = grind (arith, h)

code-text : (s : State) → is_code s ≡ true → in_text s ≡ false
code-text s code = grind (arith, code)

-- a change, where the token is taken into account
no-both : (b : Bracket) (fs outer : List Frame) → is_bracket Braces (Some b) ≡ false → Some (enclosed Braces fs) ≡ Some (enclosed b outer) → ⊥
no-both b fs outer other is = grind (arith, other, is)

no-other : (b : Bracket) (fs outer : List Frame) → is_bracket Braces (bracket_in (top_of fs)) ≡ true → is_bracket Braces (Some b) ≡ false → enclosing fs ≡ Some (enclosed b outer) → ⊥
no-other b [] outer braces other is = absurd cc
no-other b (f ∷ fs) outer braces other is = no-both b fs outer other (sym (bracket_opened Braces f fs braces) ∙ is)

done-taken : (kind : PartKind) (c : Change) (s : State) (nest : Nested) → is_done kind (top nest) c ≡ true → leads kind s ≡ true → Taken kind (enclosing nest.frames) (changed c nest).frames s
done-taken (Sign sign.LParen) c s nest d l = (change_opened Parentheses c nest d, not_true (in_text s) l)
done-taken (Sign sign.LBracket) c s nest d l = (change_opened Squares c nest d, not_true (in_text s) l)
done-taken (Sign sign.LBrace) c s nest d l = (change_opened Braces c nest d, not_true (in_text s) l)
done-taken (Sign sign.BackQuote) c s nest d l = (change_opened Template c nest d, l)
done-taken (Sign sign.RParen) c s nest d l = λ outer is. absurd (no-other Parentheses nest.frames outer (and_right (is_kept (top nest) c) (is_bracket Braces (bracket_in (top nest))) d) refl is)
done-taken (Sign sign.RBracket) c s nest d l = λ outer is. absurd (no-other Squares nest.frames outer (and_right (is_kept (top nest) c) (is_bracket Braces (bracket_in (top nest))) d) refl is)
done-taken (Sign sign.RBrace) c s nest d l = cc
done-taken kind c s nest d l = (change_kept c nest d, not_true (in_text s) l)

-- states that are none of the text of a template or of a clause
fresh-code : (over : Option FrameKind) → is_code (fresh_of over) ≡ true
fresh-code over = grind arith

member-code : (over : Option FrameKind) → is_code (operand_for_member (fresh_of over)) ≡ true
member-code over = grind arith

key-code : (over : Option FrameKind) → is_code (operand_for_key (fresh_of over)) ≡ true
key-code over = grind arith

back-code : (over : Option FrameKind) → is_code (back_of over) ≡ true
back-code over = grind arith

method-code : (over : Option FrameKind) → is_code (behind_method over) ≡ true
method-code over = grind arith

head-code : (head : Option FrameKind) (s : State) → is_code s ≡ true → is_code (by_head head s) ≡ true
head-code head s code = grind (arith, code)

no-class-code : (head : Option FrameKind) → is_code (behind_no_class head) ≡ true
no-class-code head = grind arith

decorated-code : (head : Option FrameKind) → is_code (decorated_of head) ≡ true
decorated-code head = grind arith

annotation-code : (over : Option FrameKind) → is_code (behind_annotation over) ≡ true
annotation-code over = grind arith

mark-code : (mark : Option FrameKind) (s : State) → is_code s ≡ true → is_code (by_mark mark s) ≡ true
mark-code mark s code = grind (arith, code)

comma-code : (over : Option FrameKind) → in_text (behind_comma over) ≡ false
comma-code over = grind arith

candidate-text : (over : Option FrameKind) → in_text (behind_candidate over) ≡ false
candidate-text over = grind arith

semi-text : (s : State) (nest : Nested) → in_text s ≡ false → in_text (semi_at s nest).state ≡ false
semi-text s nest text = grind (arith, text)

semi-kept : (s : State) (nest : Nested) → (semi_at s nest).nest.frames ≡ nest.frames
semi-kept s nest = grind arith

decorating-text : (over : Option FrameKind) (s : State) → in_text s ≡ false → in_text (decorating over s) ≡ false
decorating-text over s text = grind (arith, text)

brace-text : (kind : FrameKind) (over : Option FrameKind) → in_text (behind_brace kind over) ≡ false
brace-text frame.Method over = code-text (back_of over) (back-code over)
brace-text kind over = grind arith

-- heads are no brackets
soft-function : (over : Option FrameKind) → meets AFunctionHead over ≡ true → is_soft (bracket_in over) ≡ true
soft-function over met = grind (arith, met)

there-function : (over : Option FrameKind) → meets AFunctionHead over ≡ true → is_there over ≡ true
there-function over met = grind (arith, met)

soft-class : (over : Option FrameKind) → meets AClassHead over ≡ true → is_soft (bracket_in over) ≡ true
soft-class over met = grind (arith, met)

there-class : (over : Option FrameKind) → meets AClassHead over ≡ true → is_there over ≡ true
there-class over met = grind (arith, met)

soft-decorator : (over : Option FrameKind) → meets ADecorator over ≡ true → is_soft (bracket_in over) ≡ true
soft-decorator over met = grind (arith, met)

soft-type : (over : Option FrameKind) → meets AType over ≡ true → is_soft (bracket_in over) ≡ true
soft-type over met = grind (arith, met)

body-brace : (over : Option FrameKind) → is_bracket Braces (bracket_of (body_of over)) ≡ true
body-brace over = grind arith

class-brace : (over : Option FrameKind) → is_bracket Braces (bracket_of (class_body_of over)) ≡ true
class-brace over = grind arith

-- a type's end
type-base : (kind : FrameKind) → is_of kinds.TypeConditions kind ≡ true → base kind ≡ AType
type-base kind h = grind (arith, h)

type-outside-at : (f : Frame) (fs : List Frame) (b : Bool) → is_of kinds.TypeConditions f.kind ≡ b → chained (f ∷ fs) ≡ true → meets AType (Some f.kind) ≡ true → (meets AType (top_of fs) ≡ true → meets AType (top_of (outside kinds.TypeConditions fs)) ≡ true) → meets AType (top_of (outside kinds.TypeConditions (f ∷ fs))) ≡ true
unfolding outside
type-outside-at f fs true e ch met ih =
    let based : meets (base f.kind) (top_of fs) ≡ true = chained_base f fs ch in
    let same : base f.kind ≡ AType = type-base f.kind e in
    rw e (ih (subst (λ n. meets n (top_of fs) ≡ true) same based))
type-outside-at f fs false e ch met ih = rw e met

type-outside : (fs : List Frame) → chained fs ≡ true → meets AType (top_of fs) ≡ true → meets AType (top_of (outside kinds.TypeConditions fs)) ≡ true
type-outside [] ch met = absurd cc
type-outside (f ∷ fs) ch met = type-outside-at f fs (is_of kinds.TypeConditions f.kind) refl ch met (λ m. type-outside fs (chained_rest f fs ch) m)

-- candidates that go
popped-at : (fs : List Frame) (around pending : Around) (k : ℕ) → kind_in (slice_get (popped_from fs around pending).frames k) ≡ kind_in (slice_get fs (suc k))
popped-at [] around pending k = refl
popped-at (f ∷ fs) around pending k = refl

abbrev SoftTo : Nested → ℕ → Type 0
SoftTo nest i = (k : ℕ) → k ≤ i → is_soft (bracket_in (kind_at k nest)) ≡ true

times-kept : (n : ℕ) (nest : Nested) → ((k : ℕ) → k < n → is_soft (bracket_in (kind_at k nest)) ≡ true) → Kept (popped_times n nest) nest
unfolding popped_times
times-kept zero nest soft = refl
times-kept (suc n) nest soft =
    times-kept n (popped nest) (λ k within. rw (popped-at nest.frames nest.around nest.pending k) (soft (suc k) (omega (arith, within))))
    ∙ popped_kept nest.frames nest.around nest.pending (soft 0 (omega arith))

candidate-soft : (i j : ℕ) (over around : Option FrameKind) → candidate_from i over around ≡ Some j → (is_soft (bracket_in over) ≡ true) × ((j ≡ i) ⊎ ((j ≡ i + 1) × (is_soft (bracket_in around) ≡ true)))
candidate-soft i j over around is = grind (arith, is)

soft-of : (P : ℕ → Type 0) (i j k : ℕ) → ((k : ℕ) → k < i → P k) → P i → ((j ≡ i) ⊎ ((j ≡ i + 1) × P (i + 1))) → k ≤ j → P k
soft-of P i j k before here next within = grind (arith, before, here, next, within)

soft-at : (nest : Nested) (i j k : ℕ) → ((k : ℕ) → k < i → is_soft (bracket_in (kind_at k nest)) ≡ true) → is_soft (bracket_in (kind_at i nest)) ≡ true → ((j ≡ i) ⊎ ((j ≡ i + 1) × (is_soft (bracket_in (kind_at (i + 1) nest)) ≡ true))) → k ≤ j → is_soft (bracket_in (kind_at k nest)) ≡ true
soft-at nest i j k before here next within = soft-of (λ n. is_soft (bracket_in (kind_at n nest)) ≡ true) i j k before here next within

next-soft : (nest : Nested) (i j : ℕ) → ((k : ℕ) → k < i → is_soft (bracket_in (kind_at k nest)) ≡ true) → next_candidate nest i ≡ Some j → SoftTo nest j
next-soft nest i j before is k within =
    let found = candidate-soft i j (kind_at i nest) (kind_at (i + 1) nest) is in
    soft-at nest i j k before found.0 found.1 within

behind-soft : (nest : Nested) (at : Option ℕ) (i : ℕ) → ((j : ℕ) → at ≡ Some j → SoftTo nest j) → candidate_behind nest at ≡ Some i → SoftTo nest i
behind-soft nest None i soft is = absurd cc
behind-soft nest (Some j) i soft is = around-soft (over_parameters_candidate (kind_at j nest)) (soft j refl) is
  where
    around-soft : (b : Bool) → SoftTo nest j → (if b then None else next_candidate nest (j + 1)) ≡ Some i → SoftTo nest i
    around-soft true within is = absurd cc
    around-soft false within is = next-soft nest (j + 1) i (λ k before. within k (omega (arith, before))) is

last-soft : (a : Angles) (nest : Nested) (i : ℕ) → last_candidate a nest ≡ Some i → SoftTo nest i
last-soft angles.One nest i is = next-soft nest 0 i (λ k within. absurd (omega (arith, within))) is
last-soft angles.Two nest i is = behind-soft nest (next_candidate nest 0) i (λ j at. next-soft nest 0 j (λ k within. absurd (omega (arith, within))) at) is
last-soft angles.Three nest i is = behind-soft nest (candidate_behind nest (next_candidate nest 0)) i (λ j at. behind-soft nest (next_candidate nest 0) j (λ j at. next-soft nest 0 j (λ k within. absurd (omega (arith, within))) at) at) is

greater-kept-at : (at : Option ℕ) (nest : Nested) → ((i : ℕ) → at ≡ Some i → SoftTo nest i) → Kept (greater_at nest at).nest nest
greater-kept-at None nest soft = dropped_kept kinds.Candidates nest soft_candidates
greater-kept-at (Some i) nest soft = times-kept (i + 1) nest (λ k within. soft i refl k (omega (arith, within)))

greater-text : (at : Option ℕ) (nest : Nested) → in_text (greater_at nest at).state ≡ false
greater-text None nest = refl
greater-text (Some i) nest = candidate-text (kind_at i nest)

-- angle brackets
angle-kept : (over : Option FrameKind) (l : Landed) → top l.nest ≡ over → Kept (angle_over over l).nest l.nest
angle-kept (Some frame.InnerAngle) l is = popped_kept l.nest.frames l.nest.around l.nest.pending (rw is refl)
angle-kept (Some frame.OuterAngle) l is = popped_kept l.nest.frames l.nest.around l.nest.pending (rw is refl)
angle-kept (Some frame.ParametersAngle) l is = popped_kept l.nest.frames l.nest.around l.nest.pending (rw is refl)
angle-kept (Some frame.OperandAngle) l is = popped_kept l.nest.frames l.nest.around l.nest.pending (rw is refl)
angle-kept (Some frame.HeadAngle) l is = popped_kept l.nest.frames l.nest.around l.nest.pending (rw is refl)
angle-kept (Some frame.ArgumentsAngle) l is = popped_kept l.nest.frames l.nest.around l.nest.pending (rw is refl)
angle-kept (Some frame.AsyncAngle) l is = popped_kept l.nest.frames l.nest.around l.nest.pending (rw is refl)
angle-kept (Some frame.Candidate) l is = popped_kept l.nest.frames l.nest.around l.nest.pending (rw is refl)
angle-kept over l is = refl

angle-code : (over : Option FrameKind) (l : Landed) → is_code l.state ≡ true → is_code (angle_over over l).state ≡ true
angle-code (Some frame.HeadAngle) l code = back-code (top (popped l.nest))
angle-code over l code = grind (arith, code)

angles-kept : (a : Angles) (nest : Nested) → Kept (type_angles a nest).nest nest
angles-kept angles.One nest = angle-kept (top nest) (landed state.TypeBrackets nest) refl
angles-kept angles.Two nest =
    let l = landed state.TypeBrackets nest in
    angle-kept (top (angle l).nest) (angle l) refl ∙ angle-kept (top nest) l refl
angles-kept angles.Three nest =
    let l = landed state.TypeBrackets nest in
    angle-kept (top (angle (angle l)).nest) (angle (angle l)) refl ∙ (angle-kept (top (angle l).nest) (angle l) refl ∙ angle-kept (top nest) l refl)

angles-code : (a : Angles) (nest : Nested) → is_code (type_angles a nest).state ≡ true
angles-code angles.One nest = angle-code (top nest) (landed state.TypeBrackets nest) refl
angles-code angles.Two nest =
    let l = landed state.TypeBrackets nest in
    angle-code (top (angle l).nest) (angle l) (angle-code (top nest) l refl)
angles-code angles.Three nest =
    let l = landed state.TypeBrackets nest in
    angle-code (top (angle (angle l)).nest) (angle (angle l)) (angle-code (top (angle l).nest) (angle l) (angle-code (top nest) l refl))

-- a colon
annotation-kept : (kind : FrameKind) (nest : Nested) → is_soft (bracket_of kind) ≡ true → Kept (annotated kind nest).nest nest
annotation-kept kind nest soft = pushed_kept kind nest soft

colon-over-kept : (over : Option FrameKind) (nest : Nested) → top nest ≡ over → Kept (colon_over over nest).nest nest
colon-over-kept (Some frame.Conditional) nest is = popped_kept nest.frames nest.around nest.pending (rw is refl)
colon-over-kept (Some frame.Case) nest is = popped_kept nest.frames nest.around nest.pending (rw is refl)
colon-over-kept (Some frame.Paren) nest is = annotation-kept frame.Annotation (turned frame.ParenParameters nest) refl ∙ turned_kept frame.ParenParameters nest.frames (rw is refl)
colon-over-kept (Some frame.AsyncParen) nest is = annotation-kept frame.Annotation (turned frame.AsyncParenParameters nest) refl ∙ turned_kept frame.AsyncParenParameters nest.frames (rw is refl)
colon-over-kept (Some frame.Declaration) nest is = annotation-kept frame.Annotation nest refl
colon-over-kept (Some frame.ParenParameters) nest is = annotation-kept frame.Annotation nest refl
colon-over-kept (Some frame.AsyncParenParameters) nest is = annotation-kept frame.Annotation nest refl
colon-over-kept (Some frame.Call) nest is = annotation-kept frame.Annotation nest refl
colon-over-kept (Some frame.Parameters) nest is = annotation-kept frame.Annotation nest refl
colon-over-kept (Some frame.Control) nest is = annotation-kept frame.Annotation nest refl
colon-over-kept (Some frame.For) nest is = annotation-kept frame.Annotation nest refl
colon-over-kept (Some frame.Bracket) nest is = annotation-kept frame.Annotation nest refl
colon-over-kept (Some frame.Computed) nest is = annotation-kept frame.Annotation nest refl
colon-over-kept over nest is = refl

colon-over-text : (over : Option FrameKind) (nest : Nested) → in_text (colon_over over nest).state ≡ false
colon-over-text over nest = grind arith

without-kept-at : (b : Bool) (nest : Nested) → is_soft (bracket_in (top nest)) ≡ true → Kept (if b then popped nest else nest) nest
without-kept-at true nest soft = popped_kept nest.frames nest.around nest.pending soft
without-kept-at false nest soft = refl

without-kept : (over : Option FrameKind) (nest : Nested) → top nest ≡ over → Kept (without_arrow nest over) nest
without-kept (Some frame.Arrow) nest is = without-kept-at (is_waiting (under nest)) nest (rw is refl)
without-kept over nest is = refl

colon-plain-kept : (nest : Nested) → Kept (colon_plain nest).nest nest
colon-plain-kept nest = colon-over-kept (top (without_arrow nest (top nest))) (without_arrow nest (top nest)) refl ∙ without-kept (top nest) nest refl

colon-behind-kept : (b : Bool) (kind : FrameKind) (nest : Nested) → is_soft (bracket_of kind) ≡ true → Kept (if b then colon_plain nest else annotated kind nest).nest nest
colon-behind-kept true kind nest soft = colon-plain-kept nest
colon-behind-kept false kind nest soft = annotation-kept kind nest soft

colon-behind-text : (b : Bool) (kind : FrameKind) (nest : Nested) → in_text (if b then colon_plain nest else annotated kind nest).state ≡ false
colon-behind-text true kind nest = colon-over-text (top (without_arrow nest (top nest))) (without_arrow nest (top nest))
colon-behind-text false kind nest = refl

colon-kept : (g : Grouping) (nest : Nested) → Kept (colon_in g nest).nest nest
colon-kept grouping.None nest = colon-plain-kept nest
colon-kept grouping.Plain nest = colon-behind-kept (colon_waits nest (top nest)) frame.ReturnType nest refl
colon-kept grouping.Async nest = colon-behind-kept (colon_waits nest (top nest)) frame.AsyncReturnType nest refl

colon-text : (g : Grouping) (nest : Nested) → in_text (colon_in g nest).state ≡ false
colon-text grouping.None nest = colon-behind-text true frame.ReturnType nest
colon-text grouping.Plain nest = colon-behind-text (colon_waits nest (top nest)) frame.ReturnType nest
colon-text grouping.Async nest = colon-behind-text (colon_waits nest (top nest)) frame.AsyncReturnType nest

comma-text : (b : Bool) (over : Option FrameKind) → in_text (if b then state.KeyComma else behind_comma over) ≡ false
comma-text true over = refl
comma-text false over = comma-code over

-- brackets that close
goes-angles : (kind : FrameKind) → is_soft (bracket_of kind) ≡ true → is_of kinds.MarksAndAngles kind ≡ true
goes-angles kind soft = grind (arith, soft)

goes-braces : (kind : FrameKind) → is_soft (bracket_of kind) ≡ true → is_of kinds.InsideBraces kind ≡ true
goes-braces kind soft = grind (arith, soft)

stays-parens : (kind : FrameKind) → is_bracket Parentheses (bracket_of kind) ≡ true → is_of kinds.MarksAndAngles kind ≡ false
stays-parens kind same = grind (arith, same)

stays-squares : (kind : FrameKind) → is_bracket Squares (bracket_of kind) ≡ true → is_of kinds.MarksAndAngles kind ≡ false
stays-squares kind same = grind (arith, same)

stays-braces : (kind : FrameKind) → is_bracket Braces (bracket_of kind) ≡ true → is_of kinds.InsideBraces kind ≡ false
stays-braces kind same = grind (arith, same)

stays-template : (kind : FrameKind) → is_bracket Template (bracket_of kind) ≡ true → is_of kinds.InsideBraces kind ≡ false
stays-template kind same = grind (arith, same)

no-template : (kind : FrameKind) → is_bracket Braces (bracket_of kind) ≡ true → is_template kind ≡ false
no-template kind same = grind (arith, same)

is-template : (kind : FrameKind) → is_bracket Template (bracket_of kind) ≡ true → is_template kind ≡ true
is-template kind same = grind (arith, same)

popped-is : (fs : List Frame) (around pending : Around) (f : Frame) (outer : List Frame) → fs ≡ f ∷ outer → (popped_from fs around pending).frames ≡ outer
popped-is fs around pending f outer is = rw is refl

paren-frames : (over : Option FrameKind) (nest : Nested) → is_bracket Parentheses (bracket_in over) ≡ true → ((paren_over over nest).nest.frames ≡ (popped nest).frames) × (in_text (paren_over over nest).state ≡ false)
paren-frames (Some frame.Paren) nest same = (refl, decorating-text (top (popped nest)) state.Group refl)
paren-frames (Some frame.Call) nest same = (refl, decorating-text (top (popped nest)) state.After refl)
paren-frames over nest same = grind (arith, same)

bracket-frames : (over : Option FrameKind) (nest : Nested) → is_bracket Squares (bracket_in over) ≡ true → ((bracket_over over nest).nest.frames ≡ (popped nest).frames) × (in_text (bracket_over over nest).state ≡ false)
bracket-frames (Some frame.Computed) nest same = (refl, code-text (back_of (top (popped nest))) (back-code (top (popped nest))))
bracket-frames over nest same = grind (arith, same)

reached-top : (kinds : Kinds) (b : Bracket) (nest : Nested) (outer : List Frame) → Reached kinds b nest.frames outer → (f : Frame) × (((dropped kinds nest).frames ≡ f ∷ outer) × (is_bracket b (bracket_of f.kind) ≡ true))
reached-top which b nest outer r = (r.0, (dropped_frames which nest.frames nest.around nest.pending ∙ r.1.0, r.1.1))

paren-closed : (nest : Nested) → let l = paren_over (top (dropped kinds.MarksAndAngles nest)) (dropped kinds.MarksAndAngles nest) in Closed Parentheses (enclosing nest.frames) l.nest.frames l.state
paren-closed nest outer is =
    let d = dropped kinds.MarksAndAngles nest in
    let r = reached-top kinds.MarksAndAngles Parentheses nest outer (outside_reaches kinds.MarksAndAngles Parentheses nest.frames outer goes-angles stays-parens is) in
    let same : is_bracket Parentheses (bracket_in (top d)) ≡ true = rw r.1.0 r.1.1 in
    let p = paren-frames (top d) d same in
    (p.0 ∙ popped-is d.frames d.around d.pending r.0 outer r.1.0, p.1)

bracket-closed : (nest : Nested) → let l = bracket_over (top (dropped kinds.MarksAndAngles nest)) (dropped kinds.MarksAndAngles nest) in Closed Squares (enclosing nest.frames) l.nest.frames l.state
bracket-closed nest outer is =
    let d = dropped kinds.MarksAndAngles nest in
    let r = reached-top kinds.MarksAndAngles Squares nest outer (outside_reaches kinds.MarksAndAngles Squares nest.frames outer goes-angles stays-squares is) in
    let same : is_bracket Squares (bracket_in (top d)) ≡ true = rw r.1.0 r.1.1 in
    let p = bracket-frames (top d) d same in
    (p.0 ∙ popped-is d.frames d.around d.pending r.0 outer r.1.0, p.1)

brace-frames : (over : Option FrameKind) (nest : Nested) → is_bracket Braces (bracket_in over) ≡ true → ((brace_over over nest).nest.frames ≡ (popped nest).frames) × (in_text (brace_over over nest).state ≡ false)
brace-frames None nest same = absurd cc
brace-frames (Some kind) nest same = rw (no-template kind same) (refl, brace-text kind (top (popped nest)))

brace-back : (over : Option FrameKind) (nest : Nested) → is_bracket Template (bracket_in over) ≡ true → ((brace_over over nest).nest.frames ≡ nest.frames) × (in_text (brace_over over nest).state ≡ true)
brace-back None nest same = absurd cc
brace-back (Some kind) nest same = rw (is-template kind same) (refl, refl)

brace-closed : (nest : Nested) → let l = brace_over (top (dropped kinds.InsideBraces nest)) (dropped kinds.InsideBraces nest) in Closed Braces (enclosing nest.frames) l.nest.frames l.state
brace-closed nest outer is =
    let d = dropped kinds.InsideBraces nest in
    let r = reached-top kinds.InsideBraces Braces nest outer (outside_reaches kinds.InsideBraces Braces nest.frames outer goes-braces stays-braces is) in
    let same : is_bracket Braces (bracket_in (top d)) ≡ true = rw r.1.0 r.1.1 in
    let p = brace-frames (top d) d same in
    (p.0 ∙ popped-is d.frames d.around d.pending r.0 outer r.1.0, p.1)

brace-goes-back : (nest : Nested) → let l = brace_over (top (dropped kinds.InsideBraces nest)) (dropped kinds.InsideBraces nest) in GoesBack (enclosing nest.frames) l.nest.frames l.state
brace-goes-back nest outer is =
    let d = dropped kinds.InsideBraces nest in
    let r = reached-top kinds.InsideBraces Template nest outer (outside_reaches kinds.InsideBraces Template nest.frames outer goes-braces stays-template is) in
    let same : is_bracket Template (bracket_in (top d)) ≡ true = rw r.1.0 r.1.1 in
    let p = brace-back (top d) d same in
    let there : enclosing d.frames ≡ Some (enclosed Template outer) = rw r.1.0 (bracket_opened Template r.0 outer r.1.1) in
    (ap enclosing p.0 ∙ (there ∙ sym is), p.1)

-- the kinds of tokens that moves are for
taken-brace : (kind : PartKind) (was : Option Enclosed) (after : List Frame) (s : State) → is_kind Braces kind ≡ true → Closed Braces was after s → GoesBack was after s → Taken kind was after s
taken-brace (Sign sign.RBrace) was after s is closed back = (closed, back)
taken-brace kind was after s is closed back = cc

taken-paren : (kind : PartKind) (was : Option Enclosed) (after : List Frame) (s : State) → is_kind Parentheses kind ≡ true → Closed Parentheses was after s → Taken kind was after s
taken-paren (Sign sign.RParen) was after s is closed = closed
taken-paren kind was after s is closed = cc

taken-bracket : (kind : PartKind) (was : Option Enclosed) (after : List Frame) (s : State) → is_kind Squares kind ≡ true → Closed Squares was after s → Taken kind was after s
taken-bracket (Sign sign.RBracket) was after s is closed = closed
taken-bracket kind was after s is closed = cc

word-effect : (s : State) (kind : PartKind) (nest : Nested) (was : Option Enclosed) → is_plain kind ≡ true → is_code s ≡ true → enclosing nest.frames ≡ was → EffectOf kind was (word_turned s kind nest).turn (word_turned s kind nest).nest.frames
word-effect state.Operand kind nest was plain code kept = plain_taken kind was nest.frames state.Operand plain kept refl
word-effect s kind nest was plain code kept = (kept, (code, inl refl))

equals-effect : (s : State) (kind : PartKind) (after : List Frame) (was : Option Enclosed) → is_plain kind ≡ true → is_code s ≡ true → enclosing after ≡ was → EffectOf kind was (equals_behind s) after
equals-effect state.TypeBrackets kind after was plain code kept = plain_taken kind was after state.TypeBrackets plain kept refl
equals-effect s kind after was plain code kept = (kept, (code, inr (plain, refl)))

pub move_right : (m : Move) (kind : PartKind) (nest : Nested) → chained nest.frames ≡ true → is_safe (top nest) m ≡ true → is_right kind (top nest) m ≡ true → EffectOf kind (enclosing nest.frames) (moved m kind nest).turn (moved m kind nest).nest.frames
unfolding moved
move_right (move.To s c) kind nest ch safe right = done-taken kind c s nest (and_left (is_done kind (top nest) c) (leads kind s) right) (and_right (is_done kind (top nest) c) (leads kind s) right)
move_right (move.Again s c) kind nest ch safe right = (change_kept c nest (and_left (is_kept (top nest) c) (is_code s) right), (and_right (is_kept (top nest) c) (is_code s) right, inl refl))
move_right move.Fresh kind nest ch safe right = (dropped_kept kinds.Marks nest soft_marks, (fresh-code (top (dropped kinds.Marks nest)), inl refl))
move_right move.FreshOperand kind nest ch safe right = (dropped_kept kinds.Marks nest soft_marks, (member-code (top (dropped kinds.Marks nest)), inl refl))
move_right move.FreshBrace kind nest ch safe right = (dropped_kept kinds.Marks nest soft_marks, (key-code (top (dropped kinds.Marks nest)), inl refl))
move_right move.FreshWord kind nest ch safe right = word-effect (fresh_of (top (dropped kinds.Marks nest))) kind (dropped kinds.Marks nest) (enclosing nest.frames) right (fresh-code (top (dropped kinds.Marks nest))) (dropped_kept kinds.Marks nest soft_marks)
move_right move.Brace kind nest ch safe right =
    let n = pending no_function nest in
    let l = brace_over (top (dropped kinds.InsideBraces n)) (dropped kinds.InsideBraces n) in
    taken-brace kind (enclosing nest.frames) l.nest.frames l.state right (brace-closed n) (brace-goes-back n)
move_right move.Paren kind nest ch safe right =
    let l = paren_over (top (dropped kinds.MarksAndAngles nest)) (dropped kinds.MarksAndAngles nest) in
    taken-paren kind (enclosing nest.frames) l.nest.frames l.state right (paren-closed nest)
move_right move.Bracket kind nest ch safe right =
    let l = bracket_over (top (dropped kinds.MarksAndAngles nest)) (dropped kinds.MarksAndAngles nest) in
    taken-bracket kind (enclosing nest.frames) l.nest.frames l.state right (bracket-closed nest)
move_right move.Semi kind nest ch safe right =
    let d = dropped kinds.Marks nest in
    let l = semi_at (fresh_of (top d)) d in
    plain_taken kind (enclosing nest.frames) l.nest.frames l.state right (ap enclosing (semi-kept (fresh_of (top d)) d) ∙ dropped_kept kinds.Marks nest soft_marks) (semi-text (fresh_of (top d)) d (code-text (fresh_of (top d)) (fresh-code (top d))))
move_right move.Comma kind nest ch safe right =
    let d = dropped kinds.Conditionals nest in
    plain_taken kind (enclosing nest.frames) d.frames (comma_in d).state right (dropped_kept kinds.Conditionals nest soft_conditionals) (comma-text (candidate_in_object d) (top d))
move_right (move.Colon g) kind nest ch safe right =
    let d = dropped kinds.Candidates nest in
    plain_taken kind (enclosing nest.frames) (colon_in g d).nest.frames (colon_in g d).state right (colon-kept g d ∙ dropped_kept kinds.Candidates nest soft_candidates) (colon-text g d)
move_right (move.Greater a) kind nest ch safe right =
    let l = greater_at nest (last_candidate a nest) in
    plain_taken kind (enclosing nest.frames) l.nest.frames l.state right (greater-kept-at (last_candidate a nest) nest (λ i at. last-soft a nest i at)) (greater-text (last_candidate a nest) nest)
move_right (move.TypeGreater a true) kind nest ch safe right = equals-effect (type_angles a nest).state kind (type_angles a nest).nest.frames (enclosing nest.frames) right (angles-code a nest) (angles-kept a nest)
move_right (move.TypeGreater a false) kind nest ch safe right = plain_taken kind (enclosing nest.frames) (type_angles a nest).nest.frames (type_angles a nest).state right (angles-kept a nest) (code-text (type_angles a nest).state (angles-code a nest))
move_right move.Body kind nest ch safe right = brace_taken kind (enclosing nest.frames) (turned_frames (body_of (top nest)) nest.frames) state.Statement right (turned_opened Braces (body_of (top nest)) nest.frames (there-function (top nest) safe) (soft-function (top nest) safe) (body-brace (top nest))) refl
move_right move.ClassBody kind nest ch safe right = brace_taken kind (enclosing nest.frames) (turned_frames (class_body_of (top nest)) nest.frames) state.Member right (turned_opened Braces (class_body_of (top nest)) nest.frames (there-class (top nest) safe) (soft-class (top nest) safe) (class-brace (top nest))) refl
move_right move.NoBody kind nest ch safe right = (popped_kept nest.frames nest.around nest.pending (soft-function (top nest) safe), (head-code (top nest) (behind_method (top (popped nest))) (method-code (top (popped nest))), inl refl))
move_right move.NoClassBody kind nest ch safe right = (popped_kept nest.frames nest.around nest.pending (soft-class (top nest) safe), (no-class-code (top nest), inl refl))
move_right move.NoDecorator kind nest ch safe right = (popped_kept nest.frames nest.around nest.pending (soft-decorator (top nest) safe), (decorated-code (top nest), inl refl))
move_right move.EndType kind nest ch safe right =
    let d = dropped kinds.TypeConditions nest in
    let met : meets AType (top d) ≡ true = rw (dropped_frames kinds.TypeConditions nest.frames nest.around nest.pending) (type-outside nest.frames ch safe) in
    (popped_kept d.frames d.around d.pending (soft-type (top d) met) ∙ dropped_kept kinds.TypeConditions nest soft_type_conditions, (mark-code (top d) (behind_annotation (top (popped d))) (annotation-code (top (popped d))), inl refl))
move_right move.Substitution kind nest ch safe right = cc
move_right move.EndTemplate kind nest ch safe right = cc
