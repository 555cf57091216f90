-- Each move leaves frames of which each has what it needs, and a state that has what it needs: one lemma for each move
use Rattle.std.proofs.Common.{◌≡◌, ◌||◌, ℕ, ◌+◌, zero, suc, Bool, true, false, List, Option, Some, None, refl, arith, if◌then◌else◌}
use Rattle.ecma_role_table.specs.declared.part.PartKind.{PartKind}
use Rattle.ecma_role_table.specs.declared.frame.Frame.{Frame}
use Rattle.ecma_role_table.specs.declared.frame.FrameKind.{FrameKind}
use Rattle.ecma_role_table.specs.declared.frame.FrameKind.TheVariants as frame
use Rattle.ecma_role_table.specs.declared.frame.Kinds.TheVariants as kinds
use Rattle.ecma_role_table.specs.declared.state.State.{State}
use Rattle.ecma_role_table.specs.declared.state.State.TheVariants as state
use Rattle.ecma_role_table.specs.declared.moves.Angles.{Angles}
use Rattle.ecma_role_table.specs.declared.moves.Angles.TheVariants as angles
use Rattle.ecma_role_table.specs.declared.moves.Grouping.{Grouping}
use Rattle.ecma_role_table.specs.declared.moves.Grouping.TheVariants as grouping
use Rattle.ecma_role_table.specs.declared.moves.Move.{Move}
use Rattle.ecma_role_table.specs.declared.moves.Move.TheVariants as move
use Rattle.ecma_role_table.specs.declared.moves.Turn.{Turn}
use Rattle.ecma_role_table.specs.declared.moves.Turn.TheVariants.{Again, Done}
use Rattle.ecma_role_table.specs.Frames.{is_template}
use Rattle.ecma_role_moves.specs.Moves.{Landed, Turned, angle, angle_over, annotated, back_of, behind_annotation, behind_brace, behind_candidate, behind_comma, behind_ended_type, behind_method, behind_no_body, behind_no_class, body_of, brace_of, brace_over, bracket_over, by_head, by_mark, candidate_in_object, class_body_of, colon_in, colon_over, colon_plain, colon_waits, decorated_of, decorating, equals_behind, fresh_of, greater_at, is_waiting, landed, last_candidate, moved, operand_for_key, operand_for_member, paren_over, pattern_end, semi_at, substitution_in, template_over, type_angles, unclosed, without_arrow, word_turned}
use Rattle.ecma_role_moves.specs.Nest.{Nested, dropped, kind_at, no_function, pending, popped, popped_times, top, turned, turned_frames, under}
use Rattle.ecma_role_laws.proofs.Right.{AClass, AClassHead, ADecorator, AType, ATemplate, Need, base, is_anything, is_safe, is_same, is_there, meets, need}
use Rattle.ecma_role_laws.proofs.Frames.{chained, popped_chained, popped_meets, turned_chained}
use Rattle.ecma_role_laws.proofs.Changes.{Sound, change_sound, dropped_chained, pushed_chained, turned_sound}

abbrev pub turn_state : Turn → State
turn_state (Done s) = s
turn_state (Again s kind) = s

abbrev pub SoundTurn : Turned → Type 0
SoundTurn t = Sound t.nest (need (turn_state t.turn))

abbrev pub SoundLanding : Landed → Type 0
SoundLanding l = Sound l.nest (need l.state)

-- a frame that goes leaves what it needed
same-self : (needed : Need) → is_same needed needed ≡ true
same-self needed = grind arith

same-or : (needed : Need) → (is_anything needed || is_same needed needed) ≡ true
same-or needed = grind (arith, same-self)

pub popped_base : (kind : FrameKind) (nest : Nested) → top nest ≡ Some kind → chained nest.frames ≡ true → meets (base kind) (top (popped nest)) ≡ true
popped_base kind nest is ch = popped_meets nest.frames nest.around nest.pending (base kind) ch (rw is (same-or (base kind)))

pub closed_sound : (kind : FrameKind) (nest : Nested) (behind : Option FrameKind → State) → top nest ≡ Some kind → chained nest.frames ≡ true → ((over : Option FrameKind) → meets (base kind) over ≡ true → meets (need (behind over)) over ≡ true) → Sound (popped nest) (need (behind (top (popped nest))))
closed_sound kind nest behind is ch fits = (popped_chained nest.frames nest.around nest.pending ch, fits (top (popped nest)) (popped_base kind nest is ch))

pub pop_sound : (nest : Nested) (behind : Option FrameKind → State) → chained nest.frames ≡ true → ((over : Option FrameKind) → meets (need (behind over)) over ≡ true) → Sound (popped nest) (need (behind (top (popped nest))))
pop_sound nest behind ch fits = (popped_chained nest.frames nest.around nest.pending ch, fits (top (popped nest)))

-- states by the innermost frame
fresh-meets : (over : Option FrameKind) → meets (need (fresh_of over)) over ≡ true
fresh-meets over = grind arith

member-meets : (over : Option FrameKind) → meets (need (operand_for_member (fresh_of over))) over ≡ true
member-meets over = grind arith

key-meets : (over : Option FrameKind) → meets (need (operand_for_key (fresh_of over))) over ≡ true
key-meets over = grind arith

word-sound : (s : State) (kind : PartKind) (nest : Nested) → Sound nest (need s) → SoundTurn (word_turned s kind nest)
word-sound s kind nest sound = grind (arith, sound)

back-meets : (over : Option FrameKind) → meets (need (back_of over)) over ≡ true
back-meets over = grind arith

comma-meets : (over : Option FrameKind) → meets (need (behind_comma over)) over ≡ true
comma-meets over = grind arith

decorating-meets : (over : Option FrameKind) (s : State) → is_anything (need s) ≡ true → meets (need (decorating over s)) over ≡ true
decorating-meets over s any = grind (arith, any)

method-meets : (over : Option FrameKind) → meets (need (behind_method over)) over ≡ true
method-meets over = grind arith

head-meets : (head over : Option FrameKind) (s : State) → meets (need s) over ≡ true → meets (need (by_head head s)) over ≡ true
head-meets head over s met = grind (arith, met)

no-class-any : (head over : Option FrameKind) → meets (need (behind_no_class head)) over ≡ true
no-class-any head over = grind arith

annotation-meets : (over : Option FrameKind) → meets (need (behind_annotation over)) over ≡ true
annotation-meets over = grind arith

mark-meets : (mark over : Option FrameKind) (s : State) → meets (need s) over ≡ true → meets (need (by_mark mark s)) over ≡ true
mark-meets mark over s met = grind (arith, met)

brace-meets : (kind : FrameKind) (over : Option FrameKind) → meets (base kind) over ≡ true → meets (need (behind_brace kind over)) over ≡ true
brace-meets frame.Method over met = back-meets over
brace-meets kind over met = grind (arith, met)

template-meets : (kind : FrameKind) → is_template kind ≡ true → meets ATemplate (Some kind) ≡ true
template-meets kind h = grind (arith, h)

pattern-meets : (over : Option FrameKind) → meets (base frame.OuterPattern) over ≡ true → meets (need (pattern_end over)) over ≡ true
pattern-meets over met = grind (arith, met)

candidate-any : (over around : Option FrameKind) → meets (need (behind_candidate over)) around ≡ true
candidate-any over around = grind arith

substitution-any : (over around : Option FrameKind) → meets (need (substitution_in over)) around ≡ true
substitution-any over around = grind arith

-- brackets that close
brace-sound-at : (kind : FrameKind) (nest : Nested) (b : Bool) → is_template kind ≡ b → top nest ≡ Some kind → chained nest.frames ≡ true → SoundLanding (brace_of kind nest)
brace-sound-at kind nest true e is ch = rw e (ch, rw is (template-meets kind e))
brace-sound-at kind nest false e is ch = rw e (closed_sound kind nest (behind_brace kind) is ch (brace-meets kind))

brace-sound : (over : Option FrameKind) (nest : Nested) → top nest ≡ over → chained nest.frames ≡ true → SoundLanding (brace_over over nest)
brace-sound None nest is ch = (ch, refl)
brace-sound (Some kind) nest is ch = brace-sound-at kind nest (is_template kind) refl is ch

unclosed-sound : (nest : Nested) → chained nest.frames ≡ true → SoundLanding (unclosed nest)
unclosed-sound nest ch = grind (arith, ch)

paren-sound : (over : Option FrameKind) (nest : Nested) → top nest ≡ over → chained nest.frames ≡ true → SoundLanding (paren_over over nest)
paren-sound (Some frame.Paren) nest is ch = closed_sound frame.Paren nest (λ o. decorating o state.Group) is ch (λ o m. decorating-meets o state.Group refl)
paren-sound (Some frame.ParenParameters) nest is ch = closed_sound frame.ParenParameters nest (λ o. state.GroupParameters) is ch (λ o m. refl)
paren-sound (Some frame.AsyncParen) nest is ch = closed_sound frame.AsyncParen nest (λ o. state.AsyncGroup) is ch (λ o m. refl)
paren-sound (Some frame.AsyncParenParameters) nest is ch = closed_sound frame.AsyncParenParameters nest (λ o. state.AsyncGroupParameters) is ch (λ o m. refl)
paren-sound (Some frame.Call) nest is ch = closed_sound frame.Call nest (λ o. decorating o state.After) is ch (λ o m. decorating-meets o state.After refl)
paren-sound (Some frame.Parameters) nest is ch = closed_sound frame.Parameters nest (λ o. state.HeadEnd) is ch (λ o m. m)
paren-sound (Some frame.Control) nest is ch = closed_sound frame.Control nest (λ o. state.Statement) is ch (λ o m. refl)
paren-sound (Some frame.For) nest is ch = closed_sound frame.For nest (λ o. state.Statement) is ch (λ o m. refl)
paren-sound (Some frame.InnerParen) nest is ch = closed_sound frame.InnerParen nest (λ o. state.TypeBrackets) is ch (λ o m. refl)
paren-sound (Some frame.OuterParen) nest is ch = closed_sound frame.OuterParen nest (λ o. state.TypeEnd) is ch (λ o m. m)
paren-sound (Some frame.OuterPattern) nest is ch = closed_sound frame.OuterPattern nest pattern_end is ch pattern-meets
paren-sound (Some frame.OuterParameters) nest is ch = closed_sound frame.OuterParameters nest (λ o. state.TypeParameters) is ch (λ o m. m)
paren-sound over nest is ch = unclosed-sound nest ch

bracket-sound : (over : Option FrameKind) (nest : Nested) → top nest ≡ over → chained nest.frames ≡ true → SoundLanding (bracket_over over nest)
bracket-sound (Some frame.Bracket) nest is ch = closed_sound frame.Bracket nest (λ o. state.After) is ch (λ o m. refl)
bracket-sound (Some frame.Computed) nest is ch = closed_sound frame.Computed nest back_of is ch (λ o m. back-meets o)
bracket-sound (Some frame.InnerBracket) nest is ch = closed_sound frame.InnerBracket nest (λ o. state.TypeBrackets) is ch (λ o m. refl)
bracket-sound (Some frame.OuterBracket) nest is ch = closed_sound frame.OuterBracket nest (λ o. state.TypeEnd) is ch (λ o m. m)
bracket-sound over nest is ch = unclosed-sound nest ch

template-sound : (over : Option FrameKind) (nest : Nested) → top nest ≡ over → chained nest.frames ≡ true → SoundLanding (template_over over nest)
template-sound (Some frame.Template) nest is ch = closed_sound frame.Template nest (λ o. state.After) is ch (λ o m. refl)
template-sound (Some frame.InnerTemplate) nest is ch = closed_sound frame.InnerTemplate nest (λ o. state.TypeBrackets) is ch (λ o m. refl)
template-sound (Some frame.OuterTemplate) nest is ch = closed_sound frame.OuterTemplate nest (λ o. state.TypeEnd) is ch (λ o m. m)
template-sound over nest is ch = (ch, refl)

-- angle brackets
angle-sound : (over : Option FrameKind) (l : Landed) → top l.nest ≡ over → SoundLanding l → SoundLanding (angle_over over l)
angle-sound (Some frame.InnerAngle) l is sound = closed_sound frame.InnerAngle l.nest (λ o. state.TypeBrackets) is sound.0 (λ o m. refl)
angle-sound (Some frame.OuterAngle) l is sound = closed_sound frame.OuterAngle l.nest (λ o. state.TypeEnd) is sound.0 (λ o m. m)
angle-sound (Some frame.ParametersAngle) l is sound = closed_sound frame.ParametersAngle l.nest (λ o. state.TypeOperand) is sound.0 (λ o m. m)
angle-sound (Some frame.OperandAngle) l is sound = closed_sound frame.OperandAngle l.nest (λ o. state.Operand) is sound.0 (λ o m. refl)
angle-sound (Some frame.HeadAngle) l is sound = closed_sound frame.HeadAngle l.nest back_of is sound.0 (λ o m. back-meets o)
angle-sound (Some frame.ArgumentsAngle) l is sound = closed_sound frame.ArgumentsAngle l.nest (λ o. state.TypeArguments) is sound.0 (λ o m. refl)
angle-sound (Some frame.AsyncAngle) l is sound = closed_sound frame.AsyncAngle l.nest (λ o. state.AsyncTypeArguments) is sound.0 (λ o m. refl)
angle-sound (Some frame.Candidate) l is sound = closed_sound frame.Candidate l.nest (λ o. state.TypeArguments) is sound.0 (λ o m. refl)
angle-sound over l is sound = sound

angles-sound : (angles : Angles) (nest : Nested) → chained nest.frames ≡ true → SoundLanding (type_angles angles nest)
angles-sound angles.One nest ch = angle-sound (top nest) (landed state.TypeBrackets nest) refl (ch, refl)
angles-sound angles.Two nest ch =
    let l = landed state.TypeBrackets nest in
    angle-sound (top (angle l).nest) (angle l) refl (angle-sound (top nest) l refl (ch, refl))
angles-sound angles.Three nest ch =
    let l = landed state.TypeBrackets nest in
    angle-sound (top (angle (angle l)).nest) (angle (angle l)) refl (angle-sound (top (angle l).nest) (angle l) refl (angle-sound (top nest) l refl (ch, refl)))

equals-sound : (s : State) (nest : Nested) → Sound nest (need s) → Sound nest (need (turn_state (equals_behind s)))
equals-sound s nest sound = grind (arith, sound)

-- candidates
popped-times-chained : (n : ℕ) (nest : Nested) → chained nest.frames ≡ true → chained (popped_times n nest).frames ≡ true
unfolding popped_times
popped-times-chained zero nest ch = ch
popped-times-chained (suc n) nest ch = popped-times-chained n (popped nest) (popped_chained nest.frames nest.around nest.pending ch)

greater-sound : (at : Option ℕ) (nest : Nested) → chained nest.frames ≡ true → SoundLanding (greater_at nest at)
greater-sound None nest ch = (dropped_chained kinds.Candidates nest ch, refl)
greater-sound (Some i) nest ch = (popped-times-chained (i + 1) nest ch, candidate-any (kind_at i nest) _)

-- a colon
annotated-sound : (kind : FrameKind) (nest : Nested) → meets (base kind) (top nest) ≡ true → meets AType (Some kind) ≡ true → chained nest.frames ≡ true → SoundLanding (annotated kind nest)
annotated-sound kind nest fits met ch = (pushed_chained kind nest fits ch, met)

colon-over-sound : (over : Option FrameKind) (nest : Nested) → top nest ≡ over → chained nest.frames ≡ true → SoundLanding (colon_over over nest)
colon-over-sound (Some frame.Conditional) nest is ch = closed_sound frame.Conditional nest (λ o. state.Operand) is ch (λ o m. refl)
colon-over-sound (Some frame.Case) nest is ch = closed_sound frame.Case nest (λ o. state.Statement) is ch (λ o m. refl)
colon-over-sound (Some frame.Paren) nest is ch = annotated-sound frame.Annotation (turned frame.ParenParameters nest) refl refl (turned_chained frame.ParenParameters nest.frames ch refl)
colon-over-sound (Some frame.AsyncParen) nest is ch = annotated-sound frame.Annotation (turned frame.AsyncParenParameters nest) refl refl (turned_chained frame.AsyncParenParameters nest.frames ch refl)
colon-over-sound (Some frame.Declaration) nest is ch = annotated-sound frame.Annotation nest refl refl ch
colon-over-sound (Some frame.ParenParameters) nest is ch = annotated-sound frame.Annotation nest refl refl ch
colon-over-sound (Some frame.AsyncParenParameters) nest is ch = annotated-sound frame.Annotation nest refl refl ch
colon-over-sound (Some frame.Call) nest is ch = annotated-sound frame.Annotation nest refl refl ch
colon-over-sound (Some frame.Parameters) nest is ch = annotated-sound frame.Annotation nest refl refl ch
colon-over-sound (Some frame.Control) nest is ch = annotated-sound frame.Annotation nest refl refl ch
colon-over-sound (Some frame.For) nest is ch = annotated-sound frame.Annotation nest refl refl ch
colon-over-sound (Some frame.Bracket) nest is ch = annotated-sound frame.Annotation nest refl refl ch
colon-over-sound (Some frame.Computed) nest is ch = annotated-sound frame.Annotation nest refl refl ch
colon-over-sound over nest is ch = (ch, refl)

without-chained-at : (b : Bool) (nest : Nested) → chained nest.frames ≡ true → chained (if b then popped nest else nest).frames ≡ true
without-chained-at true nest ch = popped_chained nest.frames nest.around nest.pending ch
without-chained-at false nest ch = ch

without-chained : (over : Option FrameKind) (nest : Nested) → chained nest.frames ≡ true → chained (without_arrow nest over).frames ≡ true
without-chained (Some frame.Arrow) nest ch = without-chained-at (is_waiting (under nest)) nest ch
without-chained over nest ch = ch

colon-plain-sound : (nest : Nested) → chained nest.frames ≡ true → SoundLanding (colon_plain nest)
colon-plain-sound nest ch = colon-over-sound (top (without_arrow nest (top nest))) (without_arrow nest (top nest)) refl (without-chained (top nest) nest ch)

colon-behind-at : (b : Bool) (kind : FrameKind) (nest : Nested) → meets (base kind) (top nest) ≡ true → meets AType (Some kind) ≡ true → chained nest.frames ≡ true → SoundLanding (if b then colon_plain nest else annotated kind nest)
colon-behind-at true kind nest fits met ch = colon-plain-sound nest ch
colon-behind-at false kind nest fits met ch = annotated-sound kind nest fits met ch

colon-sound : (g : Grouping) (nest : Nested) → chained nest.frames ≡ true → SoundLanding (colon_in g nest)
colon-sound grouping.None nest ch = colon-plain-sound nest ch
colon-sound grouping.Plain nest ch = colon-behind-at (colon_waits nest (top nest)) frame.ReturnType nest refl refl ch
colon-sound grouping.Async nest ch = colon-behind-at (colon_waits nest (top nest)) frame.AsyncReturnType nest refl refl ch

-- statements and commas
semi-sound : (s : State) (nest : Nested) → Sound nest (need s) → SoundLanding (semi_at s nest)
semi-sound s nest sound = grind (arith, sound)

comma-sound-at : (b : Bool) (nest : Nested) → chained nest.frames ≡ true → SoundLanding (landed (if b then state.KeyComma else behind_comma (top nest)) nest)
comma-sound-at true nest ch = (ch, refl)
comma-sound-at false nest ch = (ch, comma-meets (top nest))

-- bodies
body-any : (over : Option FrameKind) → is_anything (base (body_of over)) ≡ true
body-any over = grind arith

body-chained : (kind : FrameKind) (fs : List Frame) → is_anything (base kind) ≡ true → chained fs ≡ true → chained (turned_frames kind fs) ≡ true
body-chained kind fs any ch = turned_chained kind fs ch (rw any refl)

class-any : (over : Option FrameKind) → is_anything (base (class_body_of over)) ≡ true
class-any over = grind arith

class-meets : (over : Option FrameKind) → meets AClass (Some (class_body_of over)) ≡ true
class-meets over = grind arith

head-there : (over : Option FrameKind) → meets AClassHead over ≡ true → is_there over ≡ true
head-there over met = grind (arith, met)

decorated-sound : (over : Option FrameKind) (nest : Nested) → top nest ≡ over → meets ADecorator over ≡ true → chained nest.frames ≡ true → Sound (popped nest) (need (decorated_of over))
decorated-sound (Some frame.MemberDecorator) nest is met ch = closed_sound frame.MemberDecorator nest (λ o. state.Member) is ch (λ o m. m)
decorated-sound (Some frame.StatementDecorator) nest is met ch = closed_sound frame.StatementDecorator nest (λ o. state.Statement) is ch (λ o m. refl)
decorated-sound over nest is met ch = (popped_chained nest.frames nest.around nest.pending ch, refl)

ended-meets : (mark over : Option FrameKind) → meets (need (behind_ended_type mark over)) over ≡ true
ended-meets mark over = mark-meets mark over (behind_annotation over) (annotation-meets over)

no-body-meets : (head over : Option FrameKind) → meets (need (behind_no_body head over)) over ≡ true
no-body-meets head over = head-meets head over (behind_method over) (method-meets over)

pub move_sound : (m : Move) (kind : PartKind) (nest : Nested) → chained nest.frames ≡ true → is_safe (top nest) m ≡ true → SoundTurn (moved m kind nest)
unfolding moved
move_sound (move.To s c) kind nest ch safe = change_sound c nest (need s) ch safe
move_sound (move.Again s c) kind nest ch safe = change_sound c nest (need s) ch safe
move_sound move.Fresh kind nest ch safe = (dropped_chained kinds.Marks nest ch, fresh-meets (top (dropped kinds.Marks nest)))
move_sound move.FreshOperand kind nest ch safe = (dropped_chained kinds.Marks nest ch, member-meets (top (dropped kinds.Marks nest)))
move_sound move.FreshBrace kind nest ch safe = (dropped_chained kinds.Marks nest ch, key-meets (top (dropped kinds.Marks nest)))
move_sound move.FreshWord kind nest ch safe = word-sound (fresh_of (top (dropped kinds.Marks nest))) kind (dropped kinds.Marks nest) (dropped_chained kinds.Marks nest ch, fresh-meets (top (dropped kinds.Marks nest)))
move_sound move.Brace kind nest ch safe =
    let d = dropped kinds.InsideBraces (pending no_function nest) in
    brace-sound (top d) d refl (dropped_chained kinds.InsideBraces (pending no_function nest) ch)
move_sound move.Paren kind nest ch safe = paren-sound (top (dropped kinds.MarksAndAngles nest)) (dropped kinds.MarksAndAngles nest) refl (dropped_chained kinds.MarksAndAngles nest ch)
move_sound move.Bracket kind nest ch safe = bracket-sound (top (dropped kinds.MarksAndAngles nest)) (dropped kinds.MarksAndAngles nest) refl (dropped_chained kinds.MarksAndAngles nest ch)
move_sound move.Semi kind nest ch safe = semi-sound (fresh_of (top (dropped kinds.Marks nest))) (dropped kinds.Marks nest) (dropped_chained kinds.Marks nest ch, fresh-meets (top (dropped kinds.Marks nest)))
move_sound move.Comma kind nest ch safe = comma-sound-at (candidate_in_object (dropped kinds.Conditionals nest)) (dropped kinds.Conditionals nest) (dropped_chained kinds.Conditionals nest ch)
move_sound (move.Colon g) kind nest ch safe = colon-sound g (dropped kinds.Candidates nest) (dropped_chained kinds.Candidates nest ch)
move_sound (move.Greater a) kind nest ch safe = greater-sound (last_candidate a nest) nest ch
move_sound (move.TypeGreater a true) kind nest ch safe = equals-sound (type_angles a nest).state (type_angles a nest).nest (angles-sound a nest ch)
move_sound (move.TypeGreater a false) kind nest ch safe = angles-sound a nest ch
move_sound move.Body kind nest ch safe = (body-chained (body_of (top nest)) nest.frames (body-any (top nest)) ch, refl)
move_sound move.ClassBody kind nest ch safe = turned_sound (class_body_of (top nest)) nest.frames AClass ch (rw (head-there (top nest) safe, class-any (top nest), class-meets (top nest)) refl)
move_sound move.NoBody kind nest ch safe = pop_sound nest (behind_no_body (top nest)) ch (no-body-meets (top nest))
move_sound move.NoClassBody kind nest ch safe = pop_sound nest (λ o. behind_no_class (top nest)) ch (λ o. no-class-any (top nest) o)
move_sound move.NoDecorator kind nest ch safe = decorated-sound (top nest) nest refl safe ch
move_sound move.EndType kind nest ch safe =
    let d = dropped kinds.TypeConditions nest in
    pop_sound d (behind_ended_type (top d)) (dropped_chained kinds.TypeConditions nest ch) (ended-meets (top d))
move_sound move.Substitution kind nest ch safe = (ch, substitution-any (top nest) (top nest))
move_sound move.EndTemplate kind nest ch safe = template-sound (top nest) nest refl ch
