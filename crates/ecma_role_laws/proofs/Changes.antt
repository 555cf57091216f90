-- What changes leave of the nearest bracket, and that each frame keeps what it needs: one lemma for each change
use Rattle.std.proofs.Common.{◌≡◌, ◌∙◌, ◌&&◌, sym, true, List, [], ◌∷◌, Option, Some, refl, arith}
use Rattle.ecma_role_table.specs.declared.frame.Frame.{Frame}
use Rattle.ecma_role_table.specs.declared.frame.FrameKind.{FrameKind}
use Rattle.ecma_role_table.specs.declared.frame.FrameKind.TheVariants as frame
use Rattle.ecma_role_table.specs.declared.frame.Kinds.{Kinds}
use Rattle.ecma_role_table.specs.declared.frame.Kinds.TheVariants as kinds
use Rattle.ecma_role_table.specs.declared.moves.Change.{Change}
use Rattle.ecma_role_table.specs.declared.moves.Change.TheVariants as change
use Rattle.ecma_role_table.specs.Frames.{is_of}
use Rattle.ecma_role_moves.specs.Moves.{arrow_over, changed, parameters_over}
use Rattle.ecma_role_moves.specs.Nest.{Nested, dropped, framed, no_function, pending, pushed, top, turned_frames, within}
use Rattle.ecma_role_laws.specs.Brackets.{Bracket, bracket_of, enclosed, enclosing}
use Rattle.ecma_role_laws.proofs.Right.{AClass, Need, base, bracket_in, is_anything, is_bracket, is_kept, is_opened, is_soft, is_sound, is_there, meets, turn_meets}
use Rattle.ecma_role_laws.proofs.Frames.{and_left, and_right, any_meets, bracket_opened, chained, chained_more, dropped_frames, outside_chained, outside_kept, popped_chained, popped_kept, popped_meets, soft_kept, top_of, turned_chained, turned_kept}

-- marks are no brackets
pub soft_marks : (kind : FrameKind) → is_of kinds.Marks kind ≡ true → is_soft (bracket_of kind) ≡ true
soft_marks kind h = grind (arith, h)

pub soft_angles : (kind : FrameKind) → is_of kinds.MarksAndAngles kind ≡ true → is_soft (bracket_of kind) ≡ true
soft_angles kind h = grind (arith, h)

pub soft_candidates : (kind : FrameKind) → is_of kinds.Candidates kind ≡ true → is_soft (bracket_of kind) ≡ true
soft_candidates kind h = grind (arith, h)

pub soft_conditionals : (kind : FrameKind) → is_of kinds.Conditionals kind ≡ true → is_soft (bracket_of kind) ≡ true
soft_conditionals kind h = grind (arith, h)

pub soft_type_conditions : (kind : FrameKind) → is_of kinds.TypeConditions kind ≡ true → is_soft (bracket_of kind) ≡ true
soft_type_conditions kind h = grind (arith, h)

-- what is dropped
pub dropped_chained : (which : Kinds) (nest : Nested) → chained nest.frames ≡ true → chained (dropped which nest).frames ≡ true
dropped_chained which nest c = rw (dropped_frames which nest.frames nest.around nest.pending) (outside_chained which nest.frames c)

pub dropped_kept : (which : Kinds) (nest : Nested) → ((kind : FrameKind) → is_of which kind ≡ true → is_soft (bracket_of kind) ≡ true) → enclosing (dropped which nest).frames ≡ enclosing nest.frames
dropped_kept which nest soft = rw (dropped_frames which nest.frames nest.around nest.pending) (outside_kept which nest.frames soft)

-- a frame more
pub pushed_chained : (kind : FrameKind) (nest : Nested) → meets (base kind) (top nest) ≡ true → chained nest.frames ≡ true → chained (pushed kind nest).frames ≡ true
pushed_chained kind nest met c = chained_more (framed kind nest.around nest.pending) nest.frames met c

pub pushed_kept : (kind : FrameKind) (nest : Nested) → is_soft (bracket_of kind) ≡ true → enclosing (pushed kind nest).frames ≡ enclosing nest.frames
pushed_kept kind nest soft = soft_kept (framed kind nest.around nest.pending) nest.frames soft

pub pushed_opened : (b : Bracket) (kind : FrameKind) (nest : Nested) → is_bracket b (bracket_of kind) ≡ true → enclosing (pushed kind nest).frames ≡ Some (enclosed b nest.frames)
pushed_opened b kind nest same = bracket_opened b (framed kind nest.around nest.pending) nest.frames same

-- an arrow function begins
arrow-sound : (over : Option FrameKind) (nest : Nested) → top nest ≡ over → chained nest.frames ≡ true → (chained (arrow_over over nest).frames ≡ true) × (top (arrow_over over nest) ≡ Some frame.Arrow)
arrow-sound (Some frame.Arrow) nest is c = (c, is)
arrow-sound over nest is c = grind (arith, c, pushed_chained frame.Arrow nest refl c)

arrow-kept : (over : Option FrameKind) (nest : Nested) → enclosing (arrow_over over nest).frames ≡ enclosing nest.frames
arrow-kept (Some frame.Arrow) nest = refl
arrow-kept over nest = grind (arith, pushed_kept frame.Arrow nest refl)

-- parentheses are parameters
parameters-chained : (over : Option FrameKind) (nest : Nested) → top nest ≡ over → chained nest.frames ≡ true → chained (parameters_over over nest).frames ≡ true
parameters-chained (Some frame.Paren) nest is c = turned_chained frame.ParenParameters nest.frames c refl
parameters-chained (Some frame.AsyncParen) nest is c = turned_chained frame.AsyncParenParameters nest.frames c refl
parameters-chained over nest is c = grind (arith, c)

parameters-kept : (over : Option FrameKind) (nest : Nested) → top nest ≡ over → enclosing (parameters_over over nest).frames ≡ enclosing nest.frames
parameters-kept (Some frame.Paren) nest is = turned_kept frame.ParenParameters nest.frames (rw is refl)
parameters-kept (Some frame.AsyncParen) nest is = turned_kept frame.AsyncParenParameters nest.frames (rw is refl)
parameters-kept over nest is = grind arith

-- the innermost frame becomes another that meets what is needed
turned-meets : (kind : FrameKind) (fs : List Frame) (needed : Need) → is_there (top_of fs) ≡ true → meets needed (Some kind) ≡ true → meets needed (top_of (turned_frames kind fs)) ≡ true
turned-meets kind [] needed there met = cc
turned-meets kind (f ∷ fs) needed there met = met

pub turned_sound : (kind : FrameKind) (fs : List Frame) (needed : Need) → chained fs ≡ true → (is_there (top_of fs) && (turn_meets kind (top_of fs) && meets needed (Some kind))) ≡ true → (chained (turned_frames kind fs) ≡ true) × (meets needed (top_of (turned_frames kind fs)) ≡ true)
turned_sound kind fs needed ch s =
    let there = and_left (is_there (top_of fs)) (turn_meets kind (top_of fs) && meets needed (Some kind)) s in
    let rest = and_right (is_there (top_of fs)) (turn_meets kind (top_of fs) && meets needed (Some kind)) s in
    (turned_chained kind fs ch (and_left (turn_meets kind (top_of fs)) (meets needed (Some kind)) rest), turned-meets kind fs needed there (and_right (turn_meets kind (top_of fs)) (meets needed (Some kind)) rest))

abbrev pub Sound : Nested → Need → Type 0
Sound nest needed = (chained nest.frames ≡ true) × (meets needed (top nest) ≡ true)

pub change_sound : (c : Change) (nest : Nested) (needed : Need) → chained nest.frames ≡ true → is_sound (top nest) c needed ≡ true → Sound (changed c nest) needed
unfolding changed
change_sound change.Nothing nest needed ch s = (ch, s)
change_sound (change.Push kind) nest needed ch s = (pushed_chained kind nest (and_left (meets (base kind) (top nest)) (meets needed (Some kind)) s) ch, and_right (meets (base kind) (top nest)) (meets needed (Some kind)) s)
change_sound (change.PushTwo outer inner) nest needed ch s =
    let first = and_left (meets (base outer) (top nest)) (meets (base inner) (Some outer) && meets needed (Some inner)) s in
    let rest = and_right (meets (base outer) (top nest)) (meets (base inner) (Some outer) && meets needed (Some inner)) s in
    (pushed_chained inner (pushed outer nest) (and_left (meets (base inner) (Some outer)) (meets needed (Some inner)) rest) (pushed_chained outer nest first ch), and_right (meets (base inner) (Some outer)) (meets needed (Some inner)) rest)
change_sound (change.Enter kind is_async) nest needed ch s = (pushed_chained kind nest (and_left (meets (base kind) (top nest)) (meets needed (Some kind)) s) ch, and_right (meets (base kind) (top nest)) (meets needed (Some kind)) s)
change_sound change.Pop nest needed ch s = (popped_chained nest.frames nest.around nest.pending ch, popped_meets nest.frames nest.around nest.pending needed ch s)
change_sound change.ImportEnds nest needed ch s = (popped_chained nest.frames nest.around nest.pending ch, popped_meets nest.frames nest.around nest.pending needed ch s)
change_sound (change.Turn kind) nest needed ch s = turned_sound kind nest.frames needed ch s
change_sound change.Method nest needed ch s = (pushed_chained frame.Parameters (pending no_function (within nest.pending (pushed frame.MethodHead nest))) refl (pushed_chained frame.MethodHead nest refl ch), any_meets needed (Some frame.Parameters) s)
change_sound change.Static nest needed ch s = (pushed_chained frame.Static nest (and_left (meets AClass (top nest)) (is_anything needed) s) ch, any_meets needed (Some frame.Static) (and_right (meets AClass (top nest)) (is_anything needed) s))
change_sound change.Object nest needed ch s = (pushed_chained frame.Object nest refl ch, any_meets needed (Some frame.Object) s)
change_sound (change.Arrow is_async) nest needed ch s = let r = arrow-sound (top nest) nest refl ch in (r.0, rw r.1 s)
change_sound change.Parameters nest needed ch s = (parameters-chained (top (dropped kinds.Marks nest)) (dropped kinds.Marks nest) refl (dropped_chained kinds.Marks nest ch), any_meets needed _ s)
change_sound change.DropCandidates nest needed ch s = (dropped_chained kinds.Candidates nest ch, any_meets needed _ s)
change_sound change.DropCandidatesClear nest needed ch s = (rw (dropped_frames kinds.Candidates nest.frames nest.around _) (outside_chained kinds.Candidates nest.frames ch), any_meets needed _ s)
change_sound change.ClearPending nest needed ch s = (ch, s)
change_sound change.PendAsync nest needed ch s = (ch, s)
change_sound change.PendGenerator nest needed ch s = (ch, s)
change_sound change.PendNameAsync nest needed ch s = (ch, s)
change_sound change.LoseAsync nest needed ch s = (ch, s)
change_sound change.Generator nest needed ch s = (ch, s)
change_sound change.ModuleCode nest needed ch s = (ch, s)

pub change_kept : (c : Change) (nest : Nested) → is_kept (top nest) c ≡ true → enclosing (changed c nest).frames ≡ enclosing nest.frames
unfolding changed
change_kept change.Nothing nest k = refl
change_kept (change.Push kind) nest k = pushed_kept kind nest k
change_kept (change.PushTwo outer inner) nest k = pushed_kept inner (pushed outer nest) (and_right (is_soft (bracket_of outer)) (is_soft (bracket_of inner)) k) ∙ pushed_kept outer nest (and_left (is_soft (bracket_of outer)) (is_soft (bracket_of inner)) k)
change_kept (change.Enter kind is_async) nest k = pushed_kept kind nest k
change_kept change.Pop nest k = popped_kept nest.frames nest.around nest.pending k
change_kept change.ImportEnds nest k = popped_kept nest.frames nest.around nest.pending k
change_kept (change.Turn kind) nest k = turned_kept kind nest.frames k
change_kept change.Method nest k = cc
change_kept change.Static nest k = cc
change_kept change.Object nest k = cc
change_kept (change.Arrow is_async) nest k = arrow-kept (top nest) nest
change_kept change.Parameters nest k = parameters-kept (top (dropped kinds.Marks nest)) (dropped kinds.Marks nest) refl ∙ dropped_kept kinds.Marks nest soft_marks
change_kept change.DropCandidates nest k = dropped_kept kinds.Candidates nest soft_candidates
change_kept change.DropCandidatesClear nest k = rw (dropped_frames kinds.Candidates nest.frames nest.around _) (outside_kept kinds.Candidates nest.frames soft_candidates)
change_kept change.ClearPending nest k = refl
change_kept change.PendAsync nest k = refl
change_kept change.PendGenerator nest k = refl
change_kept change.PendNameAsync nest k = refl
change_kept change.LoseAsync nest k = refl
change_kept change.Generator nest k = refl
change_kept change.ModuleCode nest k = refl

-- a bracket inside of all that was
abbrev pub Opened : Bracket → List Frame → List Frame → Type 0
Opened b frames before = (outer : List Frame) × ((enclosing frames ≡ Some (enclosed b outer)) × (enclosing outer ≡ enclosing before))

pub turned_opened : (b : Bracket) (kind : FrameKind) (fs : List Frame) → is_there (top_of fs) ≡ true → is_soft (bracket_in (top_of fs)) ≡ true → is_bracket b (bracket_of kind) ≡ true → Opened b (turned_frames kind fs) fs
turned_opened b kind [] there soft same = cc
turned_opened b kind (f ∷ fs) there soft same = (fs, (bracket_opened b (record { kind = kind; kept = f.kept }) fs same, sym (soft_kept f fs soft)))

pub change_opened : (b : Bracket) (c : Change) (nest : Nested) → is_opened b (top nest) c ≡ true → Opened b (changed c nest).frames nest.frames
unfolding changed
change_opened b (change.Push kind) nest o = (nest.frames, (pushed_opened b kind nest o, refl))
change_opened b (change.PushTwo outer inner) nest o = ((pushed outer nest).frames, (pushed_opened b inner (pushed outer nest) (and_right (is_soft (bracket_of outer)) (is_bracket b (bracket_of inner)) o), pushed_kept outer nest (and_left (is_soft (bracket_of outer)) (is_bracket b (bracket_of inner)) o)))
change_opened b (change.Turn kind) nest o =
    let rest = and_right (is_there (top nest)) (is_soft (bracket_in (top nest)) && is_bracket b (bracket_of kind)) o in
    turned_opened b kind nest.frames (and_left (is_there (top nest)) (is_soft (bracket_in (top nest)) && is_bracket b (bracket_of kind)) o) (and_left (is_soft (bracket_in (top nest))) (is_bracket b (bracket_of kind)) rest) (and_right (is_soft (bracket_in (top nest))) (is_bracket b (bracket_of kind)) rest)
change_opened b change.Method nest o = ((pushed frame.MethodHead nest).frames, (pushed_opened b frame.Parameters (pending no_function (within nest.pending (pushed frame.MethodHead nest))) o, pushed_kept frame.MethodHead nest refl))
change_opened b change.Static nest o = (nest.frames, (pushed_opened b frame.Static nest o, refl))
change_opened b change.Object nest o = (nest.frames, (pushed_opened b frame.Object nest o, refl))
change_opened b c nest o = cc
