-- What changes of frames leave of the nearest bracket, and that each frame keeps what it needs
use Rattle.std.proofs.Common.{◌≡◌, ◌∙◌, ◌&&◌, ◌||◌, ap, sym, Bool, true, false, List, [], ◌∷◌, Option, Some, None, refl, arith}
use Rattle.std.specs.List.{slice_get}
use Rattle.ecma_role_table.specs.declared.frame.Around.{Around}
use Rattle.ecma_role_table.specs.declared.frame.Frame.{Frame}
use Rattle.ecma_role_table.specs.declared.frame.FrameKind.{FrameKind}
use Rattle.ecma_role_table.specs.declared.frame.Kinds.{Kinds}
use Rattle.ecma_role_table.specs.Frames.{is_of}
use Rattle.ecma_role_moves.specs.Nest.{around_behind, dropped_from, kind_in, outside, pending_behind, popped_from, turned_frames}
use Rattle.ecma_role_laws.specs.Brackets.{Bracket, Enclosed, bracket_of, enclosed, enclosing, nearest}
use Rattle.ecma_role_laws.proofs.Right.{Need, base, bracket_in, is_alike, is_anything, is_bracket, is_same, is_soft, meets, pop_meets, turn_meets}

abbrev pub top_of : List Frame → Option FrameKind
top_of frames = kind_in (slice_get frames 0)

pub and_left : (a b : Bool) → (a && b) ≡ true → a ≡ true
and_left a b h = grind (arith, h)

pub and_right : (a b : Bool) → (a && b) ≡ true → b ≡ true
and_right a b h = grind (arith, h)

pub any_meets : (needed : Need) (over : Option FrameKind) → is_anything needed ≡ true → meets needed over ≡ true
any_meets needed over any = grind (arith, any)

-- what is needed of the frame around one that goes is what that needed
pub same_meets : (needed other : Need) (over : Option FrameKind) → is_same needed other ≡ true → meets other over ≡ true → meets needed over ≡ true
same_meets needed other over same met = grind (arith, same, met)

-- the nearest bracket

soft-nearest : (b : Option Bracket) (fs : List Frame) (further : Option Enclosed) → is_soft b ≡ true → nearest b fs further ≡ further
soft-nearest b fs further soft = grind (arith, soft)

alike-nearest : (a b : Option Bracket) (fs : List Frame) (further : Option Enclosed) → is_alike a b ≡ true → nearest a fs further ≡ nearest b fs further
alike-nearest a b fs further alike = grind (arith, alike)

bracket-nearest : (b : Bracket) (other : Option Bracket) (fs : List Frame) (further : Option Enclosed) → is_bracket b other ≡ true → nearest other fs further ≡ Some (enclosed b fs)
bracket-nearest b other fs further same = grind (arith, same)

-- each frame has right around it what it needs
unfoldable pub chained : List Frame → Bool
chained [] = true
chained (f ∷ fs) = meets (base f.kind) (top_of fs) && chained fs

pub chained_base : (f : Frame) (fs : List Frame) → chained (f ∷ fs) ≡ true → meets (base f.kind) (top_of fs) ≡ true
unfolding chained
chained_base f fs c = and_left (meets (base f.kind) (top_of fs)) (chained fs) c

pub chained_rest : (f : Frame) (fs : List Frame) → chained (f ∷ fs) ≡ true → chained fs ≡ true
unfolding chained
chained_rest f fs c = and_right (meets (base f.kind) (top_of fs)) (chained fs) c

pub chained_more : (f : Frame) (fs : List Frame) → meets (base f.kind) (top_of fs) ≡ true → chained fs ≡ true → chained (f ∷ fs) ≡ true
unfolding chained
chained_more f fs m c = rw m c

pub chained_none : chained [] ≡ true
unfolding chained
chained_none = refl

-- frames that go on top
dropped-at : (kinds : Kinds) (f : Frame) (fs : List Frame) (around pending : Around) (b : Bool) → is_of kinds f.kind ≡ b → ((a p : Around) → (dropped_from kinds fs a p).frames ≡ outside kinds fs) → (dropped_from kinds (f ∷ fs) around pending).frames ≡ outside kinds (f ∷ fs)
unfolding dropped_from outside
dropped-at kinds f fs around pending true e ih = rw e (ih (around_behind f around) (pending_behind f pending))
dropped-at kinds f fs around pending false e ih = rw e refl

pub dropped_frames : (kinds : Kinds) (fs : List Frame) (around pending : Around) → (dropped_from kinds fs around pending).frames ≡ outside kinds fs
unfolding dropped_from outside
dropped_frames kinds [] around pending = refl
dropped_frames kinds (f ∷ fs) around pending = dropped-at kinds f fs around pending (is_of kinds f.kind) refl (λ a p. dropped_frames kinds fs a p)

outside-chained-at : (kinds : Kinds) (f : Frame) (fs : List Frame) (b : Bool) → is_of kinds f.kind ≡ b → chained (f ∷ fs) ≡ true → chained (outside kinds fs) ≡ true → chained (outside kinds (f ∷ fs)) ≡ true
unfolding outside
outside-chained-at kinds f fs true e c ih = rw e ih
outside-chained-at kinds f fs false e c ih = rw e c

pub outside_chained : (kinds : Kinds) (fs : List Frame) → chained fs ≡ true → chained (outside kinds fs) ≡ true
unfolding outside
outside_chained kinds [] c = c
outside_chained kinds (f ∷ fs) c = outside-chained-at kinds f fs (is_of kinds f.kind) refl c (outside_chained kinds fs (chained_rest f fs c))

-- the innermost frame goes
pub popped_chained : (fs : List Frame) (around pending : Around) → chained fs ≡ true → chained (popped_from fs around pending).frames ≡ true
popped_chained [] around pending c = c
popped_chained (f ∷ fs) around pending c = chained_rest f fs c

pop-by : (needed other : Need) (over : Option FrameKind) → (is_anything needed || is_same needed other) ≡ true → meets other over ≡ true → meets needed over ≡ true
pop-by needed other over fits met = grind (arith, fits, met)

pub popped_meets : (fs : List Frame) (around pending : Around) (needed : Need) → chained fs ≡ true → pop_meets (top_of fs) needed ≡ true → meets needed (top_of (popped_from fs around pending).frames) ≡ true
popped_meets [] around pending needed c fits = grind (arith, fits)
popped_meets (f ∷ fs) around pending needed c fits = pop-by needed (base f.kind) (top_of fs) fits (chained_base f fs c)

pub popped_kept : (fs : List Frame) (around pending : Around) → is_soft (bracket_in (top_of fs)) ≡ true → enclosing (popped_from fs around pending).frames ≡ enclosing fs
unfolding enclosing
popped_kept [] around pending soft = refl
popped_kept (f ∷ fs) around pending soft = sym (soft-nearest (bracket_of f.kind) fs (enclosing fs) soft)

-- the innermost frame becomes another
pub turned_chained : (kind : FrameKind) (fs : List Frame) → chained fs ≡ true → turn_meets kind (top_of fs) ≡ true → chained (turned_frames kind fs) ≡ true
turned_chained kind [] c fits = c
turned_chained kind (f ∷ fs) c fits = chained_more (record { kind = kind; kept = f.kept }) fs (pop-by (base kind) (base f.kind) (top_of fs) fits (chained_base f fs c)) (chained_rest f fs c)

pub soft_kept : (f : Frame) (fs : List Frame) → is_soft (bracket_of f.kind) ≡ true → enclosing (f ∷ fs) ≡ enclosing fs
unfolding enclosing
soft_kept f fs soft = soft-nearest (bracket_of f.kind) fs (enclosing fs) soft

pub bracket_opened : (b : Bracket) (f : Frame) (fs : List Frame) → is_bracket b (bracket_of f.kind) ≡ true → enclosing (f ∷ fs) ≡ Some (enclosed b fs)
unfolding enclosing
bracket_opened b f fs same = bracket-nearest b (bracket_of f.kind) fs (enclosing fs) same

pub turned_kept : (kind : FrameKind) (fs : List Frame) → is_alike (bracket_of kind) (bracket_in (top_of fs)) ≡ true → enclosing (turned_frames kind fs) ≡ enclosing fs
unfolding enclosing
turned_kept kind [] alike = refl
turned_kept kind (f ∷ fs) alike = alike-nearest (bracket_of kind) (bracket_of f.kind) fs (enclosing fs) alike

outside-kept-at : (kinds : Kinds) (f : Frame) (fs : List Frame) (b : Bool) → is_of kinds f.kind ≡ b → ((kind : FrameKind) → is_of kinds kind ≡ true → is_soft (bracket_of kind) ≡ true) → enclosing (outside kinds fs) ≡ enclosing fs → enclosing (outside kinds (f ∷ fs)) ≡ enclosing (f ∷ fs)
unfolding outside
outside-kept-at kinds f fs true e soft ih = rw e (ih ∙ sym (soft_kept f fs (soft f.kind e)))
outside-kept-at kinds f fs false e soft ih = rw e refl

pub outside_kept : (kinds : Kinds) (fs : List Frame) → ((kind : FrameKind) → is_of kinds kind ≡ true → is_soft (bracket_of kind) ≡ true) → enclosing (outside kinds fs) ≡ enclosing fs
unfolding outside
outside_kept kinds [] soft = refl
outside_kept kinds (f ∷ fs) soft = outside-kept-at kinds f fs (is_of kinds f.kind) refl soft (outside_kept kinds fs soft)

-- a bracket that closes: what is on top of its frame goes
abbrev pub Reached : Kinds → Bracket → List Frame → List Frame → Type 0
Reached kinds b fs outer = (f : Frame) × ((outside kinds fs ≡ f ∷ outer) × (is_bracket b (bracket_of f.kind) ≡ true))

reached-here : (b other : Bracket) (fs outer : List Frame) → Some (enclosed other fs) ≡ Some (enclosed b outer) → (fs ≡ outer) × (is_bracket b (Some other) ≡ true)
reached-here b other fs outer e = grind (arith, e)

reached-at : (kinds : Kinds) (b : Bracket) (f : Frame) (fs outer : List Frame) (o : Option Bracket) → bracket_of f.kind ≡ o → ((kind : FrameKind) → is_soft (bracket_of kind) ≡ true → is_of kinds kind ≡ true) → ((kind : FrameKind) → is_bracket b (bracket_of kind) ≡ true → is_of kinds kind ≡ false) → nearest o fs (enclosing fs) ≡ Some (enclosed b outer) → (enclosing fs ≡ Some (enclosed b outer) → Reached kinds b fs outer) → Reached kinds b (f ∷ fs) outer
unfolding outside
reached-at kinds b f fs outer None is goes stays near ih =
    let e : is_of kinds f.kind ≡ true = goes f.kind (rw is refl) in
    rw e (ih near)
reached-at kinds b f fs outer (Some other) is goes stays near ih =
    let here = reached-here b other fs outer near in
    let same : is_bracket b (bracket_of f.kind) ≡ true = rw is here.1 in
    let e : is_of kinds f.kind ≡ false = stays f.kind same in
    rw e (f, (ap (λ xs. f ∷ xs) here.0, same))

pub outside_reaches : (kinds : Kinds) (b : Bracket) (fs outer : List Frame) → ((kind : FrameKind) → is_soft (bracket_of kind) ≡ true → is_of kinds kind ≡ true) → ((kind : FrameKind) → is_bracket b (bracket_of kind) ≡ true → is_of kinds kind ≡ false) → enclosing fs ≡ Some (enclosed b outer) → Reached kinds b fs outer
unfolding enclosing
outside_reaches kinds b [] outer goes stays near = cc
outside_reaches kinds b (f ∷ fs) outer goes stays near = reached-at kinds b f fs outer (bracket_of f.kind) refl goes stays near (λ near. outside_reaches kinds b fs outer goes stays near)
