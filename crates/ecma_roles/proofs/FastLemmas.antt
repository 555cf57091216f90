-- Tokens that are taken into account before the table is asked, by their rows
use Rattle.std.proofs.Common.{◌≡◌, ◌∙◌, ap, sym, Bool, true, false, not, ◌&&◌, List, Option, Some, None, [], ◌∷◌, IfSome, ⊎_elim, refl, arith}
use Rattle.std.specs.Prelude.{◌⊎◌, slice_get}
use Rattle.ecma_role_table.specs.declared.frame.Around.{Around}
use Rattle.ecma_role_table.specs.declared.frame.Frame.{Frame}
use Rattle.ecma_role_table.specs.declared.frame.FrameKind.{FrameKind}
use Rattle.ecma_role_table.specs.declared.frame.FrameKind.TheVariants as frame
use Rattle.ecma_role_table.specs.declared.frame.Kinds.TheVariants as kinds
use Rattle.ecma_role_table.specs.declared.moves.Move.TheVariants as move
use Rattle.ecma_role_table.specs.declared.moves.Change.TheVariants as change
use Rattle.ecma_role_table.specs.declared.moves.Turn.TheVariants.{Again, Done}
use Rattle.ecma_role_table.specs.declared.part.PartKind.{PartKind}
use Rattle.ecma_role_table.specs.declared.part.PartKind.TheVariants.{Sign}
use Rattle.ecma_role_table.specs.declared.part.Sign.TheVariants as sign
use Rattle.ecma_role_table.specs.declared.state.State.{State}
use Rattle.ecma_role_table.specs.declared.state.State.TheVariants as state
use Rattle.ecma_role_table.specs.Frames.{over_async_candidate, over_candidate}
use Rattle.ecma_role_table.specs.Statements.{statement}
use Rattle.ecma_role_table.specs.Table.{row}
use Rattle.ecma_role_moves.specs.Moves as moves
use Rattle.ecma_role_moves.specs.Moves.{changed, landed, moved, turned_to}
use Rattle.ecma_role_moves.specs.Nest.{Nested, dropped, kind_in, nested, no_function, over_kinds, pending, popped, popped_from, pushed, top, turned, under}
use Rattle.ecma_roles.specs.Fast.{Takes, body_kind, brace_state, colon_state, comma_state, declares, decorates, follows, has_no_method, holds_statements, is_behind, is_complete, is_declared, is_group, is_operator, may_close, may_end, may_go_on, paren_state, semicolon_state}
use Rattle.ecma_role_tracks.specs.Track.{read_once, read_times, readied, reading, seen, stepped, track}
use Rattle.ecma_role_moves.proofs.NestLemmas.{dropped_none, dropped_popped}
use Rattle.ecma_role_tracks.proofs.TrackLemmas.{nothing_left, one_more}

-- a token that is read once
pub once : (s : State) (nest : Nested) (typescript had_line_break : Bool) (kind : PartKind) (next : State) (behind : Nested) → read_once (track s nest typescript) kind had_line_break ≡ turned_to (Done next) behind
    → stepped (track s nest typescript) (record { kind = kind; had_line_break = had_line_break }) ≡ track next behind typescript
once s nest typescript had_line_break kind next behind is =
    let on : read_times 8 had_line_break (reading (track s nest typescript) (Some kind)) ≡ reading (track next behind typescript) None = one_more 7 had_line_break (track s nest typescript) kind ∙ rw is (nothing_left 7 had_line_break (track next behind typescript)) in
    ap (λ r. r.track) on

-- twice
pub twice : (s between : State) (nest inside : Nested) (typescript had_line_break : Bool) (kind : PartKind) (next : State) (behind : Nested) → read_once (track s nest typescript) kind had_line_break ≡ turned_to (Again between kind) inside
    → read_once (track between inside typescript) kind had_line_break ≡ turned_to (Done next) behind → stepped (track s nest typescript) (record { kind = kind; had_line_break = had_line_break }) ≡ track next behind typescript
twice s between nest inside typescript had_line_break kind next behind first is =
    let last : read_times 7 had_line_break (reading (track between inside typescript) (Some kind)) ≡ reading (track next behind typescript) None = one_more 6 had_line_break (track between inside typescript) kind ∙ rw is (nothing_left 6 had_line_break (track next behind typescript)) in
    let on : read_times 8 had_line_break (reading (track s nest typescript) (Some kind)) ≡ reading (track next behind typescript) None = one_more 7 had_line_break (track s nest typescript) kind ∙ rw first last in
    ap (λ r. r.track) on

-- and three times
pub thrice : (s between then : State) (nest inside : Nested) (typescript had_line_break : Bool) (kind : PartKind) (next : State) (behind : Nested) → read_once (track s nest typescript) kind had_line_break ≡ turned_to (Again between kind) nest
    → read_once (track between nest typescript) kind had_line_break ≡ turned_to (Again then kind) inside → read_once (track then inside typescript) kind had_line_break ≡ turned_to (Done next) behind
    → stepped (track s nest typescript) (record { kind = kind; had_line_break = had_line_break }) ≡ track next behind typescript
thrice s between then nest inside typescript had_line_break kind next behind first second is =
    let last : read_times 6 had_line_break (reading (track then inside typescript) (Some kind)) ≡ reading (track next behind typescript) None = one_more 5 had_line_break (track then inside typescript) kind ∙ rw is (nothing_left 5 had_line_break (track next behind typescript)) in
    let mid : read_times 7 had_line_break (reading (track between nest typescript) (Some kind)) ≡ reading (track next behind typescript) None = one_more 6 had_line_break (track between nest typescript) kind ∙ rw second last in
    let on : read_times 8 had_line_break (reading (track s nest typescript) (Some kind)) ≡ reading (track next behind typescript) None = one_more 7 had_line_break (track s nest typescript) kind ∙ rw first mid in
    ap (λ r. r.track) on

-- where there is a state behind it
pub takes_pushed : (s : State) (nest behind : Nested) (kind : PartKind) (had_line_break : Bool) (frame : FrameKind) (to : State) (result : Option State) → IfSome result (λ next. (next ≡ to) × (behind ≡ pushed frame nest))
    → Takes s nest kind had_line_break to (pushed frame nest) → IfSome result (λ next. Takes s nest kind had_line_break next behind)
takes_pushed s nest behind kind had_line_break frame to None pushed takes = tt
takes_pushed s nest behind kind had_line_break frame to (Some next) pushed takes = rw pushed.0 (rw pushed.1 takes)

-- where it leads to what is said
pub takes_led : (s : State) (nest behind led : Nested) (kind : PartKind) (had_line_break : Bool) (to : State) (result : Option State) → IfSome result (λ next. (next ≡ to) × (behind ≡ led))
    → Takes s nest kind had_line_break to led → IfSome result (λ next. Takes s nest kind had_line_break next behind)
takes_led s nest behind led kind had_line_break to None leads takes = tt
takes_led s nest behind led kind had_line_break to (Some next) leads takes = rw leads.0 (rw leads.1 takes)

pub takes_found : (s : State) (nest : Nested) (kind : PartKind) (had_line_break : Bool) (result found : Option State) → result ≡ found → ((next : State) → found ≡ Some next → Takes s nest kind had_line_break next nest)
    → IfSome result (λ next. Takes s nest kind had_line_break next nest)
takes_found s nest kind had_line_break None found is takes = tt
takes_found s nest kind had_line_break (Some next) found is takes = takes next (sym is)

-- a sign that is read as behind any operand

behind-row : (s : State) (kind : PartKind) (nest : Nested) (typescript had_line_break : Bool) → is_behind s ≡ true → follows kind ≡ true → row s kind (seen had_line_break typescript nest) ≡ move.Again state.After change.Nothing
unfolding row
behind-row s kind nest typescript had_line_break holds goes = grind arith

behind-ready : (s : State) (kind : PartKind) (nest : Nested) (had_line_break : Bool) → is_behind s ≡ true → readied s kind had_line_break nest ≡ nest
behind-ready s kind nest had_line_break holds = grind arith

behind-again : (s : State) (kind : PartKind) (nest : Nested) (typescript had_line_break : Bool) → is_behind s ≡ true → follows kind ≡ true → read_once (track s nest typescript) kind had_line_break ≡ turned_to (Again state.After kind) nest
unfolding read_once moved changed
behind-again s kind nest typescript had_line_break holds goes = rw (behind-ready s kind nest had_line_break holds) (rw (behind-row s kind nest typescript had_line_break holds goes) refl)

complete-or : (s : State) → is_complete s ≡ true → (s ≡ state.After) ⊎ (is_behind s ≡ true)
complete-or s holds = grind arith

pub behind_operand : (s : State) (nest : Nested) (typescript had_line_break : Bool) (kind : PartKind) (next : State) (behind : Nested) → is_complete s ≡ true → follows kind ≡ true
    → read_once (track state.After nest typescript) kind had_line_break ≡ turned_to (Done next) behind → stepped (track s nest typescript) (record { kind = kind; had_line_break = had_line_break }) ≡ track next behind typescript
behind_operand s nest typescript had_line_break kind next behind holds goes is = ⊎_elim
    (λ after. rw after (once state.After nest typescript had_line_break kind next behind is))
    (λ other. twice s state.After nest nest typescript had_line_break kind next behind (behind-again s kind nest typescript had_line_break other goes) is)
    (complete-or s holds)

-- a dot
dot-once : (nest : Nested) (typescript had_line_break : Bool) → read_once (track state.After nest typescript) (Sign sign.Dot) had_line_break ≡ turned_to (Done state.Property) nest
unfolding read_once row moved changed
dot-once nest typescript had_line_break = refl

pub dot_takes : (s : State) (nest : Nested) (had_line_break : Bool) → is_complete s ≡ true → Takes s nest (Sign sign.Dot) had_line_break state.Property nest
dot_takes s nest had_line_break holds typescript = behind_operand s nest typescript had_line_break (Sign sign.Dot) state.Property nest holds refl (dot-once nest typescript had_line_break)

-- what may be type arguments is on top of nothing here
ready-none : (kind : PartKind) (nest : Nested) (had_line_break : Bool) → over_candidate (top nest) ≡ false → readied state.After kind had_line_break nest ≡ nest
ready-none kind nest had_line_break none = grind (arith, dropped_none kinds.Candidates nest)

-- the innermost frame but one
top-from : (frames : List Frame) (around pending : Around) → top (popped_from frames around pending) ≡ kind_in (slice_get frames 1)
top-from [] around pending = refl
top-from (f ∷ fs) around pending = refl

top-popped : (nest : Nested) → top (popped nest) ≡ under nest
top-popped nest = top-from nest.frames nest.around nest.pending

-- no method's name is read
no-method : (a : Around) → not a.is_async && not a.is_generator ≡ true → no_function ≡ a
no-method a holds = grind arith

cleared : (nest : Nested) → has_no_method nest ≡ true → pending no_function nest ≡ nest
cleared nest holds = ap (λ p. nested nest.frames nest.around p) (no-method nest.pending holds)

-- behind a name that is declared
declared-once : (s : State) (kind : PartKind) (nest : Nested) (typescript had_line_break : Bool) → is_declared s ≡ true → row state.AfterBinding kind (seen had_line_break typescript nest) ≡ move.Again state.After change.Nothing → read_once (track s nest typescript) kind had_line_break ≡ turned_to (Again state.After kind) nest
unfolding read_once moved changed
declared-once state.AfterBinding kind nest typescript had_line_break holds is = rw is refl
declared-once s kind nest typescript had_line_break holds is = cc

on-or : (s : State) → may_go_on s ≡ true → (is_complete s ≡ true) ⊎ (is_declared s ≡ true)
on-or s holds = grind arith

pub going_on : (s : State) (nest : Nested) (typescript had_line_break : Bool) (kind : PartKind) (next : State) (behind : Nested) → may_go_on s ≡ true → follows kind ≡ true → row state.AfterBinding kind (seen had_line_break typescript nest) ≡ move.Again state.After change.Nothing
    → read_once (track state.After nest typescript) kind had_line_break ≡ turned_to (Done next) behind → stepped (track s nest typescript) (record { kind = kind; had_line_break = had_line_break }) ≡ track next behind typescript
going_on s nest typescript had_line_break kind next behind holds goes row is = ⊎_elim
    (λ complete. behind_operand s nest typescript had_line_break kind next behind complete goes is)
    (λ declared. twice s state.After nest nest typescript had_line_break kind next behind (declared-once s kind nest typescript had_line_break declared row) is)
    (on-or s holds)

-- a comma
no-conditional : (over : Option FrameKind) (next : State) → comma_state over ≡ Some next → over_kinds kinds.Conditionals over ≡ false
no-conditional over next is = grind arith

no-candidate : (over : Option FrameKind) (next : State) → comma_state over ≡ Some next → over_candidate over ≡ false
no-candidate over next is = grind arith

comma-leads : (over : Option FrameKind) (next : State) → comma_state over ≡ Some next → moves.behind_comma over ≡ next
comma-leads over next is = grind arith

comma-once : (nest : Nested) (typescript had_line_break : Bool) (next : State) → comma_state (top nest) ≡ Some next → read_once (track state.After nest typescript) (Sign sign.Comma) had_line_break ≡ turned_to (Done next) nest
unfolding read_once row moved
comma-once nest typescript had_line_break next is =
    let none : dropped kinds.Conditionals nest ≡ nest = dropped_none kinds.Conditionals nest (no-conditional (top nest) next is) in
    rw none (rw (no-candidate (top nest) next is) (ap (λ s. turned_to (Done s) nest) (comma-leads (top nest) next is)))

pub comma_takes : (s : State) (nest : Nested) (had_line_break : Bool) (next : State) → may_go_on s ≡ true → comma_state (top nest) ≡ Some next → Takes s nest (Sign sign.Comma) had_line_break next nest
unfolding row
comma_takes s nest had_line_break next holds is typescript = going_on s nest typescript had_line_break (Sign sign.Comma) next nest holds refl refl (comma-once nest typescript had_line_break next is)

pub comma_behind_key : (nest : Nested) (had_line_break : Bool) → has_no_method nest ≡ true → Takes state.Key nest (Sign sign.Comma) had_line_break state.Key nest
unfolding read_once row moved changed
comma_behind_key nest had_line_break holds typescript = once state.Key nest typescript had_line_break (Sign sign.Comma) state.Key nest (ap (turned_to (Done state.Key)) (cleared nest holds))

-- brackets that open
pub paren_opens : (s : State) (nest : Nested) (had_line_break : Bool) → is_complete s ≡ true → over_candidate (top nest) ≡ false → Takes s nest (Sign sign.LParen) had_line_break state.Operand (pushed frame.Call nest)
unfolding read_once row moved changed
paren_opens s nest had_line_break holds none typescript = behind_operand s nest typescript had_line_break (Sign sign.LParen) state.Operand (pushed frame.Call nest) holds refl (rw (ready-none (Sign sign.LParen) nest had_line_break none) refl)

pub group_opens : (nest : Nested) (had_line_break : Bool) → Takes state.Operand nest (Sign sign.LParen) had_line_break state.Operand (pushed frame.Paren nest)
unfolding read_once row moved changed
group_opens nest had_line_break typescript = once state.Operand nest typescript had_line_break (Sign sign.LParen) state.Operand (pushed frame.Paren nest) refl

pub parameters_open : (nest : Nested) (had_line_break : Bool) → Takes state.Head nest (Sign sign.LParen) had_line_break state.Operand (pushed frame.Parameters nest)
unfolding read_once row moved changed
parameters_open nest had_line_break typescript = once state.Head nest typescript had_line_break (Sign sign.LParen) state.Operand (pushed frame.Parameters nest) refl

pub control_opens : (nest : Nested) (had_line_break : Bool) → Takes state.Control nest (Sign sign.LParen) had_line_break state.Operand (pushed frame.Control nest)
unfolding read_once row moved changed
control_opens nest had_line_break typescript = once state.Control nest typescript had_line_break (Sign sign.LParen) state.Operand (pushed frame.Control nest) refl

pub group_begins : (nest : Nested) (had_line_break : Bool) → Takes state.Statement nest (Sign sign.LParen) had_line_break state.Operand (pushed frame.Paren nest)
unfolding read_once row moved changed statement
group_begins nest had_line_break typescript = twice state.Statement state.Operand nest nest typescript had_line_break (Sign sign.LParen) state.Operand (pushed frame.Paren nest) refl refl

pub head_opens : (nest : Nested) (had_line_break : Bool) → Takes state.ForKeyword nest (Sign sign.LParen) had_line_break state.ForHead (pushed frame.For nest)
unfolding read_once row moved changed
head_opens nest had_line_break typescript = once state.ForKeyword nest typescript had_line_break (Sign sign.LParen) state.ForHead (pushed frame.For nest) refl

close-or : (s : State) → may_close s ≡ true → (is_complete s ≡ true) ⊎ (s ≡ state.Operand)
close-or s holds = grind arith

pub bracket_opens : (s : State) (nest : Nested) (had_line_break : Bool) → may_close s ≡ true → Takes s nest (Sign sign.LBracket) had_line_break state.Operand (pushed frame.Bracket nest)
unfolding read_once row moved changed
bracket_opens s nest had_line_break holds typescript = ⊎_elim
    (λ complete. behind_operand s nest typescript had_line_break (Sign sign.LBracket) state.Operand (pushed frame.Bracket nest) complete refl refl)
    (λ operand. rw operand (once state.Operand nest typescript had_line_break (Sign sign.LBracket) state.Operand (pushed frame.Bracket nest) refl))
    (close-or s holds)

pub object_opens : (nest : Nested) (had_line_break : Bool) → has_no_method nest ≡ true → Takes state.Operand nest (Sign sign.LBrace) had_line_break state.Key (pushed frame.Object nest)
unfolding read_once row moved changed
object_opens nest had_line_break holds typescript = once state.Operand nest typescript had_line_break (Sign sign.LBrace) state.Key (pushed frame.Object nest) (ap (turned_to (Done state.Key)) (cleared (pushed frame.Object nest) holds))

pub block_opens : (nest : Nested) (had_line_break : Bool) → Takes state.Statement nest (Sign sign.LBrace) had_line_break state.Statement (pushed frame.Block nest)
unfolding read_once row moved changed statement
block_opens nest had_line_break typescript = once state.Statement nest typescript had_line_break (Sign sign.LBrace) state.Statement (pushed frame.Block nest) refl

body-begins : (over : Option FrameKind) (kind : FrameKind) → body_kind over ≡ Some kind → moves.body_of over ≡ kind
body-begins over kind is = grind arith

pub body_opens : (nest : Nested) (had_line_break : Bool) (kind : FrameKind) → body_kind (top nest) ≡ Some kind → Takes state.HeadEnd nest (Sign sign.LBrace) had_line_break state.Statement (turned kind nest)
unfolding read_once row moved changed
body_opens nest had_line_break kind is typescript = once state.HeadEnd nest typescript had_line_break (Sign sign.LBrace) state.Statement (turned kind nest) (ap (λ k. turned_to (Done state.Statement) (turned k nest)) (body-begins (top nest) kind is))

pub arrow_body_opens : (nest : Nested) (had_line_break : Bool) → Takes state.ArrowBody nest (Sign sign.LBrace) had_line_break state.Statement (turned frame.ArrowBody nest)
unfolding read_once row moved changed
arrow_body_opens nest had_line_break typescript = once state.ArrowBody nest typescript had_line_break (Sign sign.LBrace) state.Statement (turned frame.ArrowBody nest) refl

-- and close
paren-over : (over around : Option FrameKind) (nest : Nested) (next : State) → paren_state over around ≡ Some next → top (popped nest) ≡ around → moves.paren_over over nest ≡ landed next (popped nest)
paren-over over around nest next is under = grind arith

no-angle : (over around : Option FrameKind) (next : State) → paren_state over around ≡ Some next → over_kinds kinds.MarksAndAngles over ≡ false
no-angle over around next is = grind arith

no-mark-inside : (over around : Option FrameKind) (next : State) → paren_state over around ≡ Some next → over_kinds kinds.Marks over ≡ false
no-mark-inside over around next is = grind arith

no-group : (over around : Option FrameKind) (nest : Nested) (next : State) → paren_state over around ≡ Some next → moves.parameters_over over nest ≡ nest
no-group over around nest next is = grind arith

paren-closes : (nest : Nested) (next : State) → paren_state (top nest) (under nest) ≡ Some next → moves.paren nest ≡ landed next (popped nest)
paren-closes nest next is =
    let none : dropped kinds.MarksAndAngles nest ≡ nest = dropped_none kinds.MarksAndAngles nest (no-angle (top nest) (under nest) next is) in
    rw none (paren-over (top nest) (under nest) nest next is (top-popped nest))

paren-empty : (nest : Nested) (next : State) → paren_state (top nest) (under nest) ≡ Some next → moves.parameters (dropped kinds.Marks nest) ≡ nest
paren-empty nest next is =
    let none : dropped kinds.Marks nest ≡ nest = dropped_none kinds.Marks nest (no-mark-inside (top nest) (under nest) next is) in
    rw none (no-group (top nest) (under nest) nest next is)

pub paren_takes : (s : State) (nest : Nested) (had_line_break : Bool) (next : State) → may_close s ≡ true → paren_state (top nest) (under nest) ≡ Some next → Takes s nest (Sign sign.RParen) had_line_break next (popped nest)
unfolding read_once row moved changed
paren_takes s nest had_line_break next holds is typescript = ⊎_elim
    (λ complete. behind_operand s nest typescript had_line_break (Sign sign.RParen) next (popped nest) complete refl (ap moves.done (paren-closes nest next is)))
    (λ operand. rw operand (twice state.Operand state.After nest nest typescript had_line_break (Sign sign.RParen) next (popped nest) (ap (turned_to (Again state.After (Sign sign.RParen))) (paren-empty nest next is)) (ap moves.done (paren-closes nest next is))))
    (close-or s holds)

group-over : (over around : Option FrameKind) (nest : Nested) → is_group over ≡ true → decorates around ≡ false → top (popped nest) ≡ around → moves.paren_over over nest ≡ landed state.Group (popped nest)
group-over over around nest is plain under = grind arith

group-plain : (over : Option FrameKind) → is_group over ≡ true → over_kinds kinds.MarksAndAngles over ≡ false
group-plain over is = grind arith

group-closes : (nest : Nested) → is_group (top nest) ≡ true → decorates (under nest) ≡ false → moves.paren nest ≡ landed state.Group (popped nest)
group-closes nest is plain =
    let none : dropped kinds.MarksAndAngles nest ≡ nest = dropped_none kinds.MarksAndAngles nest (group-plain (top nest) is) in
    rw none (group-over (top nest) (under nest) nest is plain (top-popped nest))

pub group_takes : (s : State) (nest : Nested) (had_line_break : Bool) → is_complete s ≡ true → is_group (top nest) ≡ true → decorates (under nest) ≡ false → Takes s nest (Sign sign.RParen) had_line_break state.Group (popped nest)
unfolding read_once row moved changed
group_takes s nest had_line_break holds is plain typescript = behind_operand s nest typescript had_line_break (Sign sign.RParen) state.Group (popped nest) holds refl (ap moves.done (group-closes nest is plain))

bracket-closes : (nest : Nested) → top nest ≡ Some frame.Bracket → moves.bracket nest ≡ landed state.After (popped nest)
bracket-closes nest over =
    let none : dropped kinds.MarksAndAngles nest ≡ nest = dropped_none kinds.MarksAndAngles nest (rw over refl) in
    rw none (rw over refl)

pub bracket_takes : (s : State) (nest : Nested) (had_line_break : Bool) → may_close s ≡ true → top nest ≡ Some frame.Bracket → Takes s nest (Sign sign.RBracket) had_line_break state.After (popped nest)
unfolding read_once row moved changed
bracket_takes s nest had_line_break holds over typescript = ⊎_elim
    (λ complete. behind_operand s nest typescript had_line_break (Sign sign.RBracket) state.After (popped nest) complete refl (ap moves.done (bracket-closes nest over)))
    (λ operand. rw operand (twice state.Operand state.After nest nest typescript had_line_break (Sign sign.RBracket) state.After (popped nest) refl (ap moves.done (bracket-closes nest over))))
    (close-or s holds)

-- a right brace
brace-over : (over : Option FrameKind) (nest : Nested) (next : State) → brace_state over ≡ Some next → moves.brace_over over nest ≡ landed next (popped nest)
brace-over over nest next is = grind arith

no-inside : (over : Option FrameKind) (next : State) → brace_state over ≡ Some next → over_kinds kinds.InsideBraces over ≡ false
no-inside over next is = grind arith

brace-closes : (nest : Nested) (next : State) → brace_state (top nest) ≡ Some next → moves.brace nest ≡ landed next (popped nest)
brace-closes nest next is =
    let none : dropped kinds.InsideBraces nest ≡ nest = dropped_none kinds.InsideBraces nest (no-inside (top nest) next is) in
    rw none (brace-over (top nest) nest next is)

brace-once : (nest : Nested) (typescript had_line_break : Bool) (next : State) → has_no_method nest ≡ true → moves.brace nest ≡ landed next (popped nest) → read_once (track state.After nest typescript) (Sign sign.RBrace) had_line_break ≡ turned_to (Done next) (popped nest)
unfolding read_once row moved
brace-once nest typescript had_line_break next holds closes = ap (λ n. moves.done (moves.brace n)) (cleared nest holds) ∙ ap moves.done closes

brace-key : (nest : Nested) (typescript had_line_break : Bool) (next : State) → has_no_method nest ≡ true → moves.brace nest ≡ landed next (popped nest) → read_once (track state.Key nest typescript) (Sign sign.RBrace) had_line_break ≡ turned_to (Done next) (popped nest)
unfolding read_once row moved
brace-key nest typescript had_line_break next holds closes = ap (λ n. moves.done (moves.brace n)) (cleared nest holds) ∙ ap moves.done closes

brace-operand : (nest : Nested) (typescript had_line_break : Bool) → read_once (track state.Operand nest typescript) (Sign sign.RBrace) had_line_break ≡ turned_to (Again state.After (Sign sign.RBrace)) nest
unfolding read_once row moved changed
brace-operand nest typescript had_line_break = refl

brace-statement : (nest : Nested) (typescript had_line_break : Bool) → read_once (track state.Statement nest typescript) (Sign sign.RBrace) had_line_break ≡ turned_to (Again state.Operand (Sign sign.RBrace)) nest
unfolding read_once row moved changed statement
brace-statement nest typescript had_line_break = refl

end-or : (s : State) → may_end s ≡ true → (is_complete s ≡ true) ⊎ ((s ≡ state.Operand) ⊎ ((s ≡ state.Statement) ⊎ (s ≡ state.Key)))
end-or s holds = grind arith

pub brace_takes : (s : State) (nest : Nested) (had_line_break : Bool) (next : State) → may_end s ≡ true → has_no_method nest ≡ true → brace_state (top nest) ≡ Some next → Takes s nest (Sign sign.RBrace) had_line_break next (popped nest)
brace_takes s nest had_line_break next ends holds is typescript =
    let closes : moves.brace nest ≡ landed next (popped nest) = brace-closes nest next is in
    let last : read_once (track state.After nest typescript) (Sign sign.RBrace) had_line_break ≡ turned_to (Done next) (popped nest) = brace-once nest typescript had_line_break next holds closes in
    ⊎_elim
    (λ complete. behind_operand s nest typescript had_line_break (Sign sign.RBrace) next (popped nest) complete refl last)
    (λ other. ⊎_elim
    (λ operand. rw operand (twice state.Operand state.After nest nest typescript had_line_break (Sign sign.RBrace) next (popped nest) (brace-operand nest typescript had_line_break) last))
    (λ begins. ⊎_elim
    (λ statement. rw statement (thrice state.Statement state.Operand state.After nest nest typescript had_line_break (Sign sign.RBrace) next (popped nest) (brace-statement nest typescript had_line_break) (brace-operand nest typescript had_line_break) last))
    (λ key. rw key (once state.Key nest typescript had_line_break (Sign sign.RBrace) next (popped nest) (brace-key nest typescript had_line_break next holds closes)))
    begins)
    other)
    (end-or s ends)

-- a semicolon
no-mark : (over : Option FrameKind) (next : State) → semicolon_state over ≡ Some next → over_kinds kinds.Marks over ≡ false
no-mark over next is = grind arith

no-arguments : (over : Option FrameKind) (next : State) → semicolon_state over ≡ Some next → over_candidate over ≡ false
no-arguments over next is = grind arith

semi-leads : (over : Option FrameKind) (nest : Nested) (next : State) → semicolon_state over ≡ Some next → top nest ≡ over → moves.semi_at (moves.fresh_of over) nest ≡ landed next nest
semi-leads over nest next is on = grind arith

semi-ends : (nest inside : Nested) (next : State) → dropped kinds.Marks nest ≡ inside → semicolon_state (top inside) ≡ Some next → moves.semi nest ≡ landed next inside
semi-ends nest inside next drops is = rw drops (semi-leads (top inside) inside next is refl)

semi-once : (nest inside : Nested) (typescript had_line_break : Bool) (next : State) → over_candidate (top nest) ≡ false → dropped kinds.Marks nest ≡ inside → semicolon_state (top inside) ≡ Some next
    → read_once (track state.After nest typescript) (Sign sign.Semi) had_line_break ≡ turned_to (Done next) inside
unfolding read_once row moved
semi-once nest inside typescript had_line_break next plain drops is = rw (ready-none (Sign sign.Semi) nest had_line_break plain) (ap moves.done (semi-ends nest inside next drops is))

pub semicolon_takes : (s : State) (nest : Nested) (had_line_break : Bool) (next : State) → may_go_on s ≡ true → semicolon_state (top nest) ≡ Some next → Takes s nest (Sign sign.Semi) had_line_break next nest
unfolding row
semicolon_takes s nest had_line_break next goes is typescript =
    let none : dropped kinds.Marks nest ≡ nest = dropped_none kinds.Marks nest (no-mark (top nest) next is) in
    going_on s nest typescript had_line_break (Sign sign.Semi) next nest goes refl refl (semi-once nest nest typescript had_line_break next (no-arguments (top nest) next is) none is)

declaration-mark : (over : Option FrameKind) → declares over ≡ true → over_kinds kinds.Marks over ≡ true
declaration-mark over is = grind arith

declaration-plain : (over : Option FrameKind) → declares over ≡ true → over_candidate over ≡ false
declaration-plain over is = grind arith

pub declaration_ends : (s : State) (nest : Nested) (had_line_break : Bool) (next : State) → may_go_on s ≡ true → declares (top nest) ≡ true → semicolon_state (under nest) ≡ Some next → Takes s nest (Sign sign.Semi) had_line_break next (popped nest)
unfolding row
declaration_ends s nest had_line_break next goes over is typescript =
    let around : semicolon_state (top (popped nest)) ≡ Some next = rw (top-popped nest) is in
    let none : dropped kinds.Marks nest ≡ popped nest = sym (dropped_popped kinds.Marks nest (declaration-mark (top nest) over)) ∙ dropped_none kinds.Marks (popped nest) (no-mark (top (popped nest)) next around) in
    going_on s nest typescript had_line_break (Sign sign.Semi) next (popped nest) goes refl refl (semi-once nest (popped nest) typescript had_line_break next (declaration-plain (top nest) over) none around)

-- behind `break`, a statement begins, which it ends
statement-state : (over : Option FrameKind) → holds_statements over ≡ true → semicolon_state over ≡ Some state.Statement
statement-state over holds = grind arith

fresh-statement : (over : Option FrameKind) → holds_statements over ≡ true → moves.fresh_of over ≡ state.Statement
fresh-statement over holds = grind arith

break-fresh : (nest : Nested) (typescript had_line_break : Bool) → holds_statements (top nest) ≡ true → dropped kinds.Marks nest ≡ nest → read_once (track state.Break nest typescript) (Sign sign.Semi) had_line_break ≡ turned_to (Again state.Statement (Sign sign.Semi)) nest
unfolding read_once row moved
break-fresh nest typescript had_line_break holds none = rw none (ap (λ s. turned_to (Again s (Sign sign.Semi)) nest) (fresh-statement (top nest) holds))

break-semi : (nest : Nested) (typescript had_line_break : Bool) → holds_statements (top nest) ≡ true → dropped kinds.Marks nest ≡ nest → read_once (track state.Statement nest typescript) (Sign sign.Semi) had_line_break ≡ turned_to (Done state.Statement) nest
unfolding read_once row moved statement
break-semi nest typescript had_line_break holds none = ap moves.done (semi-ends nest nest state.Statement none (statement-state (top nest) holds))

pub break_ends : (nest : Nested) (had_line_break : Bool) → holds_statements (top nest) ≡ true → Takes state.Break nest (Sign sign.Semi) had_line_break state.Statement nest
break_ends nest had_line_break holds typescript =
    let none : dropped kinds.Marks nest ≡ nest = dropped_none kinds.Marks nest (no-mark (top nest) state.Statement (statement-state (top nest) holds)) in
    twice state.Break state.Statement nest nest typescript had_line_break (Sign sign.Semi) state.Statement nest (break-fresh nest typescript had_line_break holds none) (break-semi nest typescript had_line_break holds none)

-- a colon
pub colon_behind_key : (nest : Nested) (had_line_break : Bool) → has_no_method nest ≡ true → Takes state.Key nest (Sign sign.Colon) had_line_break state.Operand nest
unfolding read_once row moved changed
colon_behind_key nest had_line_break holds typescript = once state.Key nest typescript had_line_break (Sign sign.Colon) state.Operand nest (ap (turned_to (Done state.Operand)) (cleared nest holds))

colon-plain : (over : Option FrameKind) (next : State) → colon_state over ≡ Some next → over_kinds kinds.Candidates over ≡ false
colon-plain over next is = grind arith

colon-leads : (nest : Nested) (over : Option FrameKind) (next : State) → top nest ≡ over → colon_state over ≡ Some next → moves.colon_plain nest ≡ landed next (popped nest)
colon-leads nest (Some frame.Conditional) next on is = rw on (grind arith)
colon-leads nest (Some frame.Case) next on is = rw on (grind arith)
colon-leads nest over next on is = cc

pub colon_takes : (nest : Nested) (had_line_break : Bool) (next : State) → colon_state (top nest) ≡ Some next → Takes state.After nest (Sign sign.Colon) had_line_break next (popped nest)
unfolding read_once row moved
colon_takes nest had_line_break next is typescript =
    let none : dropped kinds.Candidates nest ≡ nest = dropped_none kinds.Candidates nest (colon-plain (top nest) next is) in
    once state.After nest typescript had_line_break (Sign sign.Colon) next (popped nest) (rw none (ap moves.done (colon-leads nest (top nest) next refl is)))

pub conditional_begins : (s : State) (nest : Nested) (had_line_break : Bool) → is_complete s ≡ true → over_candidate (top nest) ≡ false → Takes s nest (Sign sign.QuestionMark) had_line_break state.Conditional (pushed frame.Conditional nest)
unfolding read_once row moved changed
conditional_begins s nest had_line_break holds none typescript = behind_operand s nest typescript had_line_break (Sign sign.QuestionMark) state.Conditional (pushed frame.Conditional nest) holds refl (rw (ready-none (Sign sign.QuestionMark) nest had_line_break none) refl)

-- operators
no-async : (over : Option FrameKind) → over_candidate over ≡ false → over_async_candidate over ≡ false
no-async over none = grind (arith, none)

pub equals_takes : (s : State) (nest : Nested) (had_line_break : Bool) → may_go_on s ≡ true → over_candidate (top nest) ≡ false → Takes s nest (Sign sign.Assign) had_line_break state.Operand nest
unfolding read_once row moved changed
equals_takes s nest had_line_break holds none typescript = going_on s nest typescript had_line_break (Sign sign.Assign) state.Operand nest holds refl refl (rw (ready-none (Sign sign.Assign) nest had_line_break none) (rw (no-async (top nest) none) refl))

operator-row : (kind : PartKind) (nest : Nested) (typescript had_line_break : Bool) → is_operator kind ≡ true → row state.After kind (seen had_line_break typescript nest) ≡ move.To state.Operand change.Nothing
unfolding row
operator-row kind nest typescript had_line_break holds = grind arith

operator-follows : (kind : PartKind) → is_operator kind ≡ true → follows kind ≡ true
operator-follows kind holds = grind arith

operator-once : (kind : PartKind) (nest : Nested) (typescript had_line_break : Bool) → is_operator kind ≡ true → over_candidate (top nest) ≡ false → read_once (track state.After nest typescript) kind had_line_break ≡ turned_to (Done state.Operand) nest
unfolding read_once moved changed
operator-once kind nest typescript had_line_break holds none = rw (ready-none kind nest had_line_break none) (rw (operator-row kind nest typescript had_line_break holds) refl)

pub operator_takes : (s : State) (nest : Nested) (had_line_break : Bool) (kind : PartKind) → is_complete s ≡ true → is_operator kind ≡ true → over_candidate (top nest) ≡ false → Takes s nest kind had_line_break state.Operand nest
operator_takes s nest had_line_break kind holds is none typescript = behind_operand s nest typescript had_line_break kind state.Operand nest holds (operator-follows kind is) (operator-once kind nest typescript had_line_break is none)

-- what is before an operand
pub bang_takes : (nest : Nested) (had_line_break : Bool) → Takes state.Operand nest (Sign sign.Bang) had_line_break state.Operand nest
unfolding read_once row moved changed
bang_takes nest had_line_break typescript = once state.Operand nest typescript had_line_break (Sign sign.Bang) state.Operand nest refl

-- `++` or `--` behind an operand
pub update_takes : (s : State) (nest : Nested) → is_complete s ≡ true → over_candidate (top nest) ≡ false → Takes s nest (Sign sign.Update) false state.AfterPostfix nest
unfolding read_once row moved changed
update_takes s nest holds none typescript = behind_operand s nest typescript false (Sign sign.Update) state.AfterPostfix nest holds refl (rw (ready-none (Sign sign.Update) nest false none) refl)

-- an arrow function
pub arrow_takes : (s : State) (nest : Nested) (had_line_break : Bool) → is_complete s ≡ true → Takes s nest (Sign sign.Arrow) had_line_break state.ArrowBody (moves.arrow false nest)
unfolding read_once row moved changed
arrow_takes s nest had_line_break holds typescript = behind_operand s nest typescript had_line_break (Sign sign.Arrow) state.ArrowBody (moves.arrow false nest) holds refl refl
