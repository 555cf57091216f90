-- A tracked lexer shows a session.
use Rattle.std.proofs.Common.{◌≡◌, ◌∙◌, Bool, false, Result, Ok, Err, refl, sym, ap}
use Rattle.std.specs.Prelude.{OnErr, OnOk}
use Rattle.ecma_syntax.specs.declared.context.Context.{Context}
use Rattle.ecma_state.specs.Run.{act_on, state_in}
use Rattle.ecma_state.specs.Session.{LexerState, LexerValue, Session, lexer_state, state_of}
use Rattle.ecma_state.specs.declared.step.Step.TheVariants.{SetCtx}
use Rattle.ecma_slashes.specs.Known.{Known, leading}
use Rattle.ecma_slashes.specs.Rereads.{Decides, by_role, known_to}
use Rattle.ecma_slashes.specs.Roles.{track_of}
use Rattle.ecma_tracked.specs.States.{TrackedState, tracked_of, tracked_state}
use Rattle.ecma_tracked.specs.Tracked.{IsTracked, tracked_view}
use Rattle.ecma_tracked.specs.declared.tracked.Tracked.TheInside.{Inside}

pub shows-all : (s : Session) (l : LexerState) (k : Known) (r : Bool) → l ≡ state_of s → k ≡ leading (track_of s) → r ≡ false
    → (let t : TrackedState = record { lexer = l; known = k; refused = r } in t ≡ tracked_of s)
shows-all s l k r lexer known going = rw (lexer, known, going) refl

-- the tokens of the session decide
pub shown-decides : (s : Session) (a : Inside) → IsTracked a → tracked_of s ≡ tracked_state (tracked_view a) → Decides by_role s a.decider
shown-decides s a is shows = record { by_rule = is.by_roles; follows = ap (λ t. t.known) (sym shows) }

-- Other flags

pub set-shows : {T E : Type 0} (result : Result T E) (s : Session) (context : Context) (a : Inside) (l : LexerValue) → context.«module» ≡ a.lexer.context.«module»
    → OnOk result (lexer_state l ≡ state_in context (lexer_state a.lexer)) → tracked_of s ≡ tracked_state (tracked_view a)
    → OnOk result (tracked_state (tracked_view (record a { lexer = l })) ≡ tracked_of (act_on s (SetCtx context)))
set-shows (Err e) s context a l same set shows = tt
set-shows (Ok v) s context a l same set shows =
    let goal : s.context.«module» ≡ context.«module» = ap (λ t. t.lexer.context.«module») shows ∙ sym same in
    shows-all (act_on s (SetCtx context)) (lexer_state l) (known_to a.decider) a.refused
    (set ∙ ap (λ t. state_in context t.lexer) (sym shows))
    (ap (λ t. t.known) (sym shows) ∙ ap (λ m. leading (track_of (record s { context = record context { «module» = m } }))) goal)
    (ap (λ t. t.refused) (sym shows))

-- no slash is read again behind that
pub set-plain : {T E : Type 0} (result : Result T E) (context : Context) (old new : LexerState) → OnOk result (new ≡ state_in context old) → OnErr result (new ≡ old) → new.reread ≡ old.reread
set-plain (Ok v) context old new ok err = ap (λ l. l.reread) ok
set-plain (Err e) context old new ok err = ap (λ l. l.reread) err
