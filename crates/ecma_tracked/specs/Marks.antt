-- Where a tracked lexer is between two reads, and where going back to it leads.
use Rattle.std.specs.Prelude.{◌≡◌, Bool}
use Rattle.ecma_place.specs.Cursor.{IsWithin}
use Rattle.ecma_checkpoint.specs.Checkpoints.{CheckpointValue, GoesBack, checkpoint_of, rewound}
use Rattle.ecma_rewinding.specs.Rewinding.{GoesOn}
use Rattle.ecma_slashes.specs.Known.{Known}
use Rattle.ecma_tracked.specs.States.{TrackedState}

-- the lexer's place, with what the tokens up to it lead to
pub record MarkValue : Type 0 where
  pub place : CheckpointValue
  pub known : Known
  pub refused : Bool

abbrev pub mark_of : TrackedState → MarkValue
mark_of t = record { place = checkpoint_of t.lexer; known = t.known; refused = t.refused }

-- a tracked lexer that goes back
abbrev pub back_to : MarkValue → TrackedState → TrackedState
back_to m t = record { lexer = rewound m.place t.lexer; known = m.known; refused = m.refused }

-- it goes back to where another was, and is then as that was
pub record GoesBackTo (t u : TrackedState) : Type 0 where
  pub goes : GoesBack (checkpoint_of t.lexer) u.lexer
  pub undone : back_to (mark_of t) u ≡ t

-- Laws

-- One whose lexer goes on from where that of another was goes back to it, and nothing is left of what came between.
abbrev pub RewindingUndoes : Type 0
RewindingUndoes = (t u : TrackedState) → IsWithin t.lexer.input → GoesBack (checkpoint_of t.lexer) t.lexer → GoesOn t.lexer u.lexer → GoesBackTo t u
