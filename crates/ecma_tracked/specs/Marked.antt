-- How the fields of a checkpoint of a tracked lexer give what it keeps, and what always holds of them.
use Rattle.std.specs.Prelude.{◌≡◌, None, false}
use Rattle.ecma_slashes.specs.Rereads.{by_role, known_to, rule_of}
use Rattle.ecma_tracked.specs.Marks.{MarkValue}
use Rattle.ecma_tracked.specs.declared.checkpoint.TrackedCheckpoint.TheInside.{Inside}

abbrev pub mark_view : Inside → MarkValue
mark_view a = record { place = a.place; known = known_to a.decider; refused = a.refused }

-- The tokens before decide, and, where memory was not refused, no slash was to be read again.
pub record IsMarked (a : Inside) : Type 0 where
  pub by_roles : rule_of a.decider.slashes ≡ by_role
  pub no_reread : a.refused ≡ false → a.place.reread ≡ None
