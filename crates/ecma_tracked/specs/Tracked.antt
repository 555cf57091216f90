-- How the fields of a tracked lexer give what it keeps, and what always holds of them.
use Rattle.std.specs.Prelude.{◌≡◌, None, false}
use Rattle.ecma_slashes.specs.Rereads.{by_role, known_to, rule_of}
use Rattle.ecma_tracked.specs.States.{TrackedValue}
use Rattle.ecma_tracked.specs.declared.tracked.Tracked.TheInside.{Inside}

abbrev pub tracked_view : Inside → TrackedValue
tracked_view a = record { lexer = a.lexer; known = known_to a.decider; refused = a.refused }

-- The tokens before decide, and, while memory was not refused, no slash is read again.
pub record IsTracked (a : Inside) : Type 0 where
  pub by_roles : rule_of a.decider.slashes ≡ by_role
  pub no_reread : a.refused ≡ false → a.lexer.reread ≡ None
