-- The tokens that a list of steps keeps of a text lie in it, between its places.
use Rattle.std.proofs.Common.{List, [], ◌∷◌, map, sym, subst}
use mathlib.Core.List.{reverse_aux}
use Rattle.std.specs.List.{All}
use Rattle.std.proofs.lemmas.List.Elements.{All-cons, All-nil}
use Rattle.ecma_place.specs.Cursor.{Cursor}
use Rattle.ecma_token.specs.View.{SpannedView}
use Rattle.ecma_state.specs.Counting.{counting}
use Rattle.ecma_state.specs.Run.{act_all, session, start_of}
use Rattle.ecma_state.specs.Session.{kept_back, kept_of, kept_tokens}
use Rattle.ecma_state.specs.declared.kept.Kept.{Kept}
use Rattle.ecma_state.specs.declared.settings.Settings.{Settings}
use Rattle.ecma_state.specs.declared.step.Step.{Step}
use Rattle.ecma_laws.proofs.KeptSpans.{AllLie, LiesIn, kept_lie}
use Rattle.ecma_replay.specs.Replay.{Gathers, Replays}
use Rattle.ecma_replay.specs.declared.gathered.Gathered.{Gathered}
use Rattle.ecma_replay.specs.declared.replayed.Replay.{Replay}
use Rattle.ecma_joined.specs.Joined.{StandsIn}

stands : (input : Cursor) (t : SpannedView) → LiesIn input t.span → StandsIn input (kept_of t)
stands input t lies = record { from = lies.from; to = lies.to; in_order = lies.in_order }

onto : (input : Cursor) (ts : List SpannedView) (ks : List Kept) → AllLie input ts → All (StandsIn input) ks → All (StandsIn input) (reverse_aux (map kept_of ts) ks)
onto input [] ks all behind = behind
onto input (t ∷ ts) ks all behind = onto input ts (kept_of t ∷ ks) all.1 (All-cons (StandsIn input) (kept_of t) ks (stands input t all.0) behind)

-- the tokens that are kept where steps lead, all of which count
pub steps_keep_places : (settings : Settings) (input : Cursor) (steps : List Step) → All (StandsIn input) (kept_tokens (act_all (start_of settings input) steps))
steps_keep_places settings input steps =
    onto input (kept_back (act_all (start_of settings input) steps).past) [] (kept_lie settings input steps) (All-nil (StandsIn input))

-- the tokens that any list of steps keeps
pub kept_tokens_stand : (settings : Settings) (input : Cursor) (steps : List Step) → All (StandsIn input) (kept_tokens (session settings input steps))
kept_tokens_stand settings input steps = steps_keep_places settings input (counting steps)

-- the tokens that a replay keeps
pub replayed_tokens_stand : (settings : Settings) (input : Cursor) (steps : List Step) (r : Replay) → Replays (start_of settings input) steps r → All (StandsIn input) r.kept.items
replayed_tokens_stand settings input steps r replays =
    subst (All (StandsIn input)) (sym replays.kept) (kept_tokens_stand settings input steps)

-- those that are gathered
pub gathered_tokens_stand : (settings : Settings) (input : Cursor) (steps : List Step) (r : Gathered) → Gathers (start_of settings input) steps r → All (StandsIn input) r.kept.items
gathered_tokens_stand settings input steps r gathers =
    subst (All (StandsIn input)) (sym gathers.kept) (kept_tokens_stand settings input steps)
