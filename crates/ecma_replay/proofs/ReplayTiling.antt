-- What a replay keeps tiles its text.
use Rattle.std.proofs.Common.{◌≡◌, ◌∙◌, List, [], ◌∷◌, map, refl, sym, subst, ap, reverse}
use Rattle.std.proofs.lemmas.List.{reverse-reverse}
use Rattle.ecma_place.specs.Cursor.{Cursor, place}
use Rattle.ecma_token.specs.View.{SpannedView}
use Rattle.ecma_laws.specs.Tiling.{IsTiled, kept_spans, pieces_read}
use Rattle.ecma_laws.proofs.GapTiling.{tiles}
use Rattle.ecma_replay.specs.Replay.{Replays, TilesText, spans_kept}
use Rattle.ecma_replay.specs.declared.replayed.Replay.{Replay}
use Rattle.ecma_state.specs.Run.{session, start_of}
use Rattle.ecma_state.specs.Session.{has_ended, kept_back, kept_of}
use Rattle.ecma_state.specs.declared.kept.Kept.{Kept}
use Rattle.ecma_state.specs.declared.settings.Settings.{Settings}
use Rattle.ecma_state.specs.declared.step.Step.{Step}

spans-of : (ts : List SpannedView) → map (λ (k : Kept). k.span) (map kept_of ts) ≡ map (λ t. t.span) ts
spans-of [] = refl
spans-of (t ∷ ts) = ap (λ l. t.span ∷ l) (spans-of ts)

pub replays_tile : (settings : Settings) (input : Cursor) (steps : List Step) (r : Replay) → Replays (start_of settings input) steps r → TilesText settings input steps r
replays_tile settings input steps r replays =
    let s = session settings input steps in
    let kept : reverse r.kept.items ≡ map kept_of (kept_back s.past) = ap reverse replays.kept ∙ reverse-reverse (map kept_of (kept_back s.past)) in
    let spans : spans_kept r ≡ kept_spans s = ap (map (λ (k : Kept). k.span)) kept ∙ spans-of (kept_back s.past) in
    let tiled = tiles settings input steps in
    subst (λ ended. IsTiled input (spans_kept r) ended (place s.input) (pieces_read settings input steps)) (sym replays.ended)
    (subst (λ spans. IsTiled input spans (has_ended s.past) (place s.input) (pieces_read settings input steps)) (sym spans) tiled)
