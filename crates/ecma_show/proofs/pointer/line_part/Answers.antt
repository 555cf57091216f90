use Rattle.std.proofs.Common.{◌≡◌, ◌∙◌, ◌++◌, ◌∷◌, ◌==◌, [], true, append-nil, drop, drop-cons, drop_of_length-le, take, length, get_or, refl, sym, ap, arith, ◌+◌, ◌<◌, add-one, slice_index}
use Rattle.std.proofs.Math.Seq.{take-length}
use Rattle.ecma_show.specs.Shown as shows
use Rattle.ecma_show.proofs.LineLemmas.{line-run, plain-below}
use Rattle.ecma_show.proofs.pointer.line_part.Goals as goal

pub returns-in-Some : goal.returns-in-Some
returns-in-Some c =
    let bytes = c.args.bytes.now in
    let end = c.in-Some.end in
    let found = c.in-Some.ensures in
    let high : end < length bytes = found.0.high in
    let passes : (slice_index bytes end == 10) ≡ true = found.1 in
    let rest : drop end bytes ≡ get_or bytes end 0 ∷ drop (end + 1) bytes = rw (add-one, drop-cons bytes end 0) refl in
    let none : shows.line_part (drop end bytes) ≡ [] = rw (rest, passes) refl in
    sym (line-run bytes end (omega arith) (plain-below bytes end found.0.before) ∙ ap (λ l. take end bytes ++ l) none ∙ append-nil (take end bytes))

pub returns-in-None : goal.returns-in-None
returns-in-None c =
    let bytes = c.args.bytes.now in
    let all : drop (length bytes) bytes ≡ [] = drop_of_length-le bytes (omega arith) in
    let none : shows.line_part (drop (length bytes) bytes) ≡ [] = rw all refl in
    sym (line-run bytes (length bytes) (omega arith) (plain-below bytes (length bytes) c.in-None.ensures) ∙ ap (λ l. take (length bytes) bytes ++ l) none ∙ append-nil (take (length bytes) bytes) ∙ take-length bytes)
