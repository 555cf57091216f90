use Rattle.std.proofs.Common.{arith}
use Rattle.ecma_role_tracks.proofs.RankLemmas.{rank_small, read_low, read_out_by_rank}
use Rattle.ecma_role_tracks.proofs.laws.tokens_are_read_out.Goals as goal

pub returns-clause-falls : goal.returns-clause-falls
returns-clause-falls c = read_low

pub returns-clause-out : goal.returns-clause-out
returns-clause-out c = λ t kind had_line_break. read_out_by_rank 8 t kind had_line_break (omega (arith, rank_small t.state kind))
