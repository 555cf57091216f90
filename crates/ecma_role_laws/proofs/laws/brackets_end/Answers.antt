use Rattle.ecma_role_tracks.specs.Track.{track_of}
use Rattle.ecma_role_laws.proofs.Balance.{balanced_closed, balanced_kept, track_sound}
use Rattle.ecma_role_laws.proofs.laws.brackets_end.Goals as goal

pub returns-clause-end : goal.returns-clause-end
returns-clause-end c = λ typescript is_module before inside code balanced none. (balanced_kept (track_of typescript is_module before) inside (track_sound typescript is_module before) code balanced none).0

pub returns-clause-give_back : goal.returns-clause-give_back
returns-clause-give_back c = λ typescript is_module before inside last bracket outer code at balanced none closes. balanced_closed (track_of typescript is_module before) inside last bracket outer (track_sound typescript is_module before) code at balanced none closes
