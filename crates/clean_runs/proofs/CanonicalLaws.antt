-- The laws of canonical texts.
use Rattle.clean_runs.specs.Laws.{CanonicalIsAlike, CanonicalIsShared, KeptIsDetermined, PartsKeepLaws}
use Rattle.clean_runs.proofs.Alike.{run_alike}
use Rattle.clean_runs.proofs.PartsLaws.{part_laws}
use Rattle.clean_runs.proofs.Sharing.{same_kept, shared}

pub canonical_is_alike : CanonicalIsAlike
canonical_is_alike M S K G L m a w w2 here cs ks f i d = run_alike G L f i d

pub kept_is_determined : KeptIsDetermined
kept_is_determined M S K G m a w w2 here cs ks ks2 d d2 = same_kept G d d2

pub canonical_is_shared : CanonicalIsShared
canonical_is_shared M S K G L m a w w2 here here2 cs ks ks2 i j d d2 e = shared G L i j d d2 e

pub parts_keep_laws : PartsKeepLaws
parts_keep_laws M S K P L = part_laws P L
