use Rattle.std.proofs.Common.{◌≡◌, map, string_bytes, encode_utf8_all, take}
use Rattle.std.specs.Str.{chars}
use Rattle.ecma_clean.specs.Canonical.{canonical_of, own_in}
use Rattle.ecma_clean.specs.Sharing.{begin}
use Rattle.ecma_joined.specs.Joined.{last_kind}
use Rattle.ecma_joined.proofs.joined.canonical_text.Given as goal

abbrev pub invariant-kept : goal.invariant-kept
invariant-kept l =
    (string_bytes l.text ≡ encode_utf8_all (canonical_of (map (own_in (begin l.fn.start.0 (chars l.fn.source))) (take l.token-index l.fn.kept))))
    × (l.before ≡ last_kind (map (own_in (begin l.fn.start.0 (chars l.fn.source))) (take l.token-index l.fn.kept)))
