use Rattle.std.proofs.Common.{◌≡◌, take}
use Rattle.xc_list.specs.Digests.{after_text}
use Rattle.xc_list.proofs.text_digest.TextDigest.after_each.Given as goal

-- the digest after those so far
abbrev pub invariant-loop-byte : goal.invariant-loop-byte
invariant-loop-byte l = l.digest ≡ after_text l.fn.self (take l.byte-index l.bytes)
